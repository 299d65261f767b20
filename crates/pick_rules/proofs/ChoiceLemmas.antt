-- The round of the slots and the choice: as far as the loop has come, and what the choice is in words.
use Rattle.std.proofs.Common.{◌≡◌, ◌∙◌, ◌⊎◌, inl, inr, ℕ, zero, suc, nat_lt, ◌+◌, ◌%◌, ◌<◌, ◌≤◌, ℤ, ◌<ℤ◌, ◌≤ℤ◌, int_lt, ◌==◌, ◌&&◌, ◌||◌, slice_index_or, Bool, true, false, cond, if◌then◌else◌, List, [], ◌∷◌, ◌++◌, map, filter, Option, Some, None, MatchOption, refl, sym, ap, subst, arith}
use Rattle.std.specs.List.{range_with_len}
use Rattle.std.proofs.lemmas.Bool.{ltb-true, ltb-false}
use Rattle.std.proofs.lemmas.Int.{ints}
use Rattle.std.proofs.lemmas.List.{append-nil}
use Rattle.std.proofs.lemmas.List.FromFn.{filter_of_map_range_with_len_more}
use Rattle.pick_rules.specs.Search.{first_of_two, least}
use Rattle.pick_rules.specs.declared.table.Table.{Table}
use Rattle.pick_rules.specs.declared.row.TableRow.{TableRow}
use Rattle.pick_rules.specs.Table.{empty_row, row_at, is_ready, is_in_core}
use Rattle.pick_rules.specs.Choice.{can_run, chosen, distance, GoesFirst, IsChoice}

-- one goes before another by a number of each
abbrev pub by_number : (ℕ → ℤ) → ℕ → ℕ → Bool
by_number f s r = int_lt (f s) (f r)

-- the best so far and one more
abbrev pub and_one : (ℕ → ℤ) → Option ℕ → ℕ → Option ℕ
and_one f None z = Some z
and_one f (Some y) z = if int_lt (f z) (f y) then Some z else Some y

less : (a b : ℤ) → int_lt a b ≡ true → a <ℤ b
less a b e = grind (arith, ints)

not_less : (a b : ℤ) → int_lt a b ≡ false → b ≤ℤ a
not_less a b e = grind (arith, ints)

both_less : (a b c : ℤ) → int_lt a b ≡ true → int_lt b c ≡ true → int_lt a c ≡ true
both_less a b c e f = grind (arith, ints)

none_less : (a b c : ℤ) → int_lt a b ≡ false → int_lt b c ≡ false → int_lt a c ≡ false
none_less a b c e f = grind (arith, ints)

module _ (f : ℕ → ℤ) where
  one_later : (x z : ℕ) (o : Option ℕ) → first_of_two (by_number f) x (and_one f o z) ≡ and_one f (first_of_two (by_number f) x o) z
  one_later x z None = refl
  one_later x z (Some y) = by (int_lt (f z) (f y)) (int_lt (f y) (f x)) refl refl
    where
      by : (u v : Bool) → int_lt (f z) (f y) ≡ u → int_lt (f y) (f x) ≡ v
          → first_of_two (by_number f) x (cond u (Some z) (Some y)) ≡ and_one f (cond v (Some y) (Some x)) z
      by true true d e = rw (both_less (f z) (f y) (f x) d e, d) refl
      by true false d e = refl
      by false true d e = rw (d, e) refl
      by false false d e = rw (none_less (f z) (f y) (f x) d e, e) refl

  pub least_more : (xs : List ℕ) (z : ℕ) → least (by_number f) (xs ++ z ∷ []) ≡ and_one f (least (by_number f) xs) z
  unfolding least
  least_more [] z = refl
  least_more (x ∷ xs) z = ap (first_of_two (by_number f) x) (least_more xs z) ∙ one_later x z (least (by_number f) xs)

-- the slot at a distance from the one after the last
abbrev pub slot_after : ℕ → ℕ → ℕ
slot_after last k = (last + 1 + k) % 50

abbrev pub pri_at : Table → ℕ → ℤ
pri_at t s = (row_at t s).pri

-- the choice among the slots below a distance
abbrev pub so_far : Table → ℕ → Option ℕ
so_far t k = least (by_number (pri_at t)) (filter (can_run t) (map (slot_after t.last) (range_with_len 0 k)))

pub one_further : (t : Table) (k : ℕ)
    → so_far t (k + 1) ≡ (if can_run t (slot_after t.last k) then and_one (pri_at t) (so_far t k) (slot_after t.last k) else so_far t k)
one_further t k =
    let e : 0 + k ≡ k = omega arith in
    ap (least (by_number (pri_at t))) (filter_of_map_range_with_len_more (can_run t) (slot_after t.last) 0 k k e) ∙ by (can_run t (slot_after t.last k))
  where
    before : List ℕ
    before = filter (can_run t) (map (slot_after t.last) (range_with_len 0 k))

    by : (b : Bool) → least (by_number (pri_at t)) (before ++ cond b (slot_after t.last k ∷ []) [])
        ≡ cond b (and_one (pri_at t) (so_far t k) (slot_after t.last k)) (so_far t k)
    by true = least_more (pri_at t) before (slot_after t.last k)
    by false = ap (least (by_number (pri_at t))) (append-nil before)

pub all_round : (t : Table) → so_far t 50 ≡ chosen t
unfolding chosen
all_round t = refl

-- A turn of the loop, by the rows and the last slot alone.
abbrev pub can_in : List TableRow → ℕ → Bool
can_in rows s = is_ready (slice_index_or rows s empty_row).stat && ((s == 0) || is_in_core (slice_index_or rows s empty_row).place)

abbrev pub Better : List TableRow → Option ℕ → ℕ → Option ℕ → Type 0
Better rows best s o = MatchOption best (o ≡ Some s) (λ b. o ≡ (
    if int_lt (slice_index_or rows s empty_row).pri (slice_index_or rows b empty_row).pri then Some s else Some b))

is_further : (t : Table) (k : ℕ) (best o : Option ℕ) → best ≡ so_far t k → can_in t.rows (slot_after t.last k) ≡ true → Better t.rows best (slot_after t.last k) o → o ≡ so_far t (k + 1)
is_further t k best o e r h = added best h ∙ ap (λ b. and_one (pri_at t) b (slot_after t.last k)) e ∙ sym (one_further t k ∙ taken)
  where
    added : (b : Option ℕ) → Better t.rows b (slot_after t.last k) o → o ≡ and_one (pri_at t) b (slot_after t.last k)
    added None h = h
    added (Some b) h = h

    taken : (if can_run t (slot_after t.last k) then and_one (pri_at t) (so_far t k) (slot_after t.last k) else so_far t k) ≡ and_one (pri_at t) (so_far t k) (slot_after t.last k)
    taken = rw r refl

is_passed : (t : Table) (k : ℕ) (best : Option ℕ) → best ≡ so_far t k → can_in t.rows (slot_after t.last k) ≡ false → best ≡ so_far t (k + 1)
is_passed t k best e r = e ∙ sym (one_further t k ∙ passed_over)
  where
    passed_over : (if can_run t (slot_after t.last k) then and_one (pri_at t) (so_far t k) (slot_after t.last k) else so_far t k) ≡ so_far t k
    passed_over = rw r refl

-- the choice among the slots below a distance, for whoever has the rows and the last slot
abbrev pub IsSoFar : List TableRow → ℕ → ℕ → Option ℕ → Type 0
IsSoFar rows last k best = (t : Table) → t.rows ≡ rows → t.last ≡ last → best ≡ so_far t k

pub further : (rows : List TableRow) (last s k m : ℕ) (best o : Option ℕ)
    → slot_after last k ≡ s → m ≡ k + 1 → IsSoFar rows last k best
    → can_in rows s ≡ true → Better rows best s o → IsSoFar rows last m o
further rows last s k m best o g n h r b = λ t e f.
    let w : slot_after t.last k ≡ s = ap (λ l. slot_after l k) f ∙ g in
    is_further t k best o (h t e f)
    (subst (λ z. can_in t.rows z ≡ true) (sym w) (subst (λ rs. can_in rs s ≡ true) (sym e) r))
    (subst (λ z. Better t.rows best z o) (sym w) (subst (λ rs. Better rs best s o) (sym e) b))
    ∙ ap (so_far t) (sym n)

pub passed : (rows : List TableRow) (last s k m : ℕ) (best : Option ℕ)
    → slot_after last k ≡ s → m ≡ k + 1 → IsSoFar rows last k best
    → can_in rows s ≡ false → IsSoFar rows last m best
passed rows last s k m best g n h r = λ t e f.
    let w : slot_after t.last k ≡ s = ap (λ l. slot_after l k) f ∙ g in
    is_passed t k best (h t e f)
    (subst (λ z. can_in t.rows z ≡ false) (sym w) (subst (λ rs. can_in rs s ≡ false) (sym e) r))
    ∙ ap (so_far t) (sym n)

-- between slot and distance
there : (last k : ℕ) → last < 50 → k < 50 → distance last (slot_after last k) ≡ k
there last k l h = omega arith

pub back : (last s : ℕ) → last < 50 → s < 50 → slot_after last (distance last s) ≡ s
back last s l h = omega arith

-- The choice among those at the distances from a to a + n.
pub record IsFirst (f : ℕ → ℤ) (can : ℕ → Bool) (g : ℕ → ℕ) (a n s : ℕ) : Type 0 where
  pub at : ℕ
  pub most : a ≤ at
  pub low : at < a + n
  pub is : s ≡ g at
  pub runs : can s ≡ true
  pub first : (j : ℕ) → a ≤ j → j < a + n → can (g j) ≡ true → (f s <ℤ f (g j)) ⊎ ((f s ≡ f (g j)) × (at ≤ j))

abbrev pub IsFound : (ℕ → ℤ) → (ℕ → Bool) → (ℕ → ℕ) → ℕ → ℕ → Option ℕ → Type 0
IsFound f can g a n o = MatchOption o ((j : ℕ) → a ≤ j → j < a + n → can (g j) ≡ false) (λ s. IsFirst f can g a n s)

module _ (f : ℕ → ℤ) (can : ℕ → Bool) (g : ℕ → ℕ) where
  -- nobody before it, and the first one can run
  found_here : (a n : ℕ) (o : Option ℕ) → can (g a) ≡ true → IsFound f can g (a + 1) n o → IsFound f can g a (suc n) (first_of_two (by_number f) (g a) o)
  found_here a n None e none = record {
    at = a;
    most = omega arith;
    low = omega arith;
    is = refl;
    runs = e;
    first = λ j l h r. by j l h r (nat_lt a j) refl;
  }
    where
      by : (j : ℕ) → a ≤ j → j < a + suc n → can (g j) ≡ true → (b : Bool) → nat_lt a j ≡ b → (f (g a) <ℤ f (g j)) ⊎ ((f (g a) ≡ f (g j)) × (a ≤ j))
      by j l h r true t = absurd (let m : a < j = ltb-true _ _ t in let z : can (g j) ≡ false = none j (omega arith) (omega arith) in cc (z, r))
      by j l h r false t = inr (let m : j ≤ a = ltb-false _ _ t in let same : a ≡ j = omega arith in (ap (λ k. f (g k)) same, l))
  found_here a n (Some y) e one = of_test (int_lt (f y) (f (g a))) refl
    where
      before : (j : ℕ) → int_lt (f y) (f (g a)) ≡ true → a ≤ j → j < a + suc n → can (g j) ≡ true → (b : Bool) → nat_lt a j ≡ b → (f y <ℤ f (g j)) ⊎ ((f y ≡ f (g j)) × (one.at ≤ j))
      before j u l h r true t = let m : a < j = ltb-true _ _ t in one.first j (omega arith) (omega arith) r
      before j u l h r false t = inl (let m : j ≤ a = ltb-false _ _ t in let same : a ≡ j = omega arith in subst (λ k. f y <ℤ f (g k)) same (less _ _ u))

      later : (j : ℕ) → f (g a) ≤ℤ f y → a ≤ j → (f y <ℤ f (g j)) ⊎ ((f y ≡ f (g j)) × (one.at ≤ j)) → (f (g a) <ℤ f (g j)) ⊎ ((f (g a) ≡ f (g j)) × (a ≤ j))
      later j u l (inl m) = inl (omega (arith, ints))
      later j u l (inr m) = or_equal (int_lt (f (g a)) (f (g j))) refl
        where
          or_equal : (b : Bool) → int_lt (f (g a)) (f (g j)) ≡ b → (f (g a) <ℤ f (g j)) ⊎ ((f (g a) ≡ f (g j)) × (a ≤ j))
          or_equal true t = inl (less (f (g a)) (f (g j)) t)
          or_equal false t = inr (let v : f (g j) ≤ℤ f (g a) = not_less (f (g a)) (f (g j)) t in let w : f y ≡ f (g j) = m.0 in (omega (arith, ints), l))

      after : (j : ℕ) → int_lt (f y) (f (g a)) ≡ false → a ≤ j → j < a + suc n → can (g j) ≡ true → (b : Bool) → nat_lt a j ≡ b → (f (g a) <ℤ f (g j)) ⊎ ((f (g a) ≡ f (g j)) × (a ≤ j))
      after j u l h r true t = let m : a < j = ltb-true _ _ t in later j (not_less _ _ u) l (one.first j (omega arith) (omega arith) r)
      after j u l h r false t = inr (let m : j ≤ a = ltb-false _ _ t in let same : a ≡ j = omega arith in (ap (λ k. f (g k)) same, l))

      of_test : (b : Bool) → int_lt (f y) (f (g a)) ≡ b → IsFound f can g a (suc n) (cond b (Some y) (Some (g a)))
      of_test true u = record {
        at = one.at;
        most = let m = one.most in omega arith;
        low = let m = one.low in omega arith;
        is = one.is;
        runs = one.runs;
        first = λ j l h r. before j u l h r (nat_lt a j) refl;
      }
      of_test false u = record {
        at = a;
        most = omega arith;
        low = omega arith;
        is = refl;
        runs = e;
        first = λ j l h r. after j u l h r (nat_lt a j) refl;
      }

  found_later : (a n : ℕ) (o : Option ℕ) → can (g a) ≡ false → IsFound f can g (a + 1) n o → IsFound f can g a (suc n) o
  found_later a n None e none = λ j l h. by j l h (nat_lt a j) refl
    where
      by : (j : ℕ) → a ≤ j → j < a + suc n → (b : Bool) → nat_lt a j ≡ b → can (g j) ≡ false
      by j l h true t = let m : a < j = ltb-true _ _ t in none j (omega arith) (omega arith)
      by j l h false t = let m : j ≤ a = ltb-false _ _ t in let same : a ≡ j = omega arith in ap (λ k. can (g k)) (sym same) ∙ e
  found_later a n (Some y) e one = record {
    at = one.at;
    most = let m = one.most in omega arith;
    low = let m = one.low in omega arith;
    is = one.is;
    runs = one.runs;
    first = λ j l h r. by j l h r (nat_lt a j) refl;
  }
    where
      by : (j : ℕ) → a ≤ j → j < a + suc n → can (g j) ≡ true → (b : Bool) → nat_lt a j ≡ b → (f y <ℤ f (g j)) ⊎ ((f y ≡ f (g j)) × (one.at ≤ j))
      by j l h r true t = let m : a < j = ltb-true _ _ t in one.first j (omega arith) (omega arith) r
      by j l h r false t = absurd (let m : j ≤ a = ltb-false _ _ t in let same : a ≡ j = omega arith in let w : can (g a) ≡ can (g j) = ap (λ k. can (g k)) same in cc (w, e, r))

  found : (n a : ℕ) → IsFound f can g a n (least (by_number f) (filter can (map g (range_with_len a n))))
  unfolding least
  found zero a = λ j l h. absurd (omega arith)
  found (suc n) a = by (can (g a)) refl (found n (a + 1))
    where
      rest : List ℕ
      rest = filter can (map g (range_with_len (a + 1) n))

      by : (b : Bool) → can (g a) ≡ b → IsFound f can g (a + 1) n (least (by_number f) rest) → IsFound f can g a (suc n) (least (by_number f) (cond b (g a ∷ rest) rest))
      by true e h = found_here a n (least (by_number f) rest) e h
      by false e h = found_later a n (least (by_number f) rest) e h

pub is_choice : (t : Table) → t.last < 50 → IsChoice t (so_far t 50)
is_choice t h = by (so_far t 50) (found (pri_at t) (can_run t) (slot_after t.last) 50 0)
  where
    at_slot : (r : ℕ) → r < 50 → slot_after t.last (distance t.last r) ≡ r
    at_slot r low = back t.last r h low

    near : (r : ℕ) → r < 50 → distance t.last r < 50
    near r low = omega arith

    goes : (s r at : ℕ) → s ≡ slot_after t.last at → at < 50 → r < 50
        → (pri_at t s <ℤ pri_at t (slot_after t.last (distance t.last r))) ⊎ ((pri_at t s ≡ pri_at t (slot_after t.last (distance t.last r))) × (at ≤ distance t.last r)) → GoesFirst t s r
    goes s r at is low small (inl m) = inl (subst (λ k. pri_at t s <ℤ pri_at t k) (at_slot r small) m)
    goes s r at is low small (inr m) = inr (
      m.0 ∙ ap (pri_at t) (at_slot r small),
      (let e : distance t.last s ≡ at = ap (distance t.last) is ∙ there t.last at h low in let w : at ≤ distance t.last r = m.1 in rw e w),
    )

    by : (o : Option ℕ) → IsFound (pri_at t) (can_run t) (slot_after t.last) 0 50 o → IsChoice t o
    by None none = λ r low. ap (can_run t) (sym (at_slot r low)) ∙ none (distance t.last r) (omega arith) (near r low)
    by (Some s) one = record {
      slot = let e = one.is in omega (arith, e);
      runs = one.runs;
      least = λ r low runs. goes s r one.at one.is (let l = one.low in omega arith) low
          (one.first (distance t.last r) (omega arith) (near r low) (ap (can_run t) (at_slot r low) ∙ runs));
    }
