-- A text is made, and a slot is its first user; or a slot joins one that is there.
use Rattle.std.proofs.Common.{◌≡◌, ◌≢◌, ◌↔◌, ℕ, suc, ◌+◌, ◌*◌, ◌<◌, ◌≤◌, ◌&&◌, ◌||◌, not, inl, inr, List, [], ◌∷◌, length, set, Bool, true, false, replicate, count_by, Option, Some, None, is_none, IsSome, refl, sym, ap, subst, ◌∙◌, arith}
use Rattle.std.proofs.lemmas.Bool.{cases_eq, both_ways, false_from_ne_true, eqb-true, eq-eqb, and_parts}
use Rattle.std.proofs.lemmas.List.{get_or-set_same, get_or-set_other}
use Rattle.std.proofs.lemmas.Option.{same_Some}
use Rattle.core_mem.specs.Bytes.{over}
use Rattle.map_fit.specs.declared.holes.Hole.{Hole}
use Rattle.map_fit.specs.Free.{is_free, is_within}
use Rattle.text_tab.specs.declared.row.TextRow.{TextRow}
use Rattle.text_tab.specs.Table.{text_at, new_text, joined, with_change, free_entry, row_of as text_row_of, row_at as text_row, IsUsed}
use Rattle.image_keep.specs.declared.row.State.{State}
use Rattle.image_keep.specs.declared.row.State.TheVariants as state
use Rattle.image_keep.specs.declared.row.Row.{Row}
use Rattle.image_keep.specs.Kept.{Kept, Nothing, keeping, text_of, shared, with_shared, with_text_of, changed}
use Rattle.image_keep.specs.Memory.{Stock, row_at, given_text, swap_at, no_spot, row_spot, out_spot, in_spot, Owner, RowOf, OutOf, InOf, spot, AreApart, text_for, keeping_by, shared_in, kept_of, IsSound}
use Rattle.image_keep.specs.Places.{blocks}
use Rattle.image_keep.specs.Places.{swap_fit}
use Rattle.image_keep.specs.Maps.{click, block, IsFreeSwap, AreMaps}
use Rattle.image_keep.specs.Counts.{IsCounted, is_text, is_in_core, has_text, has_loaded}
use Rattle.image_keep.specs.SharedTexts.{free_text, with_new_text, with_joined_text}
use Rattle.image_keep.proofs.Writes.{put_row, row_same, row_other, same_owner, turned, apart_none}
use Rattle.image_keep.proofs.Entries.{put_text, text_counted, text_low}
use Rattle.image_keep.proofs.Places.{slot_at, shared_at, swap_found, IsFound}
use Rattle.image_keep.proofs.SwapIn.{text_of_row}
use Rattle.image_keep.proofs.SharedTexts.{made_text, text_row_kept, text_row_sound, new_text_kept}
use Rattle.image_keep.proofs.Leaving.{entry_kept}
use Rattle.image_keep.proofs.Maps.{Tells, tells_block, tells_no, one_map}
use Rattle.image_keep.proofs.TextMaps.{maps_same}
use Rattle.image_keep.proofs.SwapOut.{still_spots}
use Rattle.image_keep.proofs.Counting.{one, count_set, counted, not_same, few_loaded}
use Rattle.image_keep.proofs.Ended.{Goes}
use Rattle.image_keep.proofs.TextSearch.{IsEntry, entry_free, free_is}

-- what a slot keeps, as its row has it
nothing_state : (line : List ℕ) (core : ℕ) (text : List ℕ) (st : State) (d k : ℕ) → keeping_by line core text st d k ≡ Nothing → st ≡ state.Nothing
unfolding keeping_by
nothing_state line core text state.Nothing d k e = refl
nothing_state line core text (state.Alive place) d k e = absurd (cc e)
nothing_state line core text (state.Grave b) d k e = absurd (cc e)

pub row_nothing : (v : Stock) (k : Kept) (s : ℕ) → kept_of v ≡ k → keeping k s ≡ Nothing → (row_at v.rows s).state ≡ state.Nothing
row_nothing v k s view e =
    let r : Row = row_at v.rows s in
    nothing_state v.line v.core (text_for v.line v.core v.texts r.text) r.state r.data_size r.stack_size (sym (slot_at v s) ∙ ap (λ j. keeping j s) view ∙ e)

pub row_text : (v : Stock) (k : Kept) (s : ℕ) (x : Option ℕ) → kept_of v ≡ k → text_of k s ≡ x → (row_at v.rows s).text ≡ x
row_text v k s x view e = sym (text_of_row v s) ∙ ap (λ j. text_of j s) view ∙ e

-- counts of what nobody has
pub none_counted : (p : Row → Bool) (rows : List Row) → ((u : ℕ) → p (row_at rows u) ≡ false) → count_by p rows ≡ 0
none_counted p [] h = refl
none_counted p (r ∷ rows) h = rw (h 0, none_counted p rows (λ u. h (suc u))) refl

pub text_is : (x : ℕ) (o : Option ℕ) → is_text x o ≡ true → o ≡ Some x
text_is x None e = absurd (both_ways false refl e)
text_is x (Some y) e = ap Some (eqb-true y x e)

pub no_load : (st : State) (b : Bool) → b ≡ false → (is_in_core st && b) ≡ false
no_load st b e = by (is_in_core st)
  where
    by : (c : Bool) → (c && b) ≡ false
    by true = e
    by false = refl

pub nothing_out : (st : State) (b : Bool) → st ≡ state.Nothing → (is_in_core st && b) ≡ false
nothing_out st b e = ap (λ x. is_in_core x && b) e

module _ (rows : List Row) (texts : List (Option TextRow)) (s t ino clicks b : ℕ) (l : s < length rows) (c : IsCounted rows texts) (e : IsEntry texts t) (is : (row_at rows s).state ≡ state.Nothing) (bare : (row_at rows s).text ≡ None) where
  abbrev new_row : Row
  new_row = given_text (row_at rows s) (Some t)

  abbrev new_entry : TextRow
  new_entry = new_text ino clicks b

  nobody : (x u : ℕ) → x ≡ t → has_text x (row_at rows u) ≡ false
  nobody x u here = false_from_ne_true (has_text x (row_at rows u)) (λ f. no_entry (text_at texts x) (ap (text_at texts) here ∙ e.free) (c.used u x (text_is x (row_at rows u).text f)))
    where
      no_entry : (o : Option TextRow) → o ≡ None → IsSome o → ⊥
      no_entry None d some = cc some
      no_entry (Some r) d some = cc d

  no_text_old : (x : ℕ) → has_text x (row_at rows s) ≡ false
  no_text_old x = ap (is_text x) bare

  entry_same : (row : TextRow) → text_at (set texts t (Some new_entry)) t ≡ Some row → row ≡ new_entry
  entry_same row f = same_Some row new_entry (sym f ∙ get_or-set_same texts t (Some new_entry) None e.low)

  some_is : IsSome (Some new_entry)
  some_is = refl

  made_used : (u x : ℕ) → (row_at (set rows s new_row) u).text ≡ Some x → IsUsed (set texts t (Some new_entry)) x
  made_used u x f = elim (cases_eq x t) [
    | inl here ↦ subst IsSome (sym (ap (text_at (set texts t (Some new_entry))) here ∙ get_or-set_same texts t (Some new_entry) None e.low)) some_is
    | inr ne ↦ subst IsSome (sym (get_or-set_other texts t x (Some new_entry) None ne)) (c.used u x (old ne))
  ]
    where
      old : x ≢ t → (row_at rows u).text ≡ Some x
      old ne = elim (cases_eq u s) [
        | inl here ↦ absurd (ne (same_Some x t (sym f ∙ ap (λ j. (row_at (set rows s new_row) j).text) here ∙ ap (λ (r : Row). r.text) (row_same rows s new_row l))))
        | inr other ↦ sym (ap (λ (r : Row). r.text) (row_other rows s u new_row other)) ∙ f
      ]

  made_users : (x : ℕ) (row : TextRow) → text_at (set texts t (Some new_entry)) x ≡ Some row → row.users ≡ count_by (has_text x) (set rows s new_row)
  made_users x row f =
      let n = count_set (has_text x) rows s new_row l in
      let a : one (has_text x (row_at rows s)) ≡ 0 = ap one (no_text_old x) in
      elim (cases_eq x t) [
        | inl here ↦
            (let z : count_by (has_text x) rows ≡ 0 = none_counted (has_text x) rows (λ u. nobody x u here) in
            let y : one (has_text x new_row) ≡ 1 = ap one (eq-eqb t x (sym here)) in
            let u : row.users ≡ 1 = ap (λ (r : TextRow). r.users) (entry_same row (ap (text_at (set texts t (Some new_entry))) (sym here) ∙ f)) in
            omega (arith, n, a, z, y, u))
        | inr ne ↦
            (let y : one (has_text x new_row) ≡ 0 = ap one (not_same t x ne) in
            let u = c.users x row (sym (get_or-set_other texts t x (Some new_entry) None ne) ∙ f) in
            omega (arith, n, a, y, u))
      ]

  made_loaded : (x : ℕ) (row : TextRow) → text_at (set texts t (Some new_entry)) x ≡ Some row → row.loaded ≡ count_by (has_loaded x) (set rows s new_row)
  made_loaded x row f =
      let n = count_set (has_loaded x) rows s new_row l in
      let a : one (has_loaded x (row_at rows s)) ≡ 0 = ap one (nothing_out (row_at rows s).state (is_text x (row_at rows s).text) is) in
      let y : one (has_loaded x new_row) ≡ 0 = ap one (nothing_out (row_at rows s).state (is_text x (Some t)) is) in
      elim (cases_eq x t) [
        | inl here ↦
            (let z : count_by (has_loaded x) rows ≡ 0 = none_counted (has_loaded x) rows (λ u. no_load (row_at rows u).state (is_text x (row_at rows u).text) (nobody x u here)) in
            let u : row.loaded ≡ 0 = ap (λ (r : TextRow). r.loaded) (entry_same row (ap (text_at (set texts t (Some new_entry))) (sym here) ∙ f)) in
            omega (arith, n, a, z, y, u))
        | inr ne ↦
            (let u = c.loaded x row (sym (get_or-set_other texts t x (Some new_entry) None ne) ∙ f) in
            omega (arith, n, a, y, u))
      ]

  pub made_counted : IsCounted (set rows s new_row) (set texts t (Some new_entry))
  made_counted = record { used = made_used; users = made_users; loaded = made_loaded }

takes : (a b : Bool) → (a && not b) ≡ ((a && not b) || false)
takes true true = refl
takes true false = refl
takes false b = refl

-- The blocks of a new text are taken.
pub made_maps : (v : Stock) (t ino clicks b : ℕ) (line : List ℕ) (core_map swap_map swap_new : List Hole) → IsSound v → AreMaps v core_map swap_map → IsEntry v.texts t → 4000 ≤ b
    → ((p : Owner) → AreApart (record { at = swap_at v.core b; size = 512 * blocks clicks }) (spot v p))
    → ((x : ℕ) → is_free swap_new x ≡ (is_free swap_map x && not (is_within b (blocks clicks) x))) → AreMaps (put_text v t (Some (new_text ino clicks b)) line) core_map swap_new
made_maps v t ino clicks b line core_map swap_map swap_new h maps e first free step = record {
  core = λ x. (
    (λ f. let g = (maps.core x).0 f in (g.0, g.1, λ p. core_after x g.0 g.1 p (g.2 p))),
    (λ f. (maps.core x).1 (f.0, f.1, λ p. core_before x p (f.2 p))),
  );
  swap = λ x. (there x, (λ f. (iff x f.0 f.1).1 f.2));
}
  where
    new : Option TextRow
    new = Some (new_text ino clicks b)

    old : spot v (OutOf t) ≡ no_spot
    old = ap (out_spot v.core) e.free

    now : spot (put_text v t (Some (new_text ino clicks b)) line) (OutOf t) ≡ record { at = swap_at v.core b; size = 512 * blocks clicks }
    now = ap (out_spot v.core) (get_or-set_same v.texts t (Some (new_text ino clicks b)) None e.low)

    inn : spot (put_text v t (Some (new_text ino clicks b)) line) (InOf t) ≡ spot v (InOf t)
    inn = ap in_spot (get_or-set_same v.texts t (Some (new_text ino clicks b)) None e.low) ∙ sym (ap in_spot e.free)

    same : (p : Owner) → p ≢ OutOf t → spot (put_text v t (Some (new_text ino clicks b)) line) p ≡ spot v p
    same (RowOf u) m = refl
    same (InOf u) m = elim (cases_eq u t) [
      | inl d ↦ ap (λ j. spot (put_text v t (Some (new_text ino clicks b)) line) (InOf j)) d ∙ inn ∙ ap (λ j. spot v (InOf j)) (sym d)
      | inr ne ↦ ap in_spot (get_or-set_other v.texts t u (Some (new_text ino clicks b)) None ne)
    ]
    same (OutOf u) m = ap (out_spot v.core) (get_or-set_other v.texts t u (Some (new_text ino clicks b)) None (λ d. m (ap OutOf d)))

    iff : (x : ℕ) → 4000 ≤ x → x ≤ 4871 → (is_free swap_new x ≡ true) ↔ ((p : Owner) → AreApart (block v.core x) (spot (put_text v t (Some (new_text ino clicks b)) line) p))
    iff x low high = one_map (spot v) (spot (put_text v t (Some (new_text ino clicks b)) line)) (OutOf t) same (λ p ne. h.apart (OutOf t) p (λ d. ne (sym d)))
        (subst (λ y. AreApart y (spot (put_text v t (Some (new_text ino clicks b)) line) (OutOf t))) (sym old) (apart_none (spot (put_text v t (Some (new_text ino clicks b)) line) (OutOf t))))
        (block v.core x) (is_free swap_map x) (is_free swap_new x) (is_within b (blocks clicks) x) false
        ((λ d. ((maps.swap x).0 d).2), (λ d. (maps.swap x).1 (low, high, d)))
        (subst (Tells (block v.core x) (is_within b (blocks clicks) x)) (sym now) (tells_block v.core b (blocks clicks) x first low))
        (subst (Tells (block v.core x) false) (sym old) (tells_no (block v.core x) no_spot (turned no_spot (block v.core x) (apart_none (block v.core x)))))
        (λ d p f. absurd (both_ways false refl d))
        (step x ∙ takes (is_free swap_map x) (is_within b (blocks clicks) x))

    there : (x : ℕ) → is_free swap_new x ≡ true → IsFreeSwap (put_text v t (Some (new_text ino clicks b)) line) x
    there x d =
        let m = (maps.swap x).0 (and_parts (is_free swap_map x) (not (is_within b (blocks clicks) x)) (sym (step x) ∙ d)).0 in
        (m.0, m.1, (iff x m.0 m.1).0 d)

    core_after : (x : ℕ) → 1 ≤ x → x ≤ v.core → (p : Owner) → AreApart (click x) (spot v p) → AreApart (click x) (spot (put_text v t (Some (new_text ino clicks b)) line) p)
    core_after x low high p f = elim (same_owner p (OutOf t)) [
      | inl d ↦ subst (λ o. AreApart (click x) (spot (put_text v t (Some (new_text ino clicks b)) line) o)) (sym d) (subst (AreApart (click x)) (sym now) (inl (omega (arith, high, low))))
      | inr ne ↦ subst (AreApart (click x)) (sym (same p ne)) f
    ]

    core_before : (x : ℕ) (p : Owner) → AreApart (click x) (spot (put_text v t (Some (new_text ino clicks b)) line) p) → AreApart (click x) (spot v p)
    core_before x p f = elim (same_owner p (OutOf t)) [
      | inl d ↦ subst (λ o. AreApart (click x) (spot v o)) (sym d) (subst (AreApart (click x)) (sym old) (turned no_spot (click x) (apart_none (click x))))
      | inr ne ↦ subst (AreApart (click x)) (same p ne) f
    ]

-- A row with another text has the ranges that it had.
pub text_row_spots : (v : Stock) (s : ℕ) (x : Option ℕ) (line : List ℕ) → s < length v.rows → (p : Owner) → spot (put_row v s (given_text (row_at v.rows s) x) line) p ≡ spot v p
text_row_spots v s x line l (RowOf u) = elim (cases_eq u s) [
  | inl e ↦ ap (λ j. row_spot v.core (row_at (set v.rows s (given_text (row_at v.rows s) x)) j)) e ∙ ap (row_spot v.core) (row_same v.rows s (given_text (row_at v.rows s) x) l) ∙ ap (λ j. row_spot v.core (row_at v.rows j)) (sym e)
  | inr ne ↦ ap (row_spot v.core) (row_other v.rows s u (given_text (row_at v.rows s) x) ne)
]
text_row_spots v s x line l (OutOf t) = refl
text_row_spots v s x line l (InOf t) = refl

pub text_made : (v : Stock) (k : Kept) (s t ino clicks b at : ℕ) (core_map swap_map swap_new : List Hole) (line : List ℕ) (texts : List (Option TextRow)) (rows : List Row)
    → kept_of v ≡ k → IsSound v → AreMaps v core_map swap_map → IsCounted v.rows v.texts → s < 50 → keeping k s ≡ Nothing → text_of k s ≡ None → 0 < clicks
    → free_entry v.texts ≡ Some t → swap_fit k (blocks clicks) ≡ Some b → 64 * at ≡ swap_at v.core b
    → ((x : ℕ) → is_free swap_new x ≡ (is_free swap_map x && not (is_within b (blocks clicks) x)))
    → line ≡ over v.line (64 * at) (replicate (64 * clicks) 0) → texts ≡ set v.texts t (Some (new_text ino clicks b)) → rows ≡ set v.rows s (given_text (row_at v.rows s) (Some t))
    → Goes v (record { line = line; core = v.core; rows = rows; texts = texts }) core_map swap_new (with_new_text k s t ino clicks b)
text_made v k s t ino clicks b at core_map swap_map swap_new line texts rows view h maps c slot nothing bare some entry fit place step line_is texts_is rows_is =
    let slots = h.slots in
    let l : s < length v.rows = omega (arith, slots, slot) in
    let is : (row_at v.rows s).state ≡ state.Nothing = row_nothing v k s view nothing in
    let none : (row_at v.rows s).text ≡ None = row_text v k s None view bare in
    let e : IsEntry v.texts t = entry_free v.texts t entry in
    let found : IsFound v (swap_at v.core b) (512 * blocks clicks) 4000 4871 b (blocks clicks) = swap_found v b (blocks clicks) h (ap (λ j. swap_fit j (blocks clicks)) view ∙ fit) in
    let new : List ℕ = over v.line (swap_at v.core b) (replicate (64 * clicks) 0) in
    let made = made_text v t ino clicks b h c e.low e.free some found in
    let w : Stock = put_text v t (Some (new_text ino clicks b)) new in
    let now : Stock = put_row w s (given_text (row_at v.rows s) (Some t)) new in
    let line2 : line ≡ new = line_is ∙ ap (λ i. over v.line i (replicate (64 * clicks) 0)) place in
    let same : (let x : Stock = record { line = line; core = v.core; rows = rows; texts = texts } in x) ≡ now = cc in
    let good : Goes v now core_map swap_new (with_new_text k s t ino clicks b) = record {
      sound = text_row_sound w s (Some t) made.0 l;
      maps = maps_same w now core_map swap_new refl (text_row_spots w s (Some t) new l) (made_maps v t ino clicks b new core_map swap_map swap_new h maps e found.low found.free step);
      counted = made_counted v.rows v.texts s t ino clicks b l c e is none;
      kept = new_text_kept v s t ino clicks b h c e.low e.free some is found ∙ ap (λ j. with_new_text j s t ino clicks b) view;
    } in
    subst (λ x. Goes v x core_map swap_new (with_new_text k s t ino clicks b)) (sym same) good

-- A text has one user more.
some_row : (o : Option TextRow) → IsSome o → o ≡ Some (text_row_of o)
some_row None e = absurd (cc e)
some_row (Some r) e = refl

joined_counted : (rows : List Row) (texts : List (Option TextRow)) (s t : ℕ) (row : TextRow) → s < length rows → IsCounted rows texts → text_at texts t ≡ Some row → (row_at rows s).state ≡ state.Nothing → (row_at rows s).text ≡ None
    → IsCounted (set rows s (given_text (row_at rows s) (Some t))) (set texts t (Some (joined row)))
joined_counted rows texts s t row l c here is bare = counted rows texts (set texts t (Some (joined row))) s (given_text (row_at rows s) (Some t)) l c (record {
  used = λ x f. subst (λ j. IsUsed (set texts t (Some (joined row))) j) (same_Some t x f) (subst IsSome (sym now) some_is);
  stays = λ u x ne f g. elim (cases_eq x t) [
    | inl d ↦ subst (λ j. IsUsed (set texts t (Some (joined row))) j) (sym d) (subst IsSome (sym now) some_is)
    | inr other ↦ subst IsSome (sym (get_or-set_other texts t x (Some (joined row)) None other)) g
  ];
  was = λ x new f. was x new f;
})
  where
    low : t < length texts
    low = text_low texts t row here

    some_is : IsSome (Some (joined row))
    some_is = refl

    now : text_at (set texts t (Some (joined row))) t ≡ Some (joined row)
    now = get_or-set_same texts t (Some (joined row)) None low

    was : (x : ℕ) (new : TextRow) → text_at (set texts t (Some (joined row))) x ≡ Some new → (old : TextRow) × (text_at texts x ≡ Some old)
        × (new.users + one (has_text x (row_at rows s)) ≡ old.users + one (has_text x (given_text (row_at rows s) (Some t))))
        × (new.loaded + one (has_loaded x (row_at rows s)) ≡ old.loaded + one (has_loaded x (given_text (row_at rows s) (Some t))))
    was x new f =
        let a : one (has_text x (row_at rows s)) ≡ 0 = ap (λ o. one (is_text x o)) bare in
        let b : one (has_loaded x (row_at rows s)) ≡ 0 = ap one (nothing_out (row_at rows s).state (is_text x (row_at rows s).text) is) in
        let d : one (has_loaded x (given_text (row_at rows s) (Some t))) ≡ 0 = ap one (nothing_out (row_at rows s).state (is_text x (Some t)) is) in
        elim (cases_eq x t) [
          | inl e ↦
              (let same : new ≡ joined row = same_Some new (joined row) (sym f ∙ ap (text_at (set texts t (Some (joined row)))) e ∙ now) in
              let u : new.users ≡ row.users + 1 = ap (λ (r : TextRow). r.users) same in
              let z : new.loaded ≡ row.loaded = ap (λ (r : TextRow). r.loaded) same in
              let y : one (has_text x (given_text (row_at rows s) (Some t))) ≡ 1 = ap one (eq-eqb t x (sym e)) in
              (row, ap (text_at texts) e ∙ here, omega (arith, a, u, y), omega (arith, b, d, z)))
          | inr ne ↦
              (let y : one (has_text x (given_text (row_at rows s) (Some t))) ≡ 0 = ap one (not_same t x ne) in
              (new, sym (get_or-set_other texts t x (Some (joined row)) None ne) ∙ f, omega (arith, a, y), omega (arith, b, d)))
        ]

pub text_joined : (v : Stock) (k : Kept) (s t : ℕ) (core_map swap_map : List Hole) (texts : List (Option TextRow)) (rows : List Row)
    → kept_of v ≡ k → IsSound v → AreMaps v core_map swap_map → IsCounted v.rows v.texts → s < 50 → keeping k s ≡ Nothing → text_of k s ≡ None → IsUsed v.texts t
    → texts ≡ with_change v.texts t joined → rows ≡ set v.rows s (given_text (row_at v.rows s) (Some t))
    → Goes v (record v { rows = rows; texts = texts }) core_map swap_map (with_joined_text k s t)
unfolding with_joined_text
text_joined v k s t core_map swap_map texts rows view h maps c slot nothing bare used texts_is rows_is =
    let slots = h.slots in
    let l : s < length v.rows = omega (arith, slots, slot) in
    let is : (row_at v.rows s).state ≡ state.Nothing = row_nothing v k s view nothing in
    let none : (row_at v.rows s).text ≡ None = row_text v k s None view bare in
    let row : TextRow = text_row_of (text_at v.texts t) in
    let here : text_at v.texts t ≡ Some row = some_row (text_at v.texts t) used in
    let w : Stock = put_text v t (Some (joined row)) v.line in
    let now : Stock = put_row w s (given_text (row_at v.rows s) (Some t)) v.line in
    let same : (let x : Stock = record v { rows = rows; texts = texts } in x) ≡ now = cc in
    let entry : kept_of w ≡ with_shared (kept_of v) t (changed joined (shared (kept_of v) t)) =
    entry_kept v t row (joined row) here refl refl ∙ sym (ap (λ o. with_shared (kept_of v) t (changed joined o)) (shared_at v t ∙ ap (shared_in v.line v.core) here)) in
    let good : Goes v now core_map swap_map (with_joined_text k s t) = record {
      sound = text_row_sound w s (Some t) (text_counted v t row (joined row) h here refl refl refl refl) l;
      maps = maps_same w now core_map swap_map refl (text_row_spots w s (Some t) v.line l) (maps_same v w core_map swap_map refl (still_spots v t row (joined row) here refl refl refl refl) maps);
      counted = joined_counted v.rows v.texts s t row l c here is none;
      kept = text_row_kept w s (Some t) is ∙ ap (λ j. with_text_of j s (Some t)) entry ∙ ap (λ j. with_text_of (with_shared j t (changed joined (shared j t))) s (Some t)) view;
    } in
    subst (λ x. Goes v x core_map swap_map (with_joined_text k s t)) (sym same) good

-- what the call for a new text knows of the table
pub no_entry : (v : Stock) (k : Kept) (full : Bool) → kept_of v ≡ k → full ≡ is_none (free_entry v.texts) → full ≡ true → None ≡ free_text k
no_entry v k full view e f = by (free_text k) (ap is_none (sym (free_is v k view)) ∙ sym e ∙ f)
  where
    by : (o : Option ℕ) → is_none o ≡ true → None ≡ o
    by None d = refl
    by (Some t) d = absurd (both_ways false refl d)

pub an_entry : (v : Stock) (k : Kept) (full : Bool) → kept_of v ≡ k → full ≡ is_none (free_entry v.texts) → full ≡ false → (t : ℕ) × (Some t ≡ free_text k)
an_entry v k full view e f = by (free_text k) (ap is_none (sym (free_is v k view)) ∙ sym e ∙ f)
  where
    by : (o : Option ℕ) → is_none o ≡ false → (t : ℕ) × (Some t ≡ o)
    by None d = absurd (both_ways true d refl)
    by (Some t) d = (t, refl)

-- who makes a text is its only user
pub nobody_has : (v : Stock) (k : Kept) (t : ℕ) → kept_of v ≡ k → IsCounted v.rows v.texts → free_entry v.texts ≡ Some t → (u : ℕ) → text_of k u ≢ Some t
nobody_has v k t view c e u has = no_text (text_at v.texts t) (entry_free v.texts t e).free (c.used u t (row_text v k u (Some t) view has))
  where
    no_text : (o : Option TextRow) → o ≡ None → IsSome o → ⊥
    no_text None d some = cc some
    no_text (Some r) d some = cc d

pub few_users : (v : Stock) (t : ℕ) → IsSound v → IsCounted v.rows v.texts → IsUsed v.texts t → (text_row v.texts t).users < 65535
few_users v t h c used = let f = (few_loaded v.rows v.texts t (text_row v.texts t) c h.slots (some_row (text_at v.texts t) used)).0 in omega (arith, f)
