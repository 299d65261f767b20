-- An image comes into core, with its text before it where that isn't there.
use Rattle.std.proofs.Common.{◌≡◌, ◌≢◌, ◌↔◌, ℕ, ◌+◌, ◌-◌, ◌*◌, ◌<◌, ◌≤◌, ◌⊎◌, ◌&&◌, ◌||◌, not, inl, inr, List, length, true, false, Option, Some, None, IsSome, refl, sym, ap, subst, ◌∙◌, arith}
use Rattle.std.proofs.lemmas.Bool.{cases_lt, cases_eq, and_parts, and_from, or_cases, or_left, or_right, both_ways, not-true, not_from_false, eq-eqb}
use Rattle.std.proofs.lemmas.List.{get_or-set_same, get_or-set_other, get_or_past}
use Rattle.std.proofs.lemmas.Option.{same_Some, none-some}
use Rattle.v6_base.specs.declared.entry.Place.{Place}
use Rattle.v6_base.specs.declared.entry.Place.TheVariants.{Core, Swap}
use Rattle.core_mem.specs.Bytes.{part}
use Rattle.text_tab.specs.declared.row.TextRow.{TextRow}
use Rattle.text_tab.specs.Table.{text_at, loaded_at, with_change, row_of as text_row, IsUsed}
use Rattle.map_fit.specs.declared.holes.Hole.{Hole}
use Rattle.map_fit.specs.Free.{is_free, is_within}
use Rattle.map_fit.proofs.Units.{in_true, in_below, in_above, in_low, in_high, Lies, Below, In, Above, lies}
use Rattle.image_keep.specs.declared.row.State.TheVariants as state
use Rattle.image_keep.specs.declared.row.Row.{Row}
use Rattle.image_keep.specs.Kept.{Kept, with_keeping, keeping, text_of, at_place, area_of, area_in, clicks_of}
use Rattle.image_keep.specs.Memory.{Stock, no_row, row_at, at_row, swap_at, place_at, place_size, clicks_in, Spot, spot_by, row_spot, Owner, RowOf, OutOf, InOf, spot, AreApart, text_for, keeping_by, keeping_in, shared_in, kept_of, IsIn, IsAlive, HoldsBy, IsSound}
use Rattle.image_keep.specs.Places.{blocks, core_fit}
use Rattle.image_keep.specs.Maps.{click, block, IsFreeCore, IsFreeSwap}
use Rattle.image_keep.specs.Moves.{need_in, need_for, come_texts, come_shared, text_need, need_shared, swapped_in}
use Rattle.image_keep.specs.Counts.{IsCounted, is_text, is_in_core, has_text, has_loaded}
use Rattle.image_keep.proofs.Writes.{put_row, put_kept, same_owner, row_same, row_other, turned, apart_none}
use Rattle.image_keep.proofs.Places.{slot_at, shared_at, core_found, IsFound, map_at}
use Rattle.image_keep.proofs.Moves.{Moves, moves, Comes, come, HasCome, has_come, moved_line}
use Rattle.image_keep.proofs.Counting.{one, Counts, counted, not_same}

pub text_of_row : (v : Stock) (s : ℕ) → text_of (kept_of v) s ≡ (row_at v.rows s).text
unfolding kept_of
text_of_row v s = map_at (λ (r : Row). r.text) v.rows no_row None s refl

need_shared_is : (line : List ℕ) (core : ℕ) (o : Option TextRow) → need_shared (shared_in line core o) ≡ need_in o
need_shared_is line core None = refl
need_shared_is line core (Some row) = refl

pub need_is : (v : Stock) (x : Option ℕ) → text_need (kept_of v) x ≡ need_for v.texts x
need_is v None = refl
need_is v (Some t) = ap need_shared (shared_at v t) ∙ need_shared_is v.line v.core (text_at v.texts t)

pub clicks_are : (v : Stock) (s : ℕ) (p : Place) → IsSound v → (row_at v.rows s).state ≡ state.Alive p → clicks_of (area_of (kept_of v) s) ≡ clicks_in (row_at v.rows s)
unfolding keeping_by
clicks_are v s p h is =
    let r : Row = row_at v.rows s in
    let own : IsAlive (part v.line (place_at v.core p) (64 * (16 + r.data_size + r.stack_size))) v.core r.data_size r.stack_size p = subst (λ st. HoldsBy v.line v.core st r.data_size r.stack_size) is (h.rows s) in
    let a = own.data_size in
    let b = own.stack_size in
    ap (λ x. clicks_of (area_in x)) (slot_at v s ∙ ap (λ st. keeping_by v.line v.core (text_for v.line v.core v.texts r.text) st r.data_size r.stack_size) is)
    ∙ rw (a, b) refl

come_keeps : (k : Kept) (x : Option ℕ) (at s : ℕ) → keeping (come_shared k x at) s ≡ keeping k s
come_keeps k None at s = refl
come_keeps k (Some t) at s = refl

-- a unit of a range in a row of units
in_range : (x at n from m : ℕ) → 1 ≤ x → 1 ≤ at → at ≤ from → from + m ≤ at + n → (x < at) ⊎ (at + n ≤ x) → AreApart (click x) (record { at = 64 * (from - 1); size = 64 * m })
in_range x at n from m l k a b (inl c) = inl (omega arith)
in_range x at n from m l k a b (inr c) = inr (omega arith)

outside : (at n x : ℕ) → not (is_within at n x) ≡ true → (x < at) ⊎ (at + n ≤ x)
outside at n x e = by (lies at n x)
  where
    by : Lies at n x → (x < at) ⊎ (at + n ≤ x)
    by (Below l) = inl l
    by (Above l) = inr l
    by (In l h) = absurd (both_ways (is_within at n x) (not-true (is_within at n x) e) (in_true at n x l h))

-- The row of an image that is out, which comes in.
module _ (v : Stock) (s b at : ℕ) (h : IsSound v) (low : s < length v.rows) (is : (row_at v.rows s).state ≡ state.Alive (Swap b))
    (used : (t : ℕ) → (row_at v.rows s).text ≡ Some t → IsUsed v.texts t)
    (fit : core_fit (kept_of v) (need_for v.texts (row_at v.rows s).text + clicks_in (row_at v.rows s)) ≡ Some at) where
  abbrev m : ℕ
  m = need_for v.texts (row_at v.rows s).text

  abbrev n : ℕ
  n = clicks_in (row_at v.rows s)

  abbrev w : Stock
  w = come v (row_at v.rows s).text at

  abbrev to : Place
  to = Core (at + m)

  abbrev after_in : Stock
  after_in = put_row w s (at_row (row_at v.rows s) to) (moved_line w (row_at v.rows s) (Swap b) to)

  found : IsFound v (64 * (at - 1)) (64 * (m + n)) 1 v.core at (m + n)
  found = core_found v at (m + n) h fit

  inside : IsIn v.core (Swap b) n
  inside = (subst (λ st. HoldsBy v.line v.core st (row_at v.rows s).data_size (row_at v.rows s).stack_size) is (h.rows s)).inside

  part_of : (a k : ℕ) (p : Spot) → at ≤ a → a + k ≤ at + (m + n) → AreApart (record { at = 64 * (at - 1); size = 64 * (m + n) }) p → AreApart (record { at = 64 * (a - 1); size = 64 * k }) p
  part_of a k p l e (inl x) = let f = found.low in inl (omega (arith, f))
  part_of a k p l e (inr x) = inr (omega arith)

  text_came : HasCome v (row_at v.rows s).text at m
  text_came = let f = found.high in has_come v (row_at v.rows s).text at h used found.low (omega (arith, f)) (λ p. part_of at m (spot v p) (omega arith) (omega arith) (found.free p))

  comes : Comes v w at m
  comes = text_came.comes

  -- what the text takes is before the image
  free_for : (p : Owner) → AreApart (record { at = 64 * (at + m - 1); size = 64 * n }) (spot w p)
  free_for p = elim (comes.spots p) [
    | inl e ↦ subst (AreApart (record { at = 64 * (at + m - 1); size = 64 * n })) (sym e) (part_of (at + m) n (spot v p) (omega arith) (omega arith) (found.free p))
    | inr e ↦ subst (AreApart (record { at = 64 * (at + m - 1); size = 64 * n })) (sym e.1) (let f = found.low in inr (omega (arith, f)))
  ]

  moved : Moves w s (row_at v.rows s) (Swap b) to
  moved = let f = found.low in let g = found.high in
      moves w s (row_at v.rows s) (Swap b) to comes.sound low is (comes.sound.rows s) (omega (arith, f), omega (arith, g)) (λ p ne. free_for p)

  pub in_sound : IsSound after_in
  in_sound = moved.sound

  pub in_kept : kept_of after_in ≡ swapped_in (kept_of v) s (Some at)
  unfolding swapped_in
  in_kept =
      let k : Kept = kept_of v in
      let x : Option ℕ = (row_at v.rows s).text in
      let same : keeping_in w.line w.core w.texts (row_at v.rows s) ≡ keeping k s = sym (slot_at w s) ∙ ap (λ (j : Kept). keeping j s) text_came.kept ∙ come_keeps k x at s in
      put_kept w s (at_row (row_at v.rows s) to) (moved_line w (row_at v.rows s) (Swap b) to) (place_at v.core to) (place_at v.core to + place_size to n) moved.wrote (λ p ne. at_off p) refl
      ∙ ap (with_keeping (kept_of w) s) (moved.means ∙ ap (at_place to) same)
      ∙ ap (λ (j : Kept). with_keeping j s (at_place to (keeping k s))) text_came.kept
      ∙ ap (λ y. with_keeping (come_shared k y at) s (at_place (Core (at + need_for v.texts x)) (keeping k s))) (sym (text_of_row v s))
      ∙ ap (λ i. with_keeping (come_shared k (text_of k s) at) s (at_place (Core (at + i)) (keeping k s))) (sym (ap (text_need k) (text_of_row v s) ∙ need_is v x))
    where
      at_off : (p : Owner) → ((spot w p).at + (spot w p).size ≤ place_at v.core to) ⊎ (place_at v.core to + place_size to n ≤ (spot w p).at)
      at_off p = elim (free_for p) [ inl e ↦ inr e | inr e ↦ inl e ]

  spot_other : (p : Owner) → p ≢ RowOf s → spot after_in p ≡ spot w p
  spot_other (RowOf u) ne = ap (row_spot v.core) (row_other v.rows s u (at_row (row_at v.rows s) to) (λ e. ne (ap RowOf e)))
  spot_other (OutOf t) ne = refl
  spot_other (InOf t) ne = refl

  spot_own : spot after_in (RowOf s) ≡ record { at = 64 * (at + m - 1); size = 64 * n }
  spot_own = ap (row_spot v.core) (row_same v.rows s (at_row (row_at v.rows s) to) low)

  spot_old : spot v (RowOf s) ≡ record { at = swap_at v.core b; size = 512 * blocks n }
  spot_old = ap (λ st. spot_by v.core st (16 + (row_at v.rows s).data_size + (row_at v.rows s).stack_size)) is

  -- what is apart from all before, and from the new piece, is apart from all after, and the other way round
  to_after : (q : Spot) → ((p : Owner) → p ≢ RowOf s → AreApart q (spot v p)) → AreApart q (record { at = 64 * (at - 1); size = 64 * m }) → AreApart q (record { at = 64 * (at + m - 1); size = 64 * n }) → (p : Owner) → AreApart q (spot after_in p)
  to_after q old text own p = elim (same_owner p (RowOf s)) [
    | inl e ↦ subst (λ o. AreApart q (spot after_in o)) (sym e) (subst (AreApart q) (sym spot_own) own)
    | inr ne ↦ subst (AreApart q) (sym (spot_other p ne)) (elim (comes.spots p) [
      | inl e ↦ subst (AreApart q) (sym e) (old p ne)
      | inr e ↦ subst (AreApart q) (sym e.1) text
    ])
  ]

  to_before : (q : Spot) → ((p : Owner) → AreApart q (spot after_in p)) → AreApart q (record { at = swap_at v.core b; size = 512 * blocks n }) → (p : Owner) → AreApart q (spot v p)
  to_before q new own p = elim (same_owner p (RowOf s)) [
    | inl e ↦ subst (λ o. AreApart q (spot v o)) (sym e) (subst (AreApart q) (sym spot_old) own)
    | inr ne ↦ elim (comes.spots p) [
      | inl e ↦ subst (AreApart q) (spot_other p ne ∙ e) (new p)
      | inr e ↦ subst (AreApart q) (sym e.0) (turned (record { at = 0; size = 0 }) q (apart_none q))
    ]
  ]

  pub in_core_map : (old new : List Hole) → ((x : ℕ) → (is_free old x ≡ true) ↔ IsFreeCore v x) → ((x : ℕ) → is_free new x ≡ (is_free old x && not (is_within at (m + n) x)))
      → (x : ℕ) → (is_free new x ≡ true) ↔ IsFreeCore after_in x
  in_core_map old new maps step x = (there, back)
    where
      there : is_free new x ≡ true → IsFreeCore after_in x
      there e =
          let k = and_parts (is_free old x) (not (is_within at (m + n) x)) (sym (step x) ∙ e) in
          let f = (maps x).0 k.0 in
          let o = outside at (m + n) x k.1 in
          (f.0, f.1, to_after (click x) (λ p ne. f.2 p) (in_range x at (m + n) at m f.0 found.low (omega arith) (omega arith) o) (in_range x at (m + n) (at + m) n f.0 found.low (omega arith) (omega arith) o))

      none : IsFreeCore after_in x → is_within at (m + n) x ≡ false
      none f = by (lies at (m + n) x)
        where
          first : 1 ≤ x
          first = f.0

          text : (m ≡ 0) ⊎ ((t : ℕ) × (spot w (InOf t) ≡ record { at = 64 * (at - 1); size = 64 * m })) → at ≤ x → x < at + m → ⊥
          text (inl z) l g = omega arith
          text (inr e) l g = elim (subst (AreApart (click x)) (spot_other (InOf e.0) (λ d. cc d) ∙ e.1) (f.2 (InOf e.0))) [
            | inl a ↦ omega arith
            | inr a ↦ omega arith
          ]

          image : at + m ≤ x → x < at + (m + n) → ⊥
          image l g = elim (subst (AreApart (click x)) spot_own (f.2 (RowOf s))) [
            | inl a ↦ omega arith
            | inr a ↦ omega arith
          ]

          by : Lies at (m + n) x → is_within at (m + n) x ≡ false
          by (Below l) = in_below at (m + n) x l
          by (Above l) = in_above at (m + n) x l
          by (In l g) = elim (cases_lt x (at + m)) [
            | inl before ↦ absurd (text comes.has l before)
            | inr past ↦ absurd (image past g)
          ]

      back : IsFreeCore after_in x → is_free new x ≡ true
      back f =
          let c = f.1 in
          step x ∙ and_from (is_free old x) (not (is_within at (m + n) x))
          ((maps x).1 (f.0, f.1, to_before (click x) f.2 (inl (omega (arith, c)))))
          (not_from_false (is_within at (m + n) x) (none f))

  pub in_swap_map : (old new : List Hole) → ((x : ℕ) → (is_free old x ≡ true) ↔ IsFreeSwap v x) → ((x : ℕ) → is_free new x ≡ (is_free old x || is_within b (blocks n) x))
      → (x : ℕ) → (is_free new x ≡ true) ↔ IsFreeSwap after_in x
  in_swap_map old new maps step x = (there, back)
    where
      core_below : (a k : ℕ) → 1 ≤ a → a + k ≤ v.core + 1 → AreApart (block v.core x) (record { at = 64 * (a - 1); size = 64 * k })
      core_below a k l e = inr (omega arith)

      after : (4000 ≤ x) → (x ≤ 4871) → ((p : Owner) → p ≢ RowOf s → AreApart (block v.core x) (spot v p)) → IsFreeSwap after_in x
      after l g each =
          let f = found.low in
          let i = found.high in
          (l, g, to_after (block v.core x) each (core_below at m f (omega (arith, i))) (core_below (at + m) n (omega (arith, f)) (omega (arith, i))))

      there : is_free new x ≡ true → IsFreeSwap after_in x
      there e = elim (or_cases (is_free old x) (is_within b (blocks n) x) (sym (step x) ∙ e)) [
        | inl k ↦ (let f = (maps x).0 k in after f.0 f.1 (λ p ne. f.2 p))
        | inr k ↦
            (let a = in_low b (blocks n) x k in
            let c = in_high b (blocks n) x k in
            let i = inside.0 in
            let j = inside.1 in
            after (omega (arith, a, i)) (omega (arith, c, j)) (λ p ne.
            elim (subst (λ y. AreApart y (spot v p)) spot_old (h.apart (RowOf s) p (λ d. ne (sym d)))) [
              | inl y ↦ inl (omega (arith, a, c, i))
              | inr y ↦ inr (omega (arith, a, c, i))
            ]))
      ]

      back : IsFreeSwap after_in x → is_free new x ≡ true
      back f = by (lies b (blocks n) x)
        where
          l : 4000 ≤ x
          l = f.0

          i : 4000 ≤ b
          i = inside.0

          by : Lies b (blocks n) x → is_free new x ≡ true
          by (In y z) = step x ∙ or_right (is_free old x) (is_within b (blocks n) x) (in_true b (blocks n) x y z)
          by (Below y) = step x ∙ or_left (is_free old x) (is_within b (blocks n) x) ((maps x).1 (f.0, f.1, to_before (block v.core x) f.2 (inl (omega (arith, y, l, i)))))
          by (Above y) = step x ∙ or_left (is_free old x) (is_within b (blocks n) x) ((maps x).1 (f.0, f.1, to_before (block v.core x) f.2 (inr (omega (arith, y, l, i)))))

  pub in_counted : IsCounted v.rows v.texts → IsCounted after_in.rows after_in.texts
  in_counted c = counted v.rows v.texts (come_texts v.texts (row_at v.rows s).text at) s (at_row (row_at v.rows s) to) low c (by (row_at v.rows s).text refl)
    where
      old_out : (t : ℕ) → has_loaded t (row_at v.rows s) ≡ false
      old_out t = ap (λ st. is_in_core st && is_text t (row_at v.rows s).text) is

      by : (x : Option ℕ) → (row_at v.rows s).text ≡ x → Counts v.rows v.texts (come_texts v.texts x at) s (at_row (row_at v.rows s) to)
      by None e = record {
        used = λ t f. absurd (none-some t (sym e ∙ f));
        stays = λ u t ne f g. g;
        was = λ t new f. (
          new,
          f,
          refl,
          (
              let a = old_out t in
              let b : is_text t (row_at v.rows s).text ≡ false = ap (is_text t) e in
              rw (a, b) refl),
        );
      }
      by (Some k) e = record {
        used = λ t f. (let d : k ≡ t = same_Some k t (sym e ∙ f) in keeps_used t (used t f));
        stays = λ u t ne f g. keeps_used t g;
        was = λ t new f. entry t new f;
      }
        where
          here : IsSome (text_at v.texts k)
          here = used k e

          entry_low : k < length v.texts
          entry_low = elim (cases_lt k (length v.texts)) [
            | inl y ↦ y
            | inr y ↦ absurd (past (text_at v.texts k) (get_or_past v.texts k None y) here)
          ]
            where
              past : (o : Option TextRow) → o ≡ None → IsSome o → ⊥
              past None d g = cc g
              past (Some r) d g = cc d

          now : text_at (with_change v.texts k (loaded_at at)) k ≡ Some (loaded_at at (text_row (text_at v.texts k)))
          now = get_or-set_same v.texts k (Some (loaded_at at (text_row (text_at v.texts k)))) None entry_low

          some_is : (r : TextRow) → IsSome (Some r)
          some_is r = refl

          keeps_used : (t : ℕ) → IsUsed v.texts t → IsUsed (with_change v.texts k (loaded_at at)) t
          keeps_used t g = elim (cases_eq t k) [
            | inl d ↦ subst (λ j. IsUsed (with_change v.texts k (loaded_at at)) j) (sym d) (subst IsSome (sym now) (some_is (loaded_at at (text_row (text_at v.texts k)))))
            | inr ne ↦ subst IsSome (sym (get_or-set_other v.texts k t (Some (loaded_at at (text_row (text_at v.texts k)))) None ne)) g
          ]

          was_there : (o : Option TextRow) → IsSome o → o ≡ Some (text_row o)
          was_there None g = absurd (cc g)
          was_there (Some r) g = refl

          entry : (t : ℕ) (new : TextRow) → text_at (with_change v.texts k (loaded_at at)) t ≡ Some new → (old : TextRow) × (text_at v.texts t ≡ Some old)
              × (new.users + one (has_text t (row_at v.rows s)) ≡ old.users + one (has_text t (at_row (row_at v.rows s) to)))
              × (new.loaded + one (has_loaded t (row_at v.rows s)) ≡ old.loaded + one (has_loaded t (at_row (row_at v.rows s) to)))
          entry t new f = elim (cases_eq t k) [
            | inl d ↦
                (let same : new ≡ loaded_at at (text_row (text_at v.texts k)) = same_Some new (loaded_at at (text_row (text_at v.texts k))) (sym f ∙ ap (text_at (with_change v.texts k (loaded_at at))) d ∙ now) in
                let u : new.users ≡ (text_row (text_at v.texts k)).users = ap (λ (r : TextRow). r.users) same in
                let z : new.loaded ≡ (text_row (text_at v.texts k)).loaded + 1 = ap (λ (r : TextRow). r.loaded) same in
                let a = old_out t in
                let y : is_text t (row_at v.rows s).text ≡ true = ap (is_text t) e ∙ eq-eqb k t (sym d) in
                (text_row (text_at v.texts k), ap (text_at v.texts) d ∙ was_there (text_at v.texts k) here, rw u refl, rw (a, y, z) (omega arith)))
            | inr ne ↦
                (let a = old_out t in
                let y : is_text t (row_at v.rows s).text ≡ false = ap (is_text t) e ∙ not_same k t ne in
                (new, sym (get_or-set_other v.texts k t (Some (loaded_at at (text_row (text_at v.texts k)))) None ne) ∙ f, refl, rw (a, y) refl))
          ]
