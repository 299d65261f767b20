-- The maps when a text leaves core, when its entry goes, and when one is made.
use Rattle.std.proofs.Common.{◌≡◌, ◌≢◌, ◌↔◌, ℕ, ◌+◌, ◌-◌, ◌*◌, ◌<◌, ◌≤◌, ◌&&◌, ◌||◌, not, inl, inr, List, length, Bool, true, false, Some, None, refl, sym, ap, subst, ◌∙◌, arith}
use Rattle.std.proofs.lemmas.Bool.{cases_eq, or_cases}
use Rattle.std.proofs.lemmas.List.{get_or-set_same, get_or-set_other}
use Rattle.text_tab.specs.declared.row.TextRow.{TextRow}
use Rattle.text_tab.specs.Table.{text_at}
use Rattle.map_fit.specs.declared.holes.Hole.{Hole}
use Rattle.map_fit.specs.Free.{is_free, is_within}
use Rattle.image_keep.specs.Memory.{Stock, swap_at, Spot, no_spot, out_spot, in_spot, Owner, RowOf, OutOf, InOf, spot, AreApart, IsSound}
use Rattle.image_keep.specs.Places.{blocks}
use Rattle.image_keep.specs.Maps.{click, block, IsFreeCore, IsFreeSwap, AreMaps}
use Rattle.map_fit.proofs.Units.{in_low, in_high}
use Rattle.image_keep.proofs.Writes.{same_owner, turned, apart_none, in_loaded}
use Rattle.image_keep.proofs.Entries.{put_text, text_low, none_in}
use Rattle.image_keep.proofs.Maps.{Tells, tells_click, tells_block, tells_no, one_map, block_inside}

-- where no range changes, the maps stay
pub maps_same : (v w : Stock) (core_map swap_map : List Hole) → w.core ≡ v.core → ((p : Owner) → spot w p ≡ spot v p) → AreMaps v core_map swap_map → AreMaps w core_map swap_map
maps_same v w core_map swap_map core same maps = record {
  core = λ x. (
    (λ e. let f = (maps.core x).0 e in (f.0, subst (λ n. x ≤ n) (sym core) f.1, λ p. subst (AreApart (click x)) (sym (same p)) (f.2 p))),
    (λ f. (maps.core x).1 (f.0, subst (λ n. x ≤ n) core f.1, λ p. subst (AreApart (click x)) (same p) (f.2 p))),
  );
  swap = λ x. (
    (λ e. let f = (maps.swap x).0 e in (f.0, f.1, λ p. subst (AreApart (block w.core x)) (sym (same p)) (subst (λ n. AreApart (block n x) (spot v p)) (sym core) (f.2 p)))),
    (λ f. (maps.swap x).1 (f.0, f.1, λ p. subst (λ n. AreApart (block n x) (spot v p)) core (subst (AreApart (block w.core x)) (same p) (f.2 p)))),
  );
}

gives : (a b : Bool) → (a || b) ≡ ((a && not false) || b)
gives true b = refl
gives false b = refl

-- the click of a text that is in core
inner_click : (a n x : ℕ) (p : Spot) → AreApart (record { at = 64 * (a - 1); size = 64 * n }) p → 1 ≤ a → is_within a n x ≡ true → AreApart (click x) p
inner_click a n x p f l e = by f (in_low a n x e) (in_high a n x e)
  where
    by : AreApart (record { at = 64 * (a - 1); size = 64 * n }) p → a ≤ x → x < a + n → AreApart (click x) p
    by (inl g) i j = inl (omega arith)
    by (inr g) i j = inr (omega arith)

-- The last user of a text has left core: its clicks are free.
pub text_leaves : (v : Stock) (t : ℕ) (row new : TextRow) (core_map core_new swap_map : List Hole) → IsSound v → AreMaps v core_map swap_map → text_at v.texts t ≡ Some row
    → new.clicks ≡ row.clicks → new.block ≡ row.block → new.loaded ≡ 0 → row.loaded ≢ 0
    → ((x : ℕ) → is_free core_new x ≡ (is_free core_map x || is_within row.at row.clicks x)) → AreMaps (put_text v t (Some new) v.line) core_new swap_map
text_leaves v t row new core_map core_new swap_map h maps here c b zero_is some step = record {
  core = λ x. (there x, (λ f. (iff x f.0 f.1).1 f.2));
  swap = λ x. (
    (λ e. let f = (maps.swap x).0 e in (f.0, f.1, λ p. swap_after x p (f.2 p))),
    (λ f. (maps.swap x).1 (f.0, f.1, λ p. swap_before x f.0 p (f.2 p))),
  );
}
  where
    l : t < length v.texts
    l = text_low v.texts t row here

    w : (1 ≤ row.at) × (row.at + row.clicks ≤ v.core + 1)
    w = (h.texts t row here).within some

    old : spot v (InOf t) ≡ record { at = 64 * (row.at - 1); size = 64 * row.clicks }
    old = ap in_spot here ∙ in_loaded row some

    now : spot (put_text v t (Some new) v.line) (InOf t) ≡ no_spot
    now = ap in_spot (get_or-set_same v.texts t (Some new) None l) ∙ none_in new zero_is

    out : spot (put_text v t (Some new) v.line) (OutOf t) ≡ spot v (OutOf t)
    out = ap (out_spot v.core) (get_or-set_same v.texts t (Some new) None l) ∙ rw (b, c) refl ∙ sym (ap (out_spot v.core) here)

    same : (p : Owner) → p ≢ InOf t → spot (put_text v t (Some new) v.line) p ≡ spot v p
    same (RowOf u) m = refl
    same (OutOf u) m = elim (cases_eq u t) [
      | inl e ↦ ap (λ j. spot (put_text v t (Some new) v.line) (OutOf j)) e ∙ out ∙ ap (λ j. spot v (OutOf j)) (sym e)
      | inr ne ↦ ap (out_spot v.core) (get_or-set_other v.texts t u (Some new) None ne)
    ]
    same (InOf u) m = ap in_spot (get_or-set_other v.texts t u (Some new) None (λ e. m (ap InOf e)))

    iff : (x : ℕ) → 1 ≤ x → x ≤ v.core → (is_free core_new x ≡ true) ↔ ((p : Owner) → AreApart (click x) (spot (put_text v t (Some new) v.line) p))
    iff x low high = one_map (spot v) (spot (put_text v t (Some new) v.line)) (InOf t) same (λ p ne. h.apart (InOf t) p (λ e. ne (sym e)))
        (subst (AreApart (spot v (InOf t))) (sym now) (turned no_spot (spot v (InOf t)) (apart_none (spot v (InOf t)))))
        (click x) (is_free core_map x) (is_free core_new x) false (is_within row.at row.clicks x)
        ((λ e. ((maps.core x).0 e).2), (λ e. (maps.core x).1 (low, high, e)))
        (subst (Tells (click x) false) (sym now) (tells_no (click x) no_spot (inr (omega arith))))
        (subst (Tells (click x) (is_within row.at row.clicks x)) (sym old) (tells_click row.at row.clicks x w.0 low))
        (λ e p f. inner_click row.at row.clicks x p (subst (λ y. AreApart y p) old f) w.0 e)
        (step x ∙ gives (is_free core_map x) (is_within row.at row.clicks x))

    there : (x : ℕ) → is_free core_new x ≡ true → IsFreeCore (put_text v t (Some new) v.line) x
    there x e = elim (or_cases (is_free core_map x) (is_within row.at row.clicks x) (sym (step x) ∙ e)) [
      | inl k ↦ (let f = (maps.core x).0 k in (f.0, f.1, (iff x f.0 f.1).0 e))
      | inr k ↦
          (let a = in_low row.at row.clicks x k in
          let d = in_high row.at row.clicks x k in
          let i = w.0 in
          let j = w.1 in
          let low : 1 ≤ x = omega (arith, a, i) in
          let high : x ≤ v.core = omega (arith, d, j) in
          (low, high, (iff x low high).0 e))
    ]

    swap_after : (x : ℕ) (p : Owner) → AreApart (block v.core x) (spot v p) → AreApart (block v.core x) (spot (put_text v t (Some new) v.line) p)
    swap_after x p f = elim (same_owner p (InOf t)) [
      | inl e ↦ subst (λ o. AreApart (block v.core x) (spot (put_text v t (Some new) v.line) o)) (sym e) (subst (AreApart (block v.core x)) (sym now) (turned no_spot (block v.core x) (apart_none (block v.core x))))
      | inr ne ↦ subst (AreApart (block v.core x)) (sym (same p ne)) f
    ]

    swap_before : (x : ℕ) → 4000 ≤ x → (p : Owner) → AreApart (block v.core x) (spot (put_text v t (Some new) v.line) p) → AreApart (block v.core x) (spot v p)
    swap_before x low p f = elim (same_owner p (InOf t)) [
      | inl e ↦ subst (λ o. AreApart (block v.core x) (spot v o)) (sym e) (subst (AreApart (block v.core x)) (sym old) (let i = w.0 in let j = w.1 in inr (omega (arith, i, j))))
      | inr ne ↦ subst (AreApart (block v.core x)) (same p ne) f
    ]

-- An entry that goes gives its blocks back; its text is not in core.
pub text_goes : (v : Stock) (t : ℕ) (row : TextRow) (core_map swap_map swap_new : List Hole) → IsSound v → AreMaps v core_map swap_map → text_at v.texts t ≡ Some row → row.loaded ≡ 0
    → ((x : ℕ) → is_free swap_new x ≡ (is_free swap_map x || is_within row.block (blocks row.clicks) x)) → AreMaps (put_text v t None v.line) core_map swap_new
text_goes v t row core_map swap_map swap_new h maps here out_is step = record {
  core = λ x. (
    (λ e. let f = (maps.core x).0 e in (f.0, f.1, λ p. core_after x p (f.2 p))),
    (λ f. (maps.core x).1 (f.0, f.1, λ p. core_before x f.0 f.1 p (f.2 p))),
  );
  swap = λ x. (there x, (λ f. (iff x f.0 f.1).1 f.2));
}
  where
    l : t < length v.texts
    l = text_low v.texts t row here

    w : (4000 ≤ row.block) × (row.block + blocks row.clicks ≤ 4872)
    w = (h.texts t row here).out

    old : spot v (OutOf t) ≡ record { at = swap_at v.core row.block; size = 512 * blocks row.clicks }
    old = ap (out_spot v.core) here

    now : spot (put_text v t None v.line) (OutOf t) ≡ no_spot
    now = ap (out_spot v.core) (get_or-set_same v.texts t None None l)

    inn : spot (put_text v t None v.line) (InOf t) ≡ spot v (InOf t)
    inn = ap in_spot (get_or-set_same v.texts t None None l) ∙ sym (ap in_spot here ∙ none_in row out_is)

    same : (p : Owner) → p ≢ OutOf t → spot (put_text v t None v.line) p ≡ spot v p
    same (RowOf u) m = refl
    same (InOf u) m = elim (cases_eq u t) [
      | inl e ↦ ap (λ j. spot (put_text v t None v.line) (InOf j)) e ∙ inn ∙ ap (λ j. spot v (InOf j)) (sym e)
      | inr ne ↦ ap in_spot (get_or-set_other v.texts t u None None ne)
    ]
    same (OutOf u) m = ap (out_spot v.core) (get_or-set_other v.texts t u None None (λ e. m (ap OutOf e)))

    iff : (x : ℕ) → 4000 ≤ x → x ≤ 4871 → (is_free swap_new x ≡ true) ↔ ((p : Owner) → AreApart (block v.core x) (spot (put_text v t None v.line) p))
    iff x low high = one_map (spot v) (spot (put_text v t None v.line)) (OutOf t) same (λ p ne. h.apart (OutOf t) p (λ e. ne (sym e)))
        (subst (AreApart (spot v (OutOf t))) (sym now) (turned no_spot (spot v (OutOf t)) (apart_none (spot v (OutOf t)))))
        (block v.core x) (is_free swap_map x) (is_free swap_new x) false (is_within row.block (blocks row.clicks) x)
        ((λ e. ((maps.swap x).0 e).2), (λ e. (maps.swap x).1 (low, high, e)))
        (subst (Tells (block v.core x) false) (sym now) (tells_no (block v.core x) no_spot (inr (omega arith))))
        (subst (Tells (block v.core x) (is_within row.block (blocks row.clicks) x)) (sym old) (tells_block v.core row.block (blocks row.clicks) x w.0 low))
        (λ e p f. (block_inside v.core row.block (blocks row.clicks) x w.0 w.1 e).2 p (subst (λ y. AreApart y p) old f))
        (step x ∙ gives (is_free swap_map x) (is_within row.block (blocks row.clicks) x))

    there : (x : ℕ) → is_free swap_new x ≡ true → IsFreeSwap (put_text v t None v.line) x
    there x e = elim (or_cases (is_free swap_map x) (is_within row.block (blocks row.clicks) x) (sym (step x) ∙ e)) [
      | inl k ↦ (let f = (maps.swap x).0 k in (f.0, f.1, (iff x f.0 f.1).0 e))
      | inr k ↦ (let f = block_inside v.core row.block (blocks row.clicks) x w.0 w.1 k in (f.0, f.1, (iff x f.0 f.1).0 e))
    ]

    core_after : (x : ℕ) (p : Owner) → AreApart (click x) (spot v p) → AreApart (click x) (spot (put_text v t None v.line) p)
    core_after x p f = elim (same_owner p (OutOf t)) [
      | inl e ↦ subst (λ o. AreApart (click x) (spot (put_text v t None v.line) o)) (sym e) (subst (AreApart (click x)) (sym now) (turned no_spot (click x) (apart_none (click x))))
      | inr ne ↦ subst (AreApart (click x)) (sym (same p ne)) f
    ]

    core_before : (x : ℕ) → 1 ≤ x → x ≤ v.core → (p : Owner) → AreApart (click x) (spot (put_text v t None v.line) p) → AreApart (click x) (spot v p)
    core_before x low high p f = elim (same_owner p (OutOf t)) [
      | inl e ↦ subst (λ o. AreApart (click x) (spot v o)) (sym e) (subst (AreApart (click x)) (sym old) (inl (omega (arith, high))))
      | inr ne ↦ subst (AreApart (click x)) (same p ne) f
    ]
