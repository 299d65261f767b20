-- Rows that get another place, and texts that come into core.
use Rattle.std.proofs.Common.{◌≡◌, ◌≢◌, ℕ, ◌+◌, ◌-◌, ◌*◌, ◌<◌, ◌≤◌, ◌==◌, ◌⊎◌, inl, inr, List, length, set, cond, Bool, true, false, Option, Some, None, IsSome, refl, sym, ap, subst, ◌∙◌, arith}
use Rattle.std.proofs.lemmas.Bool.{cases_eq, ne_eqb, eqb-true, eqb-false}
use Rattle.std.proofs.lemmas.List.{get_or-set_same, get_or-set_other}
use Rattle.std.proofs.lemmas.Option.{same_Some}
use Rattle.v6_base.specs.declared.entry.Place.{Place}
use Rattle.v6_base.specs.declared.entry.Place.TheVariants.{Core, Swap}
use Rattle.core_mem.specs.Bytes.{part, over}
use Rattle.core_mem.proofs.Parts.{part-over_same, length-part}
use Rattle.u_area.specs.Area.{fetched}
use Rattle.text_tab.specs.declared.row.TextRow.{TextRow}
use Rattle.text_tab.specs.Table.{text_at, loaded_at, row_of as text_row, IsUsed}
use Rattle.image_keep.specs.declared.row.State.TheVariants as state
use Rattle.image_keep.specs.declared.row.Row.{Row}
use Rattle.image_keep.specs.Kept.{Alive, with_shared, shared, at_place, changed}
use Rattle.image_keep.specs.Memory.{Stock, at_row, swap_at, place_at, place_size, clicks_in, Spot, no_spot, out_spot, in_spot, Owner, RowOf, OutOf, InOf, spot, AreApart, text_in, text_for, image_by, keeping_by, keeping_in, shared_in, kept_of, IsIn, IsAlive, HoldsBy, Holds, IsText, IsSound}
use Rattle.image_keep.specs.Places.{blocks}
use Rattle.image_keep.specs.Moves.{need_by, need_in, need_for, come_by, come_in, come_line, come_texts, come_shared}
use Rattle.image_keep.proofs.Writes.{Wrote, IsOff, wrote_over, wrote_none, part_off, text_for_off, put_row, put_sound, turned, in_loaded}
use Rattle.image_keep.proofs.Entries.{put_text, text_kept, text_sound, text_counted, text_low, none_in, same_in}
use Rattle.image_keep.proofs.Places.{shared_at}

-- apart from a range, in bytes: what is written there leaves the other one
pub off_of : (p q : Spot) (e : ℕ) → AreApart p q → p.at + p.size ≡ e → IsOff q p.at e
off_of p q e (inl l) is = inr (omega arith)
off_of p q e (inr l) is = inl l

pub fits_in : (core n at : ℕ) (place : Place) → IsIn core place n → place_at core place + 64 * n ≤ 64 * core + 446464
fits_in core n at (Core c) i = let a = i.0 in let b = i.1 in omega (arith, a, b)
fits_in core n at (Swap b) i = let a = i.0 in let c = i.1 in omega (arith, a, c)

pub size_in : (place : Place) (n : ℕ) → 64 * n ≤ place_size place n
size_in (Core c) n = omega arith
size_in (Swap b) n = omega arith

abbrev pub moved_line : Stock → Row → Place → Place → List ℕ
moved_line v r from to = over v.line (place_at v.core to) (part v.line (place_at v.core from) (64 * clicks_in r))

-- An image is copied from a place to one that is free, for its slot or another.
pub record Moves (v : Stock) (s : ℕ) (r : Row) (from to : Place) : Type 0 where
  pub wrote : Wrote v.line (moved_line v r from to) (place_at v.core to) (place_at v.core to + place_size to (clicks_in r))
  pub means : keeping_in (moved_line v r from to) v.core v.texts (at_row r to) ≡ at_place to (keeping_in v.line v.core v.texts r)
  pub sound : IsSound (put_row v s (at_row r to) (moved_line v r from to))

pub moves : (v : Stock) (s : ℕ) (r : Row) (from to : Place) → IsSound v → s < length v.rows → r.state ≡ state.Alive from → Holds v.line v.core r → IsIn v.core to (clicks_in r)
    → ((p : Owner) → p ≢ RowOf s → AreApart (record { at = place_at v.core to; size = place_size to (clicks_in r) }) (spot v p)) → Moves v s r from to
unfolding keeping_by
moves v s r from to h l is holds inside free =
    let n : ℕ = clicks_in r in
    let own : IsAlive (part v.line (place_at v.core from) (64 * n)) v.core r.data_size r.stack_size from = subst (λ st. HoldsBy v.line v.core st r.data_size r.stack_size) is holds in
    let z = h.size in
    let f = fits_in v.core n 0 from own.inside in
    let g = fits_in v.core n 0 to inside in
    let long : length (part v.line (place_at v.core from) (64 * n)) ≡ 64 * n = length-part v.line (place_at v.core from) (64 * n) (omega (arith, f, z)) in
    let m = size_in to n in
    let w : Wrote v.line (moved_line v r from to) (place_at v.core to) (place_at v.core to + place_size to n) =
    wrote_over v.line (place_at v.core to) (place_at v.core to + place_size to n) (part v.line (place_at v.core from) (64 * n)) (omega (arith, g, z, long)) (omega (arith, long, m)) in
    let there : part (moved_line v r from to) (place_at v.core to) (64 * n) ≡ part v.line (place_at v.core from) (64 * n) =
    part-over_same v.line (place_at v.core to) (part v.line (place_at v.core from) (64 * n)) (64 * n) long (omega (arith, g, z)) in
    let off = λ (p : Owner) (ne : p ≢ RowOf s). off_of (record { at = place_at v.core to; size = place_size to n }) (spot v p) (place_at v.core to + place_size to n) (free p ne) refl in
    record {
      wrote = w;
      means =
          ap (λ bytes. Alive (record { u = fetched (part bytes 0 1024); image = image_by bytes r.data_size r.stack_size (text_for (moved_line v r from to) v.core v.texts r.text); place = to })) there
          ∙ ap (λ text. Alive (record { u = fetched (part (part v.line (place_at v.core from) (64 * n)) 0 1024); image = image_by (part v.line (place_at v.core from) (64 * n)) r.data_size r.stack_size text; place = to }))
          (text_for_off v.line (moved_line v r from to) v.core (place_at v.core to) (place_at v.core to + place_size to n) v.texts r.text w (λ t. off (OutOf t) (λ x. cc x)))
          ∙ sym (ap (λ st. at_place to (keeping_by v.line v.core (text_for v.line v.core v.texts r.text) st r.data_size r.stack_size)) is);
      sound = put_sound v s (at_row r to) (moved_line v r from to) (place_at v.core to) (place_at v.core to + place_size to n) h l w off free
          (subst (λ bytes. IsAlive bytes v.core r.data_size r.stack_size to) (sym there)
          (record { inside = inside; stored = own.stored; data_size = own.data_size; stack_size = own.stack_size; segments = own.segments }));
    }

-- A text comes into core.
abbrev pub come : Stock → Option ℕ → ℕ → Stock
come v x at = record v { line = come_line v.line v.core v.texts x at; texts = come_texts v.texts x at }

pub record Comes (v w : Stock) (at m : ℕ) : Type 0 where
  pub sound : IsSound w
  pub rows : w.rows ≡ v.rows
  pub core : w.core ≡ v.core
  pub spots : (p : Owner) → (spot w p ≡ spot v p) ⊎ ((spot v p ≡ no_spot) × (spot w p ≡ record { at = 64 * (at - 1); size = 64 * m }))
  pub has : (m ≡ 0) ⊎ ((t : ℕ) × (spot w (InOf t) ≡ record { at = 64 * (at - 1); size = 64 * m }))

no_more_in : (v : Stock) (t : ℕ) (o : Option TextRow) (new : List ℕ) (p : Owner) (x : Spot) → t < length v.texts → out_spot v.core o ≡ spot v (OutOf t) → in_spot o ≡ x
    → (spot v (InOf t) ≡ x) ⊎ (spot v (InOf t) ≡ no_spot)
    → (spot (put_text v t o new) p ≡ spot v p) ⊎ ((spot v p ≡ no_spot) × (spot (put_text v t o new) p ≡ x))
no_more_in v t o new (RowOf u) x l out inn old = inl refl
no_more_in v t o new (OutOf u) x l out inn old = elim (cases_eq u t) [
  | inl e ↦ inl (ap (λ j. out_spot v.core (text_at (set v.texts t o) j)) e ∙ ap (out_spot v.core) (get_or-set_same v.texts t o None l) ∙ out ∙ ap (λ j. spot v (OutOf j)) (sym e))
  | inr ne ↦ inl (ap (out_spot v.core) (get_or-set_other v.texts t u o None ne))
]
no_more_in v t o new (InOf u) x l out inn old = elim (cases_eq u t) [
  | inl e ↦
      (let now : in_spot (text_at (set v.texts t o) u) ≡ x = ap (λ j. in_spot (text_at (set v.texts t o) j)) e ∙ ap in_spot (get_or-set_same v.texts t o None l) ∙ inn in
      elim old [
        | inl same ↦ inl (now ∙ sym same ∙ ap (λ j. spot v (InOf j)) (sym e))
        | inr none ↦ inr (ap (λ j. spot v (InOf j)) e ∙ none, now)
      ])
  | inr ne ↦ inl (ap in_spot (get_or-set_other v.texts t u o None ne))
]

come_first : (v : Stock) (t at : ℕ) (row : TextRow) → IsSound v → text_at v.texts t ≡ Some row → row.loaded ≡ 0 → 1 ≤ at → at + row.clicks ≤ v.core + 1
    → ((p : Owner) → AreApart (record { at = 64 * (at - 1); size = 64 * row.clicks }) (spot v p))
    → (let new = over v.line (64 * (at - 1)) (part v.line (swap_at v.core row.block) (64 * row.clicks)) in
    let now : TextRow = record row { loaded = row.loaded + 1; at = at } in
    Comes v (put_text v t (Some now) new) at row.clicks × (kept_of (put_text v t (Some now) new) ≡ with_shared (kept_of v) t (Some (record { row = now; bytes = text_in v.line v.core (Some row) }))))
unfolding text_in
come_first v t at row h here none low high free =
    let z = h.size in
    let own = h.texts t row here in
    let o = own.out in
    let a = o.0 in
    let b = o.1 in
    let bytes = part v.line (swap_at v.core row.block) (64 * row.clicks) in
    let long : length bytes ≡ 64 * row.clicks = length-part v.line (swap_at v.core row.block) (64 * row.clicks) (omega (arith, a, b, z)) in
    let new = over v.line (64 * (at - 1)) bytes in
    let now : TextRow = record row { loaded = row.loaded + 1; at = at } in
    let e : ℕ = 64 * (at - 1) + 64 * row.clicks in
    let l = text_low v.texts t row here in
    let w : Wrote v.line new (64 * (at - 1)) e = wrote_over v.line (64 * (at - 1)) e bytes (omega (arith, long, z)) (omega (arith, long)) in
    let spot_of : Spot = record { at = 64 * (at - 1); size = 64 * row.clicks } in
    let off = λ (p : Owner). off_of spot_of (spot v p) e (free p) refl in
    let one : now.loaded ≢ 0 = (λ x. omega (arith, x)) in
    let inn : in_spot (Some now) ≡ spot_of = in_loaded now one in
    let outs : out_spot v.core (Some now) ≡ spot v (OutOf t) = sym (ap (out_spot v.core) here) in
    let old : spot v (InOf t) ≡ no_spot = ap in_spot here ∙ none_in row none in
    let same : text_in new v.core (Some now) ≡ text_in v.line v.core (text_at v.texts t) =
    part_off v.line new (64 * (at - 1)) e (swap_at v.core row.block) (512 * blocks row.clicks) (64 * row.clicks) w (subst (λ x. IsOff (out_spot v.core x) (64 * (at - 1)) e) here (off (OutOf t))) (omega arith)
    ∙ sym (ap (text_in v.line v.core) here) in
    let there : part new (64 * (at - 1)) (64 * row.clicks) ≡ bytes = part-over_same v.line (64 * (at - 1)) bytes (64 * row.clicks) long (omega (arith, z)) in
    let sound : IsSound (put_text v t (Some now) new) =
    text_sound v t (Some now) new (64 * (at - 1)) e h l w (λ p n m. off p)
    (λ r q. let is : r ≡ now = sym (same_Some now r q) in
    subst (IsText new v.core) (sym is) (record {
      some = own.some;
      out = own.out;
      within = λ ne. (low, high);
      copy = λ ne. there ∙ sym (ap (text_in v.line v.core) here) ∙ sym same;
    }))
    (record {
      out = λ p n m. subst (λ x. AreApart x (spot v p)) (sym outs) (h.apart (OutOf t) p (λ x. n (sym x)));
      inner = λ p n m. subst (λ x. AreApart x (spot v p)) (sym inn) (free p);
      both = subst (λ x. AreApart x (in_spot (Some now))) (sym outs) (subst (AreApart (spot v (OutOf t))) (sym inn) (turned spot_of (spot v (OutOf t)) (free (OutOf t))));
    }) in (
      record {
        sound = sound;
        rows = refl;
        core = refl;
        spots = λ p. no_more_in v t (Some now) new p spot_of l outs inn (inr old);
        has = inr (t, ap in_spot (get_or-set_same v.texts t (Some now) None l) ∙ inn);
      },
      text_kept v t (Some now) new (64 * (at - 1)) e l w (λ s. off (RowOf s)) (λ u ne. off (OutOf u)) (λ s x. same)
          ∙ ap (λ b. with_shared (kept_of v) t (Some (record { row = now; bytes = b }))) (same ∙ ap (text_in v.line v.core) here),
    )

come_again : (v : Stock) (t at : ℕ) (row : TextRow) → IsSound v → text_at v.texts t ≡ Some row → row.loaded ≢ 0
    → (let now : TextRow = record row { loaded = row.loaded + 1 } in
    Comes v (put_text v t (Some now) v.line) at 0 × (kept_of (put_text v t (Some now) v.line) ≡ with_shared (kept_of v) t (Some (record { row = now; bytes = text_in v.line v.core (Some row) }))))
unfolding text_in
come_again v t at row h here some =
    let now : TextRow = record row { loaded = row.loaded + 1 } in
    let l = text_low v.texts t row here in
    let zero_is : (now.loaded == 0) ≡ (row.loaded == 0) = ne_eqb now.loaded 0 (λ x. omega (arith, x)) ∙ sym (ne_eqb row.loaded 0 some) in
    let outs : out_spot v.core (Some now) ≡ spot v (OutOf t) = sym (ap (out_spot v.core) here) in
    let ins : in_spot (Some now) ≡ spot v (InOf t) = same_in row now refl refl zero_is ∙ sym (ap in_spot here) in (
      record {
        sound = text_counted v t row now h here refl refl refl zero_is;
        rows = refl;
        core = refl;
        spots = λ p. same_all now l outs ins p;
        has = inl refl;
      },
      text_kept v t (Some now) v.line 0 0 l (wrote_none v.line 0 0) (λ s. inr (omega arith)) (λ u ne. inr (omega arith)) (λ s x. sym (ap (text_in v.line v.core) here)),
    )
  where
    same_all : (now : TextRow) → t < length v.texts → out_spot v.core (Some now) ≡ spot v (OutOf t) → in_spot (Some now) ≡ spot v (InOf t) → (p : Owner)
        → (spot (put_text v t (Some now) v.line) p ≡ spot v p) ⊎ ((spot v p ≡ no_spot) × (spot (put_text v t (Some now) v.line) p ≡ record { at = 64 * (at - 1); size = 64 * 0 }))
    same_all now l outs ins p = by (no_more_in v t (Some now) v.line p (spot v (InOf t)) l outs ins (inl refl))
      where
        by : (spot (put_text v t (Some now) v.line) p ≡ spot v p) ⊎ ((spot v p ≡ no_spot) × (spot (put_text v t (Some now) v.line) p ≡ spot v (InOf t)))
            → (spot (put_text v t (Some now) v.line) p ≡ spot v p) ⊎ ((spot v p ≡ no_spot) × (spot (put_text v t (Some now) v.line) p ≡ record { at = 64 * (at - 1); size = 64 * 0 }))
        by (inl e) = inl e
        by (inr e) = inl (only p e.0 e.1)
          where
            only : (q : Owner) → spot v q ≡ no_spot → spot (put_text v t (Some now) v.line) q ≡ spot v (InOf t) → spot (put_text v t (Some now) v.line) q ≡ spot v q
            only (RowOf u) a b = refl
            only (OutOf u) a b = elim (cases_eq u t) [
              | inl d ↦ ap (λ j. out_spot v.core (text_at (set v.texts t (Some now)) j)) d ∙ ap (out_spot v.core) (get_or-set_same v.texts t (Some now) None l) ∙ outs ∙ ap (λ j. spot v (OutOf j)) (sym d)
              | inr ne ↦ ap (out_spot v.core) (get_or-set_other v.texts t u (Some now) None ne)
            ]
            only (InOf u) a b = elim (cases_eq u t) [
              | inl d ↦ ap (λ j. in_spot (text_at (set v.texts t (Some now)) j)) d ∙ ap in_spot (get_or-set_same v.texts t (Some now) None l) ∙ ins ∙ ap (λ j. spot v (InOf j)) (sym d)
              | inr ne ↦ ap in_spot (get_or-set_other v.texts t u (Some now) None ne)
            ]

pub record HasCome (v : Stock) (x : Option ℕ) (at m : ℕ) : Type 0 where
  pub comes : Comes v (come v x at) at m
  pub kept : kept_of (come v x at) ≡ come_shared (kept_of v) x at

comes_none : (v : Stock) (at : ℕ) → IsSound v → Comes v v at 0
comes_none v at h = record { sound = h; rows = refl; core = refl; spots = λ p. inl refl; has = inl refl }

come_row : (v : Stock) (t at : ℕ) (row : TextRow) → IsSound v → text_at v.texts t ≡ Some row → 1 ≤ at → at + need_by row ≤ v.core + 1
    → ((p : Owner) → AreApart (record { at = 64 * (at - 1); size = 64 * need_by row }) (spot v p))
    → Comes v (record v { line = come_by v.line v.core at row; texts = set v.texts t (Some (loaded_at at row)) }) at (need_by row)
    × (kept_of (record v { line = come_by v.line v.core at row; texts = set v.texts t (Some (loaded_at at row)) }) ≡ with_shared (kept_of v) t (Some (record { row = loaded_at at row; bytes = text_in v.line v.core (Some row) })))
come_row v t at row h here low high free = by (row.loaded == 0) refl high free
  where
    by : (b : Bool) → (row.loaded == 0) ≡ b → at + cond b row.clicks 0 ≤ v.core + 1
        → ((p : Owner) → AreApart (record { at = 64 * (at - 1); size = 64 * cond b row.clicks 0 }) (spot v p))
        → Comes v (record v { line = cond b (over v.line (64 * (at - 1)) (part v.line (swap_at v.core row.block) (64 * row.clicks))) v.line; texts = set v.texts t (Some (record row { loaded = row.loaded + 1; at = cond b at row.at })) }) at (cond b row.clicks 0)
        × (kept_of (record v { line = cond b (over v.line (64 * (at - 1)) (part v.line (swap_at v.core row.block) (64 * row.clicks))) v.line; texts = set v.texts t (Some (record row { loaded = row.loaded + 1; at = cond b at row.at })) })
        ≡ with_shared (kept_of v) t (Some (record { row = record row { loaded = row.loaded + 1; at = cond b at row.at }; bytes = text_in v.line v.core (Some row) })))
    by true e w f = come_first v t at row h here (eqb-true row.loaded 0 e) low w f
    by false e w f = come_again v t at row h here (eqb-false row.loaded 0 e)

pub has_come : (v : Stock) (x : Option ℕ) (at : ℕ) → IsSound v → ((t : ℕ) → x ≡ Some t → IsUsed v.texts t) → 1 ≤ at → at + need_for v.texts x ≤ v.core + 1
    → ((p : Owner) → AreApart (record { at = 64 * (at - 1); size = 64 * need_for v.texts x }) (spot v p)) → HasCome v x at (need_for v.texts x)
has_come v None at h used low high free = record { comes = comes_none v at h; kept = refl }
has_come v (Some t) at h used low high free = by (text_at v.texts t) refl (used t refl) high free
  where
    by : (o : Option TextRow) → text_at v.texts t ≡ o → IsSome o → at + need_in (text_at v.texts t) ≤ v.core + 1
        → ((p : Owner) → AreApart (record { at = 64 * (at - 1); size = 64 * need_in (text_at v.texts t) }) (spot v p)) → HasCome v (Some t) at (need_in (text_at v.texts t))
    by None e some w f = absurd (cc some)
    by (Some row) e some w f =
        let k = come_row v t at row h e low (rw e at w) (λ p. subst (λ o. AreApart (record { at = 64 * (at - 1); size = 64 * need_in o }) (spot v p)) e (f p)) in
        record {
          comes = subst (λ o. Comes v (record v { line = come_in v.line v.core at o; texts = set v.texts t (Some (loaded_at at (text_row o))) }) at (need_in o)) (sym e) k.0;
          kept = subst (λ o. kept_of (record v { line = come_in v.line v.core at o; texts = set v.texts t (Some (loaded_at at (text_row o))) })
              ≡ with_shared (kept_of v) t (changed (loaded_at at) (shared (kept_of v) t))) (sym e)
              (k.1 ∙ sym (ap (λ o. with_shared (kept_of v) t (changed (loaded_at at) o)) (shared_at v t ∙ ap (shared_in v.line v.core) e)));
        }
