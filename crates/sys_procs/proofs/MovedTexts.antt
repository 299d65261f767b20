-- What becomes of a text when the image of one who shares it goes to another place: the same by the board and by what is kept.
use Rattle.std.proofs.Common.{◌≡◌, ◌∙◌, ◌+◌, ◌-◌, ◌<◌, ◌==◌, ℕ, Bool, true, false, List, get_or, set, map, Option, Some, None, refl, sym, ap, arith}
use Rattle.std.proofs.lemmas.Bool.{ne_eqb, eqb-false, not-true}
use Rattle.std.proofs.lemmas.List.{set-get_or}
use Rattle.v6_base.specs.declared.entry.Place.{Place}
use Rattle.v6_base.specs.declared.entry.Place.TheVariants.{Core, Swap}
use Rattle.pick_rules.specs.Board.{TextPlace}
use Rattle.pick_rules.specs.Apply.{changed}
use Rattle.image_keep.specs.Kept.{Shared}
use Rattle.image_keep.specs.Kept as kept
use Rattle.image_keep.specs.Moves.{moved_row}
use Rattle.image_keep.specs.Places.{is_text_loaded}
use Rattle.swap_sched.specs.Match.{text_place}
use Rattle.swap_sched.proofs.Texts.{one_more, one_fewer, text_at_map, fewer_texts, more_texts, set_twice}

-- one fewer is in core, or one more, or it is so where a condition holds
abbrev pub fewer_if : Bool → List (Option TextPlace) → ℕ → List (Option TextPlace)
fewer_if true texts u = set texts u (changed (get_or texts u None) one_fewer)
fewer_if false texts u = texts

abbrev pub more_at : Place → List (Option TextPlace) → ℕ → List (Option TextPlace)
more_at (Core click) texts u = set texts u (changed (get_or texts u None) one_more)
more_at (Swap block) texts u = texts

abbrev pub is_core : Place → Bool
is_core (Core click) = true
is_core (Swap block) = false

pub same_texts : (texts : List (Option Shared)) (u : ℕ) → set texts u (kept.changed (λ row. row) (get_or texts u None)) ≡ texts
same_texts texts u = ap (set texts u) (by (get_or texts u None)) ∙ set-get_or texts u None
  where
    by : (o : Option Shared) → kept.changed (λ row. row) o ≡ o
    by None = refl
    by (Some x) = refl

-- A text that is in core has a user there.
pub has_loaded : (o : Option Shared) → is_text_loaded o ≡ true → (x : Shared) × (o ≡ Some x) × (0 < x.row.loaded)
has_loaded None e = absurd (cc e)
has_loaded (Some x) e = (x, refl, let some = eqb-false x.row.loaded 0 (not-true (x.row.loaded == 0) e) in omega (arith, some))

-- The counts of a text, which is in core where the image goes there.
pub moved_texts_board : (texts : List (Option Shared)) (u : ℕ) (from to : Place)
    → (is_core to ≡ true → is_text_loaded (get_or texts u None) ≡ true)
    → more_at to (fewer_if (is_core from) (map text_place texts) u) u
    ≡ map text_place (set texts u (kept.changed (moved_row (Some from) to) (get_or texts u None)))
moved_texts_board texts u (Core f) (Core c) loaded =
    let there = has_loaded (get_or texts u None) (loaded refl) in
    let x : Shared = there.0 in
    let now : TextPlace =
    record { clicks = x.row.clicks; users = x.row.users; loaded = x.row.loaded; click = x.row.at; block = x.row.block } in
    let at : get_or (map text_place texts) u None ≡ Some now = text_at_map texts u ∙ ap text_place there.1 in
    let some = there.2 in
    let back : x.row.loaded - 1 + 1 ≡ x.row.loaded = omega (arith, some) in
    ap (λ (o : Option TextPlace). set (set (map text_place texts) u (changed o one_fewer)) u
    (changed (get_or (set (map text_place texts) u (changed o one_fewer)) u None) one_more)) at
    ∙ set_twice (map text_place texts) u (one_fewer now) now one_more at
    ∙ ap (λ n. set (map text_place texts) u (Some (record now { loaded = n }))) back
    ∙ ap (set (map text_place texts) u) (sym at) ∙ set-get_or (map text_place texts) u None
    ∙ sym (ap (map text_place) (same_texts texts u))
moved_texts_board texts u (Core f) (Swap b) loaded = sym (fewer_texts texts u)
moved_texts_board texts u (Swap a) (Core c) loaded =
    let there = has_loaded (get_or texts u None) (loaded refl) in
    more_texts texts u c there.0 there.1 (let some = there.2 in ne_eqb there.0.row.loaded 0 (λ f. omega (arith, f, some)))
moved_texts_board texts u (Swap a) (Swap b) loaded = sym (ap (map text_place) (same_texts texts u))

-- The same when an image is made beside a text.
pub entered_texts_board : (texts : List (Option Shared)) (u : ℕ) (to : Place)
    → (is_core to ≡ true → is_text_loaded (get_or texts u None) ≡ true)
    → more_at to (map text_place texts) u ≡ map text_place (set texts u (kept.changed (moved_row None to) (get_or texts u None)))
entered_texts_board texts u (Core c) loaded =
    let there = has_loaded (get_or texts u None) (loaded refl) in
    more_texts texts u c there.0 there.1 (let some = there.2 in ne_eqb there.0.row.loaded 0 (λ f. omega (arith, f, some)))
entered_texts_board texts u (Swap b) loaded = sym (ap (map text_place) (same_texts texts u))
