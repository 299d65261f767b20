-- A scene's table is that of its images.
use Rattle.std.proofs.Common.{◌≡◌, ◌∙◌, ◌<◌, ℕ, zero, suc, true, false, not, List, length, length-set, get_or, set, replicate, Option, Some, None, refl, sym, ap, subst, inl, inr, ◌⊎◌, arith}
use Rattle.std.proofs.lemmas.Bool.{cases_eq, and_parts, not-true}
use Rattle.std.proofs.lemmas.List.{get_or-set_same, get_or-set_other}
use Rattle.v6_base.specs.declared.entry.Place.{Place}
use Rattle.v6_base.specs.Image.{Image}
use Rattle.u_area.specs.declared.area.UArea.{UArea}
use Rattle.pick_rules.specs.declared.row.TableRow.{TableRow}
use Rattle.pick_rules.specs.declared.table.Table.{Table}
use Rattle.pick_rules.specs.Table.{empty_row, row_at, with_row, first_table, is_empty, is_zombie}
use Rattle.image_keep.specs.Kept.{Kept, Keeping, Nothing, Alive, Grave, Held, keeping, with_keeping, text_of, clicks_of, first_kept, no_users}
use Rattle.image_keep.specs.Places.{with_image_at}
use Rattle.image_keep.proofs.PlaceFrames.{bare_moved}
use Rattle.image_keep.specs.Moves.{with_image_moved}
use Rattle.swap_sched.specs.Match.{IsRowOf, Matches}
use Rattle.part_rows.specs.Alive.{lives}

-- nothing is there
all_same : {A : Type 0} (n s : ℕ) (x : A) → get_or (replicate n x) s x ≡ x
all_same zero s x = refl
all_same (suc n) zero x = refl
all_same (suc n) (suc s) x = all_same n s x

first_row : (s : ℕ) → 0 < s → get_or (set (first_table 0).rows 1 empty_row) s empty_row ≡ empty_row
first_row zero l = absurd (omega (arith, l))
first_row (suc zero) l = refl
first_row (suc (suc s)) l = all_same 48 s empty_row

none_of : (users : List (Option ℕ)) (s : ℕ) → users ≡ no_users → get_or users s None ≡ None
unfolding no_users
none_of users s e = ap (λ l. get_or l s None) e ∙ all_same 50 s None

pub new_matches : (t : Table) (k : Kept) (core : ℕ) → t ≡ with_row (first_table 0) 1 empty_row → k ≡ first_kept core → Matches t k
unfolding no_users
new_matches t k core e f = subst (λ u. Matches u k) (sym e) (subst (Matches (with_row (first_table 0) 1 empty_row)) (sym f) (record {
  table = record { last = omega arith; running = omega arith; ticks = omega arith };
  rows = refl;
  kernel = refl;
  images = refl;
  each = λ s l m.
      subst (λ row. IsRowOf row (text_of (first_kept core) s) (keeping (first_kept core) s)) (sym (first_row s l))
      (subst (λ o. IsRowOf empty_row o (keeping (first_kept core) s)) (sym (all_same 50 s None))
      (subst (IsRowOf empty_row None) (sym (all_same 50 s Nothing))
      (record { empty = refl; zombie = refl; place = refl; size = λ held g. absurd (cc g); text = refl })));
}))

-- An image is put into an empty slot.
pub nothing_at : (t : Table) (k : Kept) (s : ℕ) → Matches t k → 0 < s → s < 50 → is_empty (row_at t s).stat ≡ true → keeping k s ≡ Nothing
nothing_at t k s a l m e = by (keeping k s) refl (a.each s l m)
  where
    by : (x : Keeping) → keeping k s ≡ x → IsRowOf (row_at t s) (text_of k s) x → keeping k s ≡ Nothing
    by Nothing f r = f
    by (Alive held) f r = absurd (let c = r.empty in cc (c, e))
    by (Grave u block) f r = absurd (let c = r.empty in cc (c, e))

pub no_text_at : (k : Kept) (s : ℕ) → k.users ≡ no_users → None ≡ text_of k s
no_text_at k s e = sym (none_of k.users s e)

lives_used : (row : TableRow) → lives row.stat ≡ true → (is_empty row.stat ≡ false) × (is_zombie row.stat ≡ false)
lives_used row e =
    let parts : (not (is_empty row.stat) ≡ true) × (not (is_zombie row.stat) ≡ true) = and_parts _ _ e in
    (not-true _ parts.0, not-true _ parts.1)

module _ (t : Table) (k n : Kept) (s : ℕ) (u : UArea) (image : Image) (place : Place) (row : TableRow) (o : Option Place) (a : Matches t k)
    (plain : k.users ≡ no_users) (low : 0 < s) (high : s < 50) (long : length k.slots ≡ 50) (e : o ≡ Some place)
    (f : n ≡ with_image_moved k s u image o) where
  held : Held
  held = record { u = u; image = image; place = place }

  moved : n ≡ with_keeping k s (Alive (record { u = u; image = image; place = place }))
  moved = f ∙ bare_moved k s u image o (sym (no_text_at k s plain)) ∙ ap (with_image_at k s u image) e

  pub put_plain : n.users ≡ no_users
  put_plain = ap (λ (x : Kept). x.users) moved ∙ plain

  module _ (stat : lives row.stat ≡ true) (at : row.place ≡ Some place) (size : row.size ≡ clicks_of u) (text : row.text ≡ None) where
    mine : IsRowOf row (text_of k s) (Alive (record { u = u; image = image; place = place }))
    mine =
        let used : (is_empty row.stat ≡ false) × (is_zombie row.stat ≡ false) = lives_used row stat in
        record { empty = used.0; zombie = used.1; place = at; size = λ other g. size ∙ ap clicks_in g; text = text ∙ no_text_at k s plain }
      where
        clicks_in : Keeping → ℕ
        clicks_in Nothing = 0
        clicks_in (Alive other) = clicks_of other.u
        clicks_in (Grave v block) = 0

    each : (r : ℕ) → 0 < r → r < 50 → (r ≡ s) ⊎ (r ≡ s → ⊥)
        → IsRowOf (row_at (with_row t s row) r) (text_of k r) (get_or (set k.slots s (Alive (record { u = u; image = image; place = place }))) r Nothing)
    each r l m (inl g) =
        subst (λ q. IsRowOf (row_at (with_row t s row) q) (text_of k q) (get_or (set k.slots s (Alive (record { u = u; image = image; place = place }))) q Nothing)) (sym g)
        (subst (λ x. IsRowOf x (text_of k s) (get_or (set k.slots s (Alive (record { u = u; image = image; place = place }))) s Nothing))
        (sym (get_or-set_same t.rows s row empty_row (omega (arith, high, a.rows))))
        (subst (IsRowOf row (text_of k s)) (sym (get_or-set_same k.slots s (Alive (record { u = u; image = image; place = place })) Nothing (omega (arith, high, long)))) mine))
    each r l m (inr g) =
        subst (λ x. IsRowOf x (text_of k r) (get_or (set k.slots s (Alive (record { u = u; image = image; place = place }))) r Nothing))
        (sym (get_or-set_other t.rows s r row empty_row g))
        (subst (IsRowOf (row_at t r) (text_of k r)) (sym (get_or-set_other k.slots s r (Alive (record { u = u; image = image; place = place })) Nothing g)) (a.each r l m))

    pub put_matches : Matches (with_row t s row) n
    put_matches = subst (Matches (with_row t s row)) (sym moved) (record {
      table = record { last = a.table.last; running = a.table.running; ticks = a.table.ticks };
      rows = length-set t.rows s row ∙ a.rows;
      kernel = ap (λ (x : TableRow). x.place) (get_or-set_other t.rows s 0 row empty_row (λ z. omega (arith, z, low))) ∙ a.kernel;
      images = get_or-set_other k.slots s 0 _ Nothing (λ z. omega (arith, z, low)) ∙ a.images;
      each = λ r l m. each r l m (cases_eq r s);
    })

-- Nothing is put where there is no room.
pub not_put : (k n : Kept) (s : ℕ) (u : UArea) (image : Image) (o : Option Place) → o ≡ None → n ≡ with_image_moved k s u image o → n ≡ k
not_put k n s u image o e f = f ∙ ap (with_image_moved k s u image) e

-- The swapper runs.
pub run_matches : (t : Table) (k : Kept) → Matches t k → Matches (record t { running = Some 0 }) k
run_matches t k a = record {
  table = record { last = a.table.last; running = omega arith; ticks = a.table.ticks };
  rows = a.rows;
  kernel = a.kernel;
  images = a.images;
  each = a.each;
}
