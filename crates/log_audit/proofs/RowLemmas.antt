-- A row that becomes that of a process with a place: each process has one still, and who runs is one.
use Rattle.std.proofs.Common.{◌≡◌, ◌≢◌, ◌∙◌, ◌<◌, ℕ, Bool, true, false, [], length, Option, Some, None, refl, sym, ap, subst, arith, inl, inr}
use Rattle.std.proofs.lemmas.Bool.{cases_eq}
use Rattle.std.proofs.lemmas.List.{get_or-set_same, get_or-set_other}
use Rattle.pick_rules.specs.declared.row.TableRow.{TableRow}
use Rattle.pick_rules.specs.declared.table.Table.{Table}
use Rattle.pick_rules.specs.Table.{empty_row, row_at, with_row, is_empty, is_zombie}
use Rattle.pick_rules.specs.Sleepers.{runout_told}
use Rattle.pick_rules.proofs.Shapes.{Sleeps, SameShapes, same_none, each_set, runout_same}
use Rattle.log_audit.specs.declared.world.World.{World}
use Rattle.log_audit.specs.Sound.{IsRow, IsLoose, AllPlaced, IsAlive, IsWhole}
use Rattle.log_audit.proofs.Likewise.{shapes_like, like_placed, like_alive}
use Rattle.log_audit.proofs.Images.{placed_set}
use Rattle.log_audit.proofs.Moves.{Living}

-- the row of a process
pub alive_with : (t : Table) (s : ℕ) (row : TableRow) (o : Option ℕ) → s < length t.rows → Living row → IsAlive t o → IsAlive (with_row t s row) o
alive_with t s row None l v a = tt
alive_with t s row (Some q) l v a = elim (cases_eq q s) [
  | inl same ↦ (ap (λ r. is_empty r.stat) (here q same) ∙ v.used, ap (λ r. is_zombie r.stat) (here q same) ∙ v.alive)
  | inr other ↦ (ap (λ r. is_empty r.stat) (get_or-set_other t.rows s q row empty_row other) ∙ a.0, ap (λ r. is_zombie r.stat) (get_or-set_other t.rows s q row empty_row other) ∙ a.1)
]
  where
    here : (q : ℕ) → q ≡ s → row_at (with_row t s row) q ≡ row
    here q same = ap (row_at (with_row t s row)) same ∙ get_or-set_same t.rows s row empty_row l

all_but : (t : Table) (s : ℕ) → AllPlaced t None → AllPlaced t (Some s)
all_but t s p q u e n = p q u e (λ f. cc f)

pub row_whole : (w v : World) (s : ℕ) (row : TableRow) → IsWhole w → s < 50 → row.place ≢ None → Living row → v.table ≡ with_row w.table s row → IsLoose v [] [] → IsWhole v
row_whole w v s row h m p a e l = record {
  loose = l;
  placed = subst (λ t. AllPlaced t None) (sym e) (placed_set w.table s row inside (all_but w.table s h.placed) p);
  alive = subst (λ t. IsAlive t t.running) (sym e) (alive_with w.table s row w.table.running inside a h.alive);
}
  where
    inside : s < length w.table.rows
    inside = let r = h.loose.rows in omega (arith, r, m)

-- and the swapper is told
pub told_whole : (w v : World) (s : ℕ) (row : TableRow) → IsWhole w → s < 50 → row.place ≢ None → Living row → Sleeps row → v.table ≡ runout_told (with_row w.table s row) → IsLoose v [] [] → IsWhole v
told_whole w v s row h m p a k e l = record {
  loose = l;
  placed = subst (λ t. AllPlaced t None) (sym e) (like_placed out (runout_told out) None (shapes_like out (runout_told out) told) (placed_set w.table s row inside (all_but w.table s h.placed) p));
  alive = subst (λ t. IsAlive t t.running) (sym e) (subst (IsAlive (runout_told out)) (sym told.running) (like_alive out (runout_told out) w.table.running (shapes_like out (runout_told out) told) (alive_with w.table s row w.table.running inside a h.alive)));
}
  where
    inside : s < length w.table.rows
    inside = let r = h.loose.rows in omega (arith, r, m)

    out : Table
    out = with_row w.table s row

    told : SameShapes out (runout_told out)
    told = runout_same out out (same_none out (each_set Sleeps w.table.rows s row (λ q. (h.loose.each q).sleeps) k))

-- the same table
pub same_whole : (w v : World) → IsWhole w → v.table ≡ w.table → IsLoose v [] [] → IsWhole v
same_whole w v h e l = record {
  loose = l;
  placed = subst (λ t. AllPlaced t None) (sym e) h.placed;
  alive = subst (λ t. IsAlive t t.running) (sym e) h.alive;
}

-- who shares a text is a process
not_true : (b : Bool) → (b ≡ true → ⊥) → b ≡ false
not_true true n = absurd (n refl)
not_true false n = refl

pub sharer : (row : TableRow) (k : ℕ) → IsRow row → row.text ≡ Some k → Living row
sharer row k r e = record {
  used = not_true (is_empty row.stat) (λ f. let g = r.empty_text f in cc (g, e));
  alive = not_true (is_zombie row.stat) (λ f. let g = r.zombie_text f in cc (g, e));
}
