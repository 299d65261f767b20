use Rattle.std.proofs.Common.{◌≡◌, ap}
use Rattle.image_keep.specs.Kept.{Kept, first_kept}
use Rattle.pick_rules.specs.declared.table.Table.{Table}
use Rattle.pick_rules.specs.Table.{empty_row, with_row}
use Rattle.part_rows.proofs.SceneLemmas.{new_matches}
use Rattle.part_rows.proofs.passes.Scene.new.Goals as goal

pub invariant_of-result : goal.invariant_of-result
invariant_of-result c =
    let is : c.in_ok-images.images.kept ≡ first_kept c.args.core = c.in_ok-images.ensures.kept in
    record {
      matching = new_matches _ c.in_ok-images.images.kept c.args.core (ap (λ (t : Table). with_row t 1 empty_row) c.new-table.ensures.table) is;
      plain = ap (λ (k : Kept). k.users) is;
    }
