use Rattle.std.proofs.Common.{◌∙◌, sym, rules}
use denote.Enum.Bare.{same_true}
use Rattle.part_rows.specs.contracts.kind.Kind.{the_type}
use Rattle.part_rows.proofs.TableLemmas.{has_image}
use Rattle.part_rows.proofs.images.table.Table.has_image.Goals as goal

pub returns-then-s-lt50 : goal.returns-then-s-lt50
returns-then-s-lt50 c = λ e.
    let table = c.args.self.now in
    (c.if-s-lt50.true, has_image table.kinds table.images.kept c.args.s _ table.tied (search rules) (same_true the_type (search rules) _ _ (sym c.eq.ensures ∙ e)))
