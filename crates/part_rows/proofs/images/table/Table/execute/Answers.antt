use Rattle.part_rows.proofs.TableLemmas.{tied_machine, plain_machine}
use Rattle.part_rows.proofs.images.table.Table.execute.Goals as goal

pub fixed-fixed-requires : goal.fixed-fixed-requires
fixed-fixed-requires c = (c.has_image.ensures c.if-not-has_image.false).1

pub invariant_of-self : goal.invariant_of-self
invariant_of-self c =
    let old = c.args.self.now in
    record {
      tied = tied_machine old.kinds old.images.kept _ _ _ old.tied c.execute-is_next.ensures.kept;
      plain = plain_machine old.images.kept _ _ _ old.plain c.execute-is_next.ensures.kept;
    }
