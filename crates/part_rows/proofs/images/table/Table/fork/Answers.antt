use Rattle.part_rows.proofs.TableLemmas.{tied_forked, plain_forked}
use Rattle.part_rows.proofs.images.table.Table.fork.Goals as goal

pub copy_for_fork-requires-clause-image : goal.copy_for_fork-requires-clause-image
copy_for_fork-requires-clause-image c = (c.has_image.ensures c.if-not-has_image.false).1

pub invariant_of-self : goal.invariant_of-self
invariant_of-self c = record {
  tied = tied_forked c.args.self.now.kinds c.args.self.now.images.kept c.copy_for_fork.new.self.kept c.args.from c.args.to _ c.in-Ok.place
      c.args.self.now.tied c.args.self.now.plain c.copy_for_fork.ensures.kept c.in-Ok.ensures.place;
  plain = plain_forked c.args.self.now.images.kept c.copy_for_fork.new.self.kept c.args.from c.args.to _ c.args.self.now.plain c.copy_for_fork.ensures.kept;
}
