use Rattle.std.proofs.Common.{◌==◌, sym, ap, ◌∙◌, slice_index_or}
use Rattle.std.proofs.lemmas.Bool.{ne_eqb}
use Rattle.std.proofs.lemmas.List.{take_all}
use Rattle.std.proofs.lemmas.List.Sums.{count_by_more_no}
use Rattle.fs_nodes.specs.one_disk.Table.{entries_of}
use Rattle.fs_nodes.specs.declared.one_disk.table.Referenced.{Referenced}
use Rattle.fs_nodes.proofs.one_disk.table.find.Goals as goal

pub loop-k-preserved : goal.loop-k-preserved
loop-k-preserved c =
    count_by_more_no (λ (e : Referenced). e.ino == c.args.ino) c.args.table.now c.loop-k.k c.index-table-k.result c.loop-k-test.true
    (ne_eqb (slice_index_or c.args.table.now c.loop-k.k c.index-table-k.result).ino c.args.ino c.if-table-k.false)
    ∙ c.loop-k.invariant

pub returns-clause-none : goal.returns-clause-none
returns-clause-none c = ap (λ es. entries_of es c.args.ino) (sym (take_all c.loop-k.k c.args.table.now c.loop-k-test.false)) ∙ c.loop-k.invariant
