use Rattle.std.proofs.Common.{arith}
use Rattle.proc_tab.proofs.TableLemmas.{one_more_adopted}
use Rattle.proc_tab.proofs.rows.adopt_all.Goals as goal

pub loop-slot-preserved : goal.loop-slot-preserved
loop-slot-preserved c =
    one_more_adopted c.args.slots.now c.loop-slot.slots c.args.from c.loop-slot.slot-index _ (omega (arith, c.told-slots)) c.loop-slot.invariant c.adopted.ensures
