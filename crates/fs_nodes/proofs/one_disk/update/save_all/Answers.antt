use Rattle.fs_nodes.proofs.TakeLemmas.{some_entry}
use Rattle.fs_nodes.proofs.UpdateLemmas.{saves_none, saves_more}
use Rattle.fs_nodes.proofs.one_disk.update.save_all.Goals as goal

pub loop-k-init : goal.loop-k-init
loop-k-init c = saves_none c.args.volume.now.state c.args.table.now c.requires

pub loop-k-preserved : goal.loop-k-preserved
loop-k-preserved c =
    let d = some_entry c.args.table.now c.loop-k.k c.loop-k-test.true in
    saves_more c.args.volume.now.state c.loop-k.volume.state c.save.new.volume.state c.args.table.now c.loop-k.table c.save.new.table c.loop-k.k d c.loop-k.invariant c.loop-k-test.true c.save.ensures.stays (c.save.ensures.table d)
