use Rattle.fs_nodes.specs.Keys.{counts}
use Rattle.file_rows.specs.Ready.{IsReady}
use Rattle.file_rows.proofs.system_calls.scenes.first_of.Given as goal

abbrev pub invariant-loop-k : goal.invariant-loop-k
invariant-loop-k l =
    IsReady l.w.files.table l.w.files.pipes l.w.u.files l.w.u.dir l.w.files.tree.mounts l.w.files.tree.nodes.references
    (counts l.w.files.tree.nodes.store)
