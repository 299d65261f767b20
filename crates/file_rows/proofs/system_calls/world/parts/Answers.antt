use Rattle.std.proofs.Common.{ap}
use Rattle.mount_tab.specs.Mounted.{MountTable}
use Rattle.fs_tree.proofs.MountLemmas.{new_mounts}
use Rattle.file_rows.proofs.ReadyLemmas.{begun}
use Rattle.file_rows.proofs.system_calls.world.parts.Goals as goal

pub returns-clause-ready : goal.returns-clause-ready
returns-clause-ready c =
    let mounts = c.new.ensures.mounts c.requires.words in
    begun c.new-2.result c.new-4.result c.new.result.mounts c.args.nodes c.new.result.nodes c.new-2.ensures
    c.new-4.ensures c.new.ensures.nodes (new_mounts c.new.result.mounts c.args.nodes.store mounts c.requires.one)
    (ap (λ (m : MountTable). m.covered) mounts) c.requires.few c.requires.root
