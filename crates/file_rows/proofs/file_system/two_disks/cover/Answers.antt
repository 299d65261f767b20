use Rattle.std.proofs.Common.{sym, subst}
use Rattle.mount_tab.specs.Mounted.{MountTable}
use Rattle.fs_tree.specs.Mounting.{AreMounts}
use Rattle.fs_tree.proofs.MountLemmas.{covered_mounts}
use Rattle.file_rows.proofs.file_system.two_disks.cover.Goals as goal

pub returns-in-Ok-clause-mounts : goal.returns-in-Ok-clause-mounts
returns-in-Ok-clause-mounts c =
    covered_mounts c.args.tree.now.mounts c.cover.new.self c.args.tree.now.nodes.store c.args.dir c.in-Ok.ensures.1
    c.requires.there

pub returns-in-Err-clause-mounts : goal.returns-in-Err-clause-mounts
returns-in-Err-clause-mounts c =
    subst (λ (m : MountTable). AreMounts m c.args.tree.now.nodes.store) (sym c.in-Err.ensures.1)
