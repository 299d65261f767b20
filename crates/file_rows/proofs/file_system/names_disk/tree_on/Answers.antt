use Rattle.std.proofs.Common.{sym, subst}
use Rattle.fs_nodes.specs.FileSystem.{FileSystem}
use Rattle.fs_tree.specs.Mounting.{AreMounts}
use Rattle.fs_tree.proofs.MountLemmas.{new_mounts}
use Rattle.file_rows.proofs.file_system.names_disk.tree_on.Goals as goal

pub returns-clause-mounts : goal.returns-clause-mounts
returns-clause-mounts c =
    let is = c.new.ensures in
    subst (λ (f : FileSystem). AreMounts c.new.result.mounts f.store) (sym is.nodes)
    (new_mounts c.new.result.mounts c.args.nodes.store (is.mounts c.requires.few) c.requires.one)
