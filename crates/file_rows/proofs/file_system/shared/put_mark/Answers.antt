use Rattle.std.proofs.Common.{◌≡◌, ap, sym, subst}
use Rattle.mount_tab.specs.Mounted.{MountTable}
use Rattle.fs_nodes.specs.Keys.{Stores}
use Rattle.fs_tree.specs.Finding.{Inodes}
use Rattle.fs_tree.specs.Mounting.{AreMounts}
use Rattle.file_rows.proofs.file_system.shared.put_mark.Goals as goal

pub returns-clause-mounts : goal.returns-clause-mounts
returns-clause-mounts c = λ are.
    let store : c.mark_text.new.self.nodes.store ≡ c.args.tree.now.nodes.store =
    ap (λ (n : Inodes). n.store) c.mark_text.ensures.inodes in
    subst (λ (m : MountTable). AreMounts m c.mark_text.new.self.nodes.store) (sym c.mark_text.ensures.mounts)
    (subst (λ (s : Stores). AreMounts c.args.tree.now.mounts s) (sym store) are)
