use Rattle.std.proofs.Common.{IsSome, slice_index, refl, sym, ap, ◌∙◌, subst}
use Rattle.fs_blocks.specs.Store.{store_now}
use Rattle.fs_nodes.specs.Keys.{Stores}
use Rattle.fs_nodes.specs.FileSystem.{FileSystem}
use Rattle.mount_tab.specs.Mounted.{MountTable}
use Rattle.fs_tree.specs.Mounting.{AreMounts}
use Rattle.fs_tree.proofs.MountLemmas.{two_mounts}
use Rattle.file_rows.proofs.file_system.opened.tree_on_both.Goals as goal

pub new2-tree-requires : goal.new2-tree-requires
new2-tree-requires c =
    two_mounts c.new-mounts.result c.new2-nodes.result.store (store_now c.args.v.state) (store_now c.args.w.state)
    c.inode_count-first.result c.inode_count-second.result c.new-mounts.ensures c.new2-nodes.ensures.store
    c.inode_count-first.ensures.count c.inode_count-second.ensures.count

pub returns : goal.returns
returns c =
    let is = c.new2-tree.ensures in
    let fits =
    two_mounts c.new-mounts.result c.new2-nodes.result.store (store_now c.args.v.state) (store_now c.args.w.state)
    c.inode_count-first.result c.inode_count-second.result c.new-mounts.ensures c.new2-nodes.ensures.store
    c.inode_count-first.ensures.count c.inode_count-second.ensures.count in
    record {
      quiet = λ i. ap (λ (f : FileSystem). slice_index f.references i) is.nodes ∙ c.new2-nodes.ensures.none i;
      mounts = subst (λ (m : MountTable). AreMounts m c.new2-tree.result.nodes.store) (sym is.mounts)
          (subst (λ (f : FileSystem). AreMounts c.new-mounts.result f.store) (sym is.nodes) fits);
      there = subst (λ (f : FileSystem). IsSome f.store.second) (sym is.nodes)
          (subst (λ (s : Stores). IsSome s.second) (sym c.new2-nodes.ensures.store) refl);
    }
