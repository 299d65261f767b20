use Rattle.std.proofs.Common.{sym, subst, arith}
use Rattle.fs_nodes.specs.Keys.{Stores}
use Rattle.fs_tree.specs.Mounting.{AreMounts}
use Rattle.file_rows.proofs.file_system.two_disks.begins.Goals as goal

pub returns : goal.returns
returns c = record {
  few = λ i.
      let h = c.takes.ensures.few 0 (λ k. let q = c.requires.quiet k in omega (arith, q)) i in
      omega (arith, h);
  mounts = subst (λ (s : Stores). AreMounts c.args.tree.now.mounts s) (sym c.takes.ensures.store);
}
