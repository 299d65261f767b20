use Rattle.std.proofs.Common.{◌≤◌, List, ℕ, slice_index, sym, ap, subst}
use Rattle.fs_tree.specs.Finding.{Inodes}
use Rattle.file_rows.proofs.ReferenceLemmas.{lowered}
use Rattle.file_rows.proofs.file_system.shared.unmark.Goals as goal

pub returns-then-not-has-2 : goal.returns-then-not-has-2
returns-then-not-has-2 c = record {
  few = λ few i.
      subst (λ (l : List ℕ). slice_index l i ≤ 65530)
      (sym (ap (λ (n : Inodes). n.references) c.unmark_text.ensures.inodes))
      (lowered c.args.tree.now.nodes.references c.args.ino 65530 few i);
}
