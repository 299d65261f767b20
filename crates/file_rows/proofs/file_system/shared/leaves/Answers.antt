use Rattle.std.proofs.Common.{◌≤◌, List, ℕ, slice_index, sym, subst}
use Rattle.file_rows.proofs.ReferenceLemmas.{lowered}
use Rattle.file_rows.proofs.file_system.shared.leaves.Goals as goal

pub returns : goal.returns
returns c = record {
  few = λ few i.
      subst (λ (l : List ℕ). slice_index l i ≤ 65530) (sym c.put-2.ensures.references)
      (lowered c.put.new.self.references c.args.ino 65530 (λ j.
      subst (λ (l : List ℕ). slice_index l j ≤ 65530) (sym c.put.ensures.references)
      (lowered c.args.nodes.now.references c.args.ino 65530 few j)) i);
}
