use Rattle.std.proofs.Common.{◌<◌, slice_index, ap, ◌∙◌, rules}
use Rattle.fs_nodes.specs.Keys.{counts}
use Rattle.fs_tree.specs.Finding.{Inodes}
use Rattle.sys_files.proofs.OwingLemmas.{once_more, referred_low}
use Rattle.file_rows.proofs.system_calls.shared.mark.Goals as goal

pub returns : goal.returns
returns c = record {
  references = λ is i.
      let old = c.args.tree.now.nodes.references in
      let some : 0 < slice_index old c.args.ino = search rules in
      ap (λ (n : Inodes). slice_index n.references i) c.mark_text.ensures.inodes
      ∙ once_more old c.args.ino i (referred_low old c.args.ino some);
  counts = ap (λ (n : Inodes). counts n.store) c.mark_text.ensures.inodes;
  mounts = c.mark_text.ensures.mounts;
}
