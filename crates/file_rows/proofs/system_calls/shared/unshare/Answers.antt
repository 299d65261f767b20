use Rattle.std.proofs.Common.{slice_index, ap, ◌∙◌}
use Rattle.fs_nodes.specs.Keys.{counts, node_numbered}
use Rattle.fs_tree.specs.Finding.{Inodes}
use Rattle.sys_files.proofs.OwingLemmas.{put_counts}
use Rattle.file_rows.proofs.system_calls.shared.unshare.Goals as goal

pub returns-clause-counts : goal.returns-clause-counts
returns-clause-counts c =
    let old = c.args.tree.now.nodes in
    ap (λ (n : Inodes). counts n.store) c.unmark_text.ensures.inodes
    ∙ put_counts old.store c.args.ino (slice_index old.references c.args.ino) (node_numbered old.store c.args.ino)
