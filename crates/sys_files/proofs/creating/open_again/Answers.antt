use Rattle.std.proofs.Common.{refl}
use Rattle.fs_nodes.proofs.RestLemmas.{rest_then}
use Rattle.fs_tree.proofs.MountLemmas.{mounts_stay}
use Rattle.sys_files.specs.Handed.{handed}
use Rattle.sys_files.proofs.CreatingLemmas.{kept_after}
use Rattle.sys_files.proofs.creating.open_again.Goals as goal

pub returns-clause-kept : goal.returns-clause-kept
returns-clause-kept c = λ image.
    kept_after (handed c.args.f.now c.args.u.now c.args.row.now image)
    (handed (record c.args.f.now { tree = record c.args.f.now.tree { nodes = c.truncate.new.nodes } }) c.args.u.now c.args.row.now
    image) _
    refl refl refl c.truncate.ensures.kept.references c.truncate.ensures.kept.counts (c.open_to_write.ensures.kept image)

pub open_to_write-requires-clause-mounts : goal.open_to_write-requires-clause-mounts
open_to_write-requires-clause-mounts c =
    mounts_stay c.args.f.now.tree.mounts c.args.f.now.tree.nodes.store c.truncate.new.nodes.store c.truncate.ensures.kept.counts
    c.requires.mounts

pub returns-clause-blocks : goal.returns-clause-blocks
returns-clause-blocks c =
    rest_then c.args.f.now.tree.nodes.blocks c.truncate.new.nodes.blocks c.open_to_write.new.f.tree.nodes.blocks
    c.truncate.ensures.kept.blocks c.open_to_write.ensures.blocks
