use Rattle.std.proofs.Common.{refl}
use Rattle.fs_nodes.proofs.RestLemmas.{rest_then}
use Rattle.sys_files.specs.Handed.{handed}
use Rattle.sys_files.proofs.KeptLemmas.{still_mounts}
use Rattle.sys_files.proofs.CreatingLemmas.{kept_after}
use Rattle.sys_files.proofs.creating.enter_file.Goals as goal

pub returns-in-Ok-clause-kept : goal.returns-in-Ok-clause-kept
returns-in-Ok-clause-kept c = λ image.
    kept_after (handed c.args.f.now c.args.u.now c.args.row.now image)
    (handed c.enter_new.new.f c.args.u.now c.args.row.now image) _
    c.in-Ok.ensures.table refl c.in-Ok.ensures.mounts c.in-Ok.ensures.kept.references c.in-Ok.ensures.kept.counts
    (c.open_to_write.ensures.kept image)

pub open_to_write-requires-clause-mounts : goal.open_to_write-requires-clause-mounts
open_to_write-requires-clause-mounts c =
    still_mounts c.args.f.now.tree.mounts c.enter_new.new.f.tree.mounts c.args.f.now.tree.nodes.store
    c.enter_new.new.f.tree.nodes.store
    c.in-Ok.ensures.mounts c.in-Ok.ensures.kept.counts c.requires.mounts

pub returns-in-Ok-clause-blocks : goal.returns-in-Ok-clause-blocks
returns-in-Ok-clause-blocks c =
    rest_then c.args.f.now.tree.nodes.blocks c.enter_new.new.f.tree.nodes.blocks c.open_to_write.new.f.tree.nodes.blocks
    c.in-Ok.ensures.kept.blocks c.open_to_write.ensures.blocks
