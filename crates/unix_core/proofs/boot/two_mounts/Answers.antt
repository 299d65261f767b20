use Rattle.std.proofs.Common.{◌∙◌, Some, refl, ap, arith}
use Rattle.mount_tab.specs.Mounted.{MountTable}
use Rattle.fs_codec.specs.Disk.{disk_of}
use Rattle.fs_codec.specs.Stands.{store_of}
use Rattle.fs_tree.proofs.MountLemmas.{two_mounts}
use Rattle.abstract_unix.specs.Runs.{stores_of}
use Rattle.unix_core.proofs.boot.two_mounts.Goals as goal

pub word-first-requires : goal.word-first-requires
word-first-requires c = let few = c.requires in let first = c.inode_count.ensures.count in omega (arith, few, first)

pub word-other-requires : goal.word-other-requires
word-other-requires c = let few = c.requires in let other = c.inode_count-2.ensures.count in omega (arith, few, other)

pub new-requires : goal.new-requires
new-requires c =
    let few = c.requires in
    let first = c.word-first.ensures ∙ c.inode_count.ensures.count in
    let other = c.word-other.ensures ∙ c.inode_count-2.ensures.count in
    omega (arith, few, first, other)

pub returns-clause-mounts : goal.returns-clause-mounts
returns-clause-mounts c =
    two_mounts c.new.result (stores_of c.args.image.now (Some c.args.second.now)) (store_of (disk_of c.args.image.now)) (store_of (disk_of c.args.second.now)) _ _
    c.new.ensures refl (c.word-first.ensures ∙ c.inode_count.ensures.count) (c.word-other.ensures ∙ c.inode_count-2.ensures.count)

pub returns-clause-uncovered : goal.returns-clause-uncovered
returns-clause-uncovered c = ap (λ (m : MountTable). m.covered) c.new.ensures
