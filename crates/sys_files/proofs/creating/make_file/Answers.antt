use Rattle.std.proofs.Common.{◌∙◌, [], bit_and, refl, ap}
use Rattle.v6_base.specs.Image.{Image}
use Rattle.fs_tree.specs.Finding.{inodes_of}
use Rattle.fs_tree.proofs.MountLemmas.{mounts_stay}
use Rattle.sys_files.specs.Handed.{handed}
use Rattle.sys_files.specs.Did.{unnamed}
use Rattle.sys_files.specs.Making.{opens_for_writing}
use Rattle.sys_files.proofs.CreatingLemmas.{between_kept, between_more, between_blocks}
use Rattle.sys_files.proofs.EnteringLemmas.{disk_has, same_disk}
use Rattle.sys_files.proofs.MakingLemmas.{made_answered, not_made}
use Rattle.sys_files.proofs.creating.make_file.Goals as goal

pub make_inode-requires-clause-there : goal.make_inode-requires-clause-there
make_inode-requires-clause-there c = λ other.
    disk_has c.args.f.now.tree.nodes c.see.ensures c.args.f.now.tree.mounts c.requires.mounts c.args.room.dir
    c.requires.entry.referenced (λ none. other (c.disk_of-dev.ensures.disk ∙ none))

pub enter_file-answer-requires-clause-disk : goal.enter_file-answer-requires-clause-disk
enter_file-answer-requires-clause-disk c =
    same_disk c.args.f.now.tree.mounts c.args.f.now.tree.nodes.store c.disk_of-dev.result c.args.room.dir c.in-Ok.ino
    c.requires.mounts
    c.disk_of-dev.ensures.disk c.in-Ok.ensures.disk

pub enter_file-answer-requires-clause-mounts : goal.enter_file-answer-requires-clause-mounts
enter_file-answer-requires-clause-mounts c =
    mounts_stay c.args.f.now.tree.mounts c.args.f.now.tree.nodes.store c.make_inode.new.nodes.store c.in-Ok.ensures.found.counts
    c.requires.mounts

pub returns-in-Err-clause-did : goal.returns-in-Err-clause-did
returns-in-Err-clause-did c = λ image.
    not_made (handed c.args.f.now c.args.u.now c.args.row.now image) c.args.room.dir c.args.room.offset c.args.room.name
    (bit_and c.args.mode 0o6777) c.args.now opens_for_writing c.user_of.result c.user_of.ensures c.disk_of-dev.result
    c.disk_of-dev.ensures.disk c.in-Err.e (inodes_of c.make_inode.new.nodes) c.in-Err.ensures.answer c.make_inode.ensures.inodes

pub returns-clause-did : goal.returns-clause-did
returns-clause-did c = λ image.
    made_answered (handed c.args.f.now c.args.u.now c.args.row.now image) c.args.room.dir c.args.room.offset c.args.room.name
    (bit_and c.args.mode 0o6777) c.args.now opens_for_writing c.user_of.result c.user_of.ensures c.disk_of-dev.result
    c.disk_of-dev.ensures.disk c.in-Ok.ino (inodes_of c.make_inode.new.nodes) (inodes_of c.let_go.new.nodes)
    (handed c.enter_file-answer.new.f c.enter_file-answer.new.u c.enter_file-answer.new.row image) c.enter_file-answer.result
    c.in-Ok.ensures.answer c.make_inode.ensures.inodes (ap unnamed (c.enter_file-answer.ensures.did image))
    c.let_go.ensures.inodes

pub returns-clause-kept : goal.returns-clause-kept
returns-clause-kept c = λ image.
    between_kept (handed c.args.f.now c.args.u.now c.args.row.now image)
    (handed (record c.args.f.now { tree = record c.args.f.now.tree { nodes = c.make_inode.new.nodes } }) c.args.u.now c.args.row.now
    image)
    (handed c.enter_file-answer.new.f c.enter_file-answer.new.u c.enter_file-answer.new.row image)
    c.args.f.now.tree.nodes c.make_inode.new.nodes c.enter_file-answer.new.f.tree.nodes c.let_go.new.nodes c.in-Ok.ino
    c.in-Ok.ensures.found (c.enter_file-answer.ensures.kept image) refl refl refl c.enter_file-answer.ensures.more
    c.let_go.ensures.inodes c.let_go.ensures.rest

none : Image
none = record { text = []; «data» = []; stack = [] }

pub returns-clause-more : goal.returns-clause-more
returns-clause-more c =
    between_more (handed c.args.f.now c.args.u.now c.args.row.now none)
    (handed (record c.args.f.now { tree = record c.args.f.now.tree { nodes = c.make_inode.new.nodes } }) c.args.u.now c.args.row.now
    none)
    (handed c.enter_file-answer.new.f c.enter_file-answer.new.u c.enter_file-answer.new.row none)
    c.args.f.now.tree.nodes c.make_inode.new.nodes c.enter_file-answer.new.f.tree.nodes c.let_go.new.nodes c.in-Ok.ino
    c.in-Ok.ensures.found (c.enter_file-answer.ensures.kept none) refl refl refl c.enter_file-answer.ensures.more
    c.let_go.ensures.inodes c.let_go.ensures.rest

pub returns-clause-blocks : goal.returns-clause-blocks
returns-clause-blocks c =
    between_blocks (handed c.args.f.now c.args.u.now c.args.row.now none)
    (handed (record c.args.f.now { tree = record c.args.f.now.tree { nodes = c.make_inode.new.nodes } }) c.args.u.now c.args.row.now
    none)
    (handed c.enter_file-answer.new.f c.enter_file-answer.new.u c.enter_file-answer.new.row none)
    c.args.f.now.tree.nodes c.make_inode.new.nodes c.enter_file-answer.new.f.tree.nodes c.let_go.new.nodes c.in-Ok.ino
    c.in-Ok.ensures.found (c.enter_file-answer.ensures.kept none) refl refl refl c.enter_file-answer.ensures.more
    c.let_go.ensures.inodes c.let_go.ensures.rest c.enter_file-answer.ensures.blocks
