use Rattle.std.proofs.Common.{◌≡◌, ◌∙◌, ℕ, Err, rules, ap, bit_and}
use Rattle.fs_tree.specs.Finding.{inodes_of}
use Rattle.sys_files.specs.Handed.{Handed, handed, with_inodes}
use Rattle.sys_files.specs.Did.{is_done}
use Rattle.sys_files.specs.Entering.{did_of}
use Rattle.sys_files.specs.Making.{with_device, enters_new}
use Rattle.sys_files.proofs.GivingLemmas.{takes_keeps_gives}
use Rattle.sys_files.proofs.MakingLemmas.{made_told, not_made}
use Rattle.sys_files.proofs.EnteringLemmas.{disk_has, same_disk}
use Rattle.sys_files.proofs.PartLemmas.{unnamed_told}
use Rattle.sys_files.proofs.making.make_any.Goals as goal

pub make_inode-requires-clause-there : goal.make_inode-requires-clause-there
make_inode-requires-clause-there c = λ other.
    disk_has c.args.f.now.tree.nodes c.see.ensures c.args.f.now.tree.mounts c.requires.mounts c.args.room.dir
    c.requires.entry.referenced (λ none. other (c.disk_of-dev.ensures.disk ∙ none))

pub enter_any-result-requires-clause-disk : goal.enter_any-result-requires-clause-disk
enter_any-result-requires-clause-disk c =
    same_disk c.args.f.now.tree.mounts c.args.f.now.tree.nodes.store c.disk_of-dev.result c.args.room.dir c.in_ok-ino.ino
    c.requires.mounts
    c.disk_of-dev.ensures.disk c.in_ok-ino.ensures.disk

pub returns-in_err-ino-clause-did : goal.returns-in_err-ino-clause-did
returns-in_err-ino-clause-did c = λ row image.
    let h : Handed = handed c.args.f.now c.args.u.now row image in
    let is : Err c.in_err-ino.field-0.0 ≡ c.from_residual.result = search rules in
    not_made h c.args.room.dir c.args.room.offset c.args.room.name (bit_and c.args.mode 0o167777) c.args.now
    (λ (h : Handed) (ino : ℕ). is_done (with_device h ino c.args.device)) c.user_of.result
    c.user_of.ensures c.disk_of-dev.result c.disk_of-dev.ensures.disk c.in_err-ino.field-0.0 (inodes_of c.make_inode.new.nodes)
    c.in_err-ino.ensures.answer c.make_inode.ensures.inodes
    ∙ ap (did_of (with_inodes h (inodes_of c.make_inode.new.nodes))) is

pub returns-clause-did : goal.returns-clause-did
returns-clause-did c = λ row image.
    made_told (handed c.args.f.now c.args.u.now row image) c.args.room.dir c.args.room.offset c.args.room.name
    (bit_and c.args.mode 0o167777) c.args.now
    (λ (h : Handed) (ino : ℕ). is_done (with_device h ino c.args.device)) c.user_of.result c.user_of.ensures
    c.disk_of-dev.result c.disk_of-dev.ensures.disk
    c.in_ok-ino.ino _ _ (handed c.enter_any-result.new.f c.args.u.now row image) c.enter_any-result.result
    c.in_ok-ino.ensures.answer c.make_inode.ensures.inodes
    (unnamed_told (handed c.enter_any-result.new.f c.args.u.now row image)
    (enters_new (handed (record c.args.f.now { tree = record c.args.f.now.tree { nodes = c.make_inode.new.nodes } })
    c.args.u.now row image)
    c.args.room.dir c.args.room.offset c.args.room.name c.in_ok-ino.ino c.args.now
    (λ (h : Handed) (ino : ℕ). is_done (with_device h ino c.args.device)))
    c.enter_any-result.result (c.enter_any-result.ensures.did row image)) c.let_go.ensures.inodes

pub returns-clause-kept : goal.returns-clause-kept
returns-clause-kept c =
    takes_keeps_gives c.args.f.now.tree.nodes c.make_inode.new.nodes c.enter_any-result.new.f.tree.nodes
    c.let_go.new.nodes c.in_ok-ino.ino c.in_ok-ino.ensures.found c.enter_any-result.ensures.kept
    c.let_go.ensures.inodes c.let_go.ensures.rest
