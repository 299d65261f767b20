use Rattle.std.proofs.Common.{◌≡◌, Err, rules, ap, ◌∙◌}
use Rattle.fs_nodes.specs.Keys.{counts}
use Rattle.sys_files.specs.Handed.{handed}
use Rattle.sys_files.specs.Did.{unnamed}
use Rattle.sys_files.specs.Making.{makes_any}
use Rattle.sys_files.specs.Entering.{did_of}
use Rattle.sys_files.proofs.GivingLemmas.{takes_keeps_gives}
use Rattle.sys_files.proofs.KeptLemmas.{still_mounts}
use Rattle.sys_files.proofs.PartLemmas.{until}
use Rattle.sys_files.proofs.MakingLemmas.{mknod_goes, mknod_refused}
use Rattle.sys_files.proofs.making.mknod.Goals as goal

pub returns-then-u-ne0-clause-did : goal.returns-then-u-ne0-clause-did
returns-then-u-ne0-clause-did g c = λ row.
    ap unnamed (mknod_refused (handed c.args.f.now c.args.u.now row (g.S.Space.image c.args.space.now)) c.args.name c.args.mode
    c.args.device c.args.now c.if-u-ne0.true)

pub make_any-result-requires-clause-mounts : goal.make_any-result-requires-clause-mounts
make_any-result-requires-clause-mounts g c =
    still_mounts c.args.f.now.tree.mounts c.find_room.new.f.tree.mounts c.args.f.now.tree.nodes.store
    c.find_room.new.f.tree.nodes.store
    c.find_room.ensures.mounts (ap counts c.in_ok-room.ensures.same) c.requires.mounts

pub returns-in_err-room-clause-did : goal.returns-in_err-room-clause-did
returns-in_err-room-clause-did g c = λ row.
    let is : Err c.in_err-room.field-0.0 ≡ c.from_residual.result = search rules in
    ap unnamed (mknod_goes (handed c.args.f.now c.args.u.now row (g.S.Space.image c.args.space.now)) c.args.name c.args.mode
    c.args.device c.args.now c.if-u-ne0.false)
    ∙ (c.in_err-room.ensures.did row (makes_any c.args.mode c.args.device c.args.now)
    ∙ ap (did_of (handed c.find_room.new.f c.args.u.now row (g.S.Space.image c.args.space.now))) is)

pub returns-clause-did : goal.returns-clause-did
returns-clause-did g c = λ row.
    let image = g.S.Space.image c.args.space.now in
    ap unnamed (mknod_goes (handed c.args.f.now c.args.u.now row image) c.args.name c.args.mode c.args.device c.args.now
    c.if-u-ne0.false)
    ∙ (c.in_ok-room.ensures.did row (makes_any c.args.mode c.args.device c.args.now)
    ∙ until (handed c.make_any-result.new.f c.args.u.now row image) c.in_ok-room.room.dir
    (makes_any c.args.mode c.args.device c.args.now (handed c.find_room.new.f c.args.u.now row image)
    c.in_ok-room.room.dir c.in_ok-room.room.offset c.in_ok-room.room.name)
    c.make_any-result.result _ (c.make_any-result.ensures.did row image) c.let_go.ensures.inodes)

pub returns-clause-kept : goal.returns-clause-kept
returns-clause-kept g c =
    takes_keeps_gives c.args.f.now.tree.nodes c.find_room.new.f.tree.nodes c.make_any-result.new.f.tree.nodes
    c.let_go.new.nodes c.in_ok-room.room.dir c.in_ok-room.ensures.found c.make_any-result.ensures.kept
    c.let_go.ensures.inodes c.let_go.ensures.rest
