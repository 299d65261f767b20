use Rattle.std.proofs.Common.{◌≡◌, ◌<◌, Err, rules, sym, ap, ◌∙◌, arith}
use Rattle.sys_files.specs.Handed.{handed, node_in}
use Rattle.sys_files.specs.Did.{unnamed}
use Rattle.sys_files.specs.Making.{enters_again}
use Rattle.sys_files.specs.Entering.{did_of}
use Rattle.sys_files.proofs.GivingLemmas.{takes_keeps_gives}
use Rattle.sys_files.proofs.PartLemmas.{unnamed_told, until}
use Rattle.sys_files.proofs.LinkingLemmas.{link_full, link_refused, link_goes}
use Rattle.sys_files.proofs.linking.link_to.Goals as goal

pub returns-then-links_of-ge-MOST_LINKS-clause-did : goal.returns-then-links_of-ge-MOST_LINKS-clause-did
returns-then-links_of-ge-MOST_LINKS-clause-did g c = λ row.
    ap unnamed (link_full (handed c.args.f.now c.args.u.now row (g.S.Space.image c.args.space.now)) c.args.name c.args.now
    c.args.ino
    (omega (arith, c.links_of.ensures, c.if-links_of-ge-MOST_LINKS.true)))

pub returns-then-not-may_link-clause-did : goal.returns-then-not-may_link-clause-did
returns-then-not-may_link-clause-did g c = λ row.
    let image = g.S.Space.image c.args.space.now in
    let few : (node_in c.args.f.now.tree.nodes.store c.args.ino).nlink < 127 =
    omega (arith, c.links_of.ensures, c.if-links_of-ge-MOST_LINKS.false) in
    ap unnamed (link_refused (handed c.args.f.now c.args.u.now row image) c.args.name c.args.now c.args.ino few
    (sym (c.may_link.ensures row image) ∙ c.if-not-may_link.true))

pub returns-in_err-room-clause-did : goal.returns-in_err-room-clause-did
returns-in_err-room-clause-did g c = λ row.
    let image = g.S.Space.image c.args.space.now in
    let few : (node_in c.args.f.now.tree.nodes.store c.args.ino).nlink < 127 =
    omega (arith, c.links_of.ensures, c.if-links_of-ge-MOST_LINKS.false) in
    let is : Err c.in_err-room.field-0.0 ≡ c.from_residual.result = search rules in
    ap unnamed (link_goes (handed c.args.f.now c.args.u.now row image) c.args.name c.args.now c.args.ino few
    (sym (c.may_link.ensures row image) ∙ c.if-not-may_link.false))
    ∙ (c.in_err-room.ensures.did row (enters_again c.args.ino c.args.now)
    ∙ ap (did_of (handed c.find_room.new.f c.args.u.now row image)) is)

pub returns-clause-did : goal.returns-clause-did
returns-clause-did g c = λ row.
    let image = g.S.Space.image c.args.space.now in
    let few : (node_in c.args.f.now.tree.nodes.store c.args.ino).nlink < 127 =
    omega (arith, c.links_of.ensures, c.if-links_of-ge-MOST_LINKS.false) in
    ap unnamed (link_goes (handed c.args.f.now c.args.u.now row image) c.args.name c.args.now c.args.ino few
    (sym (c.may_link.ensures row image) ∙ c.if-not-may_link.false))
    ∙ (c.in_ok-room.ensures.did row (enters_again c.args.ino c.args.now)
    ∙ until (handed c.enter_again-result.new.f c.args.u.now row image) c.in_ok-room.room.dir
    (enters_again c.args.ino c.args.now (handed c.find_room.new.f c.args.u.now row image) c.in_ok-room.room.dir
    c.in_ok-room.room.offset c.in_ok-room.room.name)
    c.enter_again-result.result _
    (unnamed_told (handed c.enter_again-result.new.f c.args.u.now row image)
    (enters_again c.args.ino c.args.now (handed c.find_room.new.f c.args.u.now row image) c.in_ok-room.room.dir
    c.in_ok-room.room.offset c.in_ok-room.room.name)
    c.enter_again-result.result (c.enter_again-result.ensures.did row image)) c.let_go.ensures.inodes)

pub returns-clause-kept : goal.returns-clause-kept
returns-clause-kept g c =
    takes_keeps_gives c.args.f.now.tree.nodes c.find_room.new.f.tree.nodes c.enter_again-result.new.f.tree.nodes
    c.let_go.new.nodes c.in_ok-room.room.dir c.in_ok-room.ensures.found c.enter_again-result.ensures.kept
    c.let_go.ensures.inodes c.let_go.ensures.rest
