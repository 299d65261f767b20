use Rattle.std.proofs.Common.{◌≡◌, Err, rules, ap, ◌∙◌}
use Rattle.fs_nodes.specs.Keys.{counts}
use Rattle.fs_tree.specs.Name.{name_at}
use Rattle.fs_tree.specs.Finding.{inodes_of, find_in}
use Rattle.sys_files.specs.Handed.{Handed, handed, user_of}
use Rattle.sys_files.specs.Did.{unnamed, until_end}
use Rattle.sys_files.specs.Entering.{did_of}
use Rattle.sys_files.specs.Making.{links_to}
use Rattle.sys_files.proofs.GivingLemmas.{found_takes, found_keeps, still_few, takes_keeps_gives}
use Rattle.sys_files.proofs.KeptLemmas.{still_mounts}
use Rattle.sys_files.proofs.PartLemmas.{searched, not_searched, until}
use Rattle.sys_files.proofs.linking.link.Goals as goal

pub returns-in_err-ino-clause-did : goal.returns-in_err-ino-clause-did
returns-in_err-ino-clause-did g c = λ row.
    let h : Handed = handed c.args.f.now c.args.u.now row (g.S.Space.image c.args.space.now) in
    let after : Handed = handed (record c.args.f.now { tree = c.find_name.new.tree }) c.args.u.now row
    (g.S.Space.image c.args.space.now) in
    let is : Err c.in_err-ino.field-0.0 ≡ c.from_residual.result = search rules in
    ap unnamed (not_searched h after (find_in h.inodes h.mounts (user_of h.u) h.u.dir (name_at h.image c.args.name))
    (λ now ino. until_end ino (links_to c.args.new c.args.now now ino))
    (λ i. record h {
      inodes = c.find_name.ensures.inodes i;
      marks = c.find_name.ensures.marks i;
      mounts = c.find_name.ensures.mounts i;
    })
    c.in_err-ino.field-0.0 c.in_err-ino.ensures.found)
    ∙ ap (did_of after) is

pub returns-clause-did : goal.returns-clause-did
returns-clause-did g c = λ row.
    let h : Handed = handed c.args.f.now c.args.u.now row (g.S.Space.image c.args.space.now) in
    let after : Handed = handed (record c.args.f.now { tree = c.find_name.new.tree }) c.args.u.now row
    (g.S.Space.image c.args.space.now) in
    ap unnamed (searched h after (find_in h.inodes h.mounts (user_of h.u) h.u.dir (name_at h.image c.args.name))
    (λ now ino. until_end ino (links_to c.args.new c.args.now now ino))
    (λ i. record h {
      inodes = c.find_name.ensures.inodes i;
      marks = c.find_name.ensures.marks i;
      mounts = c.find_name.ensures.mounts i;
    })
    c.in_ok-ino.ino c.in_ok-ino.ensures.found)
    ∙ until (handed c.link_to-result.new.f c.args.u.now row (g.S.Space.image c.args.space.now)) c.in_ok-ino.ino
    (links_to c.args.new c.args.now after c.in_ok-ino.ino) c.link_to-result.result (inodes_of c.let_go.new.nodes)
    (c.link_to-result.ensures.did row) c.let_go.ensures.inodes

pub link_to-result-requires-clause-mounts : goal.link_to-result-requires-clause-mounts
link_to-result-requires-clause-mounts g c =
    still_mounts c.args.f.now.tree.mounts c.find_name.new.tree.mounts c.args.f.now.tree.nodes.store
    c.find_name.new.tree.nodes.store
    c.find_name.ensures.mounts (ap counts c.find_name.ensures.store) c.requires.mounts

pub returns-in_err-ino-clause-kept : goal.returns-in_err-ino-clause-kept
returns-in_err-ino-clause-kept g c =
    found_keeps c.args.f.now.tree.nodes c.find_name.new.tree.nodes c.args.f.now.tree.mounts (user_of c.args.u.now)
    c.args.u.now.dir
    (name_at (g.S.Space.image c.args.space.now) c.args.name) c.in_err-ino.field-0.0
    c.in_err-ino.ensures.found c.find_name.ensures.inodes c.find_name.ensures.blocks

pub link_to-result-requires-clause-few : goal.link_to-result-requires-clause-few
link_to-result-requires-clause-few g c =
    still_few c.args.f.now.tree.nodes c.find_name.new.tree.nodes c.in_ok-ino.ino
    (found_takes c.args.f.now.tree.nodes c.find_name.new.tree.nodes c.args.f.now.tree.mounts (user_of c.args.u.now)
    c.args.u.now.dir
    (name_at (g.S.Space.image c.args.space.now) c.args.name) c.in_ok-ino.ino
    c.find_name.ensures.form c.requires.mounts c.requires.directory c.in_ok-ino.ensures.found c.find_name.ensures.inodes
    c.find_name.ensures.blocks) c.requires.few

pub returns-clause-kept : goal.returns-clause-kept
returns-clause-kept g c =
    takes_keeps_gives c.args.f.now.tree.nodes c.find_name.new.tree.nodes c.link_to-result.new.f.tree.nodes
    c.let_go.new.nodes c.in_ok-ino.ino
    (found_takes c.args.f.now.tree.nodes c.find_name.new.tree.nodes c.args.f.now.tree.mounts (user_of c.args.u.now)
    c.args.u.now.dir
    (name_at (g.S.Space.image c.args.space.now) c.args.name) c.in_ok-ino.ino
    c.find_name.ensures.form c.requires.mounts c.requires.directory c.in_ok-ino.ensures.found c.find_name.ensures.inodes
    c.find_name.ensures.blocks)
    c.link_to-result.ensures.kept c.let_go.ensures.inodes c.let_go.ensures.rest
