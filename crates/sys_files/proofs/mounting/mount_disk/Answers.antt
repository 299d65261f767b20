use Rattle.std.proofs.Common.{◌≡◌, Err, rules, ap, ◌∙◌, arith}
use Rattle.fs_tree.specs.Name.{name_at}
use Rattle.fs_tree.specs.Finding.{find_in}
use Rattle.mount_tab.specs.Mounted.{has_second}
use Rattle.sys_files.specs.Handed.{Handed, handed, user_of}
use Rattle.sys_files.specs.Did.{unnamed}
use Rattle.sys_files.specs.Entering.{did_of}
use Rattle.sys_files.specs.Mounting.{covers}
use Rattle.sys_files.proofs.EnteringLemmas.{rest_same, rest_from}
use Rattle.sys_files.proofs.GivingLemmas.{found_takes, found_keeps}
use Rattle.sys_files.proofs.PartLemmas.{searched, not_searched}
use Rattle.sys_files.proofs.mounting.mount_disk.Goals as goal

pub returns-in_err-dir-clause-did : goal.returns-in_err-dir-clause-did
returns-in_err-dir-clause-did g c = λ row.
    let image = g.S.Space.image c.args.space.now in
    let h : Handed = handed c.args.f.now c.args.u.now row image in
    let after : Handed = handed (record c.args.f.now { tree = c.find_name.new.tree }) c.args.u.now row image in
    let is : Err c.in_err-dir.field-0.0 ≡ c.from_residual.result = search rules in
    ap unnamed (not_searched h after (find_in h.inodes h.mounts (user_of h.u) h.u.dir (name_at h.image c.args.name))
    (covers c.args.device)
    (λ i. record h {
      inodes = c.find_name.ensures.inodes i;
      marks = c.find_name.ensures.marks i;
      mounts = c.find_name.ensures.mounts i;
    })
    c.in_err-dir.field-0.0 c.in_err-dir.ensures.found)
    ∙ ap (did_of after) is

pub returns-in_err-dir-clause-more : goal.returns-in_err-dir-clause-more
returns-in_err-dir-clause-more g c = λ i.
    let same = (found_keeps c.args.f.now.tree.nodes c.find_name.new.tree.nodes c.args.f.now.tree.mounts (user_of c.args.u.now)
    c.args.u.now.dir (name_at (g.S.Space.image c.args.space.now) c.args.name) c.in_err-dir.field-0.0
    c.in_err-dir.ensures.found c.find_name.ensures.inodes c.find_name.ensures.blocks).references i in
    omega (arith, same)

pub returns-in_err-dir-clause-rest : goal.returns-in_err-dir-clause-rest
returns-in_err-dir-clause-rest g c =
    rest_same c.args.f.now.tree.nodes.blocks c.find_name.new.tree.nodes.blocks c.find_name.ensures.blocks

pub cover-requires-clause-there : goal.cover-requires-clause-there
cover-requires-clause-there g c = λ other. ap has_second c.find_name.ensures.mounts ∙ c.requires.there other

pub returns-clause-did : goal.returns-clause-did
returns-clause-did g c = λ row.
    let image = g.S.Space.image c.args.space.now in
    let h : Handed = handed c.args.f.now c.args.u.now row image in
    let after : Handed = handed (record c.args.f.now { tree = c.find_name.new.tree }) c.args.u.now row image in
    ap unnamed (searched h after (find_in h.inodes h.mounts (user_of h.u) h.u.dir (name_at h.image c.args.name))
    (covers c.args.device)
    (λ i. record h {
      inodes = c.find_name.ensures.inodes i;
      marks = c.find_name.ensures.marks i;
      mounts = c.find_name.ensures.mounts i;
    })
    c.in_ok-dir.dir c.in_ok-dir.ensures.found)
    ∙ c.cover.ensures.did c.args.u.now row image

pub returns-clause-more : goal.returns-clause-more
returns-clause-more g c = λ i.
    let more = (found_takes c.args.f.now.tree.nodes c.find_name.new.tree.nodes c.args.f.now.tree.mounts (user_of c.args.u.now)
    c.args.u.now.dir (name_at (g.S.Space.image c.args.space.now) c.args.name) c.in_ok-dir.dir c.find_name.ensures.form
    c.requires.mounts c.requires.directory c.in_ok-dir.ensures.found c.find_name.ensures.inodes
    c.find_name.ensures.blocks).references i in
    let kept = c.cover.ensures.more i in
    omega (arith, more, kept)

pub returns-clause-rest : goal.returns-clause-rest
returns-clause-rest g c =
    rest_from c.args.f.now.tree.nodes c.find_name.new.tree.nodes c.cover.new.f.tree.nodes c.find_name.ensures.blocks
    c.cover.ensures.rest
