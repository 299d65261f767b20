use Rattle.std.proofs.Common.{◌≡◌, Err, rules, refl, ap, ◌∙◌, arith}
use Rattle.fs_nodes.specs.Keys.{counts}
use Rattle.fs_tree.specs.Name.{name_at}
use Rattle.fs_tree.specs.Finding.{inodes_of, find_in}
use Rattle.sys_files.specs.Handed.{Handed, handed, user_of, with_inodes}
use Rattle.sys_files.specs.Did.{unnamed, until_end}
use Rattle.sys_files.specs.Entering.{did_of}
use Rattle.sys_files.specs.Mounting.{mounts_found, mount_on}
use Rattle.sys_files.proofs.AnyLemmas.{any_row}
use Rattle.sys_files.proofs.EnteringLemmas.{rest_same, rest_after}
use Rattle.sys_files.proofs.GivingLemmas.{found_takes, found_keeps, still_few}
use Rattle.sys_files.proofs.KeptLemmas.{still_mounts, kept_references}
use Rattle.sys_files.proofs.OwedLemmas.{directory_referred}
use Rattle.sys_files.proofs.OwingLemmas.{can_find}
use Rattle.sys_files.proofs.PartLemmas.{searched, not_searched, until}
use Rattle.sys_files.proofs.MountingLemmas.{kept_as_told, mount_kept, can_find_again}
use Rattle.sys_files.proofs.mounting.mount.Goals as goal

pub find_name-requires-clause-directory : goal.find_name-requires-clause-directory
find_name-requires-clause-directory g c =
    directory_referred (handed c.args.f.now c.args.u.now any_row (g.S.Space.image c.args.space.now)) (c.requires.sound any_row)

pub find_name-requires-clause-few : goal.find_name-requires-clause-few
find_name-requires-clause-few g c = λ i. let few = (c.requires.sound any_row).few i in omega (arith, few)

pub find_name-requires-clause-mounts : goal.find_name-requires-clause-mounts
find_name-requires-clause-mounts g c = (c.requires.sound any_row).mounts

pub returns-in_err-node-clause-did : goal.returns-in_err-node-clause-did
returns-in_err-node-clause-did g c = λ row.
    let image = g.S.Space.image c.args.space.now in
    let h : Handed = handed c.args.f.now c.args.u.now row image in
    let after : Handed = handed (record c.args.f.now { tree = c.find_name.new.tree }) c.args.u.now row image in
    let is : Err c.in_err-node.field-0.0 ≡ c.from_residual.result = search rules in
    ap unnamed (not_searched h after (find_in h.inodes h.mounts (user_of h.u) h.u.dir (name_at h.image c.args.special))
    (λ now node. until_end node (mounts_found c.args.name now node))
    (λ i. record h {
      inodes = c.find_name.ensures.inodes i;
      marks = c.find_name.ensures.marks i;
      mounts = c.find_name.ensures.mounts i;
    })
    c.in_err-node.field-0.0 c.in_err-node.ensures.found)
    ∙ ap (did_of after) is

pub returns-in_err-node-clause-kept : goal.returns-in_err-node-clause-kept
returns-in_err-node-clause-kept g c = λ row.
    let image = g.S.Space.image c.args.space.now in
    let same = found_keeps c.args.f.now.tree.nodes c.find_name.new.tree.nodes c.args.f.now.tree.mounts (user_of c.args.u.now)
    c.args.u.now.dir (name_at image c.args.special) c.in_err-node.field-0.0 c.in_err-node.ensures.found
    c.find_name.ensures.inodes c.find_name.ensures.blocks in
    kept_references (handed c.args.f.now c.args.u.now row image)
    (handed (record c.args.f.now { tree = c.find_name.new.tree }) c.args.u.now row image) (c.requires.sound row) refl refl refl
    refl
    c.find_name.ensures.mounts same.references same.counts

pub returns-in_err-node-clause-rest : goal.returns-in_err-node-clause-rest
returns-in_err-node-clause-rest g c =
    rest_same c.args.f.now.tree.nodes.blocks c.find_name.new.tree.nodes.blocks c.find_name.ensures.blocks

pub mount_found-result-requires-clause-directory : goal.mount_found-result-requires-clause-directory
mount_found-result-requires-clause-directory g c =
    let more = (found_takes c.args.f.now.tree.nodes c.find_name.new.tree.nodes c.args.f.now.tree.mounts (user_of c.args.u.now)
    c.args.u.now.dir (name_at (g.S.Space.image c.args.space.now) c.args.special) c.in_ok-node.node c.find_name.ensures.form
    (c.requires.sound any_row).mounts
    (directory_referred (handed c.args.f.now c.args.u.now any_row (g.S.Space.image c.args.space.now))
    (c.requires.sound any_row))
    c.in_ok-node.ensures.found c.find_name.ensures.inodes c.find_name.ensures.blocks).references
    c.args.u.now.dir in
    let some = directory_referred (handed c.args.f.now c.args.u.now any_row (g.S.Space.image c.args.space.now))
    (c.requires.sound any_row) in
    omega (arith, more, some)

pub mount_found-result-requires-clause-few : goal.mount_found-result-requires-clause-few
mount_found-result-requires-clause-few g c =
    still_few c.args.f.now.tree.nodes c.find_name.new.tree.nodes c.in_ok-node.node
    (found_takes c.args.f.now.tree.nodes c.find_name.new.tree.nodes c.args.f.now.tree.mounts (user_of c.args.u.now)
    c.args.u.now.dir (name_at (g.S.Space.image c.args.space.now) c.args.special) c.in_ok-node.node c.find_name.ensures.form
    (c.requires.sound any_row).mounts
    (directory_referred (handed c.args.f.now c.args.u.now any_row (g.S.Space.image c.args.space.now))
    (c.requires.sound any_row))
    c.in_ok-node.ensures.found c.find_name.ensures.inodes c.find_name.ensures.blocks) (c.requires.sound any_row).few

pub mount_found-result-requires-clause-mounts : goal.mount_found-result-requires-clause-mounts
mount_found-result-requires-clause-mounts g c =
    still_mounts c.args.f.now.tree.mounts c.find_name.new.tree.mounts c.args.f.now.tree.nodes.store
    c.find_name.new.tree.nodes.store
    c.find_name.ensures.mounts (ap counts c.find_name.ensures.store) (c.requires.sound any_row).mounts

pub let_go-requires : goal.let_go-requires
let_go-requires g c =
    let some = c.in_ok-node.ensures.referred in
    let more = c.mount_found-result.ensures.more c.in_ok-node.node in
    record { referenced = omega (arith, some, more) }

pub returns-clause-did : goal.returns-clause-did
returns-clause-did g c = λ row.
    let image = g.S.Space.image c.args.space.now in
    let h : Handed = handed c.args.f.now c.args.u.now row image in
    let after : Handed = handed (record c.args.f.now { tree = c.find_name.new.tree }) c.args.u.now row image in
    let end : Handed = handed c.mount_found-result.new.f c.args.u.now row image in
    ap unnamed (searched h after (find_in h.inodes h.mounts (user_of h.u) h.u.dir (name_at h.image c.args.special))
    (λ now node. until_end node (mounts_found c.args.name now node))
    (λ i. record h {
      inodes = c.find_name.ensures.inodes i;
      marks = c.find_name.ensures.marks i;
      mounts = c.find_name.ensures.mounts i;
    })
    c.in_ok-node.node c.in_ok-node.ensures.found)
    ∙ until end c.in_ok-node.node (mounts_found c.args.name after c.in_ok-node.node) c.mount_found-result.result
    (inodes_of c.let_go.new.nodes) (c.mount_found-result.ensures.did row) c.let_go.ensures.inodes

pub returns-clause-kept : goal.returns-clause-kept
returns-clause-kept g c = λ row.
    let image = g.S.Space.image c.args.space.now in
    let h : Handed = handed c.args.f.now c.args.u.now row image in
    let after : Handed = handed (record c.args.f.now { tree = c.find_name.new.tree }) c.args.u.now row image in
    let end : Handed = handed c.mount_found-result.new.f c.args.u.now row image in
    let can = can_find c.args.f.now.tree.nodes h c.args.special refl c.find_name.ensures.form (c.requires.sound row) in
    let did : unnamed (mount_on h c.args.special c.args.name)
    ≡ did_of (with_inodes end (inodes_of c.let_go.new.nodes)) c.mount_found-result.result =
    ap unnamed (searched h after (find_in h.inodes h.mounts (user_of h.u) h.u.dir (name_at h.image c.args.special))
    (λ now node. until_end node (mounts_found c.args.name now node))
    (λ i. record h {
      inodes = c.find_name.ensures.inodes i;
      marks = c.find_name.ensures.marks i;
      mounts = c.find_name.ensures.mounts i;
    })
    c.in_ok-node.node c.in_ok-node.ensures.found)
    ∙ until end c.in_ok-node.node (mounts_found c.args.name after c.in_ok-node.node) c.mount_found-result.result
    (inodes_of c.let_go.new.nodes) (c.mount_found-result.ensures.did row) c.let_go.ensures.inodes in
    kept_as_told h (with_inodes end (inodes_of c.let_go.new.nodes)) (mount_on h c.args.special c.args.name)
    c.mount_found-result.result did
    (mount_kept h (c.requires.sound row) c.args.special c.args.name can
    (λ node ok. can_find_again h (c.requires.sound row) c.find_name.new.tree.nodes c.args.special node c.args.name can ok
    c.find_name.ensures.inodes c.mount_found-result.ensures.form))

pub returns-clause-rest : goal.returns-clause-rest
returns-clause-rest g c =
    rest_after c.args.f.now.tree.nodes c.find_name.new.tree.nodes c.mount_found-result.new.f.tree.nodes c.let_go.new.nodes
    c.find_name.ensures.blocks c.mount_found-result.ensures.rest c.let_go.ensures.rest
