use Rattle.std.proofs.Common.{◌≡◌, [], Ok, Err, rules, refl, sym, ap, ◌∙◌, subst, arith}
use Rattle.fs_tree.specs.Name.{name_at}
use Rattle.fs_tree.specs.Finding.{find_in}
use Rattle.sys_files.specs.Handed.{Handed, handed, user_of, let_go}
use Rattle.sys_files.specs.Did.{unnamed}
use Rattle.sys_files.specs.Entering.{did_of}
use Rattle.sys_files.specs.Mounting.{unmounts_named, umount_off}
use Rattle.sys_files.proofs.AnyLemmas.{any_row}
use Rattle.sys_files.proofs.EnteringLemmas.{rest_same, rest_from, rest_after}
use Rattle.sys_files.proofs.GivingLemmas.{found_keeps}
use Rattle.sys_files.proofs.KeptLemmas.{kept_references}
use Rattle.sys_files.proofs.OwedLemmas.{directory_referred}
use Rattle.sys_files.proofs.OwingLemmas.{IsKeptBut, can_find}
use Rattle.sys_files.proofs.PartLemmas.{searched, not_searched}
use Rattle.sys_files.proofs.MountingLemmas.{kept_as_told, unmounts_at, covered_referred, left_kept, umount_kept}
use Rattle.sys_files.proofs.mounting.unmount.Goals as goal

pub find_name-requires-clause-directory : goal.find_name-requires-clause-directory
find_name-requires-clause-directory g c =
    directory_referred (handed c.args.f.now c.args.u.now any_row (g.S.Space.image c.args.space.now)) (c.requires.sound any_row)

pub find_name-requires-clause-few : goal.find_name-requires-clause-few
find_name-requires-clause-few g c = λ i. let few = (c.requires.sound any_row).few i in omega (arith, few)

pub find_name-requires-clause-mounts : goal.find_name-requires-clause-mounts
find_name-requires-clause-mounts g c = (c.requires.sound any_row).mounts

pub returns-in_err-node-clause-did : goal.returns-in_err-node-clause-did
returns-in_err-node-clause-did g c = λ row.
    let image = g.S.Space.image c.args.space.now in
    let h : Handed = handed c.args.f.now c.args.u.now row image in
    let after : Handed = handed (record c.args.f.now { tree = c.find_name.new.tree }) c.args.u.now row image in
    let is : Err c.in_err-node.field-0.0 ≡ c.from_residual.result = search rules in
    ap unnamed (not_searched h after (find_in h.inodes h.mounts (user_of h.u) h.u.dir (name_at h.image c.args.special))
    unmounts_named
    (λ i. record h {
      inodes = c.find_name.ensures.inodes i;
      marks = c.find_name.ensures.marks i;
      mounts = c.find_name.ensures.mounts i;
    })
    c.in_err-node.field-0.0 c.in_err-node.ensures.found)
    ∙ ap (did_of after) is

pub returns-in_err-node-clause-kept : goal.returns-in_err-node-clause-kept
returns-in_err-node-clause-kept g c = λ row.
    let image = g.S.Space.image c.args.space.now in
    let same = found_keeps c.args.f.now.tree.nodes c.find_name.new.tree.nodes c.args.f.now.tree.mounts (user_of c.args.u.now)
    c.args.u.now.dir (name_at image c.args.special) c.in_err-node.field-0.0 c.in_err-node.ensures.found
    c.find_name.ensures.inodes c.find_name.ensures.blocks in
    kept_references (handed c.args.f.now c.args.u.now row image)
    (handed (record c.args.f.now { tree = c.find_name.new.tree }) c.args.u.now row image) (c.requires.sound row) refl refl refl
    refl
    c.find_name.ensures.mounts same.references same.counts

pub returns-in_err-node-clause-rest : goal.returns-in_err-node-clause-rest
returns-in_err-node-clause-rest g c =
    rest_same c.args.f.now.tree.nodes.blocks c.find_name.new.tree.nodes.blocks c.find_name.ensures.blocks

pub returns-in_err-device-clause-did : goal.returns-in_err-device-clause-did
returns-in_err-device-clause-did g c = λ row.
    let image = g.S.Space.image c.args.space.now in
    let h : Handed = handed c.args.f.now c.args.u.now row image in
    let after : Handed = handed (record c.args.f.now { tree = c.find_name.new.tree }) c.args.u.now row image in
    let rest : Handed = handed c.leave_special.new.f c.args.u.now row image in
    let is : Err c.in_err-device.field-0.0 ≡ c.from_residual-in_err-device.result = search rules in
    ap unnamed (searched h after (find_in h.inodes h.mounts (user_of h.u) h.u.dir (name_at h.image c.args.special))
    unmounts_named
    (λ i. record h {
      inodes = c.find_name.ensures.inodes i;
      marks = c.find_name.ensures.marks i;
      mounts = c.find_name.ensures.mounts i;
    })
    c.in_ok-node.node c.in_ok-node.ensures.found)
    ∙ unmounts_at after rest c.in_ok-node.node (Err c.in_err-device.field-0.0)
    (c.leave_special.ensures.state c.args.u.now row image)
    (c.in_err-device.ensures.disk c.args.u.now row image)
    ∙ ap (did_of rest) is

pub returns-in_err-device-clause-kept : goal.returns-in_err-device-clause-kept
returns-in_err-device-clause-kept g c = λ row.
    let image = g.S.Space.image c.args.space.now in
    let h : Handed = handed c.args.f.now c.args.u.now row image in
    let after : Handed = handed (record c.args.f.now { tree = c.find_name.new.tree }) c.args.u.now row image in
    let rest : Handed = handed c.leave_special.new.f c.args.u.now row image in
    let did : unnamed (umount_off h c.args.special) ≡ did_of rest (Err c.in_err-device.field-0.0) =
    ap unnamed (searched h after (find_in h.inodes h.mounts (user_of h.u) h.u.dir (name_at h.image c.args.special))
    unmounts_named
    (λ i. record h {
      inodes = c.find_name.ensures.inodes i;
      marks = c.find_name.ensures.marks i;
      mounts = c.find_name.ensures.mounts i;
    })
    c.in_ok-node.node c.in_ok-node.ensures.found)
    ∙ unmounts_at after rest c.in_ok-node.node (Err c.in_err-device.field-0.0)
    (c.leave_special.ensures.state c.args.u.now row image)
    (c.in_err-device.ensures.disk c.args.u.now row image) in
    kept_as_told h rest (umount_off h c.args.special) (Err c.in_err-device.field-0.0) did
    (umount_kept h (c.requires.sound row) c.args.special
    (can_find c.args.f.now.tree.nodes h c.args.special refl c.find_name.ensures.form (c.requires.sound row)))

pub returns-in_err-device-clause-rest : goal.returns-in_err-device-clause-rest
returns-in_err-device-clause-rest g c =
    rest_from c.args.f.now.tree.nodes c.find_name.new.tree.nodes c.leave_special.new.f.tree.nodes c.find_name.ensures.blocks
    c.leave_special.ensures.rest

pub unmount_disk-requires : goal.unmount_disk-requires
unmount_disk-requires g c = λ dir is.
    let image = g.S.Space.image c.args.space.now in
    let h : Handed = handed c.args.f.now c.args.u.now any_row image in
    let rest : Handed = handed c.leave_special.new.f c.args.u.now any_row image in
    let sound = c.requires.sound any_row in
    let left : rest ≡ let_go (record h {
      inodes = (find_in h.inodes h.mounts (user_of h.u) h.u.dir (name_at h.image c.args.special)).inodes;
    }) c.in_ok-node.node =
    c.leave_special.ensures.state c.args.u.now any_row image
    ∙ (λ i. let_go (record h {
      inodes = c.find_name.ensures.inodes i;
      marks = c.find_name.ensures.marks i;
      mounts = c.find_name.ensures.mounts i;
    }) c.in_ok-node.node) in
    let can = can_find c.args.f.now.tree.nodes h c.args.special refl c.find_name.ensures.form sound in
    let P : Handed → Type 0 = λ x. IsKeptBut h x [] in
    covered_referred h sound rest dir
    (subst P (sym left) (left_kept h sound c.args.special c.in_ok-node.node can (sym c.in_ok-node.ensures.found))) is

pub returns-clause-did : goal.returns-clause-did
returns-clause-did g c = λ row.
    let image = g.S.Space.image c.args.space.now in
    let h : Handed = handed c.args.f.now c.args.u.now row image in
    let after : Handed = handed (record c.args.f.now { tree = c.find_name.new.tree }) c.args.u.now row image in
    let rest : Handed = handed c.leave_special.new.f c.args.u.now row image in
    ap unnamed (searched h after (find_in h.inodes h.mounts (user_of h.u) h.u.dir (name_at h.image c.args.special))
    unmounts_named
    (λ i. record h {
      inodes = c.find_name.ensures.inodes i;
      marks = c.find_name.ensures.marks i;
      mounts = c.find_name.ensures.mounts i;
    })
    c.in_ok-node.node c.in_ok-node.ensures.found)
    ∙ unmounts_at after rest c.in_ok-node.node (Ok c.in_ok-device.device) (c.leave_special.ensures.state c.args.u.now row image)
    (c.in_ok-device.ensures.disk c.args.u.now row image)
    ∙ c.unmount_disk.ensures.did c.args.u.now row image

pub returns-clause-kept : goal.returns-clause-kept
returns-clause-kept g c = λ row.
    let image = g.S.Space.image c.args.space.now in
    let h : Handed = handed c.args.f.now c.args.u.now row image in
    let after : Handed = handed (record c.args.f.now { tree = c.find_name.new.tree }) c.args.u.now row image in
    let rest : Handed = handed c.leave_special.new.f c.args.u.now row image in
    let end : Handed = handed c.unmount_disk.new.f c.args.u.now row image in
    let did : unnamed (umount_off h c.args.special) ≡ did_of end c.unmount_disk.result =
    ap unnamed (searched h after (find_in h.inodes h.mounts (user_of h.u) h.u.dir (name_at h.image c.args.special))
    unmounts_named
    (λ i. record h {
      inodes = c.find_name.ensures.inodes i;
      marks = c.find_name.ensures.marks i;
      mounts = c.find_name.ensures.mounts i;
    })
    c.in_ok-node.node c.in_ok-node.ensures.found)
    ∙ unmounts_at after rest c.in_ok-node.node (Ok c.in_ok-device.device) (c.leave_special.ensures.state c.args.u.now row image)
    (c.in_ok-device.ensures.disk c.args.u.now row image)
    ∙ c.unmount_disk.ensures.did c.args.u.now row image in
    kept_as_told h end (umount_off h c.args.special) c.unmount_disk.result did
    (umount_kept h (c.requires.sound row) c.args.special
    (can_find c.args.f.now.tree.nodes h c.args.special refl c.find_name.ensures.form (c.requires.sound row)))

pub returns-clause-rest : goal.returns-clause-rest
returns-clause-rest g c =
    rest_after c.args.f.now.tree.nodes c.find_name.new.tree.nodes c.leave_special.new.f.tree.nodes
    c.unmount_disk.new.f.tree.nodes
    c.find_name.ensures.blocks c.leave_special.ensures.rest c.unmount_disk.ensures.rest
