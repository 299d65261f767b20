use Rattle.std.proofs.Common.{◌≡◌, ℕ, Result, Err, rules, sym, ap, ◌∙◌}
use Rattle.v6_base.specs.declared.errno.Errno.{Errno}
use Rattle.sys_files.specs.Handed.{Handed, handed}
use Rattle.sys_files.specs.Did.{unnamed, check}
use Rattle.sys_files.specs.Entering.{did_of}
use Rattle.sys_files.specs.Mounting.{mounts_disk}
use Rattle.sys_files.proofs.AnyLemmas.{any_row}
use Rattle.sys_files.proofs.MountingLemmas.{disk_there}
use Rattle.sys_files.proofs.mounting.mount_found.Goals as goal

pub returns-in_err-device-clause-did : goal.returns-in_err-device-clause-did
returns-in_err-device-clause-did g c = λ row.
    let image = g.S.Space.image c.args.space.now in
    let h : Handed = handed c.args.f.now c.args.u.now row image in
    let is : Err c.in_err-device.field-0.0 ≡ c.from_residual.result = search rules in
    ap (λ (d : Result ℕ Errno). unnamed (check h d (mounts_disk c.args.name h)))
    (sym (c.in_err-device.ensures c.args.u.now row image))
    ∙ ap (did_of h) is

pub mount_disk-requires-clause-there : goal.mount_disk-requires-clause-there
mount_disk-requires-clause-there g c = λ other.
    let image = g.S.Space.image c.args.space.now in
    disk_there (handed c.args.f.now c.args.u.now any_row image) c.args.special c.in_ok-device.device
    (sym (c.in_ok-device.ensures c.args.u.now any_row image)) other

pub returns-clause-did : goal.returns-clause-did
returns-clause-did g c = λ row.
    let image = g.S.Space.image c.args.space.now in
    let h : Handed = handed c.args.f.now c.args.u.now row image in
    ap (λ (d : Result ℕ Errno). unnamed (check h d (mounts_disk c.args.name h)))
    (sym (c.in_ok-device.ensures c.args.u.now row image))
    ∙ c.mount_disk.ensures.did row
