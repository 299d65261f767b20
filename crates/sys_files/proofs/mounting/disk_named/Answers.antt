use Rattle.std.proofs.Common.{sym, ◌∙◌}
use Rattle.sys_files.specs.Handed.{handed}
use Rattle.sys_files.proofs.MountingLemmas.{no_block, no_disk, is_named}
use Rattle.sys_files.proofs.mounting.disk_named.Goals as goal

pub returns-then-not-is_block_device : goal.returns-then-not-is_block_device
returns-then-not-is_block_device c = λ u row image.
    let shown = c.inode_of-inode.ensures in
    sym (no_block (handed c.args.f.now u row image) c.args.special c.inode_of-inode.result shown
    (sym (c.is_block_device.ensures shown.0 shown.2) ∙ c.if-not-is_block_device.true))

pub returns-then-not-is_disk : goal.returns-then-not-is_disk
returns-then-not-is_disk c = λ u row image.
    let shown = c.inode_of-inode.ensures in
    sym (no_disk (handed c.args.f.now u row image) c.args.special c.inode_of-inode.result shown
    (sym (c.is_block_device.ensures shown.0 shown.2) ∙ c.if-not-is_block_device.false)
    c.device_number-device.result c.device_number-device.ensures (sym (c.is_disk.ensures u row image) ∙ c.if-not-is_disk.true))

pub returns : goal.returns
returns c = λ u row image.
    let shown = c.inode_of-inode.ensures in
    sym (is_named (handed c.args.f.now u row image) c.args.special c.inode_of-inode.result shown
    (sym (c.is_block_device.ensures shown.0 shown.2) ∙ c.if-not-is_block_device.false)
    c.device_number-device.result c.device_number-device.ensures (sym (c.is_disk.ensures u row image) ∙ c.if-not-is_disk.false))
