use Rattle.std.proofs.Common.{◌≡◌, ◌∙◌, ◌&&◌, not, slice_index, sym, ap}
use Rattle.u_area.specs.Area.{fetched}
use Rattle.sys_files.specs.Handed.{Handed, r0}
use Rattle.sys_files.specs.Descriptors.{open_entry}
use Rattle.abstract_unix.specs.Calls.{is_of_disk}
use Rattle.unix_core.proofs.WorldLemmas.{ready_alive}
use Rattle.unix_core.proofs.DiskReads.{entry_open, file_there, open_of_disk, closed_no_disk}
use Rattle.unix_core.proofs.process.names_disk.Goals as goal
use Rattle.unix_core.proofs.process.names_disk.Goals.{After-get}

pub area_bytes-area-requires : goal.area_bytes-area-requires
area_bytes-area-requires c = (ready_alive c.args.world.now c.args.s c.requires).image

-- the number in R0, as it is asked for
named : (c : After-get) → slice_index c.files.result c.register.result ≡ slice_index (fetched c.area_bytes-area.result.now).files (slice_index (fetched c.area_bytes-area.result.now).r 0)
named c = λ i. slice_index (c.files.ensures i) (c.register.ensures i)

pub file-file-requires : goal.file-file-requires
file-file-requires c = record {
  used = entry_open c.args.world.now c.args.s c.requires c.see.ensures c.see_table.ensures c.see_kept.ensures (fetched c.area_bytes-area.result.now) c.area_bytes-area.ensures.read
      c.in-Ok.entry (sym (named (goal.at.file-file-requires c).After-get) ∙ c.in-Ok.ensures);
}

pub is_device_at-device-requires : goal.is_device_at-device-requires
is_device_at-device-requires c = record {
  referenced = file_there c.args.world.now c.args.s c.requires c.see.ensures c.see_table.ensures c.see_kept.ensures (fetched c.area_bytes-area.result.now) c.area_bytes-area.ensures.read
      c.in-Ok.entry (sym (named (goal.at.is_device_at-device-requires c).After-get) ∙ c.in-Ok.ensures) c.file-file.result.now c.file-file.ensures;
}

pub returns-then-not-file : goal.returns-then-not-file
returns-then-not-file c h is =
    ap (λ b. not b && not c.is_device_at-device.result) (sym c.if-not-file.true)
    ∙ ap (λ d. not c.file-file.result.now.kind.pipe && not d) c.is_device_at-device.ensures
    ∙ open_of_disk c.args.world.now c.args.s c.requires c.see.ensures c.see_table.ensures c.see_kept.ensures (fetched c.area_bytes-area.result.now) c.area_bytes-area.ensures.read
    c.in-Ok.entry (sym (named (goal.at.returns-then-not-file c).After-get) ∙ c.in-Ok.ensures) c.file-file.result.now c.file-file.ensures
    ∙ ap (λ (x : Handed). is_of_disk x (open_entry x (r0 x))) (sym is)

pub returns-else-not-file : goal.returns-else-not-file
returns-else-not-file c h is =
    ap (λ b. not b) c.if-not-file.false
    ∙ ap (λ b. not b && not c.is_device_at-device.result) (sym c.if-not-file.false)
    ∙ ap (λ d. not c.file-file.result.now.kind.pipe && not d) c.is_device_at-device.ensures
    ∙ open_of_disk c.args.world.now c.args.s c.requires c.see.ensures c.see_table.ensures c.see_kept.ensures (fetched c.area_bytes-area.result.now) c.area_bytes-area.ensures.read
    c.in-Ok.entry (sym (named (goal.at.returns-else-not-file c).After-get) ∙ c.in-Ok.ensures) c.file-file.result.now c.file-file.ensures
    ∙ ap (λ (x : Handed). is_of_disk x (open_entry x (r0 x))) (sym is)

pub returns-in-Err : goal.returns-in-Err
returns-in-Err c h is =
    closed_no_disk c.args.world.now c.args.s c.requires c.see.ensures c.see_table.ensures c.see_kept.ensures (fetched c.area_bytes-area.result.now) c.area_bytes-area.ensures.read
    (sym (named (goal.at.returns-in-Err c).After-get) ∙ c.in-Err.ensures.1)
    ∙ ap (λ (x : Handed). is_of_disk x (open_entry x (r0 x))) (sym is)
