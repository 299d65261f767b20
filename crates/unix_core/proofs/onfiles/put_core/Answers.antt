use Rattle.std.proofs.Common.{◌∙◌, refl, ap}
use Rattle.v6_base.specs.Image.{Image}
use Rattle.proc_tab.specs.declared.row.Row.{Row}
use Rattle.proc_tab.specs.Processes.{row_at}
use Rattle.image_keep.specs.Kept.{image_of}
use Rattle.sys_files.specs.Handed.{handed}
use Rattle.sys_files.specs.Core.{core_file, is_written}
use Rattle.unix_core.specs.declared.world.World.{World}
use Rattle.abstract_unix.specs.Unix.{process_of}
use Rattle.unix_core.specs.Parts.{unix_of}
use Rattle.unix_core.proofs.LoanLemmas.{same_kept}
use Rattle.unix_core.proofs.AreaLemmas.{none_pending}
use Rattle.unix_core.proofs.WorldLemmas.{sound_parts}
use Rattle.unix_core.proofs.LeavingLemmas.{area_is, lends, lent_parts, dumped_unix, dumped_ready, dumped_user}
use Rattle.unix_core.proofs.onfiles.put_core.Goals as goal

pub area-u-requires : goal.area-u-requires
area-u-requires c = c.requires.ready.good.running c.args.s c.requires.ready.runs c.requires.ready.user

pub space-space-requires : goal.space-space-requires
space-space-requires c = c.requires.ready.good.running c.args.s c.requires.ready.runs c.requires.ready.user

pub write_core-requires-clause-sound : goal.write_core-requires-clause-sound
write_core-requires-clause-sound c row =
    let w : World = c.args.world.now in
    let image : Image = image_of c.space-space.result.images.now.kept c.space-space.result.slot in
    sound_parts w c.args.s (handed w.files c.area-u.result row image) c.requires.ready c.see_table.ensures c.area-u.ensures.holds refl refl
    (area_is w c.args.s c.area-u.result c.requires.ready c.area-u.ensures.u) refl refl refl

pub returns-clause-whole : goal.returns-clause-whole
returns-clause-whole c =
    let w : World = c.args.world.now in
    let row : Row = row_at w.procs.rows c.args.s in
    let lent = lends w c.args.s {r = row} _ _ c.requires.ready c.see.ensures c.area-u.ensures.sizes c.area-u.ensures.holds c.area-u.ensures.u refl
    (same_kept c.space-space.ensures.images) c.space-space.ensures.slot in
    c.write_core.ensures.whole row ∙ ap (λ h. is_written (core_file h w.procs.table.now).answer) (lent_parts w c.args.s lent)

pub returns-clause-unix : goal.returns-clause-unix
returns-clause-unix c =
    let w : World = c.args.world.now in
    let row : Row = row_at w.procs.rows c.args.s in
    let lent = lends w c.args.s {r = row} _ _ c.requires.ready c.see.ensures c.area-u.ensures.sizes c.area-u.ensures.holds c.area-u.ensures.u refl
    (same_kept c.space-space.ensures.images) c.space-space.ensures.slot in
    dumped_unix w c.args.s lent (none_pending (process_of (unix_of w) c.args.s) c.requires.user) c.see_lines.ensures w.procs.table.now c.write_core.new.f
    c.space-space.result.images.now (same_kept c.space-space.ensures.images) (c.write_core.ensures.state row) (c.write_core.ensures.kept row)

pub returns-clause-ready : goal.returns-clause-ready
returns-clause-ready c =
    let w : World = c.args.world.now in
    let row : Row = row_at w.procs.rows c.args.s in
    let lent = lends w c.args.s {r = row} _ _ c.requires.ready c.see.ensures c.area-u.ensures.sizes c.area-u.ensures.holds c.area-u.ensures.u refl
    (same_kept c.space-space.ensures.images) c.space-space.ensures.slot in
    dumped_ready w c.args.s lent (none_pending (process_of (unix_of w) c.args.s) c.requires.user) c.see_lines.ensures w.procs.table.now c.write_core.new.f
    c.space-space.result.images.now (same_kept c.space-space.ensures.images) (c.write_core.ensures.state row) (c.write_core.ensures.kept row)

pub returns-clause-user : goal.returns-clause-user
returns-clause-user c =
    let w : World = c.args.world.now in
    let row : Row = row_at w.procs.rows c.args.s in
    let lent = lends w c.args.s {r = row} _ _ c.requires.ready c.see.ensures c.area-u.ensures.sizes c.area-u.ensures.holds c.area-u.ensures.u refl
    (same_kept c.space-space.ensures.images) c.space-space.ensures.slot in
    dumped_user w c.args.s lent (none_pending (process_of (unix_of w) c.args.s) c.requires.user) c.see_lines.ensures w.procs.table.now c.write_core.new.f
    c.space-space.result.images.now (same_kept c.space-space.ensures.images) (c.write_core.ensures.state row) (c.write_core.ensures.kept row)
