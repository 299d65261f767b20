use Rattle.std.proofs.Common.{◌∙◌, ℕ, List, Option, slice_index, sym}
use Rattle.v6_base.specs.Copy.{store_bytes}
use Rattle.v6_base.specs.Image.{Image}
use Rattle.fs_nodes.specs.FileSystem.{FileSystem}
use Rattle.u_area.specs.declared.area.UArea.{UArea}
use Rattle.u_area.specs.Area.{fetched}
use Rattle.sys_procs.specs.declared.procs.Procs.{Procs}
use Rattle.sys_procs.specs.Handed.{handed}
use Rattle.sys_procs.specs.inside.Handed.{memory_here}
use Rattle.sys_procs.proofs.Alive.{calls_alive}
use Rattle.sys_procs.proofs.Dones.{done_as}
use Rattle.sys_procs.proofs.TimesTo.{times_row, times_none, times_some}
use Rattle.sys_procs.proofs.times.times_to.Goals as goal

-- One of the words can't be written.
pub returns-then-not-put_bytes-clause-does : goal.returns-then-not-put_bytes-clause-does
returns-then-not-put_bytes-clause-does g c =
    let p : Procs = c.args.p.now in
    let fs : FileSystem = c.args.tree.now.nodes in
    let bytes : List ℕ = c.time_bytes-times.result in
    let u : UArea = fetched c.area_bytes-area.result.now in
    let put : Option Image = store_bytes (memory_here p c.args.s) (slice_index c.args.args 0) bytes in
    done_as (times_row (handed p fs) c.args.s (slice_index c.args.args 0) u bytes c.area_bytes-area.ensures.read c.if-at-eq1.false c.time_bytes-times.ensures)
    (times_none p c.put_bytes.new.p fs c.args.s _ c.put_bytes.ensures.board put (sym c.put_bytes.ensures.done ∙ c.if-not-put_bytes.true)
    (c.put_bytes.ensures.state fs))

pub returns-clause-does : goal.returns-clause-does
returns-clause-does g c =
    let p : Procs = c.args.p.now in
    let fs : FileSystem = c.args.tree.now.nodes in
    let bytes : List ℕ = c.time_bytes-times.result in
    let u : UArea = fetched c.area_bytes-area.result.now in
    let put : Option Image = store_bytes (memory_here p c.args.s) (slice_index c.args.args 0) bytes in
    done_as (times_row (handed p fs) c.args.s (slice_index c.args.args 0) u bytes c.area_bytes-area.ensures.read c.if-at-eq1.false c.time_bytes-times.ensures)
    (times_some p c.put_bytes.new.p fs c.args.s _ c.put_bytes.ensures.board u _ _ c.register-r0.ensures c.register-r1.ensures
    (calls_alive p fs c.args.s c.requires) c.area_bytes-area.ensures.read
    put (sym c.put_bytes.ensures.done ∙ c.if-not-put_bytes.false) (c.put_bytes.ensures.state fs))
