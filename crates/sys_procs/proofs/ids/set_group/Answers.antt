use Rattle.std.proofs.Common.{◌≡◌, ◌∙◌, ℕ, List, slice_index, ap}
use Rattle.u_area.specs.declared.area.UArea.{UArea}
use Rattle.sys_procs.specs.Process.{Process}
use Rattle.sys_procs.specs.World.{with_process}
use Rattle.sys_procs.specs.Handed.{handed, process_here}
use Rattle.sys_procs.proofs.ids.set_group.Goals as goal

pub returns-clause-state : goal.returns-clause-state
returns-clause-state c = λ fs.
    let own : Process = process_here c.args.p.now c.args.s in
    let uid : slice_index c.ids.result 0 ≡ own.u.uid = ap (λ (l : List ℕ). slice_index l 0) c.ids.ensures ∙ ap (λ (u : UArea). u.uid) c.area_bytes.ensures.read in
    let ruid : slice_index c.ids.result 2 ≡ own.u.ruid = ap (λ (l : List ℕ). slice_index l 2) c.ids.ensures ∙ ap (λ (u : UArea). u.ruid) c.area_bytes.ensures.read in
    c.put_ids.ensures.state fs
    ∙ (λ i. with_process (handed c.args.p.now fs) c.args.s (record own { u = record own.u { uid = uid i; gid = c.args.id; ruid = ruid i; rgid = c.args.id } }))
