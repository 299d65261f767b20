use Rattle.std.proofs.Common.{◌≡◌, ◌∙◌, ◌∷◌, [], ℕ, List, Option, Some, slice_index, ap}
use Rattle.std.proofs.lemmas.List.{set-set}
use Rattle.proc_tab.specs.declared.row.Row.{Row}
use Rattle.u_area.specs.declared.area.UArea.{UArea}
use Rattle.u_area.specs.Fields.{with_ids}
use Rattle.sys_procs.specs.declared.procs.Procs.{Procs}
use Rattle.sys_procs.specs.Process.{Process}
use Rattle.sys_procs.specs.World.{World, with_process}
use Rattle.sys_procs.specs.Handed.{handed, process_here}
use Rattle.sys_procs.proofs.ids.set_user.Goals as goal

pub returns-clause-state : goal.returns-clause-state
returns-clause-state c = λ fs.
    let p : Procs = c.args.p.now in
    let old : Process = process_here p c.args.s in
    let row : Row = record c.row-row.result { uid = c.args.id } in
    let ids : List ℕ = c.args.id ∷ slice_index c.ids.result 1 ∷ c.args.id ∷ slice_index c.ids.result 3 ∷ [] in
    let u : UArea = with_ids old.u ids in
    let gid : slice_index c.ids.result 1 ≡ old.u.gid = ap (λ (l : List ℕ). slice_index l 1) c.ids.ensures ∙ ap (λ (v : UArea). v.gid) c.area_bytes.ensures.read in
    let rgid : slice_index c.ids.result 3 ≡ old.u.rgid = ap (λ (l : List ℕ). slice_index l 3) c.ids.ensures ∙ ap (λ (v : UArea). v.rgid) c.area_bytes.ensures.read in
    c.put_ids.ensures.state fs
    ∙ (ap (λ (q : Process). with_process (handed c.put_row.new.self fs) c.args.s (record q { u = with_ids q.u ids })) c.put_row.ensures.here
    ∙ (ap (λ (w : World). with_process w c.args.s (record old { row = row; u = u })) (c.put_row.ensures.state fs)
    ∙ (ap (λ (ps : List (Option Process)). record (handed p fs) { processes = ps })
    (set-set (handed p fs).processes c.args.s (Some (record old { row = row })) (Some (record old { row = row; u = u })))
    ∙ (ap (λ (r : Row). with_process (handed p fs) c.args.s (record old { row = record r { uid = c.args.id }; u = u })) c.row-row.ensures
    ∙ (λ i. with_process (handed p fs) c.args.s (record old {
      row = record old.row { uid = c.args.id };
      u = record old.u { uid = c.args.id; gid = gid i; ruid = c.args.id; rgid = rgid i };
    }))))))
