use Rattle.std.proofs.Common.{◌≡◌, ◌∙◌, sym, ap}
use Rattle.u_area.specs.declared.area.UArea.{UArea}
use Rattle.image_keep.specs.Kept.{area_of, image_of}
use Rattle.sys_procs.specs.declared.procs.Procs.{Procs}
use Rattle.sys_procs.specs.Handed.{process_here}
use Rattle.sys_procs.proofs.Alive.{area_here, SameSizes, sizes_stay}
use Rattle.sys_procs.proofs.PutAreas.{area_set}
use Rattle.sys_procs.proofs.procs.Procs.put_area.Goals as goal

pub set_area-requires-clause-sizes : goal.set_area-requires-clause-sizes
set_area-requires-clause-sizes c =
    let p : Procs = c.args.self.now in
    let u : UArea = c.args.u.now in
    let old : UArea = area_of p.images.kept c.args.s in
    let is : old ≡ (process_here p c.args.s).u = area_here p c.args.s c.requires.alive in
    let same : SameSizes u old = record {
      text = c.requires.text ∙ sym (ap (λ (v : UArea). v.text_size) is);
      «data» = c.requires.data_size ∙ sym (ap (λ (v : UArea). v.data_size) is);
      stack = c.requires.stack_size ∙ sym (ap (λ (v : UArea). v.stack_size) is);
    } in
    sizes_stay u old (image_of p.images.kept c.args.s) same (c.see_kept.ensures.sizes c.args.s c.requires.alive.image)

pub returns : goal.returns
returns c =
    area_set c.args.self.now c.args.s c.requires.alive c.see_kept.ensures.slots c.set_area.new.self (λ _. c.args.u.now) c.set_area.ensures.kept
    (record { text = c.requires.text; «data» = c.requires.data_size; stack = c.requires.stack_size })
