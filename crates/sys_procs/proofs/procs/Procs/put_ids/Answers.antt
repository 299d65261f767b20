use Rattle.std.proofs.Common.{refl}
use Rattle.u_area.specs.Fields.{with_ids}
use Rattle.sys_procs.proofs.PutAreas.{area_set}
use Rattle.sys_procs.proofs.procs.Procs.put_ids.Goals as goal

pub returns : goal.returns
returns c =
    area_set c.args.self.now c.args.s c.requires.alive c.see_kept.ensures.slots c.set_ids.new.self (λ u. with_ids u c.args.ids) c.set_ids.ensures.kept
    (record { text = refl; «data» = refl; stack = refl })
