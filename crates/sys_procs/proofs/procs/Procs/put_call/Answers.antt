use Rattle.std.proofs.Common.{refl}
use Rattle.u_area.specs.Fields.{with_call}
use Rattle.sys_procs.proofs.PutAreas.{area_set}
use Rattle.sys_procs.proofs.procs.Procs.put_call.Goals as goal

pub returns : goal.returns
returns c =
    area_set c.args.self.now c.args.s c.requires.alive c.see_kept.ensures.slots c.set_call.new.self (λ u. with_call u c.args.pending c.args.call.now) c.set_call.ensures.kept
    (record { text = refl; «data» = refl; stack = refl })
