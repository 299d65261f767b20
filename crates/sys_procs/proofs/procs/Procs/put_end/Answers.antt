use Rattle.std.proofs.Common.{refl}
use Rattle.u_area.specs.Fields.{with_end}
use Rattle.sys_procs.proofs.PutAreas.{area_set}
use Rattle.sys_procs.proofs.procs.Procs.put_end.Goals as goal

pub returns : goal.returns
returns c =
    area_set c.args.self.now c.args.s c.requires.alive c.see_kept.ensures.slots c.set_ended.new.self (λ u. with_end u c.args.status c.args.handlers.now) c.set_ended.ensures.kept
    (record { text = refl; «data» = refl; stack = refl })
