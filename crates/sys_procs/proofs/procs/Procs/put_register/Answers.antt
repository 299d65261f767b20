use Rattle.std.proofs.Common.{refl}
use Rattle.u_area.specs.Fields.{with_register}
use Rattle.sys_procs.proofs.PutAreas.{area_set}
use Rattle.sys_procs.proofs.procs.Procs.put_register.Goals as goal

pub returns : goal.returns
returns c =
    area_set c.args.self.now c.args.s c.requires.alive c.see_kept.ensures.slots c.set_register.new.self (λ u. with_register u c.args.n c.args.value) c.set_register.ensures.kept
    (record { text = refl; «data» = refl; stack = refl })
