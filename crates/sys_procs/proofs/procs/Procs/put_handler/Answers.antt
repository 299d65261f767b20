use Rattle.std.proofs.Common.{refl}
use Rattle.u_area.specs.Fields.{with_handler}
use Rattle.sys_procs.proofs.PutAreas.{area_set}
use Rattle.sys_procs.proofs.procs.Procs.put_handler.Goals as goal

pub returns : goal.returns
returns c =
    area_set c.args.self.now c.args.s c.requires.alive c.see_kept.ensures.slots c.set_handler.new.self (λ u. with_handler u c.args.sig c.args.handler) c.set_handler.ensures.kept
    (record { text = refl; «data» = refl; stack = refl })
