use Rattle.std.proofs.Common.{refl}
use Rattle.u_area.specs.Fields.{with_child_times}
use Rattle.sys_procs.proofs.PutAreas.{area_set}
use Rattle.sys_procs.proofs.procs.Procs.put_child_times.Goals as goal

pub returns : goal.returns
returns c =
    area_set c.args.self.now c.args.s c.requires.alive c.see_kept.ensures.slots c.set_child_times.new.self (λ u. with_child_times u c.args.user c.args.system) c.set_child_times.ensures.kept
    (record { text = refl; «data» = refl; stack = refl })
