use Rattle.std.proofs.Common.{refl}
use Rattle.u_area.specs.Fields.{with_no_times}
use Rattle.sys_procs.proofs.PutAreas.{area_set}
use Rattle.sys_procs.proofs.procs.Procs.clear_times.Goals as goal

pub returns : goal.returns
returns c =
    area_set c.args.self.now c.args.s c.requires.alive c.see_kept.ensures.slots c.clear_times.new.self (λ u. with_no_times u) c.clear_times.ensures.kept
    (record { text = refl; «data» = refl; stack = refl })
