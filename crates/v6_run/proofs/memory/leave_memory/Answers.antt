use Rattle.std.proofs.Common.{◌++◌, refl, sym, subst}
use Rattle.v6_run.specs.Final.{IsMemory}
use Rattle.v6_run.specs.Outputs.{memory_writes}
use Rattle.v6_run.proofs.memory.leave_memory.Goals as goal

pub returns-in-AtEnd-clause-written : goal.returns-in-AtEnd-clause-written
returns-in-AtEnd-clause-written g c =
    let w = c.write_memory.ensures.written in
    let system = c.args.kernel.now.system in
    let both : IsMemory system (w.0 ++ w.1) = record { core = w.0; swap = w.1; split = refl; holds = w.2 } in
    (w.0 ++ w.1, subst (λ e. memory_writes e system (w.0 ++ w.1)) (sym c.in-AtEnd.is) both, w.3, w.4)
