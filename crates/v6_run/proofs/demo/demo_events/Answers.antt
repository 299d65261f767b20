use Rattle.std.proofs.Common.{◌∙◌, ap, subst}
use Rattle.v6_run.specs.Errors.{script_status}
use Rattle.script_text.specs.Script.{Refuses}
use Rattle.v6_run.proofs.DemoLemmas.{only_memory}
use Rattle.v6_run.proofs.demo.demo_events.Goals as goal

pub returns-clause-memory : goal.returns-clause-memory
returns-clause-memory c =
    let refused = subst (λ l. Refuses l c.in-Err.fault) (c.deref.ensures.value ∙ c.in-Ok.ensures) c.in-Err.ensures.refused in
    ap script_status (only_memory c.in-Err.fault refused)
