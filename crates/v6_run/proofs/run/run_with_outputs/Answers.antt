use Rattle.std.proofs.Common.{is_some, map, sym, ◌∙◌, ap, subst}
use Rattle.v6_port.specs.Outside.{Outside}
use Rattle.v6_run.specs.declared.words.Outputs.{Outputs}
use Rattle.v6_run.specs.Words.{second_files, outputs_value}
use Rattle.v6_run.specs.Opening.{output_value, IsListOf}
use Rattle.v6_run.specs.Booted.{EndsOrStops}
use Rattle.v6_run.proofs.run.run_with_outputs.Goals as goal

pub returns-in-Disk-clause-outcome : goal.returns-in-Disk-clause-outcome
returns-in-Disk-clause-outcome g c =
    let old : Outside = g.H.Host.outside c.args.host.now in
    let new : Outside = g.H.Host.outside c.run_to_disk.new.host in
    subst (λ (o : Outputs). EndsOrStops (outputs_value o) c.args.kernel.now c.args.events.now c.run_to_disk.result old new)
    (sym c.in-Disk.is) c.run_to_disk.ensures.outcome

pub run_to_disk-requires-clause-outputs : goal.run_to_disk-requires-clause-outputs
run_to_disk-requires-clause-outputs g c =
    subst (λ (o : Outputs). IsListOf (outputs_value o) (map output_value c.args.outputs.now)) c.in-Disk.is c.requires.outputs

pub run_to_disk-requires-clause-second : goal.run_to_disk-requires-clause-second
run_to_disk-requires-clause-second g c = c.requires.second ∙ ap (λ (o : Outputs). is_some (second_files (outputs_value o))) c.in-Disk.is

pub returns-in-Memory-clause-outcome : goal.returns-in-Memory-clause-outcome
returns-in-Memory-clause-outcome g c =
    let old : Outside = g.H.Host.outside c.args.host.now in
    let new : Outside = g.H.Host.outside c.run_to_memory.new.host in
    subst (λ (o : Outputs). EndsOrStops (outputs_value o) c.args.kernel.now c.args.events.now c.run_to_memory.result old new)
    (sym c.in-Memory.is) c.run_to_memory.ensures.outcome
