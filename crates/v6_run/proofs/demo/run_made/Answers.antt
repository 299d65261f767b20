use Rattle.std.proofs.Common.{◌≡◌, Err, MatchResult, sym, subst}
use Rattle.abstract_unix.specs.Runs.{started, course}
use Rattle.take_script.specs.Events.{events_of}
use Rattle.v6_run.specs.declared.run.RunError.TheVariants as run_error
use Rattle.v6_run.specs.Demo.{EndsCourse, StopsCourse}
use Rattle.v6_run.proofs.ResultLemmas.{value_where_ok}
use Rattle.v6_run.proofs.demo.run_made.Goals as goal

pub run_counted-requires-clause-new : goal.run_counted-requires-clause-new
run_counted-requires-clause-new g c = value_where_ok _ _ _ c.in-Ok.is c.requires.new

pub run_counted-requires-clause-root : goal.run_counted-requires-clause-root
run_counted-requires-clause-root g c = value_where_ok _ _ _ c.in-Ok.is c.requires.root

pub run_counted-requires-clause-can : goal.run_counted-requires-clause-can
run_counted-requires-clause-can g c = value_where_ok _ _ _ c.in-Ok.is c.requires.can

pub returns-in-Ok-clause-outcome : goal.returns-in-Ok-clause-outcome
returns-in-Ok-clause-outcome g c =
    let number = c.args.number in
    let events = c.args.events.now in
    let result = c.run_counted.result in
    subst (λ made. MatchResult made (λ kernel. MatchResult result (EndsCourse number (course (started kernel.system) (events_of events)))
    (StopsCourse (course (started kernel.system) (events_of events)))) (λ _. result ≡ Err run_error.NoMemory))
    (sym c.in-Ok.is) c.run_counted.ensures.outcome
