use Rattle.std.proofs.Common.{◌≡◌, Err, MatchResult, sym, subst}
use Rattle.v6_port.specs.Outside.{Outside}
use Rattle.v6_run.specs.declared.run.RunError.TheVariants as run_error
use Rattle.v6_run.specs.Words.{run_words_value}
use Rattle.v6_run.specs.Booted.{EndsOrStops}
use Rattle.v6_run.proofs.ResultLemmas.{value_where_ok}
use Rattle.v6_run.proofs.run.run_made.Goals as goal

pub run_with_outputs-requires-clause-root : goal.run_with_outputs-requires-clause-root
run_with_outputs-requires-clause-root g c = value_where_ok _ _ _ c.in-Ok.is c.requires.root

pub run_with_outputs-requires-clause-second : goal.run_with_outputs-requires-clause-second
run_with_outputs-requires-clause-second g c = value_where_ok _ _ _ c.in-Ok.is c.requires.second

pub run_with_outputs-requires-clause-new : goal.run_with_outputs-requires-clause-new
run_with_outputs-requires-clause-new g c = value_where_ok _ _ _ c.in-Ok.is c.requires.new

pub run_with_outputs-requires-clause-lawful : goal.run_with_outputs-requires-clause-lawful
run_with_outputs-requires-clause-lawful g c = value_where_ok _ _ _ c.in-Ok.is c.requires.lawful

pub run_with_outputs-requires-clause-can : goal.run_with_outputs-requires-clause-can
run_with_outputs-requires-clause-can g c = value_where_ok _ _ _ c.in-Ok.is c.requires.can

pub returns-in-Ok-clause-outcome : goal.returns-in-Ok-clause-outcome
returns-in-Ok-clause-outcome g c =
    let words = run_words_value c.args.words.now in
    let events = c.args.events.now in
    let result = c.run_with_outputs.result in
    let old : Outside = g.H.Host.outside c.args.host.now in
    let new : Outside = g.H.Host.outside c.run_with_outputs.new.host in
    subst (λ made. MatchResult made (λ kernel. EndsOrStops words.outputs kernel events result old new)
    (λ _. (result ≡ Err run_error.NoMemory) × (new ≡ old))) (sym c.in-Ok.is) c.run_with_outputs.ensures.outcome
