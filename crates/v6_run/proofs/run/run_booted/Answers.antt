use Rattle.std.proofs.Common.{List, ℕ, Option, Some, None, sym, subst}
use Rattle.v6_port.specs.Outside.{Outside}
use Rattle.v6_run.specs.Words.{run_words_value, bytes_value}
use Rattle.v6_run.specs.Booted.{CanRun, EndsOrFails}
use Rattle.v6_run.proofs.run.run_booted.Goals as goal

pub run_on_two-requires-clause-can : goal.run_on_two-requires-clause-can
run_on_two-requires-clause-can g c =
    let P : List ℕ → Option (List ℕ) → Type 0 = λ image second. CanRun image second (run_words_value c.args.words.now) c.args.events.now in
    let named = subst (λ o. P c.args.files.now.image.items (bytes_value o)) c.in-Some.is c.requires.can in
    subst (λ l. P l (Some c.deref-in-Some.result.now)) (sym c.deref.ensures.value)
    (subst (λ l. P c.args.files.now.image.items (Some l)) (sym c.deref-in-Some.ensures.value) named)

pub returns-in-Some-clause-outcome : goal.returns-in-Some-clause-outcome
returns-in-Some-clause-outcome g c =
    let old : Outside = g.H.Host.outside c.args.host.now in
    let new : Outside = g.H.Host.outside c.run_on_two.new.host in
    let P : List ℕ → Option (List ℕ) → Type 0 = λ image second.
    EndsOrFails image second (run_words_value c.args.words.now) c.args.events.now c.run_on_two.result old new in
    subst (λ o. P c.args.files.now.image.items (bytes_value o)) (sym c.in-Some.is)
    (subst (λ l. P c.args.files.now.image.items (Some l)) c.deref-in-Some.ensures.value
    (subst (λ l. P l (Some c.deref-in-Some.result.now)) c.deref.ensures.value c.run_on_two.ensures.outcome))

pub run_on_one-requires-clause-can : goal.run_on_one-requires-clause-can
run_on_one-requires-clause-can g c =
    let P : List ℕ → Option (List ℕ) → Type 0 = λ image second. CanRun image second (run_words_value c.args.words.now) c.args.events.now in
    subst (λ l. P l None) (sym c.deref-in-None.ensures.value)
    (subst (λ o. P c.args.files.now.image.items (bytes_value o)) c.in-None.is c.requires.can)

pub returns-in-None-clause-outcome : goal.returns-in-None-clause-outcome
returns-in-None-clause-outcome g c =
    let old : Outside = g.H.Host.outside c.args.host.now in
    let new : Outside = g.H.Host.outside c.run_on_one.new.host in
    let P : List ℕ → Option (List ℕ) → Type 0 = λ image second.
    EndsOrFails image second (run_words_value c.args.words.now) c.args.events.now c.run_on_one.result old new in
    subst (λ o. P c.args.files.now.image.items (bytes_value o)) (sym c.in-None.is)
    (subst (λ l. P l None) c.deref-in-None.ensures.value c.run_on_one.ensures.outcome)
