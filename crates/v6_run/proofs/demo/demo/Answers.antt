use Rattle.std.proofs.Common.{◌≡◌, ◌∙◌, IfOk, sym, subst, None, Some, Err, MatchResult}
use Rattle.fs_codec.specs.Faults.{image_fault}
use Rattle.abstract_unix.specs.Runs.{boots, started, course}
use Rattle.v6_port.specs.Outside.{Outside}
use Rattle.take_script.specs.Courses.{CanTake}
use Rattle.take_script.specs.Events.{events_of}
use Rattle.v6_run.specs.declared.demo.TheConstants.{DEMO_CORE}
use Rattle.v6_run.specs.declared.run.RunError.TheVariants as run_error
use Rattle.v6_run.specs.Words.{Demo}
use Rattle.v6_run.specs.Errors.{end_of, run_status}
use Rattle.v6_run.specs.Answers.{Answers}
use Rattle.v6_run.specs.Demo.{EndsCourse, StopsCourse}
use Rattle.v6_run.proofs.BootedLemmas.{root_below, made_can}
use Rattle.v6_run.proofs.DemoLemmas.{demo_answers, demo_tells}
use Rattle.v6_run.proofs.demo.demo.Goals as goal

pub run_made-requires-clause-root : goal.run_made-requires-clause-root
run_made-requires-clause-root g c =
    let good = subst (λ l. image_fault l ≡ None) (sym c.deref.ensures.value) c.in_ok-image.ensures.good in
    root_below c.deref.result.now None c.boot.result good c.boot.ensures.blocks

pub run_made-requires-clause-can : goal.run_made-requires-clause-can
run_made-requires-clause-can g c =
    subst (λ l. IfOk c.boot.result (λ kernel. CanTake kernel.system l)) (sym c.deref-2.ensures.value)
    (made_can c.deref.result.now None c.boot.result DEMO_CORE 1 c.in_ok-script.script.events.items c.in_ok-script.ensures.slots
    c.in_ok-script.ensures.rates c.boot.ensures.system)

pub returns-clause-answers : goal.returns-clause-answers
returns-clause-answers g c =
    let o = g.H.Host.outside c.args.host.now in
    let number = c.args.number in
    let good = subst (λ l. image_fault l ≡ None) c.in_ok-image.ensures.bytes c.in_ok-image.ensures.good in
    let events = c.in_ok-script.script.events.items in
    let boots_is = subst (λ l. IfOk c.boot.result (λ kernel. boots l None DEMO_CORE 1 ≡ Some kernel.system)) (c.deref.ensures.value ∙ c.in_ok-image.ensures.bytes) c.boot.ensures.system in
    let outcome = subst (λ l. MatchResult c.boot.result (λ kernel. MatchResult c.run_made.result (EndsCourse number (course (started kernel.system) (events_of l)))
    (StopsCourse (course (started kernel.system) (events_of l)))) (λ _. c.run_made.result ≡ Err run_error.NoMemory)) c.deref-2.ensures.value c.run_made.ensures.outcome in
    subst (λ (n : Outside). Answers (Demo number) (end_of run_status c.run_made.result) o n) (sym c.run_made.ensures.outside)
    (demo_answers number o good events c.in_ok-script.ensures.events c.run_made.result c.boot.result boots_is outcome)

pub returns-clause-line : goal.returns-clause-line
returns-clause-line g c =
    let o = g.H.Host.outside c.args.host.now in
    let number = c.args.number in
    let good = subst (λ l. image_fault l ≡ None) c.in_ok-image.ensures.bytes c.in_ok-image.ensures.good in
    let events = c.in_ok-script.script.events.items in
    let boots_is = subst (λ l. IfOk c.boot.result (λ kernel. boots l None DEMO_CORE 1 ≡ Some kernel.system)) (c.deref.ensures.value ∙ c.in_ok-image.ensures.bytes) c.boot.ensures.system in
    let outcome = subst (λ l. MatchResult c.boot.result (λ kernel. MatchResult c.run_made.result (EndsCourse number (course (started kernel.system) (events_of l)))
    (StopsCourse (course (started kernel.system) (events_of l)))) (λ _. c.run_made.result ≡ Err run_error.NoMemory)) c.deref-2.ensures.value c.run_made.ensures.outcome in
    demo_tells number o good events c.in_ok-script.ensures.events c.run_made.result c.boot.result boots_is outcome
