use Rattle.std.proofs.Common.{◌≡◌, Some, IfOk, map, refl, sym, subst}
use Rattle.abstract_unix.specs.Runs.{boots}
use Rattle.v6_run.specs.Opening.{output_value, IsListOf}
use Rattle.v6_run.specs.Words.{run_words_value}
use Rattle.v6_run.proofs.RunLemmas.{one_line}
use Rattle.v6_run.proofs.ResultLemmas.{match_passed}
use Rattle.v6_run.proofs.BootedLemmas.{nothing_only, root_below, second_kept, made_can, made_from}
use Rattle.v6_run.proofs.run.run_on_two.Goals as goal

pub returns-in_err-outputs-clause-only : goal.returns-in_err-outputs-clause-only
returns-in_err-outputs-clause-only g c = nothing_only _ _

pub returns-in_err-outputs-clause-outcome : goal.returns-in_err-outputs-clause-outcome
returns-in_err-outputs-clause-outcome g c = match_passed _ _ _ _ c.from_residual.ensures.1 refl

pub boot2-requires-clause-least : goal.boot2-requires-clause-least
boot2-requires-clause-least g c = c.requires.can.least

pub boot2-requires-clause-most : goal.boot2-requires-clause-most
boot2-requires-clause-most g c = c.requires.can.most

pub boot2-requires-clause-good : goal.boot2-requires-clause-good
boot2-requires-clause-good g c = c.requires.can.good

pub boot2-requires-clause-second : goal.boot2-requires-clause-second
boot2-requires-clause-second g c = c.requires.can.second_good

pub run_made-requires-clause-outputs : goal.run_made-requires-clause-outputs
run_made-requires-clause-outputs g c = subst (λ l. IsListOf (run_words_value c.args.words.now).outputs (map output_value l)) (sym c.deref.ensures.value) c.in_ok-outputs.ensures

pub run_made-requires-clause-root : goal.run_made-requires-clause-root
run_made-requires-clause-root g c =
    root_below c.args.image.now (Some c.args.second.now) c.boot2.result c.requires.can.good c.boot2.ensures.blocks

pub run_made-requires-clause-second : goal.run_made-requires-clause-second
run_made-requires-clause-second g c =
    second_kept c.args.image.now (Some c.args.second.now) c.boot2.result (run_words_value c.args.words.now) c.requires.can.named
    c.boot2.ensures.blocks

pub run_made-requires-clause-can : goal.run_made-requires-clause-can
run_made-requires-clause-can g c =
    made_can c.args.image.now (Some c.args.second.now) c.boot2.result c.args.words.now.core 1 c.args.events.now
    c.requires.can.slots c.requires.can.rates c.boot2.ensures.system

pub returns-clause-outcome : goal.returns-clause-outcome
returns-clause-outcome g c =
    let one = sym (one_line c.args.words.now.outputs (sym c.requires.can.named)) in
    made_from c.args.image.now (Some c.args.second.now) (run_words_value c.args.words.now) c.args.events.now
    (g.H.Host.outside c.args.host.now) (g.H.Host.outside c.run_made.new.host) c.run_made.result c.boot2.result
    (subst (λ n. IfOk c.boot2.result (λ kernel. boots c.args.image.now (Some c.args.second.now) c.args.words.now.core n ≡ Some kernel.system))
    one c.boot2.ensures.system)
    c.boot2.ensures.blocks c.run_made.ensures.outcome
