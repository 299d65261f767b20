use Rattle.std.proofs.Common.{◌≡◌, None, Some, IfOk, map, refl, sym, subst}
use Rattle.abstract_unix.specs.Runs.{boots}
use Rattle.v6_run.specs.Opening.{output_value, IsListOf}
use Rattle.v6_run.specs.Words.{lines_value, run_words_value}
use Rattle.v6_run.proofs.ResultLemmas.{match_passed}
use Rattle.v6_run.proofs.BootedLemmas.{nothing_only, root_below, second_kept, made_can, made_from}
use Rattle.v6_run.proofs.run.run_on_one.Goals as goal

pub returns-in_err-outputs-clause-only : goal.returns-in_err-outputs-clause-only
returns-in_err-outputs-clause-only g c = nothing_only _ _

pub returns-in_err-outputs-clause-outcome : goal.returns-in_err-outputs-clause-outcome
returns-in_err-outputs-clause-outcome g c = match_passed _ _ _ _ c.from_residual.ensures.1 refl

pub boot-requires-clause-least : goal.boot-requires-clause-least
boot-requires-clause-least g c = c.requires.can.least

pub boot-requires-clause-most : goal.boot-requires-clause-most
boot-requires-clause-most g c = c.requires.can.most

pub boot-requires-clause-good : goal.boot-requires-clause-good
boot-requires-clause-good g c = c.requires.can.good

pub run_made-requires-clause-outputs : goal.run_made-requires-clause-outputs
run_made-requires-clause-outputs g c = subst (λ l. IsListOf (run_words_value c.args.words.now).outputs (map output_value l)) (sym c.deref.ensures.value) c.in_ok-outputs.ensures

pub run_made-requires-clause-root : goal.run_made-requires-clause-root
run_made-requires-clause-root g c = root_below c.args.image.now None c.boot.result c.requires.can.good c.boot.ensures.blocks

pub run_made-requires-clause-second : goal.run_made-requires-clause-second
run_made-requires-clause-second g c =
    second_kept c.args.image.now None c.boot.result (run_words_value c.args.words.now) c.requires.can.named c.boot.ensures.blocks

pub run_made-requires-clause-can : goal.run_made-requires-clause-can
run_made-requires-clause-can g c =
    made_can c.args.image.now None c.boot.result c.args.words.now.core (lines_value c.lines-lines.result) c.args.events.now
    c.requires.can.slots c.requires.can.rates c.boot.ensures.system

pub returns-clause-outcome : goal.returns-clause-outcome
returns-clause-outcome g c =
    made_from c.args.image.now None (run_words_value c.args.words.now) c.args.events.now (g.H.Host.outside c.args.host.now)
    (g.H.Host.outside c.run_made.new.host) c.run_made.result c.boot.result
    (subst (λ n. IfOk c.boot.result (λ kernel. boots c.args.image.now None c.args.words.now.core n ≡ Some kernel.system))
    c.lines-lines.ensures c.boot.ensures.system)
    c.boot.ensures.blocks c.run_made.ensures.outcome
