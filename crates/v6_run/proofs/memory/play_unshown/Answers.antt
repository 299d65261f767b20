use Rattle.std.proofs.Common.{rules, ◌∙◌, ap}
use Rattle.v6_run.specs.Ports.{is_silent}
use Rattle.v6_run.proofs.ShownLemmas.{never_cut}
use Rattle.v6_run.proofs.memory.play_unshown.Goals as goal

-- nothing of the run is wanted, and so nothing is written
pub returns-clause-outside : goal.returns-clause-outside
returns-clause-outside g c =
    let goes = c.show_run.ensures.frame.0 in
    let still = (goes.stopped (ap is_silent c.unwanted-unwanted.ensures.kept)).0 ∙ ap g.H.Host.outside c.unwanted-unwanted.ensures.outside in
    search (rules, still)

-- and the trace is never cut
pub returns-clause-ending : goal.returns-clause-ending
returns-clause-ending g c =
    let run = c.show_run.ensures in
    run.ends (never_cut _ _ _ _ _ _ _ c.unwanted-unwanted.ensures.kept run.shown run.frame.0)

pub returns-clause-system : goal.returns-clause-system
returns-clause-system g c =
    let run = c.show_run.ensures in
    run.system (never_cut _ _ _ _ _ _ _ c.unwanted-unwanted.ensures.kept run.shown run.frame.0)
