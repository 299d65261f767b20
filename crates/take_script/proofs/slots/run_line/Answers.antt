use Rattle.std.proofs.Common.{◌+◌}
use Rattle.take_script.proofs.SlotLemmas.{run_as}
use Rattle.take_script.proofs.ClockLemmas.{unclocked_at}
use Rattle.take_script.proofs.slots.run_line.Goals as goal

pub returns-then-every-eq0-clause-run : goal.returns-then-every-eq0-clause-run
returns-then-every-eq0-clause-run g c =
    let clock = c.args.clock.now in
    run_as _ _ _ _ _ _ _ (unclocked_at clock.every (clock.since + 1) c.args.count c.if-every-eq0.true) c.run_slots.ensures.run
