use Rattle.std.proofs.Common.{[], refl}
use Rattle.take_script.proofs.SlotLemmas.{run_started, uncut_more}
use Rattle.take_script.proofs.CanLemmas.{start_can}
use Rattle.take_script.proofs.slots.run_script.Goals as goal

pub run_events-requires-clause-can : goal.run_events-requires-clause-can
run_events-requires-clause-can g c =
    let start = c.start.ensures in
    start_can c.args.kernel.now.system c.start.new.self.system c.args.events.now start.goes start.next c.requires.can

pub returns-clause-run : goal.returns-clause-run
returns-clause-run g c =
    let start = c.start.ensures in
    uncut_more _ _ _ _ _ _ _ [] _ _ (run_started c.args.kernel.now.system _ _ _ start.goes start.next start.items) c.run_events.ensures.run refl
