use Rattle.std.proofs.Common.{◌∙◌, ap}
use Rattle.pick_rules.specs.declared.table.Table.{Table}
use Rattle.pick_rules.proofs.Laws.{sleep_running}
use Rattle.swap_sched.proofs.MoveLemmas.{sleeps}
use Rattle.swap_sched.proofs.moves.sleep.Goals as goal

pub returns-clause-does : goal.returns-clause-does
returns-clause-does g c =
    sleeps c.args.table.now c.sleep.new.self c.args.images.now.kept c.args.chan _ _ c.requires.matches c.sleep.ensures.good c.sleep.ensures.table
    c.requires.comes c.entry.ensures.took

pub returns-clause-asleep : goal.returns-clause-asleep
returns-clause-asleep g c = ap (λ (t : Table). t.running) c.sleep.ensures.table ∙ sleep_running _ _ _ _
