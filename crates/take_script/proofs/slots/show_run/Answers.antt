use Rattle.take_script.proofs.SlotLemmas.{shown_ended, uncut_before}
use Rattle.take_script.proofs.slots.show_run.Goals as goal

pub returns-clause-ends : goal.returns-clause-ends
returns-clause-ends g c goes = (c.run_script-ends.ensures.run.uncut (uncut_before _ _ _ c.last_line.ensures.shown goes)).ends

pub returns-clause-system : goal.returns-clause-system
returns-clause-system g c goes = (c.run_script-ends.ensures.run.uncut (uncut_before _ _ _ c.last_line.ensures.shown goes)).system_is

pub returns-clause-shown : goal.returns-clause-shown
returns-clause-shown g c = shown_ended _ _ _ _ _ _ _ c.run_script-ends.ensures.run c.last_line.ensures.shown
