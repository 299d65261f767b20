use Rattle.proc_tab.specs.Processes.{passes}
use Rattle.proc_tab.specs.Pids.{has_pid}
use Rattle.proc_tab.proofs.SearchLemmas.{finds_by}
use Rattle.proc_tab.proofs.rows.Rows.slot_of.Goals as goal

pub returns-clause-words : goal.returns-clause-words
returns-clause-words c = finds_by c.args.self.now c.self.inside.slots c.self.inside.last_pid (passes (has_pid c.args.pid)) c.lowest_with_pid.result c.self.view_is c.lowest_with_pid.ensures
