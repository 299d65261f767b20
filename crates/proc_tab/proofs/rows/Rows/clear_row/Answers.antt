use Rattle.std.proofs.Common.{None}
use Rattle.proc_tab.proofs.TableLemmas.{is_set, cleared}
use Rattle.proc_tab.proofs.rows.Rows.clear_row.Goals as goal

pub invariant_of-self : goal.invariant_of-self
invariant_of-self c =
    is_set c.self.inside.slots c.self.inside.last_pid c.self.inside.last_pid c.args.s None c.self.invariant (cleared c.self.inside.slots c.args.s)
