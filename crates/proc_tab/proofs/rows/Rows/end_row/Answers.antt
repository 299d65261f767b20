use Rattle.std.proofs.Common.{Some, refl}
use Rattle.proc_tab.specs.Processes.{dead}
use Rattle.proc_tab.proofs.TableLemmas.{is_set, changed_there}
use Rattle.proc_tab.proofs.rows.Rows.end_row.Goals as goal

pub invariant_of-self : goal.invariant_of-self
invariant_of-self c =
    is_set c.self.inside.slots c.self.inside.last_pid c.self.inside.last_pid c.args.s (Some (dead c.unwrap-member.result)) c.self.invariant
    (changed_there c.self.inside.slots c.self.inside.last_pid c.args.s c.unwrap-member.result (dead c.unwrap-member.result) c.self.invariant c.unwrap-member.ensures refl)
