use Rattle.std.proofs.Common.{List, Option, subst, sym}
use Rattle.proc_tab.specs.declared.member.Member.{Member}
use Rattle.proc_tab.specs.Processes.{AreProcesses}
use Rattle.proc_tab.proofs.TableLemmas.{table, all_are_adopted}
use Rattle.proc_tab.proofs.rows.Rows.adopt.Goals as goal

pub invariant_of-self : goal.invariant_of-self
invariant_of-self c =
    subst (λ (slots : List (Option Member)). AreProcesses (table slots c.self.inside.last_pid)) (sym c.adopt_all.ensures)
    (all_are_adopted c.self.inside.slots c.self.inside.last_pid c.args.from c.self.invariant)
