use Rattle.std.proofs.Common.{◌≡◌, Some, ap, sym, ◌∙◌}
use Rattle.proc_tab.specs.Processes.{Processes, row_at, row_of, with_row}
use Rattle.proc_tab.proofs.TableLemmas.{is_set, changed_there}
use Rattle.proc_tab.proofs.rows.Rows.set_row.Goals as goal

pub invariant_of-self : goal.invariant_of-self
invariant_of-self c =
    let same : c.args.row.pid ≡ c.unwrap-member.result.row.pid =
    c.requires.pid ∙ (ap (λ (v : Processes). (row_at v c.args.s).pid) (sym c.self.view_is) ∙ ap (λ o. (row_of o).pid) c.unwrap-member.ensures) in
    is_set c.self.inside.slots c.self.inside.last_pid c.self.inside.last_pid c.args.s (Some (with_row c.args.row c.unwrap-member.result)) c.self.invariant
    (changed_there c.self.inside.slots c.self.inside.last_pid c.args.s c.unwrap-member.result (with_row c.args.row c.unwrap-member.result) c.self.invariant c.unwrap-member.ensures same)
