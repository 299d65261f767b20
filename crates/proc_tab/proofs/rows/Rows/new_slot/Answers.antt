use Rattle.std.proofs.Common.{Some, is_none, ap, sym, ◌∙◌}
use Rattle.proc_tab.specs.declared.member.Member.{Member}
use Rattle.proc_tab.specs.Processes.{IsLowest}
use Rattle.proc_tab.proofs.SearchLemmas.{finds_by}
use Rattle.proc_tab.proofs.TableLemmas.{is_set, given}
use Rattle.proc_tab.proofs.rows.Rows.new_slot.Goals as goal

pub returns-in_err-s-clause-free : goal.returns-in_err-s-clause-free
returns-in_err-s-clause-free c =
    finds_by c.args.self.now c.self.inside.slots c.self.inside.last_pid is_none c.from_residual.result c.self.view_is
    (c.from_residual.ensures ∙ (sym c.in_err-s.was ∙ c.lowest_free.ensures.slot))

pub invariant_of-self : goal.invariant_of-self
invariant_of-self c =
    let lowest : IsLowest is_none c.args.self.now.slots c.in_ok-s.s =
    finds_by c.args.self.now c.self.inside.slots c.self.inside.last_pid is_none (Some c.in_ok-s.s) c.self.view_is (sym c.in_ok-s.was ∙ c.lowest_free.ensures.slot) in
    is_set c.self.inside.slots c.self.inside.last_pid c.fresh_pid-pid.result c.in_ok-s.s (Some c.child_of.result) c.self.invariant
    (given c.self.inside.slots c.self.inside.last_pid c.fresh_pid-pid.result c.in_ok-s.s c.child_of.result lowest.above c.fresh_pid-pid.ensures.words (ap (λ (m : Member). m.row.pid) c.child_of.ensures))

pub returns-clause-free : goal.returns-clause-free
returns-clause-free c =
    finds_by c.args.self.now c.self.inside.slots c.self.inside.last_pid is_none (Some c.in_ok-s.s) c.self.view_is (sym c.in_ok-s.was ∙ c.lowest_free.ensures.slot)
