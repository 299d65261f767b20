use Rattle.std.proofs.Common.{◌-◌, ◌∙◌, suc, true, false, sym, arith}
use Rattle.swap_sched.proofs.SearchLemmas.{wait_first, wait_on}
use Rattle.swap_sched.proofs.candidates.loaded_waiter.Goals as goal

pub loop-s-init : goal.loop-s-init
loop-s-init c = λ n e. wait_first c.args.table.now n e

pub loop-s-preserved : goal.loop-s-preserved
loop-s-preserved c = λ n e.
    wait_on c.args.table.now c.loop-s.s n (omega arith) false (sym c.waits.ensures ∙ c.if-waits.false) (c.loop-s.invariant (suc n) (omega (arith, e)))

pub returns-then-waits-clause-waiter : goal.returns-then-waits-clause-waiter
returns-then-waits-clause-waiter c =
    sym (wait_on c.args.table.now c.loop-s.s (49 - c.loop-s.s) (omega arith) true (sym c.waits.ensures ∙ c.if-waits.true)
    (c.loop-s.invariant (suc (49 - c.loop-s.s)) (omega arith)))

pub returns-clause-waiter : goal.returns-clause-waiter
returns-clause-waiter c = sym (c.loop-s.invariant 0 (omega arith))
