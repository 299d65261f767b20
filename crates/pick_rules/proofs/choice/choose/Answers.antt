use Rattle.std.proofs.Common.{◌≡◌, ◌∙◌, ◌+◌, ◌-◌, ◌<◌, sym, ap, subst, arith, rules}
use Rattle.pick_rules.specs.Search.{least}
use Rattle.pick_rules.specs.Choice.{IsChoice}
use Rattle.pick_rules.proofs.ChoiceLemmas.{slot_after, so_far, all_round, is_choice, further, passed}
use Rattle.pick_rules.proofs.choice.choose.Goals as goal
use Rattle.pick_rules.proofs.choice.choose.Goals.{then-can_run, else-can_run, then-can_run-2, else-can_run-2}

pub loop-s-init : goal.loop-s-init
unfolding least
loop-s-init c = record {
  slot = tt;
  value = λ t e f. let z : c.args.last + 1 - (c.args.last + 1) ≡ 0 = omega arith in sym (ap (so_far t) z);
}

pub loop-s-preserved : goal.loop-s-preserved
loop-s-preserved c =
    let k = c.loop-s.s - (c.args.last + 1) in
    let m = c.loop-s.s + 1 - (c.args.last + 1) in
    let is : slot_after c.args.last k ≡ c.loop-s.s = omega arith in
    let n : m ≡ k + 1 = omega arith in
    record {
      slot = search rules;
      value = elim c.if-can_run.branch [
        | then-can_run w ↦ λ t e f. w.best-is
            ∙ further c.args.rows.now c.args.last c.loop-s.s k m c.loop-s.best w.better-best.result is n
            c.loop-s.invariant.value (sym c.can_run.ensures ∙ w.if-can_run.true) w.better-best.ensures.value t e f
        | else-can_run w ↦ λ t e f. w.best-is
            ∙ passed c.args.rows.now c.args.last c.loop-s.s k m c.loop-s.best is n
            c.loop-s.invariant.value (sym c.can_run.ensures ∙ w.if-can_run.false) t e f
      ];
    }

pub loop-s-2-init : goal.loop-s-2-init
loop-s-2-init c =
    let z : c.loop-s.s - (c.args.last + 1) ≡ 49 - c.args.last + 0 = omega arith in
    record { slot = c.loop-s.invariant.slot; value = λ t e f. c.loop-s.invariant.value t e f ∙ ap (so_far t) z }

pub loop-s-2-preserved : goal.loop-s-2-preserved
loop-s-2-preserved c =
    let k = 49 - c.args.last + c.loop-s-2.s in
    let m = 49 - c.args.last + (c.loop-s-2.s + 1) in
    let is : slot_after c.args.last k ≡ c.loop-s-2.s = omega arith in
    let n : m ≡ k + 1 = omega arith in
    record {
      slot = search rules;
      value = elim c.if-can_run-2.branch [
        | then-can_run-2 w ↦ λ t e f. w.best-is
            ∙ further c.args.rows.now c.args.last c.loop-s-2.s k m c.loop-s-2.best w.better-best-then-can_run-2.result is n
            c.loop-s-2.invariant.value (sym c.can_run-in-loop-s-2.ensures ∙ w.if-can_run-2.true)
            w.better-best-then-can_run-2.ensures.value t e f
        | else-can_run-2 w ↦ λ t e f. w.best-is
            ∙ passed c.args.rows.now c.args.last c.loop-s-2.s k m c.loop-s-2.best is n
            c.loop-s-2.invariant.value (sym c.can_run-in-loop-s-2.ensures ∙ w.if-can_run-2.false) t e f
      ];
    }

pub returns-clause-choice : goal.returns-clause-choice
returns-clause-choice c = λ t e f.
    let n : 49 - c.args.last + c.loop-s-2.s ≡ 50 = omega arith in
    let h : t.last < 50 = omega (arith, f) in
    subst (IsChoice t) (sym (c.loop-s-2.invariant.value t e f ∙ ap (so_far t) n)) (is_choice t h)

pub returns-clause-value : goal.returns-clause-value
returns-clause-value c = λ t e f.
    let n : 49 - c.args.last + c.loop-s-2.s ≡ 50 = omega arith in
    c.loop-s-2.invariant.value t e f ∙ ap (so_far t) n ∙ all_round t
