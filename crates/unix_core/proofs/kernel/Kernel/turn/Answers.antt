use Rattle.std.proofs.Common.{◌≡◌, ◌∙◌, sym, ap, subst}
use Rattle.v6_base.specs.Trace.{Took}
use Rattle.abstract_unix.specs.Runs.{Slot, event_of}
use Rattle.fs_nodes.specs.FileSystem.{SameAroundEach}
use Rattle.fs_nodes.proofs.RestLemmas.{rest_stays}
use Rattle.unix_core.specs.State.{KernelState}
use Rattle.fs_tree.specs.declared.tree.Tree.{Tree}
use Rattle.unix_core.proofs.TakenLemmas.{step_counted, taken_started, taken_fresh, taken_answer, taken_next, taken_phase, taken_idle, taken_private, taken_texts}
use Rattle.unix_core.proofs.TakenLemmas.{near_kernel, near_answer, near_takes, near_items, far_running, far_answer, far_takes, far_items}
use Rattle.unix_core.proofs.kernel.Kernel.turn.Goals as goal

pub execute-requires : goal.execute-requires
execute-requires g c = (c.self.invariant.running c.in-Running.fixed c.in-Running.is).fixed

-- The instruction just goes on: its slot is counted.
pub count_slot-requires-clause-kernel : goal.count_slot-requires-clause-kernel
count_slot-requires-clause-kernel g c =
    let m = c.self.inside.machine in
    near_kernel m.stage m.world c.self.invariant c.see_kept.ensures c.args.self.now c.self.view_is c.requires.started c.in-Running.fixed c.in-Running.is c.execute.new.self c.execute.ensures.kept
    (sym (c.execute.ensures.next.0 c.if-execute.true)) c.execute.ensures.fixed

pub invariant_of-self : goal.invariant_of-self
invariant_of-self g c =
    let m = c.self.inside.machine in
    (near_takes m.stage m.world c.self.invariant c.see_kept.ensures c.args.self.now c.self.view_is c.requires.started c.in-Running.fixed c.in-Running.is c.execute.new.self c.execute.ensures.kept
    (sym (c.execute.ensures.next.0 c.if-execute.true)) c.execute.ensures.fixed
    c.count_slot.new.self.stage c.count_slot.new.self.world c.count_slot.ensures.takes).kernel

pub count_slot-requires-clause-started : goal.count_slot-requires-clause-started
count_slot-requires-clause-started g c =
    let m = c.self.inside.machine in
    taken_started m.stage m.world c.self.invariant c.see_kept.ensures c.args.self.now c.self.view_is c.requires.started

pub count_slot-requires-clause-fresh : goal.count_slot-requires-clause-fresh
count_slot-requires-clause-fresh g c =
    let m = c.self.inside.machine in
    taken_fresh m.stage m.world c.self.invariant c.see_kept.ensures c.args.self.now c.self.view_is c.requires.started c.requires.fresh

pub returns-then-execute-clause-idle : goal.returns-then-execute-clause-idle
returns-then-execute-clause-idle g c idle = absurd (let never = sym c.count_slot.ensures.answer ∙ idle in cc never)

pub returns-then-execute-clause-answer : goal.returns-then-execute-clause-answer
returns-then-execute-clause-answer g c =
    let m = c.self.inside.machine in
    c.count_slot.ensures.answer
    ∙ near_answer m.stage m.world c.self.invariant c.see_kept.ensures c.args.self.now c.self.view_is c.requires.started c.in-Running.fixed c.in-Running.is c.execute.new.self c.execute.ensures.kept
    (sym (c.execute.ensures.next.0 c.if-execute.true)) c.execute.ensures.fixed

pub returns-then-execute-clause-phase : goal.returns-then-execute-clause-phase
returns-then-execute-clause-phase g c =
    let m = c.self.inside.machine in
    taken_phase m.stage m.world c.self.invariant c.see_kept.ensures c.args.self.now c.self.view_is c.requires.started
    c.count_slot.new.self.stage c.count_slot.new.self.world (near_takes m.stage m.world c.self.invariant c.see_kept.ensures c.args.self.now c.self.view_is c.requires.started c.in-Running.fixed c.in-Running.is c.execute.new.self c.execute.ensures.kept
    (sym (c.execute.ensures.next.0 c.if-execute.true)) c.execute.ensures.fixed
    c.count_slot.new.self.stage c.count_slot.new.self.world c.count_slot.ensures.takes)

pub returns-then-execute-clause-next : goal.returns-then-execute-clause-next
returns-then-execute-clause-next g c =
    let m = c.self.inside.machine in
    taken_next m.stage m.world c.self.invariant c.see_kept.ensures c.args.self.now c.self.view_is c.requires.started
    c.count_slot.new.self.stage c.count_slot.new.self.world (near_takes m.stage m.world c.self.invariant c.see_kept.ensures c.args.self.now c.self.view_is c.requires.started c.in-Running.fixed c.in-Running.is c.execute.new.self c.execute.ensures.kept
    (sym (c.execute.ensures.next.0 c.if-execute.true)) c.execute.ensures.fixed
    c.count_slot.new.self.stage c.count_slot.new.self.world c.count_slot.ensures.takes)

pub returns-then-execute-clause-private : goal.returns-then-execute-clause-private
returns-then-execute-clause-private g c =
    let m = c.self.inside.machine in
    taken_private m.stage m.world c.self.invariant c.see_kept.ensures c.args.self.now c.self.view_is c.requires.started
    c.count_slot.new.self.stage c.count_slot.new.self.world (near_takes m.stage m.world c.self.invariant c.see_kept.ensures c.args.self.now c.self.view_is c.requires.started c.in-Running.fixed c.in-Running.is c.execute.new.self c.execute.ensures.kept
    (sym (c.execute.ensures.next.0 c.if-execute.true)) c.execute.ensures.fixed
    c.count_slot.new.self.stage c.count_slot.new.self.world c.count_slot.ensures.takes)

pub returns-then-execute-clause-texts : goal.returns-then-execute-clause-texts
returns-then-execute-clause-texts g c =
    let m = c.self.inside.machine in
    taken_texts m.stage m.world c.self.invariant c.see_kept.ensures c.args.self.now c.self.view_is c.requires.started
    c.count_slot.new.self.stage c.count_slot.new.self.world (near_takes m.stage m.world c.self.invariant c.see_kept.ensures c.args.self.now c.self.view_is c.requires.started c.in-Running.fixed c.in-Running.is c.execute.new.self c.execute.ensures.kept
    (sym (c.execute.ensures.next.0 c.if-execute.true)) c.execute.ensures.fixed
    c.count_slot.new.self.stage c.count_slot.new.self.world c.count_slot.ensures.takes)

pub returns-then-execute-clause-items : goal.returns-then-execute-clause-items
returns-then-execute-clause-items g c =
    let m = c.self.inside.machine in
    near_items m.stage m.world c.self.invariant c.see_kept.ensures c.args.self.now c.self.view_is c.requires.started c.in-Running.fixed c.in-Running.is c.execute.new.self c.execute.ensures.kept
    (sym (c.execute.ensures.next.0 c.if-execute.true)) c.execute.ensures.fixed
    _ _ c.count_slot.ensures.items

pub returns-then-execute-clause-rest : goal.returns-then-execute-clause-rest
returns-then-execute-clause-rest g c =
    let same : c.args.self.now.blocks ≡ c.count_slot.new.self.world.files.tree.nodes.blocks =
    sym (ap (λ (v : KernelState). v.blocks) c.self.view_is) ∙ sym (ap (λ (t : Tree). t.nodes.blocks) c.count_slot.ensures.tree) in
    subst (SameAroundEach c.args.self.now.blocks) same (rest_stays _)

-- It comes to something else.
pub after_step-requires-clause-running : goal.after_step-requires-clause-running
after_step-requires-clause-running g c = (c.in-Running.fixed, c.in-Running.is)

pub after_step-requires-clause-counted : goal.after_step-requires-clause-counted
after_step-requires-clause-counted g c =
    let m = c.self.inside.machine in
    step_counted m.stage m.world c.in-Running.fixed c.in-Running.is c.self.invariant c.see_kept.ensures c.execute.new.self c.execute.ensures.kept

pub after_step-requires-clause-fresh : goal.after_step-requires-clause-fresh
after_step-requires-clause-fresh g c =
    let m = c.self.inside.machine in
    taken_fresh m.stage m.world c.self.invariant c.see_kept.ensures c.args.self.now c.self.view_is c.requires.started c.requires.fresh

pub after_step-requires-clause-user : goal.after_step-requires-clause-user
after_step-requires-clause-user g c =
    let m = c.self.inside.machine in
    far_running m.stage m.world c.self.invariant c.see_kept.ensures c.args.self.now c.self.view_is c.requires.started c.in-Running.fixed c.in-Running.is c.execute.new.self c.execute.ensures.kept
    c.execute.new.outcome (c.execute.ensures.outcome c.if-execute.false) c.execute.ensures.fixed

pub returns-else-execute-clause-answer : goal.returns-else-execute-clause-answer
returns-else-execute-clause-answer g c =
    let m = c.self.inside.machine in
    taken_answer m.stage m.world c.self.invariant c.see_kept.ensures c.args.self.now c.self.view_is c.requires.started
    c.after_step.result (far_answer m.stage m.world c.self.invariant c.see_kept.ensures c.args.self.now c.self.view_is c.requires.started c.in-Running.fixed c.in-Running.is c.execute.new.self c.execute.ensures.kept
    c.execute.new.outcome (c.execute.ensures.outcome c.if-execute.false)
    c.after_step.result c.after_step.ensures.answer)

pub returns-else-execute-clause-idle : goal.returns-else-execute-clause-idle
returns-else-execute-clause-idle g c =
    let m = c.self.inside.machine in
    taken_idle m.stage m.world c.self.invariant c.see_kept.ensures c.args.self.now c.self.view_is c.requires.started
    c.after_step.result (far_answer m.stage m.world c.self.invariant c.see_kept.ensures c.args.self.now c.self.view_is c.requires.started c.in-Running.fixed c.in-Running.is c.execute.new.self c.execute.ensures.kept
    c.execute.new.outcome (c.execute.ensures.outcome c.if-execute.false)
    c.after_step.result c.after_step.ensures.answer)

pub returns-else-execute-clause-phase : goal.returns-else-execute-clause-phase
returns-else-execute-clause-phase g c =
    let m = c.self.inside.machine in
    taken_phase m.stage m.world c.self.invariant c.see_kept.ensures c.args.self.now c.self.view_is c.requires.started
    c.after_step.new.self.stage c.after_step.new.self.world (far_takes m.stage m.world c.self.invariant c.see_kept.ensures c.args.self.now c.self.view_is c.requires.started c.in-Running.fixed c.in-Running.is c.execute.new.self c.execute.ensures.kept
    c.execute.new.outcome (c.execute.ensures.outcome c.if-execute.false)
    c.after_step.new.self.stage c.after_step.new.self.world c.after_step.ensures.takes)

pub returns-else-execute-clause-next : goal.returns-else-execute-clause-next
returns-else-execute-clause-next g c =
    let m = c.self.inside.machine in
    taken_next m.stage m.world c.self.invariant c.see_kept.ensures c.args.self.now c.self.view_is c.requires.started
    c.after_step.new.self.stage c.after_step.new.self.world (far_takes m.stage m.world c.self.invariant c.see_kept.ensures c.args.self.now c.self.view_is c.requires.started c.in-Running.fixed c.in-Running.is c.execute.new.self c.execute.ensures.kept
    c.execute.new.outcome (c.execute.ensures.outcome c.if-execute.false)
    c.after_step.new.self.stage c.after_step.new.self.world c.after_step.ensures.takes)

pub returns-else-execute-clause-private : goal.returns-else-execute-clause-private
returns-else-execute-clause-private g c =
    let m = c.self.inside.machine in
    taken_private m.stage m.world c.self.invariant c.see_kept.ensures c.args.self.now c.self.view_is c.requires.started
    c.after_step.new.self.stage c.after_step.new.self.world (far_takes m.stage m.world c.self.invariant c.see_kept.ensures c.args.self.now c.self.view_is c.requires.started c.in-Running.fixed c.in-Running.is c.execute.new.self c.execute.ensures.kept
    c.execute.new.outcome (c.execute.ensures.outcome c.if-execute.false)
    c.after_step.new.self.stage c.after_step.new.self.world c.after_step.ensures.takes)

pub returns-else-execute-clause-texts : goal.returns-else-execute-clause-texts
returns-else-execute-clause-texts g c =
    let m = c.self.inside.machine in
    taken_texts m.stage m.world c.self.invariant c.see_kept.ensures c.args.self.now c.self.view_is c.requires.started
    c.after_step.new.self.stage c.after_step.new.self.world (far_takes m.stage m.world c.self.invariant c.see_kept.ensures c.args.self.now c.self.view_is c.requires.started c.in-Running.fixed c.in-Running.is c.execute.new.self c.execute.ensures.kept
    c.execute.new.outcome (c.execute.ensures.outcome c.if-execute.false)
    c.after_step.new.self.stage c.after_step.new.self.world c.after_step.ensures.takes)

pub returns-else-execute-clause-items : goal.returns-else-execute-clause-items
returns-else-execute-clause-items g c =
    let m = c.self.inside.machine in
    far_items m.stage m.world c.self.invariant c.see_kept.ensures c.args.self.now c.self.view_is c.requires.started c.in-Running.fixed c.in-Running.is c.execute.new.self c.execute.ensures.kept
    c.execute.new.outcome (c.execute.ensures.outcome c.if-execute.false)
    _ _ c.after_step.ensures.items

-- No process executes an instruction.
pub other_slot-requires-clause-fresh : goal.other_slot-requires-clause-fresh
other_slot-requires-clause-fresh g c =
    let m = c.self.inside.machine in
    taken_fresh m.stage m.world c.self.invariant c.see_kept.ensures c.args.self.now c.self.view_is c.requires.started c.requires.fresh

pub returns-in_default-clause-idle : goal.returns-in_default-clause-idle
returns-in_default-clause-idle g c =
    let m = c.self.inside.machine in
    taken_idle m.stage m.world c.self.invariant c.see_kept.ensures c.args.self.now c.self.view_is c.requires.started c.other_slot.result c.other_slot.ensures.answer

pub returns-in_default-clause-private : goal.returns-in_default-clause-private
returns-in_default-clause-private g c =
    let m = c.self.inside.machine in
    taken_private m.stage m.world c.self.invariant c.see_kept.ensures c.args.self.now c.self.view_is c.requires.started
    c.other_slot.new.self.stage c.other_slot.new.self.world c.other_slot.ensures.takes

pub returns-in_default-clause-texts : goal.returns-in_default-clause-texts
returns-in_default-clause-texts g c =
    let m = c.self.inside.machine in
    taken_texts m.stage m.world c.self.invariant c.see_kept.ensures c.args.self.now c.self.view_is c.requires.started
    c.other_slot.new.self.stage c.other_slot.new.self.world c.other_slot.ensures.takes

pub returns-in_default-clause-answer : goal.returns-in_default-clause-answer
returns-in_default-clause-answer g c =
    let m = c.self.inside.machine in
    taken_answer m.stage m.world c.self.invariant c.see_kept.ensures c.args.self.now c.self.view_is c.requires.started c.other_slot.result c.other_slot.ensures.answer

pub returns-in_default-clause-phase : goal.returns-in_default-clause-phase
returns-in_default-clause-phase g c =
    let m = c.self.inside.machine in
    taken_phase m.stage m.world c.self.invariant c.see_kept.ensures c.args.self.now c.self.view_is c.requires.started
    c.other_slot.new.self.stage c.other_slot.new.self.world c.other_slot.ensures.takes

pub returns-in_default-clause-next : goal.returns-in_default-clause-next
returns-in_default-clause-next g c =
    let m = c.self.inside.machine in
    taken_next m.stage m.world c.self.invariant c.see_kept.ensures c.args.self.now c.self.view_is c.requires.started
    c.other_slot.new.self.stage c.other_slot.new.self.world c.other_slot.ensures.takes

pub returns-in_default-clause-items : goal.returns-in_default-clause-items
returns-in_default-clause-items g c =
    subst (λ (v : KernelState). Took (g.T.Trace.taken c.args.trace.now) (event_of Slot v.system).items (g.T.Trace.taken c.other_slot.new.trace))
    c.self.view_is c.other_slot.ensures.items
