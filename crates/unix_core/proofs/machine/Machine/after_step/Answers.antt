use Rattle.std.proofs.Common.{◌≡◌, ◌∙◌, ◌≤◌, ℕ, List, refl, ap, sym, subst}
use Rattle.v6_base.specs.Trace.{Took}
use Rattle.fs_nodes.specs.Disks.{Disks}
use Rattle.fs_nodes.specs.FileSystem.{SameAroundEach}
use Rattle.fs_nodes.proofs.RestLemmas.{rest_then}
use Rattle.unix_core.specs.declared.world.World.{World}
use Rattle.unix_core.specs.declared.slots.Slots.{Slots}
use Rattle.unix_core.specs.Slots.{passed_in}
use Rattle.abstract_unix.specs.Unix.{Timing}
use Rattle.abstract_unix.specs.Turn.{comes_to, begins_turn, turn, turn_of, turned, after_slot, settled_after}
use Rattle.unix_core.specs.Parts.{unix_of, board_in, slot_in, HasCome, HasStepped, Takes, IsRunning}
use Rattle.unix_core.proofs.TurnLemmas.{turn_is, turn_takes, turn_items, stepped_come, stepped_items}
use Rattle.unix_core.proofs.TrapLemmas.{step_user}
use Rattle.unix_core.proofs.CountLemmas.{timed_waits_can}
use Rattle.unix_core.proofs.TurnCounts.{first_goes, comes_timed}
use Rattle.unix_core.proofs.WorldLemmas.{slot_is}
use Rattle.unix_core.proofs.machine.Machine.after_step.Goals as goal

pub come_to-ending-requires : goal.come_to-ending-requires
come_to-ending-requires g c =
    let run : IsRunning c.in-Running.fixed c.args.self.now.world = c.requires.user c.in-Running.fixed c.in-Running.is in
    record {
      fixed = run.fixed;
      ready = run.user.ready;
      user = run.user.user;
      waits = timed_waits_can c.args.self.now.world.slots (unix_of c.args.self.now.world) refl c.requires.fresh c.requires.counted.timed;
    }

pub deliver_after-ending-requires-clause-user : goal.deliver_after-ending-requires-clause-user
deliver_after-ending-requires-clause-user g c =
    let w : World = c.args.self.now.world in
    let s = c.in-Running.fixed.slot in
    let run : IsRunning c.in-Running.fixed w = c.requires.user c.in-Running.fixed c.in-Running.is in
    let first = c.come_to-ending in
    step_user w first.new.world s c.args.self.now.came (board_in w) first.result (slot_is w s run.user.ready) run.user.user first.ensures.come

pub deliver_after-ending-requires-clause-above : goal.deliver_after-ending-requires-clause-above
deliver_after-ending-requires-clause-above g c = (c.requires.user c.in-Running.fixed c.in-Running.is).user.ready.user

pub end-requires-clause-user : goal.end-requires-clause-user
end-requires-clause-user g c = (c.requires.user c.in-Running.fixed c.in-Running.is).user.ready.user

pub end-requires-clause-timed : goal.end-requires-clause-timed
end-requires-clause-timed g c goes =
    let w : World = c.args.self.now.world in
    let s = c.in-Running.fixed.slot in
    let o = c.args.self.now.came in
    let run = c.requires.user c.in-Running.fixed c.in-Running.is in
    let first = c.come_to-ending in
    let last = c.deliver_after-ending in
    comes_timed w s run.user.ready c.requires.counted.timed o run.user.user first.new.world.slots
    (first.ensures.slots (first_goes first.result last.result last.ensures.stopped goes))
    last.result last.new.world (last.ensures.come (board_in w) (comes_to (unix_of w) s o) first.ensures.come) last.ensures.slots goes

pub end-requires-clause-within : goal.end-requires-clause-within
end-requires-clause-within g c =
    subst (λ (x : Slots). x.left ≤ x.due) (sym c.deliver_after-ending.ensures.slots) c.come_to-ending.ensures.within

pub end-requires-clause-fresh : goal.end-requires-clause-fresh
end-requires-clause-fresh g c goes =
    let first = c.come_to-ending in
    let last = c.deliver_after-ending in
    let waited = first.ensures.slots (first_goes first.result last.result last.ensures.stopped goes) in
    subst (λ (n : ℕ). n ≤ 3000000000) (sym (ap (λ (x : Slots). passed_in x) last.ensures.slots ∙ ap (λ (t : Timing). t.passed) waited.timing)) c.requires.fresh

pub returns-clause-answer : goal.returns-clause-answer
returns-clause-answer g c p stepped =
    let s = c.in-Running.fixed.slot in
    let at : s ≡ slot_in c.args.self.now.stage = sym (ap slot_in c.in-Running.is) in
    let did = subst (λ r. HasStepped p c.args.self.now.world r c.args.self.now.came) (sym at) stepped in
    let first = c.come_to-ending in
    let last = c.deliver_after-ending in
    let begun : HasCome p.board (begins_turn p s) first.result first.new.world =
    stepped_come p s c.args.self.now.came c.args.self.now.world did first.result first.new.world first.ensures.come in
    subst (λ r. c.end.result ≡ turned (settled_after (after_slot (turn_of p r (turn p r))))) at
    (c.end.ensures.answer ∙ ap turned (sym (turn_is p s (turn p s) last.result last.new.world (last.ensures.come p.board (begins_turn p s) begun))))

pub returns-clause-takes : goal.returns-clause-takes
returns-clause-takes g c p stepped =
    let s = c.in-Running.fixed.slot in
    let at : s ≡ slot_in c.args.self.now.stage = sym (ap slot_in c.in-Running.is) in
    let did = subst (λ r. HasStepped p c.args.self.now.world r c.args.self.now.came) (sym at) stepped in
    let first = c.come_to-ending in
    let last = c.deliver_after-ending in
    let begun : HasCome p.board (begins_turn p s) first.result first.new.world =
    stepped_come p s c.args.self.now.came c.args.self.now.world did first.result first.new.world first.ensures.come in
    subst (λ r. Takes (settled_after (after_slot (turn_of p r (turn p r)))) c.end.new.self.stage c.end.new.self.world) at
    (turn_takes p s (turn p s) last.result last.new.world (last.ensures.come p.board (begins_turn p s) begun) _ _ c.end.ensures.takes)

pub returns-clause-kernel : goal.returns-clause-kernel
returns-clause-kernel g c = c.end.ensures.takes.kernel

pub returns-clause-items : goal.returns-clause-items
returns-clause-items g c p stepped =
    let s = c.in-Running.fixed.slot in
    let w : World = c.args.self.now.world in
    let at : s ≡ slot_in c.args.self.now.stage = sym (ap slot_in c.in-Running.is) in
    let did = subst (λ r. HasStepped p w r c.args.self.now.came) (sym at) stepped in
    let first = c.come_to-ending in
    let last = c.deliver_after-ending in
    let begun : HasCome p.board (begins_turn p s) first.result first.new.world =
    stepped_come p s c.args.self.now.came w did first.result first.new.world first.ensures.come in
    subst (λ r. Took (g.T.Trace.taken c.args.trace.now) (settled_after (after_slot (turn_of p r (turn p r)))).items (g.T.Trace.taken c.end.new.trace)) at
    (turn_items p s (turn p s) last.result last.new.world (last.ensures.come p.board (begins_turn p s) begun) _ _ _
    (last.ensures.items p.board (begins_turn p s) _ begun (stepped_items p s c.args.self.now.came w did _ _ first.ensures.items))
    c.end.ensures.items)

pub returns-clause-frame : goal.returns-clause-frame
returns-clause-frame g c =
    g.met.T.Trace.goes_on _ _ _ c.come_to-ending.ensures.frame (g.met.T.Trace.goes_on _ _ _ c.deliver_after-ending.ensures.frame c.end.ensures.frame)

pub returns-clause-rest : goal.returns-clause-rest
returns-clause-rest g c =
    let first : Disks (List (List ℕ)) = c.args.self.now.world.files.tree.nodes.blocks in
    subst (λ (b : Disks (List (List ℕ))). SameAroundEach first b) (sym c.end.ensures.blocks)
    (rest_then first _ _ c.come_to-ending.ensures.rest c.deliver_after-ending.ensures.rest)
