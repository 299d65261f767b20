use Rattle.std.proofs.Common.{◌≡◌, ◌≢◌, ◌∙◌, ◌==◌, ◌&&◌, not, ℕ, Bool, List, refl, sym, ap, subst}
use Rattle.v6_base.specs.Trace.{Took}
use Rattle.v6_base.specs.declared.answer.Answer.{Answer}
use Rattle.fs_nodes.specs.FileSystem.{SameAroundEach}
use Rattle.pick_rules.specs.Logged.{logged}
use Rattle.sys_files.specs.declared.files.Files.{Files}
use Rattle.sys_files.specs.Handed.{Handed, r0}
use Rattle.sys_files.specs.Did.{Did}
use Rattle.sys_files.specs.Descriptors.{open_entry}
use Rattle.unix_core.specs.declared.world.World.{World}
use Rattle.unix_core.specs.declared.slots.Slots.{Slots}
use Rattle.abstract_unix.specs.declared.calls.FileCall.{FileCall}
use Rattle.abstract_unix.specs.declared.calls.SystemCall.TheVariants.{OnFiles}
use Rattle.abstract_unix.specs.Unix.{Timing, process_of}
use Rattle.abstract_unix.specs.Calls.{answers, handed_of, file_row, did_by, is_read, has_bytes, is_of_disk, reads_disk, waits_in_call, does_call}
use Rattle.abstract_unix.proofs.Dues.{times_did}
use Rattle.unix_core.specs.Slots.{CanWait}
use Rattle.unix_core.specs.Parts.{unix_of, board_in, HasCome}
use Rattle.unix_core.proofs.CountLemmas.{has_not_waited}
use Rattle.unix_core.proofs.ShowingLemmas.{with_table, passed_ready, passed_come, passed_items}
use Rattle.unix_core.proofs.WaitLemmas.{same_bits, some_disk, slept_goes, waited_any, timed_effects, untimed_come, timed_come}
use Rattle.unix_core.proofs.process.call_files.Goals as goal
use Rattle.unix_core.proofs.process.call_files.Given.{Over}
use Rattle.unix_core.proofs.process.call_files.Goals.{After-conclude-ending, After-waits}

-- what is handed to the call, and what it comes to
abbrev given : World → ℕ → Handed
given w s = handed_of (unix_of w) (process_of (unix_of w) s)

abbrev row : World → FileCall → ℕ → List ℕ → Did
row w call s args = file_row call (given w s) s args w.procs.table.now

-- whether it may wait, and whether it does
abbrev may_so : World → FileCall → ℕ → Bool
may_so w call s = (is_read call && is_of_disk (given w s) (open_entry (given w s) (r0 (given w s)))) && not (w.slots.disk == 0)

waits_so : (w : World) (call : FileCall) (s : ℕ) (args : List ℕ) (may waits : Bool) (answer : Answer)
    → ((h : Handed) → h ≡ given w s → may ≡ ((is_read call && is_of_disk h (open_entry h (r0 h))) && not (w.slots.disk == 0)))
    → answer ≡ (row w call s args).answer → waits ≡ (may && has_bytes answer) → waits_in_call (unix_of w) s (OnFiles call) args ≡ waits
waits_so w call s args may waits answer each is told =
    let h : Handed = given w s in
    same_bits (is_read call) (has_bytes (row w call s args).answer) (is_of_disk h (open_entry h (r0 h))) (not (w.slots.disk == 0))
    ∙ sym (told ∙ ap (λ m. m && has_bytes answer) (each h refl) ∙ ap (λ a. may_so w call s && has_bytes a) is)

-- the same over what the call has left
waits_then : (w : World) (call : FileCall) (s : ℕ) (args : List ℕ) (waits : Bool) → waits_in_call (unix_of w) s (OnFiles call) args ≡ waits
    → (reads_disk call (given w s) (row w call s args).answer && not ((did_by (unix_of w) s (row w call s args)).unix.timing.disk == 0)) ≡ waits
waits_then w call s args waits is =
    ap (λ (t : Timing). reads_disk call (given w s) (row w call s args).answer && not (t.disk == 0)) (times_did s (unix_of w) (row w call s args)) ∙ is

pub may_wait-may-requires : goal.may_wait-may-requires
may_wait-may-requires g c = c.requires.ready

pub pass_on-requires-clause-table : goal.pass_on-requires-clause-table
pass_on-requires-clause-table g c = c.do_on_files-answer.ensures.shown.ready.good.agree.table

pub pass_on-requires-clause-slots : goal.pass_on-requires-clause-slots
pass_on-requires-clause-slots g c = c.do_on_files-answer.ensures.shown.slots

pub conclude-ending-requires : goal.conclude-ending-requires
conclude-ending-requires g c =
    let w : World = c.args.world.now in
    let s = c.args.fixed.now.slot in
    let e = c.do_on_files-answer.ensures in
    let did : Did = row w c.args.call s c.args.args in
    passed_ready w c.do_on_files-answer.new.world s did.state did.items e.shown e.unix c.pass_on.new.table c.pass_on.ensures.table

pub wait_for_disk-requires-clause-waits : goal.wait_for_disk-requires-clause-waits
wait_for_disk-requires-clause-waits g c =
    subst CanWait (sym (c.conclude-ending.ensures.slots ∙ c.do_on_files-answer.ensures.slots)) c.requires.waits

pub wait_for_disk-requires-clause-some : goal.wait_for_disk-requires-clause-some
wait_for_disk-requires-clause-some g c =
    let w : World = c.args.world.now in
    subst (λ (x : Slots). x.disk ≢ 0) (sym (c.conclude-ending.ensures.slots ∙ c.do_on_files-answer.ensures.slots))
    (some_disk _ _ w.slots.disk (ap (λ m. m && has_bytes c.do_on_files-answer.result) (sym (c.may_wait-may.ensures (given w c.args.fixed.now.slot) refl))
    ∙ sym c.waits.ensures ∙ c.if-waits.true))

-- what has come before the wait, and what has been shown
done : (g : Over) (c : After-conclude-ending g) → let w : World = c.args.world.now in
    HasCome (board_in w) (did_by (unix_of w) c.args.fixed.now.slot (row w c.args.call c.args.fixed.now.slot c.args.args)) c.conclude-ending.result c.conclude-ending.new.world
done g c =
    let w : World = c.args.world.now in
    let s = c.args.fixed.now.slot in
    let new : World = c.do_on_files-answer.new.world in
    let e = c.do_on_files-answer.ensures in
    let did : Did = row w c.args.call s c.args.args in
    passed_come w new s did.state did.items e.shown e.unix c.pass_on.new.table c.pass_on.ensures.table (λ u. answers u s did.answer)
    c.conclude-ending.result c.conclude-ending.new.world
    (subst (λ (a : Answer). HasCome (board_in (with_table new c.pass_on.new.table)) (answers (unix_of (with_table new c.pass_on.new.table)) s a)
    c.conclude-ending.result c.conclude-ending.new.world) e.answer c.conclude-ending.ensures.come)

took : (g : Over) (c : After-conclude-ending g) → let w : World = c.args.world.now in
    Took (g.T.Trace.taken c.args.trace.now) (logged (board_in w) (does_call (unix_of w) c.args.fixed.now.slot (OnFiles c.args.call) c.args.args).effects).items
    (g.T.Trace.taken c.conclude-ending.new.trace)
took g c =
    let w : World = c.args.world.now in
    let s = c.args.fixed.now.slot in
    let new : World = c.do_on_files-answer.new.world in
    let e = c.do_on_files-answer.ensures in
    let did : Did = row w c.args.call s c.args.args in
    subst (λ es. Took (g.T.Trace.taken c.args.trace.now) (logged (board_in w) es).items (g.T.Trace.taken c.conclude-ending.new.trace))
    (sym (timed_effects (reads_disk c.args.call (given w s) did.answer) s (did_by (unix_of w) s did)))
    (passed_items w new s did.state did.items e.shown e.unix c.pass_on.new.table c.pass_on.ensures.table (λ u. answers u s did.answer)
    _ _ _ c.pass_on.ensures.items
    (subst (λ (a : Answer). Took (g.T.Trace.taken c.pass_on.new.trace)
    (logged (board_in (with_table new c.pass_on.new.table)) (answers (unix_of (with_table new c.pass_on.new.table)) s a).effects).items
    (g.T.Trace.taken c.conclude-ending.new.trace)) e.answer c.conclude-ending.ensures.items))

waited : (g : Over) (c : After-waits g) → waits_in_call (unix_of c.args.world.now) c.args.fixed.now.slot (OnFiles c.args.call) c.args.args ≡ c.waits.result
waited g c =
    waits_so c.args.world.now c.args.call c.args.fixed.now.slot c.args.args c.may_wait-may.result c.waits.result c.do_on_files-answer.result c.may_wait-may.ensures
    c.do_on_files-answer.ensures.answer c.waits.ensures

pub returns-then-waits : goal.returns-then-waits
returns-then-waits g c =
    let w : World = c.args.world.now in
    let s = c.args.fixed.now.slot in
    let at = goal.at.returns-then-waits g c in
    let did : Did = row w c.args.call s c.args.args in
    let e = c.conclude-ending.ensures in
    let last = c.wait_for_disk.ensures in
    record {
      come = timed_come (board_in w) (did_by (unix_of w) s did) c.conclude-ending.result c.conclude-ending.new.world (done g at.After-conclude-ending)
          (reads_disk c.args.call (given w s) did.answer) s c.wait_for_disk.new.world c.wait_for_disk.result e.goes
          (waits_then w c.args.call s c.args.args c.waits.result (waited g at.After-waits) ∙ c.if-waits.true) last.unix last.board last.ending;
      ready = last.ready;
      covered = λ ends. absurd (slept_goes _ _ last.ending ends);
      items = took g at.After-conclude-ending;
      frame = g.met.T.Trace.goes_on _ _ _ c.pass_on.ensures.frame e.frame;
      rest = subst (λ (f : Files). SameAroundEach w.files.tree.nodes.blocks f.tree.nodes.blocks) (sym last.files)
          (subst (λ b. SameAroundEach w.files.tree.nodes.blocks b) (sym e.blocks) c.do_on_files-answer.ensures.rest);
      slots = waited_any _ w.slots c.conclude-ending.new.world.slots c.wait_for_disk.new.world.slots (e.slots ∙ c.do_on_files-answer.ensures.slots) last.slots;
    }

pub returns : goal.returns
returns g c =
    let w : World = c.args.world.now in
    let s = c.args.fixed.now.slot in
    let at = goal.at.returns g c in
    let did : Did = row w c.args.call s c.args.args in
    let e = c.conclude-ending.ensures in
    record {
      come = untimed_come (board_in w) (did_by (unix_of w) s did) c.conclude-ending.result c.conclude-ending.new.world (done g at.After-conclude-ending)
          (reads_disk c.args.call (given w s) did.answer) s (waits_then w c.args.call s c.args.args c.waits.result (waited g at.After-waits) ∙ c.if-waits.false);
      ready = e.ready;
      covered = λ ends. absurd (let never = sym e.goes ∙ ends in cc never);
      items = took g at.After-conclude-ending;
      frame = g.met.T.Trace.goes_on _ _ _ c.pass_on.ensures.frame e.frame;
      rest = subst (λ b. SameAroundEach w.files.tree.nodes.blocks b) (sym e.blocks) c.do_on_files-answer.ensures.rest;
      slots = has_not_waited _ w.slots c.conclude-ending.new.world.slots (e.slots ∙ c.do_on_files-answer.ensures.slots) c.requires.waits
          (waited g at.After-waits ∙ c.if-waits.false);
    }
