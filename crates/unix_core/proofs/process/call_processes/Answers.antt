use Rattle.std.proofs.Common.{◌≡◌, ◌≤◌, ◌∙◌, ◌⊎◌, ◌==◌, ◌&&◌, not, ℕ, Bool, true, List, Result, Ok, refl, sym, ap, subst}
use Rattle.std.proofs.lemmas.Result.{IfOk-at_ok, IfErr-at_err}
use Rattle.v6_base.specs.Trace.{Took}
use Rattle.v6_base.specs.declared.answer.Answer.{Answer}
use Rattle.v6_base.specs.declared.entry.PanicKind.{PanicKind}
use Rattle.fs_nodes.specs.FileSystem.{SameAroundEach}
use Rattle.pick_rules.specs.Logged.{logged}
use Rattle.fs_nodes.specs.FileSystem.{IsFileSystem}
use Rattle.image_keep.specs.Kept.{IsKept}
use Rattle.sys_procs.specs.Comes.{Comes}
use Rattle.sys_procs.specs.Agree.{answered}
use Rattle.sys_procs.specs.Handed.{AreProcs, AreBare, came}
use Rattle.sys_files.specs.declared.files.Files.{Files}
use Rattle.unix_core.specs.declared.world.World.{World}
use Rattle.abstract_unix.specs.declared.ending.Ending.TheVariants.{Panic}
use Rattle.abstract_unix.specs.declared.calls.ProcessCall.{ProcessCall}
use Rattle.abstract_unix.specs.declared.calls.SystemCall.TheVariants.{OnProcesses}
use Rattle.abstract_unix.specs.Unix.{Timing, process_of, mounts_of}
use Rattle.abstract_unix.specs.Steps.{Steps}
use Rattle.abstract_unix.specs.Calls.{world_of, came_by, process_row, loads_program, waits_in_call, does_call, with_world}
use Rattle.abstract_unix.specs.Turn.{is_user}
use Rattle.abstract_unix.specs.Whole.{CanGoOn}
use Rattle.abstract_unix.proofs.GoingOnLemmas.{world_goes_on}
use Rattle.abstract_unix.proofs.WaitingRows.{row_waited}
use Rattle.abstract_unix.proofs.Dues.{times_came}
use Rattle.unix_core.specs.declared.slots.Slots.{Slots}
use Rattle.unix_core.specs.Slots.{CanWait}
use Rattle.unix_core.proofs.AreaLemmas.{none_pending}
use Rattle.unix_core.proofs.CountLemmas.{has_not_waited}
use Rattle.unix_core.proofs.EndingLemmas.{came_goes}
use Rattle.unix_core.proofs.WaitLemmas.{takes_disk, slept_goes, waited_any, timed_effects, untimed_come, timed_come, cut_come, stopped_by}
use Rattle.unix_core.specs.Parts.{unix_of, board_in, HasCome, IsReady}
use Rattle.unix_core.proofs.CameLemmas.{given, still_given, IsTame, goes_on, after, beside, world_is, ready_calls, over_then, call_took, call_cut, call_stops, call_ready, call_come}
use Rattle.unix_core.proofs.CoverLemmas.{stopped_covered}
use Rattle.unix_core.proofs.WorldLemmas.{mounts_is}
use Rattle.abstract_unix.proofs.StillWorlds as worlds
use Rattle.unix_core.proofs.TameRows.{tame_row}
use Rattle.unix_core.proofs.process.call_processes.Goals as goal
use Rattle.unix_core.proofs.process.call_processes.Given.{Over}
use Rattle.unix_core.proofs.process.call_processes.Goals.{After-conclude-ending, After-has_loaded}

abbrev row : World → ProcessCall → ℕ → List ℕ → Comes
row w call s args = process_row call w.files.tree.mounts (given w) s args

-- that of the Unix
abbrev its : World → ProcessCall → ℕ → List ℕ → Comes
its w call s args = process_row call (mounts_of (unix_of w)) (world_of (unix_of w)) s args

row_is : (w : World) (call : ProcessCall) (s : ℕ) (args : List ℕ) → IsReady w s → IsFileSystem w.files.tree.nodes → row w call s args ≡ its w call s args
row_is w call s args ready form =
    λ i. process_row call (mounts_is w.files.tree.mounts w.files.tree.nodes.store ready.good.mounts i) (world_is w s ready form i) s args

tame : (w : World) (call : ProcessCall) (s : ℕ) (args : List ℕ) → IsReady w s → IsFileSystem w.files.tree.nodes → IsKept w.procs.images.kept → IsTame w (row w call s args)
tame w call s args ready form holds = tame_row w s ready form holds call args

-- who waits in a pipe can go on, since who calls doesn't
waits : (w : World) (call : ProcessCall) (s : ℕ) (args : List ℕ) → IsReady w s → is_user (process_of (unix_of w) s) ≡ true
    → CanGoOn (with_world (unix_of w) (row w call s args).state)
waits w call s args ready user =
    world_goes_on (unix_of w) (row w call s args).state ready.good.pending
    (row_waited (given w) s (none_pending (process_of (unix_of w) s) user) call w.files.tree.mounts args)

-- what is answered is what the row says
went : (w : World) (call : ProcessCall) (s : ℕ) (args : List ℕ) (a : Answer) (r : Result Answer PanicKind)
    → r ≡ answered (came w.procs (row w call s args)).stop (row w call s args).answer → r ≡ Ok a → a ≡ (row w call s args).answer
went w call s args a r is ok = (goes_on (came w.procs (row w call s args)).stop (row w call s args).answer a r is ok).1

-- whether the call waits
waits_so : (w : World) (call : ProcessCall) (s : ℕ) (args : List ℕ) → IsReady w s → IsFileSystem w.files.tree.nodes → (answer : Answer)
    → answer ≡ (row w call s args).answer → (loaded : Bool) (slots : Slots) → slots ≡ w.slots
    → loaded ≡ (loads_program call answer && not (slots.disk == 0)) → waits_in_call (unix_of w) s (OnProcesses call) args ≡ loaded
waits_so w call s args ready form answer is loaded slots same told =
    sym (told ∙ ap (λ (x : Slots). loads_program call answer && not (x.disk == 0)) same
    ∙ ap (λ a. loads_program call a && not (w.slots.disk == 0))
    (is ∙ ap (λ (x : Comes). x.answer) (row_is w call s args ready form)))

waits_then : (w : World) (call : ProcessCall) (s : ℕ) (args : List ℕ) (loaded : Bool) → waits_in_call (unix_of w) s (OnProcesses call) args ≡ loaded
    → (loads_program call (its w call s args).answer && not ((came_by (unix_of w) s (its w call s args)).unix.timing.disk == 0)) ≡ loaded
waits_then w call s args loaded is =
    ap (λ (t : Timing). loads_program call (its w call s args).answer && not (t.disk == 0)) (times_came s (unix_of w) (its w call s args)) ∙ is

pub do_process_call-requires-clause-calls : goal.do_process_call-requires-clause-calls
do_process_call-requires-clause-calls g c = ready_calls c.args.world.now c.args.s c.requires.ready c.see_table.ensures c.see_kept.ensures

pub do_process_call-requires-clause-marks : goal.do_process_call-requires-clause-marks
do_process_call-requires-clause-marks g c = c.requires.ready.good.marks

pub do_process_call-requires-clause-mounts : goal.do_process_call-requires-clause-mounts
do_process_call-requires-clause-mounts g c = c.requires.ready.good.mounts

pub conclude-ending-requires : goal.conclude-ending-requires
conclude-ending-requires g c =
    let w : World = c.args.world.now in
    let e = c.do_process_call.ensures in
    call_ready w (after w c.do_process_call.new.tree c.do_process_call.new.p) c.args.s (row w c.args.call c.args.s c.args.args)
    (tame w c.args.call c.args.s c.args.args c.requires.ready c.see.ensures c.see_kept.ensures) (beside w c.do_process_call.new.tree c.do_process_call.new.p c.do_process_call.ensures.mounts) e.does
    c.in-Ok.answer c.in-Ok.is c.requires.ready
    (IfOk-at_ok (λ (a : Answer). AreProcs c.do_process_call.new.p) c.in-Ok.is e.agree)
    (waits w c.args.call c.args.s c.args.args c.requires.ready c.requires.user) e.marks
    (worlds.still_row (given w) c.args.s c.args.call w.files.tree.mounts (given w) c.args.args (still_given w c.args.s c.requires.ready)).count

pub wait_for_disk-requires-clause-waits : goal.wait_for_disk-requires-clause-waits
wait_for_disk-requires-clause-waits g c = subst CanWait (sym c.conclude-ending.ensures.slots) c.requires.waits

pub wait_for_disk-requires-clause-some : goal.wait_for_disk-requires-clause-some
wait_for_disk-requires-clause-some g c = takes_disk _ c.conclude-ending.new.world.slots.disk (sym c.has_loaded.ensures ∙ c.if-has_loaded.true)

-- what it has come to, and what has been shown, before it may wait
done : (g : Over) (c : After-conclude-ending g) → let w : World = c.args.world.now in
    HasCome (board_in w) (came_by (unix_of w) c.args.s (its w c.args.call c.args.s c.args.args)) c.conclude-ending.result c.conclude-ending.new.world
done g c =
    let w : World = c.args.world.now in
    let p = c.do_process_call in
    subst (λ (x : Comes). HasCome (board_in w) (came_by (unix_of w) c.args.s x) c.conclude-ending.result c.conclude-ending.new.world)
    (row_is w c.args.call c.args.s c.args.args c.requires.ready c.see.ensures)
    (call_come w (after w p.new.tree p.new.p) c.args.s (row w c.args.call c.args.s c.args.args)
    (tame w c.args.call c.args.s c.args.args c.requires.ready c.see.ensures c.see_kept.ensures) (beside w p.new.tree p.new.p p.ensures.mounts) p.ensures.does
    c.in-Ok.answer c.in-Ok.is c.conclude-ending.result c.conclude-ending.new.world c.conclude-ending.ensures.come)

took : (g : Over) (c : After-conclude-ending g) → let w : World = c.args.world.now in
    Took (g.T.Trace.taken c.args.trace.now) (logged (board_in w) (does_call (unix_of w) c.args.s (OnProcesses c.args.call) c.args.args).effects).items
    (g.T.Trace.taken c.conclude-ending.new.trace)
took g c =
    let w : World = c.args.world.now in
    let p = c.do_process_call in
    subst (λ es. Took (g.T.Trace.taken c.args.trace.now) (logged (board_in w) es).items (g.T.Trace.taken c.conclude-ending.new.trace))
    (ap (λ (x : Comes). (came_by (unix_of w) c.args.s x).effects) (row_is w c.args.call c.args.s c.args.args c.requires.ready c.see.ensures)
    ∙ sym (timed_effects (loads_program c.args.call (its w c.args.call c.args.s c.args.args).answer) c.args.s (came_by (unix_of w) c.args.s (its w c.args.call c.args.s c.args.args))))
    (call_took w (after w p.new.tree p.new.p) c.args.s (row w c.args.call c.args.s c.args.args)
    (tame w c.args.call c.args.s c.args.args c.requires.ready c.see.ensures c.see_kept.ensures) (beside w p.new.tree p.new.p p.ensures.mounts) p.ensures.does
    c.in-Ok.answer c.in-Ok.is _ c.conclude-ending.ensures.items)

loaded : (g : Over) (c : After-has_loaded g) → waits_in_call (unix_of c.args.world.now) c.args.s (OnProcesses c.args.call) c.args.args ≡ c.has_loaded.result
loaded g c =
    let w : World = c.args.world.now in
    waits_so w c.args.call c.args.s c.args.args c.requires.ready c.see.ensures c.in-Ok.answer
    (went w c.args.call c.args.s c.args.args c.in-Ok.answer _ c.do_process_call.ensures.does.answer c.in-Ok.is)
    c.has_loaded.result c.conclude-ending.new.world.slots c.conclude-ending.ensures.slots c.has_loaded.ensures

pub returns-then-has_loaded : goal.returns-then-has_loaded
returns-then-has_loaded g c =
    let w : World = c.args.world.now in
    let s = c.args.s in
    let at = goal.at.returns-then-has_loaded g c in
    let e = c.conclude-ending.ensures in
    let last = c.wait_for_disk.ensures in
    record {
      come = timed_come (board_in w) (came_by (unix_of w) s (its w c.args.call s c.args.args)) c.conclude-ending.result c.conclude-ending.new.world
          (done g at.After-conclude-ending) (loads_program c.args.call (its w c.args.call s c.args.args).answer) s c.wait_for_disk.new.world c.wait_for_disk.result e.goes
          (waits_then w c.args.call s c.args.args c.has_loaded.result (loaded g at.After-has_loaded) ∙ c.if-has_loaded.true) last.unix last.board last.ending;
      ready = λ goes. last.ready;
      covered = λ ends. absurd (slept_goes _ _ last.ending ends);
      items = took g at.After-conclude-ending;
      frame = g.met.T.Trace.goes_on _ _ _ c.do_process_call.ensures.frame e.frame;
      rest = subst (λ (f : Files). SameAroundEach w.files.tree.nodes.blocks f.tree.nodes.blocks) (sym last.files)
          (subst (λ b. SameAroundEach w.files.tree.nodes.blocks b) (sym e.blocks) c.do_process_call.ensures.blocks);
      slots = λ goes. waited_any _ w.slots c.conclude-ending.new.world.slots c.wait_for_disk.new.world.slots e.slots last.slots;
      within = last.slots.within;
    }

pub returns-else-has_loaded : goal.returns-else-has_loaded
returns-else-has_loaded g c =
    let w : World = c.args.world.now in
    let s = c.args.s in
    let at = goal.at.returns-else-has_loaded g c in
    let e = c.conclude-ending.ensures in
    record {
      come = untimed_come (board_in w) (came_by (unix_of w) s (its w c.args.call s c.args.args)) c.conclude-ending.result c.conclude-ending.new.world
          (done g at.After-conclude-ending) (loads_program c.args.call (its w c.args.call s c.args.args).answer) s
          (waits_then w c.args.call s c.args.args c.has_loaded.result (loaded g at.After-has_loaded) ∙ c.if-has_loaded.false);
      ready = λ goes. e.ready;
      covered = λ ends. absurd (let never = sym e.goes ∙ ends in cc never);
      items = took g at.After-conclude-ending;
      frame = g.met.T.Trace.goes_on _ _ _ c.do_process_call.ensures.frame e.frame;
      rest = subst (λ b. SameAroundEach w.files.tree.nodes.blocks b) (sym e.blocks) c.do_process_call.ensures.blocks;
      slots = λ goes. has_not_waited _ w.slots c.conclude-ending.new.world.slots e.slots c.requires.waits (loaded g at.After-has_loaded ∙ c.if-has_loaded.false);
      within = subst (λ (x : Slots). x.left ≤ x.due) (sym e.slots) c.requires.waits.within;
    }

pub returns-in-Err : goal.returns-in-Err
returns-in-Err g c =
    let w : World = c.args.world.now in
    let s = c.args.s in
    let p = c.do_process_call in
    let e = p.ensures in
    let now : World = after w p.new.tree p.new.p in
    let steps : Steps = came_by (unix_of w) s (its w c.args.call s c.args.args) in
    let is = row_is w c.args.call s c.args.args c.requires.ready c.see.ensures in
    let quiet = tame w c.args.call s c.args.args c.requires.ready c.see.ensures c.see_kept.ensures in
    let stays = beside w p.new.tree p.new.p e.mounts in
    let come : HasCome (board_in w) steps (Panic c.in-Err.kind) now =
    subst (λ (x : Comes). HasCome (board_in w) (came_by (unix_of w) s x) (Panic c.in-Err.kind) now) is
    (call_stops w now s (row w c.args.call s c.args.args) quiet stays e.does c.in-Err.kind c.in-Err.is (Panic c.in-Err.kind) refl) in
    let stop = stopped_by (board_in w) steps (Panic c.in-Err.kind) now come refl (came_goes (unix_of w) s (its w c.args.call s c.args.args)) in
    record {
      come = cut_come (board_in w) steps (Panic c.in-Err.kind) now come (loads_program c.args.call (its w c.args.call s c.args.args).answer) s stop.0 stop.1;
      ready = λ goes. over_then c.in-Err.kind goes;
      covered = λ ends. stopped_covered now s (IfErr-at_err (λ (kind : PanicKind). AreProcs p.new.p ⊎ AreBare p.new.p s) c.in-Err.is e.left)
          c.see_procs.ensures.rows c.see_procs.ensures.images;
      items = subst (λ es. Took (g.T.Trace.taken c.args.trace.now) (logged (board_in w) es).items (g.T.Trace.taken p.new.trace))
          (ap (λ (x : Comes). (came_by (unix_of w) s x).effects) is ∙ sym (timed_effects (loads_program c.args.call (its w c.args.call s c.args.args).answer) s steps))
          (call_cut w now s (row w c.args.call s c.args.args) quiet stays e.does c.in-Err.kind c.in-Err.is);
      frame = e.frame;
      rest = e.blocks;
      slots = λ goes. over_then c.in-Err.kind goes;
      within = c.requires.waits.within;
    }
