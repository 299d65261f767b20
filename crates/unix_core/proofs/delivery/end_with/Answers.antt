use Rattle.std.proofs.Common.{◌≡◌, ◌∙◌, ◌<◌, ℕ, length, map, Option, Some, None, refl, sym, ap, subst}
use Rattle.std.specs.Prelude.{Result, Ok, Err}
use Rattle.v6_base.specs.declared.entry.PanicKind.{PanicKind}
use Rattle.u_area.specs.declared.layout.TheConstants.{NOTHING_PENDING}
use Rattle.sys_procs.specs.Agree.{ended_by}
use Rattle.sys_procs.specs.World as its
use Rattle.v6_base.specs.Trace.{Took}
use Rattle.fs_nodes.proofs.RestLemmas.{rest_then}
use Rattle.fs_nodes.specs.Keys.{counts}
use Rattle.pick_rules.specs.declared.table.Table.{Table}
use Rattle.pick_rules.specs.Effects.{Show}
use Rattle.pick_rules.specs.Logged.{Stop, logged}
use Rattle.unix_core.specs.declared.world.World.{World}
use Rattle.abstract_unix.specs.declared.ending.Ending.TheVariants.{Panic}
use Rattle.open_files.specs.Files.{times}
use Rattle.abstract_unix.specs.Unix.{Unix, process_of}
use Rattle.abstract_unix.specs.Calls.{in_order, closes_all, handed_of, with_handed}
use Rattle.sys_files.specs.Handed.{Handed}
use Rattle.sys_procs.specs.Process.{Process}
use Rattle.abstract_unix.proofs.PendingRows.{close_user}
use Rattle.abstract_unix.proofs.StillWorlds as worlds
use Rattle.unix_core.proofs.AreaLemmas.{none_pending, own_put}
use Rattle.unix_core.specs.Parts.{unix_of, board_in, IsReady, IsReadyToShow}
use Rattle.unix_core.specs.Passing.{all_woken}
use Rattle.abstract_unix.specs.Whole.{told_of}
use Rattle.abstract_unix.proofs.Owing.{some_within}
use Rattle.unix_core.proofs.WorldLemmas.{slot_is, told_here}
use Rattle.unix_core.proofs.ShowingLemmas.{with_table, passed_ready, passed_unix, passed_board}
use Rattle.unix_core.proofs.GoodLemmas.{Rests}
use Rattle.unix_core.proofs.CameLemmas.{ready_calls, given, still_given, over_then}
use Rattle.unix_core.proofs.ExitLemmas.{end_state, exit_took, exit_come, exit_stops}
use Rattle.unix_core.proofs.EndedLemmas.{all_closed, ended_unix, ended_good, stopped_unix, stopped_runs}
use Rattle.unix_core.proofs.delivery.end_with.Goals as goal

-- The world when the files of the process are closed, and what they have shown has been passed on.
module _ (w new : World) (s : ℕ) (t : Table) (shown : IsReadyToShow w new s (closes_all (unix_of w) s).items)
    (state : unix_of new ≡ with_handed (unix_of w) s (closes_all (unix_of w) s).state) (is : t ≡ all_woken new.procs.table new.tape.entries) where
  then : IsReady (with_table new t) s
  then = passed_ready w new s (closes_all (unix_of w) s).state (closes_all (unix_of w) s).items shown state t is

  closed_unix : unix_of (with_table new t) ≡ with_handed (unix_of w) s (closes_all (unix_of w) s).state
  closed_unix = passed_unix w new s (closes_all (unix_of w) s).state (closes_all (unix_of w) s).items shown state t is

  closed_board : board_in (with_table new t) ≡ (logged {W = Unix} (board_in w) (map Show (in_order (closes_all (unix_of w) s).items))).board
  closed_board = passed_board w new s (closes_all (unix_of w) s).state (closes_all (unix_of w) s).items shown state t is

  -- it goes on with no call
  closed_free : IsReady w s → (process_of (unix_of w) s).u.pending ≡ NOTHING_PENDING → (process_of (unix_of (with_table new t)) s).u.pending ≡ NOTHING_PENDING
  closed_free ready none =
      let h : Handed = (closes_all (unix_of w) s).state in
      let p : Process = process_of (unix_of w) s in
      ap (λ (x : Unix). (process_of x s).u.pending) closed_unix
      ∙ ap (λ (x : Process). x.u.pending)
      (own_put (unix_of w) s p (record p { u = h.u; row = h.row; «data» = h.image.data; stack = h.image.stack }) (slot_is w s ready))
      ∙ close_user (handed_of (unix_of w) p) none

-- how an end is answered
ended_goes : (o : Option (Stop its.World)) (r : Result (Unit {0}) PanicKind) → r ≡ ended_by o → r ≡ Ok tt → o ≡ None
ended_goes None r e is = refl
ended_goes (Some stop) r e is = absurd (let never : ◌≡◌ {A = Result (Unit {0}) PanicKind} (Ok tt) (Err stop.why) = sym is ∙ e in cc never)

ended_stops : (o : Option (Stop its.World)) (kind : PanicKind) (r : Result (Unit {0}) PanicKind) → r ≡ ended_by o → r ≡ Err kind
    → (stop : Stop its.World) × ((o ≡ Some stop) × (kind ≡ stop.why))
ended_stops None kind r e is = absurd (let never : ◌≡◌ {A = Result (Unit {0}) PanicKind} (Err kind) (Ok tt) = sym is ∙ e in cc never)
ended_stops (Some stop) kind r e is =
    let same : ◌≡◌ {A = Result (Unit {0}) PanicKind} (Err kind) (Err stop.why) = sym is ∙ e in (stop, (refl, cc same))

slot_low : (w : World) (s : ℕ) → IsReady w s → s < length (unix_of w).processes
slot_low w s ready = some_within (unix_of w).processes s (process_of (unix_of w) s) (slot_is w s ready)

closed_then : (w w1 : World) (s : ℕ) → IsReady w s → IsReady w1 s → unix_of w1 ≡ with_handed (unix_of w) s (closes_all (unix_of w) s).state
    → (entry : ℕ) → times (process_of (unix_of w1) s).u.files entry ≡ 0
closed_then w w1 s ready then unix entry =
    let low = slot_low w s ready in
    let long : length (process_of (unix_of w1) s).u.files ≡ 15 =
    then.good.owed.fifteen s (told_of (process_of (unix_of w1) s)) (told_here w1 s then) in
    ap (λ (u : Unix). times (process_of u s).u.files entry) unix
    ∙ all_closed (unix_of w) s entry low (sym (ap (λ (u : Unix). length (process_of u s).u.files) unix) ∙ long)

pub end_proc-ended-requires-clause-calls : goal.end_proc-ended-requires-clause-calls
end_proc-ended-requires-clause-calls g c =
    let w1 : World = with_table c.close_files.new.world c.pass_on.new.table in
    ready_calls w1 c.args.s (then c.args.world.now c.close_files.new.world c.args.s c.pass_on.new.table c.close_files.ensures.shown c.close_files.ensures.unix c.pass_on.ensures.table)
    c.see_table.ensures c.see_kept.ensures

pub end_proc-ended-requires-clause-marks : goal.end_proc-ended-requires-clause-marks
end_proc-ended-requires-clause-marks g c =
    (then c.args.world.now c.close_files.new.world c.args.s c.pass_on.new.table c.close_files.ensures.shown c.close_files.ensures.unix c.pass_on.ensures.table).good.marks

pub pass_on-requires-clause-table : goal.pass_on-requires-clause-table
pass_on-requires-clause-table g c = c.close_files.ensures.shown.ready.good.agree.table

pub pass_on-requires-clause-slots : goal.pass_on-requires-clause-slots
pass_on-requires-clause-slots g c = c.close_files.ensures.shown.slots

pub see_covered-requires : goal.see_covered-requires
see_covered-requires g c = c.end_proc-ended.ensures.agree

pub returns-in-Ok : goal.returns-in-Ok
returns-in-Ok g c =
    let w : World = c.args.world.now in
    let new : World = c.close_files.new.world in
    let t : Table = c.pass_on.new.table in
    let w1 : World = with_table new t in
    let s = c.args.s in
    let n = c.args.status in
    let shown = c.close_files.ensures.shown in
    let state = c.close_files.ensures.unix in
    let is = c.pass_on.ensures.table in
    let ready = then w new s t shown state is in
    let unix = closed_unix w new s t shown state is in
    let board = closed_board w new s t shown state is in
    let e = c.end_proc-ended.ensures in
    let now : World = record w1 { files = record w1.files { tree = c.end_proc-ended.new.tree }; procs = c.end_proc-ended.new.p } in
    let rests : Rests w1 now = record { mounts = e.mounts; pipes = refl; lines = refl; tape = refl; core = refl; slots = refl } in
    let none = ended_goes _ _ e.does.answer c.in-Ok.is in
    let left = end_state w1 s ready n _ none e.does.left.state in
    record {
      come = exit_come w w1 now s ready n c.see.ensures unix board none (ended_unix w1 now s ready n e.agree none left e.does.left.shown refl rests) e.does.left.shown;
      good = λ goes. ended_good w1 now s ready n e.agree none left e.does.left.shown refl rests c.see.ensures (closed_then w w1 s c.requires.ready ready unix)
          (closed_free w new s t shown state is c.requires.ready (none_pending (process_of (unix_of w) s) c.requires.user)) e.marks
          (ap (λ (v : its.World). counts v.inodes.store) left ∙ (worlds.gone_ended (given w1) s (given w1) n (still_given w1 s ready)).count);
      covered = λ over. c.see_covered.ensures;
      runs = λ other. absurd (other refl);
      items = exit_took w w1 w1 s ready n c.see.ensures unix board _ _ _
          (subst (λ l. Took (g.T.Trace.taken c.args.trace.now) l (g.T.Trace.taken c.pass_on.new.trace)) shown.shown c.pass_on.ensures.items) e.does.left.items;
      frame = g.met.T.Trace.goes_on _ _ _ c.pass_on.ensures.frame e.frame;
      rest = rest_then _ _ _ c.close_files.ensures.rest e.blocks;
      slots = c.close_files.ensures.slots;
    }

pub returns-in-Err : goal.returns-in-Err
returns-in-Err g c =
    let w : World = c.args.world.now in
    let new : World = c.close_files.new.world in
    let t : Table = c.pass_on.new.table in
    let w1 : World = with_table new t in
    let s = c.args.s in
    let n = c.args.status in
    let shown = c.close_files.ensures.shown in
    let state = c.close_files.ensures.unix in
    let is = c.pass_on.ensures.table in
    let ready = then w new s t shown state is in
    let unix = closed_unix w new s t shown state is in
    let board = closed_board w new s t shown state is in
    let e = c.end_proc-ended.ensures in
    let now : World = record w1 { files = record w1.files { tree = c.end_proc-ended.new.tree }; procs = c.end_proc-ended.new.p } in
    let rests : Rests w1 now = record { mounts = e.mounts; pipes = refl; lines = refl; tape = refl; core = refl; slots = refl } in
    let halt = ended_stops _ c.in-Err.kind _ e.does.answer c.in-Err.is in
    record {
      come = exit_stops w w1 now s ready n c.see.ensures unix board halt.0 halt.1.0 (Panic c.in-Err.kind) (ap Panic halt.1.1)
          (stopped_unix w1 now s ready n halt.0 halt.1.0 e.does.left.state e.does.left.shown refl rests) e.does.left.shown;
      good = λ goes. over_then c.in-Err.kind goes;
      covered = λ over. c.see_covered.ensures;
      runs = λ other. stopped_runs w1 now s ready n halt.0 halt.1.0 e.does.left.state e.does.left.shown refl rests;
      items = exit_took w w1 w1 s ready n c.see.ensures unix board _ _ _
          (subst (λ l. Took (g.T.Trace.taken c.args.trace.now) l (g.T.Trace.taken c.pass_on.new.trace)) shown.shown c.pass_on.ensures.items) e.does.left.items;
      frame = g.met.T.Trace.goes_on _ _ _ c.pass_on.ensures.frame e.frame;
      rest = rest_then _ _ _ c.close_files.ensures.rest e.blocks;
      slots = c.close_files.ensures.slots;
    }
