-- While nothing is covered, each event by which a run goes on leaves the second disk's store, and all else on the root's disk.
use Rattle.std.proofs.Common.{◌≡◌, ◌≤◌, ◌∙◌, ◌==◌, ◌++◌, ℕ, zero, suc, Bool, true, false, not, cond, List, map, Option, Some, None, refl, sym, ap, subst, inl, inr}
use Rattle.v6_base.specs.Trace.{Item, sent}
use Rattle.v6_base.specs.declared.entry.Chan.{Chan}
use Rattle.v6_base.specs.declared.entry.Chan.TheVariants.{Tout}
use Rattle.fs_codec.specs.Store.{Store}
use Rattle.fs_nodes.specs.Disks.{OfSecond}
use Rattle.fs_nodes.specs.Keys.{Stores}
use Rattle.tty_line.specs.Terminal.{Terminal}
use Rattle.tty_line.specs.declared.line.Keyed.{Keyed}
use Rattle.tty_line.specs.declared.line.Keyed.TheVariants as key
use Rattle.tty_line.specs.Input.{Typed, typed}
use Rattle.tty_line.specs.Said.{Said, flush, sends}
use Rattle.lines_eight.specs.Told.{AllTold, each_line, told, keys_of, show_of}
use Rattle.pick_rules.specs.declared.row.Mode.{Mode}
use Rattle.pick_rules.specs.declared.row.Mode.TheVariants.{User, Kernel, Idle}
use Rattle.pick_rules.specs.Effects.{Effect, Show}
use Rattle.pick_rules.specs.Lawful.{Seen}
use Rattle.pick_rules.specs.Logged.{Stop, nothing_logged, left_by}
use Rattle.log_laws.proofs.Seats.{RunnerAt, Paused, Holds}
use Rattle.swap_sched.specs.Pass.{pass, stop_over}
use Rattle.sig_core.specs.declared.numbers.TheConstants.{SIGHUP}
use Rattle.sys_files.proofs.OtherWalks.{IsOn}
use Rattle.sys_procs.specs.Process.{Process}
use Rattle.sys_procs.specs.Signals.{has_line, meant_in, all_signalled, signal_lines}
use Rattle.abstract_unix.specs.declared.ends.Ends.{Ends}
use Rattle.abstract_unix.specs.declared.ends.Ends.TheVariants as ends
use Rattle.abstract_unix.specs.declared.ends.Ends.TheVariants.{AtEnd}
use Rattle.abstract_unix.specs.Endings.{is_early}
use Rattle.abstract_unix.specs.Unix.{Unix, System, terminal_at, with_terminal, process_of, with_process}
use Rattle.abstract_unix.specs.Steps.{Steps, returns}
use Rattle.abstract_unix.specs.Turn.{Happened, happens, with_slot, counted, disk_lines, wakes_disks, is_sending, sends_lines, sends_after, after_slot, whole_slot, settled_after, ending_by, ending_of_pass, turn_of, pass_of, slot_of, turn}
use Rattle.abstract_unix.specs.Outside.{is_as_trap, delivers_to, tick_delivery, tick_of, mode_of, timed, charged, ticked, with_key, typed_of, key_lines, wakes, calls, calls_show, is_due, tick_effects, hangup_of, hangs_up, turned_to, paced_of}
use Rattle.abstract_unix.specs.Runs.{Event, Slot, Tick, Byte, Switch, Disk, Pace, Hangup, event_of}
use Rattle.abstract_unix.proofs.Carried.{AllCarry, append_carry, left_carried}
use Rattle.abstract_unix.proofs.RunsLemmas.{settled_ending, after_ending}
use Rattle.abstract_unix.proofs.Sitting.{seats_of}
use Rattle.abstract_unix.proofs.Events.{system_at, runs_at, shown_stop, all_shown, followed_unix}
use Rattle.abstract_unix.proofs.Outside.{shown_both, shown_items}
use Rattle.abstract_unix.proofs.Tidy.{IsTidy}
use Rattle.abstract_unix.proofs.Passed.{settled_unix}
use Rattle.abstract_unix.proofs.RootWorlds.{signalled_dirs}
use Rattle.abstract_unix.proofs.RootTurns.{OnRoot, on_put, on_due, on_turn}
use Rattle.abstract_unix.proofs.RootStops.{Rests, due_carry, turn_rests}

-- a tick of a process's own time leaves its directory
timed_on : (base : Stores) (mode : Mode) (p : Process) → IsOn 0 base p.u.dir → IsOn 0 base (timed mode p).u.dir
timed_on base User p here = here
timed_on base Kernel p here = here
timed_on base Idle p here = here

module _ (base : Stores) (one : 1 ≤ base.root.count) (clean : OfSecond (λ (x : Store). x.mark ≡ false) base.second) where
  went_on : (o : Option (Stop Unix)) (v : Unix) → OnRoot base v → ending_of_pass o ≡ AtEnd → OnRoot base (left_by o v)
  went_on None v r e = r
  went_on (Some stop) v r e = absurd (cc e)

  -- Each slot: a turn, a pass of the swapper, or nothing.
  abbrev Goes : Happened → Type 0
  Goes h = h.ending ≡ AtEnd → h.unix.covered ≡ None → OnRoot base h.unix

  slot_root : (u : Unix) (seen : Seen) → Paused (seats_of u) seen → IsTidy u → u.covered ≡ None → OnRoot base u
      → Goes (slot_of (system_at u seen) seen.board.table.running)
  slot_root u seen p tidy none r = by seen.board.table.running p.runner
    where
      stopped : (o : Option (Stop Unix)) (steps : Steps) → (steps.unix.covered ≡ None → OnRoot base steps.unix) → ending_by o steps.ending ≡ AtEnd
          → (left_by o steps.unix).covered ≡ None → OnRoot base (left_by o steps.unix)
      stopped None steps k e c = k c
      stopped (Some stop) steps k e c = absurd (cc e)

      by : (o : Option ℕ) → RunnerAt (seats_of u) seen.board o → Goes (slot_of (system_at u seen) o)
      by None run e c = r
      by (Some zero) run e c = went_on (pass_of (system_at u seen)).log.stop u r e
      by (Some (suc s)) (inl z) e c = absurd (cc z)
      by (Some (suc s)) (inr t) e c =
          let m : System = system_at u seen in
          let steps : Steps = turn m (suc s) in
          stopped (turn_of m (suc s) steps).log.stop steps
          (λ after. on_turn base one clean (suc s) m none (runs_at u (suc s) seen.board tidy t) r after) e c

  -- What follows a slot changes nothing of it.
  record Follows (u v : Unix) : Type 0 where
    covered : v.covered ≡ u.covered
    root : OnRoot base u → OnRoot base v

  follows_same : (u v w : Unix) → w ≡ v → Follows u v → Follows u w
  follows_same u v w same f = subst (Follows u) (sym same) f

  sends_follow : (h : Happened) → Follows h.unix (sends_after h).unix
  sends_follow h = by (is_sending h.unix.timing)
    where
      all : AllTold
      all = each_line sends h.unix.lines

      after : Happened
      after = record h { unix = record h.unix { lines = all.lines } }

      by : (b : Bool) → Follows h.unix (cond b (sends_lines h) h).unix
      by true = follows_same h.unix after.unix (sends_lines h).unix (followed_unix all.wakes after (map Show all.items))
          (record { covered = refl; root = λ r. record { world = r.world; files = r.files } })
      by false = record { covered = refl; root = λ r. r }

  whole_root : (h : Happened) → Goes h → Goes (after_slot h)
  whole_root h goes = by h.ending refl
    where
      awake : Happened
      awake = wakes_disks (counted h)

      woken : Follows h.unix awake.unix
      woken = follows_same h.unix (with_slot h.unix) awake.unix
          (followed_unix true (counted h) (map Show (disk_lines (with_slot h.unix))))
          (record { covered = refl; root = λ r. record { world = r.world; files = r.files } })

      after : Follows awake.unix (sends_after awake).unix
      after = sends_follow awake

      by : (e : Ends) → h.ending ≡ e → Goes (cond (is_early e) h (sends_after awake))
      by AtEnd is f c = after.root (woken.root (goes is (sym (after.covered ∙ woken.covered) ∙ c)))
      by (ends.Panic kind) is f c = absurd (let other = sym is ∙ f in cc other)

  -- a tick
  either_root : (b : Bool) (x y : Steps) → OnRoot base x.unix → OnRoot base y.unix → OnRoot base (cond b x y).unix
  either_root true x y p q = p
  either_root false x y p q = q

  delivered_root : (v : Unix) (o : Option ℕ) → v.covered ≡ None → OnRoot base v → OnRoot base (delivers_to v o).unix
  delivered_root v None none r = r
  delivered_root v (Some s) none r = on_due base one clean s v none r

  charged_root : (u : Unix) (mode : Mode) (o : Option ℕ) → OnRoot base u → OnRoot base (charged u mode o)
  charged_root u mode None r = r
  charged_root u mode (Some s) r = by (s == 0)
    where
      by : (b : Bool) → OnRoot base (cond b u (with_process u s (timed mode (process_of u s))))
      by true = r
      by false = on_put base one clean s u (timed mode (process_of u s)) (timed_on base mode (process_of u s) (r.world.held.dirs s)) r

  charged_covered : (u : Unix) (mode : Mode) (o : Option ℕ) → (charged u mode o).covered ≡ u.covered
  charged_covered u mode None = refl
  charged_covered u mode (Some s) = by (s == 0)
    where
      by : (b : Bool) → (cond b u (with_process u s (timed mode (process_of u s)))).covered ≡ u.covered
      by true = refl
      by false = refl

  ticked_root : (m : System) → OnRoot base m.unix → OnRoot base (ticked m)
  ticked_root m r =
      let now = charged_root m.unix (mode_of m) m.board.table.running r in record { world = now.world; files = now.files }

  tick_root : (m : System) → m.unix.covered ≡ None → OnRoot base m.unix → OnRoot base (tick_delivery m).unix
  tick_root m none r =
      let o : Option ℕ = m.board.table.running in
      let root : OnRoot base (ticked m) = ticked_root m r in
      either_root (is_as_trap m) (delivers_to (ticked m) o) (returns (ticked m))
      (delivered_root (ticked m) o (charged_covered m.unix (mode_of m) o ∙ none) root) root

  -- a signal to those who have a line
  line_root : (l n : ℕ) (u : Unix) → OnRoot base u → OnRoot base (record u { processes = all_signalled (has_line l) n u.processes })
  line_root l n u r = record {
    world = record {
      second = r.world.second;
      counts = r.world.counts;
      held = record { dirs = signalled_dirs base (has_line l) n u.processes r.world.held.dirs; texts = r.world.held.texts };
    };
    files = r.files;
  }

  key_root : (l : ℕ) (keyed : Keyed) (u : Unix) → OnRoot base u → OnRoot base (with_key l keyed u)
  key_root l key.Nothing u r = r
  key_root l key.Ready u r = r
  key_root l (key.Flushed show) u r = r
  key_root l (key.Signal n show) u r = line_root l n u r

  either_happened : (b : Bool) (x y : Happened) → OnRoot base x.unix → OnRoot base y.unix → OnRoot base (cond b x y).unix
  either_happened true x y p q = p
  either_happened false x y p q = q

  pub event_root : (e : Event) (u : Unix) (seen : Seen) → Holds (seats_of u) seen → IsTidy u → u.covered ≡ None → OnRoot base u
      → (event_of e (system_at u seen)).ending ≡ AtEnd → (event_of e (system_at u seen)).next.unix.covered ≡ None
      → OnRoot base (event_of e (system_at u seen)).next.unix
  event_root Slot u seen h tidy none r ends c =
      let m : System = system_at u seen in
      let what : Happened = whole_slot m in
      subst (OnRoot base) (sym (settled_unix what)) (whole_root (slot_of m m.board.table.running)
      (slot_root u seen h.paused tidy none r) (sym (settled_ending what) ∙ ends) (sym (ap (λ (v : Unix). v.covered) (settled_unix what)) ∙ c))
  event_root Tick u seen h tidy none r ends c =
      let m : System = system_at u seen in
      let what : Happened = tick_of m in
      subst (OnRoot base) (sym (settled_unix what))
      (went_on what.log.stop (tick_delivery m).unix (tick_root m none r) (sym (settled_ending what) ∙ ends))
  event_root (Byte l byte) u seen h tidy none r ends c =
      let m : System = system_at u seen in
      let what : Happened = typed_of m l byte in
      let k : Typed = typed (terminal_at u l) byte in
      let now : Unix = with_key l k.keyed (with_terminal u l k.terminal) in
      let items : List Item = sent l k.shown ++ key_lines l k.keyed u in
      let woken : List (Effect Unix) = wakes (calls k.keyed) (keys_of l) ++ wakes (calls_show k.keyed) (show_of l) in
      let stays : what.log.stop ≡ None =
      shown_stop seen.board (map Show items ++ woken)
      (shown_items items woken (shown_both (calls k.keyed) (calls_show k.keyed) (keys_of l) (show_of l))) in
      subst (OnRoot base) (sym (settled_unix what)) (subst (OnRoot base) (sym (ap (λ o. left_by o now) stays))
      (key_root l k.keyed (with_terminal u l k.terminal) (record { world = r.world; files = r.files })))
  event_root (Switch word) u seen h tidy none r ends c = record { world = r.world; files = r.files }
  event_root (Disk count) u seen h tidy none r ends c = record { world = r.world; files = r.files }
  event_root (Pace count) u seen h tidy none r ends c =
      let what : Happened = paced_of (system_at u seen) count in
      let call : Terminal → Said = turned_to (not (count == 0)) in
      let all : AllTold = each_line call u.lines in
      let now : Unix = record u { lines = all.lines; timing = record u.timing { pace = count; since = 0 } } in
      subst (OnRoot base) (sym (settled_unix what))
      (subst (OnRoot base) (sym (ap (λ o. left_by o now) (shown_stop seen.board (map Show all.items) (all_shown all.items))))
      (record { world = r.world; files = r.files }))
  event_root (Hangup l) u seen h tidy none r ends c =
      let m : System = system_at u seen in
      let s : Said = flush (terminal_at u l) in
      let items : List Item = signal_lines SIGHUP (meant_in (has_line l) u.processes) ++ told l s in
      let now : Unix = record (with_terminal u l s.terminal) { processes = all_signalled (has_line l) SIGHUP u.processes } in
      let hung : OnRoot base (hangs_up m l).unix =
      subst (OnRoot base) (sym (ap (λ o. left_by o now) (shown_stop seen.board (map Show items) (all_shown items))))
      (let t = line_root l SIGHUP u r in record { world = t.world; files = t.files }) in
      subst (OnRoot base) (sym (settled_unix (hangup_of m l)))
      (either_happened (terminal_at u l).is_open (hangs_up m l) (happens u (nothing_logged seen.board)) hung r)

  -- The pass of the swapper with which a run begins changes nothing.
  pub start_root : (m : System) → OnRoot base m.unix → (settled_after (pass_of m)).ending ≡ AtEnd
      → OnRoot base (settled_after (pass_of m)).next.unix
  start_root m r ends =
      let what : Happened = pass_of m in
      subst (OnRoot base) (sym (settled_unix what)) (went_on what.log.stop m.unix r (sym (settled_ending what) ∙ ends))

  -- An event that ends in a panic leaves the Unix that stood just before it, and so the second store.
  over_rests : (o : Option (Stop (Unit {0}))) (v : Unix) → Rests base v → Rests base (left_by (stop_over v o) v)
  over_rests None v r = r
  over_rests (Some stop) v r = r

  slot_rests : (u : Unix) (seen : Seen) → Paused (seats_of u) seen → IsTidy u → u.covered ≡ None → OnRoot base u
      → Rests base (slot_of (system_at u seen) seen.board.table.running).unix
  slot_rests u seen p tidy none r = by seen.board.table.running p.runner
    where
      by : (o : Option ℕ) → RunnerAt (seats_of u) seen.board o → Rests base (slot_of (system_at u seen) o).unix
      by None run = λ c. r.world.second
      by (Some zero) run = over_rests (pass seen.board).stop u (λ c. r.world.second)
      by (Some (suc s)) (inl z) = absurd (cc z)
      by (Some (suc s)) (inr t) = turn_rests base one clean (suc s) (system_at u seen) none (runs_at u (suc s) seen.board tidy t) r

  wakes_carry : (b : Bool) (chan : Chan) → AllCarry (Rests base) (wakes b chan)
  wakes_carry true chan = (tt, tt)
  wakes_carry false chan = tt

  tick_carry : (m : System) → OnRoot base m.unix → AllCarry (Rests base) (tick_delivery m).effects
  tick_carry m r = by (is_as_trap m)
    where
      to : (o : Option ℕ) → AllCarry (Rests base) (delivers_to (ticked m) o).effects
      to None = tt
      to (Some s) = due_carry base one clean s (ticked m) (λ none. ticked_root m r)

      by : (b : Bool) → AllCarry (Rests base) (cond b (delivers_to (ticked m) m.board.table.running) (returns (ticked m))).effects
      by true = to m.board.table.running
      by false = tt

  hung_ends : (b : Bool) (x y : Happened) → x.ending ≡ AtEnd → y.ending ≡ AtEnd → (cond b x y).ending ≡ AtEnd
  hung_ends true x y p q = p
  hung_ends false x y p q = q

  pub event_rests : (e : Event) (u : Unix) (seen : Seen) → Holds (seats_of u) seen → IsTidy u → u.covered ≡ None → OnRoot base u
      → Rests base (event_of e (system_at u seen)).next.unix
  event_rests Slot u seen h tidy none r = by what.ending refl
    where
      m : System
      m = system_at u seen

      what : Happened
      what = slot_of m m.board.table.running

      by : (e : Ends) → what.ending ≡ e → Rests base (event_of Slot m).next.unix
      by AtEnd is =
          λ c. (event_root Slot u seen h tidy none r (settled_ending (after_slot what) ∙ after_ending what ∙ is) c).world.second
      by (ends.Panic kind) is =
          subst (Rests base) (sym (settled_unix (after_slot what)
          ∙ ap (λ e. (cond (is_early e) what (sends_after (wakes_disks (counted what)))).unix) is)) (slot_rests u seen h.paused tidy none r)
  event_rests Tick u seen h tidy none r =
      let m : System = system_at u seen in
      let s : Steps = tick_delivery m in
      subst (Rests base) (sym (settled_unix (tick_of m)))
      (left_carried (Rests base) m.board (tick_effects m ++ s.effects) s.unix
      (append_carry (Rests base) (tick_effects m) s.effects (tt, wakes_carry (is_due m.unix.clock) Tout) (tick_carry m r))
      (λ c. (tick_root m none r).world.second))
  event_rests (Byte l byte) u seen h tidy none r =
      λ c. (event_root (Byte l byte) u seen h tidy none r (settled_ending (typed_of (system_at u seen) l byte)) c).world.second
  event_rests (Switch word) u seen h tidy none r = λ c. r.world.second
  event_rests (Disk count) u seen h tidy none r = λ c. r.world.second
  event_rests (Pace count) u seen h tidy none r =
      λ c. (event_root (Pace count) u seen h tidy none r (settled_ending (paced_of (system_at u seen) count)) c).world.second
  event_rests (Hangup l) u seen h tidy none r =
      let m : System = system_at u seen in
      let ends : (hangup_of m l).ending ≡ AtEnd =
      hung_ends (terminal_at u l).is_open (hangs_up m l) (happens u (nothing_logged seen.board)) refl refl in
      λ c. (event_root (Hangup l) u seen h tidy none r (settled_ending (hangup_of m l) ∙ ends) c).world.second

  pub start_rests : (m : System) → OnRoot base m.unix → Rests base (settled_after (pass_of m)).next.unix
  start_rests m r = subst (Rests base) (sym (settled_unix (pass_of m))) (over_rests (pass m.board).stop m.unix (λ c. r.world.second))
