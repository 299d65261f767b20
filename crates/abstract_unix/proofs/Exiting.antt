-- exit(II): its effects are apt, and so are those of the calls on files.
use Rattle.std.proofs.Common.{inl, inr, ◌≡◌, ◌∙◌, ◌==◌, ◌<◌, ◌≤◌, ℕ, not, Bool, true, false, cond, is_none, List, [], ◌∷◌, ◌++◌, append-nil, map, length, get_or, get_or-set_same, set, Option, Some, None, unwrap_or, refl, sym, ap, subst, arith}
use Rattle.std.proofs.lemmas.Bool.{eqb-true}
use Rattle.std.proofs.lemmas.List.{length-map}
use Rattle.v6_base.specs.Trace.{Item, Byte, Log}
use Rattle.v6_base.specs.declared.answer.Answer.{Answer}
use Rattle.v6_base.specs.declared.answer.Answer.TheVariants.{Ret, Fail, Sleep}
use Rattle.v6_base.specs.declared.entry.Chan.TheVariants.{Wait}
use Rattle.v6_base.specs.declared.entry.Entry.{Entry}
use Rattle.v6_base.specs.declared.entry.Entry.TheVariants as line
use Rattle.u_area.specs.declared.layout.TheConstants.{NOTHING_PENDING}
use Rattle.u_area.specs.declared.area.UArea.{UArea}
use Rattle.proc_tab.specs.Processes.{member_at, lowest, passes}
use Rattle.proc_tab.specs.Pids.{has_pid}
use Rattle.pick_rules.specs.Effects.{Effect, Show, lifted, came}
use Rattle.pick_rules.specs.Lawful.{Seen, Fits, seen_after}
use Rattle.pick_rules.proofs.Found.{found_in}
use Rattle.log_laws.proofs.Fitting.{Apt, apt_append, wake_apt}
use Rattle.log_laws.proofs.Seats.{Seat, Seats, InCall, Paused}
use Rattle.log_laws.proofs.Lines.{wake_in, wake_paused, signal_in, signal_fits}
use Rattle.log_laws.proofs.Deaths.{with_own, leave_fits, leave_in, exit_apt}
use Rattle.log_laws.proofs.Deaths.{without_text as seats_without}
use Rattle.sig_core.specs.declared.numbers.TheConstants.{SIGPIPE}
use Rattle.sys_files.specs.Handed.{Handed}
use Rattle.sys_files.specs.Did.{Did}
use Rattle.sys_files.specs.Descriptors.{Closing}
use Rattle.sys_procs.specs.Process.{Process, no_process}
use Rattle.sys_procs.specs.TextTable.{Text, text_of}
use Rattle.sys_procs.specs.Texts.{goes, remaining, without_text, leaves_text, is_sticky, xfree}
use Rattle.sys_procs.specs.World.{World, process_of, members, change, let_go}
use Rattle.sys_procs.specs.Comes.{Comes}
use Rattle.sys_procs.specs.Exit.{ended, leaves, slot_of, parent_slot, adopted, dead, dies, end_proc}
use Rattle.abstract_unix.specs.declared.ending.Ending.TheVariants.{Ended}
use Rattle.abstract_unix.specs.Unix as unix
use Rattle.abstract_unix.specs.Unix.{Unix}
use Rattle.abstract_unix.specs.Calls.{in_order, handed_of, with_handed, world_of, with_world, did_by, closes_all, exits_with}
use Rattle.abstract_unix.proofs.Sitting.{seat_for, seat_of, seats_in, seats_under, seats_here, seats_of, users, users_left, runner_seat, runner_alive, runner_text, put_in, changed_in, kept_in}
use Rattle.abstract_unix.proofs.Steps.{AptSteps, AptBegun, Answered, ends_in, apt_lifted, answers_apt}
use Rattle.abstract_unix.proofs.Quiet.{IsQuiet, AreQuiet, SameSize, SameCall, EndsIn, HasNumbers, Calm, CalmClosing, close_all_calm, quiet_in_order}
use Rattle.abstract_unix.proofs.Rows.{Calling}

-- bytes, wakes and a signal of its own process leave a call as it is
module _ (W : Type 0) (s : ℕ) (calling : Bool) (v : Seats) where
  quiet_first : (seen : Seen) (e : Entry) (items : List Item) → IsQuiet s e → InCall s calling v seen
      → ((now : Seen) → InCall s calling v now → Apt {W = W} (InCall s calling v) now (map Show items))
      → Apt {W = W} (InCall s calling v) seen (Show (Log e) ∷ map Show items)
  unfolding Apt came
  quiet_first seen e items (inl (chan, is, r)) i rest =
      subst (λ x. Apt {W = W} (InCall s calling v) seen (Show (Log x) ∷ map Show items)) (sym is)
      (wake_apt (InCall s calling v) seen chan (map Show items) i.going r (rest (seen_after seen (line.Wake chan)) (wake_in s calling v seen chan i)))
  quiet_first seen e items (inr is) i rest =
      subst (λ x. Apt {W = W} (InCall s calling v) seen (Show (Log x) ∷ map Show items)) (sym is) (
        signal_fits s v seen s SIGPIPE i.turn.seat i.going i.agrees i.turn.user i.turn.at (omega arith) (omega arith),
        rest (seen_after seen (line.Signal s SIGPIPE)) (signal_in s calling v seen s SIGPIPE i),
      )

  pub shown_apt : (seen : Seen) (items : List Item) → AreQuiet s items → InCall s calling v seen
      → Apt {W = W} (InCall s calling v) seen (map Show items)
  unfolding Apt came
  shown_apt seen [] q i = i
  shown_apt seen (Byte line byte ∷ items) q i = shown_apt seen items q i
  shown_apt seen (Log e ∷ items) q i =
      quiet_first seen e items q.0 i (λ now j. shown_apt now items q.1 j)

module _ (s : ℕ) where
  -- what a call on files leaves of the process
  pub handed_in : (u : Unix) (seen : Seen) (calling : Bool) (h : Handed) (pending : ℕ) → InCall s calling (seats_of u) seen
      → SameSize (unix.process_of u s).u h.u
      → h.u.pending ≡ pending → InCall s (not (pending == NOTHING_PENDING)) (seats_of (with_handed u s h)) seen
  handed_in u seen calling h pending i k e = subst (λ n. InCall s (not (n == NOTHING_PENDING)) (seats_of (with_handed u s h)) seen) e
      (changed_in u.processes u.clock u.texts u.limit s calling seen (record (unix.process_of u s) { u = h.u; row = h.row; «data» = h.image.data; stack = h.image.stack }) i
      (runner_alive u.processes u.clock u.texts u.limit s seen.board i.turn) (rw (k.data, k.stack) refl) refl)

  pub did_apt : (u : Unix) (seen : Seen) (calling : Bool) (old : UArea) (did : Did) → InCall s calling (seats_of u) seen
      → SameSize (unix.process_of u s).u old
      → old.pending ≡ NOTHING_PENDING → Calm old s did → AptBegun s seen (did_by u s did)
  did_apt u seen calling old did i k quiet c = answers_apt s seen (with_handed u s did.state) (map Show (in_order did.items)) did.answer (by did.answer c.ends)
    where
      same : SameSize old did.state.u → SameSize (unix.process_of u s).u did.state.u
      same e = record { «data» = e.data ∙ k.data; stack = e.stack ∙ k.stack }

      goes : SameCall old did.state.u
          → Apt {W = Unix} (InCall s false (seats_of (with_handed u s did.state))) seen (map Show (in_order did.items))
      goes e = shown_apt Unix s false (seats_of (with_handed u s did.state)) seen (in_order did.items) (quiet_in_order s did.items c.quiet)
          (handed_in u seen calling did.state NOTHING_PENDING i (same e.size) (e.pending ∙ quiet))

      by : (answer : Answer) → EndsIn old did.state.u answer
          → Answered {W = Unix} s (seats_of (with_handed u s did.state)) seen (map Show (in_order did.items)) answer
      by (Ret r0 r1) e = goes e
      by (Fail x) e = goes e
      by (Sleep pri chan) e = (
        shown_apt Unix s true (seats_of (with_handed u s did.state)) seen (in_order did.items) (quiet_in_order s did.items c.quiet)
            (subst (λ b. InCall s (not b) (seats_of (with_handed u s did.state)) seen) e.pending
            (handed_in u seen calling did.state did.state.u.pending i (same e.size) refl)),
        e.at s,
        e.on,
      )

  -- a process in its call waits in none
  pub no_pending : (u : Unix) (seen : Seen) → InCall s false (seats_of u) seen → (unix.process_of u s).u.pending ≡ NOTHING_PENDING
  no_pending u seen i = eqb-true _ _ (off ((unix.process_of u s).u.pending == NOTHING_PENDING) (ap (λ x. x.calling) (runner_seat u.processes u.clock u.texts u.limit s seen.board i.turn) ∙ i.calls))
    where
      off : (x : Bool) → not x ≡ false → x ≡ true
      off true e = refl
      off false e = absurd (cc e)

  -- children are adopted: they sit as they did
  adopted_seat : (pid : ℕ) (o : Option Process) → seat_of (adopted pid o) ≡ seat_of o
  adopted_seat pid None = refl
  adopted_seat pid (Some p) = by (p.row.ppid == pid)
    where
      by : (b : Bool) → seat_of (Some (cond b (record p { row = record p.row { ppid = 1 } }) p)) ≡ seat_of (Some p)
      by true = refl
      by false = refl

  adopted_seats : (pid : ℕ) (processes : List (Option Process))
      → map seat_of (map (adopted pid) processes) ≡ map seat_of processes
  adopted_seats pid [] = refl
  adopted_seats pid (o ∷ processes) = rw (adopted_seat pid o, adopted_seats pid processes) refl

  strays_seats : (b : Bool) (ppid : ℕ) (processes : List (Option Process))
      → map seat_of (cond b (map (adopted ppid) processes) processes) ≡ map seat_of processes
  strays_seats true ppid processes = adopted_seats ppid processes
  strays_seats false ppid processes = refl

  -- its seat
  abbrev grave : World → Seat
  grave w =
      record { dead = true; calling = not ((process_of w s).u.pending == NOTHING_PENDING); text = (process_of w s).text; size = (seat_for (process_of w s)).size }

  dead_is : (w : World)
      → seats_here (dead w s) ≡ with_own s (seats_here w) (grave w)
  dead_is w =
      let ppid = (process_of w s).row.ppid in
      ap (λ slots. record (seats_here w) { slots = slots })
      (adopted_seats (process_of w s).row.pid _ ∙ strays_seats (is_none (slot_of w ppid)) ppid _)
      ∙ put_in w.processes w.clock w.texts w.limit s (record (process_of w s) { is_zombie = true; «data» = []; stack = [] })

  -- its parent's slot
  parent_range : (w : World) (ppid : ℕ) → parent_slot w ppid ≤ 49
  unfolding lowest
  parent_range w ppid = by (ppid == 0) (lowest (passes (has_pid ppid)) (members w)) refl
    where
      by : (x : Bool) (o : Option ℕ) → lowest (passes (has_pid ppid)) (members w) ≡ o → unwrap_or (cond x (Some 0) o) 1 ≤ 49
      by true o e = omega arith
      by false None e = omega arith
      by false (Some c) e = let l = (found_in (λ k. passes (has_pid ppid) (member_at (members w) k)) 1 49 c e).below in omega (arith, l)

  pub dies_apt : (w : World) (seen : Seen) → Calling s w seen → (process_of w s).text ≡ None
      → Apt (Paused (seats_here (dead w s))) seen (dies w s).effects
  unfolding Apt
  dies_apt w seen i none =
      exit_apt s false v seen i (Paused now) w rest (grave w) bare refl (runner_text w.processes w.clock w.texts w.limit s seen.board i.turn ∙ bare)
      (λ later p. woken later (subst (λ x. Paused x later) (sym (dead_is w)) p))
    where
      v : Seats
      v = seats_here w

      bare : i.turn.seat.text ≡ None
      bare = sym (runner_text w.processes w.clock w.texts w.limit s seen.board i.turn) ∙ none

      now : Seats
      now = seats_here (dead w s)

      rest : List (Effect World)
      rest =
          Show (Log (line.Wake (Wait 1))) ∷ Show (Log (line.Wake (Wait (parent_slot w (process_of w s).row.ppid)))) ∷ []

      woken : (later : Seen) → Paused now later → Apt {W = World} (Paused now) later rest
      woken later p =
          let first : Paused now (seen_after later (line.Wake (Wait 1))) = wake_paused now later (Wait 1) p in
          wake_apt {W = World} (Paused now) later (Wait 1) (Show (Log (line.Wake (Wait (parent_slot w (process_of w s).row.ppid)))) ∷ []) p.going (omega arith) (
          wake_apt {W = World} (Paused now) (seen_after later (line.Wake (Wait 1))) (Wait (parent_slot w (process_of w s).row.ppid)) [] first.going (parent_range w (process_of w s).row.ppid)
          (wake_paused now (seen_after later (line.Wake (Wait 1))) (Wait (parent_slot w (process_of w s).row.ppid)) first))

  -- a process that has left its text
  module _ (w : World) (seen : Seen) (i : Calling s w seen) (k : ℕ) where
    abbrev pub left : World
    left = leaves_text w s k (is_sticky w k)

    low : s < length w.processes
    low = subst (λ n. s < n) (sym i.agrees.seats ∙ length-map w.processes seat_of) i.turn.small

    abbrev now_texts : List (Option Text)
    now_texts = set w.texts k (remaining (is_sticky w k) (get_or w.texts k None))

    abbrev by_going : Bool → World
    by_going x =
        let p : World = change (record w { texts = now_texts }) s without_text in
        cond x (let_go p (text_of w.texts k).ino) p

    left_seats : (x : Bool) → seats_here (by_going x) ≡ seats_in (set w.processes s (Some (without_text (process_of w s)))) w.clock now_texts w.limit
    left_seats true = refl
    left_seats false = refl

    left_limit : (x : Bool) → (by_going x).limit ≡ w.limit
    left_limit true = refl
    left_limit false = refl

    left_text : (x : Bool) → (process_of (by_going x) s).text ≡ None
    left_text true = ap (λ o. (unwrap_or o no_process).text) (get_or-set_same w.processes s (Some (without_text (process_of w s))) None low)
    left_text false = ap (λ o. (unwrap_or o no_process).text) (get_or-set_same w.processes s (Some (without_text (process_of w s))) None low)

    pub none_left : (process_of left s).text ≡ None
    none_left = left_text (goes (text_of w.texts k) (is_sticky w k))

    pub same_limit : left.limit ≡ w.limit
    same_limit = left_limit (goes (text_of w.texts k) (is_sticky w k))

    abbrev v : Seats
    v = seats_here w

    sits_left : seats_here left ≡ seats_without s v i.turn.seat k (is_sticky w k)
    sits_left =
        left_seats (goes (text_of w.texts k) (is_sticky w k))
        ∙ put_in w.processes w.clock now_texts w.limit s (without_text (process_of w s))
        ∙ ap (λ (seat : Seat). record v { slots = set v.slots s (Some (record seat { text = None })); texts = users now_texts })
        (runner_seat w.processes w.clock w.texts w.limit s seen.board i.turn)
        ∙ ap (λ us. record v { slots = set v.slots s (Some (record i.turn.seat { text = None })); texts = us }) (users_left w.texts k (is_sticky w k))

    pub calling_left : Calling s left (seen_after seen (line.Leave s k (is_sticky w k)))
    calling_left = subst (λ x. InCall s false x (seen_after seen (line.Leave s k (is_sticky w k)))) (sym sits_left) (leave_in s false v seen i k (is_sticky w k))

    pub fits_left : (process_of w s).text ≡ Some k → Fits seen (line.Leave s k (is_sticky w k))
    fits_left e = leave_fits s false v seen i k (is_sticky w k) (sym (runner_text w.processes w.clock w.texts w.limit s seen.board i.turn) ∙ e)

  pub ends_apt : (w : World) (seen : Seen) (status : ℕ) → Calling s w seen
      → Apt (Paused (seats_under w.limit (end_proc w s status).state)) seen (end_proc w s status).effects
  unfolding Apt came end_proc
  ends_apt w seen status i = by (process_of w s).text refl
    where
      left : World
      left = leaves w s status

      calls : Calling s left seen
      calls = kept_in w.processes w.clock w.texts w.limit s false seen _ i refl refl refl refl

      its_text : (process_of left s).text ≡ (process_of w s).text
      its_text = ap (λ o. (unwrap_or o no_process).text) (get_or-set_same w.processes s (Some (ended status (process_of w s))) None (low w seen i 0))

      by : (o : Option ℕ) → (process_of w s).text ≡ o
          → Apt (Paused (seats_under w.limit (xfree left s o (λ after. dies after s)).state)) seen (xfree left s o (λ after. dies after s)).effects
      by None e = dies_apt left seen calls (its_text ∙ e)
      by (Some k) e = (
        fits_left left seen calls k (its_text ∙ e),
        subst (λ n. Apt (Paused (seats_under n (dead (after k) s))) (seen_after seen (line.Leave s k (is_sticky left k))) (dies (after k) s).effects) (same_limit left seen calls k)
            (dies_apt (after k) (seen_after seen (line.Leave s k (is_sticky left k))) (calling_left left seen calls k) (none_left left seen calls k)),
      )
        where
          after : ℕ → World
          after k = leaves_text left s k (is_sticky left k)

  pub exits_apt : (u : Unix) (seen : Seen) (status : ℕ) → HasNumbers (handed_of u (unix.process_of u s)) → Calling s (world_of u) seen → AptSteps s seen (exits_with u s status)
  exits_apt u seen status numbers i = ends_in s seen (exits_with u s status).unix (exits_with u s status).effects Ended tt by
    where
      closed : Closing
      closed = closes_all u s

      calm : CalmClosing (unix.process_of u s).u s closed
      calm = close_all_calm (handed_of u (unix.process_of u s)) s numbers

      now : Unix
      now = with_handed u s closed.state

      c : Comes
      c = end_proc (world_of now) s status

      by : Apt {W = Unix} (Paused (seats_under u.limit c.state)) seen ((map Show (in_order closed.items) ++ map (lifted (with_world now)) c.effects) ++ [])
      by = rw (append-nil (map Show (in_order closed.items) ++ map (lifted (with_world now)) c.effects)) (
          apt_append (InCall s false (seats_of now)) (Paused (seats_under u.limit c.state)) seen (map Show (in_order closed.items)) (map (lifted (with_world now)) c.effects)
          (shown_apt Unix s false (seats_of now) seen (in_order closed.items) (quiet_in_order s closed.items calm.quiet) (handed_in u seen false closed.state NOTHING_PENDING i calm.calm.same.size (calm.calm.same.pending ∙ no_pending u seen i)))
          (λ later j. apt_lifted (with_world now) (Paused (seats_under u.limit c.state)) later c.effects (ends_apt (world_of now) later status j)))
