-- fork(II): its effects are apt.
use Rattle.std.proofs.Common.{◌≡◌, ◌∙◌, ◌+◌, ◌≤◌, ℕ, zero, suc, Bool, false, List, [], map, find, Option, Some, None, is_none, get_or, set, refl, sym, ap, subst, arith}
use Rattle.std.proofs.Math.ListN.{get_or-map}
use Rattle.std.specs.List.{range_with_len}
use Rattle.v6_base.specs.declared.errno.Errno.TheVariants.{EAGAIN}
use Rattle.proc_tab.specs.Processes.{member_at, lowest}
use Rattle.pick_rules.specs.Lawful.{Seen}
use Rattle.image_keep.specs.Kept.{clicks_of}
use Rattle.log_laws.proofs.Fitting.{Apt}
use Rattle.log_laws.proofs.Seats.{Seats, InCall}
use Rattle.log_laws.proofs.Births.{free_seat, seated_child, fork_apt}
use Rattle.sys_procs.specs.Process.{Process, member_of}
use Rattle.sys_procs.specs.TextTable.{Text}
use Rattle.sys_procs.specs.World.{Clock, World, process_of, change, members}
use Rattle.sys_procs.specs.Texts.{joined_by_child}
use Rattle.sys_procs.specs.Fork.{copied, past_word, next_pid, fork_into, fork_one}
use Rattle.abstract_unix.proofs.Sitting.{seat_for, seat_of, seats_in, seats_here, seat_in, users_of_child, runner_seat, put_in, kept_in}
use Rattle.abstract_unix.proofs.Rows.{FineComes, Calling, fails_fine}

-- who is in a slot, by its process
member_in : (processes : List (Option Process)) (r : ℕ)
    → member_at (map member_of processes) r ≡ member_of (get_or processes r None)
member_in processes r = get_or-map member_of processes r None

-- the lowest free slot is that of the seats
seat_free : (o : Option Process) → is_none (member_of o) ≡ is_none (seat_of o)
seat_free None = refl
seat_free (Some p) = refl

find_same : (p q : ℕ → Bool) (a n : ℕ) → ((r : ℕ) → p r ≡ q r)
    → find p (range_with_len a n) ≡ find q (range_with_len a n)
find_same p q a zero h = refl
find_same p q a (suc n) h = rw (h a, find_same p q (a + 1) n h) refl

free_is : (processes : List (Option Process)) (clock : Clock) (texts : List (Option Text)) (limit : ℕ)
    → lowest is_none (map member_of processes) ≡ free_seat (seats_in processes clock texts limit)
unfolding lowest
free_is processes clock texts limit =
    find_same _ _ 1 49 (λ r. ap is_none (member_in processes r) ∙ seat_free (get_or processes r None) ∙ ap is_none (sym (seat_in processes clock texts limit r)))

module _ (s : ℕ) (seen : Seen) where
  -- fork
  into_fine : (w : World) (o : Option ℕ) → (i : Calling s w seen) → lowest is_none (members w) ≡ o → FineComes w.limit s seen (fork_into w s o)
  unfolding Apt
  into_fine w None i e =
      fails_fine s seen (change w s past_word) EAGAIN (kept_in w.processes w.clock w.texts w.limit s false seen _ i refl refl refl refl)
  into_fine w (Some c) i e = record {
    fine = fork_apt _ s v seen c w [] i (sym (free_is w.processes w.clock w.texts w.limit) ∙ e) least
        (λ now j. kept_in (set w.processes c (Some (copied (process_of w s) (next_pid w)))) w.clock texts w.limit s false now _ (grown now j) refl refl refl refl);
  }
    where
      v : Seats
      v = seats_here w

      texts : List (Option Text)
      texts = joined_by_child w.texts (process_of w s).text

      least : 1 ≤ i.turn.seat.size
      least =
          let size : clicks_of (process_of w s).u ≡ i.turn.seat.size = ap (λ x. x.size) (runner_seat w.processes w.clock w.texts w.limit s seen.board i.turn) in
          omega (arith, size)

      grown : (now : Seen) → InCall s false (seated_child v c i.turn.seat) now
          → InCall s false (seats_in (set w.processes c (Some (copied (process_of w s) (next_pid w)))) w.clock texts w.limit) now
      grown now j = subst (λ x. InCall s false x now)
          (ap (λ seat. seated_child v c seat) (sym (runner_seat w.processes w.clock w.texts w.limit s seen.board i.turn))
          ∙ ap (λ us. record v { slots = set v.slots c (Some (seat_for (process_of w s))); texts = us }) (sym (users_of_child w.texts (process_of w s).text))
          ∙ sym (put_in w.processes w.clock texts w.limit c _)) j

  pub fork_fine : (w : World) → Calling s w seen → FineComes w.limit s seen (fork_one w s)
  unfolding fork_one
  fork_fine w i = into_fine w (lowest is_none (members w)) i refl
