-- The count of slots through what a kernel does: who waits for the disk is woken when the slot has come.
use Rattle.std.proofs.Common.{◌≡◌, ◌∙◌, ◌⊎◌, ◌<◌, ◌≤◌, ◌+◌, ◌*◌, ◌-◌, ◌%◌, ◌==◌, ◌&&◌, not, ℕ, Bool, false, List, get_or, Option, Some, None, slice_index, refl, sym, ap, subst, inl, inr, arith}
use Rattle.std.specs.List.{list_any}
use Rattle.u_area.specs.declared.layout.TheConstants.{NOTHING_PENDING, DISK_WAIT}
use Rattle.tty_line.specs.Said.{holds}
use Rattle.sys_procs.specs.Process.{Process}
use Rattle.abstract_unix.specs.Unix.{Timing, Unix, process_at, process_of}
use Rattle.pdp_step.specs.declared.outcome.Outcome.{Outcome}
use Rattle.abstract_unix.specs.Calls.{resumed}
use Rattle.abstract_unix.specs.Delivery.{ends_turn}
use Rattle.abstract_unix.specs.Turn.{comes_to, waits_in, with_slot, disk_end_of}
use Rattle.abstract_unix.specs.Whole.{CanGoOn, AreDue}
use Rattle.abstract_unix.proofs.GoingOnLemmas.{Waited, AllWaited}
use Rattle.abstract_unix.proofs.Stretches.{due_after}
use Rattle.abstract_unix.proofs.DiskSteps.{LivesIn}
use Rattle.abstract_unix.proofs.Dues.{comes_due, comes_graves, resumed_due, resumed_graves}
use Rattle.unix_core.specs.declared.slots.Slots.{Slots}
use Rattle.unix_core.specs.Slots.{passed_in, timing_in, CanWait, IsTimed, IsCounted, HasWaited}

-- The count of a turn speaks of the processes and of the slots that have passed alone.
pub timed_same : (slots : Slots) (u v : Unix) → v.processes ≡ u.processes → v.timing.passed ≡ u.timing.passed → IsTimed slots u
    → IsTimed slots v
timed_same slots u v processes passed timed = record {
  within = timed.within;
  disk = timed.disk;
  set = timed.set;
  next = timed.next;
  low = timed.low;
  due = record {
    next = subst (λ n. n < slots.wake) (sym passed) timed.due.next;
    each = λ s p is waits. subst (λ n. (disk_end_of p ≤ n) ⊎ (slots.wake ≤ disk_end_of p)) (sym passed)
        (timed.due.each s p (ap (λ (l : List (Option Process)). get_or l s None) (sym processes) ∙ is) waits);
  };
  graves = λ s p is. timed.graves s p (ap (λ (l : List (Option Process)). get_or l s None) (sym processes) ∙ is);
}

-- and the whole of the lines too
counted_lines : (slots : Slots) (u v : Unix) → v.lines ≡ u.lines → IsTimed slots v → IsCounted slots u → IsCounted slots v
counted_lines slots u v lines timed counted = record {
  timed = timed;
  sends = λ some. counted.sends (ap (list_any holds) (sym lines) ∙ some);
}

pub counted_same : (slots : Slots) (u v : Unix) → v.processes ≡ u.processes → v.timing.passed ≡ u.timing.passed → v.lines ≡ u.lines
    → IsCounted slots u → IsCounted slots v
counted_same slots u v processes passed lines counted =
    counted_lines slots u v lines (timed_same slots u v processes passed counted.timed) counted

-- Who waits for the disk waited for it before.
abbrev pub NoNewWaits : List (Option Process) → List (Option Process) → Type 0
NoNewWaits old new = (s : ℕ) (q : Process) → get_or new s None ≡ Some q → q.u.pending ≡ DISK_WAIT → Waited (get_or old s None) q

pub timed_no_new : (slots : Slots) (u v : Unix) → v.timing.passed ≡ u.timing.passed → NoNewWaits u.processes v.processes
    → IsTimed slots u → IsTimed slots v
timed_no_new slots u v passed waited timed = record {
  within = timed.within;
  disk = timed.disk;
  set = timed.set;
  next = timed.next;
  low = timed.low;
  due = record {
    next = subst (λ n. n < slots.wake) (sym passed) timed.due.next;
    each = λ s q is waits.
        let was = waited s q is waits in
        let ends : disk_end_of was.before ≡ disk_end_of q = ap (λ l. 65536 * slice_index l 4 + slice_index l 5) was.call in
        elim (timed.due.each s was.before was.there (was.pending ∙ waits)) [
          | inl low ↦ inl (omega (arith, low, ends, passed))
          | inr high ↦ inr (omega (arith, high, ends))
        ];
  };
  graves = λ s q is dead waits.
      let was = waited s q is waits in timed.graves s was.before was.there (was.dead ∙ dead) (was.pending ∙ waits);
}

-- Processes change, and who waits waited before.
pub timed_waits : (slots : Slots) (u v : Unix) → v.timing.passed ≡ u.timing.passed → AllWaited u.processes v.processes
    → IsTimed slots u → IsTimed slots v
timed_waits slots u v passed waited = timed_no_new slots u v passed (λ s q is waits. waited s q is (inr waits))

pub counted_waits : (slots : Slots) (u v : Unix) → v.timing.passed ≡ u.timing.passed → v.lines ≡ u.lines
    → AllWaited u.processes v.processes → IsCounted slots u → IsCounted slots v
counted_waits slots u v passed lines waited counted =
    counted_lines slots u v lines (timed_waits slots u v passed waited counted.timed) counted

-- how long a transfer takes is another number
pub counted_set : (slots : Slots) (n : ℕ) (u v : Unix) → n ≤ 999999999 → v.processes ≡ u.processes → v.timing.passed ≡ u.timing.passed
    → v.lines ≡ u.lines → IsCounted slots u → IsCounted (record slots { disk = n }) v
counted_set slots n u v most processes passed lines counted =
    let same : IsCounted slots v = counted_same slots u v processes passed lines counted in
    let timed : IsTimed slots v = same.timed in
    record {
      timed = record {
        within = timed.within;
        disk = most;
        set = timed.set;
        next = timed.next;
        low = timed.low;
        due = timed.due;
        graves = timed.graves;
      };
      sends = same.sends;
    }

-- a slot is counted which isn't the one that is due
pub counted_one : (slots : Slots) (u : Unix) → u.timing.passed ≡ passed_in slots → 1 < slots.left → IsCounted slots u
    → IsCounted (record slots { left = slots.left - 1 }) (with_slot u)
counted_one slots u is more counted =
    let timed : IsTimed slots u = counted.timed in
    let within = timed.within in
    let low = timed.low in
    record {
      timed = record {
        within = omega (arith, within, more);
        disk = timed.disk;
        set = (let set = timed.set in omega (arith, within, more, set));
        next = omega (arith, within, more);
        low = low;
        due = due_after slots.wake u timed.due (omega (arith, within, more, is, low));
        graves = timed.graves;
      };
      sends = λ some m later sooner. counted.sends some m (omega (arith, later, within, more)) sooner;
    }

-- nobody waits, as at the start of a run
pub counted_first : (slots : Slots) (u : Unix) → slots.left ≤ slots.due → slots.disk ≡ 0 → slots.pace ≡ 0 → slots.set_at ≡ 0
    → passed_in slots < slots.due → slots.due ≤ slots.wake → u.timing.passed ≡ passed_in slots
    → ((s : ℕ) (p : Process) → process_at u s ≡ Some p → p.u.pending ≡ NOTHING_PENDING) → IsCounted slots u
counted_first slots u within none unpaced unset next low passed nobody = record {
  timed = record {
    within = within;
    disk = omega (arith, none);
    set = omega (arith, unset);
    next = next;
    low = low;
    due = record {
      next = omega (arith, next, low, passed);
      each = λ s p is waits. let free = nobody s p is in absurd (omega (arith, free, waits));
    };
    graves = λ s p is dead waits. let free = nobody s p is in absurd (omega (arith, free, waits));
  };
  sends = λ some m later sooner. ap (λ n. not (n == 0) && ((m - slots.set_at) % n == 0)) unpaced;
}

-- A turn in which an instruction has come to this leaves it, before its slot is counted.
pub timed_comes : (u : Unix) (s : ℕ) (o : Outcome) (old new : Slots) → (process_of u s).u.pending ≡ NOTHING_PENDING
    → LivesIn s u → u.timing ≡ timing_in old → IsTimed old u → HasWaited (waits_in u s o) old new
    → IsTimed new (ends_turn s (comes_to u s o)).unix
timed_comes u s o old new free here timing timed waited =
    let passed : u.timing.passed ≡ passed_in old = ap (λ (t : Timing). t.passed) timing in
    let disk : u.timing.disk ≡ old.disk = ap (λ (t : Timing). t.disk) timing in
    let kept : new.disk ≡ old.disk = ap (λ (t : Timing). t.disk) waited.timing in
    let set : new.set_at ≡ old.set_at = waited.set in
    let same : passed_in new ≡ passed_in old = ap (λ (t : Timing). t.passed) waited.timing in
    let ahead = waited.ahead in
    let low = waited.low in
    record {
      within = waited.within;
      disk = subst (λ n. n ≤ 999999999) (sym kept) timed.disk;
      set = let were = timed.set in omega (arith, were, set, same);
      next = omega (arith, ahead, same);
      low = low;
      due = comes_due u s o free here old.wake new.wake timed.due waited.sooner (omega (arith, ahead, low, passed))
          (λ waits. let ends = waited.ends waits in omega (arith, ends, passed, disk));
      graves = comes_graves u s o free here timed.graves;
    }

-- and one in which a call goes on
pub timed_resumed : (u : Unix) (s : ℕ) (slots : Slots) → CanGoOn u → LivesIn s u → IsTimed slots u
    → IsTimed slots (ends_turn s (resumed u s)).unix
timed_resumed u s slots can here timed = record {
  within = timed.within;
  disk = timed.disk;
  set = timed.set;
  next = timed.next;
  low = timed.low;
  due = resumed_due u s can here slots.wake timed.due;
  graves = resumed_graves u s can here timed.graves;
}

-- Where a turn has room for its slot, a wait can begin in it.
pub timed_waits_can : (slots : Slots) (u : Unix) → u.timing.passed ≡ passed_in slots → u.timing.passed ≤ 3000000000 → IsTimed slots u
    → CanWait slots
timed_waits_can slots u is fresh timed = record {
  within = timed.within;
  ahead = timed.next;
  low = timed.low;
  disk = timed.disk;
  fresh = subst (λ n. n ≤ 3000000000) is fresh;
}

-- a call that doesn't wait leaves the count as it is
pub has_not_waited : (waits : Bool) (old new : Slots) → new ≡ old → CanWait old → waits ≡ false → HasWaited waits old new
has_not_waited waits old new same can never =
    subst (λ (x : Slots). HasWaited waits old x) (sym same) (record {
      timing = refl;
      within = can.within;
      low = can.low;
      sooner = omega arith;
      ahead = can.ahead;
      set = refl;
      ends = λ is. absurd (let no = sym never ∙ is in cc no);
    })

-- the pace is set, and the slots are counted for it from here
pub timed_paced : (slots paced : Slots) (n : ℕ) (u v : Unix) → v.processes ≡ u.processes → v.timing.passed ≡ u.timing.passed
    → paced.left ≡ slots.left → paced.due ≡ slots.due → paced.wake ≡ slots.wake → paced.set_at ≡ passed_in slots
    → timing_in paced ≡ record (timing_in slots) { pace = n; since = 0 } → IsTimed slots u → IsTimed paced v
timed_paced slots paced n u v processes passed left due wake set timing timed =
    let same : IsTimed slots v = timed_same slots u v processes passed timed in
    let disk : paced.disk ≡ slots.disk = ap (λ (t : Timing). t.disk) timing in
    let within = same.within in
    let next = same.next in
    let low = same.low in
    record {
      within = omega (arith, within, left, due);
      disk = subst (λ k. k ≤ 999999999) (sym disk) same.disk;
      set = omega (arith, set, left, due);
      next = omega (arith, next, left, due);
      low = omega (arith, low, due, wake);
      due = subst (λ k. AreDue k v) (sym wake) same.due;
      graves = same.graves;
    }

-- Where bytes wait or don't, a next send has been added or not.
pub timed_added : (old new : Slots) (u : Unix) → timing_in new ≡ timing_in old → new.wake ≡ old.wake → new.set_at ≡ old.set_at
    → new.left ≤ new.due → new.due ≤ old.due → passed_in old < new.due → IsTimed old u → IsTimed new u
timed_added old new u timing wake set within sooner later timed =
    let passed : passed_in new ≡ passed_in old = ap (λ (t : Timing). t.passed) timing in
    let disk : new.disk ≡ old.disk = ap (λ (t : Timing). t.disk) timing in
    let were = timed.set in
    let low = timed.low in
    record {
      within = within;
      disk = subst (λ k. k ≤ 999999999) (sym disk) timed.disk;
      set = omega (arith, were, set, passed);
      next = omega (arith, later, passed);
      low = omega (arith, sooner, low, wake);
      due = subst (λ k. AreDue k u) (sym wake) timed.due;
      graves = timed.graves;
    }
