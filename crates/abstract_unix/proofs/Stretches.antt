-- Slots after which nothing follows: nobody's wait for the disk is over, and no line sends.
use Rattle.std.proofs.Common.{◌≡◌, ◌∙◌, ◌<◌, ◌+◌, ◌==◌, ◌&&◌, ℕ, Bool, true, false, cond, List, [], ◌∷◌, map, filter, get_or, Option, Some, None, refl, ap, inl, inr, arith}
use Rattle.std.proofs.lemmas.Bool.{eqb-true}
use Rattle.v6_base.specs.Trace.{Log}
use Rattle.v6_base.specs.declared.entry.Chan.TheVariants.{Disk}
use Rattle.v6_base.specs.declared.entry.Entry.TheVariants as entry
use Rattle.proc_tab.specs.Processes.{slots_above_0}
use Rattle.pick_rules.specs.Effects.{Show}
use Rattle.sys_procs.specs.Process.{Process}
use Rattle.sys_procs.specs.Signals.{is_meant}
use Rattle.abstract_unix.specs.declared.ends.Ends.TheVariants.{AtEnd}
use Rattle.abstract_unix.specs.Unix.{Unix}
use Rattle.abstract_unix.specs.Endings.{is_early}
use Rattle.u_area.specs.declared.layout.TheConstants.{DISK_WAIT}
use Rattle.abstract_unix.specs.Turn.{Happened, with_slot, counted, followed, disk_end_of, waits_until, disk_lines, wakes_disks, is_sending, sends_lines, sends_after, after_slot}
use Rattle.abstract_unix.specs.Whole.{AreDue}

pub due_after : (due : ℕ) (u : Unix) → AreDue due u → u.timing.passed + 1 < due → AreDue due (with_slot u)
due_after due u d more = record {
  next = more;
  each = λ s p is waits. elim (d.each s p is waits) [
    | inl low ↦ inl (omega (arith, low))
    | inr high ↦ inr high
  ];
}

filter_none : {A : Type 0} (f : A → Bool) (xs : List A) → ((x : A) → f x ≡ false) → filter f xs ≡ []
filter_none f [] none = refl
filter_none f (x ∷ xs) none = ap (λ b. cond b (x ∷ filter f xs) (filter f xs)) (none x) ∙ filter_none f xs none

-- So nobody is woken before the slot that is due.
pub nobody_due : (due : ℕ) (u : Unix) → AreDue due u → u.timing.passed + 1 < due → disk_lines (with_slot u) ≡ []
nobody_due due u d more =
    ap (λ slots. map (λ s. Log (entry.Wake (Disk s))) slots)
    (filter_none (λ s. is_meant (waits_until n) s (get_or u.processes s None)) slots_above_0 (λ s. by s (get_or u.processes s None) refl))
  where
    n : ℕ
    n = u.timing.passed + 1

    at : (s : ℕ) (p : Process) → get_or u.processes s None ≡ Some p → (b c : Bool) → (p.u.pending == DISK_WAIT) ≡ b
        → (disk_end_of p == n) ≡ c → (b && c) ≡ false
    at s p is false c waits ends = refl
    at s p is true false waits ends = refl
    at s p is true true waits ends =
        let e : disk_end_of p ≡ n = eqb-true (disk_end_of p) n ends in
        elim (d.each s p is (eqb-true p.u.pending DISK_WAIT waits)) [
          | inl low ↦ absurd (omega (arith, low, e))
          | inr high ↦ absurd (omega (arith, high, e, more))
        ]

    by : (s : ℕ) (o : Option Process) → get_or u.processes s None ≡ o → is_meant (waits_until n) s o ≡ false
    by s None is = refl
    by s (Some p) is = at s p is (p.u.pending == DISK_WAIT) (disk_end_of p == n) refl refl

-- what a slot comes to after which nothing follows
pub quiet_after : (h : Happened) → h.ending ≡ AtEnd → disk_lines (with_slot h.unix) ≡ [] → is_sending (with_slot h.unix).timing ≡ false → after_slot h ≡ counted h
quiet_after h ends none rests =
    ap (λ e. cond (is_early e) h (sends_after (wakes_disks (counted h)))) ends
    ∙ ap (λ lines. sends_after (followed true (counted h) (map Show lines))) none
    ∙ ap (λ b. cond b (sends_lines (counted h)) (counted h)) rests
