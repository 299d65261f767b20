-- With a count of 0, no pace and one line each definition comes to what it is without any of them.
use Rattle.std.proofs.Common.{◌≡◌, ◌≢◌, ◌∙◌, ◌+◌, ◌%◌, ◌==◌, ◌&&◌, ◌||◌, ◌++◌, not, cond, ℕ, Bool, true, false, List, [], ◌∷◌, length, get_or, Option, Some, None, refl, ap, arith}
use Rattle.std.proofs.lemmas.Bool.{eq-eqb}
use Rattle.std.proofs.lemmas.List.{append-nil}
use Rattle.v6_base.specs.Trace.{sent}
use Rattle.v6_base.specs.declared.entry.Chan.TheVariants.{Disk, Keys, Show}
use Rattle.u_area.specs.declared.layout.TheConstants.{DISK_WAIT}
use Rattle.pick_rules.specs.Priority.{pribio}
use Rattle.tty_line.specs.Terminal.{Terminal}
use Rattle.tty_line.specs.Said.{Said}
use Rattle.tty_line.specs.Output.{forms, shows, written}
use Rattle.tty_line.proofs.OutputLemmas.{written-all}
use Rattle.lines_eight.specs.Told.{AllTold, each_line, wakes_if, told}
use Rattle.sys_procs.specs.Process.{Process}
use Rattle.abstract_unix.specs.declared.ending.Ending.TheVariants.{Slept}
use Rattle.abstract_unix.specs.declared.ends.Ends.TheVariants.{AtEnd}
use Rattle.abstract_unix.specs.Unix.{Timing, Unix}
use Rattle.abstract_unix.specs.Steps.{Steps}
use Rattle.abstract_unix.specs.Calls.{waits_for_disk, takes_time}
use Rattle.abstract_unix.specs.Turn.{Happened, with_slot, counted, disk_lines, is_sending, after_slot}
use Rattle.abstract_unix.proofs.Stretches.{nobody_due, quiet_after}

-- nobody waits for the disk
abbrev pub NobodyWaits : List (Option Process) → Type 0
NobodyWaits processes = (s : ℕ) (p : Process) → get_or processes s None ≡ Some p → p.u.pending ≢ DISK_WAIT

-- what a call of each line comes to, where there is the console alone
abbrev pub of_one : Said → AllTold
of_one s = record {
  lines = s.terminal ∷ [];
  items = sent 0 s.shown ++ (wakes_if s.keys Keys ++ wakes_if s.show Show);
  wakes = s.keys || s.show;
}

-- With a count of 0 no call waits, and its turn ends as it would. Without a pace no line sends, and after a slot nothing follows but that
-- it counts; a line whose bytes don't wait takes all that are written, and shows them. What is done to each line is done to the one.
pub record IsAtOnce (u : Unix) : Type 0 where
  pub waits : u.timing.disk ≡ 0 → (has_read : Bool) → (has_read && not (u.timing.disk == 0)) ≡ false
  pub turns : u.timing.disk ≡ 0 → (has_read : Bool) (slot : ℕ) (s : Steps) → s.unix.timing ≡ u.timing → takes_time has_read slot s ≡ s
  pub sends : u.timing.pace ≡ 0 → is_sending u.timing ≡ false
  pub slots : u.timing.pace ≡ 0 → NobodyWaits u.processes → (h : Happened) → h.unix ≡ u → h.ending ≡ AtEnd → after_slot h ≡ counted h
  pub writes : (t : Terminal) → t.is_paced ≡ false → (bytes : List ℕ) → (written t bytes ≡ length bytes) × (shows t bytes ≡ forms t bytes)
  pub lines : (t : Terminal) → u.lines ≡ t ∷ [] → (call : Terminal → Said) → each_line call u.lines ≡ of_one (call t)

untimed : (n : ℕ) → n ≡ 0 → (has_read : Bool) → (has_read && not (n == 0)) ≡ false
untimed n zero has_read = ap (λ b. has_read && not b) (eq-eqb n 0 zero) ∙ by has_read
  where
    by : (b : Bool) → (b && false) ≡ false
    by true = refl
    by false = refl

unpaced : (t : Timing) → t.pace ≡ 0 → is_sending t ≡ false
unpaced t none = ap (λ b. not b && (t.since % t.pace == 0)) (eq-eqb t.pace 0 none)

none_due : (u : Unix) → NobodyWaits u.processes → disk_lines (with_slot u) ≡ []
none_due u nobody = nobody_due (u.timing.passed + 2) u (record {
  next = omega arith;
  each = λ s p is waits. absurd (nobody s p is waits);
}) (omega arith)

one_line : (s : Said) → ◌≡◌ {A = AllTold} (record { lines = s.terminal ∷ []; items = told 0 s ++ []; wakes = s.keys || (s.show || false) }) (of_one s)
one_line s = λ i. record { lines = s.terminal ∷ []; items = append-nil (told 0 s) i; wakes = s.keys || by s.show i }
  where
    by : (b : Bool) → (b || false) ≡ b
    by true = refl
    by false = refl

pub at_once : (u : Unix) → IsAtOnce u
at_once u = record {
  waits = λ none has_read. untimed u.timing.disk none has_read;
  turns = λ none has_read slot s same.
      ap (λ b. cond b (record s { unix = waits_for_disk s.unix slot; ending = Slept pribio (Disk slot) }) s)
      (untimed s.unix.timing.disk (ap (λ (t : Timing). t.disk) same ∙ none) has_read);
  sends = λ none. unpaced u.timing none;
  slots = λ none nobody h same ends.
      quiet_after h ends (ap (λ (v : Unix). disk_lines (with_slot v)) same ∙ none_due u nobody)
      (unpaced (with_slot h.unix).timing (ap (λ (v : Unix). v.timing.pace) same ∙ none));
  writes = λ t now bytes. (written-all t bytes now, ap (λ b. cond b [] (forms t bytes)) now);
  lines = λ t one call. ap (each_line call) one ∙ one_line (call t);
}
