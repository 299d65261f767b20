-- How a kernel counts the slots that have been taken, and who waits for the disk.
use Rattle.std.specs.Prelude.{◌≡◌, ◌≢◌, ◌<◌, ◌≤◌, ◌⊎◌, ℕ, ◌+◌, ◌-◌, ◌++◌, ◌==◌, ◌||◌, Bool, true, false, not, if◌then◌else◌, List, [], length, map, Option, Some, None, slice_index_or, replicate}
use Rattle.v6_base.specs.Trace.{Item, Log}
use Rattle.v6_base.specs.declared.entry.Chan.TheVariants.{Disk}
use Rattle.v6_base.specs.declared.entry.Entry.TheVariants as entry
use Rattle.abstract_unix.specs.Unix.{Timing, Unix}
use Rattle.abstract_unix.specs.Turn.{disk_end_of, disk_lines, waits_until, is_sending}
use Rattle.abstract_unix.specs.Whole.{AreDue, NoGraveWaits}
use Rattle.std.specs.List.{list_any}
use Rattle.tty_line.specs.Said.{sends, holds}
use Rattle.lines_eight.specs.Told.{AllTold, each_line}
use Rattle.u_area.specs.declared.layout.TheConstants.{NOTHING_PENDING, DISK_WAIT}
use Rattle.u_area.specs.declared.area.UArea.{UArea}
use Rattle.sys_procs.specs.Process.{Process}
use Rattle.sys_procs.specs.Signals.{meant_in}
use Rattle.sys_procs.specs.declared.procs.Procs.{Procs}
use Rattle.sys_procs.specs.World.{processes_in}
use Rattle.unix_core.specs.declared.slots.Slots.{Slots}

-- the slots that have been taken: those up to the one that is due, without those that are left
abbrev pub passed_in : Slots → ℕ
passed_in slots = slots.due - slots.left

abbrev pub timing_in : Slots → Timing
timing_in slots = record { passed = passed_in slots; disk = slots.disk; pace = slots.pace; since = passed_in slots - slots.set_at }

-- No line sends with the end of a slot between that of number `n` and the one that is due.
abbrev pub NoneSend : ℕ → Slots → Type 0
NoneSend n slots = (m : ℕ) → n < m → m < slots.due → is_sending (record (timing_in slots) { since = m - slots.set_at }) ≡ false

-- What is so of the count when a turn has ended, before it is seen whether bytes wait.
pub record IsTimed (slots : Slots) (u : Unix) : Type 0 where
  pub within : slots.left ≤ slots.due
  pub disk : slots.disk ≤ 999999999
  pub set : slots.set_at ≤ passed_in slots
  pub next : passed_in slots < slots.due
  pub low : slots.due ≤ slots.wake
  pub due : AreDue slots.wake u
  pub graves : NoGraveWaits u

-- What is so of it between two events: where bytes wait, no line sends before the slot that is due.
pub record IsCounted (slots : Slots) (u : Unix) : Type 0 where
  pub timed : IsTimed slots u
  pub sends : list_any holds u.lines ≡ true → NoneSend (passed_in slots) slots

-- A wait for the disk can begin: the number of the slot that ends it is below 2^32.
pub record CanWait (slots : Slots) : Type 0 where
  pub within : slots.left ≤ slots.due
  pub ahead : passed_in slots < slots.due
  pub low : slots.due ≤ slots.wake
  pub disk : slots.disk ≤ 999999999
  pub fresh : passed_in slots ≤ 3000000000

-- A turn leaves the count as it was, but that a wait for the disk that begins in it ends with the slot of the next wake, or
-- later.
pub record HasWaited (waits : Bool) (old new : Slots) : Type 0 where
  pub timing : timing_in new ≡ timing_in old
  pub within : new.left ≤ new.due
  pub low : new.due ≤ new.wake
  pub sooner : new.wake ≤ old.wake
  pub ahead : passed_in old < new.due
  pub ends : waits ≡ true → new.wake ≤ passed_in old + 1 + old.disk
  pub set : new.set_at ≡ old.set_at

-- the processes of the parts
abbrev pub processes_of : Procs → List (Option Process)
processes_of p = processes_in p.rows.slots p.images.kept

-- the lines of the log for those whose wait for the disk ends with the slot of this number
abbrev pub woken_with : ℕ → List (Option Process) → List Item
woken_with n processes = map (λ s. Log (entry.Wake (Disk s))) (meant_in (waits_until n) processes)

-- Who waits for the disk when the slot of number `n` has been taken waits for the end of one that has passed, or of one from
-- number `next` on.
abbrev pub AreDueFrom : ℕ → ℕ → List (Option Process) → Type 0
AreDueFrom next n processes = (s : ℕ) (p : Process) → slice_index_or processes s None ≡ Some p → p.u.pending ≡ DISK_WAIT
    → (disk_end_of p ≤ n) ⊎ (next ≤ disk_end_of p)

-- who has ended waits for nothing
abbrev pub NoneInGraves : List (Option Process) → Type 0
NoneInGraves processes = (s : ℕ) (p : Process) → slice_index_or processes s None ≡ Some p → p.is_zombie ≡ true → p.u.pending ≢ DISK_WAIT

-- the u area of a process whose call is done
abbrev pub rested_area : UArea → UArea
rested_area u = record u { pending = NOTHING_PENDING; call = replicate 8 0 }

-- What the lines send with the end of the slot that has been taken, which is nothing where they don't send with it.
abbrev pub sent_after : Unix → AllTold
sent_after u = if is_sending u.timing then each_line sends u.lines else record { lines = u.lines; items = []; wakes = false }

abbrev pub with_sent : Unix → Unix
with_sent u = record u { lines = (sent_after u).lines }

-- what is shown when a slot has been taken, and whether somebody is woken
abbrev pub slot_items : Unix → List Item
slot_items u = disk_lines u ++ (sent_after u).items

abbrev pub slot_wakes : Unix → Bool
slot_wakes u = not (length (disk_lines u) == 0) || (sent_after u).wakes
