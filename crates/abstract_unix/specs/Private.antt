-- The memory of a process is its own: between two of its turns nobody changes a register or a byte of it.
use Rattle.std.specs.Prelude.{◌≡◌, ◌≢◌, ℕ, Bool, true, false, ◌&&◌, is_some, Option, Some, None}
use Rattle.sig_core.specs.Signals.{due}
use Rattle.sys_procs.specs.Process.{Process}
use Rattle.abstract_unix.specs.Unix.{Unix, System, process_at, process_of}
use Rattle.abstract_unix.specs.Outside.{is_as_trap}

-- The second of two processes has the registers of the first, its condition codes, and its bytes of data and stack.
pub record SameMemory (p q : Process) : Type 0 where
  pub registers : q.u.r ≡ p.u.r
  pub codes : q.u.cc ≡ p.u.cc
  pub «data» : q.data ≡ p.data
  pub stack : q.stack ≡ p.stack

-- What stands in a slot is this process, by its pid; it lives, and its memory is as it was.
pub record LivesOn (slot : Option Process) (p : Process) : Type 0 where
  pub now : Process
  pub there : slot ≡ Some now
  pub lives : now.is_zombie ≡ false
  pub pid : now.row.pid ≡ p.row.pid
  pub memory : SameMemory p now

-- If a process lives in a slot of the first Unix, it lives on in the second.
abbrev pub IsUndisturbed : Unix → Unix → ℕ → Type 0
IsUndisturbed before after s =
    (p : Process) → process_at before s ≡ Some p → p.is_zombie ≡ false → LivesOn (process_at after s) p

-- Each process lives on,
abbrev pub AllUndisturbed : System → System → Type 0
AllUndisturbed before after = (s : ℕ) → IsUndisturbed before.unix after.unix s

-- or each but the one whose turn it is,
abbrev pub OthersUndisturbed : System → System → Type 0
OthersUndisturbed before after =
    (s : ℕ) → before.board.table.running ≢ Some s → IsUndisturbed before.unix after.unix s

-- and in a tick each but the one to which the tick delivers a signal.
abbrev pub is_due_to : Unix → Option ℕ → Bool
is_due_to u None = false
is_due_to u (Some s) = is_some (due (process_of u s).row (process_of u s).u)

abbrev pub tick_delivers : System → Bool
tick_delivers m = is_as_trap m && is_due_to m.unix m.board.table.running

abbrev pub UndisturbedIf : Bool → System → System → Type 0
UndisturbedIf true before after = OthersUndisturbed before after
UndisturbedIf false before after = AllUndisturbed before after

abbrev pub TickUndisturbed : System → System → Type 0
TickUndisturbed before after = UndisturbedIf (tick_delivers before) before after
