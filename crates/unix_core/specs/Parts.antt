-- How the parts of a kernel are the Unix and the board: the world of files and processes.
use Rattle.std.specs.Prelude.{◌≡◌, ◌<◌, ◌≤◌, ℕ, min, Bool, true, false, if◌then◌else◌, List, map, Option, Some, None}
use Rattle.pdp_step.specs.declared.outcome.Outcome.{Outcome}
use Rattle.pdp_step.specs.Instruction.{instr}
use Rattle.pick_rules.specs.declared.table.Table.{Table}
use Rattle.pick_rules.specs.Choice.{chosen, settle}
use Rattle.pick_rules.specs.Swapper.{candidate}
use Rattle.pick_rules.specs.Board.{Board}
use Rattle.v6_base.specs.Trace.{Item}
use Rattle.pick_rules.specs.Effects.{Show}
use Rattle.pick_rules.specs.Logged.{Stop, nothing_logged, logged, left_by}
use Rattle.v6_base.specs.declared.entry.Place.TheVariants.{Core}
use Rattle.fs_tree.specs.Mounting.{AreMounts}
use Rattle.image_keep.specs.Area.{sized_area}
use Rattle.image_keep.specs.Places.{cleared}
use Rattle.image_keep.specs.Kept.{Held, Kept, Alive, HasImage, first_kept, with_keeping}
use Rattle.image_keep.specs.declared.running.Fixed.{Fixed}
use Rattle.image_keep.specs.Running.{IsFixed}
use Rattle.proc_tab.specs.Processes.{first_processes}
use Rattle.pick_rules.specs.Table.{first_table, IsTable}
use Rattle.sys_procs.specs.declared.procs.Procs.{Procs}
use Rattle.sys_procs.specs.World.{clock_of, processes_in, texts_in}
use Rattle.sys_procs.specs.Agree.{board_of}
use Rattle.sys_procs.specs.Handed.{AreProcs, IsMarked}
use Rattle.unix_core.specs.declared.world.World as parts
use Rattle.abstract_unix.specs.declared.ending.Ending.{Ending}
use Rattle.abstract_unix.specs.declared.ending.Ending.TheVariants.{Panic}
use Rattle.unix_core.specs.declared.machine.Stage.{Stage}
use Rattle.unix_core.specs.declared.machine.Stage.TheVariants as stage
use Rattle.abstract_unix.specs.Unix.{Unix, System, Phase, New, Started, Stopped, Finished, process_of, with_process}
use Rattle.abstract_unix.specs.Endings.{phase_after}
use Rattle.abstract_unix.specs.Init.{init_data}
use Rattle.abstract_unix.specs.Whole.{Owed, CanGoOn}
use Rattle.abstract_unix.specs.Calls.{in_order}
use Rattle.abstract_unix.specs.Steps.{Steps, returns}
use Rattle.abstract_unix.specs.Outside.{delivers_to}
use Rattle.unix_core.specs.Passing.{HaveSlots, shown_by, all_woken}
use Rattle.unix_core.specs.Memory.{kept_in}
use Rattle.unix_core.specs.Slots.{timing_in, with_sent, slot_items, slot_wakes, IsCounted}
use Rattle.abstract_unix.specs.declared.ends.Ends.TheVariants.{AtEnd}
use Rattle.abstract_unix.specs.Turn.{Happened, Turn, machine_of, with_machine, is_user, end_effects, ending_of, after_slot, settled_after, slot_of}

-- the Unix of a world
abbrev pub unix_of : parts.World → Unix
unix_of w = record {
  store = w.files.tree.nodes.store;
  covered = w.files.tree.mounts.covered;
  processes = processes_in w.procs.rows.slots w.procs.images.kept;
  files = w.files.table;
  pipes = w.files.pipes;
  texts = texts_in w.procs.images.kept;
  lines = w.files.lines;
  clock = clock_of w.procs.table;
  switches = w.procs.switches;
  last_pid = w.procs.rows.last_pid;
  limit = min w.procs.images.kept.core 2048;
  timing = timing_in w.slots;
}

abbrev pub board_in : parts.World → Board
board_in w = board_of w.procs.table w.procs.images.kept

abbrev pub system_at : parts.World → System
system_at w = record { unix = unix_of w; board = board_in w }

-- what the next slot comes to
abbrev pub turn_at : parts.World → Turn
turn_at w = settled_after (after_slot (slot_of (system_at w) w.procs.table.running))

-- what a turn comes to of which this is left, and which ends so
abbrev pub turn_end : parts.World → ℕ → Ending → Turn
turn_end w s e = settled_after (after_slot (record {
  unix = unix_of w;
  log = logged (board_in w) (end_effects s e);
  is_idle = false;
  settles = true;
  ending = ending_of e;
}))

-- where a tick is as a trap, the signal that is due to the process that runs is delivered
abbrev pub delivers_where : Bool → Unix → Option ℕ → Steps
delivers_where as_trap u running = if as_trap then delivers_to u running else returns u

-- the first image of process 1
abbrev pub first_held : Held
first_held = record {
  u = record (sized_area 1 0) { dir = 1 };
  image = record (cleared 1 0) { «data» = init_data };
  place = Core 1;
}

-- how many bytes it has: 17 clicks
abbrev pub first_size : ℕ
first_size = 1088

-- Process 1 alone, with its first image, and the table at a time.
pub record AreFirst (p : Procs) (core time : ℕ) : Type 0 where
  pub rows : p.rows ≡ first_processes
  pub table : p.table ≡ first_table time
  pub good : IsTable p.table
  pub kept : p.images.kept ≡ with_keeping (first_kept core) 1 (Alive first_held)
  pub switches : p.switches ≡ 0

-- What is so of a world between two things that the kernel does.
pub record IsGood (w : parts.World) : Type 0 where
  pub agree : AreProcs w.procs
  pub running : (s : ℕ) → w.procs.table.running ≡ Some s → 0 < s → HasImage w.procs.images.kept s
  pub owed : Owed w.files.tree.nodes.references (unix_of w)
  pub pending : CanGoOn (unix_of w)
  pub marks : IsMarked w.procs w.files.tree.marks
  pub mounts : AreMounts w.files.tree.mounts w.files.tree.nodes.store
  pub rooms : (w.tape.entry_room ≡ 64) × (w.tape.byte_room ≡ 524288)
  pub core : w.core ≡ w.procs.images.kept.core

-- a process that isn't the swapper runs
pub record IsReady (w : parts.World) (s : ℕ) : Type 0 where
  pub good : IsGood w
  pub runs : w.procs.table.running ≡ Some s
  pub user : 0 < s

-- A call on files of a process has been done, and what it shows stands on the tape, in the order in which it goes out: the table
-- is as it was.
pub record IsReadyToShow (old new : parts.World) (s : ℕ) (items : List Item) : Type 0 where
  pub ready : IsReady new s
  pub table : new.procs.table ≡ old.procs.table
  pub core : new.procs.images.kept.core ≡ old.procs.images.kept.core
  pub texts : new.procs.images.kept.texts ≡ old.procs.images.kept.texts
  pub shown : shown_by new.tape ≡ in_order items
  pub slots : HaveSlots new.tape.entries
  pub wakes : (t : Table) (k : Kept) → (logged {W = Unix} (board_of t k) (map Show (in_order items))).board ≡ board_of (all_woken t new.tape.entries) k

-- how a turn ends in which a demand may find no place
abbrev pub ended_as : Option (Stop Unix) → Ending → Ending
ended_as None e = e
ended_as (Some stop) e = Panic stop.why

-- whether a turn that ends so ends the run
abbrev pub is_over : Ending → Bool
is_over (Panic kind) = true
is_over e = false

-- The world has taken these steps of a turn, and the turn has ended so.
pub record HasCome (b : Board) (steps : Steps) (e : Ending) (w : parts.World) : Type 0 where
  pub ending : e ≡ ended_as (logged b steps.effects).stop steps.ending
  pub unix : unix_of w ≡ left_by (logged b steps.effects).stop steps.unix
  pub board : board_in w ≡ (logged b steps.effects).board

-- A process executes instructions: it runs, it is in no call, and the kernel has settled.
pub record IsUser (s : ℕ) (w : parts.World) : Type 0 where
  pub ready : IsReady w s
  pub user : is_user (process_of (unix_of w) s) ≡ true
  pub settled : settle w.procs.table ≡ None

-- It is known where its image stands.
pub record IsRunning (f : Fixed) (w : parts.World) : Type 0 where
  pub user : IsUser f.slot w
  pub fixed : IsFixed w.procs.images.kept f

-- What stays fixed of the process in a slot is known.
pub record IsKnown (at : Stage) (w : parts.World) (s : ℕ) : Type 0 where
  pub fixed : Fixed
  pub stage : at ≡ stage.Running fixed
  pub slot : fixed.slot ≡ s
  pub is : IsFixed w.procs.images.kept fixed

-- Between two events a process goes on with a call, or nobody runs but the swapper, or nobody.
pub record IsPaused (w : parts.World) : Type 0 where
  pub good : IsGood w
  pub settled : (s : ℕ) → w.procs.table.running ≡ Some s → settle w.procs.table ≡ None
  pub idle : w.procs.table.running ≡ None → chosen w.procs.table ≡ None
  pub calls : (s : ℕ) → w.procs.table.running ≡ Some s → 0 < s → is_user (process_of (unix_of w) s) ≡ false

abbrev pub phase_of : Stage → Phase
phase_of stage.New = New
phase_of (stage.Running f) = Started
phase_of stage.Resting = Started
phase_of stage.Stopped = Stopped
phase_of stage.Finished = Finished

-- whether a run that has come so far can go on
abbrev pub goes_on : Phase → Bool
goes_on New = true
goes_on Started = true
goes_on Stopped = false
goes_on Finished = false

-- the slot of the process that executes instructions
abbrev pub slot_in : Stage → ℕ
slot_in stage.New = 0
slot_in (stage.Running f) = f.slot
slot_in stage.Resting = 0
slot_in stage.Stopped = 0
slot_in stage.Finished = 0

-- The swapper runs, and nobody is out of core: its first pass finds nothing to do.
pub record IsNew (w : parts.World) : Type 0 where
  pub good : IsGood w
  pub runs : w.procs.table.running ≡ Some 0
  pub nobody_out : candidate w.procs.table ≡ None

-- what is kept is what the system tells
abbrev pub IsCovered : parts.World → Type 0
IsCovered w = w.procs.images.kept ≡ kept_in (system_at w)

-- Nothing was logged in a slot, and it has left the world so. Where the kernel settles after it, it has nothing to do.
pub record IsStill (h : Happened) (w : parts.World) : Type 0 where
  pub unix : h.unix ≡ unix_of w
  pub log : h.log ≡ nothing_logged (board_in w)
  pub ending : h.ending ≡ AtEnd
  pub settled : h.settles ≡ true → settle w.procs.table ≡ None

-- the world before the last slot up to the one that is due was counted
abbrev pub one_before : parts.World → parts.World
one_before w = record w { slots = record w.slots { left = 1 } }

-- The slot that is due has been taken, and nothing has come of it yet.
pub record IsSlotDue (w : parts.World) : Type 0 where
  pub left : w.slots.left ≡ 0
  pub good : IsGood (one_before w)
  pub counted : IsCounted (one_before w).slots (unix_of (one_before w))
  pub fresh : w.slots.due ≤ 3000000001

-- A slot has ended, and `u` is the Unix with it: who has waited for the disk up to its end is woken, and the lines have sent
-- where they do with its end. `wakes` says whether anybody is woken.
pub record IsSlotEnded (u : Unix) (old new : parts.World) (wakes : Bool) : Type 0 where
  pub unix : unix_of new ≡ with_sent u
  pub board : board_in new ≡ (logged {W = Unix} (board_in old) (map Show (slot_items u))).board
  pub any : wakes ≡ slot_wakes u
  pub good : IsGood new
  pub counted : IsCounted new.slots (unix_of new)
  pub running : new.procs.table.running ≡ old.procs.table.running
  pub tree : new.files.tree ≡ old.files.tree
  pub others : new ≡ record old { files = record old.files { lines = new.files.lines }; procs = new.procs; slots = new.slots }
  pub same : wakes ≡ false → new.procs ≡ old.procs

-- what is so of every kernel
pub record IsKernel (at : Stage) (w : parts.World) : Type 0 where
  pub new : at ≡ stage.New → IsNew w
  pub stopped : at ≡ stage.Stopped → IsCovered w
  pub finished : at ≡ stage.Finished → IsCovered w
  pub running : (f : Fixed) → at ≡ stage.Running f → IsRunning f w
  pub resting : at ≡ stage.Resting → IsPaused w
  pub counted : goes_on (phase_of at) ≡ true → IsCounted w.slots (unix_of w)
  pub within : w.slots.left ≤ w.slots.due

-- A system whose running process was in user mode, and the world after its instruction.
pub record HasStepped (m : System) (w : parts.World) (s : ℕ) (o : Outcome) : Type 0 where
  pub runs : m.board.table.running ≡ Some s
  pub user : is_user (process_of m.unix s) ≡ true
  pub outcome : o ≡ (instr (machine_of m.unix.texts (process_of m.unix s))).outcome
  pub unix : unix_of w ≡ with_process m.unix s (with_machine (process_of m.unix s) (instr (machine_of m.unix.texts (process_of m.unix s))).machine)
  pub board : board_in w ≡ m.board

-- The parts have taken an event that comes to this.
pub record Takes (turn : Turn) (at : Stage) (w : parts.World) : Type 0 where
  pub kernel : IsKernel at w
  pub system : system_at w ≡ turn.next
  pub phase : phase_of at ≡ phase_after turn.ending
