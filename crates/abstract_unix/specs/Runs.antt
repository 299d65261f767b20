-- A run as a function: from an image, a core size and a list of events to what is shown and how it ends.
use Rattle.std.specs.Prelude.{ℕ, Bool, false, ◌||◌, nat_lt, List, [], ◌∷◌, ◌++◌, min, is_some, replicate, if◌then◌else◌, Option, Some, None}
use Rattle.std.specs.Option.{option_map}
use Rattle.fs_codec.specs.Faults.{image_fault, fault_within}
use Rattle.fs_codec.specs.declared.layout.TheConstants.{DISK_BLOCKS}
use Rattle.v6_base.specs.Trace.{Item, Log}
use Rattle.v6_base.specs.declared.entry.Entry.TheVariants.{Boot}
use Rattle.fs_codec.specs.Disk.{disk_of}
use Rattle.fs_codec.specs.Stands.{store_of}
use Rattle.fs_nodes.specs.Keys.{Stores, key_count, synced}
use Rattle.lines_eight.specs.Lines.{first_lines}
use Rattle.pick_rules.specs.Board.{first_board}
use Rattle.proc_tab.specs.Processes.{no_row}
use Rattle.image_keep.specs.Area.{sized_area}
use Rattle.sys_procs.specs.Process.{Process, no_process}
use Rattle.abstract_unix.specs.declared.ends.Ends.{Ends}
use Rattle.abstract_unix.specs.declared.ends.Ends.TheVariants.{AtEnd, Panic}
use Rattle.abstract_unix.specs.Unix.{Unix, System, no_texts}
use Rattle.abstract_unix.specs.Endings.{last_line}
use Rattle.abstract_unix.specs.Init.{init_data}
use Rattle.abstract_unix.specs.Turn.{Happened, Turn, settled_after, pass_of, whole_slot}
use Rattle.abstract_unix.specs.Outside.{tick_of, typed_of, hangup_of, switched_of, disk_set_of, paced_of}

-- process 1, whose program executes `/etc/init`: it has no parent, one click of data, and the root as its directory
abbrev pub first_process : Process
first_process = record no_process {
  row = record no_row { pid = 1 };
  u = record (sized_area 1 0) { dir = 1 };
  «data» = init_data;
}

-- The Unix of the file systems of one disk or two, with so many clicks of core and so many terminal lines. No file is open, nobody
-- has opened a line, and the second disk, where there is one, is mounted nowhere. The time is that of the root's super-block.
abbrev pub first_unix : Stores → ℕ → ℕ → Unix
first_unix store core lines = record {
  store = store;
  covered = None;
  processes = None ∷ Some first_process ∷ replicate 48 None;
  files = replicate 100 None;
  pipes = [];
  texts = no_texts;
  lines = first_lines lines;
  clock = record { time = store.root.stamp; ticks = 0; tout = 0 };
  switches = 0;
  last_pid = 1;
  limit = min core 2048;
  timing = record { passed = 0; disk = 0; pace = 0; since = 0 };
}

-- the system before its first turn
abbrev pub system_with : Stores → ℕ → ℕ → System
system_with store core lines = record { unix = first_unix store core lines; board = first_board core store.root.stamp }

-- the file systems of the image of the root's disk, and of that of a second one, where there is one
abbrev pub stores_of : List ℕ → Option (List ℕ) → Stores
stores_of image second = record {
  root = store_of (disk_of image);
  second = option_map (λ bytes. store_of (disk_of bytes)) second;
}

-- the system that images without a fault begin with, with so many clicks of core and so many lines
abbrev pub system_of : List ℕ → Option (List ℕ) → ℕ → ℕ → System
system_of image second core lines = system_with (stores_of image second) core lines

-- What is wrong with a second image: its first fault, or that there are more inodes on both disks than there are keys.
abbrev pub is_second_bad : List ℕ → Option (List ℕ) → Bool
is_second_bad image None = false
is_second_bad image (Some second) =
    is_some (fault_within DISK_BLOCKS second) || nat_lt 65535 (key_count (stores_of image (Some second)))

-- or None where an image has a fault
abbrev pub boots : List ℕ → Option (List ℕ) → ℕ → ℕ → Option System
boots image second core lines =
    if is_some (image_fault image) || is_second_bad image second then None else Some (system_of image second core lines)

-- the system at its end, when all that has changed is on the disk
abbrev pub finished : System → System
finished m = let u : Unix = m.unix in record m { unix = record u { store = synced u.store u.clock.time } }

-- what comes to a kernel from outside
pub data Event : Type 0 where
  Slot : Event  -- one slot of the processor: a turn of the running process
  Tick : Event  -- a sixtieth of a second has passed
  Byte : ℕ → ℕ → Event  -- a byte is typed on a line
  Switch : ℕ → Event  -- the switches of the console are set to a word
  Disk : ℕ → Event  -- from now on a transfer from the disk takes so many slots
  Pace : ℕ → Event  -- from now on the lines send after each so many slots
  Hangup : ℕ → Event  -- a line hangs up

-- what happens in an event
abbrev pub happened : Event → System → Happened
happened Slot m = whole_slot m
happened Tick m = tick_of m
happened (Byte l byte) m = typed_of m l byte
happened (Switch word) m = switched_of m word
happened (Disk count) m = disk_set_of m count
happened (Pace count) m = paced_of m count
happened (Hangup l) m = hangup_of m l

-- and what the event comes to
abbrev pub event_of : Event → System → Turn
event_of e m = settled_after (happened e m)

-- a run up to some point: what it has shown, the system there, and how it ends, as far as it has come
pub record Course : Type 0 where
  pub items : List Item
  pub system : System
  pub ending : Ends

abbrev pub begun : System → Course
begun m = record { items = []; system = m; ending = AtEnd }

-- The log begins with the size of core and the time; the swapper makes a pass before the first event, and then there is a
-- choice.
abbrev pub start_of : System → Turn
start_of m = let pass : Turn = settled_after (pass_of m) in
    record pass { items = Log (Boot m.board.core m.unix.clock.time) ∷ pass.items }

abbrev pub goes_on_by : Course → Turn → Course
goes_on_by c turn = record { items = c.items ++ turn.items; system = turn.next; ending = turn.ending }

-- a run that has ended stays as it is
abbrev pub unless_ended : Ends → Course → Event → Course
unless_ended AtEnd c event = goes_on_by c (event_of event c.system)
unless_ended (Panic kind) c event = c

abbrev pub after_event : Course → Event → Course
after_event c event = unless_ended c.ending c event

-- the events one after another
abbrev pub course : Course → List Event → Course
course c [] = c
course c (event ∷ events) = course (after_event c event) events

-- a run that has started
abbrev pub started : System → Course
started m = goes_on_by (begun m) (start_of m)

-- a course that has shown these items before its own
abbrev pub after_items : List Item → Course → Course
after_items items c = record c { items = items ++ c.items }

-- all that a run shows
abbrev pub shown_by : Course → List Item
shown_by c = c.items ++ last_line c.ending

-- the run of images without a fault, in so much core and with so many lines, over some events
abbrev pub run_of : List ℕ → Option (List ℕ) → ℕ → ℕ → List Event → Course
run_of image second core lines events = course (started (system_of image second core lines)) events

-- or None where an image has a fault
abbrev pub runs : List ℕ → Option (List ℕ) → ℕ → ℕ → List Event → Option Course
runs image second core lines events = option_map (λ m. course (started m) events) (boots image second core lines)
