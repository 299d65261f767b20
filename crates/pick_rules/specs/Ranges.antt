-- The numbers that a line of the log may have. A line with any other number is no line of a log.
use Rattle.std.specs.Prelude.{ℕ, ℤ, pos, negsuc, ◌≤◌, ◌≤ℤ◌, ⊤}
use Rattle.v6_base.specs.declared.entry.Chan.{Chan}
use Rattle.v6_base.specs.declared.entry.Chan.TheVariants.{RunIn, RunOut, Tout, Keys, Show, Wait, Read, Write, Disk, KeysOf, ShowOf}
use Rattle.v6_base.specs.declared.entry.Place.{Place}
use Rattle.v6_base.specs.declared.entry.Place.TheVariants as place
use Rattle.v6_base.specs.declared.entry.Entry.{Entry}
use Rattle.v6_base.specs.declared.entry.Entry.TheVariants.{Boot, Go, Idle, Trap, TickUser, TickKernel, TickIdle, Sleep, Wake, Signal, Nice, Time, Size, SizeKeep, Fork, Leave, Bare, Text, Share, Image, SwapIn, SwapOut, Exit, Reap, Panic, End}
use Rattle.v6_base.specs.declared.entry.TheConstants.{SWAP_START}
use Rattle.pick_rules.specs.declared.ranges.TheConstants.{LAST_SLOT, LAST_TEXT, LAST_BLOCK, LAST_SIGNAL, LAST_LINE}

-- a slot of the table of processes
abbrev pub IsSlot : ℕ → Type 0
IsSlot n = n ≤ LAST_SLOT

-- a text
abbrev pub IsText : ℕ → Type 0
IsText n = n ≤ LAST_TEXT

-- clicks of 64 bytes: a place in core, or a size
abbrev pub IsClicks : ℕ → Type 0
IsClicks n = n ≤ 65535

-- a block of the swap area
abbrev pub IsBlock : ℕ → Type 0
IsBlock n = (SWAP_START ≤ n) × (n ≤ LAST_BLOCK)

-- seconds
abbrev pub IsTime : ℕ → Type 0
IsTime n = n ≤ 4294967295

abbrev pub IsSignal : ℕ → Type 0
IsSignal n = (1 ≤ n) × (n ≤ LAST_SIGNAL)

abbrev pub IsInode : ℕ → Type 0
IsInode n = (1 ≤ n) × (n ≤ 65535)

-- a priority, or what nice(II) adds to one
abbrev pub IsPriority : ℤ → Type 0
IsPriority z = (negsuc 127 ≤ℤ z) × (z ≤ℤ pos 127)

-- a line of a terminal other than the console
abbrev pub IsLine : ℕ → Type 0
IsLine n = (1 ≤ n) × (n ≤ LAST_LINE)

abbrev pub IsChannel : Chan → Type 0
IsChannel RunIn = ⊤
IsChannel RunOut = ⊤
IsChannel Tout = ⊤
IsChannel Keys = ⊤
IsChannel Show = ⊤
IsChannel (Wait slot) = IsSlot slot
IsChannel (Read inode) = IsInode inode
IsChannel (Write inode) = IsInode inode
IsChannel (Disk slot) = IsSlot slot
IsChannel (KeysOf line) = IsLine line
IsChannel (ShowOf line) = IsLine line

abbrev pub IsPlace : Place → Type 0
IsPlace (place.Core click) = IsClicks click
IsPlace (place.Swap block) = IsBlock block

-- each number of the entry is in its range
abbrev pub IsInRange : Entry → Type 0
IsInRange (Boot core time) = IsClicks core × IsTime time
IsInRange (Go slot) = IsSlot slot
IsInRange Idle = ⊤
IsInRange (Trap slot) = IsSlot slot
IsInRange TickUser = ⊤
IsInRange TickKernel = ⊤
IsInRange TickIdle = ⊤
IsInRange (Sleep slot pri chan) = IsSlot slot × IsPriority pri × IsChannel chan
IsInRange (Wake chan) = IsChannel chan
IsInRange (Signal slot sig) = IsSlot slot × IsSignal sig
IsInRange (Nice slot nice) = IsSlot slot × IsPriority nice
IsInRange (Time time) = IsTime time
IsInRange (Size slot clicks place) = IsSlot slot × IsClicks clicks × IsPlace place
IsInRange (SizeKeep slot clicks) = IsSlot slot × IsClicks clicks
IsInRange (Fork slot child place) = IsSlot slot × IsSlot child × IsPlace place
IsInRange (Leave slot text sticky) = IsSlot slot × IsText text
IsInRange (Bare slot) = IsSlot slot
IsInRange (Text slot text clicks block) = IsSlot slot × IsText text × IsClicks clicks × IsBlock block
IsInRange (Share slot text) = IsSlot slot × IsText text
IsInRange (Image slot clicks place) = IsSlot slot × IsClicks clicks × IsPlace place
IsInRange (SwapIn slot at) = IsSlot slot × IsClicks at
IsInRange (SwapOut slot block) = IsSlot slot × IsBlock block
IsInRange (Exit slot block) = IsSlot slot × IsBlock block
IsInRange (Reap slot) = IsSlot slot
IsInRange (Panic kind) = ⊤
IsInRange End = ⊤
