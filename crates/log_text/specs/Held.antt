-- The numbers that an entry can hold, by the types of its fields: bytes, words of 16 bits, numbers of 32 bits, and bytes
-- with a sign.
use Rattle.std.specs.Prelude.{ℕ, ◌≤◌, ⊤}
use Rattle.v6_base.specs.declared.entry.Chan.{Chan}
use Rattle.v6_base.specs.declared.entry.Chan.TheVariants.{RunIn, RunOut, Tout, Keys, Show, Wait, Read, Write, Disk, KeysOf, ShowOf}
use Rattle.v6_base.specs.declared.entry.Place.{Place}
use Rattle.v6_base.specs.declared.entry.Place.TheVariants as place
use Rattle.v6_base.specs.declared.entry.Entry.{Entry}
use Rattle.v6_base.specs.declared.entry.Entry.TheVariants.{Boot, Go, Idle, Trap, TickUser, TickKernel, TickIdle, Sleep, Wake, Signal, Nice, Time, Size, SizeKeep, Fork, Leave, Bare, Text, Share, Image, SwapIn, SwapOut, Exit, Reap, Panic, End}
use Rattle.pick_rules.specs.Ranges.{IsPriority}

abbrev pub IsByte : ℕ → Type 0
IsByte n = n ≤ 255

abbrev pub IsWord : ℕ → Type 0
IsWord n = n ≤ 65535

abbrev pub IsLong : ℕ → Type 0
IsLong n = n ≤ 4294967295

abbrev pub HoldsChannel : Chan → Type 0
HoldsChannel RunIn = ⊤
HoldsChannel RunOut = ⊤
HoldsChannel Tout = ⊤
HoldsChannel Keys = ⊤
HoldsChannel Show = ⊤
HoldsChannel (Wait slot) = IsByte slot
HoldsChannel (Read inode) = IsWord inode
HoldsChannel (Write inode) = IsWord inode
HoldsChannel (Disk slot) = IsByte slot
HoldsChannel (KeysOf line) = IsByte line
HoldsChannel (ShowOf line) = IsByte line

abbrev pub HoldsPlace : Place → Type 0
HoldsPlace (place.Core click) = IsWord click
HoldsPlace (place.Swap block) = IsWord block

-- each number of the entry is one that its field can hold
abbrev pub IsHeld : Entry → Type 0
IsHeld (Boot core time) = IsWord core × IsLong time
IsHeld (Go slot) = IsByte slot
IsHeld Idle = ⊤
IsHeld (Trap slot) = IsByte slot
IsHeld TickUser = ⊤
IsHeld TickKernel = ⊤
IsHeld TickIdle = ⊤
IsHeld (Sleep slot pri chan) = IsByte slot × IsPriority pri × HoldsChannel chan
IsHeld (Wake chan) = HoldsChannel chan
IsHeld (Signal slot sig) = IsByte slot × IsByte sig
IsHeld (Nice slot nice) = IsByte slot × IsPriority nice
IsHeld (Time time) = IsLong time
IsHeld (Size slot clicks place) = IsByte slot × IsWord clicks × HoldsPlace place
IsHeld (SizeKeep slot clicks) = IsByte slot × IsWord clicks
IsHeld (Fork slot child place) = IsByte slot × IsByte child × HoldsPlace place
IsHeld (Leave slot text sticky) = IsByte slot × IsByte text
IsHeld (Bare slot) = IsByte slot
IsHeld (Text slot text clicks block) = IsByte slot × IsByte text × IsWord clicks × IsWord block
IsHeld (Share slot text) = IsByte slot × IsByte text
IsHeld (Image slot clicks place) = IsByte slot × IsWord clicks × HoldsPlace place
IsHeld (SwapIn slot at) = IsByte slot × IsWord at
IsHeld (SwapOut slot block) = IsByte slot × IsWord block
IsHeld (Exit slot block) = IsByte slot × IsWord block
IsHeld (Reap slot) = IsByte slot
IsHeld (Panic kind) = ⊤
IsHeld End = ⊤
