-- Which bytes an instruction of a process writes.
use Rattle.std.specs.Prelude.{◌≡◌, ℕ, List}
use Rattle.core_mem.specs.Bytes.{over}
use Rattle.pdp_step.specs.Machine.{Machine}
use Rattle.image_keep.specs.Kept.{Held, Has}
use Rattle.image_keep.specs.Lent.{Outside, outside_of}
use Rattle.image_keep.specs.Memory.{place_at}
use Rattle.image_keep.specs.Running.{state_bytes}
use Rattle.image_keep.specs.State.{ImagesState}

-- bytes are put at a place in front of those that are left out
abbrev pub over_outside : Outside → ℕ → List ℕ → Outside
over_outside o at bytes = record o { bytes = over o.bytes at bytes }

-- Of core and of the swap area the registers and the condition codes of this machine are written, from a place on; of all other
-- bytes only those of the data and of the stack of a slot's image may have changed.
abbrev pub IsSteppedAt : ImagesState → ImagesState → ℕ → ℕ → Machine → Type 0
IsSteppedAt x y s at m = outside_of y s ≡ over_outside (outside_of x s) at (state_bytes m.r m.cc)

-- the same where the slot's u area stands
abbrev pub IsStepped : ImagesState → ImagesState → ℕ → Machine → Type 0
IsStepped x y s m = (held : Held) → Has x.kept s held → IsSteppedAt x y s (place_at x.kept.core held.place) m
