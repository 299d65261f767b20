-- What stays fixed of a process while it executes instructions, words of its memory, the registers and condition codes at the
-- front of its u area, and the machine that these are.
use Rattle.std.specs.Prelude.{ℕ, ◌+◌, ◌%◌, List, [], ◌∷◌, ◌++◌, slice_set, Result, Ok, Err}
use Rattle.std.proofs.Math.Nat.{mod-lt}
use Rattle.std.proofs.Common.{lit<}
use Rattle.v6_base.specs.declared.space.Trap.{Trap}
use Rattle.v6_base.specs.Image.{Image}
use Rattle.v6_base.specs.Access.{load_word}
use Rattle.fs_codec.specs.Bytes.{bytes_of}
use Rattle.u_area.specs.declared.area.UArea.{UArea}
use Rattle.u_area.specs.declared.layout.TheConstants.{UMODE}
use Rattle.pdp_step.specs.Machine.{Machine}
use Rattle.image_keep.specs.declared.running.Fixed.{Fixed}
use Rattle.image_keep.specs.Kept.{Kept, image_of, area_of, with_image, with_area}
use Rattle.image_keep.specs.Starts.{AreStarts}

-- where the slot's image stands, and how long its parts are, is as told
abbrev pub IsFixed : Kept → Fixed → Type 0
IsFixed k f = AreStarts k f.slot f.starts

-- a u area with other registers and condition codes
abbrev pub with_state : UArea → List ℕ → ℕ → UArea
with_state u r cc = record u { r = r; cc = cc % 16; codes = mod-lt cc (lit< tt) }

-- a u area with other R0 and R1, and one with another PC and other condition codes
abbrev pub with_results : UArea → ℕ → ℕ → UArea
with_results u r0 r1 = record u { r = slice_set (slice_set u.r 0 r0) 1 r1 }

abbrev pub with_pc : UArea → ℕ → ℕ → UArea
with_pc u pc cc = with_state u (slice_set u.r 7 pc) cc

-- a word of an image, or another one where that can't be read, and four words, one after another
abbrev pub value_or : Result ℕ Trap → ℕ → ℕ
value_or (Ok word) other = word
value_or (Err trap) other = other

abbrev pub word_or : Image → ℕ → ℕ → ℕ
word_or m at other = value_or (load_word m (at % 65536)) other

abbrev pub words_or : Image → ℕ → ℕ → List ℕ
words_or m at other = word_or m at other ∷ word_or m (at + 2) other ∷ word_or m (at + 4) other ∷ word_or m (at + 6) other ∷ []

-- what an instruction of a process works on, and what is kept of the process with what that has become
abbrev pub machine_in : Kept → ℕ → Machine
machine_in k s = record { r = (area_of k s).r; cc = (area_of k s).cc; image = image_of k s }

abbrev pub with_machine_in : Kept → ℕ → Machine → Kept
with_machine_in k s m = with_area (with_image k s m.image) s (with_state (area_of k s) m.r m.cc)

-- the first 18 bytes of a u area: eight registers and the processor status word
unfoldable pub state_bytes : List ℕ → ℕ → List ℕ
state_bytes r cc = bytes_of r ++ bytes_of ((UMODE + cc) ∷ [])
