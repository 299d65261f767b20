-- A process that executes instructions, over the bytes in which it stands: what an instruction works on, and what it leaves
-- as it is. Its registers and condition codes are those in front of its u area.
use Rattle.std.specs.Prelude.{◌≡◌, ℕ, ◌+◌, ◌-◌, ◌%◌, List, length}
use Rattle.std.specs.Borrow.{GName}
use Rattle.core_mem.specs.Bytes.{part}
use Rattle.fs_codec.specs.Words.{word, words}
use Rattle.pdp_decode.specs.declared.instr.Width.{Width}
use Rattle.pdp_decode.specs.declared.instr.Width.TheVariants.{Word, Byte}
use Rattle.pdp_decode.specs.Decode.{decode_of}
use Rattle.pdp_step.specs.Machine.{Machine}
use Rattle.pdp_step.specs.Instruction.{row_of}
use Rattle.pdp_step.specs.After.{Done, finished}
use Rattle.pdp_step.specs.Parts.{at_pc}
use Rattle.image_keep.specs.declared.standing.Standing.{Standing}
use Rattle.image_keep.specs.Running.{state_bytes}
use Rattle.image_keep.specs.Standing.{standing_image, StandsIn, IsPlace, IsWordPlace}

-- the registers that stand in front of a u area, and the condition codes in the processor status word after them
abbrev pub registers_at : List ℕ → ℕ → List ℕ
registers_at core at = words core at 8

abbrev pub codes_at : List ℕ → ℕ → ℕ
codes_at core at = word core (at + 16) % 16

-- they stand there as a u area is written
abbrev pub IsStated : List ℕ → ℕ → Type 0
IsStated core at = part core at 18 ≡ state_bytes (registers_at core at) (codes_at core at)

abbrev pub standing_machine : List ℕ → Standing → Machine
standing_machine core f = record { r = registers_at core f.area; cc = codes_at core f.area; image = standing_image core f }

-- a process stands there, with its registers and codes
pub record StandsWith (core : List ℕ) (f : Standing) : Type 0 where
  pub inside : StandsIn (length core) f
  pub stated : IsStated core f.area

-- the row of a word, with PC after it, is done
abbrev pub IsRowDone : Machine → ℕ → ℕ → Machine → Type 0
IsRowDone old pc word new = Done new ≡ finished old.image (row_of (at_pc old pc) word (decode_of word))

-- where the stack ends
abbrev pub stack_end : Standing → ℕ
stack_end f = f.data_end + (65536 - f.stack_start)

-- what isn't registers, codes, data or stack: how many bytes there are, those in front of the u area, its bytes behind the
-- registers, and the bytes behind the stack
pub record Around : Type 0 where
  pub size : ℕ
  pub before : List ℕ
  pub fields : List ℕ
  pub behind : List ℕ

abbrev pub around : List ℕ → Standing → Around
around core f = record {
  size = length core;
  before = part core 0 f.area;
  fields = part core (f.area + 18) 1006;
  behind = part core (stack_end f) (length core - stack_end f);
}

-- the places with the loan of the bytes, and all that is around
pub record Beside : Type 0 where
  pub standing : Standing
  pub bytes : GName
  pub around : Around

-- a place for an operand of that size
abbrev pub IsPlaceFor : Beside → Width → ℕ → Type 0
IsPlaceFor b Word place = IsWordPlace b.standing place
IsPlaceFor b Byte place = IsPlace b.standing place
