-- How the address of an operand is formed from its mode and register, and how the operand is read. All addresses and words
-- go round modulo 65536. PDP-11/40 Processor Handbook, chapter 3 (addressing modes).
use Rattle.std.specs.Prelude.{ℕ, ◌%◌, Result, Ok, Err}
use Rattle.v6_base.specs.declared.space.Trap.{Trap}
use Rattle.v6_base.specs.declared.space.Trap.TheVariants.{Odd, Segment}
use Rattle.v6_base.specs.Access.{then_do, load_byte, load_word}
use Rattle.pdp_decode.specs.declared.instr.Width.{Width}
use Rattle.pdp_decode.specs.declared.instr.Width.TheVariants.{Word, Byte}
use Rattle.pdp_decode.specs.declared.instr.Mode.{Mode}
use Rattle.pdp_decode.specs.declared.instr.Mode.TheVariants.{Register, Deferred, Increment, IncrementDeferred, Decrement, DecrementDeferred, Index, IndexDeferred}
use Rattle.pdp_decode.specs.declared.instr.Reg.{Reg}
use Rattle.pdp_decode.specs.declared.instr.Reg.TheVariants.{R0, R1, R2, R3, R4, R5, Sp, Pc}
use Rattle.pdp_decode.specs.declared.instr.Operand.{Operand}
use Rattle.pdp_step.specs.Registers.{plus, minus}
use Rattle.pdp_step.specs.Machine.{Machine, reg_in, with_reg, passed}

-- where an operand is
pub data Location : Type 0 where
  InRegister : Reg → Location
  InMemory : ℕ → Location

-- what stops an instruction before anything has changed; a segmentation fault names the value that R6 has reached
pub data Stop : Type 0 where
  OddAddress : Stop
  NoSegment : ℕ → Stop

abbrev pub stop_with : Trap → ℕ → Stop
stop_with Odd sp = OddAddress
stop_with Segment sp = NoSegment sp

abbrev pub stop_of : Trap → Machine → Stop
stop_of trap m = stop_with trap (reg_in m Sp)

-- an access of memory, with the registers as they stand by then
abbrev pub at_memory : {A : Type 0} → Machine → Result A Trap → Result A Stop
at_memory m (Ok a) = Ok a
at_memory m (Err trap) = Err (stop_of trap m)

unfoldable pub word_at : Machine → ℕ → Result ℕ Stop
word_at m a = at_memory m (load_word m.image a)

-- a byte instruction steps by 1, but for R6 and PC, which stay even
abbrev pub byte_step : Reg → ℕ
byte_step R0 = 1
byte_step R1 = 1
byte_step R2 = 1
byte_step R3 = 1
byte_step R4 = 1
byte_step R5 = 1
byte_step Sp = 2
byte_step Pc = 2

abbrev pub step_size : Width → Reg → ℕ
step_size Word n = 2
step_size Byte n = byte_step n

-- where an operand is, and the machine when that is known
pub record Formed : Type 0 where
  pub location : Location
  pub machine : Machine

abbrev pub formed_at : Machine → ℕ → Result Formed Stop
formed_at m address = Ok (record { location = InMemory address; machine = m })

-- the address that a word in memory holds
abbrev pub through : Machine → ℕ → Result Formed Stop
through m a = then_do (word_at m a) (λ address. formed_at m address)

-- in the last two modes PC passes the word X before the register is read
unfoldable pub formed : Machine → Width → Mode → Reg → Result Formed Stop
formed m w Register n = Ok (record { location = InRegister n; machine = m })
formed m w Deferred n = formed_at m (reg_in m n)
formed m w Increment n = formed_at (with_reg m n (plus (reg_in m n) (step_size w n))) (reg_in m n)
formed m w IncrementDeferred n = through (with_reg m n (plus (reg_in m n) 2)) (reg_in m n)
formed m w Decrement n = let a = minus (reg_in m n) (step_size w n) in formed_at (with_reg m n a) a
formed m w DecrementDeferred n = let a = minus (reg_in m n) 2 in through (with_reg m n a) a
formed m w Index n = then_do (word_at m (reg_in m Pc)) (λ x. formed_at (passed m) (plus (reg_in (passed m) n) x))
formed m w IndexDeferred n = then_do (word_at m (reg_in m Pc)) (λ x. through (passed m) (plus (reg_in (passed m) n) x))

-- a byte operand in a register is its low byte
unfoldable pub value_at : Machine → Width → Location → Result ℕ Stop
value_at m Word (InRegister n) = Ok (reg_in m n)
value_at m Byte (InRegister n) = Ok (reg_in m n % 256)
value_at m Word (InMemory a) = word_at m a
value_at m Byte (InMemory a) = at_memory m (load_byte m.image a)

-- an operand that is formed and read
pub record Fetched : Type 0 where
  pub location : Location
  pub value : ℕ
  pub machine : Machine

unfoldable pub fetched : Machine → Width → Operand → Result Fetched Stop
fetched m w o =
    then_do (formed m w o.mode o.reg) (λ f.
    then_do (value_at f.machine w f.location) (λ value.
    Ok (record { location = f.location; value = value; machine = f.machine })))
