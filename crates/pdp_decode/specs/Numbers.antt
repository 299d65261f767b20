-- The numbers that stand in instruction words for modes, registers, operands, branches and condition codes.
-- PDP-11/40 Processor Handbook, chapters 3 and 4.
use Rattle.std.specs.Prelude.{ℕ, ◌+◌, ◌*◌, Bool, true, false}
use Rattle.pdp_decode.specs.declared.instr.Width.{Width}
use Rattle.pdp_decode.specs.declared.instr.Width.TheVariants.{Word, Byte}
use Rattle.pdp_decode.specs.declared.instr.Mode.{Mode}
use Rattle.pdp_decode.specs.declared.instr.Mode.TheVariants.{Register, Deferred, Increment, IncrementDeferred, Decrement, DecrementDeferred, Index, IndexDeferred}
use Rattle.pdp_decode.specs.declared.instr.Reg.{Reg}
use Rattle.pdp_decode.specs.declared.instr.Reg.TheVariants.{R0, R1, R2, R3, R4, R5, Sp, Pc}
use Rattle.pdp_decode.specs.declared.instr.Operand.{Operand}
use Rattle.pdp_decode.specs.declared.instr.Flags.{Flags}
use Rattle.pdp_decode.specs.declared.instr.Condition.{Condition}
use Rattle.pdp_decode.specs.declared.instr.Condition.TheVariants.{Always, NotEqual, Equal, GreaterOrEqual, Less, Greater, LessOrEqual, Plus, Minus, Higher, LowerOrSame, OverflowClear, OverflowSet, CarryClear, CarrySet}

abbrev pub mode_code : Mode → ℕ
mode_code Register = 0
mode_code Deferred = 1
mode_code Increment = 2
mode_code IncrementDeferred = 3
mode_code Decrement = 4
mode_code DecrementDeferred = 5
mode_code Index = 6
mode_code IndexDeferred = 7

abbrev pub reg_code : Reg → ℕ
reg_code R0 = 0
reg_code R1 = 1
reg_code R2 = 2
reg_code R3 = 3
reg_code R4 = 4
reg_code R5 = 5
reg_code Sp = 6
reg_code Pc = 7

-- an operand's two octal digits: its mode and its register
abbrev pub code : Operand → ℕ
code o = 0o10 * mode_code o.mode + reg_code o.reg

-- the top bit of a byte instruction
abbrev pub byte_bit : Width → ℕ
byte_bit Word = 0
byte_bit Byte = 0o100000

abbrev pub one_if : Bool → ℕ
one_if true = 1
one_if false = 0

-- the four low bits of a word that names condition codes
abbrev pub flag_bits : Flags → ℕ
flag_bits f = 0o10 * one_if f.n + 0o4 * one_if f.z + 0o2 * one_if f.v + one_if f.c

-- the base word of each branch
abbrev pub branch_code : Condition → ℕ
branch_code Always = 0o000400
branch_code NotEqual = 0o001000
branch_code Equal = 0o001400
branch_code GreaterOrEqual = 0o002000
branch_code Less = 0o002400
branch_code Greater = 0o003000
branch_code LessOrEqual = 0o003400
branch_code Plus = 0o100000
branch_code Minus = 0o100400
branch_code Higher = 0o101000
branch_code LowerOrSame = 0o101400
branch_code OverflowClear = 0o102000
branch_code OverflowSet = 0o102400
branch_code CarryClear = 0o103000
branch_code CarrySet = 0o103400
