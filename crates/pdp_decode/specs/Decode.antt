-- The instruction that a word is, by its octal digits from the left: the table of `Table` as a function. That it agrees with
-- that table, both ways, are clauses of `decode`.
use Rattle.std.specs.Prelude.{ℕ, ◌/◌, ◌%◌, ◌==◌, nat_lt, if◌then◌else◌}
use Rattle.pdp_decode.specs.declared.instr.Width.{Width}
use Rattle.pdp_decode.specs.declared.instr.Width.TheVariants.{Word, Byte}
use Rattle.pdp_decode.specs.declared.instr.Mode.{Mode}
use Rattle.pdp_decode.specs.declared.instr.Mode.TheVariants.{Register, Deferred, Increment, IncrementDeferred, Decrement, DecrementDeferred, Index, IndexDeferred}
use Rattle.pdp_decode.specs.declared.instr.Reg.{Reg}
use Rattle.pdp_decode.specs.declared.instr.Reg.TheVariants.{R0, R1, R2, R3, R4, R5, Sp, Pc}
use Rattle.pdp_decode.specs.declared.instr.Operand.{Operand}
use Rattle.pdp_decode.specs.declared.instr.Flags.{Flags}
use Rattle.pdp_decode.specs.declared.instr.Condition.{Condition}
use Rattle.pdp_decode.specs.declared.instr.Condition.TheVariants.{Always, NotEqual, Equal, GreaterOrEqual, Less, Greater, LessOrEqual, Plus, Minus, Higher, LowerOrSame, OverflowClear, OverflowSet, CarryClear, CarrySet}
use Rattle.pdp_decode.specs.declared.instr.SoftTrap.TheVariants.{Bpt, Iot}
use Rattle.pdp_decode.specs.declared.instr.Instr.{Instr}
use Rattle.pdp_decode.specs.declared.instr.Instr.TheVariants.{Mov, Cmp, Bit, Bic, Bis, Add, Sub, Clr, Com, Inc, Dec, Neg, Adc, Sbc, Tst, Ror, Rol, Asr, Asl, Swab, Sxt, Mul, Div, Ash, Ashc, Xor, Sob, Branch, Jmp, Jsr, Rts, Mark, Rti, Codes, Wait, SoftTrap, Emt, Sys, Illegal}

unfoldable pub mode_of : ℕ → Mode
mode_of n =
    if n == 0 then Register
    else (if n == 1 then Deferred
    else (if n == 2 then Increment
    else (if n == 3 then IncrementDeferred
    else (if n == 4 then Decrement
    else (if n == 5 then DecrementDeferred
    else (if n == 6 then Index
    else IndexDeferred))))))

unfoldable pub reg_of : ℕ → Reg
reg_of n =
    if n == 0 then R0
    else (if n == 1 then R1
    else (if n == 2 then R2
    else (if n == 3 then R3
    else (if n == 4 then R4
    else (if n == 5 then R5
    else (if n == 6 then Sp
    else Pc))))))

-- the operand of a number's two low octal digits
unfoldable pub operand_of : ℕ → Operand
operand_of n = record { mode = mode_of (n / 0o10 % 0o10); reg = reg_of (n % 0o10) }

unfoldable pub flags_of : ℕ → Flags
flags_of n = record { n = n / 0o10 % 2 == 1; z = n / 0o4 % 2 == 1; v = n / 0o2 % 2 == 1; c = n % 2 == 1 }

-- the branch of a word's high byte
unfoldable pub condition_of : ℕ → Condition
condition_of n =
    if n == 0o001 then Always
    else (if n == 0o002 then NotEqual
    else (if n == 0o003 then Equal
    else (if n == 0o004 then GreaterOrEqual
    else (if n == 0o005 then Less
    else (if n == 0o006 then Greater
    else (if n == 0o007 then LessOrEqual
    else (if n == 0o200 then Plus
    else (if n == 0o201 then Minus
    else (if n == 0o202 then Higher
    else (if n == 0o203 then LowerOrSame
    else (if n == 0o204 then OverflowClear
    else (if n == 0o205 then OverflowSet
    else (if n == 0o206 then CarryClear
    else CarrySet)))))))))))))

-- an instruction that has no meaning at a register
abbrev pub at_address : Mode → Instr → Instr
at_address Register i = Illegal
at_address Deferred i = i
at_address Increment i = i
at_address IncrementDeferred i = i
at_address Decrement i = i
at_address DecrementDeferred i = i
at_address Index i = i
at_address IndexDeferred i = i

-- the words 0000xx
unfoldable pub plain_of : ℕ → Instr
plain_of n =
    if nat_lt 6 n then Illegal
    else (if n == 1 then Wait
    else (if n == 2 then Rti
    else (if n == 3 then SoftTrap Bpt
    else (if n == 4 then SoftTrap Iot
    else (if n == 5 then Wait
    else (if n == 6 then Rti
    else Illegal))))))

-- the words 0002xx
unfoldable pub return_of : ℕ → Instr
return_of n =
    if nat_lt n 0o10 then Rts (reg_of n)
    else (if nat_lt n 0o40 then Illegal
    else Codes (n / 0o20 == 3) (flags_of n))

-- the words 0000xx to 0003xx
unfoldable pub basic_of : ℕ → Instr
basic_of n =
    let row = n / 0o100 % 0o100 in
    let d = operand_of n in
    if row == 0 then plain_of (n % 0o100)
    else (if row == 1 then at_address d.mode (Jmp d)
    else (if row == 2 then return_of (n % 0o100)
    else Swab d))

-- the rows 50 to 63
unfoldable pub single_of : Width → ℕ → Operand → Instr
single_of w row d =
    if row == 0o50 then Clr w d
    else (if row == 0o51 then Com w d
    else (if row == 0o52 then Inc w d
    else (if row == 0o53 then Dec w d
    else (if row == 0o54 then Neg w d
    else (if row == 0o55 then Adc w d
    else (if row == 0o56 then Sbc w d
    else (if row == 0o57 then Tst w d
    else (if row == 0o60 then Ror w d
    else (if row == 0o61 then Rol w d
    else (if row == 0o62 then Asr w d
    else Asl w d))))))))))

-- the words 00xxxx
unfoldable pub low_of : ℕ → Instr
low_of n =
    let row = n / 0o100 % 0o100 in
    let d = operand_of n in
    if nat_lt row 0o4 then basic_of n
    else (if nat_lt row 0o40 then Branch (condition_of (n / 0o400)) (n % 0o400)
    else (if nat_lt row 0o50 then at_address d.mode (Jsr (reg_of (n / 0o100 % 0o10)) d)
    else (if nat_lt row 0o64 then single_of Word row d
    else (if nat_lt 0o67 row then Illegal
    else (if row == 0o64 then Mark (n % 0o100)
    else (if row == 0o67 then Sxt d
    else Illegal))))))

-- the words 07xxxx
unfoldable pub extended_of : ℕ → Instr
extended_of n =
    let block = n / 0o1000 % 0o10 in
    let r = reg_of (n / 0o100 % 0o10) in
    let o = operand_of n in
    if block == 0 then Mul r o
    else (if block == 1 then Div r o
    else (if block == 2 then Ash r o
    else (if block == 3 then Ashc r o
    else (if block == 4 then Xor r o
    else (if block == 7 then Sob r (n % 0o100)
    else Illegal)))))

-- the words 10xxxx
unfoldable pub high_of : ℕ → Instr
high_of n =
    let row = n / 0o100 % 0o100 in
    if nat_lt row 0o40 then Branch (condition_of (n / 0o400)) (n % 0o400)
    else (if nat_lt row 0o44 then Emt
    else (if nat_lt row 0o50 then Sys (n % 0o100)
    else (if nat_lt row 0o64 then single_of Byte row (operand_of n)
    else Illegal)))

unfoldable pub decode_of : ℕ → Instr
decode_of n =
    let top = n / 0o10000 in
    let s = operand_of (n / 0o100) in
    let d = operand_of n in
    if top == 0o00 then low_of n
    else (if top == 0o01 then Mov Word s d
    else (if top == 0o02 then Cmp Word s d
    else (if top == 0o03 then Bit Word s d
    else (if top == 0o04 then Bic Word s d
    else (if top == 0o05 then Bis Word s d
    else (if top == 0o06 then Add s d
    else (if top == 0o07 then extended_of n
    else (if top == 0o10 then high_of n
    else (if top == 0o11 then Mov Byte s d
    else (if top == 0o12 then Cmp Byte s d
    else (if top == 0o13 then Bit Byte s d
    else (if top == 0o14 then Bic Byte s d
    else (if top == 0o15 then Bis Byte s d
    else (if top == 0o16 then Sub s d
    else Illegal))))))))))))))
