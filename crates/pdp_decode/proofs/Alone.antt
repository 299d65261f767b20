-- A word is of one instruction alone: what the table says of an instruction's words makes `decode_of` give that instruction.
use Rattle.std.proofs.Common.{◌≡◌, ◌≢◌, ℕ, ◌+◌, ◌*◌, ◌/◌, ◌%◌, ◌<◌, ◌≤◌, ◌⊎◌, Bool, true, false, inl, inr, refl, sym, arith}
use Rattle.std.proofs.lemmas.Bool.{le-ltb, lt-ltb}
use Rattle.pdp_decode.specs.declared.instr.Width.TheVariants.{Word, Byte}
use Rattle.pdp_decode.specs.declared.instr.Mode.{Mode}
use Rattle.pdp_decode.specs.declared.instr.Mode.TheVariants.{Register, Deferred, Increment, IncrementDeferred, Decrement, DecrementDeferred, Index, IndexDeferred}
use Rattle.pdp_decode.specs.declared.instr.Reg.{Reg}
use Rattle.pdp_decode.specs.declared.instr.Reg.TheVariants.{R0, R1, R2, R3, R4, R5, Sp, Pc}
use Rattle.pdp_decode.specs.declared.instr.Operand.{Operand}
use Rattle.pdp_decode.specs.declared.instr.Flags.{Flags}
use Rattle.pdp_decode.specs.declared.instr.Condition.{Condition}
use Rattle.pdp_decode.specs.declared.instr.Condition.TheVariants.{Always, NotEqual, Equal, GreaterOrEqual, Less, Greater, LessOrEqual, Plus, Minus, Higher, LowerOrSame, OverflowClear, OverflowSet, CarryClear, CarrySet}
use Rattle.pdp_decode.specs.declared.instr.SoftTrap.TheVariants.{Bpt, Iot}
use Rattle.pdp_decode.specs.declared.instr.Instr.{Instr}
use Rattle.pdp_decode.specs.declared.instr.Instr.TheVariants.{Mov, Cmp, Bit, Bic, Bis, Add, Sub, Clr, Com, Inc, Dec, Neg, Adc, Sbc, Tst, Ror, Rol, Asr, Asl, Swab, Sxt, Mul, Div, Ash, Ashc, Xor, Sob, Branch, Jmp, Jsr, Rts, Mark, Rti, Codes, Wait, SoftTrap, Emt, Sys, Illegal}
use Rattle.pdp_decode.specs.Numbers.{mode_code, reg_code, code}
use Rattle.pdp_decode.specs.Table.{IsIn, IsIllegal, IsWordOf}
use Rattle.pdp_decode.specs.Decode.{mode_of, reg_of, operand_of, flags_of, condition_of, at_address, plain_of, return_of, basic_of, single_of, low_of, extended_of, high_of, decode_of}

mode_back : (m : Mode) → mode_of (mode_code m) ≡ m
unfolding mode_of
mode_back Register = refl
mode_back Deferred = refl
mode_back Increment = refl
mode_back IncrementDeferred = refl
mode_back Decrement = refl
mode_back DecrementDeferred = refl
mode_back Index = refl
mode_back IndexDeferred = refl

mode_small : (m : Mode) → mode_code m ≤ 7
mode_small Register = omega arith
mode_small Deferred = omega arith
mode_small Increment = omega arith
mode_small IncrementDeferred = omega arith
mode_small Decrement = omega arith
mode_small DecrementDeferred = omega arith
mode_small Index = omega arith
mode_small IndexDeferred = omega arith

pub reg_back : (r : Reg) → reg_of (reg_code r) ≡ r
unfolding reg_of
reg_back R0 = refl
reg_back R1 = refl
reg_back R2 = refl
reg_back R3 = refl
reg_back R4 = refl
reg_back R5 = refl
reg_back Sp = refl
reg_back Pc = refl

pub reg_small : (r : Reg) → reg_code r ≤ 7
reg_small R0 = omega arith
reg_small R1 = omega arith
reg_small R2 = omega arith
reg_small R3 = omega arith
reg_small R4 = omega arith
reg_small R5 = omega arith
reg_small Sp = omega arith
reg_small Pc = omega arith

pub code_small : (d : Operand) → code d < 0o100
code_small d =
    let m = mode_small d.mode in
    let r = reg_small d.reg in
    omega arith

-- the operand of a number that ends in its code
pub operand_back : (d : Operand) (n k : ℕ) → n ≡ 0o100 * k + code d → operand_of n ≡ d
unfolding operand_of
operand_back d n k is =
    let a = mode_small d.mode in
    let b = reg_small d.reg in
    let m : n / 0o10 % 0o10 ≡ mode_code d.mode = omega arith in
    let r : n % 0o10 ≡ reg_code d.reg = omega arith in
    rw (m, r, mode_back d.mode, reg_back d.reg)

at_address_back : (m : Mode) (i : Instr) → m ≢ Register → at_address m i ≡ i
at_address_back Register i not_register = absurd (not_register refl)
at_address_back Deferred i not_register = refl
at_address_back Increment i not_register = refl
at_address_back IncrementDeferred i not_register = refl
at_address_back Decrement i not_register = refl
at_address_back DecrementDeferred i not_register = refl
at_address_back Index i not_register = refl
at_address_back IndexDeferred i not_register = refl

mov_word : (s d : Operand) (n : ℕ) → IsWordOf (Mov Word s d) n → decode_of n ≡ Mov Word s d
unfolding decode_of
mov_word s d n is =
    let a = code_small s in
    let b = code_small d in
    let t : n / 0o10000 ≡ 0o1 = omega arith in
    rw (t, operand_back s (n / 0o100) 0o1 (omega arith), operand_back d n (0o100 + code s) (omega arith))

mov_byte : (s d : Operand) (n : ℕ) → IsWordOf (Mov Byte s d) n → decode_of n ≡ Mov Byte s d
unfolding decode_of
mov_byte s d n is =
    let a = code_small s in
    let b = code_small d in
    let t : n / 0o10000 ≡ 0o11 = omega arith in
    rw (t, operand_back s (n / 0o100) 0o11 (omega arith), operand_back d n (0o1100 + code s) (omega arith))

cmp_word : (s d : Operand) (n : ℕ) → IsWordOf (Cmp Word s d) n → decode_of n ≡ Cmp Word s d
unfolding decode_of
cmp_word s d n is =
    let a = code_small s in
    let b = code_small d in
    let t : n / 0o10000 ≡ 0o2 = omega arith in
    rw (t, operand_back s (n / 0o100) 0o2 (omega arith), operand_back d n (0o200 + code s) (omega arith))

cmp_byte : (s d : Operand) (n : ℕ) → IsWordOf (Cmp Byte s d) n → decode_of n ≡ Cmp Byte s d
unfolding decode_of
cmp_byte s d n is =
    let a = code_small s in
    let b = code_small d in
    let t : n / 0o10000 ≡ 0o12 = omega arith in
    rw (t, operand_back s (n / 0o100) 0o12 (omega arith), operand_back d n (0o1200 + code s) (omega arith))

bit_word : (s d : Operand) (n : ℕ) → IsWordOf (Bit Word s d) n → decode_of n ≡ Bit Word s d
unfolding decode_of
bit_word s d n is =
    let a = code_small s in
    let b = code_small d in
    let t : n / 0o10000 ≡ 0o3 = omega arith in
    rw (t, operand_back s (n / 0o100) 0o3 (omega arith), operand_back d n (0o300 + code s) (omega arith))

bit_byte : (s d : Operand) (n : ℕ) → IsWordOf (Bit Byte s d) n → decode_of n ≡ Bit Byte s d
unfolding decode_of
bit_byte s d n is =
    let a = code_small s in
    let b = code_small d in
    let t : n / 0o10000 ≡ 0o13 = omega arith in
    rw (t, operand_back s (n / 0o100) 0o13 (omega arith), operand_back d n (0o1300 + code s) (omega arith))

bic_word : (s d : Operand) (n : ℕ) → IsWordOf (Bic Word s d) n → decode_of n ≡ Bic Word s d
unfolding decode_of
bic_word s d n is =
    let a = code_small s in
    let b = code_small d in
    let t : n / 0o10000 ≡ 0o4 = omega arith in
    rw (t, operand_back s (n / 0o100) 0o4 (omega arith), operand_back d n (0o400 + code s) (omega arith))

bic_byte : (s d : Operand) (n : ℕ) → IsWordOf (Bic Byte s d) n → decode_of n ≡ Bic Byte s d
unfolding decode_of
bic_byte s d n is =
    let a = code_small s in
    let b = code_small d in
    let t : n / 0o10000 ≡ 0o14 = omega arith in
    rw (t, operand_back s (n / 0o100) 0o14 (omega arith), operand_back d n (0o1400 + code s) (omega arith))

bis_word : (s d : Operand) (n : ℕ) → IsWordOf (Bis Word s d) n → decode_of n ≡ Bis Word s d
unfolding decode_of
bis_word s d n is =
    let a = code_small s in
    let b = code_small d in
    let t : n / 0o10000 ≡ 0o5 = omega arith in
    rw (t, operand_back s (n / 0o100) 0o5 (omega arith), operand_back d n (0o500 + code s) (omega arith))

bis_byte : (s d : Operand) (n : ℕ) → IsWordOf (Bis Byte s d) n → decode_of n ≡ Bis Byte s d
unfolding decode_of
bis_byte s d n is =
    let a = code_small s in
    let b = code_small d in
    let t : n / 0o10000 ≡ 0o15 = omega arith in
    rw (t, operand_back s (n / 0o100) 0o15 (omega arith), operand_back d n (0o1500 + code s) (omega arith))

add_back : (s d : Operand) (n : ℕ) → IsWordOf (Add s d) n → decode_of n ≡ Add s d
unfolding decode_of
add_back s d n is =
    let a = code_small s in
    let b = code_small d in
    let t : n / 0o10000 ≡ 0o6 = omega arith in
    rw (t, operand_back s (n / 0o100) 0o6 (omega arith), operand_back d n (0o600 + code s) (omega arith))

sub_back : (s d : Operand) (n : ℕ) → IsWordOf (Sub s d) n → decode_of n ≡ Sub s d
unfolding decode_of
sub_back s d n is =
    let a = code_small s in
    let b = code_small d in
    let t : n / 0o10000 ≡ 0o16 = omega arith in
    rw (t, operand_back s (n / 0o100) 0o16 (omega arith), operand_back d n (0o1600 + code s) (omega arith))

-- the rows 50 to 63, in words and in bytes
single_word : (d : Operand) (row n : ℕ) → 0o50 ≤ row → row ≤ 0o63 → n ≡ 0o100 * row + code d → decode_of n ≡ single_of Word row d
unfolding decode_of low_of
single_word d row n low high is =
    let b = code_small d in
    let t : n / 0o10000 ≡ 0 = omega arith in
    let r : n / 0o100 % 0o100 ≡ row = omega arith in
    rw (t, r, le-ltb row 0o4 (omega arith), le-ltb row 0o40 (omega arith), le-ltb row 0o50 (omega arith), lt-ltb row 0o64 (omega arith), operand_back d n row is)

single_byte : (d : Operand) (row n : ℕ) → 0o50 ≤ row → row ≤ 0o63 → n ≡ 0o100000 + 0o100 * row + code d → decode_of n ≡ single_of Byte row d
unfolding decode_of high_of
single_byte d row n low high is =
    let b = code_small d in
    let t : n / 0o10000 ≡ 0o10 = omega arith in
    let r : n / 0o100 % 0o100 ≡ row = omega arith in
    rw (t, r, le-ltb row 0o40 (omega arith), le-ltb row 0o44 (omega arith), le-ltb row 0o50 (omega arith), lt-ltb row 0o64 (omega arith), operand_back d n (0o1000 + row) (omega arith))

clr_word : (d : Operand) (n : ℕ) → IsWordOf (Clr Word d) n → decode_of n ≡ Clr Word d
unfolding single_of
clr_word d n is = single_word d 0o50 n (omega arith) (omega arith) (omega arith)

clr_byte : (d : Operand) (n : ℕ) → IsWordOf (Clr Byte d) n → decode_of n ≡ Clr Byte d
unfolding single_of
clr_byte d n is = single_byte d 0o50 n (omega arith) (omega arith) (omega arith)

com_word : (d : Operand) (n : ℕ) → IsWordOf (Com Word d) n → decode_of n ≡ Com Word d
unfolding single_of
com_word d n is = single_word d 0o51 n (omega arith) (omega arith) (omega arith)

com_byte : (d : Operand) (n : ℕ) → IsWordOf (Com Byte d) n → decode_of n ≡ Com Byte d
unfolding single_of
com_byte d n is = single_byte d 0o51 n (omega arith) (omega arith) (omega arith)

inc_word : (d : Operand) (n : ℕ) → IsWordOf (Inc Word d) n → decode_of n ≡ Inc Word d
unfolding single_of
inc_word d n is = single_word d 0o52 n (omega arith) (omega arith) (omega arith)

inc_byte : (d : Operand) (n : ℕ) → IsWordOf (Inc Byte d) n → decode_of n ≡ Inc Byte d
unfolding single_of
inc_byte d n is = single_byte d 0o52 n (omega arith) (omega arith) (omega arith)

dec_word : (d : Operand) (n : ℕ) → IsWordOf (Dec Word d) n → decode_of n ≡ Dec Word d
unfolding single_of
dec_word d n is = single_word d 0o53 n (omega arith) (omega arith) (omega arith)

dec_byte : (d : Operand) (n : ℕ) → IsWordOf (Dec Byte d) n → decode_of n ≡ Dec Byte d
unfolding single_of
dec_byte d n is = single_byte d 0o53 n (omega arith) (omega arith) (omega arith)

neg_word : (d : Operand) (n : ℕ) → IsWordOf (Neg Word d) n → decode_of n ≡ Neg Word d
unfolding single_of
neg_word d n is = single_word d 0o54 n (omega arith) (omega arith) (omega arith)

neg_byte : (d : Operand) (n : ℕ) → IsWordOf (Neg Byte d) n → decode_of n ≡ Neg Byte d
unfolding single_of
neg_byte d n is = single_byte d 0o54 n (omega arith) (omega arith) (omega arith)

adc_word : (d : Operand) (n : ℕ) → IsWordOf (Adc Word d) n → decode_of n ≡ Adc Word d
unfolding single_of
adc_word d n is = single_word d 0o55 n (omega arith) (omega arith) (omega arith)

adc_byte : (d : Operand) (n : ℕ) → IsWordOf (Adc Byte d) n → decode_of n ≡ Adc Byte d
unfolding single_of
adc_byte d n is = single_byte d 0o55 n (omega arith) (omega arith) (omega arith)

sbc_word : (d : Operand) (n : ℕ) → IsWordOf (Sbc Word d) n → decode_of n ≡ Sbc Word d
unfolding single_of
sbc_word d n is = single_word d 0o56 n (omega arith) (omega arith) (omega arith)

sbc_byte : (d : Operand) (n : ℕ) → IsWordOf (Sbc Byte d) n → decode_of n ≡ Sbc Byte d
unfolding single_of
sbc_byte d n is = single_byte d 0o56 n (omega arith) (omega arith) (omega arith)

tst_word : (d : Operand) (n : ℕ) → IsWordOf (Tst Word d) n → decode_of n ≡ Tst Word d
unfolding single_of
tst_word d n is = single_word d 0o57 n (omega arith) (omega arith) (omega arith)

tst_byte : (d : Operand) (n : ℕ) → IsWordOf (Tst Byte d) n → decode_of n ≡ Tst Byte d
unfolding single_of
tst_byte d n is = single_byte d 0o57 n (omega arith) (omega arith) (omega arith)

ror_word : (d : Operand) (n : ℕ) → IsWordOf (Ror Word d) n → decode_of n ≡ Ror Word d
unfolding single_of
ror_word d n is = single_word d 0o60 n (omega arith) (omega arith) (omega arith)

ror_byte : (d : Operand) (n : ℕ) → IsWordOf (Ror Byte d) n → decode_of n ≡ Ror Byte d
unfolding single_of
ror_byte d n is = single_byte d 0o60 n (omega arith) (omega arith) (omega arith)

rol_word : (d : Operand) (n : ℕ) → IsWordOf (Rol Word d) n → decode_of n ≡ Rol Word d
unfolding single_of
rol_word d n is = single_word d 0o61 n (omega arith) (omega arith) (omega arith)

rol_byte : (d : Operand) (n : ℕ) → IsWordOf (Rol Byte d) n → decode_of n ≡ Rol Byte d
unfolding single_of
rol_byte d n is = single_byte d 0o61 n (omega arith) (omega arith) (omega arith)

asr_word : (d : Operand) (n : ℕ) → IsWordOf (Asr Word d) n → decode_of n ≡ Asr Word d
unfolding single_of
asr_word d n is = single_word d 0o62 n (omega arith) (omega arith) (omega arith)

asr_byte : (d : Operand) (n : ℕ) → IsWordOf (Asr Byte d) n → decode_of n ≡ Asr Byte d
unfolding single_of
asr_byte d n is = single_byte d 0o62 n (omega arith) (omega arith) (omega arith)

asl_word : (d : Operand) (n : ℕ) → IsWordOf (Asl Word d) n → decode_of n ≡ Asl Word d
unfolding single_of
asl_word d n is = single_word d 0o63 n (omega arith) (omega arith) (omega arith)

asl_byte : (d : Operand) (n : ℕ) → IsWordOf (Asl Byte d) n → decode_of n ≡ Asl Byte d
unfolding single_of
asl_byte d n is = single_byte d 0o63 n (omega arith) (omega arith) (omega arith)

swab_back : (d : Operand) (n : ℕ) → IsWordOf (Swab d) n → decode_of n ≡ Swab d
unfolding decode_of low_of basic_of
swab_back d n is =
    let b = code_small d in
    let t : n / 0o10000 ≡ 0 = omega arith in
    let r : n / 0o100 % 0o100 ≡ 3 = omega arith in
    rw (t, r, operand_back d n 3 (omega arith))

sxt_back : (d : Operand) (n : ℕ) → IsWordOf (Sxt d) n → decode_of n ≡ Sxt d
unfolding decode_of low_of
sxt_back d n is =
    let b = code_small d in
    let t : n / 0o10000 ≡ 0 = omega arith in
    let r : n / 0o100 % 0o100 ≡ 0o67 = omega arith in
    rw (t, r, operand_back d n 0o67 (omega arith))

jmp_back : (d : Operand) (n : ℕ) → IsWordOf (Jmp d) n → decode_of n ≡ Jmp d
unfolding decode_of low_of basic_of
jmp_back d n is =
    let b = code_small d in
    let word = is.0 in
    let t : n / 0o10000 ≡ 0 = omega arith in
    let r : n / 0o100 % 0o100 ≡ 1 = omega arith in
    rw (t, r, operand_back d n 1 (omega arith), at_address_back d.mode (Jmp d) is.1)

jsr_back : (r : Reg) (d : Operand) (n : ℕ) → IsWordOf (Jsr r d) n → decode_of n ≡ Jsr r d
unfolding decode_of low_of
jsr_back r d n is =
    let a = reg_small r in
    let b = code_small d in
    let word = is.0 in
    let t : n / 0o10000 ≡ 0 = omega arith in
    let w : n / 0o100 % 0o100 ≡ 0o40 + reg_code r = omega arith in
    let g : n / 0o100 % 0o10 ≡ reg_code r = omega arith in
    rw (t, w, g, le-ltb (0o40 + reg_code r) 0o4 (omega arith), le-ltb (0o40 + reg_code r) 0o40 (omega arith), lt-ltb (0o40 + reg_code r) 0o50 (omega arith), operand_back d n (0o40 + reg_code r) (omega arith), reg_back r, at_address_back d.mode (Jsr r d) is.1)

rts_back : (r : Reg) (n : ℕ) → IsWordOf (Rts r) n → decode_of n ≡ Rts r
unfolding decode_of low_of basic_of return_of
rts_back r n is =
    let a = reg_small r in
    let t : n / 0o10000 ≡ 0 = omega arith in
    let w : n / 0o100 % 0o100 ≡ 2 = omega arith in
    let g : n % 0o100 ≡ reg_code r = omega arith in
    rw (t, w, g, lt-ltb (reg_code r) 0o10 (omega arith), reg_back r)

mark_back : (k n : ℕ) → IsWordOf (Mark k) n → decode_of n ≡ Mark k
unfolding decode_of low_of
mark_back k n is =
    let word = is.0 in
    let small = is.1 in
    let t : n / 0o10000 ≡ 0 = omega arith in
    let w : n / 0o100 % 0o100 ≡ 0o64 = omega arith in
    let g : n % 0o100 ≡ k = omega arith in
    rw (t, w, g)

codes_by : (set n z v c : Bool) (word : ℕ) → IsWordOf (Codes set (record { n = n; z = z; v = v; c = c })) word → decode_of word ≡ Codes set (record { n = n; z = z; v = v; c = c })
unfolding decode_of low_of basic_of return_of flags_of
codes_by true true true true true word is = rw is
codes_by true true true true false word is = rw is
codes_by true true true false true word is = rw is
codes_by true true true false false word is = rw is
codes_by true true false true true word is = rw is
codes_by true true false true false word is = rw is
codes_by true true false false true word is = rw is
codes_by true true false false false word is = rw is
codes_by true false true true true word is = rw is
codes_by true false true true false word is = rw is
codes_by true false true false true word is = rw is
codes_by true false true false false word is = rw is
codes_by true false false true true word is = rw is
codes_by true false false true false word is = rw is
codes_by true false false false true word is = rw is
codes_by true false false false false word is = rw is
codes_by false true true true true word is = rw is
codes_by false true true true false word is = rw is
codes_by false true true false true word is = rw is
codes_by false true true false false word is = rw is
codes_by false true false true true word is = rw is
codes_by false true false true false word is = rw is
codes_by false true false false true word is = rw is
codes_by false true false false false word is = rw is
codes_by false false true true true word is = rw is
codes_by false false true true false word is = rw is
codes_by false false true false true word is = rw is
codes_by false false true false false word is = rw is
codes_by false false false true true word is = rw is
codes_by false false false true false word is = rw is
codes_by false false false false true word is = rw is
codes_by false false false false false word is = rw is

codes_back : (set : Bool) (f : Flags) (n : ℕ) → IsWordOf (Codes set f) n → decode_of n ≡ Codes set f
codes_back set f n is = codes_by set f.n f.z f.v f.c n is

mul_back : (r : Reg) (o : Operand) (n : ℕ) → IsWordOf (Mul r o) n → decode_of n ≡ Mul r o
unfolding decode_of extended_of
mul_back r o n is =
    let a = reg_small r in
    let b = code_small o in
    let t : n / 0o10000 ≡ 7 = omega arith in
    let w : n / 0o1000 % 0o10 ≡ 0 = omega arith in
    let g : n / 0o100 % 0o10 ≡ reg_code r = omega arith in
    rw (t, w, g, reg_back r, operand_back o n (0o700 + reg_code r) (omega arith))

div_back : (r : Reg) (o : Operand) (n : ℕ) → IsWordOf (Div r o) n → decode_of n ≡ Div r o
unfolding decode_of extended_of
div_back r o n is =
    let a = reg_small r in
    let b = code_small o in
    let t : n / 0o10000 ≡ 7 = omega arith in
    let w : n / 0o1000 % 0o10 ≡ 1 = omega arith in
    let g : n / 0o100 % 0o10 ≡ reg_code r = omega arith in
    rw (t, w, g, reg_back r, operand_back o n (0o710 + reg_code r) (omega arith))

ash_back : (r : Reg) (o : Operand) (n : ℕ) → IsWordOf (Ash r o) n → decode_of n ≡ Ash r o
unfolding decode_of extended_of
ash_back r o n is =
    let a = reg_small r in
    let b = code_small o in
    let t : n / 0o10000 ≡ 7 = omega arith in
    let w : n / 0o1000 % 0o10 ≡ 2 = omega arith in
    let g : n / 0o100 % 0o10 ≡ reg_code r = omega arith in
    rw (t, w, g, reg_back r, operand_back o n (0o720 + reg_code r) (omega arith))

ashc_back : (r : Reg) (o : Operand) (n : ℕ) → IsWordOf (Ashc r o) n → decode_of n ≡ Ashc r o
unfolding decode_of extended_of
ashc_back r o n is =
    let a = reg_small r in
    let b = code_small o in
    let t : n / 0o10000 ≡ 7 = omega arith in
    let w : n / 0o1000 % 0o10 ≡ 3 = omega arith in
    let g : n / 0o100 % 0o10 ≡ reg_code r = omega arith in
    rw (t, w, g, reg_back r, operand_back o n (0o730 + reg_code r) (omega arith))

xor_back : (r : Reg) (o : Operand) (n : ℕ) → IsWordOf (Xor r o) n → decode_of n ≡ Xor r o
unfolding decode_of extended_of
xor_back r o n is =
    let a = reg_small r in
    let b = code_small o in
    let t : n / 0o10000 ≡ 7 = omega arith in
    let w : n / 0o1000 % 0o10 ≡ 4 = omega arith in
    let g : n / 0o100 % 0o10 ≡ reg_code r = omega arith in
    rw (t, w, g, reg_back r, operand_back o n (0o740 + reg_code r) (omega arith))

sob_back : (r : Reg) (k n : ℕ) → IsWordOf (Sob r k) n → decode_of n ≡ Sob r k
unfolding decode_of extended_of
sob_back r k n is =
    let a = reg_small r in
    let word = is.0 in
    let small = is.1 in
    let t : n / 0o10000 ≡ 7 = omega arith in
    let w : n / 0o1000 % 0o10 ≡ 7 = omega arith in
    let g : n / 0o100 % 0o10 ≡ reg_code r = omega arith in
    let o : n % 0o100 ≡ k = omega arith in
    rw (t, w, g, o, reg_back r)

-- the branches, by the high byte
branch_low : (k off n : ℕ) → 1 ≤ k → k ≤ 7 → n ≡ 0o400 * k + off → off < 0o400 → decode_of n ≡ Branch (condition_of k) off
unfolding decode_of low_of
branch_low k off n low high is small =
    let t : n / 0o10000 ≡ 0 = omega arith in
    let a : 0o4 ≤ n / 0o100 % 0o100 = omega arith in
    let b : n / 0o100 % 0o100 < 0o40 = omega arith in
    let c : n / 0o400 ≡ k = omega arith in
    let d : n % 0o400 ≡ off = omega arith in
    rw (t, le-ltb (n / 0o100 % 0o100) 0o4 a, lt-ltb (n / 0o100 % 0o100) 0o40 b, c, d)

branch_high : (k off n : ℕ) → 0o200 ≤ k → k ≤ 0o207 → n ≡ 0o400 * k + off → off < 0o400 → decode_of n ≡ Branch (condition_of k) off
unfolding decode_of high_of
branch_high k off n low high is small =
    let t : n / 0o10000 ≡ 0o10 = omega arith in
    let b : n / 0o100 % 0o100 < 0o40 = omega arith in
    let c : n / 0o400 ≡ k = omega arith in
    let d : n % 0o400 ≡ off = omega arith in
    rw (t, lt-ltb (n / 0o100 % 0o100) 0o40 b, c, d)

branch_back : (t : Condition) (off n : ℕ) → IsWordOf (Branch t off) n → decode_of n ≡ Branch t off
unfolding condition_of
branch_back Always off n is = branch_low 0o1 off n (omega arith) (omega arith) is.0 is.1
branch_back NotEqual off n is = branch_low 0o2 off n (omega arith) (omega arith) is.0 is.1
branch_back Equal off n is = branch_low 0o3 off n (omega arith) (omega arith) is.0 is.1
branch_back GreaterOrEqual off n is = branch_low 0o4 off n (omega arith) (omega arith) is.0 is.1
branch_back Less off n is = branch_low 0o5 off n (omega arith) (omega arith) is.0 is.1
branch_back Greater off n is = branch_low 0o6 off n (omega arith) (omega arith) is.0 is.1
branch_back LessOrEqual off n is = branch_low 0o7 off n (omega arith) (omega arith) is.0 is.1
branch_back Plus off n is = branch_high 0o200 off n (omega arith) (omega arith) is.0 is.1
branch_back Minus off n is = branch_high 0o201 off n (omega arith) (omega arith) is.0 is.1
branch_back Higher off n is = branch_high 0o202 off n (omega arith) (omega arith) is.0 is.1
branch_back LowerOrSame off n is = branch_high 0o203 off n (omega arith) (omega arith) is.0 is.1
branch_back OverflowClear off n is = branch_high 0o204 off n (omega arith) (omega arith) is.0 is.1
branch_back OverflowSet off n is = branch_high 0o205 off n (omega arith) (omega arith) is.0 is.1
branch_back CarryClear off n is = branch_high 0o206 off n (omega arith) (omega arith) is.0 is.1
branch_back CarrySet off n is = branch_high 0o207 off n (omega arith) (omega arith) is.0 is.1

emt_back : (n : ℕ) → IsWordOf Emt n → decode_of n ≡ Emt
unfolding decode_of high_of
emt_back n is =
    let t : n / 0o10000 ≡ 0o10 = omega arith in
    let a : 0o40 ≤ n / 0o100 % 0o100 = omega arith in
    let b : n / 0o100 % 0o100 < 0o44 = omega arith in
    rw (t, le-ltb (n / 0o100 % 0o100) 0o40 a, lt-ltb (n / 0o100 % 0o100) 0o44 b)

sys_back : (k n : ℕ) → IsWordOf (Sys k) n → decode_of n ≡ Sys k
unfolding decode_of high_of
sys_back k n is =
    let range = is.0 in
    let t : n / 0o10000 ≡ 0o10 = omega arith in
    let a : 0o40 ≤ n / 0o100 % 0o100 = omega arith in
    let b : 0o44 ≤ n / 0o100 % 0o100 = omega arith in
    let c : n / 0o100 % 0o100 < 0o50 = omega arith in
    rw (t, le-ltb (n / 0o100 % 0o100) 0o40 a, le-ltb (n / 0o100 % 0o100) 0o44 b, lt-ltb (n / 0o100 % 0o100) 0o50 c, is.1)

plain_back : (n : ℕ) → IsIn 0o7 0o77 n → decode_of n ≡ Illegal
unfolding decode_of low_of basic_of plain_of
plain_back n is =
    let t : n / 0o10000 ≡ 0 = omega arith in
    let w : n / 0o100 % 0o100 ≡ 0 = omega arith in
    let x : n % 0o100 ≡ n = omega arith in
    rw (t, w, x, lt-ltb 6 n (omega arith))

jmp_register : (n : ℕ) → IsIn 0o100 0o107 n → decode_of n ≡ Illegal
unfolding decode_of low_of basic_of operand_of mode_of
jmp_register n is =
    let t : n / 0o10000 ≡ 0 = omega arith in
    let w : n / 0o100 % 0o100 ≡ 1 = omega arith in
    let m : n / 0o10 % 0o10 ≡ 0 = omega arith in
    rw (t, w, m)

between_back : (n : ℕ) → IsIn 0o210 0o237 n → decode_of n ≡ Illegal
unfolding decode_of low_of basic_of return_of
between_back n is =
    let t : n / 0o10000 ≡ 0 = omega arith in
    let w : n / 0o100 % 0o100 ≡ 2 = omega arith in
    let a : 0o10 ≤ n % 0o100 = omega arith in
    let b : n % 0o100 < 0o40 = omega arith in
    rw (t, w, le-ltb (n % 0o100) 0o10 a, lt-ltb (n % 0o100) 0o40 b)

jsr_register : (n : ℕ) → IsIn 0o4000 0o4777 n × (n % 0o100 < 0o10) → decode_of n ≡ Illegal
unfolding decode_of low_of operand_of mode_of
jsr_register n is =
    let range = is.0 in
    let ends = is.1 in
    let t : n / 0o10000 ≡ 0 = omega arith in
    let a : 0o40 ≤ n / 0o100 % 0o100 = omega arith in
    let b : n / 0o100 % 0o100 < 0o50 = omega arith in
    let m : n / 0o10 % 0o10 ≡ 0 = omega arith in
    rw (t, le-ltb (n / 0o100 % 0o100) 0o4 (omega arith), le-ltb (n / 0o100 % 0o100) 0o40 a, lt-ltb (n / 0o100 % 0o100) 0o50 b, m)

row_illegal : (row n : ℕ) → n / 0o100 ≡ row → (row ≡ 0o65) ⊎ (row ≡ 0o66) → decode_of n ≡ Illegal
unfolding decode_of low_of
row_illegal row n is (inl five) =
    let t : n / 0o10000 ≡ 0 = omega arith in
    let w : n / 0o100 % 0o100 ≡ 0o65 = omega arith in
    rw (t, w)
row_illegal row n is (inr six) =
    let t : n / 0o10000 ≡ 0 = omega arith in
    let w : n / 0o100 % 0o100 ≡ 0o66 = omega arith in
    rw (t, w)

seven_illegal : (n : ℕ) → IsIn 0o7000 0o7777 n → decode_of n ≡ Illegal
unfolding decode_of low_of
seven_illegal n is =
    let t : n / 0o10000 ≡ 0 = omega arith in
    let a : 0o70 ≤ n / 0o100 % 0o100 = omega arith in
    rw (t, le-ltb (n / 0o100 % 0o100) 0o4 (omega arith), le-ltb (n / 0o100 % 0o100) 0o40 (omega arith), le-ltb (n / 0o100 % 0o100) 0o50 (omega arith), le-ltb (n / 0o100 % 0o100) 0o64 (omega arith), lt-ltb 0o67 (n / 0o100 % 0o100) (omega arith))

extended_five : (n : ℕ) → IsIn 0o075000 0o075777 n → decode_of n ≡ Illegal
unfolding decode_of extended_of
extended_five n is =
    let t : n / 0o10000 ≡ 7 = omega arith in
    let w : n / 0o1000 % 0o10 ≡ 5 = omega arith in
    rw (t, w)

extended_six : (n : ℕ) → IsIn 0o076000 0o076777 n → decode_of n ≡ Illegal
unfolding decode_of extended_of
extended_six n is =
    let t : n / 0o10000 ≡ 7 = omega arith in
    let w : n / 0o1000 % 0o10 ≡ 6 = omega arith in
    rw (t, w)

high_illegal : (n : ℕ) → IsIn 0o106400 0o107777 n → decode_of n ≡ Illegal
unfolding decode_of high_of
high_illegal n is =
    let t : n / 0o10000 ≡ 0o10 = omega arith in
    let a : 0o64 ≤ n / 0o100 % 0o100 = omega arith in
    rw (t, le-ltb (n / 0o100 % 0o100) 0o40 (omega arith), le-ltb (n / 0o100 % 0o100) 0o44 (omega arith), le-ltb (n / 0o100 % 0o100) 0o50 (omega arith), le-ltb (n / 0o100 % 0o100) 0o64 a)

top_illegal : (n : ℕ) → IsIn 0o170000 0o177777 n → decode_of n ≡ Illegal
unfolding decode_of
top_illegal n is =
    let t : n / 0o10000 ≡ 0o17 = omega arith in
    rw t

halt_back : (n : ℕ) → n ≡ 0 → decode_of n ≡ Illegal
unfolding decode_of low_of basic_of plain_of
halt_back n is = rw is

illegal_back : (n : ℕ) → IsIllegal n → decode_of n ≡ Illegal
illegal_back n (inl is) = halt_back n is
illegal_back n (inr (inl is)) = plain_back n is
illegal_back n (inr (inr (inl is))) = jmp_register n is
illegal_back n (inr (inr (inr (inl is)))) = between_back n is
illegal_back n (inr (inr (inr (inr (inl is))))) = jsr_register n is
illegal_back n (inr (inr (inr (inr (inr (inl is)))))) = row_illegal 0o65 n (omega arith) (inl refl)
illegal_back n (inr (inr (inr (inr (inr (inr (inl is))))))) = row_illegal 0o66 n (omega arith) (inr refl)
illegal_back n (inr (inr (inr (inr (inr (inr (inr (inl is)))))))) = seven_illegal n is
illegal_back n (inr (inr (inr (inr (inr (inr (inr (inr (inl is))))))))) = extended_five n is
illegal_back n (inr (inr (inr (inr (inr (inr (inr (inr (inr (inl is)))))))))) = extended_six n is
illegal_back n (inr (inr (inr (inr (inr (inr (inr (inr (inr (inr (inl is))))))))))) = high_illegal n is
illegal_back n (inr (inr (inr (inr (inr (inr (inr (inr (inr (inr (inr is))))))))))) = top_illegal n is

rti_back : (n : ℕ) → IsWordOf Rti n → decode_of n ≡ Rti
unfolding decode_of low_of basic_of plain_of
rti_back n (inl is) = rw is
rti_back n (inr is) = rw is

wait_back : (n : ℕ) → IsWordOf Wait n → decode_of n ≡ Wait
unfolding decode_of low_of basic_of plain_of
wait_back n (inl is) = rw is
wait_back n (inr is) = rw is

bpt_back : (n : ℕ) → n ≡ 3 → decode_of n ≡ SoftTrap Bpt
unfolding decode_of low_of basic_of plain_of
bpt_back n is = rw is

iot_back : (n : ℕ) → n ≡ 4 → decode_of n ≡ SoftTrap Iot
unfolding decode_of low_of basic_of plain_of
iot_back n is = rw is

pub word_alone : (i : Instr) (n : ℕ) → IsWordOf i n → i ≡ decode_of n
word_alone (Mov Word s d) n is = sym (mov_word s d n is)
word_alone (Mov Byte s d) n is = sym (mov_byte s d n is)
word_alone (Cmp Word s d) n is = sym (cmp_word s d n is)
word_alone (Cmp Byte s d) n is = sym (cmp_byte s d n is)
word_alone (Bit Word s d) n is = sym (bit_word s d n is)
word_alone (Bit Byte s d) n is = sym (bit_byte s d n is)
word_alone (Bic Word s d) n is = sym (bic_word s d n is)
word_alone (Bic Byte s d) n is = sym (bic_byte s d n is)
word_alone (Bis Word s d) n is = sym (bis_word s d n is)
word_alone (Bis Byte s d) n is = sym (bis_byte s d n is)
word_alone (Add s d) n is = sym (add_back s d n is)
word_alone (Sub s d) n is = sym (sub_back s d n is)
word_alone (Clr Word d) n is = sym (clr_word d n is)
word_alone (Clr Byte d) n is = sym (clr_byte d n is)
word_alone (Com Word d) n is = sym (com_word d n is)
word_alone (Com Byte d) n is = sym (com_byte d n is)
word_alone (Inc Word d) n is = sym (inc_word d n is)
word_alone (Inc Byte d) n is = sym (inc_byte d n is)
word_alone (Dec Word d) n is = sym (dec_word d n is)
word_alone (Dec Byte d) n is = sym (dec_byte d n is)
word_alone (Neg Word d) n is = sym (neg_word d n is)
word_alone (Neg Byte d) n is = sym (neg_byte d n is)
word_alone (Adc Word d) n is = sym (adc_word d n is)
word_alone (Adc Byte d) n is = sym (adc_byte d n is)
word_alone (Sbc Word d) n is = sym (sbc_word d n is)
word_alone (Sbc Byte d) n is = sym (sbc_byte d n is)
word_alone (Tst Word d) n is = sym (tst_word d n is)
word_alone (Tst Byte d) n is = sym (tst_byte d n is)
word_alone (Ror Word d) n is = sym (ror_word d n is)
word_alone (Ror Byte d) n is = sym (ror_byte d n is)
word_alone (Rol Word d) n is = sym (rol_word d n is)
word_alone (Rol Byte d) n is = sym (rol_byte d n is)
word_alone (Asr Word d) n is = sym (asr_word d n is)
word_alone (Asr Byte d) n is = sym (asr_byte d n is)
word_alone (Asl Word d) n is = sym (asl_word d n is)
word_alone (Asl Byte d) n is = sym (asl_byte d n is)
word_alone (Swab d) n is = sym (swab_back d n is)
word_alone (Sxt d) n is = sym (sxt_back d n is)
word_alone (Mul r s) n is = sym (mul_back r s n is)
word_alone (Div r s) n is = sym (div_back r s n is)
word_alone (Ash r s) n is = sym (ash_back r s n is)
word_alone (Ashc r s) n is = sym (ashc_back r s n is)
word_alone (Xor r d) n is = sym (xor_back r d n is)
word_alone (Sob r k) n is = sym (sob_back r k n is)
word_alone (Branch t off) n is = sym (branch_back t off n is)
word_alone (Jmp d) n is = sym (jmp_back d n is)
word_alone (Jsr r d) n is = sym (jsr_back r d n is)
word_alone (Rts r) n is = sym (rts_back r n is)
word_alone (Mark k) n is = sym (mark_back k n is)
word_alone Rti n is = sym (rti_back n is)
word_alone (Codes set f) n is = sym (codes_back set f n is)
word_alone Wait n is = sym (wait_back n is)
word_alone (SoftTrap Bpt) n is = sym (bpt_back n is)
word_alone (SoftTrap Iot) n is = sym (iot_back n is)
word_alone Emt n is = sym (emt_back n is)
word_alone (Sys k) n is = sym (sys_back k n is)
word_alone Illegal n is = sym (illegal_back n is)
