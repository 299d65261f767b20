-- Which words an instruction has, in octal, a line a row, in the order of docs/manual/instructions.md: PDP-11/40 Processor
-- Handbook, chapter 4. Illegal here, in user mode: HALT, JMP and JSR to a register, MFPI, MTPI, both floating-point options,
-- and what the handbook leaves unused.
use Rattle.std.specs.Prelude.{◌≡◌, ◌≢◌, ℕ, ◌+◌, ◌*◌, ◌%◌, ◌<◌, ◌≤◌, ◌⊎◌}
use Rattle.pdp_decode.specs.declared.instr.Mode.TheVariants.{Register}
use Rattle.pdp_decode.specs.declared.instr.SoftTrap.TheVariants.{Bpt, Iot}
use Rattle.pdp_decode.specs.declared.instr.Instr.{Instr}
use Rattle.pdp_decode.specs.declared.instr.Instr.TheVariants.{Mov, Cmp, Bit, Bic, Bis, Add, Sub, Clr, Com, Inc, Dec, Neg, Adc, Sbc, Tst, Ror, Rol, Asr, Asl, Swab, Sxt, Mul, Div, Ash, Ashc, Xor, Sob, Branch, Jmp, Jsr, Rts, Mark, Rti, Codes, Wait, SoftTrap, Emt, Sys, Illegal}
use Rattle.pdp_decode.specs.Numbers.{reg_code, code, byte_bit, one_if, flag_bits, branch_code}

-- from the first to the last
abbrev pub IsIn : ℕ → ℕ → ℕ → Type 0
IsIn first last n = (first ≤ n) × (n ≤ last)

abbrev pub IsIllegal : ℕ → Type 0
IsIllegal n =
    (n ≡ 0o000000)
    ⊎ (IsIn 0o000007 0o000077 n
    ⊎ (IsIn 0o000100 0o000107 n  -- JMP to a register
    ⊎ (IsIn 0o000210 0o000237 n
    ⊎ ((IsIn 0o004000 0o004777 n × (n % 0o100 < 0o10))  -- JSR to a register
    ⊎ (IsIn 0o006500 0o006577 n
    ⊎ (IsIn 0o006600 0o006677 n
    ⊎ (IsIn 0o007000 0o007777 n
    ⊎ (IsIn 0o075000 0o075777 n
    ⊎ (IsIn 0o076000 0o076777 n
    ⊎ (IsIn 0o106400 0o107777 n
    ⊎ IsIn 0o170000 0o177777 n))))))))))

abbrev pub IsWordOf : Instr → ℕ → Type 0
IsWordOf (Mov w s d) word = word ≡ byte_bit w + 0o010000 + 0o100 * code s + code d
IsWordOf (Cmp w s d) word = word ≡ byte_bit w + 0o020000 + 0o100 * code s + code d
IsWordOf (Bit w s d) word = word ≡ byte_bit w + 0o030000 + 0o100 * code s + code d
IsWordOf (Bic w s d) word = word ≡ byte_bit w + 0o040000 + 0o100 * code s + code d
IsWordOf (Bis w s d) word = word ≡ byte_bit w + 0o050000 + 0o100 * code s + code d
IsWordOf (Add s d) word = word ≡ 0o060000 + 0o100 * code s + code d
IsWordOf (Sub s d) word = word ≡ 0o160000 + 0o100 * code s + code d
IsWordOf (Clr w d) word = word ≡ byte_bit w + 0o005000 + code d
IsWordOf (Com w d) word = word ≡ byte_bit w + 0o005100 + code d
IsWordOf (Inc w d) word = word ≡ byte_bit w + 0o005200 + code d
IsWordOf (Dec w d) word = word ≡ byte_bit w + 0o005300 + code d
IsWordOf (Neg w d) word = word ≡ byte_bit w + 0o005400 + code d
IsWordOf (Adc w d) word = word ≡ byte_bit w + 0o005500 + code d
IsWordOf (Sbc w d) word = word ≡ byte_bit w + 0o005600 + code d
IsWordOf (Tst w d) word = word ≡ byte_bit w + 0o005700 + code d
IsWordOf (Ror w d) word = word ≡ byte_bit w + 0o006000 + code d
IsWordOf (Rol w d) word = word ≡ byte_bit w + 0o006100 + code d
IsWordOf (Asr w d) word = word ≡ byte_bit w + 0o006200 + code d
IsWordOf (Asl w d) word = word ≡ byte_bit w + 0o006300 + code d
IsWordOf (Swab d) word = word ≡ 0o000300 + code d
IsWordOf (Sxt d) word = word ≡ 0o006700 + code d
IsWordOf (Mul r s) word = word ≡ 0o070000 + 0o100 * reg_code r + code s
IsWordOf (Div r s) word = word ≡ 0o071000 + 0o100 * reg_code r + code s
IsWordOf (Ash r s) word = word ≡ 0o072000 + 0o100 * reg_code r + code s
IsWordOf (Ashc r s) word = word ≡ 0o073000 + 0o100 * reg_code r + code s
IsWordOf (Xor r d) word = word ≡ 0o074000 + 0o100 * reg_code r + code d
IsWordOf (Sob r n) word = (word ≡ 0o077000 + 0o100 * reg_code r + n) × (n < 0o100)
IsWordOf (Branch t n) word = (word ≡ branch_code t + n) × (n < 0o400)
IsWordOf (Jmp d) word = (word ≡ 0o000100 + code d) × (d.mode ≢ Register)
IsWordOf (Jsr r d) word = (word ≡ 0o004000 + 0o100 * reg_code r + code d) × (d.mode ≢ Register)
IsWordOf (Rts r) word = word ≡ 0o000200 + reg_code r
IsWordOf (Mark n) word = (word ≡ 0o006400 + n) × (n < 0o100)
IsWordOf Rti word = (word ≡ 0o000002) ⊎ (word ≡ 0o000006)
IsWordOf (Codes set f) word = word ≡ 0o000240 + 0o20 * one_if set + flag_bits f
IsWordOf Wait word = (word ≡ 0o000001) ⊎ (word ≡ 0o000005)
IsWordOf (SoftTrap Bpt) word = word ≡ 0o000003
IsWordOf (SoftTrap Iot) word = word ≡ 0o000004
IsWordOf Emt word = IsIn 0o104000 0o104377 word
IsWordOf (Sys n) word = IsIn 0o104400 0o104777 word × (n ≡ word % 0o100)
IsWordOf Illegal word = IsIllegal word
