-- What a handler says of a word: its instruction, and how the operands of that are found; and which words have a handler
-- for certain.
use Rattle.std.specs.Prelude.{◌≡◌, ◌≢◌, ◌<◌, ◌⊎◌, ℕ, ◌/◌, ◌%◌, List, length, slice_index_or, true, false}
use Rattle.pdp_decode.specs.declared.instr.Width.{Width}
use Rattle.pdp_decode.specs.declared.instr.Width.TheVariants.{Word, Byte}
use Rattle.pdp_decode.specs.declared.instr.Mode.TheVariants as mode
use Rattle.pdp_decode.specs.declared.instr.Reg.{Reg}
use Rattle.pdp_decode.specs.declared.instr.Reg.TheVariants.{Sp, Pc}
use Rattle.pdp_decode.specs.declared.instr.Operand.{Operand}
use Rattle.pdp_decode.specs.declared.instr.Condition.{Condition}
use Rattle.pdp_decode.specs.declared.instr.Condition.TheVariants as condition
use Rattle.pdp_decode.specs.declared.instr.Instr.{Instr}
use Rattle.pdp_decode.specs.declared.instr.Instr.TheVariants.{Mov, Cmp, Bit, Bic, Bis, Add, Sub, Clr, Com, Inc, Dec, Neg, Adc, Sbc, Tst, Ror, Rol, Asr, Asl, Swab, Sxt, Mul, Div, Ash, Ashc, Xor, Sob, Branch, Jmp, Jsr, Rts, Mark, Rti, Codes, Wait, SoftTrap, Emt, Sys, Illegal}
use Rattle.pdp_decode.specs.declared.addressing.Addressing.{Addressing}
use Rattle.pdp_decode.specs.declared.addressing.Addressing.TheVariants.{Register, Immediate, Absolute, Indexed, Deferred, Autoincrement, Autodecrement, Relative, Other}
use Rattle.pdp_decode.specs.declared.handler.Handler.{Handler}
use Rattle.pdp_decode.specs.declared.handler.Handler.TheVariants as handler
use Rattle.pdp_decode.specs.Decode.{reg_of, operand_of, flags_of, decode_of}

-- a register that steps by the operand's size: R6 and PC step by 2 at a byte too
abbrev pub IsStepped : Width → Reg → Type 0
IsStepped Word n = n ≢ Pc
IsStepped Byte n = (n ≢ Pc) × (n ≢ Sp)

abbrev pub IsAddressed : Addressing → Width → Operand → Type 0
IsAddressed Register w o = (o.mode ≡ mode.Register) × (o.reg ≢ Pc)
IsAddressed Immediate w o = (o.mode ≡ mode.Increment) × (o.reg ≡ Pc)
IsAddressed Absolute w o = (o.mode ≡ mode.IncrementDeferred) × (o.reg ≡ Pc)
IsAddressed Indexed w o = (o.mode ≡ mode.Index) × (o.reg ≢ Pc)
IsAddressed Deferred w o = (o.mode ≡ mode.Deferred) × (o.reg ≢ Pc)
IsAddressed Autoincrement w o = (o.mode ≡ mode.Increment) × IsStepped w o.reg
IsAddressed Autodecrement w o = (o.mode ≡ mode.Decrement) × IsStepped w o.reg
IsAddressed Relative w o = (o.mode ≡ mode.Index) × (o.reg ≡ Pc)
IsAddressed Other w o = Unit {0}

-- a word of an instruction with a source and a destination
pub record IsDouble (n : ℕ) (w : Width) (make : Operand → Operand → Instr) (a b : Addressing) : Type 0 where
  pub is : decode_of n ≡ make (operand_of (n / 0o100)) (operand_of n)
  pub source : IsAddressed a w (operand_of (n / 0o100))
  pub dest : IsAddressed b w (operand_of n)

-- with one operand
pub record IsSingle (n : ℕ) (w : Width) (make : Operand → Instr) (a : Addressing) : Type 0 where
  pub is : decode_of n ≡ make (operand_of n)
  pub dest : IsAddressed a w (operand_of n)

-- with a register and an operand, both words
pub record IsExtended (n : ℕ) (make : Reg → Operand → Instr) (a : Addressing) : Type 0 where
  pub is : decode_of n ≡ make (reg_of (n / 0o100 % 0o10)) (operand_of n)
  pub operand : IsAddressed a Word (operand_of n)

-- XOR of two registers, of which the first is not PC
pub record IsExclusiveOr (n : ℕ) : Type 0 where
  pub is : decode_of n ≡ Xor (reg_of (n / 0o100 % 0o10)) (operand_of n)
  pub source : reg_of (n / 0o100 % 0o10) ≢ Pc
  pub dest : IsAddressed Register Word (operand_of n)

abbrev pub IsBranch : ℕ → Condition → Type 0
IsBranch n condition = decode_of n ≡ Branch condition (n % 0o400)

abbrev pub Handles : Handler → ℕ → Type 0
Handles handler.MovRR n = IsDouble n Word (Mov Word) Register Register
Handles handler.MovIR n = IsDouble n Word (Mov Word) Immediate Register
Handles handler.MovAR n = IsDouble n Word (Mov Word) Absolute Register
Handles handler.MovXR n = IsDouble n Word (Mov Word) Indexed Register
Handles handler.MovDR n = IsDouble n Word (Mov Word) Deferred Register
Handles handler.MovPR n = IsDouble n Word (Mov Word) Autoincrement Register
Handles handler.MovLR n = IsDouble n Word (Mov Word) Relative Register
Handles handler.MovRA n = IsDouble n Word (Mov Word) Register Absolute
Handles handler.MovRX n = IsDouble n Word (Mov Word) Register Indexed
Handles handler.MovRD n = IsDouble n Word (Mov Word) Register Deferred
Handles handler.MovRP n = IsDouble n Word (Mov Word) Register Autoincrement
Handles handler.MovRM n = IsDouble n Word (Mov Word) Register Autodecrement
Handles handler.MovRL n = IsDouble n Word (Mov Word) Register Relative
Handles handler.MovIA n = IsDouble n Word (Mov Word) Immediate Absolute
Handles handler.MovIX n = IsDouble n Word (Mov Word) Immediate Indexed
Handles handler.MovIM n = IsDouble n Word (Mov Word) Immediate Autodecrement
Handles handler.MovAM n = IsDouble n Word (Mov Word) Absolute Autodecrement
Handles handler.MovXX n = IsDouble n Word (Mov Word) Indexed Indexed
Handles handler.MovXM n = IsDouble n Word (Mov Word) Indexed Autodecrement
Handles handler.MovPP n = IsDouble n Word (Mov Word) Autoincrement Autoincrement
Handles handler.MovDD n = IsDouble n Word (Mov Word) Deferred Deferred
Handles handler.MovAA n = IsDouble n Word (Mov Word) Absolute Absolute
Handles handler.MovDM n = IsDouble n Word (Mov Word) Deferred Autodecrement
Handles handler.MovPD n = IsDouble n Word (Mov Word) Autoincrement Deferred
Handles handler.MovPM n = IsDouble n Word (Mov Word) Autoincrement Autodecrement
Handles handler.MovPX n = IsDouble n Word (Mov Word) Autoincrement Indexed
Handles handler.MovID n = IsDouble n Word (Mov Word) Immediate Deferred
Handles handler.MovXD n = IsDouble n Word (Mov Word) Indexed Deferred
Handles handler.MovDX n = IsDouble n Word (Mov Word) Deferred Indexed
Handles handler.MovbRR n = IsDouble n Byte (Mov Byte) Register Register
Handles handler.MovbAR n = IsDouble n Byte (Mov Byte) Absolute Register
Handles handler.MovbXR n = IsDouble n Byte (Mov Byte) Indexed Register
Handles handler.MovbDR n = IsDouble n Byte (Mov Byte) Deferred Register
Handles handler.MovbPR n = IsDouble n Byte (Mov Byte) Autoincrement Register
Handles handler.MovbRA n = IsDouble n Byte (Mov Byte) Register Absolute
Handles handler.MovbRX n = IsDouble n Byte (Mov Byte) Register Indexed
Handles handler.MovbRD n = IsDouble n Byte (Mov Byte) Register Deferred
Handles handler.MovbRP n = IsDouble n Byte (Mov Byte) Register Autoincrement
Handles handler.MovbRM n = IsDouble n Byte (Mov Byte) Register Autodecrement
Handles handler.MovbIX n = IsDouble n Byte (Mov Byte) Immediate Indexed
Handles handler.MovbPP n = IsDouble n Byte (Mov Byte) Autoincrement Autoincrement
Handles handler.MovbAA n = IsDouble n Byte (Mov Byte) Absolute Absolute
Handles handler.MovbDD n = IsDouble n Byte (Mov Byte) Deferred Deferred
Handles handler.MovbIA n = IsDouble n Byte (Mov Byte) Immediate Absolute
Handles handler.MovbPD n = IsDouble n Byte (Mov Byte) Autoincrement Deferred
Handles handler.MovbID n = IsDouble n Byte (Mov Byte) Immediate Deferred
Handles handler.CmpRR n = IsDouble n Word (Cmp Word) Register Register
Handles handler.CmpIR n = IsDouble n Word (Cmp Word) Immediate Register
Handles handler.CmpAR n = IsDouble n Word (Cmp Word) Absolute Register
Handles handler.CmpXR n = IsDouble n Word (Cmp Word) Indexed Register
Handles handler.CmpDR n = IsDouble n Word (Cmp Word) Deferred Register
Handles handler.CmpPR n = IsDouble n Word (Cmp Word) Autoincrement Register
Handles handler.CmpLR n = IsDouble n Word (Cmp Word) Relative Register
Handles handler.CmpRA n = IsDouble n Word (Cmp Word) Register Absolute
Handles handler.CmpRX n = IsDouble n Word (Cmp Word) Register Indexed
Handles handler.CmpRD n = IsDouble n Word (Cmp Word) Register Deferred
Handles handler.CmpAI n = IsDouble n Word (Cmp Word) Absolute Immediate
Handles handler.CmpXI n = IsDouble n Word (Cmp Word) Indexed Immediate
Handles handler.CmpDD n = IsDouble n Word (Cmp Word) Deferred Deferred
Handles handler.CmpAA n = IsDouble n Word (Cmp Word) Absolute Absolute
Handles handler.CmpDI n = IsDouble n Word (Cmp Word) Deferred Immediate
Handles handler.CmpbRR n = IsDouble n Byte (Cmp Byte) Register Register
Handles handler.CmpbIR n = IsDouble n Byte (Cmp Byte) Immediate Register
Handles handler.CmpbXR n = IsDouble n Byte (Cmp Byte) Indexed Register
Handles handler.CmpbDR n = IsDouble n Byte (Cmp Byte) Deferred Register
Handles handler.CmpbPR n = IsDouble n Byte (Cmp Byte) Autoincrement Register
Handles handler.CmpbRD n = IsDouble n Byte (Cmp Byte) Register Deferred
Handles handler.CmpbPI n = IsDouble n Byte (Cmp Byte) Autoincrement Immediate
Handles handler.CmpbPP n = IsDouble n Byte (Cmp Byte) Autoincrement Autoincrement
Handles handler.CmpbAR n = IsDouble n Byte (Cmp Byte) Absolute Register
Handles handler.CmpbAI n = IsDouble n Byte (Cmp Byte) Absolute Immediate
Handles handler.CmpbXI n = IsDouble n Byte (Cmp Byte) Indexed Immediate
Handles handler.CmpbDI n = IsDouble n Byte (Cmp Byte) Deferred Immediate
Handles handler.BitRR n = IsDouble n Word (Bit Word) Register Register
Handles handler.BitIR n = IsDouble n Word (Bit Word) Immediate Register
Handles handler.BitAR n = IsDouble n Word (Bit Word) Absolute Register
Handles handler.BitXR n = IsDouble n Word (Bit Word) Indexed Register
Handles handler.BitIA n = IsDouble n Word (Bit Word) Immediate Absolute
Handles handler.BitIX n = IsDouble n Word (Bit Word) Immediate Indexed
Handles handler.BitbRR n = IsDouble n Byte (Bit Byte) Register Register
Handles handler.BitbIR n = IsDouble n Byte (Bit Byte) Immediate Register
Handles handler.BitbAR n = IsDouble n Byte (Bit Byte) Absolute Register
Handles handler.BitbIX n = IsDouble n Byte (Bit Byte) Immediate Indexed
Handles handler.BitbID n = IsDouble n Byte (Bit Byte) Immediate Deferred
Handles handler.BicRR n = IsDouble n Word (Bic Word) Register Register
Handles handler.BicIR n = IsDouble n Word (Bic Word) Immediate Register
Handles handler.BicAR n = IsDouble n Word (Bic Word) Absolute Register
Handles handler.BicXR n = IsDouble n Word (Bic Word) Indexed Register
Handles handler.BicRA n = IsDouble n Word (Bic Word) Register Absolute
Handles handler.BicRX n = IsDouble n Word (Bic Word) Register Indexed
Handles handler.BicIX n = IsDouble n Word (Bic Word) Immediate Indexed
Handles handler.BicIA n = IsDouble n Word (Bic Word) Immediate Absolute
Handles handler.BicbRR n = IsDouble n Byte (Bic Byte) Register Register
Handles handler.BicbIR n = IsDouble n Byte (Bic Byte) Immediate Register
Handles handler.BisRR n = IsDouble n Word (Bis Word) Register Register
Handles handler.BisIR n = IsDouble n Word (Bis Word) Immediate Register
Handles handler.BisAR n = IsDouble n Word (Bis Word) Absolute Register
Handles handler.BisXR n = IsDouble n Word (Bis Word) Indexed Register
Handles handler.BisRA n = IsDouble n Word (Bis Word) Register Absolute
Handles handler.BisRX n = IsDouble n Word (Bis Word) Register Indexed
Handles handler.BisIX n = IsDouble n Word (Bis Word) Immediate Indexed
Handles handler.BisIA n = IsDouble n Word (Bis Word) Immediate Absolute
Handles handler.BisbRR n = IsDouble n Byte (Bis Byte) Register Register
Handles handler.BisbIR n = IsDouble n Byte (Bis Byte) Immediate Register
Handles handler.BisbDR n = IsDouble n Byte (Bis Byte) Deferred Register
Handles handler.BisbPR n = IsDouble n Byte (Bis Byte) Autoincrement Register
Handles handler.BisbRD n = IsDouble n Byte (Bis Byte) Register Deferred
Handles handler.BisbRP n = IsDouble n Byte (Bis Byte) Register Autoincrement
Handles handler.BisbRA n = IsDouble n Byte (Bis Byte) Register Absolute
Handles handler.AddRR n = IsDouble n Word Add Register Register
Handles handler.AddIR n = IsDouble n Word Add Immediate Register
Handles handler.AddAR n = IsDouble n Word Add Absolute Register
Handles handler.AddXR n = IsDouble n Word Add Indexed Register
Handles handler.AddDR n = IsDouble n Word Add Deferred Register
Handles handler.AddPR n = IsDouble n Word Add Autoincrement Register
Handles handler.AddLR n = IsDouble n Word Add Relative Register
Handles handler.AddRA n = IsDouble n Word Add Register Absolute
Handles handler.AddRX n = IsDouble n Word Add Register Indexed
Handles handler.AddRD n = IsDouble n Word Add Register Deferred
Handles handler.AddRP n = IsDouble n Word Add Register Autoincrement
Handles handler.AddIA n = IsDouble n Word Add Immediate Absolute
Handles handler.AddIX n = IsDouble n Word Add Immediate Indexed
Handles handler.AddDD n = IsDouble n Word Add Deferred Deferred
Handles handler.AddAA n = IsDouble n Word Add Absolute Absolute
Handles handler.AddID n = IsDouble n Word Add Immediate Deferred
Handles handler.SubRR n = IsDouble n Word Sub Register Register
Handles handler.SubIR n = IsDouble n Word Sub Immediate Register
Handles handler.SubAR n = IsDouble n Word Sub Absolute Register
Handles handler.SubXR n = IsDouble n Word Sub Indexed Register
Handles handler.SubDR n = IsDouble n Word Sub Deferred Register
Handles handler.SubPR n = IsDouble n Word Sub Autoincrement Register
Handles handler.SubLR n = IsDouble n Word Sub Relative Register
Handles handler.SubRA n = IsDouble n Word Sub Register Absolute
Handles handler.SubRX n = IsDouble n Word Sub Register Indexed
Handles handler.SubIX n = IsDouble n Word Sub Immediate Indexed
Handles handler.ClrR n = IsSingle n Word (Clr Word) Register
Handles handler.ClrA n = IsSingle n Word (Clr Word) Absolute
Handles handler.ClrX n = IsSingle n Word (Clr Word) Indexed
Handles handler.ClrM n = IsSingle n Word (Clr Word) Autodecrement
Handles handler.ClrD n = IsSingle n Word (Clr Word) Deferred
Handles handler.ClrP n = IsSingle n Word (Clr Word) Autoincrement
Handles handler.ClrL n = IsSingle n Word (Clr Word) Relative
Handles handler.ComR n = IsSingle n Word (Com Word) Register
Handles handler.IncR n = IsSingle n Word (Inc Word) Register
Handles handler.IncA n = IsSingle n Word (Inc Word) Absolute
Handles handler.IncX n = IsSingle n Word (Inc Word) Indexed
Handles handler.IncD n = IsSingle n Word (Inc Word) Deferred
Handles handler.IncP n = IsSingle n Word (Inc Word) Autoincrement
Handles handler.IncL n = IsSingle n Word (Inc Word) Relative
Handles handler.DecR n = IsSingle n Word (Dec Word) Register
Handles handler.DecA n = IsSingle n Word (Dec Word) Absolute
Handles handler.DecX n = IsSingle n Word (Dec Word) Indexed
Handles handler.DecD n = IsSingle n Word (Dec Word) Deferred
Handles handler.DecP n = IsSingle n Word (Dec Word) Autoincrement
Handles handler.DecL n = IsSingle n Word (Dec Word) Relative
Handles handler.NegR n = IsSingle n Word (Neg Word) Register
Handles handler.NegA n = IsSingle n Word (Neg Word) Absolute
Handles handler.AdcR n = IsSingle n Word (Adc Word) Register
Handles handler.AdcA n = IsSingle n Word (Adc Word) Absolute
Handles handler.AdcX n = IsSingle n Word (Adc Word) Indexed
Handles handler.SbcR n = IsSingle n Word (Sbc Word) Register
Handles handler.TstR n = IsSingle n Word (Tst Word) Register
Handles handler.TstA n = IsSingle n Word (Tst Word) Absolute
Handles handler.TstX n = IsSingle n Word (Tst Word) Indexed
Handles handler.TstP n = IsSingle n Word (Tst Word) Autoincrement
Handles handler.TstL n = IsSingle n Word (Tst Word) Relative
Handles handler.TstD n = IsSingle n Word (Tst Word) Deferred
Handles handler.TstM n = IsSingle n Word (Tst Word) Autodecrement
Handles handler.RorR n = IsSingle n Word (Ror Word) Register
Handles handler.RolR n = IsSingle n Word (Rol Word) Register
Handles handler.AsrR n = IsSingle n Word (Asr Word) Register
Handles handler.AsrA n = IsSingle n Word (Asr Word) Absolute
Handles handler.AslR n = IsSingle n Word (Asl Word) Register
Handles handler.AslA n = IsSingle n Word (Asl Word) Absolute
Handles handler.ClrbR n = IsSingle n Byte (Clr Byte) Register
Handles handler.ClrbA n = IsSingle n Byte (Clr Byte) Absolute
Handles handler.ClrbX n = IsSingle n Byte (Clr Byte) Indexed
Handles handler.ClrbD n = IsSingle n Byte (Clr Byte) Deferred
Handles handler.ClrbP n = IsSingle n Byte (Clr Byte) Autoincrement
Handles handler.CombR n = IsSingle n Byte (Com Byte) Register
Handles handler.IncbR n = IsSingle n Byte (Inc Byte) Register
Handles handler.IncbA n = IsSingle n Byte (Inc Byte) Absolute
Handles handler.IncbX n = IsSingle n Byte (Inc Byte) Indexed
Handles handler.DecbR n = IsSingle n Byte (Dec Byte) Register
Handles handler.DecbA n = IsSingle n Byte (Dec Byte) Absolute
Handles handler.NegbR n = IsSingle n Byte (Neg Byte) Register
Handles handler.AdcbR n = IsSingle n Byte (Adc Byte) Register
Handles handler.SbcbR n = IsSingle n Byte (Sbc Byte) Register
Handles handler.TstbR n = IsSingle n Byte (Tst Byte) Register
Handles handler.TstbA n = IsSingle n Byte (Tst Byte) Absolute
Handles handler.TstbX n = IsSingle n Byte (Tst Byte) Indexed
Handles handler.TstbD n = IsSingle n Byte (Tst Byte) Deferred
Handles handler.TstbP n = IsSingle n Byte (Tst Byte) Autoincrement
Handles handler.RorbR n = IsSingle n Byte (Ror Byte) Register
Handles handler.RolbR n = IsSingle n Byte (Rol Byte) Register
Handles handler.AsrbR n = IsSingle n Byte (Asr Byte) Register
Handles handler.AslbR n = IsSingle n Byte (Asl Byte) Register
Handles handler.SwabR n = IsSingle n Word Swab Register
Handles handler.SxtR n = IsSingle n Word Sxt Register
Handles handler.MulR n = IsExtended n Mul Register
Handles handler.MulI n = IsExtended n Mul Immediate
Handles handler.MulX n = IsExtended n Mul Indexed
Handles handler.DivR n = IsExtended n Div Register
Handles handler.DivI n = IsExtended n Div Immediate
Handles handler.DivX n = IsExtended n Div Indexed
Handles handler.AshR n = IsExtended n Ash Register
Handles handler.AshI n = IsExtended n Ash Immediate
Handles handler.AshX n = IsExtended n Ash Indexed
Handles handler.AshcR n = IsExtended n Ashc Register
Handles handler.AshcI n = IsExtended n Ashc Immediate
Handles handler.AshcX n = IsExtended n Ashc Indexed
Handles handler.XorRR n = IsExclusiveOr n
Handles handler.Always n = IsBranch n condition.Always
Handles handler.NotEqual n = IsBranch n condition.NotEqual
Handles handler.Equal n = IsBranch n condition.Equal
Handles handler.GreaterOrEqual n = IsBranch n condition.GreaterOrEqual
Handles handler.Less n = IsBranch n condition.Less
Handles handler.Greater n = IsBranch n condition.Greater
Handles handler.LessOrEqual n = IsBranch n condition.LessOrEqual
Handles handler.Plus n = IsBranch n condition.Plus
Handles handler.Minus n = IsBranch n condition.Minus
Handles handler.Higher n = IsBranch n condition.Higher
Handles handler.LowerOrSame n = IsBranch n condition.LowerOrSame
Handles handler.OverflowClear n = IsBranch n condition.OverflowClear
Handles handler.OverflowSet n = IsBranch n condition.OverflowSet
Handles handler.CarryClear n = IsBranch n condition.CarryClear
Handles handler.CarrySet n = IsBranch n condition.CarrySet
Handles handler.Sob n = decode_of n ≡ Sob (reg_of (n / 0o100 % 0o10)) (n % 0o100)
Handles handler.JmpA n = IsSingle n Word Jmp Absolute
Handles handler.JmpL n = IsSingle n Word Jmp Relative
Handles handler.JmpD n = IsSingle n Word Jmp Deferred
Handles handler.JsrA n = IsExtended n Jsr Absolute
Handles handler.JsrL n = IsExtended n Jsr Relative
Handles handler.Rts n = decode_of n ≡ Rts (reg_of (n % 0o10))
Handles handler.ClearCodes n = decode_of n ≡ Codes false (flags_of n)
Handles handler.SetCodes n = decode_of n ≡ Codes true (flags_of n)
Handles handler.Rti n = decode_of n ≡ Rti
Handles handler.Other n = Unit {0}

-- where a source lies that has a handler with each instruction: in a register; or, a word, in the program, at an absolute
-- address or at an indexed one
abbrev pub IsSource : Addressing → Width → Type 0
IsSource a w = (a ≡ Register) ⊎ ((w ≡ Word) × ((a ≡ Immediate) ⊎ ((a ≡ Absolute) ⊎ (a ≡ Indexed))))

abbrev pub IsFromSource : Width → Operand → Type 0
IsFromSource w s =
    IsAddressed Register w s ⊎ ((w ≡ Word) × (IsAddressed Immediate w s ⊎ (IsAddressed Absolute w s ⊎ IsAddressed Indexed w s)))

-- a label: an absolute address, or one relative to PC
abbrev pub IsLabel : Addressing → Type 0
IsLabel a = (a ≡ Absolute) ⊎ (a ≡ Relative)

abbrev pub IsAtLabel : Operand → Type 0
IsAtLabel d = IsAddressed Absolute Word d ⊎ IsAddressed Relative Word d

-- the instructions that have a handler for certain: those that work on a register, with such a source; branches; jumps to a
-- label; RTS, RTI, and those on the condition codes. Frequent ways to other operands have one too.
abbrev pub HasHandler : Instr → Type 0
HasHandler (Mov w s d) = IsFromSource w s × IsAddressed Register w d
HasHandler (Cmp w s d) = IsFromSource w s × IsAddressed Register w d
HasHandler (Bit w s d) = IsFromSource w s × IsAddressed Register w d
HasHandler (Bic w s d) = IsFromSource w s × IsAddressed Register w d
HasHandler (Bis w s d) = IsFromSource w s × IsAddressed Register w d
HasHandler (Add s d) = IsFromSource Word s × IsAddressed Register Word d
HasHandler (Sub s d) = IsFromSource Word s × IsAddressed Register Word d
HasHandler (Clr w d) = IsAddressed Register w d
HasHandler (Com w d) = IsAddressed Register w d
HasHandler (Inc w d) = IsAddressed Register w d
HasHandler (Dec w d) = IsAddressed Register w d
HasHandler (Neg w d) = IsAddressed Register w d
HasHandler (Adc w d) = IsAddressed Register w d
HasHandler (Sbc w d) = IsAddressed Register w d
HasHandler (Tst w d) = IsAddressed Register w d
HasHandler (Ror w d) = IsAddressed Register w d
HasHandler (Rol w d) = IsAddressed Register w d
HasHandler (Asr w d) = IsAddressed Register w d
HasHandler (Asl w d) = IsAddressed Register w d
HasHandler (Swab d) = IsAddressed Register Word d
HasHandler (Sxt d) = IsAddressed Register Word d
HasHandler (Mul n s) = IsAddressed Register Word s
HasHandler (Div n s) = IsAddressed Register Word s
HasHandler (Ash n s) = IsAddressed Register Word s
HasHandler (Ashc n s) = IsAddressed Register Word s
HasHandler (Xor n d) = (n ≢ Pc) × IsAddressed Register Word d
HasHandler (Sob n words) = Unit {0}
HasHandler (Branch test words) = Unit {0}
HasHandler (Jmp d) = IsAtLabel d
HasHandler (Jsr n d) = IsAtLabel d
HasHandler (Rts n) = Unit {0}
HasHandler (Mark words) = ⊥
HasHandler Rti = Unit {0}
HasHandler (Codes set names) = Unit {0}
HasHandler Wait = ⊥
HasHandler (SoftTrap trap) = ⊥
HasHandler Emt = ⊥
HasHandler (Sys n) = ⊥
HasHandler Illegal = ⊥

-- the handler of a word
pub record IsHandlerOf (h : Handler) (n : ℕ) : Type 0 where
  pub handles : Handles h n
  pub known : HasHandler (decode_of n) → h ≢ handler.Other

-- a table of the handlers of all words
pub record IsDispatch (handlers : List Handler) : Type 0 where
  pub size : length handlers ≡ 65536
  pub each : (n : ℕ) → n < 65536 → Handles (slice_index_or handlers n handler.Other) n
  pub known : (n : ℕ) → n < 65536 → HasHandler (decode_of n) → slice_index_or handlers n handler.Other ≢ handler.Other
