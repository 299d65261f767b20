-- A row that has ended is the table's.
use Rattle.std.proofs.Common.{◌≡◌, ◌≢◌, ℕ, ◌+◌, ◌%◌, ◌<◌, Result, Ok, Err, refl, sym, ap, ◌∙◌, subst, arith}
use Rattle.pdp_decode.specs.declared.instr.Width.TheVariants.{Word}
use Rattle.pdp_decode.specs.declared.instr.Mode.TheVariants.{Register, Deferred, IncrementDeferred, Index}
use Rattle.pdp_decode.specs.declared.instr.Operand.{Operand}
use Rattle.pdp_decode.specs.declared.instr.Reg.{Reg}
use Rattle.pdp_decode.specs.declared.instr.Reg.TheVariants.{Pc}
use Rattle.pdp_decode.specs.declared.addressing.Addressing.TheVariants as way
use Rattle.pdp_decode.specs.declared.handler.Handler.{Handler}
use Rattle.pdp_decode.specs.declared.instr.Instr.{Instr}
use Rattle.pdp_decode.specs.declared.instr.Instr.TheVariants.{Rts, Mark, Jmp, Jsr}
use Rattle.pdp_decode.specs.Numbers.{reg_code}
use Rattle.pdp_decode.specs.Decode.{reg_of, operand_of, decode_of}
use Rattle.pdp_decode.specs.Handlers.{IsAddressed, Handles}
use Rattle.pdp_decode.specs.Table.{IsWordOf}
use Rattle.pdp_decode.proofs.Alone.{operand_back}
use Rattle.pdp_decode.proofs.Handled.{return_by}
use Rattle.pdp_step.specs.declared.halt.Halt.{Halt}
use Rattle.pdp_step.specs.declared.halt.Halt.TheVariants.{Missed, Trapped}
use Rattle.pdp_step.specs.declared.halt.Refusal.{Refusal}
use Rattle.pdp_step.specs.declared.halt.Refusal.TheVariants.{Halted}
use Rattle.v6_base.specs.declared.space.Trap.{Trap}
use Rattle.v6_base.specs.Access.{load_word}
use Rattle.pdp_step.specs.Machine.{Machine, reg_in, with_reg, passed}
use Rattle.pdp_step.specs.Operands.{at_memory, word_at}
use Rattle.pdp_step.specs.Instruction.{Planned, row_of, begun, plan_of}
use Rattle.pdp_step.specs.After.{Finished, finished, Finishes, refused}
use Rattle.pdp_step.specs.Parts.{at_pc, IsLoaded, Ends}
use Rattle.pdp_step.proofs.RowEnds.{low_operand}

finishes : (answer : Result (Unit {0}) Halt) (new : Machine) (is : Finished) → Ends answer new is → Finishes (refused answer) new is
finishes (Ok done) new is ends = ends
finishes (Err Missed) new is ends = refl
finishes (Err (Trapped trap)) new is ends = ends

pub row_ends : (answer : Result (Unit {0}) Halt) (ended : Result (Unit {0}) Refusal) (new m : Machine) (word : ℕ) (i : Instr) (planned : Planned) → ended ≡ refused answer → decode_of word ≡ i → planned ≡ row_of m word i → Ends answer new (finished m.image planned) → Finishes ended new (finished m.image (row_of m word (decode_of word)))
row_ends answer ended new m word i planned ended_is word_is row ends =
    let is : planned ≡ row_of m word (decode_of word) = row ∙ ap (λ (x : Instr). row_of m word x) (sym word_is) in
    let done = finishes answer new (finished m.image (row_of m word (decode_of word))) (subst (λ (x : Planned). Ends answer new (finished m.image x)) is ends) in
    subst (λ (x : Result (Unit {0}) Refusal). Finishes x new (finished m.image (row_of m word (decode_of word)))) (sym ended_is) done

pub return_word : (r : Reg) (n : ℕ) → IsWordOf (Rts r) n → decode_of n ≡ Rts r → decode_of n ≡ Rts (reg_of (n % 8))
return_word r n word is = return_by r n word is

pub mark_word : (m n : ℕ) → IsWordOf (Mark m) n → decode_of n ≡ Mark m → decode_of n ≡ Mark (n % 64)
mark_word m n word is =
    let small = word.1 in
    let whole = word.0 in
    let e : m ≡ n % 64 = omega (arith, whole, small) in
    is ∙ ap (λ (x : ℕ). Mark x) e

-- a jump's operand lies in memory
pub jump_memory : (d : Operand) (n : ℕ) → IsWordOf (Jmp d) n → (operand_of n).mode ≢ Register
jump_memory d n word =
    let whole = word.0 in
    subst (λ (o : Operand). o.mode ≢ Register) (sym (operand_back d n 1 (omega (arith, whole)))) word.1

pub link_memory : (r : Reg) (d : Operand) (n : ℕ) → IsWordOf (Jsr r d) n → (operand_of n).mode ≢ Register
link_memory r d n word =
    let whole = word.0 in
    subst (λ (o : Operand). o.mode ≢ Register) (sym (operand_back d n (0o40 + reg_code r) (omega (arith, whole)))) word.1

-- by its handler
pub handled : (h k : Handler) (n : ℕ) → h ≡ k → Handles h n → Handles k n
handled h k n is handles = subst (λ (x : Handler). Handles x n) is handles

pub row_as : (answer : Result (Unit {0}) Halt) (new m : Machine) (word : ℕ) (i : Instr) (planned : Planned) → decode_of word ≡ i → planned ≡ row_of m word i → Ends answer new (finished m.image planned) → Ends answer new (finished m.image (row_of m word (decode_of word)))
row_as answer new m word i planned word_is row ends =
    let is : planned ≡ row_of m word (decode_of word) = row ∙ ap (λ (x : Instr). row_of m word x) (sym word_is) in
    subst (λ (x : Planned). Ends answer new (finished m.image x)) is ends

pub low_register : (n : ℕ) → reg_of (n % 8) ≢ Pc → IsAddressed way.Register Word (operand_of (n % 8))
low_register n other = subst (λ (o : Operand). IsAddressed way.Register Word o) (sym (low_operand n)) (refl, other)

pub in_memory_absolute : (o : Operand) → IsAddressed way.Absolute Word o → o.mode ≢ Register
in_memory_absolute o is = λ e. let other : IncrementDeferred ≡ Register = sym is.0 ∙ e in cc

pub in_memory_relative : (o : Operand) → IsAddressed way.Relative Word o → o.mode ≢ Register
in_memory_relative o is = λ e. let other : Index ≡ Register = sym is.0 ∙ e in cc

pub in_memory_deferred : (o : Operand) → IsAddressed way.Deferred Word o → o.mode ≢ Register
in_memory_deferred o is = λ e. let other : Deferred ≡ Register = sym is.0 ∙ e in cc

-- the word at PC is fetched, or can't be
pub attempted : (answer : Result (Unit {0}) Refusal) (new old : Machine) (pc word : ℕ) → pc ≡ reg_in old Pc → pc < 65536 → IsLoaded (Ok word) (load_word old.image (pc % 65536)) → Finishes answer new (finished old.image (row_of (at_pc old (pc + 2)) word (decode_of word))) → Finishes answer new (finished old.image (plan_of old))
unfolding plan_of word_at
attempted answer new old pc word is small loaded ends =
    let low : pc % 65536 ≡ reg_in old Pc = omega (arith, is, small) in
    let load : load_word old.image (reg_in old Pc) ≡ Ok word = ap (λ (a : ℕ). load_word old.image a) (sym low) ∙ sym loaded in
    let here : at_pc old (pc + 2) ≡ passed old = ap (λ (x : ℕ). with_reg old Pc ((x + 2) % 65536)) is in
    subst (λ (r : Result ℕ Trap). Finishes answer new (finished old.image (begun old (at_memory old r)))) (sym load) (subst (λ (m : Machine). Finishes answer new (finished old.image (row_of m word (decode_of word)))) here ends)

pub unattempted : (halt : Halt) (old : Machine) (pc : ℕ) → pc ≡ reg_in old Pc → pc < 65536 → IsLoaded (Err halt) (load_word old.image (pc % 65536)) → Finishes (Err (Halted halt)) old (finished old.image (plan_of old))
unfolding plan_of word_at
unattempted Missed old pc is small loaded = refl
unattempted (Trapped trap) old pc is small loaded =
    let low : pc % 65536 ≡ reg_in old Pc = omega (arith, is, small) in
    let load : load_word old.image (reg_in old Pc) ≡ Err trap = ap (λ (a : ℕ). load_word old.image a) (sym low) ∙ sym loaded in
    subst (λ (r : Result ℕ Trap). Finishes (Err (Halted (Trapped trap))) old (finished old.image (begun old (at_memory old r)))) (sym load) refl
