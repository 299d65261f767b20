-- Registers that are set and read: PC is set last, or first.
use Rattle.std.proofs.Common.{◌≡◌, ◌≢◌, ◌%◌, Ok, ℕ, zero, suc, List, [], ◌∷◌, length, set, refl, arith, ap}
use Rattle.std.proofs.lemmas.List.{get_or-set_same, get_or-set_other}
use Rattle.pdp_decode.specs.declared.instr.Reg.{Reg}
use Rattle.pdp_decode.specs.declared.instr.Reg.TheVariants.{R0, R1, R2, R3, R4, R5, Sp, Pc}
use Rattle.pdp_decode.specs.declared.instr.Width.{Width}
use Rattle.pdp_decode.specs.declared.instr.Width.TheVariants.{Word, Byte}
use Rattle.pdp_decode.specs.Numbers.{reg_code}
use Rattle.pdp_decode.specs.Handlers.{IsStepped}
use Rattle.pdp_step.specs.Operands.{InRegister, InMemory, step_size, value_at}
use Rattle.pdp_step.specs.declared.arithmetic.Made.{Made}
use Rattle.pdp_step.specs.Registers.{held_in, holding}
use Rattle.pdp_step.specs.Machine.{Machine, reg_in, with_reg, with_codes}
use Rattle.pdp_step.specs.Rows.{merged, stored_result, moved_result}
use Rattle.pdp_step.specs.Instruction.{stored}
use Rattle.pdp_step.specs.After.{Done, finish_of}
use Rattle.pdp_step.specs.Parts.{moved_value}

pub held_back : (r : List ℕ) (n : Reg) (v : ℕ) → length r ≡ 8 → held_in (holding r n v) n ≡ v
held_back r R0 v is = get_or-set_same r 0 v 0 (omega (arith, is))
held_back r R1 v is = get_or-set_same r 1 v 0 (omega (arith, is))
held_back r R2 v is = get_or-set_same r 2 v 0 (omega (arith, is))
held_back r R3 v is = get_or-set_same r 3 v 0 (omega (arith, is))
held_back r R4 v is = get_or-set_same r 4 v 0 (omega (arith, is))
held_back r R5 v is = get_or-set_same r 5 v 0 (omega (arith, is))
held_back r Sp v is = get_or-set_same r 6 v 0 (omega (arith, is))
held_back r Pc v is = get_or-set_same r 7 v 0 (omega (arith, is))

set_twice : (xs : List ℕ) (i v w : ℕ) → set (set xs i v) i w ≡ set xs i w
set_twice [] i v w = refl
set_twice (x ∷ xs) zero v w = refl
set_twice (x ∷ xs) (suc i) v w = ap (λ (t : List ℕ). x ∷ t) (set_twice xs i v w)

pub held_twice : (r : List ℕ) (n : Reg) (v w : ℕ) → holding (holding r n v) n w ≡ holding r n w
held_twice r n v w = set_twice r (reg_code n) v w

pub held_other : (r : List ℕ) (n : Reg) (v : ℕ) → n ≢ Pc → held_in (holding r Pc v) n ≡ held_in r n
held_other r R0 v other = get_or-set_other r 7 0 v 0 (λ e. absurd (omega (arith, e)))
held_other r R1 v other = get_or-set_other r 7 1 v 0 (λ e. absurd (omega (arith, e)))
held_other r R2 v other = get_or-set_other r 7 2 v 0 (λ e. absurd (omega (arith, e)))
held_other r R3 v other = get_or-set_other r 7 3 v 0 (λ e. absurd (omega (arith, e)))
held_other r R4 v other = get_or-set_other r 7 4 v 0 (λ e. absurd (omega (arith, e)))
held_other r R5 v other = get_or-set_other r 7 5 v 0 (λ e. absurd (omega (arith, e)))
held_other r Sp v other = get_or-set_other r 7 6 v 0 (λ e. absurd (omega (arith, e)))
held_other r Pc v other = absurd (other refl)

-- two places that are set in either order
set_apart : (xs : List ℕ) (i j v w : ℕ) → i ≢ j → set (set xs i v) j w ≡ set (set xs j w) i v
set_apart [] i j v w apart = refl
set_apart (x ∷ xs) zero zero v w apart = absurd (apart refl)
set_apart (x ∷ xs) zero (suc j) v w apart = refl
set_apart (x ∷ xs) (suc i) zero v w apart = refl
set_apart (x ∷ xs) (suc i) (suc j) v w apart = ap (λ (t : List ℕ). x ∷ t) (set_apart xs i j v w (λ e. apart (ap suc e)))

code_apart : (n : Reg) → n ≢ Pc → 7 ≢ reg_code n
code_apart R0 other = λ e. omega (arith, e)
code_apart R1 other = λ e. omega (arith, e)
code_apart R2 other = λ e. omega (arith, e)
code_apart R3 other = λ e. omega (arith, e)
code_apart R4 other = λ e. omega (arith, e)
code_apart R5 other = λ e. omega (arith, e)
code_apart Sp other = λ e. omega (arith, e)
code_apart Pc other = absurd (other refl)

pub held_apart : (r : List ℕ) (n : Reg) (v w : ℕ) → n ≢ Pc → holding (holding r Pc v) n w ≡ holding (holding r n w) Pc v
held_apart r n v w other = set_apart r 7 (reg_code n) v w (code_apart n other)

-- where PC stands makes no difference to what R6 holds
pub stack_kept : (r : List ℕ) (v : ℕ) → held_in (holding r Pc v) Sp ≡ held_in r Sp
stack_kept r v = get_or-set_other r 7 6 v 0 (λ e. absurd (omega (arith, e)))

pub register_value : (m : Machine) (w : Width) (n : Reg) (v : ℕ) → n ≢ Pc → value_at (with_reg m Pc v) w (InRegister n) ≡ value_at m w (InRegister n)
unfolding value_at
register_value m Word n v other = ap (λ (x : ℕ). Ok x) (held_other m.r n v other)
register_value m Byte n v other = ap (λ (x : ℕ). Ok (x % 256)) (held_other m.r n v other)

pub steps_one : (n : Reg) → IsStepped Byte n → step_size Byte n ≡ 1
steps_one R0 is = refl
steps_one R1 is = refl
steps_one R2 is = refl
steps_one R3 is = refl
steps_one R4 is = refl
steps_one R5 is = refl
steps_one Sp is = absurd (is.1 refl)
steps_one Pc is = absurd (is.0 refl)

-- what is stored, by where it goes
pub stored_register : (m : Machine) (w : Width) (n : Reg) (made : Made) → finish_of m.image (stored_result m w (InRegister n) made) ≡ Done (with_codes (with_reg m n (merged w (reg_in m n) made.value)) made.cc)
unfolding finish_of stored_result stored
stored_register m Word n made = refl
stored_register m Byte n made = refl

pub moved_register : (m : Machine) (w : Width) (n : Reg) (made : Made) → finish_of m.image (moved_result m w (InRegister n) made) ≡ Done (with_codes (with_reg m n (moved_value w made.value)) made.cc)
unfolding finish_of moved_result stored_result stored
moved_register m Word n made = refl
moved_register m Byte n made = refl

pub moved_memory : (m : Machine) (w : Width) (a : ℕ) (made : Made) → moved_result m w (InMemory a) made ≡ stored_result m w (InMemory a) made
unfolding moved_result
moved_memory m Word a made = refl
moved_memory m Byte a made = refl

pub ruleset banks = (held_back, held_twice, held_other, stack_kept, register_value, stored_register, moved_register, moved_memory)
