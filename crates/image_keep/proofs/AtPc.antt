-- A row that is done is the instruction at PC; so is a call that is asked for.
use Rattle.std.proofs.Common.{◌≡◌, ℕ, ◌+◌, ◌%◌, ◌<◌, Bool, false, List, IsTrue, Result, Ok, sym, ap, ◌∙◌, arith}
use Rattle.v6_base.specs.declared.space.Trap.{Trap}
use Rattle.v6_base.specs.Access.{load_word}
use Rattle.pdp_decode.specs.declared.instr.Reg.TheVariants.{Pc}
use Rattle.pdp_decode.specs.declared.instr.Instr.{Instr}
use Rattle.pdp_decode.specs.declared.instr.Instr.TheVariants.{Sys}
use Rattle.pdp_decode.specs.Decode.{decode_of}
use Rattle.pdp_step.specs.declared.outcome.Outcome.TheVariants.{Next, Call}
use Rattle.pdp_step.specs.Machine.{Machine, reg_in, with_reg, passed}
use Rattle.pdp_step.specs.Operands.{at_memory, word_at}
use Rattle.pdp_step.specs.Instruction.{row_of, begun, plan_of, settled, stepped, instr}
use Rattle.pdp_step.proofs.Ends.{instr_done}
use Rattle.pdp_step.proofs.TableRows.{attempted}
use Rattle.image_keep.specs.declared.standing.Standing.{Standing}
use Rattle.image_keep.specs.Standing.{standing_image}
use Rattle.image_keep.specs.Near.{StandsWith, IsRowDone, standing_machine, Around, around}
use Rattle.image_keep.specs.Attempted.{Attempted}

pub instr_row : (m new : Machine) (pc word : ℕ) → pc ≡ reg_in m Pc → pc < 65536 → load_word m.image pc ≡ Ok word → IsRowDone m (pc + 2) word new → instr m ≡ stepped Next new
instr_row m new pc word is small loaded done =
    let low : pc % 65536 ≡ pc = omega (arith, small) in
    sym (instr_done m new (attempted (Ok tt) new m pc word is small (sym (ap (λ (a : ℕ). load_word m.image a) low ∙ loaded)) done))

pub instr_call : (m : Machine) (pc word n : ℕ) → pc ≡ reg_in m Pc → load_word m.image pc ≡ Ok word → decode_of word ≡ Sys n → instr m ≡ stepped (Call n) (with_reg m Pc ((pc + 2) % 65536))
unfolding instr plan_of word_at row_of
instr_call m pc word n is loaded asks =
    let load : load_word m.image (reg_in m Pc) ≡ Ok word = ap (λ (a : ℕ). load_word m.image a) (sym is) ∙ loaded in
    ap (λ (r : Result ℕ Trap). settled m (begun m (at_memory m r))) load
    ∙ ap (λ (i : Instr). settled m (row_of (passed m) word i)) asks
    ∙ ap (λ (a : ℕ). stepped (Call n) (with_reg m Pc ((a + 2) % 65536))) (sym is)

-- an attempt at the row of the word at PC
pub row_attempted : (core new : List ℕ) (f : Standing) (pc word : ℕ) (result : Bool) → pc ≡ reg_in (standing_machine core f) Pc → pc < 65536 → 0 < f.code_len → load_word (standing_image core f) pc ≡ Ok word
    → (IsTrue result → IsRowDone (standing_machine core f) (pc + 2) word (standing_machine new f)) → (result ≡ false → standing_machine new f ≡ standing_machine core f) → around new f ≡ around core f → StandsWith new f
    → Attempted f core new result
row_attempted core new f pc word result is small some loaded row missed same stands = record {
  near = λ _. some;
  done = λ well. instr_row (standing_machine core f) (standing_machine new f) pc word is small loaded (row well);
  missed = λ ill _. missed ill;
  far_core = λ ill none. absurd (omega (arith, some, none));
  around = λ _. same;
  stated = λ _. stands.stated;
  size = ap (λ (a : Around). a.size) same;
}
