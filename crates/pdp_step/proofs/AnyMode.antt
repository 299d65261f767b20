-- An operand by any addressing mode, with PC in its register.
use Rattle.std.proofs.Common.{◌≡◌, ◌≢◌, ℕ, ◌<◌, ◌%◌, Result, Ok, Err, IfOk, IfErr, List, refl, sym, ap, ◌∙◌, subst, arith}
use Rattle.std.proofs.lemmas.List.{set-get_or}
use Rattle.v6_base.specs.declared.space.Trap.{Trap}
use Rattle.v6_base.specs.Access.{then_do, load_word}
use Rattle.pdp_decode.specs.declared.instr.Mode.{Mode}
use Rattle.pdp_decode.specs.declared.instr.Mode.TheVariants.{Register, Deferred, Increment, IncrementDeferred, Decrement, DecrementDeferred, Index, IndexDeferred}
use Rattle.pdp_decode.specs.declared.instr.Reg.{Reg}
use Rattle.pdp_decode.specs.declared.instr.Reg.TheVariants.{Pc}
use Rattle.pdp_decode.specs.declared.instr.Width.{Width}
use Rattle.pdp_decode.specs.declared.instr.Operand.{Operand}
use Rattle.pdp_decode.specs.Decode.{reg_of, operand_of}
use Rattle.pdp_step.specs.declared.halt.Halt.{Halt}
use Rattle.pdp_step.specs.declared.halt.Halt.TheVariants.{Missed, Trapped}
use Rattle.pdp_step.specs.declared.arithmetic.Made.{Made}
use Rattle.pdp_step.specs.Registers.{plus}
use Rattle.pdp_step.specs.Machine.{Machine, reg_in, with_reg, with_codes, passed}
use Rattle.pdp_step.specs.Operands.{Location, InRegister, InMemory, Stop, at_memory, word_at, Formed, formed_at, formed, value_at, fetched}
use Rattle.pdp_step.specs.Rows.{Effect, merged, stored_result, moved_result}
use Rattle.pdp_step.specs.After.{Done, finish_of, stored_by}
use Rattle.pdp_step.specs.Parts.{at_pc, value_in, moved_value, IsSource, IsReached, IsLocated, IsLoaded, location_at}
use Rattle.pdp_step.proofs.Banks.{held_twice, stored_register, moved_register, moved_memory}
use Rattle.pdp_step.proofs.Reached.{stop_kept, memory_value, source_at}
use Rattle.pdp_step.proofs.RowEnds.{lies, found, read_at}

-- PC is as it stands in its register
pc_again : (m : Machine) (v : ℕ) → v ≡ reg_in m Pc → v < 65536 → at_pc m v ≡ m
pc_again m v is small =
    let e : v % 65536 ≡ reg_in m Pc = omega (arith, is, small) in
    ap (λ (x : ℕ). with_reg m Pc x) e ∙ ap (λ (r : List ℕ). record m { r = r }) (set-get_or m.r 7 0)

same_formed : (old m : Machine) (pc n : ℕ) (w : Width) (mode : Mode) → m ≡ at_pc old pc → mode ≡ (operand_of n).mode → formed m w mode (reg_of (n % 8)) ≡ formed (at_pc old pc) w (operand_of n).mode (operand_of n).reg
unfolding operand_of
same_formed old m pc n w mode m_is mode_is = ap (λ (x : Machine). formed x w mode (reg_of (n % 8))) m_is ∙ ap (λ (x : Mode). formed (at_pc old pc) w x (reg_of (n % 8))) mode_is

pub reach_done : (old m new : Machine) (pc v at n : ℕ) (w : Width) (mode : Mode) → m ≡ at_pc old pc → mode ≡ (operand_of n).mode → v ≡ reg_in new Pc → v < 65536 → IsReached (Ok at) new (formed m w mode (reg_of (n % 8))) → IsReached (Ok at) (at_pc new v) (formed (at_pc old pc) w (operand_of n).mode (operand_of n).reg)
reach_done old m new pc v at n w mode m_is mode_is v_is small is =
    ap (λ (x : Machine). formed_at x at) (pc_again new v v_is small) ∙ (is ∙ same_formed old m pc n w mode m_is mode_is)

pub reach_halts : (old m new : Machine) (pc n : ℕ) (halt : Halt) (w : Width) (mode : Mode) → m ≡ at_pc old pc → mode ≡ (operand_of n).mode → IsReached (Err halt) new (formed m w mode (reg_of (n % 8))) → IsReached (Err halt) (at_pc new pc) (formed (at_pc old pc) w (operand_of n).mode (operand_of n).reg)
reach_halts old m new pc n Missed w mode m_is mode_is is = refl
reach_halts old m new pc n (Trapped trap) w mode m_is mode_is is =
    let stopped : Stop → Result Formed Stop = λ s. Err s in
    ap stopped (stop_kept new pc trap) ∙ (is ∙ same_formed old m pc n w mode m_is mode_is)

-- a source in a register
pub register_read : (old m : Machine) (pc value n : ℕ) (w : Width) → m ≡ at_pc old pc → (operand_of n).mode ≡ Register → value_at m w (InRegister (reg_of (n % 8))) ≡ Ok value → IsSource (Ok value) (at_pc m pc) (fetched (at_pc old pc) w (operand_of n))
unfolding operand_of fetched formed
register_read old m pc value n w m_is mode_is held =
    let r = reg_of (n % 8) in
    let again : at_pc m pc ≡ at_pc old pc = ap (λ (x : Machine). at_pc x pc) m_is ∙ ap (λ (x : List ℕ). record old { r = x }) (held_twice old.r Pc (pc % 65536) (pc % 65536)) in
    let here : value_at (at_pc old pc) w (InRegister r) ≡ Ok value = ap (λ (x : Machine). value_at x w (InRegister r)) (sym m_is) ∙ held in
    subst (λ (x : Machine). IsSource (Ok value) x (fetched (at_pc old pc) w (operand_of n))) (sym again) (subst (λ (x : Mode). IsSource (Ok value) (at_pc old pc) (then_do (formed (at_pc old pc) w x r) (read_at w))) (sym mode_is) (subst (λ (x : Result ℕ Stop). IsSource (Ok value) (at_pc old pc) (then_do x (found (InRegister r) (at_pc old pc)))) (sym here) refl))

-- a source in memory, where its address is reached, or isn't
pub memory_read : (old new : Machine) (pc to at n : ℕ) (w : Width) (answer : Result ℕ Halt) → IsReached (Ok at) (at_pc new to) (formed (at_pc old pc) w (operand_of n).mode (operand_of n).reg) → IsLoaded answer (value_in w new.image at) → IsSource answer (at_pc new to) (fetched (at_pc old pc) w (operand_of n))
memory_read old new pc to at n w answer is loaded = source_at (at_pc old pc) (at_pc new to) w (operand_of n) at answer (sym is) loaded

pub memory_unread : (old new : Machine) (pc to n : ℕ) (w : Width) (halt : Halt) → IsReached (Err halt) (at_pc new to) (formed (at_pc old pc) w (operand_of n).mode (operand_of n).reg) → IsSource (Err halt) (at_pc new to) (fetched (at_pc old pc) w (operand_of n))
unfolding fetched
memory_unread old new pc to n w Missed is = refl
memory_unread old new pc to n w (Trapped trap) is = subst (λ (x : Result Formed Stop). IsSource (Err (Trapped trap)) (at_pc new to) (then_do x (read_at w))) is refl

-- where an operand lies
pub register_location : (o : Operand) (a : ℕ) → o.mode ≡ Register → location_at o.mode o.reg a ≡ InRegister o.reg
register_location o a is = ap (λ (x : Mode). location_at x o.reg a) is

pub memory_location : (mode : Mode) (reg : Reg) (a : ℕ) → mode ≢ Register → location_at mode reg a ≡ InMemory a
memory_location Register reg a other = absurd (other refl)
memory_location Deferred reg a other = refl
memory_location Increment reg a other = refl
memory_location IncrementDeferred reg a other = refl
memory_location Decrement reg a other = refl
memory_location DecrementDeferred reg a other = refl
memory_location Index reg a other = refl
memory_location IndexDeferred reg a other = refl

pub register_located : (m : Machine) (w : Width) (o : Operand) (a : ℕ) → o.mode ≡ Register → lies (location_at o.mode o.reg a) m ≡ formed m w o.mode o.reg
unfolding formed
register_located m w o a is = subst (λ (x : Mode). lies (location_at x o.reg a) m ≡ formed m w x o.reg) (sym is) refl

pub memory_located : (answer : Result ℕ Halt) (m : Machine) (f : Result Formed Stop) (o : Operand) (at : ℕ) (address : ℕ → ℕ) → o.mode ≢ Register → IsReached (Ok at) m f → IfOk answer (λ p. address p ≡ at) → IfErr answer (λ h. h ≡ Missed) → IsLocated answer (λ p. location_at o.mode o.reg (address p)) m f
memory_located (Ok place) m f o at address other is where_ only = ap (λ (l : Location). lies l m) (memory_location o.mode o.reg (address place) other ∙ ap (λ (a : ℕ). InMemory a) where_) ∙ is
memory_located (Err halt) m f o at address other is where_ only = subst (λ (h : Halt). IsLocated (Err h) (λ p. location_at o.mode o.reg (address p)) m f) (sym only) refl

pub memory_unlocated : (halt : Halt) (m : Machine) (f : Result Formed Stop) (where_ : ℕ → Location) → IsReached (Err halt) m f → IsLocated (Err halt) where_ m f
memory_unlocated Missed m f where_ is = refl
memory_unlocated (Trapped trap) m f where_ is = is

-- what is read where it lies
pub register_got : (m : Machine) (w : Width) (n value a : ℕ) → (operand_of n).mode ≡ Register → value_at m w (InRegister (reg_of (n % 8))) ≡ Ok value → at_memory m (Ok value) ≡ value_at m w (location_at (operand_of n).mode (operand_of n).reg a)
unfolding operand_of
register_got m w n value a is held = sym (ap (λ (l : Location). value_at m w l) (register_location (operand_of n) a is) ∙ held)

pub memory_got : (m : Machine) (w : Width) (o : Operand) (a : ℕ) (answer : Result ℕ Trap) → o.mode ≢ Register → answer ≡ value_in w m.image a → at_memory m answer ≡ value_at m w (location_at o.mode o.reg a)
memory_got m w o a answer other is = ap (λ (r : Result ℕ Trap). at_memory m r) is ∙ (sym (memory_value m w a) ∙ ap (λ (l : Location). value_at m w l) (sym (memory_location o.mode o.reg a other)))

-- what is stored where it lies
pub register_stored : (m new : Machine) (w : Width) (n a : ℕ) (made : Made) → (operand_of n).mode ≡ Register → new ≡ with_codes (with_reg m (reg_of (n % 8)) (merged w (reg_in m (reg_of (n % 8))) made.value)) made.cc → stored_by (Ok tt) new ≡ finish_of m.image (stored_result m w (location_at (operand_of n).mode (operand_of n).reg a) made)
unfolding operand_of
register_stored m new w n a made is held = ap (λ (x : Machine). Done x) held ∙ (sym (stored_register m w (reg_of (n % 8)) made) ∙ ap (λ (l : Location). finish_of m.image (stored_result m w l made)) (sym (register_location (operand_of n) a is)))

pub memory_stored : (m new : Machine) (w : Width) (o : Operand) (a : ℕ) (made : Made) (answer : Result (Unit {0}) Trap) → o.mode ≢ Register → stored_by answer new ≡ finish_of m.image (stored_result m w (InMemory a) made) → stored_by answer new ≡ finish_of m.image (stored_result m w (location_at o.mode o.reg a) made)
memory_stored m new w o a made answer other is = is ∙ ap (λ (l : Location). finish_of m.image (stored_result m w l made)) (sym (memory_location o.mode o.reg a other))

pub register_moved : (m new : Machine) (w : Width) (n a : ℕ) (made : Made) → (operand_of n).mode ≡ Register → new ≡ with_codes (with_reg m (reg_of (n % 8)) (moved_value w made.value)) made.cc → stored_by (Ok tt) new ≡ finish_of m.image (moved_result m w (location_at (operand_of n).mode (operand_of n).reg a) made)
unfolding operand_of
register_moved m new w n a made is held = ap (λ (x : Machine). Done x) held ∙ (sym (moved_register m w (reg_of (n % 8)) made) ∙ ap (λ (l : Location). finish_of m.image (moved_result m w l made)) (sym (register_location (operand_of n) a is)))

pub memory_moved : (m new : Machine) (w : Width) (o : Operand) (a : ℕ) (made : Made) (answer : Result (Unit {0}) Trap) → o.mode ≢ Register → stored_by answer new ≡ finish_of m.image (stored_result m w (InMemory a) made) → stored_by answer new ≡ finish_of m.image (moved_result m w (location_at o.mode o.reg a) made)
memory_moved m new w o a made answer other is = is ∙ (ap (λ (e : Effect). finish_of m.image e) (sym (moved_memory m w a made)) ∙ ap (λ (l : Location). finish_of m.image (moved_result m w l made)) (sym (memory_location o.mode o.reg a other)))

-- a register plus the word at PC
pub index_done : (m new : Machine) (pc x v : ℕ) (n : Reg) → pc ≡ reg_in m Pc → new ≡ with_reg m Pc (plus pc 2) → v ≡ reg_in new n → IsLoaded (Ok x) (load_word m.image pc) → IsReached (Ok (plus v x)) new (then_do (word_at m (reg_in m Pc)) (λ y. formed_at (passed m) (plus (reg_in (passed m) n) y)))
unfolding word_at
index_done m new pc x v n pc_is new_is v_is loaded =
    let past : new ≡ passed m = new_is ∙ ap (λ (a : ℕ). with_reg m Pc (plus a 2)) pc_is in
    let word : Ok x ≡ load_word m.image (reg_in m Pc) = loaded ∙ ap (λ (a : ℕ). load_word m.image a) pc_is in
    ap (λ (a : ℕ). formed_at new (plus a x)) v_is ∙ (ap (λ (q : Machine). formed_at q (plus (reg_in q n) x)) past ∙ ap (λ (r : Result ℕ Trap). then_do (at_memory m r) (λ y. formed_at (passed m) (plus (reg_in (passed m) n) y))) word)

pub index_halts : (m : Machine) (pc : ℕ) (halt : Halt) (k : ℕ → Result Formed Stop) → pc ≡ reg_in m Pc → IsLoaded (Err halt) (load_word m.image pc) → IsReached (Err halt) m (then_do (word_at m (reg_in m Pc)) k)
unfolding word_at
index_halts m pc Missed k pc_is loaded = refl
index_halts m pc (Trapped trap) k pc_is loaded =
    let word : Err trap ≡ load_word m.image (reg_in m Pc) = loaded ∙ ap (λ (a : ℕ). load_word m.image a) pc_is in
    subst (λ (r : Result ℕ Trap). IsReached (Err (Trapped trap)) m (then_do (at_memory m r) k)) word refl
