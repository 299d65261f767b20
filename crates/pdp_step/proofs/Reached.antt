-- Where an operand lies, by each way to it, with PC set aside: `pc` is where the program goes on.
use Rattle.std.proofs.Common.{◌≡◌, ◌≢◌, ◌%◌, ◌+◌, Result, Ok, Err, ℕ, List, length, refl, sym, ap, ◌∙◌, arith}
use Rattle.v6_base.specs.declared.space.Trap.{Trap}
use Rattle.v6_base.specs.Access.{then_do, load_word}
use Rattle.pdp_decode.specs.declared.instr.Reg.{Reg}
use Rattle.pdp_decode.specs.declared.instr.Reg.TheVariants.{Pc}
use Rattle.pdp_decode.specs.declared.instr.Mode.{Mode}
use Rattle.pdp_decode.specs.declared.instr.Mode.TheVariants.{Deferred, Increment, IncrementDeferred, Decrement, Index}
use Rattle.pdp_decode.specs.declared.instr.Width.{Width}
use Rattle.pdp_decode.specs.declared.instr.Width.TheVariants.{Word, Byte}
use Rattle.pdp_decode.specs.declared.instr.Operand.{Operand}
use Rattle.pdp_decode.specs.declared.addressing.Addressing.TheVariants as way
use Rattle.pdp_decode.specs.Decode.{reg_of, operand_of}
use Rattle.pdp_decode.specs.Handlers.{IsAddressed, IsStepped}
use Rattle.pdp_step.specs.Operands.{Location, InMemory, Stop, Formed, Fetched, stop_of, stop_with, at_memory, word_at, step_size, formed_at, formed, fetched, value_at}
use Rattle.pdp_step.specs.declared.halt.Halt.{Halt}
use Rattle.pdp_step.specs.declared.halt.Halt.TheVariants.{Missed, Trapped}
use Rattle.pdp_step.specs.Registers.{plus, minus}
use Rattle.pdp_step.specs.Machine.{Machine, reg_in, with_reg, passed}
use Rattle.pdp_step.specs.Parts.{at_pc, value_in, source_of, IsSource, IsLoaded}
use Rattle.pdp_step.proofs.Banks.{held_back, held_twice, held_other, held_apart, stack_kept}

pub formed_deferred : (m : Machine) (pc : ℕ) (w : Width) (n : Reg) → n ≢ Pc → formed (at_pc m pc) w Deferred n ≡ formed_at (at_pc m pc) (reg_in m n)
unfolding formed
formed_deferred m pc w n other = ap (λ (a : ℕ). formed_at (at_pc m pc) a) (held_other m.r n (pc % 65536) other)

pub formed_increment : (m : Machine) (pc : ℕ) (w : Width) (n : Reg) → n ≢ Pc → formed (at_pc m pc) w Increment n ≡ formed_at (at_pc (with_reg m n (plus (reg_in m n) (step_size w n))) pc) (reg_in m n)
unfolding formed
formed_increment m pc w n other = rw (held_other m.r n (pc % 65536) other, held_apart m.r n (pc % 65536) (plus (reg_in m n) (step_size w n)) other)

pub formed_decrement : (m : Machine) (pc : ℕ) (w : Width) (n : Reg) → n ≢ Pc → formed (at_pc m pc) w Decrement n ≡ formed_at (at_pc (with_reg m n (minus (reg_in m n) (step_size w n))) pc) (minus (reg_in m n) (step_size w n))
unfolding formed
formed_decrement m pc w n other = rw (held_other m.r n (pc % 65536) other, held_apart m.r n (pc % 65536) (minus (reg_in m n) (step_size w n)) other)

step_pc : (w : Width) → step_size w Pc ≡ 2
step_pc Word = refl
step_pc Byte = refl

after_word : (pc : ℕ) → plus (pc % 65536) 2 ≡ (pc + 2) % 65536
after_word pc = omega arith

-- PC passes a word
pub passes : (m : Machine) (pc : ℕ) → length m.r ≡ 8 → with_reg (at_pc m pc) Pc (plus (reg_in (at_pc m pc) Pc) 2) ≡ at_pc m (pc + 2)
passes m pc eight =
    let a = held_back m.r Pc (pc % 65536) eight in
    let b = held_twice m.r Pc (pc % 65536) ((pc + 2) % 65536) in
    ap (λ (v : ℕ). with_reg (at_pc m pc) Pc (plus v 2)) a ∙ (ap (λ (v : ℕ). with_reg (at_pc m pc) Pc v) (after_word pc) ∙ ap (λ (r : List ℕ). record m { r = r }) b)

pub formed_immediate : (m : Machine) (pc : ℕ) (w : Width) → length m.r ≡ 8 → formed (at_pc m pc) w Increment Pc ≡ formed_at (at_pc m (pc + 2)) (pc % 65536)
unfolding formed
formed_immediate m pc w eight = rw (step_pc w, passes m pc eight, held_back m.r Pc (pc % 65536) eight)

-- why memory stops an instruction doesn't hang on PC
pub stop_kept : (m : Machine) (pc : ℕ) (trap : Trap) → stop_of trap (at_pc m pc) ≡ stop_of trap m
stop_kept m pc trap = ap (λ (sp : ℕ). stop_with trap sp) (stack_kept m.r (pc % 65536))

memory_kept : (m : Machine) (pc : ℕ) (r : Result ℕ Trap) → at_memory (at_pc m pc) r ≡ at_memory m r
memory_kept m pc (Ok a) = refl
memory_kept m pc (Err trap) = ap (λ (s : Stop). Err s) (stop_kept m pc trap)

pub formed_absolute : (m : Machine) (pc : ℕ) (w : Width) → length m.r ≡ 8 → formed (at_pc m pc) w IncrementDeferred Pc ≡ then_do (at_memory m (load_word m.image (pc % 65536))) (λ a. formed_at (at_pc m (pc + 2)) a)
unfolding formed word_at
formed_absolute m pc w eight = rw (passes m pc eight, held_back m.r Pc (pc % 65536) eight, memory_kept m (pc + 2) (load_word m.image (pc % 65536)))

-- the word X is added to what a register holds
indexed : (m new : Machine) (r : Result ℕ Trap) (a b : ℕ) → a ≡ b → then_do (at_memory m r) (λ x. formed_at new (plus a x)) ≡ then_do (at_memory m r) (λ x. formed_at new (plus b x))
indexed m new (Ok x) a b is = ap (λ (v : ℕ). formed_at new (plus v x)) is
indexed m new (Err trap) a b is = refl

index_by : (m p : Machine) (w : Width) (n : Reg) → passed m ≡ p → formed m w Index n ≡ then_do (word_at m (reg_in m Pc)) (λ x. formed_at p (plus (reg_in p n) x))
unfolding formed
index_by m p w n is = ap (λ (q : Machine). then_do (word_at m (reg_in m Pc)) (λ x. formed_at q (plus (reg_in q n) x))) is

pc_word : (m : Machine) (pc : ℕ) → length m.r ≡ 8 → word_at (at_pc m pc) (reg_in (at_pc m pc) Pc) ≡ at_memory m (load_word m.image (pc % 65536))
unfolding word_at
pc_word m pc eight = ap (λ (a : ℕ). at_memory (at_pc m pc) (load_word m.image a)) (held_back m.r Pc (pc % 65536) eight) ∙ memory_kept m pc (load_word m.image (pc % 65536))

pub formed_index : (m : Machine) (pc : ℕ) (w : Width) (n : Reg) → n ≢ Pc → length m.r ≡ 8 → formed (at_pc m pc) w Index n ≡ then_do (at_memory m (load_word m.image (pc % 65536))) (λ x. formed_at (at_pc m (pc + 2)) (plus (reg_in m n) x))
formed_index m pc w n other eight =
    index_by (at_pc m pc) (at_pc m (pc + 2)) w n (passes m pc eight)
    ∙ (ap (λ (s : Result ℕ Stop). then_do s (λ x. formed_at (at_pc m (pc + 2)) (plus (reg_in (at_pc m (pc + 2)) n) x))) (pc_word m pc eight)
    ∙ indexed m (at_pc m (pc + 2)) (load_word m.image (pc % 65536)) (reg_in (at_pc m (pc + 2)) n) (reg_in m n) (held_other m.r n ((pc + 2) % 65536) other))

pub formed_relative : (m : Machine) (pc : ℕ) (w : Width) → length m.r ≡ 8 → formed (at_pc m pc) w Index Pc ≡ then_do (at_memory m (load_word m.image (pc % 65536))) (λ x. formed_at (at_pc m (pc + 2)) (plus ((pc + 2) % 65536) x))
formed_relative m pc w eight =
    index_by (at_pc m pc) (at_pc m (pc + 2)) w Pc (passes m pc eight)
    ∙ (ap (λ (s : Result ℕ Stop). then_do s (λ x. formed_at (at_pc m (pc + 2)) (plus (reg_in (at_pc m (pc + 2)) Pc) x))) (pc_word m pc eight)
    ∙ indexed m (at_pc m (pc + 2)) (load_word m.image (pc % 65536)) (reg_in (at_pc m (pc + 2)) Pc) ((pc + 2) % 65536) (held_back m.r Pc ((pc + 2) % 65536) eight))

pub memory_value : (m : Machine) (w : Width) (at : ℕ) → value_at m w (InMemory at) ≡ at_memory m (value_in w m.image at)
unfolding value_at word_at
memory_value m Word at = refl
memory_value m Byte at = refl

-- a source in memory is read where its address was formed
source_read : (m : Machine) (location : Location) (answer : Result ℕ Halt) (r : Result ℕ Trap) → IsLoaded answer r → IsSource answer m (then_do (at_memory m r) (λ value. Ok (record { location = location; value = value; machine = m })))
source_read m location (Ok value) (Ok other) is = ap (λ (x : Result ℕ Trap). source_of (then_do (at_memory m x) (λ v. Ok (record { location = location; value = v; machine = m })))) is
source_read m location (Ok value) (Err trap) is = cc
source_read m location (Err Missed) r is = refl
source_read m location (Err (Trapped trap)) (Ok other) is = cc
source_read m location (Err (Trapped trap)) (Err other) is = ap (λ (x : Result ℕ Trap). source_of (then_do (at_memory m x) (λ v. Ok (record { location = location; value = v; machine = m })))) is

pub source_at : (m new : Machine) (w : Width) (o : Operand) (at : ℕ) (answer : Result ℕ Halt) → formed m w o.mode o.reg ≡ formed_at new at → IsLoaded answer (value_in w new.image at) → IsSource answer new (fetched m w o)
unfolding fetched
source_at m new w o at answer is loaded = rw (is, memory_value new w at) (source_read new (InMemory at) answer (value_in w new.image at) loaded)

pub ruleset reaches = (formed_deferred, formed_increment, formed_decrement, formed_immediate, formed_absolute, formed_index, formed_relative, memory_value)

-- what a source is, by each way that reads it where its address was formed
pub value_deferred : (m : Machine) (pc : ℕ) (w : Width) (n at : ℕ) (answer : Result ℕ Halt) → IsAddressed way.Deferred w (operand_of n) → at ≡ reg_in m (reg_of (n % 0o10)) → IsLoaded answer (value_in w m.image at) → IsSource answer (at_pc m pc) (fetched (at_pc m pc) w (operand_of n))
unfolding operand_of
value_deferred m pc w n at answer is where_ loaded =
    let e = ap (λ (x : Mode). formed (at_pc m pc) w x (reg_of (n % 0o10))) is.0 ∙ (formed_deferred m pc w (reg_of (n % 0o10)) is.1 ∙ ap (λ (a : ℕ). formed_at (at_pc m pc) a) (sym where_)) in
    source_at (at_pc m pc) (at_pc m pc) w (operand_of n) at answer e loaded

formed_with : (m : Machine) (w : Width) (o : Operand) (mode : Mode) (reg : Reg) → o.mode ≡ mode → o.reg ≡ reg → formed m w o.mode o.reg ≡ formed m w mode reg
formed_with m w o mode reg a b = ap (λ (x : Mode). formed m w x o.reg) a ∙ ap (λ (x : Reg). formed m w mode x) b

loaded_then : (m new : Machine) (r : Result ℕ Trap) (x : ℕ) (k : ℕ → ℕ) → Ok x ≡ r → then_do (at_memory m r) (λ v. formed_at new (k v)) ≡ formed_at new (k x)
loaded_then m new r x k is = sym (ap (λ (y : Result ℕ Trap). then_do (at_memory m y) (λ v. formed_at new (k v))) is)

pub value_absolute : (m : Machine) (pc : ℕ) (w : Width) (n at : ℕ) (answer : Result ℕ Halt) → length m.r ≡ 8 → IsAddressed way.Absolute w (operand_of n) → Ok at ≡ load_word m.image (pc % 65536) → IsLoaded answer (value_in w m.image at) → IsSource answer (at_pc m (pc + 2)) (fetched (at_pc m pc) w (operand_of n))
value_absolute m pc w n at answer eight is first loaded =
    let e = formed_with (at_pc m pc) w (operand_of n) IncrementDeferred Pc is.0 is.1 ∙ (formed_absolute m pc w eight ∙ loaded_then m (at_pc m (pc + 2)) (load_word m.image (pc % 65536)) at (λ v. v) first) in
    source_at (at_pc m pc) (at_pc m (pc + 2)) w (operand_of n) at answer e loaded

pub value_relative : (m : Machine) (pc : ℕ) (w : Width) (n x at : ℕ) (answer : Result ℕ Halt) → length m.r ≡ 8 → IsAddressed way.Relative w (operand_of n) → Ok x ≡ load_word m.image (pc % 65536) → at ≡ plus ((pc + 2) % 65536) x → IsLoaded answer (value_in w m.image at) → IsSource answer (at_pc m (pc + 2)) (fetched (at_pc m pc) w (operand_of n))
value_relative m pc w n x at answer eight is first where_ loaded =
    let e = formed_with (at_pc m pc) w (operand_of n) Index Pc is.0 is.1 ∙ (formed_relative m pc w eight ∙ (loaded_then m (at_pc m (pc + 2)) (load_word m.image (pc % 65536)) x (λ v. plus ((pc + 2) % 65536) v) first ∙ ap (λ (a : ℕ). formed_at (at_pc m (pc + 2)) a) (sym where_))) in
    source_at (at_pc m pc) (at_pc m (pc + 2)) w (operand_of n) at answer e loaded

pub value_indexed : (m : Machine) (pc : ℕ) (w : Width) (n x at : ℕ) (answer : Result ℕ Halt) → length m.r ≡ 8 → IsAddressed way.Indexed w (operand_of n) → Ok x ≡ load_word m.image (pc % 65536) → at ≡ plus (reg_in m (reg_of (n % 0o10))) x → IsLoaded answer (value_in w m.image at) → IsSource answer (at_pc m (pc + 2)) (fetched (at_pc m pc) w (operand_of n))
unfolding operand_of
value_indexed m pc w n x at answer eight is first where_ loaded =
    let e = ap (λ (y : Mode). formed (at_pc m pc) w y (reg_of (n % 0o10))) is.0 ∙ (formed_index m pc w (reg_of (n % 0o10)) is.1 eight ∙ (loaded_then m (at_pc m (pc + 2)) (load_word m.image (pc % 65536)) x (λ v. plus (reg_in m (reg_of (n % 0o10))) v) first ∙ ap (λ (a : ℕ). formed_at (at_pc m (pc + 2)) a) (sym where_))) in
    source_at (at_pc m pc) (at_pc m (pc + 2)) w (operand_of n) at answer e loaded

-- where the word of the program isn't read
stopped_by : (m : Machine) (pc : ℕ) (w : Width) (o : Operand) (k : ℕ → Result Formed Stop) (halt : Halt) (r : Result ℕ Trap) → formed (at_pc m pc) w o.mode o.reg ≡ then_do (at_memory m r) k → IsLoaded (Err halt) r → IsSource (Err halt) (at_pc m pc) (fetched (at_pc m pc) w o)
unfolding fetched
stopped_by m pc w o k Missed r is loaded = refl
stopped_by m pc w o k (Trapped trap) (Ok v) is loaded = cc
stopped_by m pc w o k (Trapped trap) (Err other) is loaded =
    let same : trap ≡ other = cc in
    let e : formed (at_pc m pc) w o.mode o.reg ≡ Err (stop_of trap (at_pc m pc)) = is ∙ ap (λ (s : Stop). Err s) (ap (λ (t : Trap). stop_of t m) (sym same) ∙ sym (stop_kept m pc trap)) in
    rw e

pub stopped_absolute : (m : Machine) (pc : ℕ) (w : Width) (n : ℕ) (halt : Halt) → length m.r ≡ 8 → IsAddressed way.Absolute w (operand_of n) → IsLoaded (Err halt) (load_word m.image (pc % 65536)) → IsSource (Err halt) (at_pc m pc) (fetched (at_pc m pc) w (operand_of n))
stopped_absolute m pc w n halt eight is loaded = stopped_by m pc w (operand_of n) (λ a. formed_at (at_pc m (pc + 2)) a) halt (load_word m.image (pc % 65536)) (formed_with (at_pc m pc) w (operand_of n) IncrementDeferred Pc is.0 is.1 ∙ formed_absolute m pc w eight) loaded

pub stopped_relative : (m : Machine) (pc : ℕ) (w : Width) (n : ℕ) (halt : Halt) → length m.r ≡ 8 → IsAddressed way.Relative w (operand_of n) → IsLoaded (Err halt) (load_word m.image (pc % 65536)) → IsSource (Err halt) (at_pc m pc) (fetched (at_pc m pc) w (operand_of n))
stopped_relative m pc w n halt eight is loaded = stopped_by m pc w (operand_of n) (λ x. formed_at (at_pc m (pc + 2)) (plus ((pc + 2) % 65536) x)) halt (load_word m.image (pc % 65536)) (formed_with (at_pc m pc) w (operand_of n) Index Pc is.0 is.1 ∙ formed_relative m pc w eight) loaded

pub stopped_indexed : (m : Machine) (pc : ℕ) (w : Width) (n : ℕ) (halt : Halt) → length m.r ≡ 8 → IsAddressed way.Indexed w (operand_of n) → IsLoaded (Err halt) (load_word m.image (pc % 65536)) → IsSource (Err halt) (at_pc m pc) (fetched (at_pc m pc) w (operand_of n))
unfolding operand_of
stopped_indexed m pc w n halt eight is loaded = stopped_by m pc w (operand_of n) (λ x. formed_at (at_pc m (pc + 2)) (plus (reg_in m (reg_of (n % 0o10))) x)) halt (load_word m.image (pc % 65536)) (ap (λ (y : Mode). formed (at_pc m pc) w y (reg_of (n % 0o10))) is.0 ∙ formed_index m pc w (reg_of (n % 0o10)) is.1 eight) loaded

pub value_immediate : (m : Machine) (pc : ℕ) (w : Width) (n value : ℕ) → length m.r ≡ 8 → IsAddressed way.Immediate w (operand_of n) → IsLoaded (Ok value) (value_in w m.image (pc % 65536)) → IsSource (Ok value) (at_pc m (pc + 2)) (fetched (at_pc m pc) w (operand_of n))
value_immediate m pc w n value eight is loaded =
    source_at (at_pc m pc) (at_pc m (pc + 2)) w (operand_of n) (pc % 65536) (Ok value) (formed_with (at_pc m pc) w (operand_of n) Increment Pc is.0 is.1 ∙ formed_immediate m pc w eight) loaded

moved_stop : (m : Machine) (pc : ℕ) (halt : Halt) (f : Result Fetched Stop) → IsSource (Err halt) (at_pc m (pc + 2)) f → IsSource (Err halt) (at_pc m pc) f
moved_stop m pc Missed f is = refl
moved_stop m pc (Trapped trap) f is = ap (λ (s : Stop). Err s) (stop_kept m pc trap ∙ sym (stop_kept m (pc + 2) trap)) ∙ is

pub stopped_immediate : (m : Machine) (pc : ℕ) (w : Width) (n : ℕ) (halt : Halt) → length m.r ≡ 8 → IsAddressed way.Immediate w (operand_of n) → IsLoaded (Err halt) (value_in w m.image (pc % 65536)) → IsSource (Err halt) (at_pc m pc) (fetched (at_pc m pc) w (operand_of n))
stopped_immediate m pc w n halt eight is loaded =
    moved_stop m pc halt (fetched (at_pc m pc) w (operand_of n)) (source_at (at_pc m pc) (at_pc m (pc + 2)) w (operand_of n) (pc % 65536) (Err halt) (formed_with (at_pc m pc) w (operand_of n) Increment Pc is.0 is.1 ∙ formed_immediate m pc w eight) loaded)

pub value_increment : (m : Machine) (pc : ℕ) (w : Width) (n at up : ℕ) (answer : Result ℕ Halt) → IsAddressed way.Autoincrement w (operand_of n) → ((r : Reg) → IsStepped w r → r ≢ Pc) → at ≡ reg_in m (reg_of (n % 0o10)) → up ≡ plus at (step_size w (reg_of (n % 0o10))) → IsLoaded answer (value_in w m.image at) → IsSource answer (at_pc (with_reg m (reg_of (n % 0o10)) up) pc) (fetched (at_pc m pc) w (operand_of n))
unfolding operand_of
value_increment m pc w n at up answer is other where_ step loaded =
    let up_is : up ≡ plus (reg_in m (reg_of (n % 0o10))) (step_size w (reg_of (n % 0o10))) = step ∙ ap (λ (a : ℕ). plus a (step_size w (reg_of (n % 0o10)))) where_ in
    let e = ap (λ (x : Mode). formed (at_pc m pc) w x (reg_of (n % 0o10))) is.0 ∙ (formed_increment m pc w (reg_of (n % 0o10)) (other (reg_of (n % 0o10)) is.1) ∙ (ap (λ (v : ℕ). formed_at (at_pc (with_reg m (reg_of (n % 0o10)) v) pc) (reg_in m (reg_of (n % 0o10)))) (sym up_is) ∙ ap (λ (a : ℕ). formed_at (at_pc (with_reg m (reg_of (n % 0o10)) up) pc) a) (sym where_))) in
    source_at (at_pc m pc) (at_pc (with_reg m (reg_of (n % 0o10)) up) pc) w (operand_of n) at answer e loaded

pub value_decrement : (m : Machine) (pc : ℕ) (w : Width) (n at : ℕ) (answer : Result ℕ Halt) → IsAddressed way.Autodecrement w (operand_of n) → ((r : Reg) → IsStepped w r → r ≢ Pc) → at ≡ minus (reg_in m (reg_of (n % 0o10))) (step_size w (reg_of (n % 0o10))) → IsLoaded answer (value_in w m.image at) → IsSource answer (at_pc (with_reg m (reg_of (n % 0o10)) at) pc) (fetched (at_pc m pc) w (operand_of n))
unfolding operand_of
value_decrement m pc w n at answer is other where_ loaded =
    let e = ap (λ (x : Mode). formed (at_pc m pc) w x (reg_of (n % 0o10))) is.0 ∙ (formed_decrement m pc w (reg_of (n % 0o10)) (other (reg_of (n % 0o10)) is.1) ∙ ap (λ (a : ℕ). formed_at (at_pc (with_reg m (reg_of (n % 0o10)) a) pc) a) (sym where_)) in
    source_at (at_pc m pc) (at_pc (with_reg m (reg_of (n % 0o10)) at) pc) w (operand_of n) at answer e loaded

pub steps_apart : (w : Width) (r : Reg) → IsStepped w r → r ≢ Pc
steps_apart Word r is = is
steps_apart Byte r is = is.0

pub ruleset stops = (stopped_absolute, stopped_relative, stopped_indexed, stopped_immediate)
