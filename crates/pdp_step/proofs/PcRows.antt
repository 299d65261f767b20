-- The end of a row that moves PC.
use Rattle.std.proofs.Common.{◌≡◌, ℕ, ◌*◌, ◌%◌, Bool, true, false, Result, Ok, Err, List, length, refl, sym, ap, ◌∙◌, arith}
use Rattle.std.proofs.lemmas.List.{get_or-set_other, length-set}
use Rattle.v6_base.specs.declared.space.Trap.{Trap}
use Rattle.v6_base.specs.Image.{Image}
use Rattle.v6_base.specs.Access.{then_do, store_word, image_after, answer_of}
use Rattle.pdp_decode.specs.declared.instr.Reg.{Reg}
use Rattle.pdp_decode.specs.declared.instr.Reg.TheVariants.{R5, Sp, Pc}
use Rattle.pdp_decode.specs.declared.instr.Width.TheVariants.{Word}
use Rattle.pdp_decode.specs.declared.instr.Operand.{Operand}
use Rattle.pdp_step.specs.declared.halt.Halt.{Halt}
use Rattle.pdp_step.specs.declared.halt.Halt.TheVariants.{Trapped}
use Rattle.pdp_step.specs.Registers.{plus, minus, held_in, holding}
use Rattle.pdp_step.specs.Machine.{Machine, reg_in, with_reg, with_codes}
use Rattle.pdp_step.specs.Operands.{Stop, stop_of, stop_with, Formed, formed}
use Rattle.pdp_step.specs.Rows.{Popped, without_write, distance_of, branched, address_of, jumped, jumped_to_subroutine, popped, returned, marked, resumed}
use Rattle.pdp_step.specs.Instruction.{go, stored}
use Rattle.pdp_step.specs.After.{Done, Stopped, after_write, finish_of, finished, stored_by, popped_by}
use Rattle.pdp_step.specs.Parts.{at_pc, IsReached, Ends, halted_by, link_effect}
use Rattle.pdp_step.proofs.Banks.{held_back, held_twice, stack_kept}
use Rattle.pdp_step.proofs.RowEnds.{ends_as, stopped_as, reached_halts, plain_done, stored_ends}

-- a branch from where PC stands
pub branched_at : (r : List ℕ) (pc to : ℕ) (taken : Bool) (offset : ℕ) → length r ≡ 8 → (taken ≡ true → to ≡ plus (pc % 65536) (distance_of offset)) → (taken ≡ false → to ≡ pc % 65536) → holding r Pc to ≡ branched (holding r Pc (pc % 65536)) taken offset
unfolding branched
branched_at r pc to true offset eight goes stays =
    ap (λ (x : ℕ). holding r Pc x) (goes refl ∙ ap (λ (x : ℕ). plus x (distance_of offset)) (sym (held_back r Pc (pc % 65536) eight)))
    ∙ sym (held_twice r Pc (pc % 65536) (plus (held_in (holding r Pc (pc % 65536)) Pc) (distance_of offset)))
branched_at r pc to false offset eight goes stays = ap (λ (x : ℕ). holding r Pc x) (stays refl)

pub jumped_halts : (old new : Machine) (pc from : ℕ) (d : Operand) (halt : Halt) → new.image ≡ old.image → IsReached (Err halt) (at_pc new pc) (formed (at_pc old from) Word d.mode d.reg) → Ends (Err halt) new (finished old.image (go (jumped (at_pc old from) d)))
unfolding jumped
jumped_halts old new pc from d halt image is = reached_halts new pc old.image halt (formed (at_pc old from) Word d.mode d.reg) (λ dest. Ok (without_write (with_reg dest.machine Pc (address_of dest.location)))) image is

pub jumped_done : (old mid last : Machine) (pc from at : ℕ) (d : Operand) → mid.image ≡ old.image → IsReached (Ok at) (at_pc mid pc) (formed (at_pc old from) Word d.mode d.reg) → last ≡ with_reg mid Pc at → Ends (Ok tt) last (finished old.image (go (jumped (at_pc old from) d)))
unfolding jumped
jumped_done old mid last pc from at d image is set =
    let twice : with_reg mid Pc at ≡ with_reg (at_pc mid pc) Pc at = ap (λ (r : List ℕ). record mid { r = r }) (sym (held_twice mid.r Pc (pc % 65536) at)) in
    ends_as (Ok tt) last old.image (then_do (formed (at_pc old from) Word d.mode d.reg) (λ dest. Ok (without_write (with_reg dest.machine Pc (address_of dest.location))))) (Ok (without_write (with_reg (at_pc mid pc) Pc at))) (ap (λ (f : Result Formed Stop). then_do f (λ dest. Ok (without_write (with_reg dest.machine Pc (address_of dest.location))))) (sym is)) (plain_done last (with_reg (at_pc mid pc) Pc at) old.image (set ∙ twice) image)

-- what PC holds makes no difference to R6, nor R6 to PC
pc_under : (r : List ℕ) (v sp : ℕ) → length r ≡ 8 → held_in (holding (holding r Pc v) Sp sp) Pc ≡ v
pc_under r v sp eight = get_or-set_other (holding r Pc v) 6 7 sp 0 (λ e. absurd (omega (arith, e))) ∙ held_back r Pc v eight

-- JSR where the link is pushed, and where it can't be
pub link_done : (old mid last : Machine) (pc sp link at : ℕ) (n : Reg) (s : Result Image Trap) → length old.r ≡ 8 → sp ≡ minus (reg_in old Sp) 2 → link ≡ reg_in (at_pc old pc) n → store_word old.image sp link ≡ s → answer_of s ≡ Ok tt → mid ≡ record (with_reg (at_pc old pc) Sp sp) { image = image_after old.image s } → last ≡ with_reg (with_reg mid n (pc % 65536)) Pc at → Done last ≡ finish_of old.image (link_effect (at_pc old pc) n at)
unfolding finish_of stored
link_done old mid last pc sp link at n (Ok new) eight sp_is link_is stores answers mid_is last_is =
    let below : minus (reg_in (at_pc old pc) Sp) 2 ≡ sp = ap (λ (x : ℕ). minus x 2) (stack_kept old.r (pc % 65536)) ∙ sym sp_is in
    let write : store_word old.image (minus (reg_in (at_pc old pc) Sp) 2) (reg_in (at_pc old pc) n) ≡ Ok new = ap (λ (x : ℕ). store_word old.image x (reg_in (at_pc old pc) n)) below ∙ (ap (λ (x : ℕ). store_word old.image sp x) (sym link_is) ∙ stores) in
    let kept : pc % 65536 ≡ held_in (holding (at_pc old pc).r Sp sp) Pc = sym (pc_under old.r (pc % 65536) sp eight) in
    let first : last ≡ record (with_reg (with_reg (with_reg (at_pc old pc) Sp sp) n (pc % 65536)) Pc at) { image = new } = last_is ∙ ap (λ (x : Machine). with_reg (with_reg x n (pc % 65536)) Pc at) mid_is in
    let second : last ≡ record (with_reg (with_reg (with_reg (at_pc old pc) Sp sp) n (held_in (holding (at_pc old pc).r Sp sp) Pc)) Pc at) { image = new } = first ∙ ap (λ (x : ℕ). record (with_reg (with_reg (with_reg (at_pc old pc) Sp sp) n x) Pc at) { image = new }) kept in
    let third : last ≡ record (with_reg (with_reg (with_reg (at_pc old pc) Sp (minus (reg_in (at_pc old pc) Sp) 2)) n (held_in (holding (at_pc old pc).r Sp (minus (reg_in (at_pc old pc) Sp) 2)) Pc)) Pc at) { image = new } = second ∙ ap (λ (x : ℕ). record (with_reg (with_reg (with_reg (at_pc old pc) Sp x) n (held_in (holding (at_pc old pc).r Sp x) Pc)) Pc at) { image = new }) (sym below) in
    ap (λ (x : Machine). Done x) third ∙ ap (λ (r : Result Image Trap). after_write old.image (link_effect (at_pc old pc) n at) r) (sym write)
link_done old mid last pc sp link at n (Err trap) eight sp_is link_is stores answers mid_is last_is = cc

pub link_stopped : (old mid : Machine) (pc sp link at : ℕ) (n : Reg) (trap : Trap) (s : Result Image Trap) → length old.r ≡ 8 → sp ≡ minus (reg_in old Sp) 2 → link ≡ reg_in (at_pc old pc) n → store_word old.image sp link ≡ s → answer_of s ≡ Err trap → mid ≡ record (with_reg (at_pc old pc) Sp sp) { image = image_after old.image s } → Stopped (stop_of trap mid) mid.image ≡ finish_of old.image (link_effect (at_pc old pc) n at)
unfolding finish_of stored
link_stopped old mid pc sp link at n trap (Ok new) eight sp_is link_is stores answers mid_is = cc
link_stopped old mid pc sp link at n trap (Err other) eight sp_is link_is stores answers mid_is =
    let same : other ≡ trap = cc in
    let refused : Trap → Result Image Trap = λ x. Err x in
    let below : minus (reg_in (at_pc old pc) Sp) 2 ≡ sp = ap (λ (x : ℕ). minus x 2) (stack_kept old.r (pc % 65536)) ∙ sym sp_is in
    let write : store_word old.image (minus (reg_in (at_pc old pc) Sp) 2) (reg_in (at_pc old pc) n) ≡ Err trap = ap (λ (x : ℕ). store_word old.image x (reg_in (at_pc old pc) n)) below ∙ (ap (λ (x : ℕ). store_word old.image sp x) (sym link_is) ∙ (stores ∙ ap refused same)) in
    let held : reg_in mid Sp ≡ minus (reg_in (at_pc old pc) Sp) 2 = ap (λ (x : Machine). reg_in x Sp) mid_is ∙ (held_back (at_pc old pc).r Sp sp (length-set old.r 7 (pc % 65536) ∙ eight) ∙ sym below) in
    let image : mid.image ≡ old.image = ap (λ (x : Machine). x.image) mid_is in
    ap (λ (x : ℕ). Stopped (stop_with trap x) mid.image) held ∙ (ap (λ (i : Image). Stopped (stop_with trap (minus (reg_in (at_pc old pc) Sp) 2)) i) image ∙ ap (λ (r : Result Image Trap). after_write old.image (link_effect (at_pc old pc) n at) r) (sym write))

pub linked : (answer : Result (Unit {0}) Trap) (old mid last : Machine) (pc from at : ℕ) (n : Reg) (d : Operand) → mid.image ≡ old.image → IsReached (Ok at) (at_pc mid pc) (formed (at_pc old from) Word d.mode d.reg) → stored_by answer last ≡ finish_of mid.image (link_effect (at_pc mid pc) n at) → Ends (halted_by answer) last (finished old.image (go (jumped_to_subroutine (at_pc old from) n d)))
unfolding jumped_to_subroutine
linked answer old mid last pc from at n d image is stores =
    ends_as (halted_by answer) last old.image (then_do (formed (at_pc old from) Word d.mode d.reg) (λ dest. Ok (link_effect dest.machine n (address_of dest.location)))) (Ok (link_effect (at_pc mid pc) n at)) (ap (λ (f : Result Formed Stop). then_do f (λ dest. Ok (link_effect dest.machine n (address_of dest.location)))) (sym is)) (stored_ends answer last (finish_of old.image (link_effect (at_pc mid pc) n at)) (stores ∙ ap (λ (i : Image). finish_of i (link_effect (at_pc mid pc) n at)) image))

pub link_halts : (old new : Machine) (pc from : ℕ) (n : Reg) (d : Operand) (halt : Halt) → new.image ≡ old.image → IsReached (Err halt) (at_pc new pc) (formed (at_pc old from) Word d.mode d.reg) → Ends (Err halt) new (finished old.image (go (jumped_to_subroutine (at_pc old from) n d)))
unfolding jumped_to_subroutine
link_halts old new pc from n d halt image is = reached_halts new pc old.image halt (formed (at_pc old from) Word d.mode d.reg) (λ dest. Ok (link_effect dest.machine n (address_of dest.location))) image is

-- the place of the word that R6 names, where R6 was put there, and where it is as it was
pub top_at : (m down new : Machine) (sp to a : ℕ) → length m.r ≡ 8 → down ≡ with_reg m Sp sp → new ≡ with_reg down Pc to → a ≡ sp → a ≡ reg_in new Sp
top_at m down new sp to a eight down_is new_is is =
    is ∙ (sym (held_back m.r Sp sp eight) ∙ (ap (λ (x : Machine). reg_in x Sp) (sym down_is) ∙ (sym (stack_kept down.r to) ∙ ap (λ (x : Machine). reg_in x Sp) (sym new_is))))

pub top_kept : (old m new : Machine) (pc to sp a : ℕ) → m ≡ at_pc old pc → new ≡ with_reg m Pc to → sp ≡ reg_in old Sp → a ≡ sp → a ≡ reg_in new Sp
top_kept old m new pc to sp a m_is new_is sp_is is =
    is ∙ (sp_is ∙ (sym (stack_kept old.r (pc % 65536)) ∙ (ap (λ (x : Machine). reg_in x Sp) (sym m_is) ∙ (sym (stack_kept m.r to) ∙ ap (λ (x : Machine). reg_in x Sp) (sym new_is)))))

pub popped_done : (new last : Machine) (image : Image) (value : ℕ) (top : Result Popped Stop) (k : ℕ → Machine → Machine) → popped_by (Ok value) new ≡ top → last ≡ k value new → (k value new).image ≡ image → Ends (Ok tt) last (finished image (go (then_do top (λ x. Ok (without_write (k x.value x.machine))))))
popped_done new last image value top k is ends same =
    ends_as (Ok tt) last image (then_do top (λ x. Ok (without_write (k x.value x.machine)))) (Ok (without_write (k value new))) (ap (λ (x : Result Popped Stop). then_do x (λ y. Ok (without_write (k y.value y.machine)))) (sym is)) (plain_done last (k value new) image ends same)

pub returned_done : (old mid new last : Machine) (pc value : ℕ) (n : Reg) → mid ≡ with_reg (at_pc old pc) Pc (reg_in (at_pc old pc) n) → popped_by (Ok value) new ≡ popped mid → new.image ≡ mid.image → last ≡ with_reg new n value → Ends (Ok tt) last (finished old.image (go (returned (at_pc old pc) n)))
unfolding returned
returned_done old mid new last pc value n mid_is is image set =
    popped_done new last old.image value (popped (with_reg (at_pc old pc) Pc (reg_in (at_pc old pc) n))) (λ (x : ℕ) (m : Machine). with_reg m n x) (is ∙ ap popped mid_is) set (image ∙ ap (λ (x : Machine). x.image) mid_is)

pub returned_stopped : (old mid new : Machine) (pc : ℕ) (trap : Trap) (n : Reg) → mid ≡ with_reg (at_pc old pc) Pc (reg_in (at_pc old pc) n) → popped_by (Err trap) new ≡ popped mid → new.image ≡ mid.image → Ends (Err (Trapped trap)) new (finished old.image (go (returned (at_pc old pc) n)))
unfolding returned
returned_stopped old mid new pc trap n mid_is is image =
    stopped_as new old.image trap (popped (with_reg (at_pc old pc) Pc (reg_in (at_pc old pc) n))) (λ x. Ok (without_write (with_reg x.machine n x.value))) (image ∙ ap (λ (x : Machine). x.image) mid_is) (is ∙ ap popped mid_is)

-- MARK: where PC stands R6 is put, before R5 is taken for PC
marks : (old : Machine) (pc sp words : ℕ) → length old.r ≡ 8 → sp ≡ plus (pc % 65536) (2 * words) → with_reg (at_pc old pc) Sp sp ≡ with_reg (at_pc old pc) Sp (plus (reg_in (at_pc old pc) Pc) (2 * words))
marks old pc sp words eight is = ap (λ (x : ℕ). with_reg (at_pc old pc) Sp x) (is ∙ ap (λ (x : ℕ). plus x (2 * words)) (sym (held_back old.r Pc (pc % 65536) eight)))

pub marked_done : (old mid new last : Machine) (pc sp words value : ℕ) → length old.r ≡ 8 → sp ≡ plus (pc % 65536) (2 * words) → mid ≡ with_reg (with_reg (at_pc old pc) Sp sp) Pc (reg_in (with_reg (at_pc old pc) Sp sp) R5) → popped_by (Ok value) new ≡ popped mid → new.image ≡ mid.image → last ≡ with_reg new R5 value → Ends (Ok tt) last (finished old.image (go (marked (at_pc old pc) words)))
unfolding marked
marked_done old mid new last pc sp words value eight sp_is mid_is is image set =
    let up : mid ≡ with_reg (with_reg (at_pc old pc) Sp (plus (reg_in (at_pc old pc) Pc) (2 * words))) Pc (reg_in (with_reg (at_pc old pc) Sp (plus (reg_in (at_pc old pc) Pc) (2 * words))) R5) = mid_is ∙ ap (λ (x : Machine). with_reg x Pc (reg_in x R5)) (marks old pc sp words eight sp_is) in
    popped_done new last old.image value (popped (with_reg (with_reg (at_pc old pc) Sp (plus (reg_in (at_pc old pc) Pc) (2 * words))) Pc (reg_in (with_reg (at_pc old pc) Sp (plus (reg_in (at_pc old pc) Pc) (2 * words))) R5))) (λ (x : ℕ) (m : Machine). with_reg m R5 x) (is ∙ ap popped up) set (image ∙ ap (λ (x : Machine). x.image) mid_is)

pub marked_stopped : (old mid new : Machine) (pc sp words : ℕ) (trap : Trap) → length old.r ≡ 8 → sp ≡ plus (pc % 65536) (2 * words) → mid ≡ with_reg (with_reg (at_pc old pc) Sp sp) Pc (reg_in (with_reg (at_pc old pc) Sp sp) R5) → popped_by (Err trap) new ≡ popped mid → new.image ≡ mid.image → Ends (Err (Trapped trap)) new (finished old.image (go (marked (at_pc old pc) words)))
unfolding marked
marked_stopped old mid new pc sp words trap eight sp_is mid_is is image =
    let up : mid ≡ with_reg (with_reg (at_pc old pc) Sp (plus (reg_in (at_pc old pc) Pc) (2 * words))) Pc (reg_in (with_reg (at_pc old pc) Sp (plus (reg_in (at_pc old pc) Pc) (2 * words))) R5) = mid_is ∙ ap (λ (x : Machine). with_reg x Pc (reg_in x R5)) (marks old pc sp words eight sp_is) in
    stopped_as new old.image trap (popped (with_reg (with_reg (at_pc old pc) Sp (plus (reg_in (at_pc old pc) Pc) (2 * words))) Pc (reg_in (with_reg (at_pc old pc) Sp (plus (reg_in (at_pc old pc) Pc) (2 * words))) R5))) (λ x. Ok (without_write (with_reg x.machine R5 x.value))) (image ∙ ap (λ (x : Machine). x.image) mid_is) (is ∙ ap popped up)

-- RTI and RTT
pub resumed_first : (old new : Machine) (trap : Trap) → popped_by (Err trap) new ≡ popped old → new.image ≡ old.image → Ends (Err (Trapped trap)) new (finished old.image (go (resumed old)))
unfolding resumed
resumed_first old new trap is image = stopped_as new old.image trap (popped old) (λ pc. then_do (popped pc.machine) (λ ps. Ok (without_write (with_codes (with_reg ps.machine Pc pc.value) (ps.value % 16))))) image is

pub resumed_second : (old mid new : Machine) (to : ℕ) (trap : Trap) → popped_by (Ok to) mid ≡ popped old → popped_by (Err trap) new ≡ popped mid → new.image ≡ old.image → Ends (Err (Trapped trap)) new (finished old.image (go (resumed old)))
unfolding resumed
resumed_second old mid new to trap first is image =
    ends_as (Err (Trapped trap)) new old.image (then_do (popped old) (λ pc. then_do (popped pc.machine) (λ ps. Ok (without_write (with_codes (with_reg ps.machine Pc pc.value) (ps.value % 16)))))) (then_do (popped mid) (λ ps. Ok (without_write (with_codes (with_reg ps.machine Pc to) (ps.value % 16))))) (ap (λ (x : Result Popped Stop). then_do x (λ pc. then_do (popped pc.machine) (λ ps. Ok (without_write (with_codes (with_reg ps.machine Pc pc.value) (ps.value % 16)))))) (sym first)) (stopped_as new old.image trap (popped mid) (λ ps. Ok (without_write (with_codes (with_reg ps.machine Pc to) (ps.value % 16)))) image is)

pub resumed_done : (old mid new last : Machine) (to status : ℕ) → popped_by (Ok to) mid ≡ popped old → popped_by (Ok status) new ≡ popped mid → new.image ≡ old.image → last ≡ with_codes (with_reg new Pc to) (status % 16) → Ends (Ok tt) last (finished old.image (go (resumed old)))
unfolding resumed
resumed_done old mid new last to status first is image set =
    ends_as (Ok tt) last old.image (then_do (popped old) (λ pc. then_do (popped pc.machine) (λ ps. Ok (without_write (with_codes (with_reg ps.machine Pc pc.value) (ps.value % 16)))))) (then_do (popped mid) (λ ps. Ok (without_write (with_codes (with_reg ps.machine Pc to) (ps.value % 16))))) (ap (λ (x : Result Popped Stop). then_do x (λ pc. then_do (popped pc.machine) (λ ps. Ok (without_write (with_codes (with_reg ps.machine Pc pc.value) (ps.value % 16)))))) (sym first)) (popped_done new last old.image status (popped mid) (λ (x : ℕ) (m : Machine). with_codes (with_reg m Pc to) (x % 16)) is set image)
