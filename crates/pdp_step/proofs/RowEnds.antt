-- The end of a row, by what its parts answer: a source is read, a destination is located, and what is made is stored.
use Rattle.std.proofs.Common.{◌≡◌, ℕ, ◌/◌, ◌%◌, Bool, false, Result, Ok, Err, refl, sym, ap, ◌∙◌, subst, arith}
use Rattle.v6_base.specs.declared.space.Trap.{Trap}
use Rattle.v6_base.specs.Image.{Image}
use Rattle.v6_base.specs.Access.{then_do}
use Rattle.pdp_decode.specs.declared.instr.Reg.{Reg}
use Rattle.pdp_decode.specs.declared.instr.Mode.TheVariants.{Register}
use Rattle.pdp_decode.specs.Decode.{reg_of, mode_of, operand_of}
use Rattle.pdp_decode.specs.declared.instr.Width.{Width}
use Rattle.pdp_decode.specs.declared.instr.Width.TheVariants.{Word}
use Rattle.pdp_decode.specs.declared.instr.Operand.{Operand}
use Rattle.pdp_step.specs.declared.halt.Halt.{Halt}
use Rattle.pdp_step.specs.declared.halt.Halt.TheVariants.{Missed, Trapped}
use Rattle.pdp_step.specs.Machine.{Machine, reg_in, with_reg, with_codes, carry_in}
use Rattle.pdp_step.specs.Operands.{Location, Stop, stop_of, at_memory, Formed, Fetched, formed, value_at, fetched}
use Rattle.pdp_step.specs.Rows.{Effect, without_write, stored_result, moved_result, moved, compared, joined, modified, tested, replaced, multiplied, divided, division_of, shifted_reg, shifted_pair, with_pair, pair_in}
use Rattle.pdp_step.specs.Arithmetic.{ExclusiveOr, result_of, combine_of}
use Rattle.pdp_step.specs.Extended.{product_of, product_codes, shift_of, shift_codes}
use Rattle.pdp_step.specs.declared.arithmetic.Made.{Made}
use Rattle.pdp_decode.specs.Numbers.{flag_bits}
use Rattle.pdp_step.specs.Registers.{codes_in}
use Rattle.pdp_step.specs.Instruction.{go, stored}
use Rattle.pdp_step.specs.After.{Finished, Done, Stopped, finish_of, finished, stored_by}
use Rattle.pdp_step.specs.Parts.{at_pc, Source, IsSource, IsReached, IsLocated, Ends, halted_by}
use Rattle.pdp_step.proofs.Reached.{stop_kept}

-- an operand that lies somewhere, and what is found there
abbrev pub lies : Location → Machine → Result Formed Stop
lies l m = Ok (record { location = l; machine = m })

abbrev pub found : Location → Machine → ℕ → Result Fetched Stop
found l m value = Ok (record { location = l; value = value; machine = m })

abbrev pub source : ℕ → Machine → Source
source value m = record { value = value; machine = m }

abbrev pub read_at : Width → Formed → Result Fetched Stop
read_at w f = then_do (value_at f.machine w f.location) (found f.location f.machine)

-- a plan that is the same comes to the same end
pub ends_as : (answer : Result (Unit {0}) Halt) (new : Machine) (image : Image) (a b : Result Effect Stop) → a ≡ b → Ends answer new (finished image (go b)) → Ends answer new (finished image (go a))
ends_as answer new image a b is ends = subst (λ (x : Result Effect Stop). Ends answer new (finished image (go x))) (sym is) ends

-- what stops a part stops the row
pub stopped_as : {A : Type 0} (new : Machine) (image : Image) (trap : Trap) (part : Result A Stop) (k : A → Result Effect Stop) → new.image ≡ image → Err (stop_of trap new) ≡ part → Ends (Err (Trapped trap)) new (finished image (go (then_do part k)))
stopped_as {A = A} new image trap part k same is = subst (λ (x : Result A Stop). Ends (Err (Trapped trap)) new (finished image (go (then_do x k)))) is (ap (λ (i : Image). Stopped (stop_of trap new) i) same)

-- PC that was set aside makes no difference to it
pub stop_aside : {A : Type 0} (new : Machine) (pc : ℕ) (trap : Trap) (part : Result A Stop) → Err (stop_of trap (at_pc new pc)) ≡ part → Err (stop_of trap new) ≡ part
stop_aside {A = A} new pc trap part is = let P : Stop → Result A Stop = λ s. Err s in ap P (sym (stop_kept new pc trap)) ∙ is

pub source_halts : (new : Machine) (pc : ℕ) (image : Image) (halt : Halt) (f : Result Fetched Stop) (k : ℕ → Machine → Result Effect Stop) → new.image ≡ image → IsSource (Err halt) (at_pc new pc) f → Ends (Err halt) new (finished image (go (then_do f (λ x. k x.value x.machine))))
source_halts new pc image Missed f k same is = refl
source_halts new pc image (Trapped trap) (Ok other) k same is = cc
source_halts new pc image (Trapped trap) (Err stop) k same is =
    let at : stop_of trap (at_pc new pc) ≡ stop = cc in
    let end : stop_of trap new ≡ stop = sym (stop_kept new pc trap) ∙ at in
    ap (λ (s : Stop). Stopped s new.image) end ∙ ap (λ (i : Image). Stopped stop i) same

pub located_halts : (new : Machine) (pc : ℕ) (image : Image) (halt : Halt) (where_ : ℕ → Location) (f : Result Formed Stop) (k : Formed → Result Effect Stop) → new.image ≡ image → IsLocated (Err halt) where_ (at_pc new pc) f → Ends (Err halt) new (finished image (go (then_do f k)))
located_halts new pc image Missed where_ f k same is = refl
located_halts new pc image (Trapped trap) where_ f k same is = stopped_as new image trap f k same (stop_aside new pc trap f is)

pub reached_halts : (new : Machine) (pc : ℕ) (image : Image) (halt : Halt) (f : Result Formed Stop) (k : Formed → Result Effect Stop) → new.image ≡ image → IsReached (Err halt) (at_pc new pc) f → Ends (Err halt) new (finished image (go (then_do f k)))
reached_halts new pc image Missed f k same is = refl
reached_halts new pc image (Trapped trap) f k same is = stopped_as new image trap f k same (stop_aside new pc trap f is)

-- a source that was read
pub source_then : {A : Type 0} (new : Machine) (value : ℕ) (f : Result Fetched Stop) (k : ℕ → Machine → Result A Stop) → IsSource (Ok value) new f → then_do f (λ x. k x.value x.machine) ≡ k value new
source_then new value (Ok other) k is =
    let e : source value new ≡ source other.value other.machine = cc in
    ap (λ (x : Source). k x.value x.machine) (sym e)
source_then new value (Err stop) k is = cc

-- a row goes on after its source
pub source_goes : (answer : Result (Unit {0}) Halt) (last new : Machine) (pc : ℕ) (image : Image) (value : ℕ) (f : Result Fetched Stop) (k : ℕ → Machine → Result Effect Stop) → new.image ≡ image → IsSource (Ok value) (at_pc new pc) f → Ends answer last (finished new.image (go (k value (at_pc new pc)))) → Ends answer last (finished image (go (then_do f (λ x. k x.value x.machine))))
source_goes answer last new pc image value f k same is ends =
    ends_as answer last image (then_do f (λ x. k x.value x.machine)) (k value (at_pc new pc)) (source_then (at_pc new pc) value f k is) (subst (λ (i : Image). Ends answer last (finished i (go (k value (at_pc new pc))))) same ends)

-- a row that changes registers and codes alone
pub plain_done : (new m : Machine) (image : Image) → new ≡ m → m.image ≡ image → Done new ≡ finish_of image (without_write m)
unfolding finish_of stored
plain_done new m image is same = ap (λ (x : Machine). Done x) is ∙ ap (λ (i : Image). Done (record m { image = i })) same

pub source_done : (new last : Machine) (image : Image) (value : ℕ) (f : Result Fetched Stop) (k : ℕ → Machine → Machine) → IsSource (Ok value) new f → last ≡ k value new → (k value new).image ≡ image → Ends (Ok tt) last (finished image (go (then_do f (λ x. Ok (without_write (k x.value x.machine))))))
source_done new last image value f k is ends same =
    ends_as (Ok tt) last image (then_do f (λ x. Ok (without_write (k x.value x.machine)))) (Ok (without_write (k value new))) (source_then new value f (λ (v : ℕ) (m : Machine). Ok (without_write (k v m))) is) (plain_done last (k value new) image ends same)

-- what is stored ends the row
pub stored_ends : (answer : Result (Unit {0}) Trap) (new : Machine) (is : Finished) → stored_by answer new ≡ is → Ends (halted_by answer) new is
stored_ends (Ok done) new is stores = stores
stored_ends (Err trap) new is stores = stores

-- where the destination lies, once PC is set
pub located_at : (m new : Machine) (pc : ℕ) (f : Result Formed Stop) (a b : Location) → lies a (at_pc m pc) ≡ f → new ≡ at_pc m pc → b ≡ a → f ≡ lies b new
located_at m new pc f a b is set where_ = sym is ∙ (ap (λ (l : Location). lies l (at_pc m pc)) (sym where_) ∙ ap (λ (x : Machine). lies b x) (sym set))

pub stored_at : (new last : Machine) (image : Image) (f : Result Formed Stop) (l : Location) (answer : Result (Unit {0}) Trap) (k : Machine → Location → Effect) → f ≡ lies l new → new.image ≡ image → stored_by answer last ≡ finish_of new.image (k new l) → Ends (halted_by answer) last (finished image (go (then_do f (λ dest. Ok (k dest.machine dest.location)))))
stored_at new last image f l answer k is same stores =
    ends_as (halted_by answer) last image (then_do f (λ dest. Ok (k dest.machine dest.location))) (Ok (k new l)) (ap (λ (x : Result Formed Stop). then_do x (λ dest. Ok (k dest.machine dest.location))) is) (stored_ends answer last (finish_of image (k new l)) (stores ∙ ap (λ (i : Image). finish_of i (k new l)) same))

-- a destination that is read where it lies
pub got_at : (m new : Machine) (w : Width) (o : Operand) (l : Location) (answer : Result ℕ Trap) → formed m w o.mode o.reg ≡ lies l new → at_memory new answer ≡ value_at new w l → fetched m w o ≡ then_do (at_memory new answer) (found l new)
unfolding fetched
got_at m new w o l answer is got =
    ap (λ (x : Result Formed Stop). then_do x (read_at w)) is ∙ ap (λ (x : Result ℕ Stop). then_do x (found l new)) (sym got)

-- a destination that can't be read
pub unread_at : (m new : Machine) (image : Image) (w : Width) (o : Operand) (l : Location) (trap : Trap) (k : Fetched → Result Effect Stop) → formed m w o.mode o.reg ≡ lies l new → at_memory new (Err trap) ≡ value_at new w l → new.image ≡ image → Ends (Err (Trapped trap)) new (finished image (go (then_do (fetched m w o) k)))
unread_at m new image w o l trap k is got same = stopped_as new image trap (fetched m w o) k same (sym (got_at m new w o l (Err trap) is got))

-- a destination that is read, and written where it lies
pub altered_at : (m new last : Machine) (image : Image) (w : Width) (o : Operand) (l : Location) (value : ℕ) (answer : Result (Unit {0}) Trap) (k : Machine → Location → ℕ → Effect) → formed m w o.mode o.reg ≡ lies l new → at_memory new (Ok value) ≡ value_at new w l → new.image ≡ image → stored_by answer last ≡ finish_of new.image (k new l value) → Ends (halted_by answer) last (finished image (go (then_do (fetched m w o) (λ dest. Ok (k dest.machine dest.location dest.value)))))
altered_at m new last image w o l value answer k is got same stores =
    ends_as (halted_by answer) last image (then_do (fetched m w o) (λ dest. Ok (k dest.machine dest.location dest.value))) (Ok (k new l value)) (ap (λ (x : Result Fetched Stop). then_do x (λ dest. Ok (k dest.machine dest.location dest.value))) (got_at m new w o l (Ok value) is got)) (stored_ends answer last (finish_of image (k new l value)) (stores ∙ ap (λ (i : Image). finish_of i (k new l value)) same))

-- each row with a source, once that is read: the codes are as they were
pub moved_goes : (answer : Result (Unit {0}) Halt) (last old mid : Machine) (pc from v : ℕ) (w : Width) (s d : Operand) → mid.image ≡ old.image → mid.cc ≡ old.cc → IsSource (Ok v) (at_pc mid pc) (fetched (at_pc old from) w s) → Ends answer last (finished mid.image (go (then_do (formed (at_pc mid pc) w d.mode d.reg) (λ dest. Ok (moved_result dest.machine w dest.location (result_of w v false (carry_in mid))))))) → Ends answer last (finished old.image (go (moved (at_pc old from) w s d)))
unfolding moved
moved_goes answer last old mid pc from v w s d image codes source ends =
    let k : ℕ → ℕ → Machine → Result Effect Stop = λ cc x m. then_do (formed m w d.mode d.reg) (λ dest. Ok (moved_result dest.machine w dest.location (result_of w x false (codes_in cc).c))) in
    source_goes answer last mid pc old.image v (fetched (at_pc old from) w s) (k old.cc) image source (subst (λ (cc : ℕ). Ends answer last (finished mid.image (go (k cc v (at_pc mid pc))))) codes ends)

pub compared_goes : (answer : Result (Unit {0}) Halt) (last old mid : Machine) (pc from v : ℕ) (w : Width) (s d : Operand) (make : Bool → ℕ → ℕ → Made) → mid.image ≡ old.image → mid.cc ≡ old.cc → IsSource (Ok v) (at_pc mid pc) (fetched (at_pc old from) w s) → Ends answer last (finished mid.image (go (tested (at_pc mid pc) w d (make (carry_in mid) v)))) → Ends answer last (finished old.image (go (compared (at_pc old from) w s d (make (carry_in old)))))
unfolding compared tested
compared_goes answer last old mid pc from v w s d make image codes source ends =
    let k : ℕ → ℕ → Machine → Result Effect Stop = λ cc x m. then_do (fetched m w d) (λ dest. Ok (without_write (with_codes dest.machine (make (codes_in cc).c x dest.value).cc))) in
    source_goes answer last mid pc old.image v (fetched (at_pc old from) w s) (k old.cc) image source (subst (λ (cc : ℕ). Ends answer last (finished mid.image (go (k cc v (at_pc mid pc))))) codes ends)

pub joined_goes : (answer : Result (Unit {0}) Halt) (last old mid : Machine) (pc from v : ℕ) (w : Width) (s d : Operand) (make : Bool → ℕ → ℕ → Made) → mid.image ≡ old.image → mid.cc ≡ old.cc → IsSource (Ok v) (at_pc mid pc) (fetched (at_pc old from) w s) → Ends answer last (finished mid.image (go (modified (at_pc mid pc) w d (make (carry_in mid) v)))) → Ends answer last (finished old.image (go (joined (at_pc old from) w s d (make (carry_in old)))))
unfolding joined modified
joined_goes answer last old mid pc from v w s d make image codes source ends =
    let k : ℕ → ℕ → Machine → Result Effect Stop = λ cc x m. then_do (fetched m w d) (λ dest. Ok (stored_result dest.machine w dest.location (make (codes_in cc).c x dest.value))) in
    source_goes answer last mid pc old.image v (fetched (at_pc old from) w s) (k old.cc) image source (subst (λ (cc : ℕ). Ends answer last (finished mid.image (go (k cc v (at_pc mid pc))))) codes ends)

-- and where it isn't read
pub moved_halts : (old new : Machine) (pc from : ℕ) (w : Width) (s d : Operand) (halt : Halt) → new.image ≡ old.image → IsSource (Err halt) (at_pc new pc) (fetched (at_pc old from) w s) → Ends (Err halt) new (finished old.image (go (moved (at_pc old from) w s d)))
unfolding moved
moved_halts old new pc from w s d halt image source = source_halts new pc old.image halt (fetched (at_pc old from) w s) (λ (x : ℕ) (m : Machine). then_do (formed m w d.mode d.reg) (λ dest. Ok (moved_result dest.machine w dest.location (result_of w x false (carry_in old))))) image source

pub compared_halts : (old new : Machine) (pc from : ℕ) (w : Width) (s d : Operand) (make : ℕ → ℕ → Made) (halt : Halt) → new.image ≡ old.image → IsSource (Err halt) (at_pc new pc) (fetched (at_pc old from) w s) → Ends (Err halt) new (finished old.image (go (compared (at_pc old from) w s d make)))
unfolding compared
compared_halts old new pc from w s d make halt image source = source_halts new pc old.image halt (fetched (at_pc old from) w s) (λ (x : ℕ) (m : Machine). then_do (fetched m w d) (λ dest. Ok (without_write (with_codes dest.machine (make x dest.value).cc)))) image source

pub joined_halts : (old new : Machine) (pc from : ℕ) (w : Width) (s d : Operand) (make : ℕ → ℕ → Made) (halt : Halt) → new.image ≡ old.image → IsSource (Err halt) (at_pc new pc) (fetched (at_pc old from) w s) → Ends (Err halt) new (finished old.image (go (joined (at_pc old from) w s d make)))
unfolding joined
joined_halts old new pc from w s d make halt image source = source_halts new pc old.image halt (fetched (at_pc old from) w s) (λ (x : ℕ) (m : Machine). then_do (fetched m w d) (λ dest. Ok (stored_result dest.machine w dest.location (make x dest.value)))) image source

pub tested_halts : (old new : Machine) (pc from : ℕ) (w : Width) (d : Operand) (make : ℕ → Made) (halt : Halt) → new.image ≡ old.image → IsSource (Err halt) (at_pc new pc) (fetched (at_pc old from) w d) → Ends (Err halt) new (finished old.image (go (tested (at_pc old from) w d make)))
unfolding tested
tested_halts old new pc from w d make halt image source = source_halts new pc old.image halt (fetched (at_pc old from) w d) (λ (x : ℕ) (m : Machine). Ok (without_write (with_codes m (make x).cc))) image source

pub tested_done : (old mid last : Machine) (pc from v : ℕ) (w : Width) (d : Operand) (make : ℕ → Made) → mid.image ≡ old.image → IsSource (Ok v) (at_pc mid pc) (fetched (at_pc old from) w d) → last ≡ with_codes (at_pc mid pc) (make v).cc → Ends (Ok tt) last (finished old.image (go (tested (at_pc old from) w d make)))
unfolding tested
tested_done old mid last pc from v w d make image source is = source_done (at_pc mid pc) last old.image v (fetched (at_pc old from) w d) (λ (x : ℕ) (m : Machine). with_codes m (make x).cc) source is image

-- each row that is stored, where its destination isn't located
pub modified_halts : (old new : Machine) (pc from : ℕ) (w : Width) (d : Operand) (make : ℕ → Made) (halt : Halt) (where_ : ℕ → Location) → new.image ≡ old.image → IsLocated (Err halt) where_ (at_pc new pc) (formed (at_pc old from) w d.mode d.reg) → Ends (Err halt) new (finished old.image (go (modified (at_pc old from) w d make)))
unfolding modified fetched
modified_halts old new pc from w d make Missed where_ image is = refl
modified_halts old new pc from w d make (Trapped trap) where_ image is =
    subst (λ (f : Result Formed Stop). Stopped (stop_of trap new) new.image ≡ finished old.image (go (then_do (then_do f (read_at w)) (λ dest. Ok (stored_result dest.machine w dest.location (make dest.value)))))) (stop_aside new pc trap (formed (at_pc old from) w d.mode d.reg) is) (ap (λ (i : Image). Stopped (stop_of trap new) i) image)

pub modified_unread : (old new : Machine) (from : ℕ) (w : Width) (d : Operand) (make : ℕ → Made) (l : Location) (trap : Trap) → formed (at_pc old from) w d.mode d.reg ≡ lies l new → at_memory new (Err trap) ≡ value_at new w l → new.image ≡ old.image → Ends (Err (Trapped trap)) new (finished old.image (go (modified (at_pc old from) w d make)))
unfolding modified
modified_unread old new from w d make l trap is got same = unread_at (at_pc old from) new old.image w d l trap (λ dest. Ok (stored_result dest.machine w dest.location (make dest.value))) is got same

pub modified_done : (old new last : Machine) (from : ℕ) (w : Width) (d : Operand) (make : ℕ → Made) (l : Location) (value : ℕ) (made : Made) (answer : Result (Unit {0}) Trap) → formed (at_pc old from) w d.mode d.reg ≡ lies l new → at_memory new (Ok value) ≡ value_at new w l → new.image ≡ old.image → made ≡ make value → stored_by answer last ≡ finish_of new.image (stored_result new w l made) → Ends (halted_by answer) last (finished old.image (go (modified (at_pc old from) w d make)))
unfolding modified
modified_done old new last from w d make l value made answer is got same made_is stores = altered_at (at_pc old from) new last old.image w d l value answer (λ (m : Machine) (x : Location) (v : ℕ). stored_result m w x (make v)) is got same (stores ∙ ap (λ (x : Made). finish_of new.image (stored_result new w l x)) made_is)

pub replaced_halts : (old new : Machine) (pc from : ℕ) (w : Width) (d : Operand) (made : Made) (halt : Halt) (where_ : ℕ → Location) → new.image ≡ old.image → IsLocated (Err halt) where_ (at_pc new pc) (formed (at_pc old from) w d.mode d.reg) → Ends (Err halt) new (finished old.image (go (replaced (at_pc old from) w d made)))
unfolding replaced
replaced_halts old new pc from w d made halt where_ image is = located_halts new pc old.image halt where_ (formed (at_pc old from) w d.mode d.reg) (λ dest. Ok (stored_result dest.machine w dest.location made)) image is

pub replaced_done : (old new last : Machine) (from : ℕ) (w : Width) (d : Operand) (made : Made) (l : Location) (answer : Result (Unit {0}) Trap) → formed (at_pc old from) w d.mode d.reg ≡ lies l new → new.image ≡ old.image → stored_by answer last ≡ finish_of new.image (stored_result new w l made) → Ends (halted_by answer) last (finished old.image (go (replaced (at_pc old from) w d made)))
unfolding replaced
replaced_done old new last from w d made l answer is same stores = stored_at new last old.image (formed (at_pc old from) w d.mode d.reg) l answer (λ (m : Machine) (x : Location). stored_result m w x made) is same stores

pub put_done : (old new last : Machine) (f : Result Formed Stop) (w : Width) (value : ℕ) (made : Made) (l : Location) (answer : Result (Unit {0}) Trap) → f ≡ lies l new → new.image ≡ old.image → made ≡ result_of w value false (carry_in old) → stored_by answer last ≡ finish_of new.image (moved_result new w l made) → Ends (halted_by answer) last (finished old.image (go (then_do f (λ dest. Ok (moved_result dest.machine w dest.location (result_of w value false (carry_in old)))))))
put_done old new last f w value made l answer is same made_is stores = stored_at new last old.image f l answer (λ (m : Machine) (x : Location). moved_result m w x (result_of w value false (carry_in old))) is same (stores ∙ ap (λ (x : Made). finish_of new.image (moved_result new w l x)) made_is)

pub put_halts : (old new : Machine) (pc : ℕ) (f : Result Formed Stop) (w : Width) (value : ℕ) (halt : Halt) (where_ : ℕ → Location) → new.image ≡ old.image → IsLocated (Err halt) where_ (at_pc new pc) f → Ends (Err halt) new (finished old.image (go (then_do f (λ dest. Ok (moved_result dest.machine w dest.location (result_of w value false (carry_in old)))))))
put_halts old new pc f w value halt where_ image is = located_halts new pc old.image halt where_ f (λ dest. Ok (moved_result dest.machine w dest.location (result_of w value false (carry_in old)))) image is

-- XOR: what the register holds is the source
pub register_source : (old mid : Machine) (pc from v n : ℕ) → IsSource (Ok v) (at_pc mid pc) (fetched (at_pc old from) Word (record { mode = Register; reg = reg_of n })) → (v ≡ reg_in (at_pc old from) (reg_of n)) × (at_pc mid pc ≡ at_pc old from)
unfolding fetched formed value_at
register_source old mid pc from v n is =
    let e : source v (at_pc mid pc) ≡ source (reg_in (at_pc old from) (reg_of n)) (at_pc old from) = cc in
    (ap (λ (x : Source). x.value) e, ap (λ (x : Source). x.machine) e)

pub low_operand : (n : ℕ) → operand_of (n % 8) ≡ record { mode = Register; reg = reg_of (n % 8) }
unfolding operand_of mode_of
low_operand n =
    let a : n % 8 / 8 % 8 ≡ 0 = omega arith in
    let b : n % 8 % 8 ≡ n % 8 = omega arith in
    rw (a, b)

pub exclusive_goes : (answer : Result (Unit {0}) Halt) (last old mid : Machine) (pc from v n : ℕ) (d : Operand) → IsSource (Ok v) (at_pc mid pc) (fetched (at_pc old from) Word (operand_of (n % 8))) → Ends answer last (finished mid.image (go (modified (at_pc mid pc) Word d (combine_of ExclusiveOr Word (carry_in mid) v)))) → Ends answer last (finished old.image (go (modified (at_pc old from) Word d (combine_of ExclusiveOr Word (carry_in old) (reg_in (at_pc old from) (reg_of (n % 8)))))))
exclusive_goes answer last old mid pc from v n d source ends =
    let s = subst (λ (o : Operand). IsSource (Ok v) (at_pc mid pc) (fetched (at_pc old from) Word o)) (low_operand n) source in
    let both = register_source old mid pc from v (n % 8) s in
    let F : Machine → ℕ → Type 0 = λ m x. Ends answer last (finished m.image (go (modified m Word d (combine_of ExclusiveOr Word (carry_in m) x)))) in
    subst (λ (x : ℕ). F (at_pc old from) x) both.0 (subst (λ (m : Machine). F m v) both.1 ends)

register_sure : (old new : Machine) (pc from n : ℕ) (trap : Trap) → IsSource (Err (Trapped trap)) (at_pc new pc) (fetched (at_pc old from) Word (record { mode = Register; reg = reg_of n })) → ⊥
unfolding fetched formed value_at
register_sure old new pc from n trap is = cc

pub exclusive_halts : (old new : Machine) (pc from n : ℕ) (d : Operand) (make : ℕ → Made) (halt : Halt) → IsSource (Err halt) (at_pc new pc) (fetched (at_pc old from) Word (operand_of (n % 8))) → Ends (Err halt) new (finished old.image (go (modified (at_pc old from) Word d make)))
exclusive_halts old new pc from n d make Missed source = refl
exclusive_halts old new pc from n d make (Trapped trap) source = absurd (register_sure old new pc from (n % 8) trap (subst (λ (o : Operand). IsSource (Err (Trapped trap)) (at_pc new pc) (fetched (at_pc old from) Word o)) (low_operand n) source))

-- MUL, DIV, ASH and ASHC
pub multiplied_halts : (old new : Machine) (pc from : ℕ) (n : Reg) (s : Operand) (halt : Halt) → new.image ≡ old.image → IsSource (Err halt) (at_pc new pc) (fetched (at_pc old from) Word s) → Ends (Err halt) new (finished old.image (go (multiplied (at_pc old from) n s)))
unfolding multiplied
multiplied_halts old new pc from n s halt image source = source_halts new pc old.image halt (fetched (at_pc old from) Word s) (λ (x : ℕ) (m : Machine). let p = product_of (reg_in m n) x in Ok (without_write (with_codes (with_pair m n (p / 65536) (p % 65536)) (flag_bits (product_codes p))))) image source

pub multiplied_done : (old mid last : Machine) (pc from v : ℕ) (n : Reg) (s : Operand) → mid.image ≡ old.image → IsSource (Ok v) (at_pc mid pc) (fetched (at_pc old from) Word s) → (let p = product_of (reg_in (at_pc mid pc) n) v in last ≡ with_codes (with_pair (at_pc mid pc) n (p / 65536) (p % 65536)) (flag_bits (product_codes p))) → Ends (Ok tt) last (finished old.image (go (multiplied (at_pc old from) n s)))
unfolding multiplied
multiplied_done old mid last pc from v n s image source is = source_done (at_pc mid pc) last old.image v (fetched (at_pc old from) Word s) (λ (x : ℕ) (m : Machine). let p = product_of (reg_in m n) x in with_codes (with_pair m n (p / 65536) (p % 65536)) (flag_bits (product_codes p))) source is image

pub divided_halts : (old new : Machine) (pc from : ℕ) (n : Reg) (s : Operand) (halt : Halt) → new.image ≡ old.image → IsSource (Err halt) (at_pc new pc) (fetched (at_pc old from) Word s) → Ends (Err halt) new (finished old.image (go (divided (at_pc old from) n s)))
unfolding divided
divided_halts old new pc from n s halt image source = source_halts new pc old.image halt (fetched (at_pc old from) Word s) (λ (x : ℕ) (m : Machine). Ok (without_write (division_of m n x))) image source

pub divided_done : (old mid last : Machine) (pc from v : ℕ) (n : Reg) (s : Operand) → last.image ≡ old.image → IsSource (Ok v) (at_pc mid pc) (fetched (at_pc old from) Word s) → last ≡ division_of (at_pc mid pc) n v → Ends (Ok tt) last (finished old.image (go (divided (at_pc old from) n s)))
unfolding divided
divided_done old mid last pc from v n s image source is = source_done (at_pc mid pc) last old.image v (fetched (at_pc old from) Word s) (λ (x : ℕ) (m : Machine). division_of m n x) source is (ap (λ (x : Machine). x.image) (sym is) ∙ image)

pub shifted_reg_halts : (old new : Machine) (pc from : ℕ) (n : Reg) (s : Operand) (halt : Halt) → new.image ≡ old.image → IsSource (Err halt) (at_pc new pc) (fetched (at_pc old from) Word s) → Ends (Err halt) new (finished old.image (go (shifted_reg (at_pc old from) n s)))
unfolding shifted_reg
shifted_reg_halts old new pc from n s halt image source = source_halts new pc old.image halt (fetched (at_pc old from) Word s) (λ (x : ℕ) (m : Machine). let y = shift_of 0o100000 x (reg_in m n) in Ok (without_write (with_codes (with_reg m n y.value) (flag_bits (shift_codes 0o100000 y))))) image source

pub shifted_reg_done : (old mid last : Machine) (pc from v : ℕ) (n : Reg) (s : Operand) → mid.image ≡ old.image → IsSource (Ok v) (at_pc mid pc) (fetched (at_pc old from) Word s) → (let y = shift_of 0o100000 v (reg_in (at_pc mid pc) n) in last ≡ with_codes (with_reg (at_pc mid pc) n y.value) (flag_bits (shift_codes 0o100000 y))) → Ends (Ok tt) last (finished old.image (go (shifted_reg (at_pc old from) n s)))
unfolding shifted_reg
shifted_reg_done old mid last pc from v n s image source is = source_done (at_pc mid pc) last old.image v (fetched (at_pc old from) Word s) (λ (x : ℕ) (m : Machine). let y = shift_of 0o100000 x (reg_in m n) in with_codes (with_reg m n y.value) (flag_bits (shift_codes 0o100000 y))) source is image

pub shifted_pair_halts : (old new : Machine) (pc from : ℕ) (n : Reg) (s : Operand) (halt : Halt) → new.image ≡ old.image → IsSource (Err halt) (at_pc new pc) (fetched (at_pc old from) Word s) → Ends (Err halt) new (finished old.image (go (shifted_pair (at_pc old from) n s)))
unfolding shifted_pair
shifted_pair_halts old new pc from n s halt image source = source_halts new pc old.image halt (fetched (at_pc old from) Word s) (λ (x : ℕ) (m : Machine). let y = shift_of 0x80000000 x (pair_in m n) in Ok (without_write (with_codes (with_pair m n (y.value / 65536) (y.value % 65536)) (flag_bits (shift_codes 0x80000000 y))))) image source

pub shifted_pair_done : (old mid last : Machine) (pc from v : ℕ) (n : Reg) (s : Operand) → mid.image ≡ old.image → IsSource (Ok v) (at_pc mid pc) (fetched (at_pc old from) Word s) → (let y = shift_of 0x80000000 v (pair_in (at_pc mid pc) n) in last ≡ with_codes (with_pair (at_pc mid pc) n (y.value / 65536) (y.value % 65536)) (flag_bits (shift_codes 0x80000000 y))) → Ends (Ok tt) last (finished old.image (go (shifted_pair (at_pc old from) n s)))
unfolding shifted_pair
shifted_pair_done old mid last pc from v n s image source is = source_done (at_pc mid pc) last old.image v (fetched (at_pc old from) Word s) (λ (x : ℕ) (m : Machine). let y = shift_of 0x80000000 x (pair_in m n) in with_codes (with_pair m n (y.value / 65536) (y.value % 65536)) (flag_bits (shift_codes 0x80000000 y))) source is image
