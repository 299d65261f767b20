-- For contracts of the rows alone: what a part of a row answers, joined with the machine that it leaves, and how that agrees
-- with the definitions of the table. A part that misses has changed nothing and says nothing.
use Rattle.std.specs.Prelude.{◌≡◌, ℕ, ◌%◌, Result, Ok, Err}
use Rattle.v6_base.specs.declared.space.Trap.{Trap}
use Rattle.v6_base.specs.Image.{Image}
use Rattle.v6_base.specs.Access.{load_word, load_byte}
use Rattle.pdp_decode.specs.declared.instr.Width.{Width}
use Rattle.pdp_decode.specs.declared.instr.Width.TheVariants.{Word, Byte}
use Rattle.pdp_decode.specs.declared.instr.Mode.{Mode}
use Rattle.pdp_decode.specs.declared.instr.Mode.TheVariants.{Register, Deferred, Increment, IncrementDeferred, Decrement, DecrementDeferred, Index, IndexDeferred}
use Rattle.pdp_decode.specs.declared.instr.Reg.{Reg}
use Rattle.pdp_decode.specs.declared.instr.Reg.TheVariants.{Sp, Pc}
use Rattle.pdp_step.specs.Operands.{Location, InRegister, InMemory, Stop, stop_of, Formed, Fetched}
use Rattle.pdp_step.specs.declared.halt.Halt.{Halt}
use Rattle.pdp_step.specs.declared.halt.Halt.TheVariants.{Missed, Trapped}
use Rattle.pdp_step.specs.Registers.{minus}
use Rattle.pdp_step.specs.Machine.{Machine, reg_in, with_reg}
use Rattle.pdp_step.specs.Rows.{PushAt, Effect, with_write, sign_extended}
use Rattle.pdp_step.specs.After.{Finished, Done, Stopped}

-- the machine whose PC stands there
abbrev pub at_pc : Machine → ℕ → Machine
at_pc m pc = with_reg m Pc (pc % 65536)

abbrev pub IsMissed : {A : Type 0} → Result A Halt → Type 0
IsMissed (Ok a) = ⊥
IsMissed (Err Missed) = Unit {0}
IsMissed (Err (Trapped trap)) = ⊥

abbrev pub IsTrapped : {A : Type 0} → Result A Halt → Type 0
IsTrapped (Ok a) = ⊥
IsTrapped (Err Missed) = ⊥
IsTrapped (Err (Trapped trap)) = Unit {0}

-- a source that was read: where it stood no longer counts
pub record Source : Type 0 where
  pub value : ℕ
  pub machine : Machine

abbrev pub source_of : Result Fetched Stop → Result Source Stop
source_of (Ok f) = Ok (record { value = f.value; machine = f.machine })
source_of (Err stop) = Err stop

abbrev pub source_by : Result ℕ Halt → Machine → Result Source Stop → Result Source Stop
source_by (Ok value) m is = Ok (record { value = value; machine = m })
source_by (Err Missed) m is = is
source_by (Err (Trapped trap)) m is = Err (stop_of trap m)

-- what is answered is the source
abbrev pub IsSource : Result ℕ Halt → Machine → Result Fetched Stop → Type 0
IsSource answer m f = source_by answer m (source_of f) ≡ source_of f

-- where an operand of this mode stands, if it stands in memory at that address
abbrev pub location_at : Mode → Reg → ℕ → Location
location_at Register n at = InRegister n
location_at Deferred n at = InMemory at
location_at Increment n at = InMemory at
location_at IncrementDeferred n at = InMemory at
location_at Decrement n at = InMemory at
location_at DecrementDeferred n at = InMemory at
location_at Index n at = InMemory at
location_at IndexDeferred n at = InMemory at

-- what JSR does at an address, with PC after the instruction
abbrev pub link_effect : Machine → Reg → ℕ → Effect
link_effect m link at =
    let sp = minus (reg_in m Sp) 2 in
    let down = with_reg m Sp sp in
    let linked = with_reg down link (reg_in down Pc) in
    with_write (with_reg linked Pc at) (PushAt sp (reg_in m link))

-- a row's end is the table's
abbrev pub ended_by : Result (Unit {0}) Halt → Machine → Finished → Finished
ended_by (Ok done) m is = Done m
ended_by (Err Missed) m is = is
ended_by (Err (Trapped trap)) m is = Stopped (stop_of trap m) m.image

abbrev pub Ends : Result (Unit {0}) Halt → Machine → Finished → Type 0
Ends answer m is = ended_by answer m is ≡ is

abbrev pub halted_by : Result (Unit {0}) Trap → Result (Unit {0}) Halt
halted_by (Ok done) = Ok done
halted_by (Err trap) = Err (Trapped trap)

-- a word or a byte of the program is that of memory
abbrev pub loaded_by : Result ℕ Halt → Result ℕ Trap → Result ℕ Trap
loaded_by (Ok value) is = Ok value
loaded_by (Err Missed) is = is
loaded_by (Err (Trapped trap)) is = Err trap

abbrev pub IsLoaded : Result ℕ Halt → Result ℕ Trap → Type 0
IsLoaded answer is = loaded_by answer is ≡ is

-- an operand that lies in memory
abbrev pub value_in : Width → Image → ℕ → Result ℕ Trap
value_in Word image at = load_word image at
value_in Byte image at = load_byte image at

-- what MOV puts into a register
abbrev pub moved_value : Width → ℕ → ℕ
moved_value Word value = value
moved_value Byte value = sign_extended value

abbrev pub reached_by : Result ℕ Halt → Machine → Result Formed Stop → Result Formed Stop
reached_by (Ok at) m is = Ok (record { location = InMemory at; machine = m })
reached_by (Err Missed) m is = is
reached_by (Err (Trapped trap)) m is = Err (stop_of trap m)

-- an address that was formed, with PC after what it took of the program
abbrev pub IsReached : Result ℕ Halt → Machine → Result Formed Stop → Type 0
IsReached answer m f = reached_by answer m f ≡ f

abbrev pub located_by : Result ℕ Halt → (ℕ → Location) → Machine → Result Formed Stop → Result Formed Stop
located_by (Ok place) where_ m is = Ok (record { location = where_ place; machine = m })
located_by (Err Missed) where_ m is = is
located_by (Err (Trapped trap)) where_ m is = Err (stop_of trap m)

-- a place that was found
abbrev pub IsLocated : Result ℕ Halt → (ℕ → Location) → Machine → Result Formed Stop → Type 0
IsLocated answer where_ m f = located_by answer where_ m f ≡ f
