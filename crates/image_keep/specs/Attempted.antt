-- What an attempt at one instruction, or at a system call, of a process leaves of core.
use Rattle.std.specs.Prelude.{◌≡◌, ℕ, ◌+◌, ◌<◌, ◌≤◌, Bool, false, IsTrue, IfSome, List, length, Option, None}
use Rattle.pdp_decode.specs.declared.handler.Handler.{Handler}
use Rattle.pdp_decode.specs.Handlers.{Handles}
use Rattle.pdp_step.specs.declared.outcome.Outcome.TheVariants.{Call, Next}
use Rattle.pdp_step.specs.Instruction.{stepped, instr}
use Rattle.image_keep.specs.declared.standing.Standing.{Standing}
use Rattle.image_keep.specs.Standing.{StandsIn}
use Rattle.image_keep.specs.Near.{standing_machine, around, IsStated, StandsWith}

-- The process is at hand, if it is anywhere: its registers and codes stand in front of its u area. Where it isn't, core has
-- as many bytes all the same.
pub record IsAtHand (f : Standing) (core : List ℕ) : Type 0 where
  pub inside : 0 < f.code_len → StandsIn (length core) f
  pub stated : 0 < f.code_len → IsStated core f.area
  pub room : f.area + 18 ≤ length core
  pub nil : f.nil ≡ 0

-- A process stands there, and this is a word of the handler, with which the program goes on at PC.
pub record IsRowAt (f : Standing) (core : List ℕ) (handler : Handler) (pc word : ℕ) : Type 0 where
  pub stands : StandsWith core f
  pub handles : Handles handler word
  pub low : word < 65536
  pub room : pc ≤ 65538

-- The instruction was done whole, or nothing has changed; all that is around is as it was.
pub record Attempted (f : Standing) (old new : List ℕ) (result : Bool) : Type 0 where
  pub near : IsTrue result → 0 < f.code_len
  pub done : IsTrue result → instr (standing_machine old f) ≡ stepped Next (standing_machine new f)
  pub missed : result ≡ false → 0 < f.code_len → standing_machine new f ≡ standing_machine old f
  pub far_core : result ≡ false → f.code_len ≡ 0 → new ≡ old
  pub around : 0 < f.code_len → around new f ≡ around old f
  pub stated : 0 < f.code_len → IsStated new f.area
  pub size : length new ≡ length old

-- The instruction asks for a system call, and only PC has changed, or nothing has.
pub record Called (f : Standing) (old new : List ℕ) (result : Option ℕ) : Type 0 where
  pub near : IfSome result (λ _. 0 < f.code_len)
  pub called : IfSome result (λ n. instr (standing_machine old f) ≡ stepped (Call n) (standing_machine new f))
  pub kept_core : result ≡ None → new ≡ old
  pub around : 0 < f.code_len → around new f ≡ around old f
  pub stated : 0 < f.code_len → IsStated new f.area
  pub size : length new ≡ length old
