-- What a call comes to: its effects in order, the parts then, and what it answers.
use Rattle.std.specs.Prelude.{ℕ, ℤ, List, [], ◌∷◌, ◌++◌, map, is_some, if◌then◌else◌}
use Rattle.v6_base.specs.Trace.{Item, Log}
use Rattle.v6_base.specs.declared.entry.Chan.{Chan}
use Rattle.v6_base.specs.declared.entry.Entry.{Entry}
use Rattle.v6_base.specs.declared.errno.Errno.{Errno}
use Rattle.v6_base.specs.declared.errno.Errno.TheVariants.{EINTR}
use Rattle.sig_core.specs.Signals.{due}
use Rattle.v6_base.specs.declared.answer.Answer.{Answer}
use Rattle.v6_base.specs.declared.answer.Answer.TheVariants.{Ret, Fail, Sleep}
use Rattle.pick_rules.specs.Effects.{Effect, Show}
use Rattle.sys_procs.specs.Process.{register}
use Rattle.sys_procs.specs.World.{World, process_of}

pub record Comes : Type 0 where
  pub effects : List (Effect World)
  pub state : World
  pub answer : Answer

abbrev pub comes : World → Answer → Comes
comes w answer = record { effects = []; state = w; answer = answer }

-- R0 and R1 take these
abbrev pub gives_two : World → ℕ → ℕ → Comes
gives_two w r0 r1 = comes w (Ret r0 r1)

-- R0 takes this
abbrev pub gives : World → ℕ → ℕ → Comes
gives w s r0 = gives_two w r0 (register (process_of w s) 1)

-- the registers stay
abbrev pub returns : World → ℕ → Comes
returns w s = gives w s (register (process_of w s) 0)

abbrev pub fails : World → Errno → Comes
fails w e = comes w (Fail e)

abbrev pub sleeps : World → ℤ → Chan → Comes
sleeps w pri chan = comes w (Sleep pri chan)

-- A signal that is due to a process breaks its sleep: the call is refused in its place.
abbrev pub unless_due : World → ℕ → Comes → Comes
unless_due w s sleep = if is_some (due (process_of w s).row (process_of w s).u) then fails w EINTR else sleep

-- an effect, and then the rest
abbrev pub does : Effect World → Comes → Comes
does e rest = record rest { effects = e ∷ rest.effects }

-- a line of the log that names no place, and then the rest
abbrev pub logs : Entry → Comes → Comes
logs e rest = does (Show (Log e)) rest

-- lines, and then the rest
abbrev pub shows : List Item → Comes → Comes
shows items rest = record rest { effects = map Show items ++ rest.effects }
