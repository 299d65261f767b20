-- What a turn of a process comes to, and the words that rows are made of.
use Rattle.std.specs.Prelude.{ℕ, ℤ, List, [], ◌∷◌, ◌++◌, map}
use Rattle.v6_base.specs.declared.entry.Chan.{Chan}
use Rattle.pick_rules.specs.Effects.{Effect, Show}
use Rattle.sys_procs.specs.Signals.{signalled, signal_lines}
use Rattle.abstract_unix.specs.declared.ending.Ending.{Ending}
use Rattle.abstract_unix.specs.declared.ending.Ending.TheVariants.{Next, Trapped, Slept}
use Rattle.abstract_unix.specs.Unix.{Unix, process_of, with_process}

-- its effects in order, the Unix then, and how it ended
pub record Steps : Type 0 where
  pub effects : List (Effect Unix)
  pub unix : Unix
  pub ending : Ending

abbrev pub quietly : Unix → Ending → Steps
quietly u ending = record { effects = []; unix = u; ending = ending }

-- an instruction is done
abbrev pub steps : Unix → Steps
steps u = quietly u Next

-- the process goes on after a call
abbrev pub returns : Unix → Steps
returns u = quietly u Trapped

-- the process of a slot sleeps in a call
abbrev pub sleeps : Unix → ℕ → ℤ → Chan → Steps
sleeps u slot pri chan = quietly u (Slept pri chan)

-- A signal is sent to the process of a slot, by its number: signal(II).
abbrev pub signals : Unix → ℕ → ℕ → Steps
signals u slot number = record {
  effects = map Show (signal_lines number (slot ∷ []));
  unix = with_process u slot (signalled number (process_of u slot));
  ending = Trapped;
}

-- effects, and then the rest
abbrev pub after_effects : List (Effect Unix) → Steps → Steps
after_effects effects s = record s { effects = effects ++ s.effects }

-- some steps, and then the rest
abbrev pub follows : Steps → Steps → Steps
follows s next = after_effects s.effects next
