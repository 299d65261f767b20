-- What a run over a part of its events comes to.
use Rattle.std.specs.Prelude.{◌≡◌, ◌≤◌, ◌+◌, false, List, sum_by}
use Rattle.v6_base.specs.Trace.{Taken, Took}
use Rattle.script_text.specs.declared.script.Event as asked
use Rattle.script_text.specs.Script.{slots_of, AreRates}
use Rattle.abstract_unix.specs.declared.ends.Ends.{Ends}
use Rattle.abstract_unix.specs.Unix.{System}
use Rattle.abstract_unix.specs.Runs.{Event, Course, course}

-- A kernel can take what a script asks for: its count of slots has room for these, and no transfer takes too many.
pub record CanTake (m : System) (events : List asked.Event) : Type 0 where
  pub fresh : m.unix.timing.passed + sum_by slots_of events ≤ 3000000001
  pub rates : AreRates events

-- how a run over these events ends, as far as it has come, the system then, and what the trace has taken of what it shows
pub record HasRun (from : Course) (events : List Event) (ends_so : Ends) (system : System) (old new : Taken) : Type 0 where
  pub ends : ends_so ≡ (course from events).ending
  pub system_is : system ≡ (course from events).system
  pub items : Took old (course from events).items new

-- The same of a run that stops where its trace is cut: a front of what is shown has been taken, and where the trace isn't cut,
-- nothing was left out.
pub record HasRunUncut (from : Course) (events : List Event) (ends_so : Ends) (system : System) (old new : Taken) : Type 0 where
  pub items : Took old (course from events).items new
  pub uncut : new.cut ≡ false → HasRun from events ends_so system old new
