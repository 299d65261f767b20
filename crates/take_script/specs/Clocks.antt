-- What is kept of a script's clock in a run.
use Rattle.std.specs.Prelude.{◌≡◌, ◌≢◌, ◌%◌}
use Rattle.take_script.specs.Events.{Clock}
use Rattle.take_script.specs.declared.clock.Clock as kept

abbrev pub clock_value : kept.Clock → Clock
clock_value c = record { every = c.every; slots = c.since; line = c.line }

-- the same ticks come after both, and the same line is typed on
pub record TicksAlike (c d : Clock) : Type 0 where
  pub every : c.every ≡ d.every
  pub line : c.line ≡ d.line
  pub slots : c.every ≢ 0 → c.slots % c.every ≡ d.slots % c.every
