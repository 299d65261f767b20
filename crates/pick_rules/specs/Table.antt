-- The table of slots, and the numbers by which the kernel chooses who runs: `proc.h` in Lions' Commentary.
use Rattle.std.specs.Prelude.{◌<◌, ℕ, Bool, true, false, ◌||◌, ◌==◌, ◌∷◌, slice_index_or, slice_set, replicate, pos, Option, Some, None, MatchOption, ⊤}
use Rattle.v6_base.specs.declared.entry.Chan.{Chan}
use Rattle.v6_base.specs.contracts.entry.ChanPartialEq.TheImpl as chan_eq
use Rattle.v6_base.specs.declared.entry.Place.{Place}
use Rattle.v6_base.specs.declared.entry.Place.TheVariants.{Core, Swap}
use Rattle.pick_rules.specs.declared.row.Stat.{Stat}
use Rattle.pick_rules.specs.declared.row.Stat.TheVariants.{Empty, Sleeping, Waiting, Ready, Zombie}
use Rattle.pick_rules.specs.declared.row.TableRow.{TableRow}
use Rattle.pick_rules.specs.declared.table.Table.{Table}

abbrev pub empty_row : TableRow
empty_row = record {
  stat = Empty;
  pri = pos 0;
  cpu = 0;
  time = 0;
  nice = pos 0;
  size = 0;
  text = None;
  place = None;
  channel = None;
  calling = false;
}

abbrev pub row_at : Table → ℕ → TableRow
row_at t s = slice_index_or t.rows s empty_row

abbrev pub with_row : Table → ℕ → TableRow → Table
with_row t s row = record t { rows = slice_set t.rows s row }

abbrev pub is_empty : Stat → Bool
is_empty Empty = true
is_empty Sleeping = false
is_empty Waiting = false
is_empty Ready = false
is_empty Zombie = false

abbrev pub is_ready : Stat → Bool
is_ready Empty = false
is_ready Sleeping = false
is_ready Waiting = false
is_ready Ready = true
is_ready Zombie = false

abbrev pub is_in_core : Option Place → Bool
is_in_core None = false
is_in_core (Some (Core c)) = true
is_in_core (Some (Swap b)) = false

-- process 0 is always in core
abbrev pub is_loaded : Table → ℕ → Bool
is_loaded t s = (s == 0) || is_in_core (row_at t s).place

-- whether two channels are the same, as `==` of `Chan` tells
abbrev pub same_chan : Chan → Chan → Bool
same_chan = (chan_eq.ghosts).eq

abbrev pub is_on : Option Chan → Chan → Bool
is_on None w = false
is_on (Some c) w = same_chan c w

-- slots 0 and 1, of which slot 1 has 17 clicks at click 1; process 0 runs
abbrev pub first_table : ℕ → Table
first_table now = record {
  rows = record empty_row { stat = Ready } ∷ record empty_row { stat = Ready; size = 17; place = Some (Core 1) }
      ∷ replicate 48 empty_row;
  curpri = pos 0;
  runrun = false;
  runin = false;
  runout = false;
  last = 0;
  running = Some 0;
  ticks = 0;
  now = now;
  tout = 0;
}

-- The slots that a table names are among its fifty, and a second has sixty ticks.
pub record IsTable (t : Table) : Type 0 where
  pub last : t.last < 50
  pub running : MatchOption t.running ⊤ (λ s. s < 50)
  pub ticks : t.ticks < 60

abbrev pub is_waiting : Stat → Bool
is_waiting Empty = false
is_waiting Sleeping = false
is_waiting Waiting = true
is_waiting Ready = false
is_waiting Zombie = false

abbrev pub is_sleeping : Stat → Bool
is_sleeping Empty = false
is_sleeping Sleeping = true
is_sleeping Waiting = false
is_sleeping Ready = false
is_sleeping Zombie = false

abbrev pub is_zombie : Stat → Bool
is_zombie Empty = false
is_zombie Sleeping = false
is_zombie Waiting = false
is_zombie Ready = false
is_zombie Zombie = true

-- a new child can run; it has its parent's nice and text
abbrev pub child_row : TableRow → TableRow
child_row parent = record empty_row { stat = Ready; nice = parent.nice; text = parent.text }
