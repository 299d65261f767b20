-- Who runs next: Lions' Commentary, `swtch`.
use Rattle.std.specs.Prelude.{◌≡◌, ℕ, ◌+◌, ◌-◌, ◌%◌, ◌<◌, ◌≤◌, ◌⊎◌, ◌<ℤ◌, Bool, true, false, not, ◌&&◌, ◌||◌, ◌==◌, int_lt, List, map, filter, if◌then◌else◌, Option, Some, None, MatchOption}
use Rattle.std.specs.List.{range_with_len}
use Rattle.v6_base.specs.declared.entry.Entry.{Entry}
use Rattle.v6_base.specs.declared.entry.Entry.TheVariants.{Go, Idle}
use Rattle.pick_rules.specs.Search.{least}
use Rattle.pick_rules.specs.declared.table.Table.{Table}
use Rattle.pick_rules.specs.Table.{row_at, is_ready, is_loaded}

abbrev pub can_run : Table → ℕ → Bool
can_run t s = is_ready (row_at t s).stat && is_loaded t s

-- all slots, round from the one after the last
abbrev pub round_from : ℕ → List ℕ
round_from last = map (λ k. (last + 1 + k) % 50) (range_with_len 0 50)

-- of those that can run, the first of the least priority
unfoldable pub chosen : Table → Option ℕ
chosen t = least (λ s r. int_lt (row_at t s).pri (row_at t r).pri) (filter (can_run t) (round_from t.last))

-- the running slot gives up where it isn't loaded, or where a new choice is asked for in user mode; with nobody running
-- there is always a choice to make
abbrev pub gives_up : Table → Option ℕ → Bool
gives_up t None = true
gives_up t (Some s) = not (is_loaded t s) || (not (s == 0) && not (row_at t s).calling && t.runrun)

-- the slot that is chosen runs, or nobody
abbrev pub settled_by : Table → Option ℕ → Table
settled_by t None = record t { running = None; runrun = false }
settled_by t (Some s) = record t { running = Some s; last = s; curpri = (row_at t s).pri; runrun = false }

abbrev pub line_of_choice : Option ℕ → Entry
line_of_choice None = Idle
line_of_choice (Some s) = Go s

-- the line of the log with which the kernel settles, if any
unfoldable pub settle : Table → Option Entry
settle t = if gives_up t t.running then Some (line_of_choice (chosen t)) else None

-- The choice in words: the least by priority, and then by the distance from the slot after the last one.
abbrev pub distance : ℕ → ℕ → ℕ
distance last s = (s + 49 - last) % 50

abbrev pub GoesFirst : Table → ℕ → ℕ → Type 0
GoesFirst t s r =
    ((row_at t s).pri <ℤ (row_at t r).pri)
    ⊎ (((row_at t s).pri ≡ (row_at t r).pri) × (distance t.last s ≤ distance t.last r))

pub record IsLeast (t : Table) (s : ℕ) : Type 0 where
  pub slot : s < 50
  pub runs : can_run t s ≡ true
  pub least : (r : ℕ) → r < 50 → can_run t r ≡ true → GoesFirst t s r

abbrev pub IsChoice : Table → Option ℕ → Type 0
IsChoice t o = MatchOption o ((r : ℕ) → r < 50 → can_run t r ≡ false) (λ s. IsLeast t s)
