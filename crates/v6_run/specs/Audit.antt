-- What was read of a log so far, and what comes of its end: step by step, over lists of bytes.
use Rattle.std.specs.Prelude.{◌≡◌, ◌⊎◌, ℕ, ◌+◌, ◌<◌, ◌≤◌, List, map, length, Bool, Result, Ok, Err}
use Rattle.v6_base.specs.LogLine.{entry_line}
use Rattle.v6_base.specs.declared.entry.Entry.{Entry}
use Rattle.v6_port.specs.declared.host.InPort.TheVariants as in_port
use Rattle.v6_port.specs.Outside.{In, Outside}
use Rattle.v6_port.specs.Causes.{Calm, FaultAt}
use Rattle.pick_rules.specs.Lawful.{FitAll, nothing_seen, seen_of}
use Rattle.v6_run.specs.declared.audit.Reading.{Reading}
use Rattle.v6_run.specs.declared.audit.LogError.{LogError}
use Rattle.v6_run.specs.declared.audit.LogError.TheVariants.{Unread, Unlawful, Bad, TooLong}
use Rattle.v6_run.specs.declared.audit.TheConstants.{LOG_LIMIT}
use Rattle.v6_run.specs.declared.status.Status.TheVariants as status
use Rattle.v6_run.specs.Errors.{log_status}
use Rattle.v6_run.specs.Logs.{ended_lines, rest_of, lines_of, AreLawful, IsUnfitAt, IsMissingAt, IsBadAt, longest_line, AuditEnds}

-- These bytes were read: lines in each of which nothing is at fault, and the bytes of one that no LF ends yet.
pub record HasRead (front : List ℕ) (r : Reading) : Type 0 where
  pub log : List Entry
  pub spelt : ended_lines front ≡ map entry_line log
  pub fit : FitAll nothing_seen log
  pub seen : r.audit ≡ seen_of log
  pub count : r.lines ≡ length log
  pub rest : rest_of front ≡ r.line.items
  pub short : length r.line.items ≤ longest_line
  pub few : r.lines ≤ length front

-- no more was read than is read of a log
abbrev pub HasRoom : Reading → Type 0
HasRoom r = (front : List ℕ) × HasRead front r × (length front ≤ LOG_LIMIT)

-- the line that isn't ended yet, after lines that fit, is too long
pub record IsLongAt (front : List ℕ) (n : ℕ) : Type 0 where
  pub log : List Entry
  pub spelt : ended_lines front ≡ map entry_line log
  pub fit : FitAll nothing_seen log
  pub number : n ≡ length log + 1
  pub long : longest_line < length (rest_of front)

-- what was read is at fault, whatever comes after it
abbrev pub IsAtFault : List ℕ → LogError → Type 0
IsAtFault front Unread = ⊥
IsAtFault front (Unlawful n) = IsUnfitAt (ended_lines front) n
IsAtFault front (Bad n) = IsBadAt (ended_lines front) n ⊎ IsLongAt front n
IsAtFault front TooLong = ⊥

-- what comes of lines in each of which nothing is at fault
abbrev pub Sums : List (List ℕ) → Result ℕ LogError → Type 0
Sums lines (Ok count) = AreLawful lines × (count ≡ length lines)
Sums lines (Err Unread) = ⊥
Sums lines (Err (Unlawful n)) = IsMissingAt lines n
Sums lines (Err (Bad n)) = ⊥
Sums lines (Err TooLong) = ⊥

-- what comes of a file of these bytes, of which no line before the last is at fault
abbrev pub Closes : List ℕ → Result ℕ LogError → Type 0
Closes bytes (Ok count) = AreLawful (lines_of bytes) × (count ≡ length (lines_of bytes))
Closes bytes (Err Unread) = ⊥
Closes bytes (Err (Unlawful n)) = IsUnfitAt (lines_of bytes) n ⊎ IsMissingAt (lines_of bytes) n
Closes bytes (Err (Bad n)) = IsBadAt (lines_of bytes) n
Closes bytes (Err TooLong) = ⊥

-- what an audit of a file comes to, but for a fault of its port
abbrev pub AuditsTo : List ℕ → Result ℕ LogError → Type 0
AuditsTo bytes (Ok count) = AuditEnds bytes status.Done × (count ≡ length (lines_of bytes))
AuditsTo bytes (Err Unread) = Unit {0}
AuditsTo bytes (Err error) = AuditEnds bytes (log_status error)

-- why the reading of a log stops, under a name that is known or not: at a fault of its port, or else at its bytes
abbrev pub StopsLog : Bool → LogError → Outside → Outside → Type 0
StopsLog known Unread old new = FaultAt (In in_port.Log) known old new
StopsLog known _ old new = Calm old new
