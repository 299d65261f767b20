-- What an audit of a file comes to, by docs/manual/audit.md: its lines are a lawful log, or one of them is the first at fault,
-- or it is too long.
use Rattle.std.specs.Prelude.{◌≡◌, ◌≢◌, ◌⊎◌, ℕ, ◌+◌, ◌<◌, ◌≤◌, ◌^◌, ◌==◌, List, [], ◌∷◌, ◌++◌, map, length, take, if◌then◌else◌}
use Rattle.std.specs.List.{slice_split}
use Rattle.v6_base.specs.LogLine.{entry_line}
use Rattle.v6_base.specs.declared.entry.Entry.{Entry}
use Rattle.pick_rules.specs.Lawful.{Over, Fits, FitAll, Lawful, nothing_seen, seen_of}
use Rattle.log_audit.specs.Judge.{IsLine}
use Rattle.v6_run.specs.declared.status.Status.{Status}
use Rattle.v6_run.specs.declared.status.Status.TheVariants.{Done, Unlawful, BadLog, LogTooLong}

-- what stands between the LFs of a file
abbrev pub parts_of : List ℕ → List (List ℕ)
parts_of bytes = slice_split (λ byte. byte == 0o012) bytes

abbrev pub all_but_last : List (List ℕ) → List (List ℕ)
all_but_last [] = []
all_but_last (part ∷ []) = []
all_but_last (part ∷ next ∷ parts) = part ∷ all_but_last (next ∷ parts)

abbrev pub last_of : List (List ℕ) → List ℕ
last_of [] = []
last_of (part ∷ []) = part
last_of (part ∷ next ∷ parts) = last_of (next ∷ parts)

-- the lines that an LF ends, and what stands behind the last LF
abbrev pub ended_lines : List ℕ → List (List ℕ)
ended_lines bytes = all_but_last (parts_of bytes)

abbrev pub rest_of : List ℕ → List ℕ
rest_of bytes = last_of (parts_of bytes)

-- A line is ended by LF; the last may lack it. Where nothing stands behind the last LF, that is no line.
abbrev pub last_line : List ℕ → List (List ℕ)
last_line rest = if length rest == 0 then [] else rest ∷ []

abbrev pub lines_of : List ℕ → List (List ℕ)
lines_of bytes = ended_lines bytes ++ last_line (rest_of bytes)

-- lines that are a lawful log
pub record AreLawful (lines : List (List ℕ)) : Type 0 where
  pub log : List Entry
  pub spelt : lines ≡ map entry_line log
  pub lawful : Lawful log

-- The lines before line n are those of this log, in which each fits; then come the rest.
pub record FitBefore (lines : List (List ℕ)) (n : ℕ) (log : List Entry) (rest : List (List ℕ)) : Type 0 where
  pub spelt : lines ≡ map entry_line log ++ rest
  pub fit : FitAll nothing_seen log
  pub number : n ≡ length log + 1

-- Line n is the first at fault, and is a log line: it doesn't fit what the lines before it give.
pub record IsUnfitAt (lines : List (List ℕ)) (n : ℕ) : Type 0 where
  pub log : List Entry
  pub line : List ℕ
  pub after : List (List ℕ)
  pub before : FitBefore lines n log (line ∷ after)
  pub entry : Entry
  pub is : IsLine entry line
  pub unfit : Fits (seen_of log) entry → ⊥

-- Line n is missing: no line is at fault, n is one more than their number, and the last isn't `end` or a panic.
pub record IsMissingAt (lines : List (List ℕ)) (n : ℕ) : Type 0 where
  pub log : List Entry
  pub before : FitBefore lines n log []
  pub unended : (seen_of log).stage ≢ Over

-- Line n is the first at fault, and is no log line.
pub record IsBadAt (lines : List (List ℕ)) (n : ℕ) : Type 0 where
  pub log : List Entry
  pub line : List ℕ
  pub after : List (List ℕ)
  pub before : FitBefore lines n log (line ∷ after)
  pub bad : (e : Entry) → IsLine e line → ⊥

-- the most bytes of a log that is judged to its end, and of a line
abbrev pub most_bytes : ℕ
most_bytes = 2 ^ 40

abbrev pub longest_line : ℕ
longest_line = 80

-- The file is longer, no line that is ended within its first 2^40 + 1 bytes is at fault, and no line has more than 80 bytes
-- within them.
pub record IsTooLong (bytes : List ℕ) : Type 0 where
  pub long : most_bytes < length bytes
  pub log : List Entry
  pub spelt : ended_lines (take (most_bytes + 1) bytes) ≡ map entry_line log
  pub fit : FitAll nothing_seen log
  pub short : length (rest_of (take (most_bytes + 1) bytes)) ≤ longest_line

abbrev pub IsShort : List ℕ → Type 0
IsShort bytes = IsTooLong bytes → ⊥

-- how an audit of a file with these bytes ends: where that is too long, in no other way
abbrev pub AuditEnds : List ℕ → Status → Type 0
AuditEnds bytes LogTooLong = IsTooLong bytes
AuditEnds bytes Done = IsShort bytes × AreLawful (lines_of bytes)
AuditEnds bytes (Unlawful n) = IsShort bytes × (IsUnfitAt (lines_of bytes) n ⊎ IsMissingAt (lines_of bytes) n)
AuditEnds bytes (BadLog n) = IsShort bytes × IsBadAt (lines_of bytes) n
AuditEnds bytes _ = ⊥

-- an audit of a file ends in one way
abbrev pub AuditsEndInOneWay : Type 0
AuditsEndInOneWay = (bytes : List ℕ) (s t : Status) → AuditEnds bytes s → AuditEnds bytes t → s ≡ t
