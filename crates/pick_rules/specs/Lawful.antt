-- Which logs are lawful: each line has its numbers in their ranges and fits what the lines before it give, and the last one
-- ends the log.
use Rattle.std.specs.Prelude.{◌≡◌, ◌⊎◌, ℕ, ◌≤◌, List, [], ◌∷◌, fold}
use Rattle.v6_base.specs.declared.entry.Chan.TheVariants.{RunOut}
use Rattle.v6_base.specs.declared.entry.Entry.{Entry}
use Rattle.v6_base.specs.declared.entry.Entry.TheVariants.{Boot, Idle, Sleep, Bare, Text, Share, Image, Panic, End}
use Rattle.pick_rules.specs.Priority.{pswp}
use Rattle.pick_rules.specs.Board.{Board, first_board}
use Rattle.pick_rules.specs.Apply.{applied}
use Rattle.pick_rules.specs.Ranges.{IsInRange}
use Rattle.pick_rules.specs.Fits.{FitsBoard}

-- how far a log has come
pub data Stage : Type 0 where
  Blank : Stage  -- it has no line
  Booted : Stage  -- it has the line `boot`
  Open : Stage
  Idling : Stage  -- the line before is `idle`
  Bared : ℕ → Stage  -- the exec of this slot has given up its place, and has no new image yet
  Over : Stage  -- the line before is `end` or a panic

-- what some lines give
pub record Seen : Type 0 where
  pub stage : Stage
  pub board : Board

abbrev pub nothing_seen : Seen
nothing_seen = record { stage = Blank; board = first_board 0 0 }

-- a new text or a shared one comes before the image
abbrev pub stage_after : Stage → Entry → Stage
stage_after stage (Boot core time) = Booted
stage_after stage Idle = Idling
stage_after stage (Bare s) = Bared s
stage_after stage (Text s k clicks block) = stage
stage_after stage (Share s k) = stage
stage_after stage (Panic kind) = Over
stage_after stage End = Over
stage_after stage e = Open

abbrev pub seen_after : Seen → Entry → Seen
seen_after seen e = record { stage = stage_after seen.stage e; board = applied seen.board e }

-- core has from 64 to 3968 clicks
abbrev pub IsFirstLine : Entry → Type 0
IsFirstLine (Boot core time) = (64 ≤ core) × (core ≤ 3968)
IsFirstLine e = ⊥

-- the rest of an exec
abbrev pub IsOfExec : ℕ → Entry → Type 0
IsOfExec s (Text r k clicks block) = r ≡ s
IsOfExec s (Share r k) = r ≡ s
IsOfExec s (Image r clicks place) = r ≡ s
IsOfExec s (Panic kind) = Unit {0}
IsOfExec s e = ⊥

abbrev pub FitsStage : Stage → Board → Entry → Type 0
FitsStage Blank b e = IsFirstLine e
FitsStage Booted b e = e ≡ Sleep 0 pswp RunOut
FitsStage Open b e = FitsBoard b e
FitsStage Idling b e = (e ≡ End) ⊎ FitsBoard b e
FitsStage (Bared s) b e = IsOfExec s e × FitsBoard b e
FitsStage Over b e = ⊥

-- its numbers are such as a line may have, and it may come here
abbrev pub Fits : Seen → Entry → Type 0
Fits seen e = IsInRange e × FitsStage seen.stage seen.board e

-- each of these lines fits what those before it give
unfoldable pub FitAll : Seen → List Entry → Type 0
FitAll seen [] = Unit {0}
FitAll seen (e ∷ entries) = Fits seen e × FitAll (seen_after seen e) entries

abbrev pub seen_of : List Entry → Seen
seen_of log = fold seen_after nothing_seen log

pub record Lawful (log : List Entry) : Type 0 where
  pub fit : FitAll nothing_seen log
  pub over : (seen_of log).stage ≡ Over
