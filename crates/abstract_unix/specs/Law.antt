-- The law of the log.
use Rattle.std.specs.Prelude.{◌≡◌, ℕ, ◌≤◌, true, List, Option, Some}
use Rattle.v6_base.specs.Image.{AreBytes}
use Rattle.v6_base.specs.Trace.{entries_of}
use Rattle.v6_base.specs.declared.entry.Entry.{Entry}
use Rattle.pick_rules.specs.Lawful.{nothing_seen, FitAll, Lawful}
use Rattle.abstract_unix.specs.Endings.{is_whole}
use Rattle.abstract_unix.specs.Runs.{Event, Course, shown_by, runs}

-- the log of a run
abbrev pub log_of : Course → List Entry
log_of c = entries_of (shown_by c)

-- For every image, which is bytes, with a second one or none, every core size, eight terminal lines at most and every list of
-- events: each line of the log of the run has its numbers in their ranges and fits what the lines before it give; and where the
-- run comes to the script's end, or to a panic, the last line ends it.
abbrev pub LogsAreLawful : Type 0
LogsAreLawful =
    (image : List ℕ) (second : Option (List ℕ)) (core lines : ℕ) (events : List Event) (c : Course)
    → AreBytes image → 64 ≤ core → core ≤ 3968 → lines ≤ 8
    → runs image second core lines events ≡ Some c → FitAll nothing_seen (log_of c) × (is_whole c.ending ≡ true → Lawful (log_of c))
