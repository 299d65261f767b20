-- What the auditor keeps, as the board that the lines so far give and how far they have come.
use Rattle.std.specs.Prelude.{ℕ, ℤ, ◌+◌, ◌-◌, map, Option, Some, None}
use Rattle.v6_base.specs.declared.entry.Place.TheVariants.{Core, Swap}
use Rattle.pick_rules.specs.declared.row.Stat.TheVariants.{Ready, Zombie}
use Rattle.pick_rules.specs.declared.row.TableRow.{TableRow}
use Rattle.pick_rules.specs.Table.{empty_row}
use Rattle.pick_rules.specs.Board.{TextPlace, Board}
use Rattle.pick_rules.specs.Lawful as log
use Rattle.pick_rules.specs.Lawful.{Seen, nothing_seen}
use Rattle.log_audit.specs.declared.world.TextRow.{TextRow}
use Rattle.log_audit.specs.declared.world.Stage.{Stage}
use Rattle.log_audit.specs.declared.world.Stage.TheVariants.{Blank, Booted, Open, Idling, Bared, Over}
use Rattle.log_audit.specs.declared.world.World.{World}

abbrev pub text_place : Option TextRow → Option TextPlace
text_place None = None
text_place (Some x) = Some (record { clicks = x.clicks; users = x.users; loaded = x.loaded; click = x.click; block = x.block })

abbrev pub board_of : World → Board
board_of w = record { table = w.table; texts = map text_place w.texts; core = w.core }

abbrev pub stage_of : Stage → log.Stage
stage_of Blank = log.Blank
stage_of Booted = log.Booted
stage_of Open = log.Open
stage_of Idling = log.Idling
stage_of (Bared s) = log.Bared s
stage_of Over = log.Over

-- before its first line a log gives nothing
abbrev pub board_at : Stage → World → Board
board_at Blank w = nothing_seen.board
board_at Booted w = board_of w
board_at Open w = board_of w
board_at Idling w = board_of w
board_at (Bared s) w = board_of w
board_at Over w = board_of w

abbrev pub seen_of : World → Seen
seen_of w = record { stage = stage_of w.stage; board = board_at w.stage w }

-- a row whose image has no place
abbrev pub unplaced : TableRow → TableRow
unplaced row = record row { place = None }

-- and one that stands at a block of the swap area, or at a click
abbrev pub out_at : TableRow → ℕ → ℕ → TableRow
out_at row clicks block = record row { size = clicks; place = Some (Swap block); time = 0 }

abbrev pub in_at : TableRow → ℕ → ℕ → TableRow
in_at row clicks c = record row { size = clicks; place = Some (Core c) }

-- a text of which one user less, or one more, is in core
abbrev pub less_loaded : TextRow → TextRow
less_loaded t = record t { loaded = t.loaded - 1 }

abbrev pub more_loaded : TextRow → TextRow
more_loaded t = record t { loaded = t.loaded + 1 }

-- the row of a process that has ended
abbrev pub ended : TableRow → ℕ → TableRow
ended row block = record row { stat = Zombie; channel = None; place = Some (Swap block) }

-- a row that shares a text, a text with one user more, and a new one
abbrev pub sharing : TableRow → ℕ → TableRow
sharing row k = record row { text = Some k }

abbrev pub more_users : TextRow → TextRow
more_users t = record t { users = t.users + 1 }

abbrev pub new_text : ℕ → ℕ → TextRow
new_text clicks block = record { clicks = clicks; users = 1; loaded = 0; click = 0; block = block }

-- the row of a child that has no text and no place yet
abbrev pub born : ℤ → TableRow
born nice = record empty_row { stat = Ready; nice = nice }

-- a row that has left its text, and a text with one user less
abbrev pub unshared : TableRow → TableRow
unshared row = record row { text = None }

abbrev pub less_used : TextRow → TextRow
less_used t = record t { users = t.users - 1 }

-- a text with its click, and a row that has been where it is for no second yet
abbrev pub first_at : TextRow → ℕ → TextRow
first_at t c = record t { click = c }

abbrev pub rested : TableRow → TableRow
rested row = record row { time = 0 }
