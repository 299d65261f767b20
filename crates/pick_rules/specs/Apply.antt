-- What each line of the log does to the board.
use Rattle.std.specs.Prelude.{ℕ, ◌+◌, ◌-◌, false, ◌==◌, if◌then◌else◌, Option, Some, None}
use Rattle.v6_base.specs.declared.entry.Place.{Place}
use Rattle.v6_base.specs.declared.entry.Place.TheVariants.{Core, Swap}
use Rattle.v6_base.specs.declared.entry.Entry.{Entry}
use Rattle.v6_base.specs.declared.entry.Entry.TheVariants.{Boot, Go, Idle, Trap, TickUser, TickKernel, TickIdle, Sleep, Wake, Signal, Nice, Time, Size, SizeKeep, Fork, Leave, Bare, Text, Share, Image, SwapIn, SwapOut, Exit, Reap, Panic, End}
use Rattle.pick_rules.specs.declared.row.Mode.TheVariants as mode
use Rattle.pick_rules.specs.declared.row.Stat.TheVariants.{Zombie}
use Rattle.pick_rules.specs.declared.row.TableRow.{TableRow}
use Rattle.pick_rules.specs.declared.table.Table.{Table}
use Rattle.pick_rules.specs.Table.{empty_row, child_row, row_at, with_row, is_loaded}
use Rattle.pick_rules.specs.Priority.{setpri}
use Rattle.pick_rules.specs.Sleepers.{runout_told, fall_asleep, wakeup, signalled}
use Rattle.pick_rules.specs.Clock.{tick}
use Rattle.pick_rules.specs.Board.{TextPlace, Board, first_board, text_at, with_text}

abbrev pub in_table : Board → (Table → Table) → Board
in_table b change = record b { table = change b.table }

abbrev pub change_row : Table → ℕ → (TableRow → TableRow) → Table
change_row t s change = with_row t s (change (row_at t s))

-- the slot that is chosen runs
abbrev pub runs : Table → ℕ → Table
runs t s = record t { running = Some s; last = s; curpri = (row_at t s).pri; runrun = false }

-- a text has so many users more, or one less; one of them enters core, or leaves it
abbrev pub changed : Option TextPlace → (TextPlace → TextPlace) → Option TextPlace
changed None change = None
changed (Some text) change = Some (change text)

abbrev pub change_text : Board → Option ℕ → (TextPlace → TextPlace) → Board
change_text b None change = b
change_text b (Some k) change = with_text b k (changed (text_at b k) change)

abbrev pub enters_core : Board → Option ℕ → Board
enters_core b k = change_text b k (λ text. record text { loaded = text.loaded + 1 })

abbrev pub leaves_core : Board → Option ℕ → Board
leaves_core b k = change_text b k (λ text. record text { loaded = text.loaded - 1 })

-- an image goes to a place; in the swap area its time begins anew, and process 0 is told
abbrev pub at_place : Board → ℕ → ℕ → Place → Board
at_place b s clicks (Core c) =
    in_table (enters_core b (row_at b.table s).text)
    (λ t. change_row t s (λ row. record row { size = clicks; place = Some (Core c) }))
at_place b s clicks (Swap block) =
    in_table b (λ t. runout_told (change_row t s (λ row. record row { size = clicks; place = Some (Swap block); time = 0 })))

-- the place that a slot had is given back
abbrev pub without_place : Board → ℕ → Board
without_place b s =
    let left : Board = if is_loaded b.table s then leaves_core b (row_at b.table s).text else b in
    in_table left (λ t. change_row t s (λ row. record row { place = None }))

abbrev pub joins : Board → Option ℕ → Board
joins b k = change_text b k (λ text. record text { users = text.users + 1 })

-- a text whose last user has left goes, unless it is sticky
abbrev pub kept : Option TextPlace → Option TextPlace
kept None = None
kept (Some text) = if text.users == 0 then None else Some text

abbrev pub parted : Board → ℕ → Board
parted b k = change_text b (Some k) (λ text. record text { users = text.users - 1 })

abbrev pub goes_if_unused : Board → ℕ → Board
goes_if_unused b k = with_text b k (kept (text_at b k))

abbrev pub left_text : Board → ℕ → Board
left_text b s =
    let out : Board = if is_loaded b.table s then leaves_core b (row_at b.table s).text else b in
    in_table out (λ t. change_row t s (λ row. record row { text = None }))

abbrev pub with_text_of : Board → ℕ → ℕ → Board
with_text_of b s k = in_table b (λ t. change_row t s (λ row. record row { text = Some k }))

-- an image comes into core; its text comes before it, where it isn't there
abbrev pub brought_by : Board → ℕ → ℕ → Option TextPlace → ℕ → Board
brought_by b s k None c = at_place b s (row_at b.table s).size (Core c)
brought_by b s k (Some text) c =
    if text.loaded == 0
    then at_place (with_text b k (Some (record text { click = c }))) s (row_at b.table s).size (Core (c + text.clicks))
    else at_place b s (row_at b.table s).size (Core c)

abbrev pub brought : Board → ℕ → Option ℕ → ℕ → Board
brought b s None c = at_place b s (row_at b.table s).size (Core c)
brought b s (Some k) c = brought_by b s k (text_at b k) c

unfoldable pub applied : Board → Entry → Board
applied b (Boot core time) = first_board core time
applied b (Go s) = in_table b (λ t. runs t s)
applied b Idle = in_table b (λ t. record t { running = None; runrun = false })
applied b (Trap s) = in_table b (λ t. setpri (change_row t s (λ row. record row { calling = false })) s)
applied b TickUser = in_table b (tick mode.User)
applied b TickKernel = in_table b (tick mode.Kernel)
applied b TickIdle = in_table b (tick mode.Idle)
applied b (Sleep s pri chan) = in_table b (λ t. fall_asleep t s pri chan)
applied b (Wake chan) = in_table b (λ t. wakeup t chan)
applied b (Signal s n) = in_table b (λ t. signalled t s)
applied b (Nice s nice) = in_table b (λ t. change_row t s (λ row. record row { nice = nice }))
applied b (Time time) = in_table b (λ t. record t { now = time })
applied b (Size s clicks place) = at_place (without_place b s) s clicks place
applied b (SizeKeep s clicks) = in_table b (λ t. change_row t s (λ row. record row { size = clicks }))
applied b (Fork s child place) =
    at_place (joins (in_table b (λ t. with_row t child (child_row (row_at t s)))) (row_at b.table s).text)
    child (row_at b.table s).size place
applied b (Leave s k sticky) = let left : Board = parted (left_text b s) k in if sticky then left else goes_if_unused left k
applied b (Bare s) = in_table (without_place b s) (λ t. change_row t s (λ row. record row { size = 0 }))
applied b (Text s k clicks block) =
    with_text_of (with_text b k (Some (record { clicks = clicks; users = 1; loaded = 0; click = 0; block = block }))) s k
applied b (Share s k) = with_text_of (joins b (Some k)) s k
applied b (Image s clicks place) = at_place b s clicks place
applied b (SwapIn s c) = in_table (brought b s (row_at b.table s).text c) (λ t. change_row t s (λ row. record row { time = 0 }))
applied b (SwapOut s block) = at_place (without_place b s) s (row_at b.table s).size (Swap block)
applied b (Exit s block) =
    in_table b (λ t. record (change_row t s (λ row.
    record row { stat = Zombie; channel = None; place = Some (Swap block) })) { running = None })
applied b (Reap s) = in_table b (λ t. with_row t s empty_row)
applied b (Panic kind) = b
applied b End = b
