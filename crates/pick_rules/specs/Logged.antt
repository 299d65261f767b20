-- The log that effects leave, one after another, until one of them stops the event.
use Rattle.std.specs.Prelude.{List, [], ◌∷◌, ◌++◌, fold, Option, Some, None}
use Rattle.v6_base.specs.Trace.{Item, Byte, Log}
use Rattle.v6_base.specs.declared.entry.Entry.TheVariants as line
use Rattle.pick_rules.specs.Board.{Board}
use Rattle.pick_rules.specs.Apply.{applied}
use Rattle.v6_base.specs.declared.entry.PanicKind.{PanicKind}
use Rattle.pick_rules.specs.Effects.{Effect, Came, Lets, Stops, came}

-- the panic with which the event stops, and the state just before the effect that stopped it
pub record Stop (W : Type 0) : Type 0 where
  pub why : PanicKind
  pub before : W

pub record Logged (W : Type 0) : Type 0 where
  pub items : List Item
  pub board : Board
  pub stop : Option (Stop W)

abbrev pub board_after : Board → Item → Board
board_after b (Log e) = applied b e
board_after b (Byte l byte) = b

module _ {W : Type 0} where
  abbrev pub nothing_logged : Board → Logged W
  nothing_logged b = record { items = []; board = b; stop = None }

  abbrev pub with_item : Logged W → Item → Logged W
  with_item l item = record l { items = l.items ++ item ∷ []; board = board_after l.board item }

  -- a panic is a line of the log
  abbrev pub with_panic : Logged W → PanicKind → Logged W
  with_panic l kind = with_item l (Log (line.Panic kind))

  abbrev pub with_what_came : Logged W → Came W → Logged W
  with_what_came l (Lets item) = with_item l item
  with_what_came l (Stops kind before) = record (with_panic l kind) { stop = Some (record { why = kind; before = before }) }

  abbrev pub unless_stopped : Option (Stop W) → Logged W → Logged W → Logged W
  unless_stopped None l next = next
  unless_stopped (Some stop) l next = l

  unfoldable pub log_one : Logged W → Effect W → Logged W
  log_one l effect = unless_stopped l.stop l (with_what_came l (came l.board effect))

  abbrev pub logged : Board → List (Effect W) → Logged W
  logged b effects = fold log_one (nothing_logged b) effects

  -- the state after effects that leave this one
  abbrev pub left_by : Option (Stop W) → W → W
  left_by None after = after
  left_by (Some stop) after = stop.before
