-- What an event does, in order, and what comes of it. W is the state that stands just before a demand for a place.
use Rattle.std.specs.Prelude.{ℕ, nat_le, if◌then◌else◌, Option, Some, None}
use Rattle.v6_base.specs.Trace.{Item, Log}
use Rattle.v6_base.specs.declared.entry.Place.{Place}
use Rattle.v6_base.specs.declared.entry.PanicKind.{PanicKind}
use Rattle.v6_base.specs.declared.entry.PanicKind.TheVariants as panic
use Rattle.v6_base.specs.declared.entry.Entry.{Entry}
use Rattle.v6_base.specs.declared.entry.Entry.TheVariants as line
use Rattle.pick_rules.specs.Table.{row_at}
use Rattle.pick_rules.specs.Board.{Board, blocks, placed, swap_fit, free_text}

-- one effect: a byte or a line that names no place, or a demand for one
pub data Effect (W : Type 0) : Type 0 where
  Show : Item → Effect W
  Size : ℕ → ℕ → W → Effect W  -- this slot's image shall have so many clicks
  Fork : ℕ → ℕ → W → Effect W  -- this slot makes a child in that one
  Text : ℕ → ℕ → W → Effect W  -- this slot makes a text of so many clicks
  Image : ℕ → ℕ → W → Effect W  -- this slot takes a new image of so many clicks
  Exit : ℕ → W → Effect W  -- the process in this slot has ended

-- what an effect comes to: it lets something out, or the event stops just before it with a panic
pub data Came (W : Type 0) : Type 0 where
  Lets : Item → Came W
  Stops : PanicKind → W → Came W

module _ {W : Type 0} where
  -- the line with its place
  abbrev pub at_fit : {P : Type 0} → PanicKind → W → Option P → (P → Entry) → Came W
  at_fit kind before (Some place) entry = Lets (Log (entry place))
  at_fit kind before None entry = Stops kind before

  -- an image's: one that finds none, neither in core nor in the swap area, is a panic
  abbrev pub image_at : W → Option Place → (Place → Entry) → Came W
  image_at before place entry = at_fit panic.Swap before place entry

  -- A text's: it takes an entry, and blocks of the swap area. Whether an entry is free is asked first.
  abbrev pub new_text_at : W → Option ℕ → Option ℕ → (ℕ → ℕ → Entry) → Came W
  new_text_at before None block entry = Stops panic.Text before
  new_text_at before (Some k) block entry = at_fit panic.Swap before block (entry k)

  unfoldable pub came : Board → Effect W → Came W
  came b (Show item) = Lets item
  came b (Size s clicks before) =
      if nat_le clicks (row_at b.table s).size then Lets (Log (line.SizeKeep s clicks))
      else image_at before (placed b s clicks) (λ place. line.Size s clicks place)
  came b (Fork s child before) =
      image_at before (placed b s (row_at b.table s).size) (λ place. line.Fork s child place)
  came b (Text s clicks before) =
      new_text_at before (free_text b) (swap_fit b (blocks clicks)) (λ k block. line.Text s k clicks block)
  came b (Image s clicks before) = image_at before (placed b s clicks) (λ place. line.Image s clicks place)
  came b (Exit s before) = at_fit panic.Zombie before (swap_fit b 1) (λ block. line.Exit s block)

-- an effect over another state
abbrev pub lifted : {V W : Type 0} → (V → W) → Effect V → Effect W
lifted f (Show item) = Show item
lifted f (Size s clicks before) = Size s clicks (f before)
lifted f (Fork s child before) = Fork s child (f before)
lifted f (Text s clicks before) = Text s clicks (f before)
lifted f (Image s clicks before) = Image s clicks (f before)
lifted f (Exit s before) = Exit s (f before)
