-- What becomes of the images that are kept when lines of a pass are logged: an image comes in or goes out.
use Rattle.std.specs.Prelude.{◌≡◌, ℕ, List, fold, Option, Some, None, Result, Ok, Err}
use Rattle.v6_base.specs.Trace.{Item, Byte, Log, Taken, Took}
use Rattle.v6_base.specs.declared.entry.Entry.{Entry}
use Rattle.v6_base.specs.declared.entry.Entry.TheVariants.{SwapIn, SwapOut}
use Rattle.v6_base.specs.declared.entry.PanicKind.{PanicKind}
use Rattle.pick_rules.specs.declared.table.Table.{Table}
use Rattle.pick_rules.specs.Logged.{Stop, Logged}
use Rattle.v6_base.specs.declared.entry.Place.TheVariants.{Core}
use Rattle.image_keep.specs.Kept.{Kept, Keeping, Shared, keeping, shared, at_place, changed}
use Rattle.image_keep.specs.Moves.{swapped_in, swapped_out}
use Rattle.swap_sched.specs.Match.{Matches, board_of}

abbrev pub kept_by_line : Kept → Entry → Kept
kept_by_line k (SwapIn s c) = swapped_in k s (Some c)
kept_by_line k (SwapOut s block) = swapped_out k s (Some block)
kept_by_line k e = k

abbrev pub kept_by_item : Kept → Item → Kept
kept_by_item k (Log e) = kept_by_line k e
kept_by_item k (Byte l byte) = k

abbrev pub kept_after : Kept → List Item → Kept
kept_after k items = fold kept_by_item k items

-- what a pass answers
abbrev pub answered : Option (Stop (Unit {0})) → Result (Unit {0}) PanicKind
answered None = Ok tt
answered (Some stop) = Err stop.why

-- What moves that leave this log have done to the table, to the images and to a trace. The time at which sleepers are woken,
-- of which a log doesn't tell, is the same.
pub record HasMoved (t : Table) (k : Kept) (a : Taken) (l : Logged (Unit {0})) (u : Table) (n : Kept) (z : Taken) : Type 0 where
  pub board : board_of u n ≡ l.board
  pub images : n ≡ kept_after k l.items
  pub tout : u.tout ≡ t.tout
  pub items : Took a l.items z
  pub matching : Matches u n

-- Images but for their places, and texts but for their users in core and their click there.
abbrev pub unplaced : Keeping → Keeping
unplaced x = at_place (Core 0) x

abbrev pub unloaded : Option Shared → Option Shared
unloaded x = changed (λ row. record row { loaded = 0; at = 0 }) x

-- What moves leave: the processes, their u areas and their images, what is left of those who have ended, and the texts.
pub record SameImages (k n : Kept) : Type 0 where
  pub core : n.core ≡ k.core
  pub users : n.users ≡ k.users
  pub slots : (s : ℕ) → unplaced (keeping n s) ≡ unplaced (keeping k s)
  pub texts : (t : ℕ) → unloaded (shared n t) ≡ unloaded (shared k t)
