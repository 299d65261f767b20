-- How the fields are what is kept, and what holds of them.
use Rattle.std.specs.Prelude.{◌≡◌, ◌*◌, length}
use Rattle.image_keep.specs.declared.images.Images.TheInside.{Inside}
use Rattle.image_keep.specs.Line.{line_of}
use Rattle.image_keep.specs.Kept.{Kept}
use Rattle.image_keep.specs.State.{ImagesState}
use Rattle.image_keep.specs.Memory.{Stock, IsSound, kept_of}
use Rattle.image_keep.specs.Maps.{AreMaps}
use Rattle.image_keep.specs.Counts.{IsCounted}
use Rattle.image_keep.specs.Told.{AreTold}

abbrev pub stock_in : Inside → Stock
stock_in a = record { line = line_of a.memory; core = a.core; rows = a.rows.items; texts = a.texts }

abbrev pub kept_in : Inside → Kept
kept_in a = kept_of (stock_in a)

abbrev pub state_of : Inside → ImagesState
state_of a = record { kept = kept_in a; core = a.memory.core; swap = a.memory.swap }

pub record AreImages (a : Inside) : Type 0 where
  pub sound : IsSound (stock_in a)
  pub maps : AreMaps (stock_in a) a.core_map a.swap_map
  pub table : length a.texts ≡ 40
  pub cut : length a.memory.core ≡ 64 * a.core
  pub counted : IsCounted a.rows.items a.texts
  pub told : AreTold (kept_in a)
