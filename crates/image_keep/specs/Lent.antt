-- What a loan of one image leaves as it is.
use base.Fml.{GName}
use Rattle.std.specs.Prelude.{ℕ, ◌+◌, List, ◌++◌, length, take, drop}
use Rattle.image_keep.specs.Kept.{Kept, keeping, image_of, no_image, with_image}
use Rattle.image_keep.specs.Starts.{data_start}
use Rattle.image_keep.specs.State.{ImagesState}

-- all but the image of a slot
unfoldable pub left_of : Kept → ℕ → Kept
left_of k s = with_image k s no_image

-- how many bytes are core's, and bytes of core and of the swap area after it
pub record Outside : Type 0 where
  pub core : ℕ
  pub bytes : List ℕ

-- a list without n bytes from one on
abbrev pub around : List ℕ → ℕ → ℕ → List ℕ
around line at n = take at line ++ drop (at + n) line

-- all bytes but those of the data and of the stack of a slot's image
unfoldable pub outside_of : ImagesState → ℕ → Outside
outside_of x s = record {
  core = length x.core;
  bytes =
      around (x.core ++ x.swap) (data_start x.kept.core (keeping x.kept s))
      (length (image_of x.kept s).data + length (image_of x.kept s).stack);
}

-- the loan by its name, its slot, all but the slot's image, and all bytes but those of its data and its stack
pub record Lent : Type 0 where
  pub loan : GName
  pub slot : ℕ
  pub left : Kept
  pub outside : Outside
