-- What the images are to their caller: what is kept, and the bytes of core and of the swap area that hold it.
use Rattle.std.specs.Prelude.{ℕ, List}
use Rattle.image_keep.specs.Kept.{Kept}

pub record ImagesState : Type 0 where
  pub kept : Kept
  pub core : List ℕ
  pub swap : List ℕ
