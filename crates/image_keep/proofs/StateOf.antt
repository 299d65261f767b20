-- What the fields tell of the images, part by part.
use Rattle.std.specs.Prelude.{◌≡◌, ◌++◌}
use Rattle.std.proofs.Common.{ap}
use Rattle.image_keep.specs.State.{ImagesState}

pub kept_is : {x y : ImagesState} → x ≡ y → x.kept ≡ y.kept
kept_is e = ap (λ (k : ImagesState). k.kept) e

pub core_is : {x y : ImagesState} → x ≡ y → x.core ≡ y.core
core_is e = ap (λ (k : ImagesState). k.core) e

pub swap_is : {x y : ImagesState} → x ≡ y → x.swap ≡ y.swap
swap_is e = ap (λ (k : ImagesState). k.swap) e

pub line_is : {x y : ImagesState} → x ≡ y → x.core ++ x.swap ≡ y.core ++ y.swap
line_is e = ap (λ (k : ImagesState). k.core ++ k.swap) e
