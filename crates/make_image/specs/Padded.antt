-- Lists that are padded with zeros.
use Rattle.std.specs.Prelude.{ℕ, ◌-◌, List, ◌++◌, length, replicate}

-- the list, and zeros up to this length
unfoldable pub padded : ℕ → List ℕ → List ℕ
padded size list = list ++ replicate (size - length list) 0
