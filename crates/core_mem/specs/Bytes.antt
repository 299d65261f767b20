-- Parts of a list of bytes, and where the clicks of core begin.
use Rattle.std.specs.Prelude.{ℕ, ◌+◌, ◌-◌, ◌*◌, List, ◌++◌, length, take, drop}

-- n bytes from at on
unfoldable pub part : List ℕ → ℕ → ℕ → List ℕ
part xs at n = take n (drop at xs)

-- xs with ys in place of as many bytes from at on
unfoldable pub over : List ℕ → ℕ → List ℕ → List ℕ
over xs at ys = take at xs ++ (ys ++ drop (at + length ys) xs)

-- where a click begins: clicks have 64 bytes, and the first has the number 1
abbrev pub click_start : ℕ → ℕ
click_start click = 64 * (click - 1)
