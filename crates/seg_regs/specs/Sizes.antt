-- Which sizes of a program's parts are allowed: `estabur` in Lions' Commentary, `main.c`. Sizes are clicks of 64 bytes.
use Rattle.std.specs.Prelude.{ℕ, ◌+◌, Bool, ◌||◌, nat_lt}
use Rattle.v6_base.specs.Image.{nseg}

-- Text, data and stack have eight segments together, and with the u area of sixteen clicks they may not exceed the most
-- that an image has.
abbrev pub is_refused : ℕ → ℕ → ℕ → ℕ → Bool
is_refused text d stack most = nat_lt 8 (nseg text + nseg d + nseg stack) || nat_lt most (text + d + stack + 16)
