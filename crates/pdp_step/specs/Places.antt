-- What a shift by many places at once is made of: the number before, its sign, and what went out last.
use Rattle.std.specs.Prelude.{ℕ, ◌+◌, ◌-◌, ◌*◌, ◌^◌, nat_lt, nat_le, Bool, false, if◌then◌else◌}
use Rattle.pdp_step.specs.declared.extended.Shifting.{Shifting}

-- a number that has not been shifted yet
abbrev pub begun : ℕ → Shifting
begun x = record { value = x; c = false; v = false }

-- a number whose sign bit is half keeps its sign when it is doubled n times
abbrev pub keeps_sign : ℕ → ℕ → ℕ → Bool
keeps_sign half n x = if nat_le half x then nat_le ((2 * half - x) * 2 ^ n) half else nat_lt (x * 2 ^ n) half

-- its sign carried on over 32 bits more
abbrev pub carried : ℕ → ℕ → ℕ
carried half x = if nat_le half x then x + 2 * half * 0xffffffff else x
