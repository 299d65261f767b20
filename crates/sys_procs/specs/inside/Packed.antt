-- How bytes with their NULs are arguments.
use Rattle.std.specs.Prelude.{◌≡◌, ◌≤◌, ◌==◌, ℕ, zero, suc, Bool, true, List, [], ◌∷◌, length, take, slice_index}
use Rattle.std.specs.List.{concat}
use Rattle.sys_procs.specs.declared.arguments.Arguments.TheInside.{Inside}
use Rattle.sys_procs.specs.Stack.{in_front}

-- bytes in which each argument ends with a NUL
unfoldable pub split : List ℕ → List (List ℕ)
split [] = []
split (byte ∷ later) = in_front byte (split later)

abbrev pub arguments_in : Inside → List (List ℕ)
arguments_in a = split (take a.length a.bytes)

pub record ArePacked (a : Inside) : Type 0 where
  pub most : a.length ≤ 510
  pub number : a.count ≡ length (arguments_in a)
  pub all : concat (arguments_in a) ≡ take a.length a.bytes

-- whether an argument begins at a place of the bytes: at the first, and after each NUL
abbrev pub begins_at : List ℕ → ℕ → Bool
begins_at bytes zero = true
begins_at bytes (suc before) = slice_index bytes before == 0
