-- The keys of a text ask for no slots.
use Rattle.std.proofs.Common.{◌≡◌, ℕ, List, [], ◌∷◌, ◌++◌, map, sum_by, arith}
use Rattle.script_text.specs.declared.script.Event.TheVariants.{Byte}
use Rattle.script_text.specs.Script.{slots_of}

pub keys_ask_no_slots : (text : List ℕ) → sum_by slots_of (map Byte text ++ Byte 0o015 ∷ []) ≡ 0
keys_ask_no_slots [] = grind arith
keys_ask_no_slots (key ∷ text) = grind (arith, keys_ask_no_slots text)
