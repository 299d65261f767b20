-- The routines for signals go as a program begins.
use Rattle.std.proofs.Common.{◌≡◌, ◌∙◌, ℕ, ◌+◌, ◌<◌, ◌++◌, List, length, get_or, map, take, drop, set, ap, arith}
use Rattle.std.proofs.lemmas.List.{length-map, length-append, take-append-drop, get_or_default}
use Rattle.std.proofs.lemmas.List.Edits.{map_over_more}
use Rattle.sys_procs.specs.ExecFile.{kept_handler}

-- one more routine has gone
pub one_more_kept : (old now : List ℕ) (i h : ℕ) → i < length old → now ≡ map kept_handler (take i old) ++ drop i old
    → h ≡ kept_handler (get_or now i 0) → set now i h ≡ map kept_handler (take (i + 1) old) ++ drop (i + 1) old
one_more_kept old now i h low is e =
    let joined = length-append (map kept_handler (take i old)) (drop i old) in
    let front = length-map (take i old) kept_handler in
    let whole = length-append (take i old) (drop i old) in
    let same = ap length (take-append-drop i old) in
    let long = ap length is in
    let within : i < length now = omega (arith, joined, front, whole, same, long, low) in
    ap (set now i) e
    ∙ map_over_more kept_handler old now i (get_or now i 0) low is (get_or_default now i 0 (get_or now i 0) within)
