-- Writing a text piece by piece.
use Rattle.std.proofs.Common.{◌≡◌, ◌≤◌, ◌+◌, ◌-◌, ℕ, List, [], ◌∷◌, ◌++◌, sym, ◌∙◌, ap, subst, take, drop, length, append_assoc, Result, Ok, Err, arith}
use Rattle.std.proofs.lemmas.List.{take_all, length-drop, take-append-drop}
use Rattle.std.proofs.Math.Seq.{take-add}
use Rattle.v6_port.specs.declared.host.OutPort.{OutPort}
use Rattle.v6_port.specs.declared.host.Failed.{Failed}
use Rattle.v6_port.specs.Outside.{Out, Outside, Tells}
use Rattle.v6_port.specs.Calls.{Writes}
use Rattle.v6_run.specs.Fronts.{HoldsFront}

-- a front of the text has been written
pub front_at : (old text new : List ℕ) (at : ℕ) → new ≡ old ++ take at text → HoldsFront old text new
front_at old text new at is = record { part = take at text; rest = drop at text; split = sym (take-append-drop at text); holds = is }

pub failed_write : (p : OutPort) (old new : Outside) (piece : List ℕ) (r : Result ℕ Failed) (e : Failed) → Writes p old piece r new → r ≡ Err e
    → (new.port (Out p)).bytes ≡ (old.port (Out p)).bytes
failed_write p old new piece (Ok n) e writes is = cc
failed_write p old new piece (Err f) e writes is = writes.outcome.failed.bytes

pub good_write : (p : OutPort) (old new : Outside) (piece : List ℕ) (r : Result ℕ Failed) (n : ℕ) → Writes p old piece r new → r ≡ Ok n → Tells old
    → (new.port (Out p)).bytes ≡ (old.port (Out p)).bytes ++ take n piece
good_write p old new piece (Ok m) n writes is told =
    let same_count : m ≡ n = cc in
    subst (λ k. (new.port (Out p)).bytes ≡ (old.port (Out p)).bytes ++ take k piece) same_count (writes.outcome.3 told)
good_write p old new piece (Err f) n writes is told = cc

-- a byte that is written is written whole
pub byte_written : (p : OutPort) (old new : Outside) (byte : ℕ) (r : Result ℕ Failed) (n : ℕ) → Writes p old (byte ∷ []) r new → r ≡ Ok n → Tells old
    → (new.port (Out p)).bytes ≡ (old.port (Out p)).bytes ++ byte ∷ []
byte_written p old new byte (Ok m) n writes is told =
    let one : m ≡ 1 = omega (arith, writes.outcome.0, writes.outcome.1) in
    let taken : (new.port (Out p)).bytes ≡ (old.port (Out p)).bytes ++ take m (byte ∷ []) = writes.outcome.3 told in
    taken ∙ ap (λ k. (old.port (Out p)).bytes ++ take k (byte ∷ [])) one
byte_written p old new byte (Err f) n writes is told = cc

pub rest_is : (text : List ℕ) (at : ℕ) → take (length text - at) (drop at text) ≡ drop at text
rest_is text at = take_all (length text - at) (drop at text) (omega (arith, length-drop at text))

-- one piece more of the text
pub piece_more : (before written after text piece : List ℕ) (at n : ℕ) → written ≡ before ++ take at text → piece ≡ drop at text → after ≡ written ++ take n piece
    → after ≡ before ++ take (at + n) text
piece_more before written after text piece at n was is more =
    more ∙ ap (λ l. l ++ take n piece) was ∙ append_assoc before (take at text) (take n piece)
    ∙ ap (λ l. before ++ (take at text ++ take n l)) is ∙ ap (λ l. before ++ l) (sym (take-add at n text))

pub write_within : (p : OutPort) (old new : Outside) (text : List ℕ) (at : ℕ) (r : Result ℕ Failed) (n : ℕ) → Writes p old (take (length text - at) (drop at text)) r new
    → r ≡ Ok n → at ≤ length text → at + n ≤ length text
write_within p old new text at (Ok m) n writes is within =
    let same_count : m ≡ n = cc in
    let piece : length (take (length text - at) (drop at text)) ≡ length text - at = ap length (rest_is text at) ∙ length-drop at text in
    omega (arith, writes.outcome.0)
write_within p old new text at (Err f) n writes is within = cc
