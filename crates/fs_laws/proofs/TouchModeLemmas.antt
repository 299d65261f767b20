-- A mode that says that a file is large.
use Rattle.std.proofs.Common.{◌≡◌, ◌≢◌, ◌==◌, ◌||◌, ◌&&◌, not, ℕ, suc, Bool, true, false, cond, List, [], ◌∷◌, slice_index, nat_eq, refl, sym, ap, ◌∙◌, arith, bit_and, bit_or}
use Rattle.std.proofs.lemmas.Nat.{and_or_self, and_or_apart}
use Rattle.std.proofs.lemmas.Bool.{ne_eqb}
use Rattle.std.specs.List.{count_by}
use Rattle.fs_codec.specs.Modes.{file_type, is_large, is_device, holds_blocks}
use Rattle.fs_codec.proofs.CountLemmas.{count-cons}

pub large_now : (mode : ℕ) → is_large (bit_or mode 0o010000) ≡ true
large_now mode = ap (λ x. not (x == 0)) (and_or_self 0o010000 mode)

pub same_type : (mode : ℕ) → file_type (bit_or mode 0o010000) ≡ file_type mode
same_type mode = and_or_apart 0o060000 mode 0o010000 refl

not_none : (mode : ℕ) → (bit_or mode 0o010000 == 0) ≡ false
not_none mode = ne_eqb (bit_or mode 0o010000) 0 (λ e. let x : bit_and (bit_or mode 0o010000) 0o010000 ≡ 0 = ap (λ y. bit_and y 0o010000) e in let y = and_or_self 0o010000 mode in absurd (omega (arith, x, y)))

pub still_holds : (mode : ℕ) → holds_blocks mode ≡ true → holds_blocks (bit_or mode 0o010000) ≡ true
still_holds mode h =
    ap (λ t. not t && not (is_device (bit_or mode 0o010000))) (not_none mode) ∙ ap (λ t. not ((t == 0o020000) || (t == 0o060000))) (same_type mode) ∙ second (not (mode == 0)) (not (is_device mode)) h where
      second : (s t : Bool) → s && t ≡ true → t ≡ true
      second true t e = e
      second false t e = absurd (cc)

-- Lists that have the same numbers at each place, but for zeros behind, count the same.
pub count_places : (xs ys : List ℕ) (k : ℕ) → k ≢ 0 → ((j : ℕ) → slice_index xs j ≡ slice_index ys j) → count_by (nat_eq k) xs ≡ count_by (nat_eq k) ys
count_places [] [] k some same = refl
count_places (x ∷ xs) [] k some same =
    let t : cond {A = ℕ} (nat_eq k x) 1 0 ≡ 0 = ap (λ y. cond (nat_eq k y) 1 0) (same 0) ∙ ap (λ t. cond t 1 0) (ne_eqb k 0 some) in
    let rest = count_places xs [] k some (λ j. same (suc j)) in omega (arith, t, rest, count-cons k x xs)
count_places [] (y ∷ ys) k some same =
    let t : cond {A = ℕ} (nat_eq k y) 1 0 ≡ 0 = ap (λ z. cond (nat_eq k z) 1 0) (sym (same 0)) ∙ ap (λ t. cond t 1 0) (ne_eqb k 0 some) in
    let rest = count_places [] ys k some (λ j. same (suc j)) in omega (arith, t, rest, count-cons k y ys)
count_places (x ∷ xs) (y ∷ ys) k some same =
    let t : cond {A = ℕ} (nat_eq k x) 1 0 ≡ cond (nat_eq k y) 1 0 = ap (λ z. cond (nat_eq k z) 1 0) (same 0) in
    let rest = count_places xs ys k some (λ j. same (suc j)) in omega (arith, t, rest, count-cons k x xs, count-cons k y ys)
