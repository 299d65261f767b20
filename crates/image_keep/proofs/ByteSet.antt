-- A byte of the line of core and the swap area is another one: it is one of core, or of the swap area, and the other list is
-- as it was.
use Rattle.std.proofs.Common.{◌≡◌, ◌∙◌, ℕ, ◌+◌, ◌-◌, ◌*◌, ◌<◌, Bool, true, false, cond, List, ◌++◌, length, take, set, refl, sym, ap, arith}
use Rattle.std.proofs.lemmas.List.{take_all, take-append-le, append_cancel_left, set-append_left, set-append_right, length-set}
use Rattle.v6_base.specs.declared.named.Named.{Named}
use Rattle.v6_base.specs.declared.named.Named.TheVariants.{InText, InData, InStack}
use Rattle.v6_base.specs.declared.named.Named.TheVariants as named_is
use Rattle.image_keep.specs.declared.starts.Starts.{Starts}
use Rattle.image_keep.specs.Kept.{Kept, HasImage, image_in}
use Rattle.image_keep.specs.Memory.{place_at}
use Rattle.image_keep.specs.Starts.{data_start, AreStarts, start_of}
use Rattle.image_keep.specs.Deposits.{StandsAt}
use Rattle.image_keep.specs.ByteOf.{line_place}
use Rattle.image_keep.proofs.Depositing.{line_of_side}

-- two lists behind each other are the same as two others, the first as long as the first
pub same_first : (xs ys zs ws : List ℕ) → length xs ≡ length zs → xs ++ ys ≡ zs ++ ws → xs ≡ zs
same_first xs ys zs ws n e =
    sym (take-append-le (length xs) xs ys (omega arith) ∙ take_all (length xs) xs (omega arith))
    ∙ ap (take (length xs)) e
    ∙ take-append-le (length xs) zs ws (omega (arith, n)) ∙ take_all (length xs) zs (omega (arith, n))

pub same_second : (xs ys zs ws : List ℕ) → length xs ≡ length zs → xs ++ ys ≡ zs ++ ws → ys ≡ ws
same_second xs ys zs ws n e =
    append_cancel_left xs ys ws (e ∙ ap (λ l. l ++ ws) (sym (same_first xs ys zs ws n e)))

pub record ByteIsSet (core swap core' swap' : List ℕ) (out : Bool) (at b : ℕ) : Type 0 where
  pub core_is : core' ≡ cond out core (set core at b)
  pub swap_is : swap' ≡ cond out (set swap at b) swap

pub byte_is_set : (core swap core' swap' : List ℕ) (n at b : ℕ) (out : Bool) → length core ≡ 64 * n → length core' ≡ length core → at < cond out 446464 (64 * n)
    → core' ++ swap' ≡ set (core ++ swap) (line_place n out at) b → ByteIsSet core swap core' swap' out at b
byte_is_set core swap core' swap' n at b false long same low e =
    let own : core' ++ swap' ≡ set core at b ++ swap = e ∙ set-append_left core swap at b (omega (arith, low, long)) in
    let size : length core' ≡ length (set core at b) = same ∙ sym (length-set core at b) in
    record { core_is = same_first core' swap' (set core at b) swap size own; swap_is = same_second core' swap' (set core at b) swap size own }
byte_is_set core swap core' swap' n at b true long same low e =
    let back : 64 * n + at - 64 * n ≡ at = omega arith in
    let own : core' ++ swap' ≡ core ++ set swap at b = e ∙ set-append_right core swap (64 * n) (64 * n + at) b long (omega arith) ∙ ap (λ i. core ++ set swap i b) back in
    record { core_is = same_first core' swap' core (set swap at b) same own; swap_is = same_second core' swap' core (set swap at b) same own }

-- where a byte of an image stands in the line
module _ (k : Kept) (s at : ℕ) (out : Bool) (x : Starts) (starts : AreStarts k s x) (has : HasImage k s) where
  begins : x.image ≡ place_at k.core has.0.place + 1024
  begins = starts.image ∙ ap (data_start k.core) has.1

  pub stands_in_line : (byte : Named) → StandsAt has.0 out at byte → start_of x byte ≡ line_place k.core out at
  stands_in_line (InText i) st = absurd st.kind
  stands_in_line (InData i) st =
      let p = line_of_side k.core at (line_place k.core out at) (1024 + i) has.0.place out refl st.side st.there in
      let b = begins in
      omega (arith, p, b)
  stands_in_line (InStack i) st =
      let p = line_of_side k.core at (line_place k.core out at) (1024 + length has.0.image.data + i) has.0.place out refl st.side st.there in
      let b = begins in
      let d : x.data_len ≡ length has.0.image.data = starts.data_len ∙ ap (λ y. length (image_in y).data) has.1 in
      omega (arith, p, b, d)
  stands_in_line named_is.Nothing st = absurd st.kind
