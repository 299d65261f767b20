-- Words that are stored one after another, from address 0 on, into the data of an image with no text.
use Rattle.std.proofs.Common.{◌≡◌, ℕ, zero, suc, ◌+◌, ◌-◌, ◌*◌, ◌/◌, ◌%◌, ◌<◌, Bool, true, false, List, [], ◌∷◌, ◌++◌, length, take, drop, get_or, refl, sym, ◌∙◌, ap, subst, arith}
use Rattle.std.proofs.Math.ListN.{set, length-set}
use Rattle.std.specs.Prelude.{◌&&◌, if◌then◌else◌, Result, Ok, Err}
use Rattle.std.proofs.lemmas.Bool.{lt-ltb, le-ltb, le-leb, ne_eqb}
use Rattle.std.proofs.lemmas.Grind.{drop_more_same}
use Rattle.std.proofs.lemmas.List.{take_more, take_more_set, drop-set-lt, take-append-drop, take_all, take-append-le}
use Rattle.fs_codec.specs.Bytes.{bytes_of}
use Rattle.v6_base.specs.declared.named.Named.{Named}
use Rattle.v6_base.specs.declared.named.Named.TheVariants.{InData}
use Rattle.v6_base.specs.Image.{Image, named_by, data_base}
use Rattle.v6_base.specs.Access.{then_do, store_byte, store_word, with_byte, image_after}
use Rattle.v6_base.specs.declared.space.Trap.{Trap}
use Rattle.v6_base.specs.declared.space.Trap.TheVariants.{Odd}

-- the first n places of a list have been written with those of another
pub record IsWritten (n : ℕ) (bytes old new : List ℕ) : Type 0 where
  pub front : take n new ≡ take n bytes
  pub back : drop n new ≡ drop n old
  pub size : length new ≡ length old

pub written_none : (bytes old : List ℕ) → IsWritten 0 bytes old old
written_none bytes old = record { front = refl; back = refl; size = refl }

written_more : (n : ℕ) (bytes old new : List ℕ) → n < length bytes → n < length old → IsWritten n bytes old new
    → IsWritten (n + 1) bytes old (set new n (get_or bytes n 0))
written_more n bytes old new more room so_far = record {
  front = take_more_set new n (get_or bytes n 0) (let size = so_far.size in omega arith)
      ∙ ap (λ l. l ++ get_or bytes n 0 ∷ []) so_far.front ∙ sym (take_more bytes n 0 more);
  back = drop-set-lt (n + 1) new n (get_or bytes n 0) (omega arith) ∙ drop_more_same new old n so_far.back;
  size = length-set new n (get_or bytes n 0) ∙ so_far.size;
}

-- the front has been written
pub written_front : (n : ℕ) (front old new : List ℕ) → length front ≡ n → IsWritten n (front ++ drop n old) old new → new ≡ front ++ drop n old
written_front n front old new all written =
    sym (take-append-drop n new) ∙ ap (λ l. l ++ drop n new) written.front ∙ ap (λ l. take n (front ++ drop n old) ++ l) written.back
    ∙ ap (λ l. l ++ drop n old) (take-append-le n front (drop n old) (omega (arith, all)) ∙ take_all n front (omega (arith, all)))

-- a word is written as two bytes
pub written_word : (n low high : ℕ) (bytes old new : List ℕ) → n + 1 < length bytes → n + 1 < length old
    → get_or bytes n 0 ≡ low → get_or bytes (n + 1) 0 ≡ high → IsWritten n bytes old new
    → IsWritten (n + 1 + 1) bytes old (set (set new n low) (n + 1) high)
written_word n low high bytes old new more room first second so_far =
    let half = written_more n bytes old new (omega arith) (omega arith) so_far in
    let all = written_more (n + 1) bytes old (set new n (get_or bytes n 0)) more room half in
    subst (λ b. IsWritten (n + 1 + 1) bytes old (set (set new n low) (n + 1) b)) second
    (subst (λ b. IsWritten (n + 1 + 1) bytes old (set (set new n b) (n + 1) (get_or bytes (n + 1) 0))) first all)

-- the bytes of words
pub byte_low : (words more : List ℕ) (i : ℕ) → i < length words → get_or (bytes_of words ++ more) (2 * i) 0 ≡ get_or words i 0 % 256
unfolding bytes_of
byte_low [] more i low = absurd (omega (arith, low))
byte_low (word ∷ words) more zero low = refl
byte_low (word ∷ words) more (suc i) low =
    let two : 2 * suc i ≡ suc (suc (2 * i)) = omega arith in
    ap (λ k. get_or (word % 256 ∷ word / 256 ∷ (bytes_of words ++ more)) k 0) two ∙ byte_low words more i (omega (arith, low))

pub byte_high : (words more : List ℕ) (i : ℕ) → i < length words → get_or (bytes_of words ++ more) (2 * i + 1) 0 ≡ get_or words i 0 / 256
unfolding bytes_of
byte_high [] more i low = absurd (omega (arith, low))
byte_high (word ∷ words) more zero low = refl
byte_high (word ∷ words) more (suc i) low =
    let two : 2 * suc i + 1 ≡ suc (suc (2 * i + 1)) = omega arith in
    ap (λ k. get_or (word % 256 ∷ word / 256 ∷ (bytes_of words ++ more)) k 0) two ∙ byte_high words more i (omega (arith, low))

-- with no text the data begin at address 0
picks_data : (a b c : Bool) (x y z : Named) → a ≡ false → b ≡ true → c ≡ true → (if a then x else (if b && c then y else z)) ≡ y
picks_data a b c x y z fa tb tc = rw (fa, tb, tc) refl

named-data : (text d stack v : ℕ) → text ≡ 0 → v < d → named_by text d stack v ≡ InData v
unfolding named_by
named-data text d stack v none inside =
    let base : data_base text ≡ 0 = ap data_base none in
    picks_data _ _ _ _ _ _ (le-ltb v text (omega arith)) (le-leb (data_base text) v (omega arith)) (lt-ltb v (data_base text + d) (omega arith))
    ∙ ap InData (let same : v - data_base text ≡ v = omega arith in same)

store-data : (m : Image) (v b : ℕ) → m.text ≡ [] → v < length m.data → store_byte m v b ≡ Ok (record m { «data» = set m.data v b })
unfolding store_byte
store-data m v b none inside = ap (λ n. with_byte m n b) (named-data (length m.text) (length m.data) (length m.stack) v (ap length none) inside)

pub store-data_word : (m : Image) (v w : ℕ) → m.text ≡ [] → v % 2 ≡ 0 → v + 1 < length m.data
    → image_after m (store_word m v w) ≡ record m { «data» = set (set m.data v (w % 256)) (v + 1) (w / 256) }
unfolding store_word
store-data_word m v w none even inside =
    let half : Image = record m { «data» = set m.data v (w % 256) } in
    let size = length-set m.data v (w % 256) in
    let second : Image → Result Image Trap = λ h. store_byte h (v + 1) (w / 256) in
    ap (λ b. image_after m (if b then Err Odd else then_do (store_byte m v (w % 256)) second)) (ne_eqb (v % 2) 1 (λ odd. omega (arith, even, odd)))
    ∙ ap (λ r. image_after m (then_do r second)) (store-data m v (w % 256) none (omega arith))
    ∙ ap (image_after m) (store-data half (v + 1) (w / 256) none (omega (arith, size, inside)))
