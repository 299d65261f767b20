-- Loads and stores of bytes and words, by what their addresses name.
use Rattle.std.proofs.Common.{◌≡◌, ◌<◌, subst, ℕ, ◌+◌, ◌-◌, ◌*◌, ◌/◌, ◌%◌, ◌≤◌, List, length, true, Ok, Err, Result, Option, Some, None, arith, refl, sym, ap, ◌∙◌}
use Rattle.v6_base.specs.declared.named.Named.{Named}
use Rattle.v6_base.specs.declared.named.Named.TheVariants as named_is
use Rattle.v6_base.specs.declared.space.Trap.{Trap}
use Rattle.v6_base.specs.declared.space.Trap.TheVariants.{Odd, Segment}
use Rattle.std.specs.Option.{is_some}
use Rattle.v6_base.specs.Image.{Image, IsImage, named}
use Rattle.v6_base.specs.Runs.{room, with_run}
use Rattle.v6_base.proofs.RunLemmas.{image_fits, all_stored}
use Rattle.v6_base.specs.Access.{load_byte, load_word, store_byte, store_word, byte_at, with_byte, image_after, answer_of}
use Rattle.std.proofs.lemmas.List.{append-nil}
use Rattle.v6_base.specs.Copy.{load_bytes, store_bytes, image_or}
use Rattle.v6_base.proofs.Copies.{put_front}
use Rattle.v6_base.specs.Words.{IsStorable, next_byte, with_word}
use Rattle.v6_base.proofs.Cuts.{store_word_by}
use Rattle.image_keep.specs.Kept.{Kept, is_alive, keeping, image_of, with_image}
use Rattle.image_keep.proofs.Frames.{image_twice, image_back, with_image_same}

-- a store that is refused leaves all
pub refused_kept : (k : Kept) (s : ℕ) (r : Result Image Trap) (e : Trap) → r ≡ Err e → k ≡ with_image k s (image_after (image_of k s) r)
refused_kept k s r e is = sym (ap (λ o. with_image k s (image_after (image_of k s) o)) is ∙ image_back k s)

unstorable_byte : (m : Image) (p : Named) (b : ℕ) → (IsStorable p → ⊥) → with_byte m p b ≡ Err Segment
unstorable_byte m (named_is.InText i) b not_so = refl
unstorable_byte m (named_is.InData i) b not_so = absurd (not_so tt)
unstorable_byte m (named_is.InStack i) b not_so = absurd (not_so tt)
unstorable_byte m named_is.Nothing b not_so = refl

unstorable_word : (m : Image) (p : Named) (w : ℕ) → (IsStorable p → ⊥) → with_word m p w ≡ Err Segment
unstorable_word m (named_is.InText i) w not_so = refl
unstorable_word m (named_is.InData i) w not_so = absurd (not_so tt)
unstorable_word m (named_is.InStack i) w not_so = absurd (not_so tt)
unstorable_word m named_is.Nothing w not_so = refl

storable_byte : (m : Image) (p : Named) (b : ℕ) → IsStorable p → answer_of (with_byte m p b) ≡ Ok tt
storable_byte m (named_is.InText i) b is = absurd is
storable_byte m (named_is.InData i) b is = refl
storable_byte m (named_is.InStack i) b is = refl
storable_byte m named_is.Nothing b is = absurd is

storable_word : (m : Image) (p : Named) (w : ℕ) → IsStorable p → answer_of (with_word m p w) ≡ Ok tt
storable_word m (named_is.InText i) w is = absurd is
storable_word m (named_is.InData i) w is = refl
storable_word m (named_is.InStack i) w is = refl
storable_word m named_is.Nothing w is = absurd is

pub byte_is : (m : Image) (v b : ℕ) (p : Named) → p ≡ named m v → store_byte m v b ≡ with_byte m p b
unfolding store_byte
byte_is m v b p is = ap (λ q. with_byte m q b) (sym is)

pub byte_refused : (m : Image) (v b : ℕ) (p : Named) → p ≡ named m v → (IsStorable p → ⊥) → store_byte m v b ≡ Err Segment
byte_refused m v b p is not_so = byte_is m v b p is ∙ unstorable_byte m p b not_so

pub byte_stored : (m : Image) (v b : ℕ) (p : Named) → p ≡ named m v → IsStorable p → Ok tt ≡ answer_of (store_byte m v b)
byte_stored m v b p is can = sym (ap answer_of (byte_is m v b p is) ∙ storable_byte m p b can)

pub word_is : (m : Image) (v w : ℕ) (p : Named) → v % 2 ≡ 0 → p ≡ named m v → named m (v + 1) ≡ next_byte p → store_word m v w ≡ with_word m p w
word_is m v w p even is next = store_word_by m v w p even (sym is) next

pub word_refused : (m : Image) (v w : ℕ) (p : Named) → v % 2 ≡ 0 → p ≡ named m v → named m (v + 1) ≡ next_byte p → (IsStorable p → ⊥) → store_word m v w ≡ Err Segment
word_refused m v w p even is next not_so = word_is m v w p even is next ∙ unstorable_word m p w not_so

pub word_stored : (m : Image) (v w : ℕ) (p : Named) → v % 2 ≡ 0 → p ≡ named m v → named m (v + 1) ≡ next_byte p → IsStorable p → Ok tt ≡ answer_of (store_word m v w)
word_stored m v w p even is next can = sym (ap answer_of (word_is m v w p even is next) ∙ storable_word m p w can)

-- two bytes are a word
both_bytes : (m : Image) (p : Named) (w : ℕ) → IsStorable p → (let half : Image = image_after m (with_byte m p (w % 256)) in image_after half (with_byte half (next_byte p) (w / 256))) ≡ image_after m (with_word m p w)
both_bytes m (named_is.InText i) w is = absurd is
both_bytes m (named_is.InData i) w is = refl
both_bytes m (named_is.InStack i) w is = refl
both_bytes m named_is.Nothing w is = absurd is

pub put_twice : (k one two : Kept) (s w : ℕ) (p q : Named) → is_alive (keeping k s) ≡ true → IsStorable p → q ≡ next_byte p
    → one ≡ with_image k s (image_after (image_of k s) (with_byte (image_of k s) p (w % 256)))
    → two ≡ with_image one s (image_after (image_of one s) (with_byte (image_of one s) q (w / 256)))
    → two ≡ with_image k s (image_after (image_of k s) (with_word (image_of k s) p w))
put_twice k one two s w p q alive can next first second =
    let m : Image = image_of k s in
    let half : Image = image_after m (with_byte m p (w % 256)) in
    let here : image_of one s ≡ half = ap (λ j. image_of j s) first ∙ with_image_same k s half alive in
    second
    ∙ ap (λ (i : Image). with_image one s (image_after i (with_byte i q (w / 256)))) here
    ∙ ap (λ n. with_image one s (image_after half (with_byte half n (w / 256)))) next
    ∙ ap (λ j. with_image j s (image_after half (with_byte half (next_byte p) (w / 256)))) first
    ∙ image_twice k s half (image_after half (with_byte half (next_byte p) (w / 256)))
    ∙ ap (with_image k s) (both_bytes m p w can)

-- loads
pub byte_loaded : (m : Image) (v : ℕ) (p : Named) (r : Result ℕ Trap) → p ≡ named m v → byte_at m p ≡ r → r ≡ load_byte m v
unfolding load_byte
byte_loaded m v p r is at = sym at ∙ ap (byte_at m) is

pub odd_loaded : (m : Image) (v : ℕ) → v % 2 ≡ 1 → Err Odd ≡ load_word m v
unfolding load_word
odd_loaded m v odd = rw odd refl

pub word_unloaded : (m : Image) (v : ℕ) (p : Named) → v % 2 ≡ 0 → p ≡ named m v → p ≡ named_is.Nothing → Err Segment ≡ load_word m v
unfolding load_word load_byte
word_unloaded m v p even is none =
    let e : named m v ≡ named_is.Nothing = sym is ∙ none in
    rw (even, e) refl

pub word_loaded : (m : Image) (v low high : ℕ) (p : Named) → v % 2 ≡ 0 → p ≡ named m v → named m (v + 1) ≡ next_byte p → byte_at m p ≡ Ok low → byte_at m (next_byte p) ≡ Ok high → Ok (low + 256 * high) ≡ load_word m v
unfolding load_word load_byte
word_loaded m v low high p even is next first second =
    let a : byte_at m (named m v) ≡ Ok low = ap (byte_at m) (sym is) ∙ first in
    let b : byte_at m (named m (v + 1)) ≡ Ok high = ap (byte_at m) next ∙ second in
    rw (even, a, b) refl

-- a run that is done
pub loaded_whole : (m : Image) (at n i : ℕ) (front : List ℕ) → n ≤ i → put_front front (load_bytes m (at + i) (n - i)) ≡ Some front
loaded_whole m at n i front l = let z : n - i ≡ 0 = omega (arith, l) in ap (λ k. put_front front (load_bytes m (at + i) k)) z ∙ ap Some (append-nil front)

pub none_kept : (k : Kept) (s : ℕ) (o : Option Image) → o ≡ None → k ≡ with_image k s (image_or (image_of k s) o)
none_kept k s o none = sym (ap (λ r. with_image k s (image_or (image_of k s) r)) none ∙ image_back k s)

pub image_put : (k j new : Kept) (s : ℕ) (x : Image) → j ≡ with_image k s (image_of j s) → is_alive (keeping j s) ≡ true → new ≡ with_image j s x → (new ≡ with_image k s (image_of new s)) × (image_of new s ≡ x)
image_put k j new s x kept alive put =
    let here : image_of new s ≡ x = ap (λ i. image_of i s) put ∙ with_image_same j s x alive in
    (put ∙ ap (λ i. with_image i s x) kept ∙ image_twice k s (image_of j s) x ∙ ap (with_image k s) (sym here), here)

-- bytes that all stand in one list are put at once
pub run_put : (k new : Kept) (s at : ℕ) (bytes : List ℕ) (p : Named) → IsImage (image_of k s) → at < 65536 → p ≡ named (image_of k s) at → IsStorable p → 0 < length bytes → length bytes ≤ room (image_of k s) p
    → new ≡ with_image k s (with_run (image_of k s) p bytes)
    → (true ≡ is_some (store_bytes (image_of k s) at bytes)) × (new ≡ with_image k s (image_or (image_of k s) (store_bytes (image_of k s) at bytes)))
run_put k new s at bytes p formed low is can some few put =
    let m : Image = image_of k s in
    let all : store_bytes m at bytes ≡ Some (with_run m p bytes) =
    all_stored m at bytes (image_fits m formed) low (subst IsStorable is can) some (subst (λ q. length bytes ≤ room m q) is few) ∙ ap (λ q. Some (with_run m q bytes)) (sym is) in
    (sym (ap is_some all), put ∙ sym (ap (λ o. with_image k s (image_or m o)) all))
