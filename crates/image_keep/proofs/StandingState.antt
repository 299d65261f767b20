-- Registers and condition codes are read and written one by one where they stand.
use Rattle.std.proofs.Common.{◌≡◌, ℕ, zero, suc, ◌+◌, ◌-◌, ◌*◌, ◌/◌, ◌%◌, ◌<◌, ◌≤◌, ◌⊎◌, inl, inr, List, [], ◌∷◌, ◌++◌, length, drop, slice_index, slice_set, set, refl, sym, ap, subst, ◌∙◌, arith}
use Rattle.std.proofs.Common.{lit<}
use Rattle.std.proofs.Math.Nat.{mod-lt}
use Rattle.std.proofs.lemmas.List.{set-append_right, length-set, take_all, get_or-append_right, get_or-take, get_or-drop}
use Rattle.fs_codec.specs.Bytes.{bytes_of}
use Rattle.fs_codec.proofs.BytesLemmas.{length-bytes_of}
use Rattle.v6_base.specs.Words.{word_set}
use Rattle.core_mem.specs.Bytes.{part, over}
use Rattle.core_mem.proofs.Parts.{length-over, length-part, part-over_same, part-over_apart, part-part, part-left, part-right}
use Rattle.fs_codec.specs.Words.{word}
use Rattle.fs_codec.proofs.BytesLemmas.{part as front}
use Rattle.fs_codec.proofs.WordsLemmas.{word_of_words, length-words}
use Rattle.u_area.proofs.PartLemmas.{word_of_bytes, words_of_bytes}
use Rattle.image_keep.specs.declared.standing.Standing.{Standing}
use Rattle.image_keep.specs.Running.{state_bytes}
use Rattle.image_keep.specs.Standing.{standing_image, StandsIn}
use Rattle.image_keep.proofs.StandingParts.{apart_by, part_set, part_word, part_apart, word_apart}
use Rattle.image_keep.specs.Near.{registers_at, codes_at, IsStated}

byte_of_part : (b : List ℕ) (at n k : ℕ) → k < n → slice_index (part b at n) k ≡ slice_index b (at + k)
unfolding part
byte_of_part b at n k h = get_or-take n (drop at b) k 0 h ∙ get_or-drop at b k 0

byte_at : (xs ys : List ℕ) (n : ℕ) → length xs ≡ n → slice_index (xs ++ ys) n ≡ slice_index ys 0
byte_at xs ys n long =
    let none : n - n ≡ 0 = omega arith in
    get_or-append_right xs ys n n 0 long (omega arith) ∙ ap (slice_index ys) none

-- a word of the bytes of words
bytes_set : (r t : List ℕ) (n w : ℕ) → n < length r → word_set (bytes_of r ++ t) (2 * n) w ≡ bytes_of (set r n w) ++ t
unfolding bytes_of
bytes_set [] t n w h = absurd (omega arith)
bytes_set (x ∷ r) t zero w h = refl
bytes_set (x ∷ r) t (suc n) w h =
    let e : 2 * suc n ≡ suc (suc (2 * n)) = omega arith in
    let d : 2 * suc n + 1 ≡ suc (suc (2 * n + 1)) = omega arith in
    let all : List ℕ = x % 256 ∷ x / 256 ∷ (bytes_of r ++ t) in
    ap (λ (k : ℕ). set (set all k (w % 256)) (2 * suc n + 1) (w / 256)) e
    ∙ ap (λ (k : ℕ). set (set all (suc (suc (2 * n))) (w % 256)) k (w / 256)) d
    ∙ ap (λ (l : List ℕ). x % 256 ∷ x / 256 ∷ l) (bytes_set r t n w (omega arith))

stated_register : (core : List ℕ) (at n w : ℕ) (r : List ℕ) (cc : ℕ) → length r ≡ 8 → n < 8 → at + 18 ≤ length core → part core at 18 ≡ state_bytes r cc → part (word_set core (at + 2 * n) w) at 18 ≡ state_bytes (set r n w) cc
unfolding state_bytes
stated_register core at n w r cc eight low room is =
    part_word core at 18 (2 * n) w (omega (arith, low)) room
    ∙ ap (λ (l : List ℕ). word_set l (2 * n) w) is
    ∙ bytes_set r (bytes_of ((61440 + cc) ∷ [])) n w (omega (arith, eight, low))

stated_codes : (core : List ℕ) (at cc old : ℕ) (r : List ℕ) → length r ≡ 8 → cc < 16 → old < 16 → at + 18 ≤ length core → part core at 18 ≡ state_bytes r old → part (set core (at + 16) cc) at 18 ≡ state_bytes r cc
unfolding state_bytes bytes_of
stated_codes core at cc old r eight low was room is =
    let n = length-bytes_of r in
    let long : length (bytes_of r) ≡ 16 = omega (arith, n, eight) in
    let first : (61440 + cc) % 256 ≡ cc = omega (arith, low) in
    let second : (61440 + cc) / 256 ≡ (61440 + old) / 256 = omega (arith, low, was) in
    part_set core at 18 16 cc (omega arith) room
    ∙ ap (λ (l : List ℕ). set l 16 cc) is
    ∙ set-append_right (bytes_of r) (bytes_of ((61440 + old) ∷ [])) 16 16 cc long (omega arith)
    ∙ ap (λ (l : List ℕ). bytes_of r ++ l) (sym (λ i. first i ∷ second i ∷ []))

-- what stands elsewhere
pub register_rest : (core new : List ℕ) (at n w k m : ℕ) → n < 8 → new ≡ word_set core (at + 2 * n) w → (k + m ≤ at) ⊎ (at + 18 ≤ k) → part new k m ≡ part core k m
register_rest core new at n w k m low is off = ap (λ c. part c k m) is ∙ word_apart core k m (at + 2 * n) w (by off)
  where
    by : (k + m ≤ at) ⊎ (at + 18 ≤ k) → (at + 2 * n + 2 ≤ k) ⊎ (k + m ≤ at + 2 * n)
    by (inl h) = inr (omega (arith, h))
    by (inr h) = inl (omega (arith, h, low))

pub codes_rest : (core new : List ℕ) (at cc k m : ℕ) → new ≡ set core (at + 16) cc → (k + m ≤ at) ⊎ (at + 18 ≤ k) → part new k m ≡ part core k m
codes_rest core new at cc k m is off = ap (λ c. part c k m) is ∙ part_apart core k m (at + 16) cc (by off)
  where
    by : (k + m ≤ at) ⊎ (at + 18 ≤ k) → (at + 16 < k) ⊎ (k + m ≤ at + 16)
    by (inl h) = inr (omega (arith, h))
    by (inr h) = inl (omega (arith, h))

-- the image stands elsewhere
pub image_same : (core new : List ℕ) (f : Standing) → StandsIn (length core) f → ((k m : ℕ) → (k + m ≤ f.area) ⊎ (f.area + 18 ≤ k) → part new k m ≡ part core k m) → standing_image new f ≡ standing_image core f
unfolding standing_image
image_same core new f s rest =
    let a = s.area in let e = s.end in
    let t = rest f.text f.text_len (by (apart_by (length core) f s)) in
    let d = rest f.data f.data_len (inr (omega (arith, a))) in
    let k = rest f.data_end (65536 - f.stack_start) (inr (omega (arith, a, e))) in
    rw (t, d, k)
  where
    by : (f.text + f.text_len ≤ f.area) ⊎ (f.data_end + 65536 ≤ f.text + f.stack_start) → (f.text + f.text_len ≤ f.area) ⊎ (f.area + 18 ≤ f.text)
    by (inl h) = inl h
    by (inr h) = inr (let a = s.area in let e = s.end in let b = s.stack_below in omega (arith, h, a, e, b))

pub image_beside : (core new : List ℕ) (f : Standing) (at : ℕ) → StandsIn (length core) f → at ≡ f.area → ((k m : ℕ) → (k + m ≤ at) ⊎ (at + 18 ≤ k) → part new k m ≡ part core k m) → standing_image new f ≡ standing_image core f
image_beside core new f at s is rest = image_same core new f s (subst (λ n. (k m : ℕ) → (k + m ≤ n) ⊎ (n + 18 ≤ k) → part new k m ≡ part core k m) is rest)

-- What stands there is read as the registers and codes that were written.
pub state_read : (core : List ℕ) (at : ℕ) (r : List ℕ) (cc : ℕ) → length r ≡ 8 → cc < 16 → part core at 18 ≡ state_bytes r cc → (registers_at core at ≡ r) × (codes_at core at ≡ cc)
unfolding part front state_bytes bytes_of
state_read core at r cc eight low is =
    let n = length-bytes_of r in
    let e : at + 0 ≡ at = omega arith in
    let long : length (bytes_of r) ≡ 16 = omega (arith, n, eight) in
    let first : front at 16 core ≡ bytes_of r =
    ap (λ i. part core i 16) (sym e) ∙ sym (part-part core at 18 0 16 (omega arith)) ∙ ap (λ l. part l 0 16) is ∙ part-left (bytes_of r) (bytes_of ((61440 + cc) ∷ [])) 0 16 (omega (arith, long)) ∙ take_all 16 (bytes_of r) (omega (arith, long)) in
    let second : front (at + 16) 2 core ≡ bytes_of ((61440 + cc) ∷ []) =
    sym (part-part core at 18 16 2 (omega arith)) ∙ ap (λ l. part l 16 2) is ∙ part-right (bytes_of r) (bytes_of ((61440 + cc) ∷ [])) 16 0 2 (omega (arith, long)) in
    let same : at + 16 + 2 * 0 ≡ at + 16 = omega arith in
    let status : word core (at + 16) ≡ 61440 + cc = ap (λ i. word core i) (sym same) ∙ word_of_bytes core ((61440 + cc) ∷ []) (at + 16) 1 0 second (omega arith) in
    (words_of_bytes core r at 8 eight first, omega (arith, status, low))

pub stated_of : (core : List ℕ) (at : ℕ) (r : List ℕ) (cc : ℕ) → length r ≡ 8 → cc < 16 → part core at 18 ≡ state_bytes r cc → IsStated core at
stated_of core at r cc eight low is =
    let read = state_read core at r cc eight low is in
    is ∙ (λ i. state_bytes (sym read.0 i) (sym read.1 i))

pub codes_low : (core : List ℕ) (at : ℕ) → codes_at core at < 16
codes_low core at = mod-lt (word core (at + 16)) (lit< tt)

-- one register is written
put_read : (core new : List ℕ) (at n w : ℕ) → at + 18 ≤ length core → n < 8 → IsStated core at → new ≡ word_set core (at + 2 * n) w → part new at 18 ≡ state_bytes (slice_set (registers_at core at) n w) (codes_at core at)
put_read core new at n w room low is new_is = ap (λ c. part c at 18) new_is ∙ stated_register core at n w (registers_at core at) (codes_at core at) (length-words core at 8) low room is

set_long : (core : List ℕ) (at n w : ℕ) → length (slice_set (registers_at core at) n w) ≡ 8
set_long core at n w = length-set (registers_at core at) n w ∙ length-words core at 8

pub register_registers : (core new : List ℕ) (at n w : ℕ) → at + 18 ≤ length core → n < 8 → IsStated core at → new ≡ word_set core (at + 2 * n) w → registers_at new at ≡ slice_set (registers_at core at) n w
register_registers core new at n w room low is new_is = (state_read new at _ _ (set_long core at n w) (codes_low core at) (put_read core new at n w room low is new_is)).0

pub register_codes : (core new : List ℕ) (at n w : ℕ) → at + 18 ≤ length core → n < 8 → IsStated core at → new ≡ word_set core (at + 2 * n) w → codes_at new at ≡ codes_at core at
register_codes core new at n w room low is new_is = (state_read new at _ _ (set_long core at n w) (codes_low core at) (put_read core new at n w room low is new_is)).1

pub register_stated : (core new : List ℕ) (at n w : ℕ) → at + 18 ≤ length core → n < 8 → IsStated core at → new ≡ word_set core (at + 2 * n) w → IsStated new at
register_stated core new at n w room low is new_is = stated_of new at _ _ (set_long core at n w) (codes_low core at) (put_read core new at n w room low is new_is)

-- the codes are written
code_read : (core new : List ℕ) (at cc : ℕ) → at + 18 ≤ length core → cc < 16 → IsStated core at → new ≡ set core (at + 16) cc → part new at 18 ≡ state_bytes (registers_at core at) cc
code_read core new at cc room low is new_is = ap (λ c. part c at 18) new_is ∙ stated_codes core at cc (codes_at core at) (registers_at core at) (length-words core at 8) low (codes_low core at) room is

pub codes_registers : (core new : List ℕ) (at cc : ℕ) → at + 18 ≤ length core → cc < 16 → IsStated core at → new ≡ set core (at + 16) cc → registers_at new at ≡ registers_at core at
codes_registers core new at cc room low is new_is = (state_read new at _ cc (length-words core at 8) low (code_read core new at cc room low is new_is)).0

pub codes_codes : (core new : List ℕ) (at cc : ℕ) → at + 18 ≤ length core → cc < 16 → IsStated core at → new ≡ set core (at + 16) cc → codes_at new at ≡ cc
codes_codes core new at cc room low is new_is = (state_read new at _ cc (length-words core at 8) low (code_read core new at cc room low is new_is)).1

pub codes_stated : (core new : List ℕ) (at cc : ℕ) → at + 18 ≤ length core → cc < 16 → IsStated core at → new ≡ set core (at + 16) cc → IsStated new at
codes_stated core new at cc room low is new_is = stated_of new at _ cc (length-words core at 8) low (code_read core new at cc room low is new_is)

pub ruleset registers = (register_registers, register_codes, register_stated, codes_registers, codes_codes, codes_stated, length-set)

-- one register, and the codes, are read
pub register_nth : (core : List ℕ) (at n : ℕ) → n < 8 → word core (at + 2 * n) ≡ slice_index (registers_at core at) n
register_nth core at n low = sym (word_of_words core at 8 n low)

pub codes_byte : (core : List ℕ) (at : ℕ) → IsStated core at → slice_index core (at + 16) ≡ codes_at core at
unfolding state_bytes bytes_of
codes_byte core at is =
    let r : List ℕ = registers_at core at in
    let cc : ℕ = codes_at core at in
    let n = length-bytes_of r in
    let eight = length-words core at 8 in
    let long : length (bytes_of r) ≡ 16 = omega (arith, n, eight) in
    let low = codes_low core at in
    let last : (61440 + cc) % 256 ≡ cc = omega (arith, low) in
    sym (byte_of_part core at 18 16 (omega arith)) ∙ ap (λ l. slice_index l 16) is ∙ byte_at (bytes_of r) (bytes_of ((61440 + cc) ∷ [])) 16 long ∙ last

-- registers and codes are put there together
pub state_put : (core new : List ℕ) (at : ℕ) (b r : List ℕ) (cc : ℕ) → at + 18 ≤ length core → length b ≡ 18 → b ≡ state_bytes r cc → new ≡ over core at b → part new at 18 ≡ state_bytes r cc
state_put core new at b r cc room long is new_is = ap (λ c. part c at 18) new_is ∙ part-over_same core at b 18 long room ∙ is

pub state_size : (core new : List ℕ) (at : ℕ) (b : List ℕ) → at + 18 ≤ length core → length b ≡ 18 → new ≡ over core at b → length new ≡ length core
state_size core new at b room long new_is = ap length new_is ∙ length-over core at b (omega (arith, long, room))

pub state_rest : (core new : List ℕ) (at : ℕ) (b : List ℕ) (k m : ℕ) → at + 18 ≤ length core → length b ≡ 18 → new ≡ over core at b → (k + m ≤ at) ⊎ (at + 18 ≤ k) → part new k m ≡ part core k m
state_rest core new at b k m room long new_is off = ap (λ c. part c k m) new_is ∙ part-over_apart core at b k m (omega (arith, long, room)) (by off)
  where
    by : (k + m ≤ at) ⊎ (at + 18 ≤ k) → (k + m ≤ at) ⊎ (at + length b ≤ k)
    by (inl h) = inl h
    by (inr h) = inr (omega (arith, h, long))

-- as they stood before
pub state_back : (core now new : List ℕ) (at : ℕ) → at + 18 ≤ length now → length now ≡ length core → at + 18 ≤ length core → IsStated core at → new ≡ over now at (part core at 18) → (registers_at new at ≡ registers_at core at) × (codes_at new at ≡ codes_at core at)
state_back core now new at room size room_old is new_is =
    state_read new at (registers_at core at) (codes_at core at) (length-words core at 8) (codes_low core at) (state_put now new at (part core at 18) (registers_at core at) (codes_at core at) room (length-part core at 18 room_old) is new_is)
