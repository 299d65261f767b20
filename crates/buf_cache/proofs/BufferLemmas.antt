-- Buffers as a list: which one has a block, and what is written to the disk.
use Rattle.std.proofs.Common.{◌≡◌, ◌≢◌, ℕ, zero, suc, ◌+◌, ◌<◌, ◌≤◌, ◌==◌, inl, inr, Bool, true, false, not, cond, List, [], ◌∷◌, length, map, take, drop, get_or, set, length-set, get_or-set_same, get_or-set_other, refl, sym, ap, ◌∙◌, subst, arith}
use Rattle.std.proofs.lemmas.Bool.Decides.{eqb_tells}
use Rattle.std.proofs.lemmas.List.Sums.{sum_by-cons, sum_by-append, get_or-le-sum_by}
use Rattle.std.proofs.lemmas.List.{take-append-drop}
use Rattle.std.specs.List.{remove, AllByRecursion}
use Rattle.buf_cache.specs.Blocks.{block_at}
use Rattle.buf_cache.specs.Cached.{Buffer, find_buffer, fresh, others_of, written, unchanged, buffers_with}

abbrev pub one : Bool → ℕ
one t = cond t 1 0

pub with_cons : (b : Buffer) (bs : List Buffer) (n : ℕ) → buffers_with (b ∷ bs) n ≡ one (b.block == n) + buffers_with bs n
with_cons b bs n = sum_by-cons (λ (x : Buffer). one (x.block == n)) b bs

pub with_here : (b : Buffer) (bs : List Buffer) (n : ℕ) → (b.block == n) ≡ true → buffers_with (b ∷ bs) n ≡ 1 + buffers_with bs n
with_here b bs n is = with_cons b bs n ∙ ap (λ t. one t + buffers_with bs n) is

pub with_other : (b : Buffer) (bs : List Buffer) (n : ℕ) → (b.block == n) ≡ false → buffers_with (b ∷ bs) n ≡ buffers_with bs n
with_other b bs n is = with_cons b bs n ∙ ap (λ t. one t + buffers_with bs n) is ∙ omega arith

-- the first buffer of a list, where it has the block and where it has another
pub found_here : (b : Buffer) (bs : List Buffer) (n : ℕ) (o : Buffer) → (b.block == n) ≡ true → find_buffer (b ∷ bs) n o ≡ b
found_here b bs n o is = ap (λ t. cond t b (find_buffer bs n o)) is

pub found_behind : (b : Buffer) (bs : List Buffer) (n : ℕ) (o : Buffer) → (b.block == n) ≡ false → find_buffer (b ∷ bs) n o ≡ find_buffer bs n o
found_behind b bs n o is = ap (λ t. cond t b (find_buffer bs n o)) is

others_here : (b : Buffer) (bs : List Buffer) (n : ℕ) → (b.block == n) ≡ true → others_of (b ∷ bs) n ≡ others_of bs n
others_here b bs n is = ap (λ t. cond (not t) (b ∷ others_of bs n) (others_of bs n)) is

others_behind : (b : Buffer) (bs : List Buffer) (n : ℕ) → (b.block == n) ≡ false → others_of (b ∷ bs) n ≡ b ∷ others_of bs n
others_behind b bs n is = ap (λ t. cond (not t) (b ∷ others_of bs n) (others_of bs n)) is

pub found_none : (bs : List Buffer) (n : ℕ) (o : Buffer) → buffers_with bs n ≡ 0 → find_buffer bs n o ≡ o
found_none [] n o none = refl
found_none (b ∷ bs) n o none = elim (eqb_tells b.block n) [
  | inl h ↦ (let c = with_here b bs n h.0 in absurd (omega (arith, c, none)))
  | inr h ↦ found_behind b bs n o h.0 ∙ found_none bs n o (sym (with_other b bs n h.0) ∙ none)
]

pub others_none : (bs : List Buffer) (n : ℕ) → buffers_with bs n ≡ 0 → others_of bs n ≡ bs
others_none [] n none = refl
others_none (b ∷ bs) n none = elim (eqb_tells b.block n) [
  | inl h ↦ (let c = with_here b bs n h.0 in absurd (omega (arith, c, none)))
  | inr h ↦ others_behind b bs n h.0 ∙ ap (λ l. b ∷ l) (others_none bs n (sym (with_other b bs n h.0) ∙ none))
]

pub found_at : (bs : List Buffer) (j n : ℕ) (d o : Buffer) → j < length bs → (get_or bs j d).block ≡ n → buffers_with bs n ≤ 1 → find_buffer bs n o ≡ get_or bs j d
found_at [] j n d o low is once = absurd (omega (arith, low))
found_at (b ∷ bs) zero n d o low is once = elim (eqb_tells b.block n) [
  | inl h ↦ found_here b bs n o h.0
  | inr h ↦ absurd (h.1 is)
]
found_at (b ∷ bs) (suc j) n d o low is once = elim (eqb_tells b.block n) [
  | inl h ↦
      let c = with_here b bs n h.0 in
      let part = get_or-le-sum_by (λ (x : Buffer). one (x.block == n)) bs j d (omega (arith, low)) in
      let there : one ((get_or bs j d).block == n) ≡ 1 = elim (eqb_tells (get_or bs j d).block n) [ inl g ↦ ap one g.0 | inr g ↦ absurd (g.1 is) ] in
      absurd (omega (arith, c, part, there, once))
  | inr h ↦
      let c = with_other b bs n h.0 in
      found_behind b bs n o h.0 ∙ found_at bs j n d o (omega (arith, low)) is (omega (arith, c, once))
]

pub others_at : (bs : List Buffer) (j n : ℕ) (d : Buffer) → j < length bs → (get_or bs j d).block ≡ n → buffers_with bs n ≤ 1 → others_of bs n ≡ remove bs j
others_at [] j n d low is once = absurd (omega (arith, low))
others_at (b ∷ bs) zero n d low is once = elim (eqb_tells b.block n) [
  | inl h ↦ (let c = with_here b bs n h.0 in others_here b bs n h.0 ∙ others_none bs n (omega (arith, c, once)))
  | inr h ↦ absurd (h.1 is)
]
others_at (b ∷ bs) (suc j) n d low is once = elim (eqb_tells b.block n) [
  | inl h ↦
      let c = with_here b bs n h.0 in
      let part = get_or-le-sum_by (λ (x : Buffer). one (x.block == n)) bs j d (omega (arith, low)) in
      let there : one ((get_or bs j d).block == n) ≡ 1 = elim (eqb_tells (get_or bs j d).block n) [ inl g ↦ ap one g.0 | inr g ↦ absurd (g.1 is) ] in
      absurd (omega (arith, c, part, there, once))
  | inr h ↦
      let c = with_other b bs n h.0 in
      others_behind b bs n h.0 ∙ ap (λ l. b ∷ l) (others_at bs j n d (omega (arith, low)) is (omega (arith, c, once)))
]

-- without the buffer of a block
pub others_with_same : (bs : List Buffer) (n : ℕ) → buffers_with (others_of bs n) n ≡ 0
others_with_same [] n = refl
others_with_same (b ∷ bs) n = elim (eqb_tells b.block n) [
  | inl h ↦ ap (λ l. buffers_with l n) (others_here b bs n h.0) ∙ others_with_same bs n
  | inr h ↦ ap (λ l. buffers_with l n) (others_behind b bs n h.0) ∙ with_other b (others_of bs n) n h.0 ∙ others_with_same bs n
]

pub others_with : (bs : List Buffer) (n k : ℕ) → buffers_with (others_of bs n) k ≤ buffers_with bs k
others_with [] n k = omega arith
others_with (b ∷ bs) n k =
    let rest = others_with bs n k in
    let c = with_cons b bs k in
    elim (eqb_tells b.block n) [
      | inl h ↦ (let e : buffers_with (others_of (b ∷ bs) n) k ≡ buffers_with (others_of bs n) k = ap (λ l. buffers_with l k) (others_here b bs n h.0) in omega (arith, e, c, rest))
      | inr h ↦
          let e : buffers_with (others_of (b ∷ bs) n) k ≡ one (b.block == k) + buffers_with (others_of bs n) k = ap (λ l. buffers_with l k) (others_behind b bs n h.0) ∙ with_cons b (others_of bs n) k in
          omega (arith, e, c, rest)
    ]

pub found_others : (bs : List Buffer) (n k : ℕ) (o : Buffer) → k ≢ n → find_buffer (others_of bs n) k o ≡ find_buffer bs k o
found_others [] n k o other = refl
found_others (b ∷ bs) n k o other = elim (eqb_tells b.block n) [
  | inl h ↦
      let test : (b.block == k) ≡ false = elim (eqb_tells b.block k) [ inl g ↦ absurd (other (sym g.1 ∙ h.1)) | inr g ↦ g.0 ] in
      ap (λ l. find_buffer l k o) (others_here b bs n h.0) ∙ found_others bs n k o other ∙ sym (found_behind b bs k o test)
  | inr h ↦
      ap (λ l. find_buffer l k o) (others_behind b bs n h.0) ∙ ap (λ x. cond (b.block == k) b x) (found_others bs n k o other)
]

-- a list of buffers in two parts
pub with_parts : (bs : List Buffer) (m n : ℕ) → buffers_with (take m bs) n + buffers_with (drop m bs) n ≡ buffers_with bs n
with_parts bs m n =
    sym (sum_by-append (λ (x : Buffer). one (x.block == n)) (take m bs) (drop m bs)) ∙ ap (λ l. buffers_with l n) (take-append-drop m bs)

-- a disk to which a block is written, or not
put_length : (t : Bool) (disk : List (List ℕ)) (n : ℕ) (bytes : List ℕ) → length (cond t (set disk n bytes) disk) ≡ length disk
put_length true disk n bytes = length-set disk n bytes
put_length false disk n bytes = refl

put_other : (t : Bool) (disk : List (List ℕ)) (n k : ℕ) (bytes : List ℕ) → k ≢ n → block_at (cond t (set disk n bytes) disk) k ≡ block_at disk k
put_other true disk n k bytes other = get_or-set_other disk n k bytes [] other
put_other false disk n k bytes other = refl

put_here : (t : Bool) (disk : List (List ℕ)) (n : ℕ) (bytes : List ℕ) → n < length disk → (t ≡ false → bytes ≡ block_at disk n) → block_at (cond t (set disk n bytes) disk) n ≡ bytes
put_here true disk n bytes low same = get_or-set_same disk n bytes [] low
put_here false disk n bytes low same = sym (same refl)

pub written_length : (bs : List Buffer) (disk : List (List ℕ)) → length (written bs disk) ≡ length disk
written_length [] disk = refl
written_length (b ∷ bs) disk = written_length bs (cond b.is_changed (set disk b.block b.bytes) disk) ∙ put_length b.is_changed disk b.block b.bytes

pub written_other : (bs : List Buffer) (disk : List (List ℕ)) (k : ℕ) → buffers_with bs k ≡ 0 → block_at (written bs disk) k ≡ block_at disk k
written_other [] disk k none = refl
written_other (b ∷ bs) disk k none = elim (eqb_tells b.block k) [
  | inl h ↦ (let c = with_here b bs k h.0 in absurd (omega (arith, c, none)))
  | inr h ↦
      written_other bs (cond b.is_changed (set disk b.block b.bytes) disk) k (sym (with_other b bs k h.0) ∙ none)
      ∙ put_other b.is_changed disk b.block k b.bytes (λ e. h.1 (sym e))
]

-- Where a buffer has this block, it is a block of so long a disk, and has these bytes where it is not changed.
pub record Has (long k : ℕ) (bytes : List ℕ) (b : Buffer) : Type 0 where
  pub low : b.block ≡ k → k < long
  pub same : b.block ≡ k → b.is_changed ≡ false → b.bytes ≡ bytes

-- What the disk has of a block after that: the bytes of its buffer, or else those of before.
pub written_at : (bs : List Buffer) (disk : List (List ℕ)) (long k : ℕ) (bytes : List ℕ) → length disk ≡ long → block_at disk k ≡ bytes → AllByRecursion (Has long k bytes) bs → buffers_with bs k ≤ 1
    → block_at (written bs disk) k ≡ (find_buffer bs k (fresh k bytes)).bytes
written_at [] disk long k bytes count is all once = is
written_at (b ∷ bs) disk long k bytes count is all once = elim (eqb_tells b.block k) [
  | inl h ↦
      let c = with_here b bs k h.0 in
      let has = all.0 in
      let low : k < long = has.low h.1 in
      let bound : b.block < length disk = (let e = h.1 in omega (arith, count, low, e)) in
      let P : ℕ → Type 0 = λ n. block_at (cond b.is_changed (set disk b.block b.bytes) disk) n ≡ b.bytes in
      written_other bs (cond b.is_changed (set disk b.block b.bytes) disk) k (omega (arith, c, once))
      ∙ subst P h.1 (put_here b.is_changed disk b.block b.bytes bound (λ f. has.same h.1 f ∙ sym is ∙ ap (block_at disk) (sym h.1)))
      ∙ ap (λ (x : Buffer). x.bytes) (sym (found_here b bs k (fresh k bytes) h.0))
  | inr h ↦
      let c = with_other b bs k h.0 in
      written_at bs (cond b.is_changed (set disk b.block b.bytes) disk) long k bytes (put_length b.is_changed disk b.block b.bytes ∙ count)
      (put_other b.is_changed disk b.block k b.bytes (λ e. h.1 (sym e)) ∙ is) all.1 (omega (arith, c, once))
      ∙ ap (λ (x : Buffer). x.bytes) (sym (found_behind b bs k (fresh k bytes) h.0))
]

-- The first so many buffers stay and the others are written to the disk: each block is what it was.
pub evicted_at : (m : ℕ) (bs : List Buffer) (disk : List (List ℕ)) (k : ℕ) → AllByRecursion (Has (length disk) k (block_at disk k)) bs → buffers_with bs k ≤ 1
    → (find_buffer (take m bs) k (fresh k (block_at (written (drop m bs) disk) k))).bytes ≡ (find_buffer bs k (fresh k (block_at disk k))).bytes
evicted_at zero bs disk k all once = written_at bs disk (length disk) k (block_at disk k) refl refl all once
evicted_at (suc m) [] disk k all once = refl
evicted_at (suc m) (b ∷ bs) disk k all once = elim (eqb_tells b.block k) [
  | inl h ↦
      ap (λ (x : Buffer). x.bytes) (found_here b (take m bs) k (fresh k (block_at (written (drop m bs) disk) k)) h.0)
      ∙ ap (λ (x : Buffer). x.bytes) (sym (found_here b bs k (fresh k (block_at disk k)) h.0))
  | inr h ↦
      let c = with_other b bs k h.0 in
      ap (λ (x : Buffer). x.bytes) (found_behind b (take m bs) k (fresh k (block_at (written (drop m bs) disk) k)) h.0)
      ∙ evicted_at m bs disk k all.1 (omega (arith, c, once))
      ∙ ap (λ (x : Buffer). x.bytes) (sym (found_behind b bs k (fresh k (block_at disk k)) h.0))
]

-- Buffers that are not changed any more have the same blocks and bytes.
pub unchanged_with : (bs : List Buffer) (k : ℕ) → buffers_with (map unchanged bs) k ≡ buffers_with bs k
unchanged_with [] k = refl
unchanged_with (b ∷ bs) k = with_cons (unchanged b) (map unchanged bs) k ∙ ap (λ n. one (b.block == k) + n) (unchanged_with bs k) ∙ sym (with_cons b bs k)

pub unchanged_at : (bs : List Buffer) (k : ℕ) (o bytes : Buffer) → o.bytes ≡ (find_buffer bs k bytes).bytes → (find_buffer (map unchanged bs) k o).bytes ≡ (find_buffer bs k bytes).bytes
unchanged_at [] k o bytes is = is
unchanged_at (b ∷ bs) k o bytes is = elim (eqb_tells b.block k) [
  | inl h ↦
      ap (λ (x : Buffer). x.bytes) (found_here (unchanged b) (map unchanged bs) k o h.0) ∙ ap (λ (x : Buffer). x.bytes) (sym (found_here b bs k bytes h.0))
  | inr h ↦
      ap (λ (x : Buffer). x.bytes) (found_behind (unchanged b) (map unchanged bs) k o h.0)
      ∙ unchanged_at bs k o bytes (is ∙ ap (λ (x : Buffer). x.bytes) (found_behind b bs k bytes h.0))
      ∙ ap (λ (x : Buffer). x.bytes) (sym (found_behind b bs k bytes h.0))
]

-- What is so of each buffer, and of this one, is so of the buffer that is found.
pub found_is : (P : Buffer → Type 0) (bs : List Buffer) (n : ℕ) (o : Buffer) → AllByRecursion P bs → P o → P (find_buffer bs n o)
found_is P [] n o all other = other
found_is P (b ∷ bs) n o all other = elim (eqb_tells b.block n) [
  | inl h ↦ subst P (sym (found_here b bs n o h.0)) all.0
  | inr h ↦ subst P (sym (found_behind b bs n o h.0)) (found_is P bs n o all.1 other)
]

pub found_block : (bs : List Buffer) (n : ℕ) (o : Buffer) → o.block ≡ n → (find_buffer bs n o).block ≡ n
found_block [] n o is = is
found_block (b ∷ bs) n o is = elim (eqb_tells b.block n) [
  | inl h ↦ ap (λ (x : Buffer). x.block) (found_here b bs n o h.0) ∙ h.1
  | inr h ↦ ap (λ (x : Buffer). x.block) (found_behind b bs n o h.0) ∙ found_block bs n o is
]
