-- What a disk with inodes in their places has.
use Rattle.std.proofs.Common.{◌≡◌, ◌≢◌, ◌+◌, ◌*◌, ◌/◌, ◌%◌, ◌<◌, ◌≤◌, ◌==◌, inl, inr, ℕ, zero, suc, Bool, true, false, cond, List, [], ◌∷◌, ◌++◌, length, set, get_or, refl, sym, ap, ◌∙◌, arith}
use Rattle.std.proofs.lemmas.Bool.Decides.{eqb_tells}
use Rattle.std.specs.List.{AllByRecursion, remove, count_by}
use Rattle.std.proofs.lemmas.List.Sums.{sum_by-cons, sum_by-remove, get_or-le-sum_by}
use Rattle.buf_cache.specs.Blocks.{patched}
use Rattle.fs_codec.specs.Fields.{Inode}
use Rattle.fs_codec.specs.Bytes.{inode_bytes}
use Rattle.fs_codec.specs.Disk.{Disk, inode}
use Rattle.fs_laws.specs.Chain.{IsSound}
use Rattle.fs_laws.proofs.AgreeLemmas.{Agree}
use Rattle.fs_laws.proofs.ChangeLemmas.{place_is, place_no_data}
use Rattle.fs_laws.proofs.StoreLemmas.{patched_long, inode_written, other_inode}
use Rattle.fs_laws.specs.Placed.{Late, IsLate, placed, with_inodes, inode_among}
use Rattle.fs_laws.proofs.AgainLemmas.{inode_again, bytes_long}

-- the block of an inode
abbrev pub block_of : ℕ → ℕ
block_of i = (i + 31) / 16

abbrev pub place_in : ℕ → ℕ
place_in i = 32 * ((i + 31) % 16)

-- One inode in its place.
here_placed : (late : Late) (lates : List Late) (n : ℕ) (bytes : List ℕ) → (block_of late.number == n) ≡ true → placed (late ∷ lates) n bytes ≡ patched (place_in late.number) (inode_bytes late.inode) (placed lates n bytes)
here_placed late lates n bytes is = ap (λ t. cond t (patched (place_in late.number) (inode_bytes late.inode) (placed lates n bytes)) (placed lates n bytes)) is

other_placed : (late : Late) (lates : List Late) (n : ℕ) (bytes : List ℕ) → (block_of late.number == n) ≡ false → placed (late ∷ lates) n bytes ≡ placed lates n bytes
other_placed late lates n bytes is = ap (λ t. cond t (patched (place_in late.number) (inode_bytes late.inode) (placed lates n bytes)) (placed lates n bytes)) is

-- A block in which none of the inodes is.
pub block_kept : (lates : List Late) (n : ℕ) (bytes : List ℕ) → AllByRecursion (λ (l : Late). block_of l.number ≢ n) lates → placed lates n bytes ≡ bytes
block_kept [] n bytes all = refl
block_kept (late ∷ lates) n bytes all = elim (eqb_tells (block_of late.number) n) [
  | inl h ↦ absurd (all.0 h.1)
  | inr h ↦ other_placed late lates n bytes h.0 ∙ block_kept lates n bytes all.1
]

-- Each inode has eight addresses, and a number that is not 0.
abbrev pub IsWritten : Late → Type 0
IsWritten late = (1 ≤ late.number) × (length late.inode.addr ≡ 8)

pub placed_long : (lates : List Late) (n : ℕ) (bytes : List ℕ) → AllByRecursion IsWritten lates → length bytes ≡ 512 → length (placed lates n bytes) ≡ 512
placed_long [] n bytes all long = long
placed_long (late ∷ lates) n bytes all long =
    let rest = placed_long lates n bytes all.1 long in
    elim (eqb_tells (block_of late.number) n) [
      | inl h ↦
          let size = bytes_long late.inode all.0.1 in
          let fits : place_in late.number + length (inode_bytes late.inode) ≤ length (placed lates n bytes) = omega (arith, rest, size) in
          ap length (here_placed late lates n bytes h.0) ∙ patched_long (place_in late.number) (inode_bytes late.inode) (placed lates n bytes) fits ∙ rest
      | inr h ↦ ap length (other_placed late lates n bytes h.0) ∙ rest
    ]

-- the block of each of them is whole
abbrev pub HasBlocks : Disk → List Late → Type 0
HasBlocks disk lates = AllByRecursion (λ (l : Late). length (disk (block_of l.number)) ≡ 512) lates

among_here : (late : Late) (lates : List Late) (i : ℕ) (o : Inode) → (late.number == i) ≡ true → inode_among (late ∷ lates) i o ≡ late.inode
among_here late lates i o is = ap (λ t. cond t late.inode (inode_among lates i o)) is

among_behind : (late : Late) (lates : List Late) (i : ℕ) (o : Inode) → (late.number == i) ≡ false → inode_among (late ∷ lates) i o ≡ inode_among lates i o
among_behind late lates i o is = ap (λ t. cond t late.inode (inode_among lates i o)) is

one_more : (disk : Disk) (late : Late) (lates : List Late) → with_inodes disk (late ∷ lates) (block_of late.number) ≡ patched (place_in late.number) (inode_bytes late.inode) (with_inodes disk lates (block_of late.number))
unfolding with_inodes
one_more disk late lates = elim (eqb_tells (block_of late.number) (block_of late.number)) [
  | inl h ↦ here_placed late lates (block_of late.number) (disk (block_of late.number)) h.0
  | inr h ↦ absurd (h.1 refl)
]

one_other : (disk : Disk) (late : Late) (lates : List Late) (k : ℕ) → k ≢ block_of late.number → with_inodes disk (late ∷ lates) k ≡ with_inodes disk lates k
unfolding with_inodes
one_other disk late lates k other = elim (eqb_tells (block_of late.number) k) [
  | inl h ↦ absurd (other (sym h.1))
  | inr h ↦ other_placed late lates k (disk k) h.0
]

with_long : (disk : Disk) (lates : List Late) (n : ℕ) → AllByRecursion IsWritten lates → length (disk n) ≡ 512 → length (with_inodes disk lates n) ≡ 512
unfolding with_inodes
with_long disk lates n all long = placed_long lates n (disk n) all long

-- THE law: each inode is that of memory, where memory has it, or else that of the disk.
pub inode_is : (disk : Disk) (lates : List Late) (i : ℕ) → AllByRecursion IsWritten lates → HasBlocks disk lates → 1 ≤ i → inode (with_inodes disk lates) i ≡ inode_among lates i (inode disk i)
unfolding with_inodes
inode_is disk [] i all blocks low = refl
inode_is disk (late ∷ lates) i all blocks low =
    let size = bytes_long late.inode all.0.1 in
    let long : length (with_inodes disk lates (block_of late.number)) ≡ 512 = with_long disk lates (block_of late.number) all.1 blocks.0 in
    elim (eqb_tells late.number i) [
      | inl h ↦
          ap (inode (with_inodes disk (late ∷ lates))) (sym h.1)
          ∙ inode_written (with_inodes disk lates) (with_inodes disk (late ∷ lates)) late.number (inode_bytes late.inode) size long (one_more disk late lates)
          ∙ inode_again late.inode all.0.1 ∙ sym (among_here late lates i (inode disk i) h.0)
      | inr h ↦
          other_inode (with_inodes disk lates) (with_inodes disk (late ∷ lates)) late.number i (inode_bytes late.inode) size long (one_more disk late lates) (one_other disk late lates) all.0.0 low (λ e. h.1 (sym e))
          ∙ inode_is disk lates i all.1 blocks.1 low ∙ sym (among_behind late lates i (inode disk i) h.0)
    ]

pub with_kept : (disk : Disk) (lates : List Late) (n : ℕ) → AllByRecursion (λ (l : Late). block_of l.number ≢ n) lates → with_inodes disk lates n ≡ disk n
unfolding with_inodes
with_kept disk lates n all = block_kept lates n (disk n) all

-- how many of them have a number
abbrev pub lates_with : List Late → ℕ → ℕ
lates_with lates i = count_by (λ l. l.number == i) lates

abbrev one : Bool → ℕ
one t = cond t 1 0

lates_cons : (late : Late) (lates : List Late) (i : ℕ) → lates_with (late ∷ lates) i ≡ one (late.number == i) + lates_with lates i
lates_cons late lates i = sum_by-cons (λ (l : Late). one (l.number == i)) late lates

pub among_none : (lates : List Late) (i : ℕ) (o : Inode) → lates_with lates i ≡ 0 → inode_among lates i o ≡ o
among_none [] i o none = refl
among_none (late ∷ lates) i o none = elim (eqb_tells late.number i) [
  | inl h ↦ (let c : lates_with (late ∷ lates) i ≡ 1 + lates_with lates i = lates_cons late lates i ∙ ap (λ t. one t + lates_with lates i) h.0 in absurd (omega (arith, c, none)))
  | inr h ↦ (let c : lates_with (late ∷ lates) i ≡ 0 + lates_with lates i = lates_cons late lates i ∙ ap (λ t. one t + lates_with lates i) h.0 in
      among_behind late lates i o h.0 ∙ among_none lates i o (omega (arith, c, none)))
]

-- The only one of a number.
pub among_at : (lates : List Late) (k i : ℕ) (d : Late) (o : Inode) → k < length lates → (get_or lates k d).number ≡ i → lates_with lates i ≤ 1 → inode_among lates i o ≡ (get_or lates k d).inode
among_at [] k i d o low is once = absurd (omega (arith, low))
among_at (late ∷ lates) zero i d o low is once = elim (eqb_tells late.number i) [
  | inl h ↦ among_here late lates i o h.0
  | inr h ↦ absurd (h.1 is)
]
among_at (late ∷ lates) (suc k) i d o low is once = elim (eqb_tells late.number i) [
  | inl h ↦
      let c : lates_with (late ∷ lates) i ≡ 1 + lates_with lates i = lates_cons late lates i ∙ ap (λ t. one t + lates_with lates i) h.0 in
      let part = get_or-le-sum_by (λ (l : Late). one (l.number == i)) lates k d (omega (arith, low)) in
      let there : one ((get_or lates k d).number == i) ≡ 1 = elim (eqb_tells (get_or lates k d).number i) [ inl g ↦ ap one g.0 | inr g ↦ absurd (g.1 is) ] in
      absurd (omega (arith, c, part, there, once))
  | inr h ↦
      let c : lates_with (late ∷ lates) i ≡ 0 + lates_with lates i = lates_cons late lates i ∙ ap (λ t. one t + lates_with lates i) h.0 in
      among_behind late lates i o h.0 ∙ among_at lates k i d o (omega (arith, low)) is (omega (arith, c, once))
]

-- One of them is another inode of its number: the others are as before.
pub among_set : (lates : List Late) (k j : ℕ) (d next : Late) (o : Inode) → k < length lates → next.number ≡ (get_or lates k d).number → j ≢ next.number → inode_among (set lates k next) j o ≡ inode_among lates j o
among_set [] k j d next o low same other = absurd (omega (arith, low))
among_set (late ∷ lates) zero j d next o low same other =
    let test : (next.number == j) ≡ false = elim (eqb_tells next.number j) [ inl h ↦ absurd (other (sym h.1)) | inr h ↦ h.0 ] in
    let test' : (late.number == j) ≡ false = elim (eqb_tells late.number j) [ inl h ↦ absurd (other (sym h.1 ∙ sym same)) | inr h ↦ h.0 ] in
    among_behind next lates j o test ∙ sym (among_behind late lates j o test')
among_set (late ∷ lates) (suc k) j d next o low same other = ap (λ n. cond (late.number == j) late.inode n) (among_set lates k j d next o (omega (arith, low)) same other)

pub placed_set : (lates : List Late) (k n : ℕ) (d next : Late) (bytes : List ℕ) → k < length lates → next.number ≡ (get_or lates k d).number → n ≢ block_of next.number → placed (set lates k next) n bytes ≡ placed lates n bytes
placed_set [] k n d next bytes low same other = absurd (omega (arith, low))
placed_set (late ∷ lates) zero n d next bytes low same other =
    let test : (block_of next.number == n) ≡ false = elim (eqb_tells (block_of next.number) n) [ inl h ↦ absurd (other (sym h.1)) | inr h ↦ h.0 ] in
    let test' : (block_of late.number == n) ≡ false = elim (eqb_tells (block_of late.number) n) [ inl h ↦ absurd (other (sym h.1 ∙ ap block_of (sym same))) | inr h ↦ h.0 ] in
    other_placed next lates n bytes test ∙ sym (other_placed late lates n bytes test')
placed_set (late ∷ lates) (suc k) n d next bytes low same other =
    ap (λ b. cond (block_of late.number == n) (patched (place_in late.number) (inode_bytes late.inode) b) b) (placed_set lates k n d next bytes (omega (arith, low)) same other)

-- One more, at the end.
pub among_push : (lates : List Late) (last : Late) (j : ℕ) (o : Inode) → inode_among (lates ++ last ∷ []) j o ≡ inode_among lates j (inode_among (last ∷ []) j o)
among_push [] last j o = refl
among_push (late ∷ lates) last j o = ap (λ n. cond (late.number == j) late.inode n) (among_push lates last j o)

pub placed_push : (lates : List Late) (last : Late) (n : ℕ) (bytes : List ℕ) → placed (lates ++ last ∷ []) n bytes ≡ placed lates n (placed (last ∷ []) n bytes)
placed_push [] last n bytes = refl
placed_push (late ∷ lates) last n bytes =
    ap (λ b. cond (block_of late.number == n) (patched (place_in late.number) (inode_bytes late.inode) b) b) (placed_push lates last n bytes)

-- One less.
pub among_remove : (lates : List Late) (k j : ℕ) (d : Late) (o : Inode) → k < length lates → j ≢ (get_or lates k d).number → inode_among (remove lates k) j o ≡ inode_among lates j o
among_remove [] k j d o low other = absurd (omega (arith, low))
among_remove (late ∷ lates) zero j d o low other =
    let test : (late.number == j) ≡ false = elim (eqb_tells late.number j) [ inl h ↦ absurd (other (sym h.1)) | inr h ↦ h.0 ] in
    sym (among_behind late lates j o test)
among_remove (late ∷ lates) (suc k) j d o low other = ap (λ n. cond (late.number == j) late.inode n) (among_remove lates k j d o (omega (arith, low)) other)

pub remove_none : (lates : List Late) (k i : ℕ) (d : Late) → k < length lates → (get_or lates k d).number ≡ i → lates_with lates i ≤ 1 → lates_with (remove lates k) i ≡ 0
remove_none lates k i d low is once =
    let r = sum_by-remove (λ (l : Late). one (l.number == i)) lates k d low in
    let there : one ((get_or lates k d).number == i) ≡ 1 = elim (eqb_tells (get_or lates k d).number i) [ inl g ↦ ap one g.0 | inr g ↦ absurd (g.1 is) ] in
    omega (arith, r, there, once)

all_late : (P Q : Late → Type 0) → ((l : Late) → P l → Q l) → (lates : List Late) → AllByRecursion P lates → AllByRecursion Q lates
all_late P Q weaker [] all = tt
all_late P Q weaker (l ∷ ls) all = (weaker l all.0, all_late P Q weaker ls all.1)

-- Data blocks, the super-block and the boot block are those of the disk.
pub with_agrees : (disk : Disk) (lates : List Late) → IsSound disk → AllByRecursion (IsLate disk) lates → Agree disk (with_inodes disk lates)
with_agrees disk lates sound all = record {
  super = with_kept disk lates 1 (all_late (IsLate disk) (λ (l : Late). block_of l.number ≢ 1) (λ l h e. (let low = h.low in omega (arith, low, e))) lates all);
  zone = λ b inside. with_kept disk lates b (all_late (IsLate disk) (λ (l : Late). block_of l.number ≢ b)
      (λ l h e. place_no_data disk (block_of l.number) b (place_is disk l.number sound h.low h.high) inside (sym e)) lates all);
}
