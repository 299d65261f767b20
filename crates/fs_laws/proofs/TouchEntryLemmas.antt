-- An entry of an indirect block is written.
use Rattle.std.proofs.Common.{◌≡◌, ◌≢◌, ◌+◌, ◌*◌, ◌/◌, ◌%◌, ◌<◌, ◌≤◌, ◌⊎◌, inl, inr, ℕ, Bool, true, false, cond, List, [], ◌∷◌, length, set, slice_index, length-set, get_or-set_same, get_or-set_other, nat_eq, refl, sym, ap, ◌∙◌, arith}
use Rattle.std.proofs.lemmas.Bool.{cases_lt}
use Rattle.std.proofs.lemmas.Bool.Decides.{eqb_tells}
use Rattle.std.proofs.lemmas.List.{same_lists, get_or_default}
use Rattle.std.specs.List.{count_by}
use Rattle.fs_codec.specs.Words.{word, words}
use Rattle.fs_codec.specs.Modes.{is_large}
use Rattle.fs_codec.specs.Fields.{Inode}
use Rattle.fs_codec.specs.Disk.{Disk, head, is_data}
use Rattle.fs_codec.specs.Held.{entries, indirect_at, addresses}
use Rattle.bmap_path.specs.declared.BlockName.TheVariants.{Data}
use Rattle.fs_codec.proofs.WordsLemmas.{word_of_words, length-words}
use Rattle.buf_cache.specs.Blocks.{patched}
use Rattle.fs_codec.proofs.CountLemmas.{count-cons}
use Rattle.fs_laws.specs.Chain.{free, IsSound, SameZone, Takes}
use Rattle.fs_laws.specs.Whole.{IsApart}
use Rattle.fs_laws.specs.Tree.{indirects}
use Rattle.fs_laws.specs.Gains.{Gains}
use Rattle.fs_laws.proofs.ChainLemmas.{count_first}
use Rattle.fs_laws.proofs.FreeLemmas.{data_some, data_place, good_head, same_data}
use Rattle.fs_laws.proofs.StoreLemmas.{patched_at, patched_before, patched_after}
use Rattle.fs_laws.proofs.PlacesLemmas.{counted_at}
use Rattle.fs_laws.proofs.TreeLemmas.{large_count, indirect_is, data_gains}

word_here : (at : ℕ) (bytes block : List ℕ) (b : ℕ) → length bytes ≡ 2 → at + 2 ≤ length block → word bytes 0 ≡ b → word (patched at bytes block) at ≡ b
word_here at bytes block b size fits is =
    let f : at + length bytes ≤ length block = omega (arith, size, fits) in
    let same : at + 0 ≡ at = omega arith in
    let l : slice_index (patched at bytes block) at ≡ slice_index bytes 0 = ap (slice_index (patched at bytes block)) (sym same) ∙ patched_at at bytes block 0 f (omega (arith, size)) in
    let u : slice_index (patched at bytes block) (at + 1) ≡ slice_index bytes 1 = patched_at at bytes block 1 f (omega (arith, size)) in
    omega (arith, l, u, is)

word_there : (at j : ℕ) (bytes block : List ℕ) → length bytes ≡ 2 → at + 2 ≤ length block → (j + 2 ≤ at) ⊎ (at + 2 ≤ j) → word (patched at bytes block) j ≡ word block j
word_there at j bytes block size fits apart =
    let f : at + length bytes ≤ length block = omega (arith, size, fits) in
    elim apart [
      | inl low ↦ (let l = patched_before at bytes block j f (omega (arith, low)) in let u = patched_before at bytes block (j + 1) f (omega (arith, low)) in omega (arith, l, u))
      | inr high ↦ (let l = patched_after at bytes block j f (omega (arith, high, size)) in let u = patched_after at bytes block (j + 1) f (omega (arith, high, size)) in omega (arith, l, u))
    ]

-- the words of a block of which one is written
pub entry_put : (block bytes : List ℕ) (e b : ℕ) → length block ≡ 512 → length bytes ≡ 2 → word bytes 0 ≡ b → e < 256 → words (patched (2 * e) bytes block) 0 256 ≡ set (words block 0 256) e b
entry_put block bytes e b long size is low =
    let new : List ℕ = patched (2 * e) bytes block in
    same_lists (words new 0 256) (set (words block 0 256) e b) (length-words new 0 256 ∙ sym (length-set (words block 0 256) e b ∙ length-words block 0 256))
    (λ k d h.
    let few : k < 256 = (let l = length-words new 0 256 in omega (arith, h, l)) in
    let right : k < length (set (words block 0 256) e b) = (let l = length-set (words block 0 256) e b in let m = length-words block 0 256 in omega (arith, l, m, few)) in
    get_or_default (words new 0 256) k d 0 h ∙ word_of_words new 0 256 k few ∙ elim (eqb_tells k e) [
      | inl s ↦ (let at : 0 + 2 * k ≡ 2 * e = let x = s.1 in omega (arith, x) in
          ap (word new) at ∙ word_here (2 * e) bytes block b size (omega (arith, long, low)) is ∙ sym (ap (slice_index (set (words block 0 256) e b)) s.1 ∙ get_or-set_same (words block 0 256) e b 0 (let m = length-words block 0 256 in omega (arith, m, low))))
      | inr s ↦ word_there (2 * e) (0 + 2 * k) bytes block size (omega (arith, long, low)) (let x = s.1 in elim (cases_lt k e) [ inl y ↦ inl (omega (arith, y)) | inr y ↦ inr (elim (cases_lt e k) [ inl z ↦ omega (arith, z) | inr z ↦ absurd (x (omega (arith, y, z))) ]) ])
          ∙ sym (word_of_words block 0 256 k few) ∙ sym (get_or-set_other (words block 0 256) e k b 0 s.1)
    ] ∙ get_or_default (set (words block 0 256) e b) k 0 d right)

pub data_entries : (disk : Disk) (d : ℕ) → is_data disk d ≡ true → entries disk d ≡ words (disk d) 0 256
data_entries disk d h = ap (λ t. cond t (words (disk d) 0 256) []) h

-- entries stay where a block does
pub entries_same : (old new : Disk) (x : ℕ) → SameZone old new → (x ≢ 1 → new x ≡ old x) → entries new x ≡ entries old x
entries_same old new x zone same = by (is_data old x) refl where
  by : (t : Bool) → is_data old x ≡ t → entries new x ≡ entries old x
  by true e = ap (λ t. cond t (words (new x) 0 256) []) (same_data old new zone x ∙ e) ∙ ap (λ l. words l 0 256) (same (data_some old x e).1) ∙ sym (data_entries old x e)
  by false e = ap (λ t. cond t (words (new x) 0 256) []) (same_data old new zone x ∙ e) ∙ sym (ap (λ t. cond t (words (old x) 0 256) []) e)

pub entries_put : (old new : Disk) (d e b : ℕ) (bytes : List ℕ) → SameZone old new → is_data old d ≡ true → length (old d) ≡ 512 → length bytes ≡ 2 → word bytes 0 ≡ b → e < 256 → new d ≡ patched (2 * e) bytes (old d) → entries new d ≡ set (entries old d) e b
entries_put old new d e b bytes zone inside long size is low put =
    data_entries new d (same_data old new zone d ∙ inside) ∙ ap (λ l. words l 0 256) put ∙ entry_put (old d) bytes e b long size is low ∙ ap (λ l. set l e b) (sym (data_entries old d inside))

pub takes_written : (old mid new : Disk) (b : ℕ) → Takes old b mid → free new ≡ free mid → SameZone mid new → Takes old b new
takes_written old mid new b t same zone = record {
  first = t.first ∙ ap (λ l. b ∷ l) (sym same);
  zone = t.zone;
  fresh = ap (count_by (nat_eq b)) same ∙ t.fresh;
  still = record { i_size = zone.i_size ∙ t.still.i_size; f_size = zone.f_size ∙ t.still.f_size };
}

-- An indirect block of a file is a data block that is not free.
pub record IsUsed (disk : Disk) (d : ℕ) : Type 0 where
  pub zone : is_data disk d ≡ true
  pub used : count_by (nat_eq d) (free disk) ≡ 0

pub indirect_used : (disk : Disk) (node : Inode) (k d : ℕ) → is_large node.mode ≡ true → length node.addr ≡ 8 → IsApart disk (addresses disk node) → d ≡ indirect_at disk node k → d ≢ 0 → IsUsed disk d
indirect_used disk node k d large long apart is some =
    let c = counted_at (indirects disk node) k d (sym (indirect_is disk node k long) ∙ sym is) some in
    let l = large_count disk node d large in
    let comes : 1 ≤ count_by (nat_eq d) (addresses disk node) = omega (arith, c, l) in
    record { zone = apart.inside d some comes; used = let o = apart.once d some in omega (arith, o, comes) }

-- The first free block is taken, and then an entry of an indirect block names it.
pub entry_gains : (old mid new : Disk) (node : Inode) (n b d : ℕ) → is_large node.mode ≡ true → length node.addr ≡ 8 → IsApart old (addresses old node) → Takes old b mid → ((x : ℕ) → x ≢ 1 → x ≢ b → mid x ≡ old x)
    → d ≡ indirect_at old node (n / 256) → d ≢ 0 → slice_index (entries old d) (n % 256) ≡ 0
    → free new ≡ free mid → SameZone mid new → entries new d ≡ set (entries mid d) (n % 256) b → ((x : ℕ) → x ≢ 1 → x ≢ d → new x ≡ mid x) → Gains old node new node (Data n) b
entry_gains old mid new node n b d large long apart takes first is some none same zone put others =
    let some_b : b ≢ 0 = (data_some old b takes.zone).0 in
    let u = indirect_used old node (n / 256) d large long apart is some in
    let other : d ≢ b = (λ e. let f : count_by (nat_eq b) (free old) ≡ count_by (nat_eq b) (b ∷ free mid) = ap (count_by (nat_eq b)) takes.first in
    let z : count_by (nat_eq b) (free old) ≡ 0 = ap (λ x. count_by (nat_eq x) (free old)) (sym e) ∙ u.used in absurd (omega (arith, f, z, count_first b (free mid)))) in
    let t = takes_written old mid new b takes same zone in
    let d_mid : entries mid d ≡ entries old d = entries_same old mid d takes.still (λ h. first d h other) in
    data_gains old new node n b d large long apart t is some some_b
    (let l : length (entries old d) ≡ 256 = ap length (data_entries old d u.zone) ∙ length-words (old d) 0 256 in omega (arith, l))
    (put ∙ ap (λ l. set l (n % 256) b) d_mid) none
    (λ x x_d x_b. entries_same mid new x zone (λ h. others x h x_d) ∙ entries_same old mid x takes.still (λ h. first x h x_b))

pub data_on_disk : (disk : Disk) (d : ℕ) → IsSound disk → is_data disk d ≡ true → d < 4872
data_on_disk disk d s inside = let p = (data_place disk d inside).1 in let w = (good_head (head disk) s.super).end in omega (arith, p, w)

-- a block that is in use stays so
pub still_used : (old mid : Disk) (b d : ℕ) → IsUsed old d → Takes old b mid → IsUsed mid d
still_used old mid b d u t = record {
  zone = same_data old mid t.still d ∙ u.zone;
  used = let f : count_by (nat_eq d) (free old) ≡ count_by (nat_eq d) (b ∷ free mid) = ap (count_by (nat_eq d)) t.first in let z = u.used in omega (arith, f, z, count-cons d b (free mid));
}
