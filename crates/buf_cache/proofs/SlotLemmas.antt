-- Heads and slots that change, as buffers.
use Rattle.std.proofs.Common.{◌≡◌, ◌≢◌, ℕ, suc, ◌+◌, ◌<◌, ◌≤◌, ◌==◌, inl, inr, Bool, true, false, List, [], ◌∷◌, ◌++◌, length, map, take, drop, get_or, set, length-set, length-take, get_or-set_same, get_or-set_other, refl, sym, ap, ◌∙◌, subst, arith}
use Rattle.std.proofs.lemmas.Bool.Decides.{eqb_tells}
use Rattle.std.proofs.lemmas.List.Sums.{sum_by-cons, sum_by-append, sum_by-remove, get_or-le-sum_by}
use Rattle.std.proofs.lemmas.List.{length-map, get_or-map, take-map, drop-map, map-append, take_all, drop_all, drop_more, take_at, get_or_read, take-append-drop, append-nil}
use Rattle.std.proofs.lemmas.List.Edits.{length-remove}
use Rattle.std.proofs.lemmas.List.Elements.{recursion_from_All, All-weaker, All-cons, All-take, All-drop, All-append, All-map, All-tail}
use Rattle.std.specs.List.{All, AllByRecursion, remove, refill}
use Rattle.fs_codec.specs.declared.layout.TheConstants.{DISK_BLOCKS}
use Rattle.buf_cache.specs.Blocks.{block_at, patched}
use Rattle.buf_cache.specs.Cached.{Buffer, Cached, fresh, buffer_of, others_of, written, with_first, used, cached_blocks, patched_buffer, changed, unchanged, flushed, buffers_with, IsCached}
use Rattle.buf_cache.specs.Slots.{buffer_in, cached_in, heads_with, blocks_with, written_head, clean, dirty, IsSlots, IsKept}
use Rattle.buf_cache.specs.declared.cache.Head.{Head}
use Rattle.buf_cache.proofs.BufferLemmas.{one, with_cons, with_parts, found_none, found_at, others_none, others_at, written_other, written_length}
use Rattle.buf_cache.proofs.CacheLemmas.{buffer_is, buffer_block, first_is, block_is, flushed_is}

-- the buffers that heads and slots are
abbrev pub buffers_in : List (List ℕ) → List Head → List Buffer
buffers_in slots heads = map (buffer_in slots) heads

heads_cons : (h : Head) (hs : List Head) (s : ℕ) → heads_with (h ∷ hs) s ≡ one (h.slot == s) + heads_with hs s
heads_cons h hs s = sum_by-cons (λ (x : Head). one (x.slot == s)) h hs

-- buffers without one of them
map_remove : (f : Head → Buffer) (hs : List Head) (k : ℕ) → map f (remove hs k) ≡ remove (map f hs) k
map_remove f hs k = map-append f (take k hs) (drop (suc k) hs) ∙ (λ j. sym (take-map f k hs) j ++ sym (drop-map f (suc k) hs) j)

-- the buffers of a block are the heads of it
pub heads_of : (slots : List (List ℕ)) (hs : List Head) (n : ℕ) → buffers_with (buffers_in slots hs) n ≡ blocks_with hs n
heads_of slots [] n = refl
heads_of slots (h ∷ hs) n =
    with_cons (buffer_in slots h) (buffers_in slots hs) n ∙ ap (λ k. one (h.block == n) + k) (heads_of slots hs n) ∙ sym (sum_by-cons (λ (x : Head). one (x.block == n)) h hs)

-- A head comes to the front.
abbrev pub fronted : List Head → ℕ → Head → List Head
fronted hs k d = get_or hs k d ∷ remove hs k

fronted_all : (P : Head → Type 0) (hs : List Head) (k : ℕ) (d : Head) → k < length hs → All P hs → All P (fronted hs k d)
fronted_all P hs k d low all =
    All-cons P (get_or hs k d) (remove hs k) (all k d low) (All-append P (take k hs) (drop (suc k) hs) (All-take P k hs all) (All-drop P (suc k) hs all))

fronted_with : (hs : List Head) (k : ℕ) (d : Head) (s : ℕ) → k < length hs → heads_with (fronted hs k d) s ≡ heads_with hs s
fronted_with hs k d s low =
    let c = heads_cons (get_or hs k d) (remove hs k) s in
    let r = sum_by-remove (λ (x : Head). one (x.slot == s)) hs k d low in
    omega (arith, c, r)

fronted_long : (hs : List Head) (k : ℕ) (d : Head) → k < length hs → length (fronted hs k d) ≡ length hs
fronted_long hs k d low = let r = length-remove hs k low in omega (arith, r)

fronted_slots : (slots : List (List ℕ)) (hs : List Head) (k : ℕ) (d : Head) → k < length hs → IsSlots slots hs → IsSlots slots (fronted hs k d)
fronted_slots slots hs k d low is =
    let long = fronted_long hs k d low in
    record {
      count = is.count;
      low = All-weaker (λ (h : Head). h.slot < length hs) (λ (h : Head). h.slot < length (fronted hs k d)) (λ h l. omega (arith, long, l)) (fronted hs k d)
          (fronted_all (λ (h : Head). h.slot < length hs) hs k d low is.low);
      once = λ s. (let w = fronted_with hs k d s low in let o = is.once s in omega (arith, w, o));
    }

-- The block of a head is used.
pub fronted_is : (disk slots : List (List ℕ)) (hs : List Head) (k n : ℕ) (d : Head) → IsKept disk slots hs → k < length hs → (get_or hs k d).block ≡ n
    → cached_in disk slots (fronted hs k d) ≡ used (cached_in disk slots hs) n
unfolding used
fronted_is disk slots hs k n d is low here =
    let bs : List Buffer = buffers_in slots hs in
    let e : Buffer = buffer_in slots d in
    let long = length-map hs (buffer_in slots) in
    let low' : k < length bs = omega (arith, long, low) in
    let at : get_or bs k e ≡ buffer_in slots (get_or hs k d) = get_or-map (buffer_in slots) hs k d e low in
    let here' : (get_or bs k e).block ≡ n = ap (λ (b : Buffer). b.block) at ∙ here in
    let found : buffer_of (cached_in disk slots hs) n ≡ buffer_in slots (get_or hs k d) = found_at bs k n e (fresh n (block_at disk n)) low' here' (is.cached.once n) ∙ at in
    let others : others_of bs n ≡ remove bs k = others_at bs k n e low' here' (is.cached.once n) in
    let few = is.cached.few in
    let short = length-remove bs k low' in
    let same : take 14 (others_of bs n) ≡ map (buffer_in slots) (remove hs k) = ap (take 14) others ∙ take_all 14 (remove bs k) (omega (arith, few, short)) ∙ sym (map_remove (buffer_in slots) hs k) in
    let none : drop 14 (others_of bs n) ≡ [] = ap (drop 14) others ∙ drop_all 14 (remove bs k) (omega (arith, few, short)) in
    λ j. record { disk = sym (ap (λ l. written l disk) none) j; buffers = sym found j ∷ sym same j }

pub fronted_kept : (disk slots : List (List ℕ)) (hs : List Head) (k n : ℕ) (d : Head) → IsKept disk slots hs → k < length hs → (get_or hs k d).block ≡ n → n < DISK_BLOCKS → IsKept disk slots (fronted hs k d)
unfolding used
fronted_kept disk slots hs k n d is low here high = record {
  cached = (let P : Cached → Type 0 = IsCached in subst P (sym (fronted_is disk slots hs k n d is low here))
      (first_is (cached_in disk slots hs) n (buffer_of (cached_in disk slots hs) n) is.cached (buffer_block (cached_in disk slots hs) n) (buffer_is (cached_in disk slots hs) n is.cached high)));
  placed = fronted_slots slots hs k d low is.placed;
}

-- Heads that do not have a slot are the same buffers where its bytes are others.
same_heads : (slots : List (List ℕ)) (s : ℕ) (bytes : List ℕ) (hs : List Head) → AllByRecursion (λ (h : Head). h.slot ≢ s) hs → buffers_in (set slots s bytes) hs ≡ buffers_in slots hs
same_heads slots s bytes [] all = refl
same_heads slots s bytes (h ∷ hs) all =
    λ j. record { block = h.block; bytes = get_or-set_other slots s h.slot bytes [] all.0 j; is_changed = h.is_changed } ∷ same_heads slots s bytes hs all.1 j

-- What is known of the slot that is taken for one more block.
pub record Takes (slots : List (List ℕ)) (hs : List Head) (s : ℕ) (hs' : List Head) : Type 0 where
  pub heads : hs' ≡ take 14 hs
  pub low : s ≤ length hs'
  pub others : All (λ (h : Head). (h.slot < length hs' + 1) × (h.slot ≢ s)) hs'

abbrev pub new_head : ℕ → ℕ → Head
new_head n s = record { block = n; slot = s; is_changed = false }

-- A block comes to the front that no buffer had.
pub brought_is : (disk slots : List (List ℕ)) (hs hs' : List Head) (n s : ℕ) (disk' : List (List ℕ)) → IsKept disk slots hs → buffers_with (buffers_in slots hs) n ≡ 0 → Takes slots hs s hs' → n < DISK_BLOCKS
    → disk' ≡ written (drop 14 (buffers_in slots hs)) disk → cached_in disk' (set slots s (block_at disk' n)) (new_head n s ∷ hs') ≡ used (cached_in disk slots hs) n
unfolding used
brought_is disk slots hs hs' n s disk' is none t low out =
    let bs : List Buffer = buffers_in slots hs in
    let found : buffer_of (cached_in disk slots hs) n ≡ fresh n (block_at disk n) = found_none bs n (fresh n (block_at disk n)) none in
    let others : others_of bs n ≡ bs = others_none bs n none in
    let part : buffers_with (drop 14 bs) n ≡ 0 = (let p = with_parts bs 14 n in omega (arith, p, none)) in
    let read : block_at disk' n ≡ block_at disk n = ap (λ l. block_at l n) out ∙ written_other (drop 14 bs) disk n part in
    let some = t.low in
    let l = length-take 14 hs in
    let m = ap length t.heads in
    let c = is.placed.count in
    let here : block_at (set slots s (block_at disk' n)) s ≡ block_at disk n = get_or-set_same slots s (block_at disk' n) [] (omega (arith, some, l, m, c)) ∙ read in
    let same : buffers_in (set slots s (block_at disk' n)) hs' ≡ take 14 (others_of bs n) =
    same_heads slots s (block_at disk' n) hs' (recursion_from_All (λ (h : Head). h.slot ≢ s) hs' (All-weaker (λ (h : Head). (h.slot < length hs' + 1) × (h.slot ≢ s)) (λ (h : Head). h.slot ≢ s) (λ h b. b.1) hs' t.others))
    ∙ ap (buffers_in slots) t.heads ∙ sym (take-map (buffer_in slots) 14 hs) ∙ ap (take 14) (sym others) in
    λ j. record {
      disk = (out ∙ ap (λ l. written (drop 14 l) disk) (sym others)) j;
      buffers = ((λ i. record { block = n; bytes = here i; is_changed = false }) ∙ sym found) j ∷ same j;
    }

once_cons : (t : Bool) (a b c : ℕ) → c ≡ one t + a → (t ≡ true → a ≡ 0) → a ≤ 1 → c ≤ 1
once_cons true a b c is none few = let z = none refl in omega (arith, is, z)
once_cons false a b c is none few = omega (arith, is, few)

heads_none : (hs : List Head) (s : ℕ) → AllByRecursion (λ (h : Head). h.slot ≢ s) hs → heads_with hs s ≡ 0
heads_none [] s all = refl
heads_none (h ∷ hs) s all = elim (eqb_tells h.slot s) [
  | inl e ↦ absurd (all.0 e.1)
  | inr e ↦ (let c : heads_with (h ∷ hs) s ≡ 0 + heads_with hs s = heads_cons h hs s ∙ ap (λ t. one t + heads_with hs s) e.0 in let r = heads_none hs s all.1 in omega (arith, c, r))
]

heads_parts : (hs : List Head) (m s : ℕ) → heads_with (take m hs) s + heads_with (drop m hs) s ≡ heads_with hs s
heads_parts hs m s = sym (sum_by-append (λ (x : Head). one (x.slot == s)) (take m hs) (drop m hs)) ∙ ap (λ l. heads_with l s) (take-append-drop m hs)

pub brought_kept : (disk slots : List (List ℕ)) (hs hs' : List Head) (n s : ℕ) (disk' : List (List ℕ)) → IsKept disk slots hs → buffers_with (buffers_in slots hs) n ≡ 0 → Takes slots hs s hs' → n < DISK_BLOCKS
    → disk' ≡ written (drop 14 (buffers_in slots hs)) disk → IsKept disk' (set slots s (block_at disk' n)) (new_head n s ∷ hs')
unfolding used
brought_kept disk slots hs hs' n s disk' is none t low out = record {
  cached = (let P : Cached → Type 0 = IsCached in subst P (sym (brought_is disk slots hs hs' n s disk' is none t low out))
      (first_is (cached_in disk slots hs) n (buffer_of (cached_in disk slots hs) n) is.cached (buffer_block (cached_in disk slots hs) n) (buffer_is (cached_in disk slots hs) n is.cached low)));
  placed = record {
    count = length-set slots s (block_at disk' n) ∙ is.placed.count;
    low = All-cons (λ (h : Head). h.slot < length (new_head n s ∷ hs')) (new_head n s) hs' (let l = t.low in omega (arith, l))
        (All-weaker (λ (h : Head). (h.slot < length hs' + 1) × (h.slot ≢ s)) (λ (h : Head). h.slot < length (new_head n s ∷ hs')) (λ h b. (let x = b.0 in omega (arith, x))) hs' t.others);
    once = λ k. (let few : heads_with hs' k ≤ 1 = (let p = heads_parts hs 14 k in let e = ap (λ l. heads_with l k) t.heads in let o = is.placed.once k in omega (arith, p, e, o)) in
        once_cons (s == k) (heads_with hs' k) 0 (heads_with (new_head n s ∷ hs') k) (heads_cons (new_head n s) hs' k)
        (λ e. elim (eqb_tells s k) [
          | inl g ↦ heads_none hs' k (recursion_from_All (λ (h : Head). h.slot ≢ k) hs' (All-weaker (λ (h : Head). (h.slot < length hs' + 1) × (h.slot ≢ s)) (λ (h : Head). h.slot ≢ k) (λ h b is'. b.1 (is' ∙ sym g.1)) hs' t.others))
          | inr g ↦ (let f : false ≡ true = sym g.0 ∙ e in cc)
        ]) few);
  };
}

last_none : (hs : List Head) (m : ℕ) (d : Head) → length hs ≤ m + 1 → m < length hs → drop m hs ≡ get_or hs m d ∷ []
last_none hs m d few low = drop_more hs m d low ∙ ap (λ l. get_or hs m d ∷ l) (drop_all (m + 1) hs (omega (arith, few)))

pub takes_last : (slots : List (List ℕ)) (hs hs' : List Head) (last : Head) → IsSlots slots hs → length hs ≡ 15 → hs' ≡ remove hs 14 → last ≡ get_or hs 14 last → Takes slots hs last.slot hs'
takes_last slots hs hs' last is full rest read =
    let front : hs' ≡ take 14 hs = rest ∙ ap (λ l. take 14 hs ++ l) (drop_all 15 hs (omega (arith, full))) ∙ append-nil (take 14 hs) in
    let l = length-take 14 hs in
    let m = ap length front in
    let slot = is.low 14 last (omega (arith, full)) in
    let same = ap (λ (h : Head). h.slot) read in
    record {
      heads = front;
      low = omega (arith, slot, same, l, m, full);
      others = (let P : List Head → Type 0 = All (λ (h : Head). (h.slot < length hs' + 1) × (h.slot ≢ last.slot)) in
          subst P (sym front) (λ j d low. (
            (let low' = low in let s = All-take (λ (h : Head). h.slot < length hs) 14 hs is.low j d low in omega (arith, s, l, m, full)),
            λ e.
                let part = get_or-le-sum_by (λ (x : Head). one (x.slot == last.slot)) (take 14 hs) j d low in
                let here : one ((get_or (take 14 hs) j d).slot == last.slot) ≡ 1 = elim (eqb_tells (get_or (take 14 hs) j d).slot last.slot) [ inl g ↦ ap one g.0 | inr g ↦ absurd (g.1 e) ] in
                let both = heads_parts hs 14 last.slot in
                let there : heads_with (drop 14 hs) last.slot ≡ 1 = ap (λ l. heads_with l last.slot) (last_none hs 14 last (omega (arith, full)) (omega (arith, full)))
                ∙ heads_cons (get_or hs 14 last) [] last.slot ∙ elim (eqb_tells (get_or hs 14 last).slot last.slot) [ inl g ↦ ap (λ t. one t + 0) g.0 | inr g ↦ absurd (g.1 (sym same)) ] in
                let o = is.once last.slot in
                omega (arith, part, here, both, there, o),
          )));
    }

pub drops_last : (slots disk : List (List ℕ)) (hs : List Head) (last : Head) → length hs ≡ 15 → last ≡ get_or hs 14 last → written_head slots last disk ≡ written (drop 14 (buffers_in slots hs)) disk
drops_last slots disk hs last full read =
    ap (λ h. written_head slots h disk) read
    ∙ ap (λ l. written l disk) (sym (drop-map (buffer_in slots) 14 hs ∙ ap (buffers_in slots) (last_none hs 14 last (omega (arith, full)) (omega (arith, full)))))

-- A head is that of a block of the disk, in a slot.
pub head_low : (disk slots : List (List ℕ)) (hs : List Head) (k : ℕ) (d : Head) → IsKept disk slots hs → k < length hs → ((get_or hs k d).block < DISK_BLOCKS) × ((get_or hs k d).slot < 15)
head_low disk slots hs k d is low =
    let at : get_or (buffers_in slots hs) k (buffer_in slots d) ≡ buffer_in slots (get_or hs k d) = get_or-map (buffer_in slots) hs k d (buffer_in slots d) low in
    let long = length-map hs (buffer_in slots) in
    let b = (is.cached.each k (buffer_in slots d) (omega (arith, long, low))).low in
    let e = ap (λ (x : Buffer). x.block) at in
    let s = is.placed.low k d low in
    let few = is.cached.few in
    (omega (arith, b, e), omega (arith, s, few, long))

-- The first buffer has other bytes at a place.
others_of_first : (hs : List Head) (s : ℕ) → heads_with hs s ≡ 0 → AllByRecursion (λ (h : Head). h.slot ≢ s) hs
others_of_first [] s none = tt
others_of_first (h ∷ hs) s none =
    let c = heads_cons h hs s in (
      λ e. elim (eqb_tells h.slot s) [
        | inl g ↦ (let o : one (h.slot == s) ≡ 1 = ap one g.0 in omega (arith, o, c, none))
        | inr g ↦ g.1 e
      ],
      others_of_first hs s (omega (arith, c, none)),
    )

-- the first buffer of a cache, and the others
first_of : (disk slots : List (List ℕ)) (h : Head) (hs : List Head) (c : Cached) (n : ℕ) (b : Buffer) → cached_in disk slots (h ∷ hs) ≡ with_first c n b → buffer_in slots h ≡ b
first_of disk slots h hs c n b is = ap (λ (x : Cached). get_or x.buffers 0 b) is

pub patched_is : (disk slots : List (List ℕ)) (hs : List Head) (c : Cached) (n at : ℕ) (bytes : List ℕ) (d : Head) → IsKept disk slots hs → 0 < length hs → cached_in disk slots hs ≡ used c n
    → cached_in disk (set slots (get_or hs 0 d).slot (patched at bytes (block_at slots (get_or hs 0 d).slot))) (set hs 0 (dirty (get_or hs 0 d))) ≡ changed c n at bytes
unfolding used changed
patched_is disk slots [] c n at bytes d kept some same = absurd (omega (arith, some))
patched_is disk slots (h ∷ hs) c n at bytes d kept some same =
    let is = kept.placed in
    let long = length-map (h ∷ hs) (buffer_in slots) in
    let short = kept.cached.few in
    let low = is.low 0 h (omega arith) in
    let count = is.count in
    let within : h.slot < length slots = omega (arith, low, count, short, long) in
    let few = is.once h.slot in
    let w = heads_cons h hs h.slot in
    let o : one (h.slot == h.slot) ≡ 1 = elim (eqb_tells h.slot h.slot) [ inl g ↦ ap one g.0 | inr g ↦ absurd (g.1 refl) ] in
    let rest : buffers_in (set slots h.slot (patched at bytes (block_at slots h.slot))) hs ≡ buffers_in slots hs =
    same_heads slots h.slot (patched at bytes (block_at slots h.slot)) hs (others_of_first hs h.slot (omega (arith, few, w, o))) in
    λ j. record {
      disk = ap (λ (x : Cached). x.disk) same j;
      buffers = ((λ i. record { block = h.block; bytes = get_or-set_same slots h.slot (patched at bytes (block_at slots h.slot)) [] within i; is_changed = true })
          ∙ ap (patched_buffer at bytes) (first_of disk slots h hs c n (buffer_of c n) same)) j
          ∷ (rest ∙ ap (λ (x : Cached). drop 1 x.buffers) same) j;
    }

-- the blocks from a place on are written to the disk
pub write_more : (slots disk end : List (List ℕ)) (hs : List Head) (k : ℕ) (h : Head) → k < length hs → h ≡ get_or hs k h → written (drop k (buffers_in slots hs)) disk ≡ end
    → written (drop (k + 1) (buffers_in slots hs)) (written_head slots h disk) ≡ end
write_more slots disk end hs k h low read before =
    let long = length-map hs (buffer_in slots) in
    let first : get_or (buffers_in slots hs) k (buffer_in slots h) ≡ buffer_in slots h = get_or-map (buffer_in slots) hs k h (buffer_in slots h) low ∙ ap (buffer_in slots) (sym read) in
    let split : drop k (buffers_in slots hs) ≡ buffer_in slots h ∷ drop (k + 1) (buffers_in slots hs) =
    drop_more (buffers_in slots hs) k (buffer_in slots h) (omega (arith, long, low)) ∙ ap (λ b. b ∷ drop (k + 1) (buffers_in slots hs)) first in
    sym (ap (λ l. written l disk) split) ∙ before

pub write_length : (slots disk : List (List ℕ)) (h : Head) → length (written_head slots h disk) ≡ length disk
write_length slots disk h = written_length (buffer_in slots h ∷ []) disk

-- a list that is filled up from a list no longer than it
pub refilled : (hs new : List Head) → length new ≡ length hs → refill (length hs) hs new ≡ new
refilled hs new same = take_at new (drop (length new) hs) (length hs) same

pub fronted_refill : (hs now new : List Head) (k : ℕ) (d : Head) → now ≡ hs → k < length hs → new ≡ get_or now k d ∷ remove now k → refill (length hs) hs new ≡ fronted hs k d
fronted_refill hs now new k d same low is =
    let e : new ≡ fronted hs k d = is ∙ ap (λ (l : List Head). get_or l k d ∷ remove l k) same in
    refilled hs new (ap length e ∙ fronted_long hs k d low) ∙ e

pub full_is : (t : Bool) (n : ℕ) → t ≡ (n == 15) → t ≡ true → n ≡ 15
full_is t n is full = elim (eqb_tells n 15) [
  | inl h ↦ h.1
  | inr h ↦ (let f : false ≡ true = sym h.0 ∙ sym is ∙ full in cc)
]

-- After a block is used there is a first buffer, which is its.
pub some_first : (disk slots : List (List ℕ)) (hs : List Head) (c : Cached) (n : ℕ) → cached_in disk slots hs ≡ used c n → 0 < length hs
unfolding used
some_first disk slots hs c n is =
    let long = length-map hs (buffer_in slots) in
    let e : length (buffers_in slots hs) ≡ suc (length (take 14 (others_of c.buffers n))) = ap (λ (x : Cached). length x.buffers) is in
    omega (arith, long, e)

pub first_slot : (disk slots : List (List ℕ)) (hs : List Head) (d : Head) → IsKept disk slots hs → 0 < length hs → (get_or hs 0 d).slot < length slots
first_slot disk slots hs d is some = let h = (head_low disk slots hs 0 d is some).1 in let c = is.placed.count in omega (arith, h, c)

pub first_bytes : (disk slots : List (List ℕ)) (hs : List Head) (c : Cached) (n : ℕ) (d : Head) (x : List ℕ) → IsKept disk slots hs → cached_in disk slots hs ≡ used c n → n < DISK_BLOCKS
    → x ≡ get_or slots (get_or hs 0 d).slot x → x ≡ block_at (cached_blocks c) n
unfolding used
first_bytes disk slots [] c n d x is same low read = absurd (let s = some_first disk slots [] c n same in omega (arith, s))
first_bytes disk slots (h ∷ hs) c n d x is same low read =
    get_or_read slots h.slot x (first_slot disk slots (h ∷ hs) d is (omega arith)) read []
    ∙ ap (λ (b : Buffer). b.bytes) (first_of disk slots h hs c n (buffer_of c n) same) ∙ sym (block_is c n low)

dirty_slots : (slots : List (List ℕ)) (hs : List Head) (bytes : List ℕ) (d : Head) → IsSlots slots hs → 0 < length hs → IsSlots (set slots (get_or hs 0 d).slot bytes) (set hs 0 (dirty (get_or hs 0 d)))
dirty_slots slots [] bytes d is some = absurd (omega (arith, some))
dirty_slots slots (h ∷ hs) bytes d is some = record {
  count = length-set slots h.slot bytes ∙ is.count;
  low = All-cons (λ (x : Head). x.slot < length (h ∷ hs)) (dirty h) hs (is.low 0 h (omega arith)) (All-tail (λ (x : Head). x.slot < length (h ∷ hs)) h hs is.low);
  once = λ s. (let w = heads_cons (dirty h) hs s in let v = heads_cons h hs s in let o = is.once s in omega (arith, w, v, o));
}

pub patched_kept : (disk slots : List (List ℕ)) (hs : List Head) (c : Cached) (n at : ℕ) (bytes : List ℕ) (d : Head) → IsKept disk slots hs → cached_in disk slots hs ≡ used c n → IsCached (changed c n at bytes)
    → IsKept disk (set slots (get_or hs 0 d).slot (patched at bytes (block_at slots (get_or hs 0 d).slot))) (set hs 0 (dirty (get_or hs 0 d)))
patched_kept disk slots hs c n at bytes d is same to =
    let some = some_first disk slots hs c n same in
    let P : Cached → Type 0 = IsCached in
    record {
      cached = subst P (sym (patched_is disk slots hs c n at bytes d is some same)) to;
      placed = dirty_slots slots hs (patched at bytes (block_at slots (get_or hs 0 d).slot)) d is.placed some;
    }

-- no buffer is changed any more
clean_buffers : (slots : List (List ℕ)) (hs : List Head) → buffers_in slots (map clean hs) ≡ map unchanged (buffers_in slots hs)
clean_buffers slots [] = refl
clean_buffers slots (h ∷ hs) = ap (λ l. unchanged (buffer_in slots h) ∷ l) (clean_buffers slots hs)

clean_with : (hs : List Head) (s : ℕ) → heads_with (map clean hs) s ≡ heads_with hs s
clean_with [] s = refl
clean_with (h ∷ hs) s = heads_cons (clean h) (map clean hs) s ∙ ap (λ n. one (h.slot == s) + n) (clean_with hs s) ∙ sym (heads_cons h hs s)

pub cleaned_is : (disk slots : List (List ℕ)) (hs : List Head) → cached_in (written (buffers_in slots hs) disk) slots (map clean hs) ≡ flushed (cached_in disk slots hs)
unfolding flushed
cleaned_is disk slots hs = λ j. record { disk = written (buffers_in slots hs) disk; buffers = clean_buffers slots hs j }

pub cleaned_kept : (disk slots : List (List ℕ)) (hs : List Head) → IsKept disk slots hs → IsKept (written (buffers_in slots hs) disk) slots (map clean hs)
cleaned_kept disk slots hs is =
    let long = length-map hs clean in
    record {
      cached = (let P : Cached → Type 0 = IsCached in subst P (sym (cleaned_is disk slots hs)) (flushed_is (cached_in disk slots hs) is.cached));
      placed = record {
        count = is.placed.count;
        low = All-map (λ (h : Head). h.slot < length (map clean hs)) clean hs
            (All-weaker (λ (h : Head). h.slot < length hs) (λ (h : Head). h.slot < length (map clean hs)) (λ h l. omega (arith, long, l)) hs is.placed.low);
        once = λ s. (let w = clean_with hs s in let o = is.placed.once s in omega (arith, w, o));
      };
    }
