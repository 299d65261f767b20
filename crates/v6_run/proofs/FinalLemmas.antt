-- The text of a disk reads as its blocks, and is written block by block.
use Rattle.std.proofs.Common.{◌≡◌, ◌+◌, ◌-◌, ◌*◌, ◌<◌, ◌≤◌, ℕ, zero, suc, false, None, is_some, count_by, nat_lt, List, [], ◌∷◌, ◌++◌, length, length-append, slice_index, refl, sym, ap, ◌∙◌, subst, append_assoc, arith}
use Rattle.std.proofs.lemmas.List.{append-nil, drop_all, take_all, get_or_append_left, get_or-append_right}
use Rattle.std.specs.List.{flat_map, range_with_len}
use Rattle.fs_codec.specs.Disk.{Disk, disk_of, head}
use Rattle.fs_codec.specs.Fields.{super_of}
use Rattle.fs_codec.specs.Store.{Store}
use Rattle.fs_codec.specs.Faults.{first_some, when, disk_fault, fault_within, image_fault}
use Rattle.fs_codec.specs.declared.fault.ImageFault.TheVariants.{TooLong}
use Rattle.fs_codec.specs.Stands.{StandsFor, store_of}
use Rattle.fs_codec.specs.declared.layout.TheConstants.{DISK_BLOCKS, DISK_BYTES, SWAP_START}
use Rattle.fs_codec.proofs.ImageLemmas.{bytes_by_places}
use Rattle.fs_check.proofs.TallyLemmas.{no_fault}
use Rattle.buf_cache.specs.Blocks.{block_at, blocks_of, IsDisk}
use Rattle.fs_laws.specs.Whole.{IsWhole}
use Rattle.fs_laws.proofs.WholeLemmas.{whole_is, whole_within, within_whole}
use Rattle.fs_laws.proofs.FreeLemmas.{good_head}
use Rattle.fs_laws.proofs.AgreeLemmas.{SameFiles, files_whole, files_store}
use Rattle.fs_laws.proofs.ImageLemmas.{block_of_image}
use Rattle.fs_laws.specs.Rest.{SameAround}
use Rattle.core_mem.specs.Bytes.{part, over}
use Rattle.core_mem.proofs.Parts.{part-right, over-over}
use Rattle.image_keep.specs.Holds.{AreRangesApart, SwapHolds}
use Rattle.abstract_unix.specs.Unix.{System}
use Rattle.unix_core.specs.Memory.{kept_in}
use Rattle.take_script.proofs.ListLemmas.{flat_split}
use Rattle.v6_run.specs.Fronts.{HoldsFront}
use Rattle.v6_run.specs.Final.{IsFinal, disk_text}

pub flat_long : (f : ℕ → List ℕ) (a n : ℕ) → ((j : ℕ) → j < a + n → length (f j) ≡ 512) → length (flat_map f (range_with_len a n)) ≡ 512 * n
flat_long f a zero each = refl
flat_long f a (suc n) each =
    length-append (f a) (flat_map f (range_with_len (a + 1) n)) ∙ (let h = each a (omega arith) in let r = flat_long f (a + 1) n (λ j low. each j (omega (arith, low))) in omega (arith, h, r))

pub flat_byte : (f : ℕ → List ℕ) (a n i k : ℕ) → ((j : ℕ) → j < a + n → length (f j) ≡ 512) → i < n → k < 512 → slice_index (flat_map f (range_with_len a n)) (512 * i + k) ≡ slice_index (f (a + i)) k
flat_byte f a zero i k each h small = absurd (omega (arith, h))
flat_byte f a (suc n) zero k each h small =
    let here : 512 * zero + k ≡ k = omega arith in
    let first : a + 0 ≡ a = omega arith in
    ap (slice_index (f a ++ flat_map f (range_with_len (a + 1) n))) here
    ∙ get_or_append_left (f a) (flat_map f (range_with_len (a + 1) n)) 0 k (let l = each a (omega arith) in omega (arith, l, small)) ∙ ap (λ j. slice_index (f j) k) (sym first)
flat_byte f a (suc n) (suc i) k each h small =
    let there : 512 * suc i + k - 512 ≡ 512 * i + k = omega arith in
    let next : a + 1 + i ≡ a + suc i = omega arith in
    get_or-append_right (f a) (flat_map f (range_with_len (a + 1) n)) 512 (512 * suc i + k) 0 (each a (omega arith)) (omega arith)
    ∙ ap (slice_index (flat_map f (range_with_len (a + 1) n))) there ∙ flat_byte f (a + 1) n i k (λ j low. each j (omega (arith, low))) (omega (arith, h)) small ∙ ap (λ j. slice_index (f j) k) next

-- Each block of a disk's text is the block.
module _ (blocks : List (List ℕ)) (form : IsDisk blocks) where
  each_whole : (j : ℕ) → j < 0 + SWAP_START → length (block_at blocks j) ≡ 512
  each_whole j low = form.whole j (omega (arith, low))

  pub text_long : length (disk_text blocks) ≡ 512 * SWAP_START
  unfolding disk_text
  text_long = flat_long (block_at blocks) 0 SWAP_START each_whole

  text_byte : (n k : ℕ) → n < SWAP_START → k < 512 → slice_index (disk_text blocks) (512 * n + k) ≡ slice_index (block_at blocks n) k
  unfolding disk_text
  text_byte n k low small = let first : 0 + n ≡ n = omega arith in
      flat_byte (block_at blocks) 0 SWAP_START n k each_whole low small ∙ ap (λ j. slice_index (block_at blocks j) k) first

  -- with any swap area behind it
  pub text_block : (swap : List ℕ) (n : ℕ) → n < SWAP_START → disk_of (disk_text blocks ++ swap) n ≡ block_at blocks n
  unfolding disk_of
  text_block swap n low = sym (bytes_by_places (disk_text blocks ++ swap) (block_at blocks n) (512 * n) 512 (form.whole n (omega (arith, low)))
      (λ k small. sym (get_or_append_left (disk_text blocks) swap 0 (512 * n + k) (let l = text_long in omega (arith, l, low, small)) ∙ text_byte n k low small)))

whole_part : (xs : List ℕ) (n : ℕ) → length xs ≡ n → part xs 0 n ≡ xs
unfolding part
whole_part xs n long = take_all n xs (omega (arith, long))

-- The text of the blocks that stand for a system's store, with a swap area that holds what the system keeps, is a final disk.
pub final_is : (old new : List (List ℕ)) (m : System) → (head (block_at old)).f_size ≤ SWAP_START → SameAround old new → IsDisk new → StandsFor DISK_BLOCKS (block_at new) m.unix.store.root
    → (swap : List ℕ) → SwapHolds swap (kept_in m) → AreRangesApart (kept_in m) → IsFinal (block_at old) m (disk_text new ++ swap)
final_is old new m low rest form stands swap holds apart =
    let whole : IsWhole (block_at new) = whole_is (block_at new) stands.sound in
    let end = (good_head (head (block_at new)) whole.sound.super).end in
    let disk : Disk = disk_of (disk_text new ++ swap) in
    let text = text_block new form swap in
    let long = text_long new form in
    let swapped = holds.size in
    let first : (head (block_at new)).f_size ≡ (head (block_at old)).f_size = rest.f_size in
    let files : SameFiles (block_at new) disk = record { blocks = λ k inside. text k (omega (arith, inside, first, low)) } in
    let size : (head disk).f_size ≡ (head (block_at old)).f_size = ap (λ l. (super_of l).f_size) (text 1 (omega arith)) ∙ rest.f_size in
    let there : part (disk_text new ++ swap) (512 * SWAP_START) 446464 ≡ swap =
    part-right (disk_text new) swap (512 * SWAP_START) 0 446464 (omega (arith, long)) ∙ whole_part swap 446464 swapped in
    record {
      long = length-append (disk_text new) swap ∙ omega (arith, long, swapped);
      stands = record {
        sound = whole_within SWAP_START disk (files_whole (block_at new) disk whole files) (omega (arith, size, low));
        same = stands.same ∙ sym (files_store (block_at new) disk whole files);
      };
      boot = text 0 (omega arith) ∙ rest.boot;
      size = size;
      behind = λ n past inside. text n inside ∙ rest.behind n past;
      swap = subst (λ l. SwapHolds l (kept_in m)) (sym there) holds;
      apart = apart;
    }

-- it is one over another disk with the same blocks
pub final_same : (d e : Disk) (m : System) (text : List ℕ) → ((n : ℕ) → n < DISK_BLOCKS → e n ≡ d n) → IsFinal e m text → IsFinal d m text
final_same d e m text same final =
    let first : (head e).f_size ≡ (head d).f_size = ap (λ l. (super_of l).f_size) (same 1 (omega arith)) in
    record {
      long = final.long;
      stands = final.stands;
      boot = final.boot ∙ same 0 (omega arith);
      size = final.size ∙ first;
      behind = λ n past inside. final.behind n (omega (arith, past, first)) inside ∙ same n (omega (arith, inside));
      swap = final.swap;
      apart = final.apart;
    }

-- The disk of an image without a fault keeps clear of the swap area.
pub image_below : (image : List ℕ) → image_fault image ≡ None → (head (block_at (blocks_of image))).f_size ≤ SWAP_START
image_below image good =
    let end = (within_whole SWAP_START (disk_of image) (omega arith) (no_fault image good)).1 in
    let same : (head (block_at (blocks_of image))).f_size ≡ (head (disk_of image)).f_size = ap (λ l. (super_of l).f_size) (block_of_image image 1 (omega arith)) in
    omega (arith, end, same)

-- the first n blocks of a disk
unfoldable pub so_far : List (List ℕ) → ℕ → List ℕ
so_far blocks n = flat_map (block_at blocks) (range_with_len 0 n)

pub so_far_more : (blocks : List (List ℕ)) (n : ℕ) → so_far blocks (n + 1) ≡ so_far blocks n ++ block_at blocks n
unfolding so_far
so_far_more blocks n =
    let first : 0 + n ≡ n = omega arith in
    flat_split (block_at blocks) 0 n 1 ∙ ap (λ l. flat_map (block_at blocks) (range_with_len 0 n) ++ l) (append-nil (block_at blocks (0 + n)) ∙ ap (block_at blocks) first)

pub so_far_all : (blocks : List (List ℕ)) (n : ℕ) → SWAP_START ≤ n → n ≤ SWAP_START → so_far blocks n ≡ disk_text blocks
unfolding so_far disk_text
so_far_all blocks n low high = let all : n ≡ SWAP_START = omega (arith, low, high) in ap (λ m. flat_map (block_at blocks) (range_with_len 0 m)) all

-- the blocks from one on
behind : List (List ℕ) → ℕ → List ℕ
behind blocks n = flat_map (block_at blocks) (range_with_len (0 + n) (SWAP_START - n))

text_split : (blocks : List (List ℕ)) (n : ℕ) → n ≤ SWAP_START → disk_text blocks ≡ so_far blocks n ++ behind blocks n
unfolding so_far disk_text behind
text_split blocks n low =
    let all : SWAP_START ≡ n + (SWAP_START - n) = omega (arith, low) in
    ap (λ m. flat_map (block_at blocks) (range_with_len 0 m)) all ∙ flat_split (block_at blocks) 0 n (SWAP_START - n)

-- a front of one block more is a front of all
front_of_block : (blocks : List (List ℕ)) (old now new : List ℕ) (n : ℕ) → n < SWAP_START → now ≡ old ++ so_far blocks n → HoldsFront now (block_at blocks n) new → HoldsFront old (disk_text blocks) new
front_of_block blocks old now new n low was front = record {
  part = so_far blocks n ++ front.part;
  rest = front.rest ++ behind blocks (n + 1);
  split =
      text_split blocks (n + 1) (omega (arith, low)) ∙ ap (λ l. l ++ behind blocks (n + 1)) (so_far_more blocks n ∙ ap (λ l. so_far blocks n ++ l) front.split ∙ sym (append_assoc (so_far blocks n) front.part front.rest))
      ∙ append_assoc (so_far blocks n ++ front.part) front.rest (behind blocks (n + 1));
  holds = front.holds ∙ ap (λ l. l ++ front.part) was ∙ append_assoc old (so_far blocks n) front.part;
}

pub front_more : (blocks : List (List ℕ)) (old now new piece : List ℕ) (n : ℕ) → n < SWAP_START → now ≡ old ++ so_far blocks n → piece ≡ block_at blocks n → HoldsFront now piece new → HoldsFront old (disk_text blocks) new
front_more blocks old now new piece n low was is front = front_of_block blocks old now new n low was (subst (λ l. HoldsFront now l new) is front)

pub bytes_more : (blocks : List (List ℕ)) (old now new piece : List ℕ) (n : ℕ) → now ≡ old ++ so_far blocks n → piece ≡ block_at blocks n → new ≡ now ++ piece → new ≡ old ++ so_far blocks (n + 1)
bytes_more blocks old now new piece n was is more =
    more ∙ ap (λ l. l ++ piece) was ∙ ap (λ l. (old ++ so_far blocks n) ++ l) is ∙ append_assoc old (so_far blocks n) (block_at blocks n) ∙ ap (λ l. old ++ l) (sym (so_far_more blocks n))

pub no_blocks : (blocks : List (List ℕ)) (old : List ℕ) → old ≡ old ++ so_far blocks 0
unfolding so_far
no_blocks blocks old = sym (append-nil old)

-- Blocks that are put over an image one after the other.
pub put_none : (blocks : List (List ℕ)) (image : List ℕ) → image ≡ over image 0 (so_far blocks 0)
unfolding over so_far
put_none blocks image = refl

pub none_long : (blocks : List (List ℕ)) → length (so_far blocks 0) ≡ 512 * 0
unfolding so_far
none_long blocks = refl

pub more_long : (blocks : List (List ℕ)) (block : List ℕ) (n : ℕ) → block ≡ block_at blocks n → length block ≡ 512 → length (so_far blocks n) ≡ 512 * n → length (so_far blocks (n + 1)) ≡ 512 * (n + 1)
more_long blocks block n is whole long =
    ap length (so_far_more blocks n) ∙ length-append (so_far blocks n) (block_at blocks n)
    ∙ (let b : length (block_at blocks n) ≡ 512 = ap length (sym is) ∙ whole in omega (arith, b, long))

pub put_more : (blocks : List (List ℕ)) (first now new block : List ℕ) (n : ℕ) → now ≡ over first 0 (so_far blocks n) → length (so_far blocks n) ≡ 512 * n → block ≡ block_at blocks n → length block ≡ 512
    → 512 * n + 512 ≤ length first → new ≡ over now (512 * n) block → new ≡ over first 0 (so_far blocks (n + 1))
put_more blocks first now new block n was long is whole inside put =
    put ∙ ap (λ l. over l (512 * n) block) was
    ∙ over-over first 0 (so_far blocks n) block (512 * n) (omega (arith, long)) (omega (arith, long, whole, inside))
    ∙ ap (λ l. over first 0 (so_far blocks n ++ l)) is ∙ ap (over first 0) (sym (so_far_more blocks n))

pub put_all : (blocks : List (List ℕ)) (first now : List ℕ) (n : ℕ) → now ≡ over first 0 (so_far blocks n) → length (so_far blocks n) ≡ 512 * n → SWAP_START ≤ n → n ≤ SWAP_START → length first ≡ 512 * SWAP_START
    → now ≡ disk_text blocks
unfolding over
put_all blocks first now n was long low high whole =
    was ∙ ap (λ l. so_far blocks n ++ l) (drop_all (0 + length (so_far blocks n)) first (omega (arith, long, low, whole))) ∙ append-nil (so_far blocks n) ∙ so_far_all blocks n low high

-- The blocks before the swap area are an image without a fault, and stand for the store that is left.
module _ (blocks : List (List ℕ)) (form : IsDisk blocks) (store : Store) (stands : StandsFor SWAP_START (block_at blocks) store) where
  within : IsWhole (block_at blocks) × ((head (block_at blocks)).f_size ≤ SWAP_START)
  within = within_whole SWAP_START (block_at blocks) (omega arith) stands.sound

  text_same : (k : ℕ) → k < SWAP_START → disk_of (disk_text blocks) k ≡ block_at blocks k
  text_same k low = subst (λ l. disk_of l k ≡ block_at blocks k) (append-nil (disk_text blocks)) (text_block blocks form [] k low)

  text_files : SameFiles (block_at blocks) (disk_of (disk_text blocks))
  text_files = record { blocks = λ k inside. text_same k (let end = within.1 in omega (arith, inside, end)) }

  text_sound : disk_fault SWAP_START (disk_of (disk_text blocks)) ≡ None
  text_sound =
      let size : (head (disk_of (disk_text blocks))).f_size ≡ (head (block_at blocks)).f_size = ap (λ l. (super_of l).f_size) (text_same 1 (omega arith)) in
      let end = within.1 in
      whole_within SWAP_START (disk_of (disk_text blocks)) (files_whole (block_at blocks) (disk_of (disk_text blocks)) within.0 text_files) (omega (arith, size, end))

  pub text_good : image_fault (disk_text blocks) ≡ None
  unfolding image_fault fault_within
  text_good =
      ap (λ n. first_some (when (nat_lt DISK_BYTES n) TooLong ∷ disk_fault SWAP_START (disk_of (disk_text blocks)) ∷ [])) (text_long blocks form)
      ∙ ap (λ f. first_some (None ∷ f ∷ [])) text_sound

  same_store : record store { mark = false } ≡ store_of (disk_of (disk_text blocks))
  same_store = stands.same ∙ sym (files_store (block_at blocks) (disk_of (disk_text blocks)) within.0 text_files)

  pub text_nodes : count_by is_some (store_of (disk_of (disk_text blocks))).nodes ≡ count_by is_some store.nodes
  text_nodes = ap (λ (s : Store). count_by is_some s.nodes) (sym same_store)

  pub text_room : (store_of (disk_of (disk_text blocks))).room ≡ store.room
  text_room = ap (λ (s : Store). s.room) (sym same_store)
