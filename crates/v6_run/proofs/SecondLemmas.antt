-- The text of a second disk reads as its blocks, and is written block by block.
use Rattle.std.proofs.Common.{◌≡◌, ◌+◌, ◌-◌, ◌*◌, ◌<◌, ◌≤◌, ℕ, Option, Some, None, IsSomeAnd, IsSome, List, [], ◌++◌, length, slice_index, refl, sym, ap, ◌∙◌, subst, append_assoc, arith}
use Rattle.std.specs.List.{flat_map, range_with_len}
use Rattle.std.specs.Option.{option_map}
use Rattle.fs_codec.specs.Disk.{Disk, disk_of, head}
use Rattle.fs_codec.specs.Fields.{super_of}
use Rattle.fs_codec.specs.Store.{Store}
use Rattle.fs_codec.specs.Stands.{StandsFor}
use Rattle.fs_codec.specs.declared.layout.TheConstants.{DISK_BLOCKS}
use Rattle.fs_codec.proofs.ImageLemmas.{bytes_by_places}
use Rattle.buf_cache.specs.Blocks.{block_at, blocks_of, IsDisk}
use Rattle.fs_laws.specs.Whole.{IsWhole}
use Rattle.fs_laws.proofs.WholeLemmas.{whole_is, whole_within}
use Rattle.fs_laws.proofs.FreeLemmas.{good_head}
use Rattle.fs_laws.proofs.AgreeLemmas.{SameFiles, files_whole, files_store}
use Rattle.fs_laws.proofs.ImageLemmas.{block_of_image}
use Rattle.fs_laws.specs.Rest.{SameAround}
use Rattle.fs_nodes.specs.Disks.{OfSecond, Between}
use Rattle.fs_nodes.specs.FileSystem.{SecondStands}
use Rattle.take_script.proofs.ListLemmas.{flat_split}
use Rattle.v6_run.specs.Fronts.{HoldsFront}
use Rattle.v6_run.specs.Final.{IsFinalSecond, whole_text, second_text}
use Rattle.v6_run.specs.Outputs.{second_writes}
use Rattle.v6_run.proofs.FinalLemmas.{flat_long, flat_byte, so_far, so_far_more, bytes_more, no_blocks}

-- Each block of its text is the block.
module _ (blocks : List (List ℕ)) (form : IsDisk blocks) where
  each_whole : (j : ℕ) → j < 0 + DISK_BLOCKS → length (block_at blocks j) ≡ 512
  each_whole j low = form.whole j (omega (arith, low))

  whole_long : length (whole_text blocks) ≡ 512 * DISK_BLOCKS
  unfolding whole_text
  whole_long = flat_long (block_at blocks) 0 DISK_BLOCKS each_whole

  whole_byte : (n k : ℕ) → n < DISK_BLOCKS → k < 512 → slice_index (whole_text blocks) (512 * n + k) ≡ slice_index (block_at blocks n) k
  unfolding whole_text
  whole_byte n k low small = let first : 0 + n ≡ n = omega arith in
      flat_byte (block_at blocks) 0 DISK_BLOCKS n k each_whole low small ∙ ap (λ j. slice_index (block_at blocks j) k) first

  whole_block : (n : ℕ) → n < DISK_BLOCKS → disk_of (whole_text blocks) n ≡ block_at blocks n
  unfolding disk_of
  whole_block n low = sym (bytes_by_places (whole_text blocks) (block_at blocks n) (512 * n) 512 (form.whole n low) (λ k small. sym (whole_byte n k low small)))

-- The text of the blocks that stand for a store is what a run leaves of a second disk.
pub final_second : (old new : List (List ℕ)) (store : Store) → SameAround old new → IsDisk new → StandsFor DISK_BLOCKS (block_at new) store
    → IsFinalSecond (block_at old) store (whole_text new)
final_second old new store rest form stands =
    let whole : IsWhole (block_at new) = whole_is (block_at new) stands.sound in
    let end = (good_head (head (block_at new)) whole.sound.super).end in
    let disk : Disk = disk_of (whole_text new) in
    let text = whole_block new form in
    let files : SameFiles (block_at new) disk = record { blocks = λ k inside. text k (omega (arith, inside, end)) } in
    let same_size : (head disk).f_size ≡ (head (block_at new)).f_size = ap (λ l. (super_of l).f_size) (text 1 (omega arith)) in
    let long = whole_long new form in
    record {
      long = omega (arith, long);
      stands = record {
        sound = whole_within DISK_BLOCKS disk (files_whole (block_at new) disk whole files) (omega (arith, same_size, end));
        same = stands.same ∙ sym (files_store (block_at new) disk whole files);
      };
      boot = text 0 (omega arith) ∙ rest.boot;
      size = same_size ∙ rest.f_size;
      behind = λ n past inside. text n inside ∙ rest.behind n past;
    }

-- It is left, where there is one.
pub second_left : (first last : Option (List (List ℕ))) (store : Option Store) → Between SameAround first last → OfSecond IsDisk last → SecondStands last store
    → second_writes (option_map block_at first) store (second_text last)
second_left None None None rest form stands = refl
second_left None None (Some store) rest form stands = absurd stands
second_left None (Some last) store rest form stands = absurd rest
second_left (Some first) None store rest form stands = absurd rest
second_left (Some first) (Some last) None rest form stands = absurd stands
second_left (Some first) (Some last) (Some store) rest form stands = final_second first last store rest form stands

-- it is one over another disk with the same blocks
abbrev pub SameDisk : Disk → Disk → Type 0
SameDisk e d = (n : ℕ) → n < DISK_BLOCKS → e n ≡ d n

second_same : (d e : Disk) (store : Store) (text : List ℕ) → SameDisk e d → IsFinalSecond e store text → IsFinalSecond d store text
second_same d e store text same final =
    let first : (head e).f_size ≡ (head d).f_size = ap (λ l. (super_of l).f_size) (same 1 (omega arith)) in
    record {
      long = final.long;
      stands = final.stands;
      boot = final.boot ∙ same 0 (omega arith);
      size = final.size ∙ first;
      behind = λ n past inside. final.behind n (omega (arith, past, first)) inside ∙ same n inside;
    }

pub second_over : (d e : Option Disk) (store : Option Store) (text : List ℕ) → Between SameDisk e d → second_writes e store text → second_writes d store text
second_over None None store text same fits = fits
second_over None (Some e) store text same fits = absurd same
second_over (Some d) None store text same fits = absurd same
second_over (Some d) (Some e) None text same fits = fits
second_over (Some d) (Some e) (Some store) text same fits = second_same d e store text same fits

-- a kernel has the second disk of its image
pub same_second : (image : Option (List ℕ)) (blocks : Option (List (List ℕ))) → blocks ≡ option_map blocks_of image
    → Between SameDisk (option_map block_at blocks) (option_map disk_of image)
same_second image blocks is = subst (λ b. Between SameDisk (option_map block_at b) (option_map disk_of image)) (sym is) (base image)
  where
    base : (image : Option (List ℕ)) → Between SameDisk (option_map block_at (option_map blocks_of image)) (option_map disk_of image)
    base None = tt
    base (Some bytes) = block_of_image bytes

-- The blocks one after the other.
whole_is_all : (blocks : List (List ℕ)) (n : ℕ) → DISK_BLOCKS ≤ n → n ≤ DISK_BLOCKS → so_far blocks n ≡ whole_text blocks
unfolding so_far whole_text
whole_is_all blocks n low high = let all : n ≡ DISK_BLOCKS = omega (arith, low, high) in ap (λ m. flat_map (block_at blocks) (range_with_len 0 m)) all

-- those from one on
others : List (List ℕ) → ℕ → List ℕ
others blocks n = flat_map (block_at blocks) (range_with_len (0 + n) (DISK_BLOCKS - n))

whole_split : (blocks : List (List ℕ)) (n : ℕ) → n ≤ DISK_BLOCKS → whole_text blocks ≡ so_far blocks n ++ others blocks n
unfolding so_far whole_text others
whole_split blocks n low =
    let all : DISK_BLOCKS ≡ n + (DISK_BLOCKS - n) = omega (arith, low) in
    ap (λ m. flat_map (block_at blocks) (range_with_len 0 m)) all ∙ flat_split (block_at blocks) 0 n (DISK_BLOCKS - n)

-- a front of one block more is a front of all
whole_front : (blocks : List (List ℕ)) (old now new : List ℕ) (n : ℕ) → n < DISK_BLOCKS → now ≡ old ++ so_far blocks n → HoldsFront now (block_at blocks n) new
    → HoldsFront old (whole_text blocks) new
whole_front blocks old now new n low was front = record {
  part = so_far blocks n ++ front.part;
  rest = front.rest ++ others blocks (n + 1);
  split =
      whole_split blocks (n + 1) (omega (arith, low))
      ∙ ap (λ l. l ++ others blocks (n + 1)) (so_far_more blocks n ∙ ap (λ l. so_far blocks n ++ l) front.split ∙ sym (append_assoc (so_far blocks n) front.part front.rest))
      ∙ append_assoc (so_far blocks n ++ front.part) front.rest (others blocks (n + 1));
  holds = front.holds ∙ ap (λ l. l ++ front.part) was ∙ append_assoc old (so_far blocks n) front.part;
}

-- The same of a second disk that there is.
abbrev pub second_so_far : Option (List (List ℕ)) → ℕ → List ℕ
second_so_far None n = []
second_so_far (Some blocks) n = so_far blocks n

pub no_second : (stored : Option (List (List ℕ))) (old : List ℕ) → IsSome stored → old ≡ old ++ second_so_far stored 0
no_second None old some = absurd (cc)
no_second (Some blocks) old some = no_blocks blocks old

pub second_more : (stored : Option (List (List ℕ))) (old now new piece : List ℕ) (n : ℕ) → now ≡ old ++ second_so_far stored n
    → IsSomeAnd stored (λ blocks. piece ≡ block_at blocks n) → new ≡ now ++ piece → new ≡ old ++ second_so_far stored (n + 1)
second_more None old now new piece n was is more = absurd is
second_more (Some blocks) old now new piece n was is more = bytes_more blocks old now new piece n was is more

pub second_front : (stored : Option (List (List ℕ))) (old now new piece : List ℕ) (n : ℕ) → n < DISK_BLOCKS → now ≡ old ++ second_so_far stored n
    → IsSomeAnd stored (λ blocks. piece ≡ block_at blocks n) → HoldsFront now piece new → HoldsFront old (second_text stored) new
second_front None old now new piece n low was is front = absurd is
second_front (Some blocks) old now new piece n low was is front =
    whole_front blocks old now new n low was (subst (λ l. HoldsFront now l new) is front)

pub second_all : (stored : Option (List (List ℕ))) (n : ℕ) → IsSome stored → DISK_BLOCKS ≤ n → n ≤ DISK_BLOCKS → second_so_far stored n ≡ second_text stored
second_all None n some low high = absurd (cc)
second_all (Some blocks) n some low high = whole_is_all blocks n low high
