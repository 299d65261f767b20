-- A volume on the disk of an image is what a kernel begins with.
use Rattle.std.proofs.Common.{◌≡◌, ◌≤◌, if◌then◌else◌, ◌||◌, nat_lt, ℕ, Bool, true, false, List, replicate, slice_index, Option, Some, None, is_some, Result, Ok, Err, IsOk, IfOk, IfErr, inl, inr, refl, sym, ap, ◌∙◌, subst, arith}
use Rattle.std.proofs.lemmas.Bool.{cases_lt}
use Rattle.std.proofs.lemmas.List.{get_or-replicate, get_or_past, length-replicate}
use Rattle.fs_codec.specs.Fields.{super_of}
use Rattle.fs_codec.specs.Disk.{Disk, disk_of, head}
use Rattle.fs_codec.specs.Faults.{disk_fault, fault_within, image_fault}
use Rattle.fs_codec.specs.declared.fault.ImageFault.{ImageFault}
use Rattle.fs_codec.specs.Stands.{store_of, StandsFor}
use Rattle.fs_codec.specs.Store.{Store}
use Rattle.fs_codec.specs.declared.layout.TheConstants.{DISK_BLOCKS, SWAP_START}
use Rattle.fs_codec.specs.declared.super_block.SuperBlock.{SuperBlock}
use Rattle.buf_cache.specs.Blocks.{block_at, blocks_of}
use Rattle.fs_laws.specs.Whole.{IsWhole}
use Rattle.fs_laws.proofs.ImageLemmas.{block_of_image, image_within, image_files, image_whole}
use Rattle.fs_laws.specs.Sync.{ReadsAlike}
use Rattle.fs_laws.proofs.WholeLemmas.{whole_is, whole_has_none, whole_within}
use Rattle.fs_laws.proofs.SyncLemmas.{alike_fault, alike_store}
use Rattle.fs_laws.proofs.AgreeLemmas.{files_store}
use Rattle.fs_blocks.specs.State.{State, disk, opened}
use Rattle.fs_blocks.specs.Store.{store_now}
use Rattle.fs_nodes.specs.Disks.{Disks}
use Rattle.fs_nodes.specs.Keys.{Stores, key_count}
use Rattle.fs_nodes.proofs.SecondImage.{second_within, second_files, second_whole}
use Rattle.abstract_unix.specs.Unix.{System}
use Rattle.abstract_unix.specs.Runs.{system_with, system_of, stores_of, is_second_bad, boots}
use Rattle.unix_core.specs.declared.boot.SecondFault.TheVariants.{Nodes}
use Rattle.unix_core.specs.Boots.{fault_or_count, second_fault_of}

clean_store : (volume : State) → volume.changed ≡ false → store_now volume ≡ store_of (disk volume)
unfolding store_now store_of
clean_store volume clean = ap (λ t. record (store_of (disk volume)) { mark = t }) clean

module _ (bytes : List ℕ) (good : image_fault bytes ≡ None) where
  module _ (volume : State) (blocks : volume.blocks ≡ blocks_of bytes) (clean : volume.changed ≡ false)
      (stored : volume.changed ≡ false → ReadsAlike (disk volume) (block_at volume.blocks)) where
    on_blocks : IsWhole (block_at volume.blocks)
    on_blocks = subst (λ l. IsWhole (block_at l)) (sym blocks) (image_whole bytes good)

    pub volume_sound : disk_fault DISK_BLOCKS (disk volume) ≡ None
    volume_sound = sym (alike_fault DISK_BLOCKS (disk volume) (block_at volume.blocks) (stored clean)) ∙ whole_has_none (block_at volume.blocks) on_blocks

    pub volume_store : store_now volume ≡ store_of (disk_of bytes)
    volume_store =
        clean_store volume clean ∙ sym (alike_store (disk volume) (block_at volume.blocks) (stored clean) (whole_is (disk volume) volume_sound))
        ∙ ap (λ l. store_of (block_at l)) blocks ∙ files_store (disk_of bytes) (block_at (blocks_of bytes)) (image_within bytes good).0 (image_files bytes good)

    pub volume_time : volume.head ≡ opened (super_of (block_at (blocks_of bytes) 1)) → volume.head.time ≡ (head (disk_of bytes)).time
    volume_time is = ap (λ (h : SuperBlock). h.time) is ∙ ap (λ l. (super_of l).time) (block_of_image bytes 1 (omega arith))

    pub volume_stamp : volume.head ≡ opened (super_of (block_at (blocks_of bytes) 1)) → volume.head.time ≡ (store_of (disk_of bytes)).stamp
    unfolding store_of
    volume_stamp is = volume_time is

-- The volume of a second disk, when it has been opened.
module _ (bytes : List ℕ) (good : fault_within DISK_BLOCKS bytes ≡ None) (blocks : List (List ℕ)) (volume : State) (is : blocks ≡ blocks_of bytes) where
  second_blocks : IsWhole (block_at blocks)
  second_blocks = subst (λ l. IsWhole (block_at l)) (sym is) (second_whole bytes good)

  pub second_volume_sound : disk_fault DISK_BLOCKS (disk volume) ≡ disk_fault DISK_BLOCKS (block_at blocks) → disk_fault DISK_BLOCKS (disk volume) ≡ None
  second_volume_sound faults = faults ∙ whole_has_none (block_at blocks) second_blocks

  pub second_volume_store : volume.changed ≡ false → (IsWhole (block_at blocks) → store_of (disk volume) ≡ store_of (block_at blocks)) → store_now volume ≡ store_of (disk_of bytes)
  second_volume_store clean stands =
      clean_store volume clean ∙ stands second_blocks ∙ ap (λ l. store_of (block_at l)) is
      ∙ files_store (disk_of bytes) (block_at (blocks_of bytes)) (second_within bytes good).0 (second_files bytes good)

-- what there is of one disk alone, and of two
abbrev pub alone : {X : Type 0} → X → Disks X
alone x = record { root = x; second = None }

abbrev pub both : {X : Type 0} → X → X → Disks X
both x y = record { root = x; second = Some y }

-- Nobody is referred to.
pub none_of : (n ino : ℕ) → slice_index (replicate n 0) ino ≡ 0
none_of n ino = elim (cases_lt ino n) [
  | inl low ↦ get_or-replicate n ino 0 0 low
  | inr past ↦ get_or_past (replicate n 0) ino 0 (let long = length-replicate {A = ℕ} n 0 in omega (arith, long, past))
]

-- A second image is bad exactly where something is wrong with it.
pub second_fine : (image bytes : List ℕ) → second_fault_of image bytes ≡ None → is_second_bad image (Some bytes) ≡ false
second_fine image bytes = by (fault_within DISK_BLOCKS bytes) (nat_lt 65535 (key_count (stores_of image (Some bytes)))) refl
  where
    by : (f : Option ImageFault) (many : Bool) → nat_lt 65535 (key_count (stores_of image (Some bytes))) ≡ many
        → fault_or_count f (key_count (stores_of image (Some bytes))) ≡ None → (is_some f || nat_lt 65535 (key_count (stores_of image (Some bytes)))) ≡ false
    by (Some fault) many is none = absurd (cc none)
    by None true is none = absurd (let some : Some (Nodes (key_count (stores_of image (Some bytes)))) ≡ None =
        sym (ap (λ b. if b then Some (Nodes (key_count (stores_of image (Some bytes)))) else None) is) ∙ none in cc some)
    by None false is none = is

-- and it has no fault by itself
pub second_good : (image bytes : List ℕ) → second_fault_of image bytes ≡ None → fault_within DISK_BLOCKS bytes ≡ None
second_good image bytes = by (fault_within DISK_BLOCKS bytes)
  where
    by : (f : Option ImageFault) → fault_or_count f (key_count (stores_of image (Some bytes))) ≡ None → f ≡ None
    by None none = refl
    by (Some fault) none = absurd (cc none)

-- Images without a fault are booted.
pub boots_as : (image : List ℕ) (second : Option (List ℕ)) (core lines : ℕ) (store : Stores) (m : System) → image_fault image ≡ None
    → is_second_bad image second ≡ false → store ≡ stores_of image second
    → m ≡ system_with store core lines → boots image second core lines ≡ Some m
boots_as image second core lines store m none fine is system =
    ap (λ f. if is_some f || is_second_bad image second then None else Some (system_of image second core lines)) none
    ∙ ap (λ b. if b then None else Some (system_of image second core lines)) fine
    ∙ ap (λ (s : Stores). Some (system_with s core lines)) (sym is) ∙ ap (λ (n : System). Some n) (sym system)

-- A file system that keeps clear of the swap area has no fault there either.
pub stands_below : (d : Disk) (store : Store) → (head d).f_size ≤ SWAP_START → StandsFor DISK_BLOCKS d store → StandsFor SWAP_START d store
stands_below d store low stands = record { sound = whole_within SWAP_START d (whole_is d stands.sound) low; same = stands.same }

-- what is said of a value says something else of it
pub ok_mapped : {T E : Type 0} (r : Result T E) (P Q : T → Type 0) → ((x : T) → P x → Q x) → IfOk r P → IfOk r Q
ok_mapped (Ok x) P Q follows holds = follows x holds
ok_mapped (Err e) P Q follows holds = tt

-- where there is a value, anything is so of an error
pub no_error : {T E : Type 0} (r : Result T E) (P : E → Type 0) → IsOk r → IfErr r P
no_error (Ok x) P made = tt
no_error (Err e) P made = absurd (cc made)
