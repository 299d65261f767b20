-- A file gains a block.
use Rattle.std.specs.Prelude.{◌≡◌, ◌≢◌, ℕ, ◌+◌, if◌then◌else◌, nat_eq, count_by}
use Rattle.bmap_path.specs.declared.BlockName.{BlockName}
use Rattle.fs_codec.specs.Fields.{Inode}
use Rattle.fs_codec.specs.Disk.{Disk}
use Rattle.fs_codec.specs.Held.{address, addresses}
use Rattle.fs_laws.specs.Chain.{Takes}

-- The first free block becomes the block of this name; every other name keeps its address.
pub record Gains (old : Disk) (node : Inode) (new : Disk) (next : Inode) (p : BlockName) (b : ℕ) : Type 0 where
  pub takes : Takes old b new
  pub here : address new next p ≡ b
  pub others : (q : BlockName) → q ≢ p → address new next q ≡ address old node q
  pub count : (k : ℕ) → k ≢ 0
      → count_by (nat_eq k) (addresses new next) ≡ count_by (nat_eq k) (addresses old node) + (if nat_eq k b then 1 else 0)
