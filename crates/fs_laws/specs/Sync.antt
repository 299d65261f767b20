-- What a sync of the super-block leaves on the disk.
use Rattle.std.specs.Prelude.{◌≡◌, ◌≢◌, ℕ}
use Rattle.fs_codec.specs.Disk.{Disk, head}
use Rattle.fs_laws.specs.Chain.{free, IsSound, SameButFree}

-- Two disks that differ in the super-block alone, and there in nothing that a file system is: in its four flags, in the
-- bytes behind it, and in the numbers of a group of free blocks, where the free list is the same.
pub record ReadsAlike (old new : Disk) : Type 0 where
  pub was_sound : IsSound old
  pub is_sound : IsSound new
  pub super : SameButFree (head old) (head new)
  pub free : free new ≡ free old
  pub blocks : (k : ℕ) → k ≢ 1 → new k ≡ old k
