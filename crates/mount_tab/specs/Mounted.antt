-- The numbers by which the inodes of two disks are known, and the directory that the second one covers: mount(II).
use Rattle.std.specs.Prelude.{ℕ, Bool, false, not, ◌+◌, ◌-◌, ◌&&◌, ◌==◌, nat_le, if◌then◌else◌, Option, Some, None, IsSome}

-- How many inodes each disk has, 0 for a second one that is not there, and the key of the directory that is covered.
pub record MountTable : Type 0 where
  pub first : ℕ
  pub second : ℕ
  pub covered : Option ℕ

-- The second disk is device 1.
abbrev pub count_on : MountTable → ℕ → ℕ
count_on m dev = if dev == 0 then m.first else m.second

-- A disk's inodes are numbered from 1 on.
abbrev pub is_number : MountTable → ℕ → ℕ → Bool
is_number m dev ino = nat_le 1 ino && nat_le ino (count_on m dev)

-- The second disk's inodes are known by the numbers after those of the first.
abbrev pub key_of : MountTable → ℕ → ℕ → ℕ
key_of m dev ino = if dev == 0 then ino else m.first + ino

-- the device and the number of a key
abbrev pub split_of : MountTable → ℕ → ℕ × ℕ
split_of m key = if nat_le key m.first then (0, key) else (1, key - m.first)

abbrev pub is_the : Option ℕ → ℕ → Bool
is_the None key = false
is_the (Some covered) key = covered == key

-- Who comes to the directory that is covered is at the root of the second disk.
abbrev pub crossed : MountTable → ℕ → ℕ
crossed m key = if is_the m.covered key then m.first + 1 else key

abbrev pub has_second : MountTable → Bool
has_second m = not (m.second == 0)

abbrev pub IsCovered : MountTable → Type 0
IsCovered m = IsSome m.covered
