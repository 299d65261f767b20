-- What a kernel is to its caller.
use Rattle.std.specs.Prelude.{ℕ, List}
use Rattle.fs_nodes.specs.Disks.{Disks}
use Rattle.fs_nodes.specs.FileSystem.{SameAroundEach}
use Rattle.image_keep.specs.Kept.{Kept}
use Rattle.abstract_unix.specs.Unix.{System, Phase}

-- A system, what core and the swap area keep and the bytes of both, the blocks that the kernel reads and writes, and how far
-- its run has come. `stored` is what its disk has of the blocks.
pub record KernelState : Type 0 where
  pub system : System
  pub kept : Kept
  pub core : List ℕ
  pub swap : List ℕ
  pub blocks : Disks (List (List ℕ))
  pub stored : Disks (List (List ℕ))
  pub phase : Phase

-- What no change of files changes on the disk of a kernel is the same.
abbrev pub KeepsRest : KernelState → KernelState → Type 0
KeepsRest old new = SameAroundEach old.blocks new.blocks
