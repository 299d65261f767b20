-- A file takes the blocks on the way to one of its data blocks: file system(V) of the UNIX Programmer's Manual, and bmap in
-- Lions' Commentary, `subr.c`.
use Rattle.std.specs.Prelude.{ℕ, Bool, true, false, ◌+◌, ◌-◌, ◌*◌, ◌==◌, if◌then◌else◌, List, [], ◌∷◌, ◌++◌, length, replicate, slice_set, count_by, bit_or}
use Rattle.bmap_path.specs.Path.{path_of}
use Rattle.bmap_path.specs.declared.BlockName.{BlockName}
use Rattle.bmap_path.specs.declared.BlockName.TheVariants.{Data, Ind, Dbl}
use Rattle.fs_codec.specs.Fields.{Inode}
use Rattle.fs_codec.specs.Modes.{is_large}
use Rattle.fs_codec.specs.Disk.{Disk}
use Rattle.fs_codec.specs.Held.{address}
use Rattle.fs_codec.specs.Store.{Node, rank, holds}
use Rattle.fs_codec.specs.declared.layout.TheConstants.{BLOCK_SIZE}
use Rattle.fs_codec.specs.declared.modes.TheConstants.{ILARG}

-- the bytes of a file that takes a block: a data block is all zeros, and they reach at least to its end
abbrev pub grown : List ℕ → BlockName → List ℕ
grown body (Data n) = body ++ replicate (BLOCK_SIZE * (n + 1) - length body) 0
grown body (Ind k) = body
grown body Dbl = body

-- A small file becomes large with its first indirect block.
abbrev pub mode_with : ℕ → BlockName → ℕ
mode_with mode (Data n) = mode
mode_with mode (Ind k) = if is_large mode then mode else bit_or mode ILARG
mode_with mode Dbl = mode

-- a file that takes the block of a name
abbrev pub gained : Node → BlockName → Node
gained node name = record node {
  mode = mode_with node.mode name;
  held = slice_set node.held (rank name) true;
  body = grown node.body name;
}

-- what a file has come to, how many blocks are free now, and whether all names were there or could be taken
pub record Touching : Type 0 where
  pub node : Node
  pub room : ℕ
  pub is_done : Bool

-- The names that are missing are taken in order, while there is room.
abbrev pub take_names : List BlockName → Node → ℕ → Touching
take_names [] node room = record { node = node; room = room; is_done = true }
take_names (name ∷ names) node room =
    if holds node name then take_names names node room else
    (if room == 0 then record { node = node; room = room; is_done = false } else
    take_names names (gained node name) (room - 1))

-- a file that is to have data block n
abbrev pub touching : Node → ℕ → ℕ → Touching
touching node room n = take_names (path_of (is_large node.mode) n) node room

-- how many blocks an inode lacks on the way to its data block n
abbrev pub missing : Disk → Inode → ℕ → ℕ
missing disk node n = count_by (λ name. address disk node name == 0) (path_of (is_large node.mode) n)
