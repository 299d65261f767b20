-- The store: what a file system is to those who use it, without the numbers of blocks.
use Rattle.std.specs.Prelude.{ℕ, ◌+◌, Bool, false, List, Option, None, slice_index_or}
use Rattle.bmap_path.specs.declared.BlockName.{BlockName}
use Rattle.bmap_path.specs.declared.BlockName.TheVariants.{Data, Ind, Dbl}

-- A node is an inode that is used. `mode` is the whole word. `held` tells of each name, by its rank, whether the node holds
-- the block; a device holds none, and only a device has a `device`. `body` is the bytes of the file up to the end of its last
-- block, with zeros for blocks that it does not hold.
pub record Node : Type 0 where
  pub mode : ℕ
  pub nlink : ℕ
  pub uid : ℕ
  pub gid : ℕ
  pub size : ℕ
  pub device : ℕ
  pub actime : ℕ
  pub modtime : ℕ
  pub held : List Bool
  pub body : List ℕ

-- `nodes` are by their numbers, of which there are `count`, from 1 on. `room` is the number of free blocks, `spare` the numbers
-- that the super-block means as free inodes, `stamp` its time; `mark` says whether it has changed since.
pub record Store : Type 0 where
  pub nodes : List (Option Node)
  pub count : ℕ
  pub room : ℕ
  pub spare : List ℕ
  pub stamp : ℕ
  pub mark : Bool

abbrev pub node_numbered : Store → ℕ → Option Node
node_numbered store i = slice_index_or store.nodes i None

-- The 67,328 data blocks that a file may have come first, then the 263 indirect blocks, then the double indirect block.
abbrev pub rank : BlockName → ℕ
rank (Data n) = n
rank (Ind k) = 67328 + k
rank Dbl = 67591

abbrev pub holds : Node → BlockName → Bool
holds node name = slice_index_or node.held (rank name) false
