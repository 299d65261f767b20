-- The store that a disk's blocks stand for.
use Rattle.std.specs.Prelude.{◌≡◌, ℕ, zero, suc, Bool, false, not, ◌+◌, ◌-◌, ◌&&◌, ◌==◌, nat_lt, if◌then◌else◌, List, ◌∷◌, length, map, flat_map, take, replicate, slice_index, Option, Some, None}
use Rattle.std.specs.List.{range_with_len}
use Rattle.fs_codec.specs.Fields.{Inode}
use Rattle.fs_codec.specs.Modes.{is_device, holds_blocks}
use Rattle.fs_codec.specs.Disk.{Disk, head, inode, inode_count, inode_numbers}
use Rattle.fs_codec.specs.declared.layout.TheConstants.{BLOCK_SIZE}
use Rattle.fs_codec.specs.Free.{free_walk}
use Rattle.fs_codec.specs.Held.{address}
use Rattle.bmap_path.specs.declared.BlockName.{BlockName}
use Rattle.bmap_path.specs.declared.BlockName.TheVariants.{Data, Ind, Dbl}
use Rattle.fs_codec.specs.Faults.{disk_fault}
use Rattle.fs_codec.specs.Store.{Node, Store}

-- the name of a rank
abbrev pub name_of : ℕ → BlockName
name_of r = if nat_lt r 67328 then Data r else (if nat_lt r 67591 then Ind (r - 67328) else Dbl)

abbrev pub is_held : Disk → Inode → BlockName → Bool
is_held disk node name = holds_blocks node.mode && not (address disk node name == 0)

unfoldable pub held_of : Disk → Inode → List Bool
held_of disk node = map (λ r. is_held disk node (name_of r)) (range_with_len 0 67592)

-- one more than the greatest number below n that passes a test, or 0
abbrev pub one_past : (ℕ → Bool) → ℕ → ℕ
one_past test zero = 0
one_past test (suc n) = if test n then n + 1 else one_past test n

-- the bytes of data block n of a file
abbrev pub data_of : Disk → Inode → ℕ → List ℕ
data_of disk node n =
    if is_held disk node (Data n) then disk (address disk node (Data n)) else replicate BLOCK_SIZE 0

unfoldable pub body_of : Disk → Inode → List ℕ
body_of disk node =
    flat_map (data_of disk node) (range_with_len 0 (one_past (λ n. is_held disk node (Data n)) 67328))

-- the node of an inode, where it is used
abbrev pub node_of : Disk → Inode → Option Node
node_of disk node = if node.mode == 0 then None else Some (record {
  mode = node.mode;
  nlink = node.nlink;
  uid = node.uid;
  gid = node.gid;
  size = node.size;
  device = if is_device node.mode then slice_index node.addr 0 else 0;
  actime = node.actime;
  modtime = node.modtime;
  held = held_of disk node;
  body = body_of disk node;
})

-- No node has the number 0.
unfoldable pub store_of : Disk → Store
store_of disk = record {
  nodes = None ∷ map (λ i. node_of disk (inode disk i)) (inode_numbers disk);
  count = inode_count disk;
  room = length (free_walk disk).blocks;
  spare = take (head disk).ninode (head disk).inode;
  stamp = (head disk).time;
  mark = false;
}

-- Blocks without a fault, of a disk whose file system may have so many, stand for a store, of whose mark they say nothing.
pub record StandsFor (limit : ℕ) (disk : Disk) (store : Store) : Type 0 where
  pub sound : disk_fault limit disk ≡ None
  pub same : record store { mark = false } ≡ store_of disk
