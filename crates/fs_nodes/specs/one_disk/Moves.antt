-- What a read or a write of an inode's file comes to.
use Rattle.std.specs.Prelude.{◌≡◌, ◌≢◌, ◌≤◌, ℕ, Bool, true, false, not, ◌||◌, ◌==◌, List, length, slice_set, Option, Some, None}
use Rattle.v6_base.specs.declared.errno.Errno.{Errno}
use Rattle.fs_codec.specs.Fields.{Inode}
use Rattle.fs_codec.specs.Modes.{file_type, is_device, holds_blocks}
use Rattle.fs_codec.specs.Disk.{inode_count}
use Rattle.fs_codec.specs.Held.{addresses}
use Rattle.fs_codec.specs.Store.{Store}
use Rattle.fs_laws.specs.Numbers.{with_node}
use Rattle.fs_codec.specs.Stands.{node_of}
use Rattle.fs_laws.specs.Chain.{free}
use Rattle.fs_laws.specs.Whole.{IsApart}
use Rattle.fs_laws.specs.Touch.{touching}
use Rattle.fs_laws.specs.Pieces.{Moving, with_bytes}
pub use Rattle.fs_laws.specs.Shown.{file_of}
use Rattle.buf_cache.specs.Blocks.{IsDisk}
use Rattle.fs_blocks.specs.State.{State, disk, IsVolume}
use Rattle.fs_blocks.specs.Touch.{MovesBlocks}
use Rattle.fs_nodes.specs.declared.one_disk.table.Referenced.{Referenced}
use Rattle.fs_laws.specs.Rest.{SameAround}
use Rattle.fs_nodes.specs.one_disk.FileSystem.{store_now}
use Rattle.fs_nodes.specs.one_disk.Inodes.{Carries}
use Rattle.fs_nodes.specs.one_disk.Table.{references_in, seen, IsNodes, IsHeld}

-- a read or a write of an inode's file that has come so far
abbrev pub moving : {Memory : Type 0} → State → Inode → Memory → ℕ → Moving Memory
moving s node memory done = record { node = file_of (disk s) node; room = length (free (disk s)); memory = memory; done = done; error = None }

-- A volume, an inode, a memory and an answer are what a read or a write has come to.
pub record Comes {Memory : Type 0} (s : State) (inode : Inode) (m : Moving Memory) (bytes : Memory) (moved : ℕ) (refusal : Option Errno) : Type 0 where
  pub node : node_of (disk s) inode ≡ Some m.node
  pub room : length (free (disk s)) ≡ m.room
  pub memory : bytes ≡ m.memory
  pub done : moved ≡ m.done
  pub error : refusal ≡ m.error

-- A file of a volume, whose blocks are apart.
pub record IsFile (s : State) (node : Inode) : Type 0 where
  pub blocks : IsDisk s.blocks
  pub sound : IsVolume s.blocks s.head
  pub long : length node.addr ≡ 8
  pub apart : IsApart (disk s) (addresses (disk s) node)
  pub holds : holds_blocks node.mode ≡ true

-- What a touch leaves: an inode whose node is what the touch makes of its node.
pub record Touched (old : State) (node : Inode) (n : ℕ) (new : State) (next : Inode) (is_done : Bool) : Type 0 where
  pub moves : MovesBlocks old node new next
  pub long : length next.addr ≡ 8
  pub used : next.mode ≢ 0
  pub file : is_device next.mode ≡ false
  pub type : file_type next.mode ≡ file_type node.mode
  pub comes : (touching (file_of (disk old) node) (length (free (disk old))) n).node ≡ file_of (disk new) next
  pub room : (touching (file_of (disk old) node) (length (free (disk old))) n).room ≡ length (free (disk new))
  pub fewer : length (free (disk new)) ≤ length (free (disk old))
  pub done : (touching (file_of (disk old) node) (length (free (disk old))) n).is_done ≡ is_done

-- Bytes are written into a block that an inode's file has.
pub record Wrote (old : State) (node : Inode) (at : ℕ) (bytes : List ℕ) (new : State) (next : Inode) : Type 0 where
  pub moves : MovesBlocks old node new next
  pub comes : file_of (disk new) next ≡ with_bytes (file_of (disk old) node) at bytes
  pub room : free (disk new) ≡ free (disk old)

-- A file has taken blocks, and is of the type that it was of.
pub record Grew (old : State) (node : Inode) (new : State) (next : Inode) : Type 0 where
  pub moves : MovesBlocks old node new next
  pub type : file_type next.mode ≡ file_type node.mode

-- an inode with other times
pub record Dated (node next : Inode) : Type 0 where
  pub mode : next.mode ≡ node.mode
  pub addr : next.addr ≡ node.addr
  pub size : next.size ≡ node.size

-- What a read or a write of an inode's file leaves: what it has come to, and an inode that is still to be written.
pub record Ends {Memory : Type 0} (old : State) (inode : Inode) (new : State) (next : Inode) (m : Moving Memory) (bytes : Memory) (moved : ℕ) (refusal : Option Errno) : Type 0 where
  pub comes : Comes new next m bytes moved refusal
  pub carries : Carries old inode new next
  pub used : next.mode ≢ 0
  pub type : file_type next.mode ≡ file_type inode.mode
  pub changed : new.changed ≡ old.changed || not (length (free (disk new)) == length (free (disk old)))

-- What a call comes to that reads or writes the file of a number.
pub record Moves {Memory : Type 0} (old : Store) (i : ℕ) (new : Store) (m : Moving Memory) (bytes : Memory) (moved : ℕ) (refusal : Option Errno) : Type 0 where
  pub store : new ≡ with_node old i m.node m.room
  pub memory : bytes ≡ m.memory
  pub done : moved ≡ m.done
  pub error : refusal ≡ m.error

-- What a file system comes to where the blocks of a file have moved and its inode has been written.
pub record Carried (old new fin : State) (entries after : List Referenced) (i : ℕ) (next : Inode) : Type 0 where
  pub nodes : IsNodes fin after
  pub references : references_in (inode_count (disk fin)) after ≡ references_in (inode_count (disk old)) entries
  pub store : store_now fin ≡ record (store_now old) {
    nodes = slice_set (store_now old).nodes i (node_of (disk new) next);
    room = length (free (disk new));
    mark = new.changed;
  }
  pub rest : SameAround old.blocks fin.blocks

-- The same where the inode is in the table, and is written later.
pub record CarriesLate (old new : State) (entries after : List Referenced) (i : ℕ) (next : Inode) : Type 0 where
  pub held : IsHeld new after
  pub carried : Carried (seen old entries) (seen new entries) (seen new after) entries after i next
