-- What a volume is, and the disk that it stands for.
use Rattle.std.specs.Prelude.{◌≡◌, ◌≢◌, ℕ, Bool, true, false, ◌^◌, ◌<◌, ◌==◌, if◌then◌else◌}
use Rattle.std.specs.Prelude.{List, [], length, replicate, slice_index}
use Rattle.buf_cache.specs.Blocks.{block_at}
use Rattle.buf_cache.specs.Cached.{Cached, cached_blocks}
use Rattle.fs_codec.specs.Fields.{super_of}
use Rattle.fs_codec.specs.Disk.{Disk}
use Rattle.fs_codec.specs.Words.{word, words}
use Rattle.fs_codec.specs.Bytes.{super_bytes}
use Rattle.fs_codec.specs.declared.layout.TheConstants.{BLOCK_SIZE, LIST_SIZE}
use Rattle.fs_laws.specs.Chain.{IsSound, Takes, free}
use Rattle.fs_laws.specs.Sync.{ReadsAlike}
use Rattle.fs_codec.specs.declared.super_block.SuperBlock.{SuperBlock}

-- the blocks of the cache, the super-block in memory, and whether that has changed since it was last read or written
pub record State : Type 0 where
  pub blocks : List (List ℕ)
  pub head : SuperBlock
  pub changed : Bool

-- A volume: its state, and what the disk has of it.
pub record Mounted : Type 0 where
  pub state : State
  pub stored : List (List ℕ)

-- the volume of a cache
abbrev pub mounted : Cached → SuperBlock → Bool → Mounted
mounted cache head changed = record { state = record { blocks = cached_blocks cache; head = head; changed = changed }; stored = cache.disk }

-- Its fields are words and bytes, its two lists have a hundred numbers each, and its time is two words.
pub record Fits (s : SuperBlock) : Type 0 where
  pub i_size : s.i_size < 65536
  pub f_size : s.f_size < 65536
  pub nfree : s.nfree < 65536
  pub ninode : s.ninode < 65536
  pub free_long : length s.free ≡ LIST_SIZE
  pub free : (k : ℕ) → slice_index s.free k < 65536
  pub inode_long : length s.inode ≡ LIST_SIZE
  pub inode : (k : ℕ) → slice_index s.inode k < 65536
  pub flock : s.flock < 256
  pub ilock : s.ilock < 256
  pub fmod : s.fmod < 256
  pub ronly : s.ronly < 256
  pub time : s.time < 2 ^ 32

-- the blocks with the super-block from memory as block 1
abbrev pub disk_with : List (List ℕ) → SuperBlock → Disk
disk_with blocks head n = if n == 1 then super_bytes head else block_at blocks n

abbrev pub disk : State → Disk
disk s = disk_with s.blocks s.head

-- The fields fit, and the free list is sound.
pub record IsVolume (blocks : List (List ℕ)) (head : SuperBlock) : Type 0 where
  pub fits : Fits head
  pub sound : IsSound (disk_with blocks head)

-- The four flags of a super-block mean something in core alone: file system(V). They are 0 here.
pub record HasNoFlags (s : SuperBlock) : Type 0 where
  pub flock : s.flock ≡ 0
  pub ilock : s.ilock ≡ 0
  pub fmod : s.fmod ≡ 0
  pub ronly : s.ronly ≡ 0

-- The super-block on the disk has the sizes that this one has.
pub record SameSizes (blocks : List (List ℕ)) (s : SuperBlock) : Type 0 where
  pub i_size : (super_of (block_at blocks 1)).i_size ≡ s.i_size
  pub f_size : (super_of (block_at blocks 1)).f_size ≡ s.f_size

-- What holds of a volume between its calls. Where the super-block has not changed, the one on the disk says the same.
pub record IsKept (blocks : List (List ℕ)) (head : SuperBlock) (changed : Bool) : Type 0 where
  pub volume : IsVolume blocks head
  pub flags : HasNoFlags head
  pub sizes : SameSizes blocks head
  pub stored : changed ≡ false → ReadsAlike (disk_with blocks head) (block_at blocks)

-- the bytes of a block that has just been taken
unfoldable pub blank : List ℕ
blank = replicate BLOCK_SIZE 0

-- These bytes begin with the count and the numbers of the super-block's group of free blocks: free block list in file
-- system(V).
pub record IsGroup (bytes : List ℕ) (s : SuperBlock) : Type 0 where
  pub count : s.nfree ≡ word bytes 0
  pub numbers : s.free ≡ words bytes 2 LIST_SIZE

-- the first free block is taken and cleared
pub record Allocates (old : State) (b : ℕ) (new : State) : Type 0 where
  pub takes : Takes (disk old) b (disk new)
  pub cleared : block_at new.blocks b ≡ blank
  pub others : (k : ℕ) → k ≢ b → block_at new.blocks k ≡ block_at old.blocks k
  pub changed : new.changed ≡ true

-- There is no free block.
pub record IsFull (old new : State) : Type 0 where
  pub none : free (disk old) ≡ []
  pub still : free (disk new) ≡ []
  pub blocks : new.blocks ≡ old.blocks
  pub changed : new.changed ≡ old.changed

-- The super-block in memory is the one on the disk, with its four flags 0.
abbrev pub opened : SuperBlock → SuperBlock
opened s = record s { flock = 0; ilock = 0; fmod = 0; ronly = 0 }

-- all but the list of free inodes and the flags is the same in two super-blocks
pub record SameButSpare (old new : SuperBlock) : Type 0 where
  pub i_size : new.i_size ≡ old.i_size
  pub f_size : new.f_size ≡ old.f_size
  pub nfree : new.nfree ≡ old.nfree
  pub free : new.free ≡ old.free
  pub time : new.time ≡ old.time

-- the flags are the same in two super-blocks
pub record SameFlags (old new : SuperBlock) : Type 0 where
  pub flock : new.flock ≡ old.flock
  pub ilock : new.ilock ≡ old.ilock
  pub fmod : new.fmod ≡ old.fmod
  pub ronly : new.ronly ≡ old.ronly
