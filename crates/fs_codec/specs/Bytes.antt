-- Words, super-blocks, inodes and directory entries written out as bytes: file system(V) and directory(V) of the UNIX
-- Programmer's Manual.
use Rattle.std.specs.Prelude.{ℕ, ◌/◌, ◌%◌, List, [], ◌∷◌, ◌++◌}
use Rattle.fs_codec.specs.Fields.{Inode}
use Rattle.fs_codec.specs.declared.super_block.SuperBlock.{SuperBlock}
use Rattle.fs_codec.specs.declared.entry.DirEntry.{DirEntry}

-- words, the low byte of each first
unfoldable pub bytes_of : List ℕ → List ℕ
bytes_of [] = []
bytes_of (word ∷ words) = word % 256 ∷ word / 256 ∷ bytes_of words

-- a number in two words, the high word first
abbrev pub long_words : ℕ → List ℕ
long_words number = number / 65536 ∷ number % 65536 ∷ []

-- 416 bytes
unfoldable pub super_bytes : SuperBlock → List ℕ
super_bytes s =
    bytes_of (s.i_size ∷ s.f_size ∷ s.nfree ∷ []) ++ bytes_of s.free
    ++ bytes_of (s.ninode ∷ []) ++ bytes_of s.inode
    ++ (s.flock ∷ s.ilock ∷ s.fmod ∷ s.ronly ∷ [])
    ++ bytes_of (long_words s.time)

-- 32 bytes
unfoldable pub inode_bytes : Inode → List ℕ
inode_bytes node =
    bytes_of (node.mode ∷ [])
    ++ (node.nlink ∷ node.uid ∷ node.gid ∷ node.size / 65536 ∷ [])
    ++ bytes_of (node.size % 65536 ∷ []) ++ bytes_of node.addr
    ++ bytes_of (long_words node.actime) ++ bytes_of (long_words node.modtime)

-- 16 bytes
unfoldable pub entry_bytes : DirEntry → List ℕ
entry_bytes entry = bytes_of (entry.ino ∷ []) ++ entry.name
