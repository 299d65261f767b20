-- The mode word of an inode: file system(V) of the UNIX Programmer's Manual.
use Rattle.std.specs.Prelude.{ℕ, Bool, not, ◌+◌, ◌/◌, ◌&&◌, ◌||◌, ◌==◌, bit_and}
use Rattle.fs_codec.specs.declared.modes.TheConstants.{IFMT, IFDIR, IFCHR, IFBLK, ILARG, IEXEC}

-- the type of a file: 0 is a plain file
abbrev pub file_type : ℕ → ℕ
file_type mode = bit_and mode IFMT

abbrev pub is_directory : ℕ → Bool
is_directory mode = file_type mode == IFDIR

abbrev pub is_character_device : ℕ → Bool
is_character_device mode = file_type mode == IFCHR

-- a character device or a block device, whose addresses name no blocks
abbrev pub is_device : ℕ → Bool
is_device mode = (file_type mode == IFCHR) || (file_type mode == IFBLK)

-- a large file's addresses name indirect blocks
abbrev pub is_large : ℕ → Bool
is_large mode = not (bit_and mode ILARG == 0)

-- An inode whose mode is 0 is free. One that is used, and no device, holds blocks.
abbrev pub holds_blocks : ℕ → Bool
holds_blocks mode = not (mode == 0) && not (is_device mode)

-- the owner, the group or the others may execute the file, or search the directory
abbrev pub has_execute_bit : ℕ → Bool
has_execute_bit mode = not (bit_and mode (IEXEC + IEXEC / 8 + IEXEC / 64) == 0)
