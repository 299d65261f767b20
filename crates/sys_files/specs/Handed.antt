-- What a call on files works on: the parts of the Unix that it is handed. `user.h`, `proc.h` and `file.h` in Lions' Commentary.
use Rattle.std.specs.Prelude.{ℕ, Bool, false, ◌&&◌, ◌==◌, nat_lt, List, length, Option, Some, None, slice_index, slice_set, unwrap_or, if◌then◌else◌}
use Rattle.v6_base.specs.Image.{Image}
use Rattle.proc_tab.specs.declared.row.Row.{Row}
use Rattle.u_area.specs.declared.area.UArea.{UArea}
use Rattle.fs_codec.specs.Modes.{is_character_device}
use Rattle.fs_codec.specs.Store.{Node}
use Rattle.fs_nodes.specs.Keys.{Stores, with_fields}
use Rattle.mount_tab.specs.Mounted.{MountTable, split_of}
use Rattle.open_files.specs.declared.file.OpenFile.{OpenFile}
use Rattle.open_files.specs.Files.{file_at}
use Rattle.pipe_ends.specs.declared.ends.Pipe.{Pipe}
use Rattle.fs_tree.specs.declared.user.User.{User}
use Rattle.fs_tree.specs.Finding.{Inodes, inodes_of, put_back}
pub use Rattle.fs_tree.specs.Tests.{no_node, node_in}
use Rattle.tty_line.specs.Terminal.{Terminal}
use Rattle.lines_eight.specs.Lines.{terminal_at, with_terminal}
use Rattle.sys_files.specs.declared.files.Files.{Files}

pub record Handed : Type 0 where
  pub inodes : Inodes  -- the stores of the disks, and how often their inodes are referred to
  pub mounts : MountTable  -- how many inodes each disk has, and the directory that the second one covers
  pub marks : List Bool  -- which inodes have a text that is shared
  pub files : List (Option OpenFile)  -- the table of open files
  pub pipes : List Pipe  -- that are open
  pub lines : List Terminal  -- the terminal lines, from the console on
  pub u : UArea  -- of the process that calls
  pub row : Row
  pub image : Image

-- the parts as the kernel keeps them
abbrev pub handed : Files → UArea → Row → Image → Handed
handed f u row image =
    record {
      inodes = inodes_of f.tree.nodes;
      mounts = f.tree.mounts;
      marks = f.tree.marks;
      files = f.table;
      pipes = f.pipes;
      lines = f.lines;
      u = u;
      row = row;
      image = image;
    }

-- R0 and R1 of the process
abbrev pub r0 : Handed → ℕ
r0 h = slice_index h.u.r 0

abbrev pub r1 : Handed → ℕ
r1 h = slice_index h.u.r 1

abbrev pub user_of : UArea → User
user_of u = record { uid = u.uid; gid = u.gid }

abbrev pub node_at : Handed → ℕ → Node
node_at h ino = node_in h.inodes.store ino

-- the disk of an inode, and its number there
abbrev pub disk_of : Handed → ℕ → ℕ
disk_of h ino = (split_of h.mounts ino).0

abbrev pub number_of : Handed → ℕ → ℕ
number_of h ino = (split_of h.mounts ino).1

-- what stands for an open file where an entry is free
abbrev pub no_file : OpenFile
no_file = record { ino = 0; kind = record { reading = false; writing = false; pipe = false }; offset = 0; count = 0 }

abbrev pub file_of : Handed → ℕ → OpenFile
file_of h entry = unwrap_or (file_at h.files entry) no_file

-- The terminal lines that there are, are the character devices 0,0, which is the console, 0,1 and so on. The null device is
-- 8,2.
abbrev pub line_of : Handed → Node → Option ℕ
line_of h node = if is_character_device node.mode && nat_lt node.device (length h.lines) then Some node.device else None

-- the terminal of a line, and the parts with another in its place
abbrev pub line_at : Handed → ℕ → Terminal
line_at h l = terminal_at h.lines l

abbrev pub with_line : Handed → ℕ → Terminal → Handed
with_line h l t = record h { lines = with_terminal h.lines l t }

abbrev pub is_null : Node → Bool
is_null node = is_character_device node.mode && (node.device == 2050)

abbrev pub with_inodes : Handed → Inodes → Handed
with_inodes h inodes = record h { inodes = inodes }

abbrev pub with_store : Handed → Stores → Handed
with_store h store = with_inodes h (record h.inodes { store = store })

-- a node is changed, and holds no other blocks
abbrev pub with_changed : Handed → ℕ → Node → Handed
with_changed h ino node = with_store h (with_fields h.inodes.store ino node)

-- a number of the process names this entry from now on: one more than the entry, or 0
abbrev pub with_number : UArea → ℕ → ℕ → UArea
with_number u fd number = record u { files = slice_set u.files fd number }

-- a reference to an inode goes
abbrev pub let_go : Handed → ℕ → Handed
let_go h ino = with_inodes h (put_back h.inodes ino)
