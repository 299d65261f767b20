-- Files are opened: open(II); Lions' Commentary, `open1` in `sys2.c` and `falloc` in `fio.c`.
use Rattle.std.specs.Prelude.{ℕ, Bool, false, not, ◌+◌, ◌/◌, ◌%◌, ◌==◌, ◌||◌, if◌then◌else◌, List, [], ◌∷◌, Option, Some, None, is_some, Result, Ok, Err, slice_set}
use Rattle.v6_base.specs.declared.errno.Errno.{Errno}
use Rattle.v6_base.specs.declared.errno.Errno.TheVariants.{ENXIO, EISDIR, ENFILE, EMFILE}
use Rattle.proc_tab.specs.declared.row.Row.{Row}
use Rattle.fs_codec.specs.Modes.{is_device, is_directory}
use Rattle.fs_codec.specs.Store.{Node}
use Rattle.open_files.specs.declared.file.FileKind.{FileKind}
use Rattle.open_files.specs.Files.{free_number, free_entry, opened}
use Rattle.fs_tree.specs.declared.user.User.{User}
use Rattle.fs_tree.specs.declared.user.Want.TheVariants.{Read, Write}
use Rattle.fs_tree.specs.Permission.{permission, access}
use Rattle.fs_tree.specs.Finding.{with_reference}
use Rattle.tty_line.specs.Terminal as terminal
use Rattle.tty_line.specs.Terminal.{Terminal}
use Rattle.lines_eight.specs.Lines.{with_terminal}
use Rattle.sys_files.specs.Handed.{Handed, node_at, user_of, line_of, line_at, is_null, with_number}
use Rattle.sys_files.specs.Did.{Did, returns, check, must, need, finds}

-- A mode opens for reading (0), for writing (1) or for both (2). Others count by their lowest bits.
abbrev pub opens_to_read : ℕ → Bool
opens_to_read mode = (mode + 1) % 2 == 1

abbrev pub opens_to_write : ℕ → Bool
opens_to_write mode = (mode + 1) / 2 % 2 == 1

-- a test that is made only in a case
abbrev pub only_if : Bool → Result (Unit {0}) Errno → Result (Unit {0}) Errno
only_if applies test = if applies then test else Ok tt

-- of some tests, the error of the last that fails
abbrev pub or_earlier : Result (Unit {0}) Errno → Result (Unit {0}) Errno → Result (Unit {0}) Errno
or_earlier (Err e) earlier = Err e
or_earlier (Ok u) earlier = earlier

abbrev pub last_failure : List (Result (Unit {0}) Errno) → Result (Unit {0}) Errno
last_failure [] = Ok tt
last_failure (test ∷ tests) = or_earlier (last_failure tests) test

abbrev pub open_tests : List Bool → ℕ → Node → User → ℕ → List (Result (Unit {0}) Errno)
open_tests marks ino node user mode =
    only_if (opens_to_read mode) (permission node user Read)
    ∷ only_if (opens_to_write mode) (access marks ino node user Write)
    ∷ only_if (opens_to_write mode) (must EISDIR (not (is_directory node.mode)))
    ∷ []

-- a file that can be opened: of the devices the terminal lines and null alone
abbrev pub can_open : Handed → Node → Bool
can_open h node = not (is_device node.mode) || is_some (line_of h node) || is_null node

-- A process without a terminal that opens a line has it as its terminal from then on, which its row tells as one more than the
-- line's number.
abbrev pub with_tty : Row → Option ℕ → Row
with_tty row None = row
with_tty row (Some l) = if row.tty == 0 then record row { tty = l + 1 } else row

-- A line is opened with the first of its files.
abbrev pub lines_opened : Handed → Option ℕ → List Terminal
lines_opened h None = h.lines
lines_opened h (Some l) = with_terminal h.lines l (terminal.opened (line_at h l))

abbrev pub with_opened : Handed → ℕ → FileKind → ℕ → ℕ → Handed
with_opened h ino kind fd entry = record h {
  inodes = with_reference h.inodes ino;
  files = slice_set h.files entry (Some (opened ino kind));
  u = with_number h.u fd (entry + 1);
  row = with_tty h.row (line_of h (node_at h ino));
  lines = lines_opened h (line_of h (node_at h ino));
}

-- The opening itself: a number, an entry, and then the device. R0 takes the number.
abbrev pub opens : Handed → ℕ → FileKind → Did
opens h ino kind =
    check h (need EMFILE (free_number h.u.files)) (λ fd.
    check h (need ENFILE (free_entry h.files)) (λ entry.
    check h (must ENXIO (can_open h (node_at h ino))) (λ can.
    returns (with_opened h ino kind fd entry) fd)))

-- A file whose inode is found is opened where the user may.
abbrev pub opens_named : Handed → ℕ → ℕ → Did
opens_named h ino mode =
    check h (last_failure (open_tests h.marks ino (node_at h ino) (user_of h.u) mode)) (λ passed.
    opens h ino (record { reading = opens_to_read mode; writing = opens_to_write mode; pipe = false }))

-- 5, open: a name and a mode
abbrev pub open_file : Handed → ℕ → ℕ → Did
open_file h name mode = finds h name (λ h ino. opens_named h ino mode)
