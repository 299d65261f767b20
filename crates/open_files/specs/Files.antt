-- The table of open files, and the numbers by which a process has them: file.h and user.h in Lions' Commentary. A number is
-- an index into the fifteen of a process. Each of these is 0, or one more than the entry of the table that it names.
use Rattle.std.specs.Prelude.{◌≡◌, ℕ, ◌+◌, ◌-◌, ◌<◌, ◌≤◌, ◌==◌, if◌then◌else◌, List, map, length, position, count_by, Option, Some, None, is_none, IsSome, slice_index, slice_index_or, slice_set}
use Rattle.std.specs.List.{range_with_len}
use Rattle.v6_base.specs.declared.errno.Errno.{Errno}
use Rattle.open_files.specs.declared.file.FileKind.{FileKind}
use Rattle.open_files.specs.declared.file.OpenFile.{OpenFile}
use Rattle.open_files.specs.declared.file.Closed.{Closed}
use Rattle.open_files.specs.declared.file.Closed.TheVariants.{Still, Last}

-- the file of an entry: none where the entry is free, or past the last
abbrev pub file_at : List (Option OpenFile) → ℕ → Option OpenFile
file_at files entry = slice_index_or files entry None

-- the entry that an open number of a process names
abbrev pub entry_of : List ℕ → ℕ → ℕ
entry_of mine fd = slice_index mine fd - 1

-- the lowest number of a process that names no file
abbrev pub free_number : List ℕ → Option ℕ
free_number mine = position (λ number. number == 0) mine

-- the lowest entry that is free
abbrev pub free_entry : List (Option OpenFile) → Option ℕ
free_entry files = position is_none files

-- Each number of a process that isn't 0 names an entry in use.
abbrev pub AreOpen : List (Option OpenFile) → List ℕ → Type 0
AreOpen files mine = (fd : ℕ) → 0 < slice_index mine fd → IsSome (file_at files (entry_of mine fd))

-- No file has so many numbers that fifteen more can't be counted.
abbrev pub HaveRoom : List (Option OpenFile) → Type 0
HaveRoom files = (entry : ℕ) (file : OpenFile) → file_at files entry ≡ Some file → file.count ≤ 65520

-- Each file in the table is named by a number at least.
abbrev pub AreNamed : List (Option OpenFile) → Type 0
AreNamed files = (entry : ℕ) (file : OpenFile) → file_at files entry ≡ Some file → 1 ≤ file.count

-- a file that has just been opened
abbrev pub opened : ℕ → FileKind → OpenFile
opened ino kind = record { ino = ino; kind = kind; offset = 0; count = 1 }

-- An entry's file with a change, where it has one.
abbrev pub changed : (OpenFile → OpenFile) → Option OpenFile → Option OpenFile
changed change None = None
changed change (Some file) = Some (change file)

-- a file with more numbers
abbrev pub with_more : ℕ → OpenFile → OpenFile
with_more n file = record file { count = file.count + n }

-- a file with another offset
abbrev pub with_offset : ℕ → OpenFile → OpenFile
with_offset offset file = record file { offset = offset }

-- a file with one number fewer
abbrev pub with_fewer : OpenFile → OpenFile
with_fewer file = record file { count = file.count - 1 }

-- a table with a change to the file of an entry
abbrev pub with_change : List (Option OpenFile) → ℕ → (OpenFile → OpenFile) → List (Option OpenFile)
with_change files entry change = slice_set files entry (changed change (file_at files entry))

-- what is told of a file that a number has let go, and what is left in its entry
abbrev pub closed : OpenFile → Closed
closed file = if file.count == 1 then Last (with_fewer file) else Still (with_fewer file)

abbrev pub left : Closed → Option OpenFile
left (Still file) = Some file
left (Last file) = None

-- how many numbers of a process name an entry
abbrev pub times : List ℕ → ℕ → ℕ
times mine entry = count_by (λ number. number == entry + 1) mine

-- a table with each of a process's numbers counted once more
unfoldable pub shared : List (Option OpenFile) → List ℕ → List (Option OpenFile)
shared files mine =
    map (λ entry. changed (with_more (times mine entry)) (file_at files entry)) (range_with_len 0 (length files))

-- A file is opened: it stands in the lowest free entry, under the lowest free number.
abbrev pub Adds : List (Option OpenFile) → List ℕ → OpenFile → ℕ → List (Option OpenFile) → List ℕ → Type 0
Adds files mine file fd files_new mine_new =
    (free_number mine ≡ Some fd)
    × (entry : ℕ)
    × (free_entry files ≡ Some entry)
    × (files_new ≡ slice_set files entry (Some file))
    × (mine_new ≡ slice_set mine fd (entry + 1))

-- A number is given once more, as the lowest free one.
abbrev pub Dups : List (Option OpenFile) → List ℕ → ℕ → ℕ → List (Option OpenFile) → List ℕ → Type 0
Dups files mine fd free files_new mine_new =
    (0 < slice_index mine fd)
    × (free_number mine ≡ Some free)
    × (files_new ≡ with_change files (entry_of mine fd) (with_more 1))
    × (mine_new ≡ slice_set mine free (slice_index mine fd))

-- A number lets its file go.
abbrev pub Drops : List (Option OpenFile) → List ℕ → ℕ → Closed → List (Option OpenFile) → List ℕ → Type 0
Drops files mine fd told files_new mine_new =
    (0 < slice_index mine fd)
    × (file : OpenFile)
    × (file_at files (entry_of mine fd) ≡ Some file)
    × (told ≡ closed file)
    × (files_new ≡ slice_set files (entry_of mine fd) (left told))
    × (mine_new ≡ slice_set mine fd 0)

-- why a file is not opened
abbrev pub add_error : List (Option OpenFile) → List ℕ → Option Errno
add_error files mine =
    if is_none (free_number mine) then Some Errno.EMFILE
    else if is_none (free_entry files) then Some Errno.ENFILE
    else None

-- why a number is not given once more
abbrev pub dup_error : List ℕ → ℕ → Option Errno
dup_error mine fd =
    if slice_index mine fd == 0 then Some Errno.EBADF
    else if is_none (free_number mine) then Some Errno.EMFILE
    else None
