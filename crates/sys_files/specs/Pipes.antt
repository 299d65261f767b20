-- The pipes that are open, in the order in which they were made: pipe(II); `pipe.c` in Lions' Commentary.
use Rattle.std.specs.Prelude.{◌≡◌, ◌<◌, ℕ, Bool, true, false, ◌==◌, ◌&&◌, List, length, remove, slice_index_or, slice_set, Option, Some, None}
use Rattle.std.specs.List.{list_any, position_or_len}
use Rattle.open_files.specs.declared.file.OpenFile.{OpenFile}
use Rattle.open_files.specs.Files.{file_at}
use Rattle.pipe_ends.specs.declared.ends.Pipe.{Pipe}

-- a pipe that has just been made: nothing of it has been read, and nobody waits
abbrev pub new_pipe : ℕ → Pipe
new_pipe ino = record { ino = ino; offset = 0; reader_waits = false; writer_waits = false }

-- where the pipe of an inode stands, or the place behind the last where there is none
abbrev pub place_of : List Pipe → ℕ → ℕ
place_of pipes ino = position_or_len (λ (p : Pipe). p.ino == ino) pipes

abbrev pub pipe_of : List Pipe → ℕ → Pipe
pipe_of pipes ino = slice_index_or pipes (place_of pipes ino) (new_pipe 0)

-- a pipe has changed, by its inode
abbrev pub with_pipe : List Pipe → Pipe → List Pipe
with_pipe pipes p = slice_set pipes (place_of pipes p.ino) p

-- the pipe of an inode is gone
abbrev pub without_pipe : List Pipe → ℕ → List Pipe
without_pipe pipes ino = remove pipes (place_of pipes ino)

-- an open file that is an end of the pipe of this inode
abbrev pub is_end_of : ℕ → Option OpenFile → Bool
is_end_of ino None = false
is_end_of ino (Some file) = file.kind.pipe && (file.ino == ino)

-- an end of it is open
abbrev pub has_end : List (Option OpenFile) → ℕ → Bool
has_end files ino = list_any (is_end_of ino) files

-- The pipes are those of the open files that are ends of one: for each of them there is a pipe, each pipe has an end at least,
-- and no two are of one inode.
pub record ArePipes (files : List (Option OpenFile)) (pipes : List Pipe) : Type 0 where
  pub there : (entry : ℕ) (file : OpenFile) → file_at files entry ≡ Some file → file.kind.pipe ≡ true → place_of pipes file.ino < length pipes
  pub ended : (i : ℕ) → i < length pipes → has_end files (slice_index_or pipes i (new_pipe 0)).ino ≡ true
  pub once : (i : ℕ) → i < length pipes → place_of pipes (slice_index_or pipes i (new_pipe 0)).ino ≡ i
