-- Entries of a directory are written: wdir in Lions' Commentary, `iget.c`, and unlink in `sys4.c`.
use Rattle.std.specs.Prelude.{◌≡◌, ℕ, List, length, Option, Some, None, Result, Ok, Err}
use Rattle.v6_base.specs.declared.errno.Errno.{Errno}
use Rattle.fs_codec.specs.Store.{Node}
use Rattle.fs_laws.specs.Pieces.{Moving, write_file}
use Rattle.fs_nodes.specs.Copy.{get_kernel}
use Rattle.fs_nodes.specs.Keys.{Stores, room_at, with_node}

-- bytes of the kernel's own are written into a file
abbrev pub written : Stores → ℕ → Node → ℕ → List ℕ → ℕ → Moving (Unit {0})
written store dir node offset bytes time = write_file (get_kernel bytes) node (room_at store dir) tt offset (length bytes) time

abbrev pub answer_to : Option Errno → Result (Unit {0}) Errno
answer_to None = Ok tt
answer_to (Some e) = Err e

-- What a call answers and leaves that writes bytes of a directory.
pub record WritesEntry (old : Stores) (dir : ℕ) (m : Moving (Unit {0})) (new : Stores)
    (answer : Result (Unit {0}) Errno) : Type 0 where
  pub store : new ≡ with_node old dir m.node m.room
  pub told : answer ≡ answer_to m.error
