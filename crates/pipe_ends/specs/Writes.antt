-- Writes of a pipe: write(II), pipe(II); writep in Lions' Commentary, `pipe.c`.
use Rattle.std.specs.Prelude.{ℕ, zero, suc, true, false, ◌+◌, ◌-◌, ◌%◌, ◌==◌, nat_lt, nat_le, min, if◌then◌else◌, Option, Some, None}
use Rattle.v6_base.specs.Image.{Image}
use Rattle.v6_base.specs.declared.errno.Errno.{Errno}
use Rattle.fs_laws.specs.Pieces.{Moving, write_file}
use Rattle.fs_nodes.specs.Keys.{Stores, room_at, with_node}
use Rattle.fs_nodes.specs.Copy.{get_from}
use Rattle.pipe_ends.specs.declared.ends.Pipe.{Pipe}
use Rattle.pipe_ends.specs.declared.ends.Piped.{Piped}
use Rattle.pipe_ends.specs.declared.ends.Piped.TheVariants.{Done, Wait, Broken, Error}
use Rattle.pipe_ends.specs.declared.ends.TheConstants.{PIPSIZ}
use Rattle.pipe_ends.specs.Pipes.{pipe_file}

-- what a call is to write: bytes of this memory, so many, at this time, into a pipe with so many ends
pub record WriteCall : Type 0 where
  pub image : Image
  pub count : ℕ
  pub time : ℕ
  pub ends : ℕ

-- how far a write has come: the file system, the pipe, where the next byte comes from, and how many are left
pub record Writing : Type 0 where
  pub store : Stores
  pub pipe : Pipe
  pub at : ℕ
  pub left : ℕ

-- what a write comes to
pub record PipeWrite : Type 0 where
  pub store : Stores
  pub pipe : Pipe
  pub answer : Piped

abbrev pub size_in : Writing → ℕ
size_in w = (pipe_file w.store w.pipe).size

-- What fits is appended. It counts as a write of its own.
abbrev pub fitting : Writing → ℕ
fitting w = min w.left (PIPSIZ - size_in w)

abbrev pub append_of : WriteCall → Writing → Moving (Unit {0})
append_of c w =
    write_file (get_from c.image w.at) (pipe_file w.store w.pipe)
    (room_at w.store w.pipe.ino) (tt {0}) (size_in w) (fitting w) c.time

-- A reader that waits is woken, also where an error has ended the append.
abbrev pub appended : Writing → Moving (Unit {0}) → Writing
appended w m = record {
  store = with_node w.store w.pipe.ino m.node m.room;
  pipe = record w.pipe { reader_waits = false };
  at = (w.at + fitting w) % 65536;
  left = w.left - fitting w;
}

abbrev pub ends_as : Writing → Piped → PipeWrite
ends_as w answer = record { store = w.store; pipe = w.pipe; answer = answer }

abbrev pub waits : Writing → PipeWrite
waits w = record { store = w.store; pipe = record w.pipe { writer_waits = true }; answer = Wait w.left }

-- an error ends the write
abbrev pub unless_error : Writing → Option Errno → PipeWrite → PipeWrite
unless_error w None on = on
unless_error w (Some e) on = ends_as w (Error e)

-- The tests of a write, in their order, and then once more after each append. An append takes a byte at least: with more
-- rounds than bytes are left, the rounds do not end first.
abbrev pub rounds : ℕ → WriteCall → Writing → PipeWrite
rounds zero c w = ends_as w (Done c.count)
rounds (suc more) c w =
    if w.left == 0 then ends_as w (Done c.count) else (
    if nat_lt c.ends 2 then ends_as w Broken else (
    if nat_le PIPSIZ (size_in w) then waits w else (
    unless_error (appended w (append_of c w)) (append_of c w).error (rounds more c (appended w (append_of c w))))))

abbrev pub write_call : ℕ → Image → ℕ → ℕ → WriteCall
write_call ends image count time = record { image = image; count = count; time = time; ends = ends }

-- What a write comes to, of a pipe with so many ends, from this memory from an address on, at a time.
unfoldable pub writes : Stores → ℕ → Pipe → Image → ℕ → ℕ → ℕ → PipeWrite
writes store ends p image at count time =
    rounds (suc count) (write_call ends image count time) (record { store = store; pipe = p; at = at; left = count })
