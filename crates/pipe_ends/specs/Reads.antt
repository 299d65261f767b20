-- Reads of a pipe: read(II), pipe(II); readp in Lions' Commentary, `pipe.c`.
use Rattle.std.specs.Prelude.{ℕ, Bool, true, false, ◌+◌, ◌%◌, ◌^◌, ◌==◌, nat_lt, if◌then◌else◌, Option, Some, None}
use Rattle.v6_base.specs.Image.{Image}
use Rattle.v6_base.specs.declared.errno.Errno.{Errno}
use Rattle.fs_laws.specs.Pieces.{Moving, read_file}
use Rattle.fs_nodes.specs.Keys.{Stores, room_at, with_node}
use Rattle.fs_nodes.specs.Copy.{put_into}
use Rattle.pipe_ends.specs.declared.ends.Pipe.{Pipe}
use Rattle.pipe_ends.specs.declared.ends.Piped.{Piped}
use Rattle.pipe_ends.specs.declared.ends.Piped.TheVariants.{Done, Wait, Error}
use Rattle.pipe_ends.specs.Pipes.{pipe_file, begun_again}

-- what a read comes to
pub record PipeRead : Type 0 where
  pub store : Stores
  pub image : Image
  pub pipe : Pipe
  pub answer : Piped

abbrev pub all_read : Stores → Pipe → Bool
all_read store p = p.offset == (pipe_file store p).size

-- Where all has been read a pipe is at its front again, and a writer that waits is woken. With both ends there the reader
-- waits for bytes; else the file has ended.
abbrev pub rewound : Pipe → Pipe
rewound p = record p { offset = 0; writer_waits = false }

abbrev pub at_front : ℕ → Pipe → Pipe
at_front ends p = if nat_lt ends 2 then rewound p else record (rewound p) { reader_waits = true }

abbrev pub told_of_nothing : ℕ → ℕ → Piped
told_of_nothing ends count = if nat_lt ends 2 then Done 0 else Wait count

-- a call ends with its count, unless an error has ended it
abbrev pub ends_with : ℕ → Option Errno → Piped
ends_with done None = Done done
ends_with done (Some e) = Error e

-- what is read of the file, from the offset on
abbrev pub read_of : Stores → Pipe → Image → ℕ → ℕ → ℕ → Moving Image
read_of store p image at count time =
    read_file (put_into at) (pipe_file store p) (room_at store p.ino) image p.offset count time

-- The offset moves by what was done, also where an error has ended the read.
abbrev pub reads_some : Stores → Pipe → Moving Image → PipeRead
reads_some store p m = record {
  store = with_node store p.ino m.node m.room;
  image = m.memory;
  pipe = record p { offset = (p.offset + m.done) % 2 ^ 32 };
  answer = ends_with m.done m.error;
}

-- What a read comes to, of a pipe with so many ends, into this memory from an address on, at a time.
unfoldable pub reads : Stores → ℕ → Pipe → Image → ℕ → ℕ → ℕ → PipeRead
reads store ends p image at count time =
    if all_read store p then record {
      store = begun_again store p;
      image = image;
      pipe = at_front ends p;
      answer = told_of_nothing ends count;
    }
    else reads_some store p (read_of store p image at count time)
