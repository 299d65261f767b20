-- A pipe: a file without a name, into which one end writes and from which the other reads. pipe(II); Lions' Commentary,
-- `pipe.c`.
use Rattle.std.specs.Prelude.{ℕ, List, slice_index}
use Rattle.fs_codec.specs.Store.{Node}
use Rattle.fs_nodes.specs.Keys.{Stores, node_in, with_fields}
use Rattle.pipe_ends.specs.declared.ends.Pipe.{Pipe}

abbrev pub pipe_file : Stores → Pipe → Node
pipe_file store p = node_in store p.ino

-- how many ends a pipe has still: each refers to its file, and nothing else does
abbrev pub ends_of : List ℕ → Pipe → ℕ
ends_of references p = slice_index references p.ino

-- The file begins from its front again. It keeps its blocks and its times.
abbrev pub begun_again : Stores → Pipe → Stores
begun_again store p = with_fields store p.ino (record (pipe_file store p) { size = 0 })
