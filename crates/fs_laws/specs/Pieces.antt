-- Reads and writes of a file, piece by piece: readi and writei in Lions' Commentary, `rdwri.c`.
use Rattle.std.specs.Prelude.{ℕ, not, ◌+◌, ◌-◌, ◌*◌, ◌/◌, ◌==◌, nat_le, nat_lt, min, max, if◌then◌else◌, List, [], ◌∷◌, map, length, slice_range, Option, Some, None}
use Rattle.std.specs.List.{range_with_len}
use Rattle.fs_codec.specs.Modes.{is_directory, is_device}
use Rattle.fs_codec.specs.Store.{Node}
use Rattle.fs_codec.specs.declared.layout.TheConstants.{BLOCK_SIZE}
use Rattle.buf_cache.specs.Blocks.{patched}
use Rattle.v6_base.specs.declared.errno.Errno.{Errno}
use Rattle.v6_base.specs.declared.errno.Errno.TheVariants.{EFBIG, ENOSPC, EFAULT}
use Rattle.fs_laws.specs.Touch.{Touching, touching}

-- The bytes of a file from one place up to another, cut at the ends of blocks: where each piece begins and where it ends.
abbrev pub pieces : ℕ → ℕ → List (ℕ × ℕ)
pieces at end =
    if nat_le end at then []
    else map (λ n. (max at (BLOCK_SIZE * n), min end (BLOCK_SIZE * (n + 1))))
    (range_with_len (at / BLOCK_SIZE) ((end + 511) / BLOCK_SIZE - at / BLOCK_SIZE))

-- where the piece that begins at a byte ends
abbrev pub piece_end : ℕ → ℕ → ℕ
piece_end at end = min end (BLOCK_SIZE * (at / BLOCK_SIZE + 1))

-- What a read or a write has come to: the file, the room, the memory into which bytes go, how many bytes are done, and the
-- error that ended it.
pub record Moving (Memory : Type 0) : Type 0 where
  pub node : Node
  pub room : ℕ
  pub memory : Memory
  pub done : ℕ
  pub error : Option Errno

-- it ends with an error, after a block was touched
abbrev pub stopped : {Memory : Type 0} → Moving Memory → Touching → Errno → Moving Memory
stopped m t error = record m { node = t.node; room = t.room; error = Some error }

-- it goes on where there is something, and ends where there is nothing
abbrev pub going_on : {X Memory : Type 0} → Option X → (X → Moving Memory) → Moving Memory → Moving Memory
going_on None next end = end
going_on (Some x) next end = next x

-- A read touches the block of each piece and then copies the piece, whole or not at all. `put` puts bytes so many bytes from
-- where the first went.
abbrev pub reading : {Memory : Type 0} → (Memory → ℕ → List ℕ → Option Memory) → List (ℕ × ℕ) → Moving Memory → Moving Memory
reading put [] m = m
reading put (piece ∷ rest) m =
    let t : Touching = touching m.node m.room (piece.0 / BLOCK_SIZE) in
    if not t.is_done then stopped m t ENOSPC else
    going_on (put m.memory m.done (slice_range t.node.body piece.0 piece.1))
    (λ memory. reading put rest
    (record { node = t.node; room = t.room; memory = memory; done = m.done + (piece.1 - piece.0); error = None }))
    (stopped m t EFAULT)

-- The greatest size that a write may give a file. A directory that is longer already can be written within itself.
abbrev pub size_limit : Node → ℕ
size_limit node = if is_directory node.mode then max 65520 node.size else 16777215

-- a file with these bytes at a place
abbrev pub with_bytes : Node → ℕ → List ℕ → Node
with_bytes node at bytes = record node { body = patched at bytes node.body; size = max node.size (at + length bytes) }

-- A write looks whether the file would be too large, touches the block of each piece, and then copies the piece, whole or not
-- at all. `get` gets so many bytes from where the first came, and so many from there on.
abbrev pub writing : {Memory : Type 0} → (ℕ → ℕ → Option (List ℕ)) → List (ℕ × ℕ) → Moving Memory → Moving Memory
writing get [] m = m
writing get (piece ∷ rest) m =
    if nat_lt (size_limit m.node) piece.1 then record m { error = Some EFBIG } else
    (let t : Touching = touching m.node m.room (piece.0 / BLOCK_SIZE) in
    if not t.is_done then stopped m t ENOSPC else
    going_on (get m.done (piece.1 - piece.0))
    (λ bytes. writing get rest
    (record {
      node = with_bytes t.node piece.0 bytes;
      room = t.room;
      memory = m.memory;
      done = m.done + (piece.1 - piece.0);
      error = None;
    }))
    (stopped m t EFAULT))

abbrev pub beginning : {Memory : Type 0} → Node → ℕ → Memory → Moving Memory
beginning node room memory = record { node = node; room = room; memory = memory; done = 0; error = None }

-- A read of some bytes sets the time of access, and ends at the end of the file. A device has no bytes here.
abbrev pub read_file : {Memory : Type 0} → (Memory → ℕ → List ℕ → Option Memory) → Node → ℕ → Memory → ℕ → ℕ → ℕ → Moving Memory
read_file put node room memory at count time =
    let begun : Node = if count == 0 then node else record node { actime = time } in
    if is_device node.mode then beginning begun room memory
    else reading put (pieces at (min node.size (at + count))) (beginning begun room memory)

-- A write of some bytes sets both times.
abbrev pub write_file : {Memory : Type 0} → (ℕ → ℕ → Option (List ℕ)) → Node → ℕ → Memory → ℕ → ℕ → ℕ → Moving Memory
write_file get node room memory at count time =
    let begun : Node = if count == 0 then node else record node { actime = time; modtime = time } in
    if is_device node.mode then beginning begun room memory
    else writing get (pieces at (at + count)) (beginning begun room memory)
