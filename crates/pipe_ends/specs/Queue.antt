-- A pipe is a queue: the bytes that are read are those that were written, in their order. pipe(II).
use Rattle.std.specs.Prelude.{◌≡◌, ◌≤◌, ℕ, false, ◌+◌, ◌++◌, min, List, length, take, drop, Some}
use Rattle.v6_base.specs.Image.{Image}
use Rattle.v6_base.specs.Copy.{load_bytes, store_bytes}
use Rattle.fs_codec.specs.Modes.{is_device}
use Rattle.fs_codec.specs.Store.{Node}
use Rattle.fs_nodes.specs.Keys.{Stores, node_numbered}
use Rattle.pipe_ends.specs.declared.ends.Pipe.{Pipe}
use Rattle.pipe_ends.specs.declared.ends.Piped.TheVariants.{Done, Wait, Broken}
use Rattle.pipe_ends.specs.declared.ends.TheConstants.{PIPSIZ}
use Rattle.pipe_ends.specs.Pipes.{pipe_file}
use Rattle.pipe_ends.specs.Reads.{PipeRead}
use Rattle.pipe_ends.specs.Writes.{PipeWrite}

-- the bytes of a file up to its end
abbrev pub contents : Node → List ℕ
contents file = take file.size file.body

-- the bytes that were written and not yet read
abbrev pub queue : Stores → Pipe → List ℕ
queue store p = drop p.offset (contents (pipe_file store p))

-- Its file is there and is no device, it has each byte up to its end, it is no longer than a pipe, and no more of it has been
-- read than there is.
pub record IsQueue (store : Stores) (p : Pipe) : Type 0 where
  pub there : node_numbered store p.ino ≡ Some (pipe_file store p)
  pub plain : is_device (pipe_file store p).mode ≡ false
  pub whole : (pipe_file store p).size ≤ length (pipe_file store p).body
  pub small : (pipe_file store p).size ≤ PIPSIZ
  pub read : p.offset ≤ (pipe_file store p).size

-- What a write puts goes to the end: the first bytes of what it is to write, as they stand in the memory that they come from.
-- These are all where it is done, all but those that are left where it waits, and none where the pipe is broken.
pub record GoesToEnd (store : Stores) (p : Pipe) (image : Image) (at count : ℕ) (w : PipeWrite) : Type 0 where
  pub put : ℕ
  pub few : put ≤ count
  pub done : (n : ℕ) → w.answer ≡ Done n → put ≡ count
  pub waits : (left : ℕ) → w.answer ≡ Wait left → put + left ≡ count
  pub broken : w.answer ≡ Broken → put ≡ 0
  pub bytes : List ℕ
  pub loaded : load_bytes image at put ≡ Some bytes
  pub behind : queue w.store w.pipe ≡ queue store p ++ bytes
  pub stays : IsQueue w.store w.pipe

-- What a read takes comes from the front, into the memory, and the rest is left. Where it is done it has told how many these
-- are: as many as it may, or all that there are.
pub record ComesFromFront (store : Stores) (p : Pipe) (image : Image) (at count : ℕ) (r : PipeRead) : Type 0 where
  pub taken : ℕ
  pub few : taken ≤ count
  pub done : (n : ℕ) → r.answer ≡ Done n → (n ≡ taken) × (n ≡ min count (length (queue store p)))
  pub stored : store_bytes image at (take taken (queue store p)) ≡ Some r.image
  pub rest : queue r.store r.pipe ≡ drop taken (queue store p)
  pub stays : IsQueue r.store r.pipe
