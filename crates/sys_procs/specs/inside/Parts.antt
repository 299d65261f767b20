-- How the text of a program is read from its file, a part at a time.
use Rattle.std.specs.Prelude.{◌≡◌, ℕ, ◌+◌, ◌-◌, ◌*◌, List, drop, length, replicate, Some}
use Rattle.buf_cache.specs.Blocks.{patched}
use Rattle.fs_laws.specs.Pieces.{Moving, read_file}
use Rattle.fs_nodes.specs.Copy.{put_kernel}
use Rattle.fs_nodes.specs.FileSystem.{SameRest}
use Rattle.fs_nodes.specs.Keys.{Stores, room_at}
use Rattle.fs_tree.specs.declared.tree.Tree.{Tree}
use Rattle.image_keep.specs.Kept.{Kept, Shared, shared}
use Rattle.sys_procs.specs.declared.procs.Procs.{Procs}
use Rattle.sys_procs.specs.declared.program.Program.{Program}
use Rattle.sys_procs.specs.TextTable.{text_of, with_text, marks_of}
use Rattle.sys_procs.specs.World.{World, texts_in}
use Rattle.sys_procs.specs.Tests.{node_in}
use Rattle.sys_procs.specs.ExecFile.{with_moved}
use Rattle.sys_procs.specs.Handed.{IsAlive, board}

-- so many bytes of the text of a program, from one on
abbrev pub part_in : Stores → Program → ℕ → ℕ → ℕ → Moving (List ℕ)
part_in store program at n time =
    read_file put_kernel (node_in store program.ino) (room_at store program.ino) (replicate n 0) (16 + at) n time

-- They are read into the text of an entry.
abbrev pub with_part : World → ℕ → Program → ℕ → ℕ → World
with_part w t program at n =
    let m : Moving (List ℕ) = part_in w.inodes.store program at n w.clock.time in
    record (with_moved w program.ino m) {
      texts = with_text w.texts t (record (text_of w.texts t) { bytes = patched at m.memory (text_of w.texts t).bytes });
    }

-- A text of so many clicks is not in core, and zeros from a byte on.
pub record IsUnread (k : Kept) (t clicks at : ℕ) : Type 0 where
  pub text : Shared
  pub there : shared k t ≡ Some text
  pub out : text.row.loaded ≡ 0
  pub size : text.row.clicks ≡ clicks
  pub long : length text.bytes ≡ 64 * clicks
  pub zeros : drop at text.bytes ≡ replicate (64 * clicks - at) 0

-- What stays as a text is read, but for the file that it is read from and the text itself.
pub record KeepsOthers (p q : Procs) (old new : Tree) : Type 0 where
  pub board : board q ≡ board p
  pub references : new.nodes.references ≡ old.nodes.references
  pub marks : new.marks ≡ old.marks
  pub mounts : new.mounts ≡ old.mounts
  pub blocks : SameRest old.nodes new.nodes
  pub marked : marks_of (texts_in q.images.kept) ≡ marks_of (texts_in p.images.kept)
  pub alive : (s : ℕ) → IsAlive p s → IsAlive q s
