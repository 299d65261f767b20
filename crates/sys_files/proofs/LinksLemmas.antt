-- A write keeps the links of a file.
use Rattle.std.proofs.Common.{◌≡◌, ◌+◌, ◌-◌, ◌/◌, ◌==◌, ℕ, Bool, true, false, not, cond, List, [], ◌∷◌, nat_lt, length, inl, inr, Option, Some, None, refl, sym, ap, ◌∙◌}
use Rattle.bmap_path.specs.declared.BlockName.{BlockName}
use Rattle.bmap_path.specs.Path.{path_of}
use Rattle.v6_base.specs.declared.errno.Errno.TheVariants.{EFBIG, ENOSPC, EFAULT}
use Rattle.fs_codec.specs.Modes.{is_large, is_device}
use Rattle.std.specs.Option.{unwrap_or}
use Rattle.std.proofs.lemmas.Bool.{cases_eq}
use Rattle.fs_codec.specs.Store.{Node, holds}
use Rattle.fs_nodes.specs.Copy.{get_kernel}
use Rattle.fs_tree.specs.Entries.{written}
use Rattle.fs_tree.specs.Finding.{Inodes}
use Rattle.sys_files.specs.Handed.{no_node, node_in}
use Rattle.sys_files.specs.Making.{entry_written}
use Rattle.fs_laws.specs.Touch.{Touching, touching, take_names, gained}
use Rattle.fs_laws.specs.Pieces.{pieces, Moving, stopped, going_on, writing, size_limit, with_bytes, beginning, write_file}
use Rattle.fs_nodes.specs.Keys.{Stores, room_at, with_node}
use Rattle.fs_nodes.proofs.KeyLaws.{node_put, node_other}

taken_links : (names : List BlockName) (node : Node) (room : ℕ) → (take_names names node room).node.nlink ≡ node.nlink
taken_links [] node room = refl
taken_links (name ∷ names) node room =
    by (holds node name) (room == 0) (taken_links names node room) (taken_links names (gained node name) (room - 1))
  where
    by : (t s : Bool) → (take_names names node room).node.nlink ≡ node.nlink
        → (take_names names (gained node name) (room - 1)).node.nlink ≡ node.nlink
        → (cond t (take_names names node room)
        (cond s (record { node = node; room = room; is_done = false })
        (take_names names (gained node name) (room - 1)))).node.nlink ≡ node.nlink
    by true s a b = a
    by false true a b = refl
    by false false a b = b

begun_links : (t : Bool) (node : Node) (time : ℕ)
    → (cond t node (record node { actime = time; modtime = time })).nlink ≡ node.nlink
begun_links true node time = refl
begun_links false node time = refl

module _ {Memory : Type 0} (get : ℕ → ℕ → Option (List ℕ)) where
  step_links : (piece : ℕ × ℕ) (rest : List (ℕ × ℕ)) (m : Moving Memory) (t : Touching) (large done : Bool)
      (got : Option (List ℕ)) → t.node.nlink ≡ m.node.nlink
      → ((next : Moving Memory) → next.node.nlink ≡ m.node.nlink → (writing get rest next).node.nlink ≡ m.node.nlink)
      → (cond large (record m { error = Some EFBIG }) (cond (not done) (stopped m t ENOSPC)
      (going_on got (λ bytes.
      writing get rest (record {
        node = with_bytes t.node piece.0 bytes;
        room = t.room;
        memory = m.memory;
        done =
            m.done + (piece.1 - piece.0);
        error = None;
      })) (stopped m t EFAULT)))).node.nlink ≡ m.node.nlink
  step_links piece rest m t true done got same next = refl
  step_links piece rest m t false false got same next = same
  step_links piece rest m t false true None same next = same
  step_links piece rest m t false true (Some bytes) same next =
      next (record {
        node = with_bytes t.node piece.0 bytes;
        room = t.room;
        memory = m.memory;
        done =
            m.done + (piece.1 - piece.0);
        error = None;
      }) same

  writing_links : (ps : List (ℕ × ℕ)) (m : Moving Memory) → (writing get ps m).node.nlink ≡ m.node.nlink
  writing_links [] m = refl
  writing_links (piece ∷ rest) m =
      let t : Touching = touching m.node m.room (piece.0 / 512) in
      step_links piece rest m t (nat_lt (size_limit m.node) piece.1) t.is_done (get m.done (piece.1 - piece.0))
      (taken_links (path_of (is_large m.node.mode) (piece.0 / 512)) m.node m.room)
      (λ next same. writing_links rest next ∙ same)

  file_links : (t : Bool) (ps : List (ℕ × ℕ)) (m : Moving Memory)
      → (cond t m (writing get ps m)).node.nlink ≡ m.node.nlink
  file_links true ps m = refl
  file_links false ps m = writing_links ps m

  pub write_file-links : (node : Node) (room : ℕ) (memory : Memory) (at count time : ℕ)
      → (write_file get node room memory at count time).node.nlink ≡ node.nlink
  write_file-links node room memory at count time =
      let begun : Node = cond (count == 0) node (record node { actime = time; modtime = time }) in
      file_links (is_device node.mode) (pieces at (at + count)) (beginning begun room memory)
      ∙ begun_links (count == 0) node time

-- A node has changed, but not its links.
changed_links : (s : Stores) (dir ino room : ℕ) (node : Node) → node.nlink ≡ (node_in s dir).nlink
    → (node_in (with_node s dir node room) ino).nlink ≡ (node_in s ino).nlink
changed_links s dir ino room node same = elim (cases_eq ino dir) [
  | inl here ↦
      (let at : (node_in (with_node s dir node room) dir).nlink ≡ (node_in s dir).nlink =
      elim (node_put s dir room node) [
        | inl put ↦ ap (λ o. (unwrap_or o no_node).nlink) put ∙ same
        | inr stays ↦ ap (λ o. (unwrap_or o no_node).nlink) stays
      ] in
      ap (λ i. (node_in (with_node s dir node room) i).nlink) here ∙ at ∙ ap (λ i. (node_in s i).nlink) (sym here))
  | inr other ↦ ap (λ o. (unwrap_or o no_node).nlink) (node_other s dir ino room node other)
]

-- Where bytes of a directory are written, the links of an inode stay.
pub entry_written-links : (n : Inodes) (dir offset : ℕ) (bytes : List ℕ) (now ino : ℕ)
    → (node_in (entry_written n dir offset bytes now).inodes.store ino).nlink ≡ (node_in n.store ino).nlink
entry_written-links n dir offset bytes now ino =
    let m : Moving (Unit {0}) = written n.store dir (node_in n.store dir) offset bytes now in
    changed_links n.store dir ino m.room m.node
    (write_file-links (get_kernel bytes) (node_in n.store dir) (room_at n.store dir) tt offset (length bytes) now)
