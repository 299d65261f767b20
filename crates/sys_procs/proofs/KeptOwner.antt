-- What a read leaves of a file: its owner and its group, and whether it sets them.
use Rattle.std.proofs.Common.{◌≡◌, ◌∙◌, ◌+◌, ◌/◌, ◌==◌, ℕ, Bool, true, false, not, cond, if◌then◌else◌, List, [], ◌∷◌, min, bit_and, bit_or, Option, Some, None, IsSome, replicate, refl, sym, ap, subst}
use Rattle.std.specs.Prelude.{◌-◌}
use Rattle.std.specs.Option.{unwrap_or}
use Rattle.std.proofs.lemmas.Nat.{and_or_apart}
use Rattle.bmap_path.specs.declared.BlockName.{BlockName}
use Rattle.bmap_path.specs.declared.BlockName.TheVariants.{Data, Ind, Dbl}
use Rattle.bmap_path.specs.Path.{path_of}
use Rattle.fs_codec.specs.Modes.{is_large, is_device}
use Rattle.fs_codec.specs.Store.{Node, holds}
use Rattle.fs_codec.specs.declared.modes.TheConstants.{ISUID, ISGID, ILARG}
use Rattle.fs_laws.specs.Touch.{Touching, gained, take_names, touching}
use Rattle.fs_laws.specs.Pieces.{Moving, going_on, reading, read_file, pieces, beginning}
use Rattle.fs_nodes.specs.Keys.{Stores, node_numbered, room_at, with_node}
use Rattle.fs_nodes.proofs.KeyLaws.{node_set}
use Rattle.fs_nodes.specs.Copy.{put_kernel}
use Rattle.sys_procs.specs.declared.program.Program.{Program}
use Rattle.sys_procs.specs.World.{World}
use Rattle.sys_procs.specs.Tests.{no_node, node_in, node_at}
use Rattle.sys_procs.specs.ExecFile.{text_read, text_room, reads_text}

pub record SameOwner (old new : Node) : Type 0 where
  pub uid : new.uid ≡ old.uid
  pub gid : new.gid ≡ old.gid
  pub sets_uid : bit_and new.mode ISUID ≡ bit_and old.mode ISUID
  pub sets_gid : bit_and new.mode ISGID ≡ bit_and old.mode ISGID

pub same_owner : (node : Node) → SameOwner node node
same_owner node = record { uid = refl; gid = refl; sets_uid = refl; sets_gid = refl }

then_same : (a b c : Node) → SameOwner a b → SameOwner b c → SameOwner a c
then_same a b c one two = record {
  uid = two.uid ∙ one.uid;
  gid = two.gid ∙ one.gid;
  sets_uid = two.sets_uid ∙ one.sets_uid;
  sets_gid = two.sets_gid ∙ one.sets_gid;
}

-- The bit that says that a file is large is another one.
large_keeps : (mode : ℕ) (b : Bool) → (bit_and (cond b mode (bit_or mode ILARG)) ISUID ≡ bit_and mode ISUID)
large_keeps mode true = refl
large_keeps mode false = and_or_apart ISUID mode ILARG refl

large_keeps_group : (mode : ℕ) (b : Bool) → (bit_and (cond b mode (bit_or mode ILARG)) ISGID ≡ bit_and mode ISGID)
large_keeps_group mode true = refl
large_keeps_group mode false = and_or_apart ISGID mode ILARG refl

gained_same : (node : Node) (name : BlockName) → SameOwner node (gained node name)
gained_same node (Data n) = record { uid = refl; gid = refl; sets_uid = refl; sets_gid = refl }
gained_same node (Ind k) = record {
  uid = refl;
  gid = refl;
  sets_uid = large_keeps node.mode (is_large node.mode);
  sets_gid = large_keeps_group node.mode (is_large node.mode);
}
gained_same node Dbl = record { uid = refl; gid = refl; sets_uid = refl; sets_gid = refl }

take_same : (base : Node) (names : List BlockName) (node : Node) (room : ℕ) → SameOwner base node
    → SameOwner base (take_names names node room).node
take_same base [] node room h = h
take_same base (name ∷ names) node room h =
    by (holds node name) (room == 0) (take_same base names node room h)
    (take_same base names (gained node name) (room - 1) (then_same base node (gained node name) h (gained_same node name)))
  where
    by : (held full : Bool) → SameOwner base (take_names names node room).node
        → SameOwner base (take_names names (gained node name) (room - 1)).node
        → SameOwner base (if held then take_names names node room else
        (if full then record { node = node; room = room; is_done = false } else take_names names (gained node name)
        (room - 1))).node
    by true full one two = one
    by false true one two = h
    by false false one two = two

module _ {Memory : Type 0} (put : Memory → ℕ → List ℕ → Option Memory) (base : Node) where
  going_same : (o : Option Memory) (next : Memory → Moving Memory) (end : Moving Memory) → SameOwner base end.node
      → ((m : Memory) → SameOwner base (next m).node) → SameOwner base (going_on o next end).node
  going_same None next end stops goes = stops
  going_same (Some m) next end stops goes = goes m

  cond_same : (is_done : Bool) (end next : Moving Memory) → SameOwner base end.node → SameOwner base next.node
      → SameOwner base (cond (not is_done) end next).node
  cond_same true end next stops goes = goes
  cond_same false end next stops goes = stops

  reading_same : (places : List (ℕ × ℕ)) (m : Moving Memory) → SameOwner base m.node → SameOwner base (reading put places m).node
  reading_same [] m h = h
  reading_same (piece ∷ rest) m h =
      let t : Touching = touching m.node m.room (piece.0 / 512) in
      let taken : SameOwner base t.node = take_same base (path_of (is_large m.node.mode) (piece.0 / 512)) m.node m.room h in
      cond_same _ _ _ taken
      (going_same _ _ _ taken
      (λ memory. reading_same rest
      (record { node = t.node; room = t.room; memory = memory; done = m.done + (piece.1 - piece.0); error = None }) taken))

  dated : (b : Bool) (time : ℕ) → SameOwner base (if b then base else record base { actime = time })
  dated true time = same_owner base
  dated false time = record { uid = refl; gid = refl; sets_uid = refl; sets_gid = refl }

  begins_same : (b : Bool) (node : Node) (room : ℕ) (memory : Memory) (places : List (ℕ × ℕ)) → SameOwner base node
      → SameOwner base (cond b (beginning node room memory) (reading put places (beginning node room memory))).node
  begins_same true node room memory places h = h
  begins_same false node room memory places h = reading_same places (beginning node room memory) h

  pub read_same : (room : ℕ) (memory : Memory) (at count time : ℕ)
      → SameOwner base (read_file put base room memory at count time).node
  read_same room memory at count time =
      begins_same (is_device base.mode) (if count == 0 then base else record base { actime = time }) room memory
      (pieces at (min base.size (at + count))) (dated (count == 0) time)

-- a node that is put at a key that has one
pub node_put : (store : Stores) (i : ℕ) (node : Node) (room : ℕ) → IsSome (node_numbered store i)
    → node_in (with_node store i node room) i ≡ node
node_put store i node room is = by (node_numbered store i) refl is
  where
    by : (o : Option Node) → node_numbered store i ≡ o → IsSome o → node_in (with_node store i node room) i ≡ node
    by (Some old) at there = ap (λ o. unwrap_or o no_node) (node_set store i room old node at)
    by None at there = absurd (cc there)

-- The text of a program is read from its file.
pub text_owner : (w : World) (s : ℕ) (program : Program) (b : Bool) → IsSome (node_numbered w.inodes.store program.ino)
    → SameOwner (node_at w program.ino) (node_at (reads_text b w s program) program.ino)
text_owner w s program false there = same_owner (node_at w program.ino)
text_owner w s program true there =
    let m : Moving (List ℕ) = text_read w program in
    subst (λ (node : Node). SameOwner (node_at w program.ino) node)
    (sym (node_put w.inodes.store program.ino m.node m.room there))
    (read_same put_kernel (node_at w program.ino) (room_at w.inodes.store program.ino) (replicate (text_room program) 0) 16
    (text_room program) w.clock.time)
