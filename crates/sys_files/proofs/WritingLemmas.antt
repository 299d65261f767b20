-- Bytes of a memory that are written into a file, in one write or in two.
use Rattle.std.proofs.Common.{◌≡◌, ◌⊎◌, ◌+◌, ◌-◌, ◌%◌, ℕ, List, min, Option, Some, None, IsSome, unwrap_or, Result, Ok, Err, inl, inr, refl, sym, ap, ◌∙◌, subst, arith}
use Rattle.std.proofs.lemmas.Bool.{cases_lt}
use Rattle.v6_base.specs.Image.{Image}
use Rattle.v6_base.specs.Copy.{load_bytes}
use Rattle.v6_base.specs.declared.errno.Errno.{Errno}
use Rattle.v6_base.proofs.Copies.{load_wraps}
use Rattle.fs_codec.specs.Store.{Node}
use Rattle.fs_laws.specs.Pieces.{Moving, write_file}
use Rattle.fs_nodes.specs.Keys.{Stores, node_numbered, room_at, with_node}
use Rattle.fs_nodes.proofs.KeyLaws.{node_set, room_set}
use Rattle.fs_nodes.proofs.SetTwice.{node_twice}
use Rattle.fs_nodes.specs.Copy.{get_from, get_kernel}
use Rattle.fs_nodes.specs.FileSystem.{FileSystem}
use Rattle.fs_tree.specs.Entries.{written, answer_to, WritesEntry}
use Rattle.fs_tree.specs.Finding.{inodes_of}
use Rattle.sys_files.specs.Handed.{node_in, no_node}
use Rattle.sys_files.specs.Making.{entry_written}
use Rattle.sys_files.proofs.PartedWrites.{Alike, unless_ended, file_keeps, two_files}
use Rattle.pipe_ends.proofs.QueueWrites.{bytes_long}
use Rattle.sys_files.proofs.LoadedLemmas.{loaded_part}

-- a node that is there
pub node_there : (store : Stores) (ino : ℕ) → IsSome (node_numbered store ino)
    → node_numbered store ino ≡ Some (node_in store ino)
node_there store ino some = by (node_numbered store ino) some
  where
    by : (o : Option Node) → IsSome o → o ≡ Some (unwrap_or o no_node)
    by (Some node) some = refl
    by None some = absurd (cc)

-- what one write leaves that is alike to another
alike_leaves : (store : Stores) (ino : ℕ) (m x : Moving (Unit {0})) (last : Stores) (r : Result (Unit {0}) Errno) → Alike m x
    → WritesEntry store ino x last r
    → WritesEntry store ino m last r
alike_leaves store ino m x last r same w = record {
  store = w.store ∙ ap (λ n. with_node store ino n x.room) (sym same.node)
      ∙ ap (λ k. with_node store ino m.node k) (sym same.room);
  told = w.told ∙ ap answer_to (sym same.error);
}

-- what a write of bytes of the kernel's own leaves, as the answer and the inodes
pub entry_is : (old new : FileSystem) (ino offset : ℕ) (bytes : List ℕ) (now : ℕ) (r : Result (Unit {0}) Errno)
    → WritesEntry old.store ino (written old.store ino (node_in old.store ino) offset bytes now) new.store r
    → new.references ≡ old.references
    → (r ≡ (entry_written (inodes_of old) ino offset bytes now).answer)
    × (inodes_of new ≡ (entry_written (inodes_of old) ino offset bytes now).inodes)
entry_is old new ino offset bytes now r w references = (w.told, λ i. record { store = w.store i; references = references i })

refused_by : (o : Option Errno) (e : Errno) → Err e ≡ answer_to o → o ≡ Some e
refused_by None e is = absurd (cc)
refused_by (Some x) e is = by is
  where
    by : Err e ≡ answer_to (Some x) → Some x ≡ Some e
    by is = cc

done_by : (o : Option Errno) (u : Unit {0}) → Ok u ≡ answer_to o → o ≡ None
done_by None u is = refl
done_by (Some x) u is = absurd (cc)

-- Bytes of a memory are written, in two writes that meet at a block's end.
module _ (store middle last : Stores) (ino : ℕ) (image : Image) (at rest offset count k now : ℕ) (bytes : List ℕ)
    (loaded : load_bytes image at count ≡ Some bytes) (cut : k ≡ min count (32768 - offset % 512))
    (onward : rest ≡ (at + k) % 65536)
    (there : node_numbered store ino ≡ Some (node_in store ino))
  where
    abbrev n : ℕ
    n = count - k

    sum : count ≡ k + (count - k)
    sum = omega (arith, cut)

    border : ((offset + k) % 512 ≡ 0) ⊎ (count - k ≡ 0)
    border = elim (cases_lt k count) [
      | inl more ↦ inl (omega (arith, cut, more))
      | inr none ↦ inr (omega (arith, none))
    ]

    both : k ≡ 0 → count - k ≡ 0
    both none = omega (arith, cut, none)

    parts : load_bytes image at (k + (count - k)) ≡ Some bytes
    parts = ap (load_bytes image at) (sym sum) ∙ loaded

    abbrev first : Moving (Unit {0})
    first = write_file (get_from image at) (node_in store ino) (room_at store ino) (tt {0}) offset k now

    abbrev second : Moving (Unit {0})
    second = write_file (get_from image rest) first.node first.room (tt {0}) (offset + k) n now

    abbrev whole : Moving (Unit {0})
    whole = written store ino (node_in store ino) offset bytes now

    is_two : Alike whole (unless_ended first.error second first)
    is_two =
        subst (λ c. Alike (write_file (get_kernel bytes) (node_in store ino) (room_at store ino) (tt {0}) offset c now)
        (unless_ended first.error second first))
        (sym (bytes_long image at (k + n) bytes parts))
        (two_files offset k n (get_kernel bytes) (get_from image at) (get_from image rest) border
        (λ v j few. sym (loaded_part image at (k + n) v j bytes parts (omega (arith, few))))
        (λ v j few. sym (load_wraps image (rest + v) (at + (k + v)) j (omega (arith, onward)) ∙ loaded_part image at (k + n)
        (k + v) j bytes parts (omega (arith, few))))
        (node_in store ino) (room_at store ino) now both)

    -- The first is refused.
    pub first_refused : (e : Errno) → WritesEntry store ino first middle (Err e) → WritesEntry store ino whole middle (Err e)
    first_refused e w =
        alike_leaves store ino whole first middle (Err e)
        (subst (λ o. Alike whole (unless_ended o second first)) (refused_by first.error e w.told) is_two) w

    -- The second finds what the first left.
    pub second_written : (u : Unit {0}) (r : Result (Unit {0}) Errno) → WritesEntry store ino first middle (Ok u)
        → ((node : Node) → node_numbered middle ino ≡ Some node
        → WritesEntry middle ino (write_file (get_from image rest) node (room_at middle ino) (tt {0}) (offset + k) n now) last r)
        → WritesEntry store ino whole last r
    second_written u r w each =
        let found : node_numbered middle ino ≡ Some first.node =
        ap (λ (s : Stores). node_numbered s ino) w.store ∙ node_set store ino first.room (node_in store ino) first.node there in
        let wrote : WritesEntry (with_node store ino first.node first.room) ino second last r =
        subst (λ c. WritesEntry (with_node store ino first.node first.room) ino
        (write_file (get_from image rest) first.node c (tt {0}) (offset + k) n now) last r)
        (room_set store ino first.room first.node)
        (subst (λ (s : Stores). WritesEntry s ino
        (write_file (get_from image rest) first.node (room_at s ino) (tt {0}) (offset + k) n now) last r) w.store
        (each first.node found)) in
        let twice : last ≡ with_node store ino second.node second.room =
        wrote.store ∙ node_twice store ino first.node second.node first.room second.room
        (file_keeps (get_from image at) (node_in store ino) (room_at store ino) offset k now)
        (file_keeps (get_from image rest) first.node first.room (offset + k) n now) in
        alike_leaves store ino whole second last r
        (subst (λ o. Alike whole (unless_ended o second first)) (done_by first.error u w.told) is_two)
        (record { store = twice; told = wrote.told })
