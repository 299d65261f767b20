-- A reference that goes, and a search for an entry that goes, leave the store of the other disk alone.
use Rattle.std.proofs.Common.{◌≡◌, ◌==◌, ℕ, Bool, true, false, not, cond, slice_index, Option, Some, None, Result, Ok, Err, MatchResult, sym, ap, subst}
use Rattle.v6_base.specs.declared.errno.Errno.{Errno}
use Rattle.v6_base.specs.declared.errno.Errno.TheVariants.{ENFILE}
use Rattle.fs_codec.specs.Store.{Node}
use Rattle.fs_nodes.specs.Keys.{Stores, OnItsDisk, node_numbered, without_reference}
use Rattle.fs_nodes.proofs.OtherDisk.{same_stores, gone_there}
use Rattle.fs_tree.specs.Finding.{Inodes, Finding, can_refer, with_reference, refused, put_in, put_back, removing}

pub put_there : (s : Stores) (key count : ℕ) (found : Option Node) → OnItsDisk s (put_in s key count found) key
put_there s key count None = same_stores s key
put_there s key count (Some node) = by (count == 1) where
  by : (t : Bool) → OnItsDisk s (cond t (without_reference s key node) s) key
  by true = gone_there s key node
  by false = same_stores s key

pub back_there : (n after : Inodes) (ino : ℕ) → after ≡ put_back n ino → OnItsDisk n.store after.store ino
back_there n after ino is =
    subst (λ (x : Inodes). OnItsDisk n.store x.store ino) (sym is)
    (put_there n.store ino (slice_index n.references ino) (node_numbered n.store ino))

pub removing_there : (n : Inodes) (entry : ℕ × ℕ × ℕ) → OnItsDisk n.store (removing n (Ok entry)).inodes.store entry.0
removing_there n entry = by (not (can_refer n entry.0)) (not (can_refer once entry.2)) where
  once : Inodes
  once = with_reference n entry.0

  by : (b c : Bool) → OnItsDisk n.store (cond {A = Finding (ℕ × ℕ × ℕ)} b (refused n ENFILE)
      (cond c (refused (put_back once entry.0) ENFILE)
      (record { answer = Ok entry; inodes = with_reference once entry.2 }))).inodes.store entry.0
  by true c = same_stores n.store entry.0
  by false true = put_there n.store entry.0 (slice_index once.references entry.0) (node_numbered n.store entry.0)
  by false false = same_stores n.store entry.0

pub removing_apart : (n after : Inodes) (sought : Result (ℕ × ℕ × ℕ) Errno) → after ≡ (removing n sought).inodes
    → MatchResult sought (λ entry. OnItsDisk n.store after.store entry.0) (λ e. after.store ≡ n.store)
removing_apart n after (Ok entry) is =
    subst (λ (x : Inodes). OnItsDisk n.store x.store entry.0) (sym is) (removing_there n entry)
removing_apart n after (Err e) is = ap (λ (x : Inodes). x.store) is
