-- References that go again.
use Rattle.std.proofs.Common.{◌≡◌, ◌+◌, ◌<◌, ◌≤◌, ◌==◌, ℕ, Bool, true, false, cond, List, slice_index, Ok, Err, refl, sym, ap, ◌∙◌, arith}
use Rattle.std.proofs.lemmas.Bool.{eq-eqb}
use Rattle.v6_base.specs.declared.errno.Errno.{Errno}
use Rattle.fs_nodes.proofs.RestLemmas.{rest_then}
use Rattle.fs_nodes.specs.Keys.{counts, node_numbered}
use Rattle.fs_nodes.specs.FileSystem.{FileSystem, SameRest, IsFileSystem}
use Rattle.mount_tab.specs.Mounted.{MountTable}
use Rattle.fs_tree.specs.Mounting.{AreMounts}
use Rattle.fs_tree.specs.declared.user.User.{User}
use Rattle.fs_tree.specs.Finding.{Inodes, inodes_of, find_in, put_back}
use Rattle.sys_files.specs.Entering.{SameReferences, one_to, OneReferenceMore, TwoReferencesMore}
use Rattle.sys_files.proofs.OwingLemmas.{once_less, put_counts}
use Rattle.fs_tree.proofs.NamingLemmas.{found_more, found_none, found_node}
use Rattle.sys_files.proofs.EnteringLemmas.{taken, takes_one, rest_same}

-- A reference to this inode has gone.
pub record OneReferenceLess (old : FileSystem) (ino : ℕ) (new : FileSystem) : Type 0 where
  pub references : (i : ℕ) → slice_index new.references i + one_to ino i ≡ slice_index old.references i
  pub counts : counts new.store ≡ counts old.store
  pub blocks : SameRest old new

pub gives : (old new : FileSystem) (ino : ℕ) → 0 < slice_index old.references ino
    → inodes_of new ≡ put_back (inodes_of old) ino → SameRest old new → OneReferenceLess old ino new
gives old new ino some is blocks = record {
  references = λ i. ap (λ (n : Inodes). slice_index n.references i + one_to ino i) is
      ∙ once_less old.references ino i some;
  counts = ap (λ (n : Inodes). counts n.store) is
      ∙ put_counts old.store ino (slice_index old.references ino) (node_numbered old.store ino);
  blocks = blocks;
}

pub takes_gives : (a b c : FileSystem) (ino : ℕ) → OneReferenceMore a ino b → OneReferenceLess b ino c
    → SameReferences a c
takes_gives a b c ino more less = record {
  references = λ i. (let m = more.references i in let l = less.references i in omega (arith, m, l));
  counts = less.counts ∙ more.counts;
  blocks = rest_then a.blocks b.blocks c.blocks more.blocks less.blocks;
}

-- a part of a call between both
pub takes_keeps_gives : (a b c d : FileSystem) (ino : ℕ) → OneReferenceMore a ino b → SameReferences b c
    → inodes_of d ≡ put_back (inodes_of c) ino → SameRest c d → SameReferences a d
takes_keeps_gives a b c d ino more kept is blocks =
    let some : 0 < slice_index c.references ino =
    (let m = taken a b ino more in let k = kept.references ino in omega (arith, m, k)) in
    let less = gives c d ino some is blocks in
    record {
      references = λ i. (let m = more.references i in let k = kept.references i in let l =
          less.references i in omega (arith, m, k, l));
      counts = less.counts ∙ kept.counts ∙ more.counts;
      blocks = rest_then a.blocks b.blocks d.blocks more.blocks
          (rest_then b.blocks c.blocks d.blocks kept.blocks less.blocks);
    }

-- Of two references the first goes, after a part of a call.
pub gives_first : (a b c d : FileSystem) (dir ino : ℕ) → TwoReferencesMore a dir ino b → SameReferences b c
    → inodes_of d ≡ put_back (inodes_of c) dir → SameRest c d → OneReferenceMore a ino d
gives_first a b c d dir ino more kept is blocks =
    let own : one_to dir dir ≡ 1 = ap (λ t. cond t 1 0) (eq-eqb dir dir refl) in
    let some : 0 < slice_index c.references dir =
    (let m = more.references dir in let k = kept.references dir in omega (arith, m, k, own)) in
    let less = gives c d dir some is blocks in
    record {
      references = λ i. (let m = more.references i in let k = kept.references i in let l =
          less.references i in omega (arith, m, k, l));
      counts = less.counts ∙ kept.counts ∙ more.counts;
      blocks = rest_then a.blocks b.blocks d.blocks more.blocks
          (rest_then b.blocks c.blocks d.blocks kept.blocks less.blocks);
    }

-- The references of a name that is found, and of one that is not.
pub found_takes : (fs new : FileSystem) (mounts : MountTable) (user : User) (dir : ℕ) (bytes : List ℕ) (ino : ℕ)
    → IsFileSystem fs
    → AreMounts mounts fs.store → 0 < slice_index fs.references dir
    → Ok ino ≡ (find_in (inodes_of fs) mounts user dir bytes).answer
    → inodes_of new ≡ (find_in (inodes_of fs) mounts user dir bytes).inodes → new.blocks ≡ fs.blocks
    → OneReferenceMore fs ino new
found_takes fs new mounts user dir bytes ino form are referred answer inodes blocks =
    takes_one fs form new ino (found_node fs mounts user dir bytes ino form are referred (sym answer))
    (inodes ∙ found_more (inodes_of fs) mounts user dir bytes ino (sym answer)) (rest_same fs.blocks new.blocks blocks)

pub found_keeps : (fs new : FileSystem) (mounts : MountTable) (user : User) (dir : ℕ) (bytes : List ℕ) (e : Errno)
    → Err e ≡ (find_in (inodes_of fs) mounts user dir bytes).answer
    → inodes_of new ≡ (find_in (inodes_of fs) mounts user dir bytes).inodes → new.blocks ≡ fs.blocks
    → SameReferences fs new
found_keeps fs new mounts user dir bytes e answer inodes blocks =
    let same = inodes ∙ found_none (inodes_of fs) mounts user dir bytes e (sym answer) in
    record {
      references = λ i. ap (λ (n : Inodes). slice_index n.references i) same;
      counts = ap (λ (n : Inodes). counts n.store) same;
      blocks = rest_same fs.blocks new.blocks blocks;
    }

-- One more is few still.
one_low : (ino i : ℕ) → one_to ino i ≤ 1
one_low ino i = by (ino == i) where
  by : (t : Bool) → cond t 1 0 ≤ 1
  by true = omega arith
  by false = omega arith

pub still_few : (old new : FileSystem) (ino : ℕ) → OneReferenceMore old ino new
    → ((i : ℕ) → slice_index old.references i ≤ 65500) → (i : ℕ) → slice_index new.references i ≤ 65530
still_few old new ino takes few i = let more = takes.references i in let one = one_low ino i in let f =
    few i in omega (arith, more, one, f)
