-- What a search for an entry that is to be removed refers to.
use Rattle.std.proofs.Common.{◌≡◌, ◌+◌, ◌-◌, ◌<◌, ℕ, Bool, true, false, cond, List, length, slice_index, slice_set, IsSome, Result, Ok, Err, IfOk, IfErr, refl, sym, ap, ◌∙◌, arith}
use Rattle.std.specs.Prelude.{not}
use Rattle.std.proofs.lemmas.Bool.{eq-eqb}
use Rattle.std.proofs.lemmas.List.{length-set}
use Rattle.v6_base.specs.Access.{then_do}
use Rattle.v6_base.specs.declared.errno.Errno.{Errno}
use Rattle.v6_base.specs.declared.errno.Errno.TheVariants.{ENFILE}
use Rattle.fs_nodes.specs.Keys.{Stores, counts, node_numbered}
use Rattle.fs_nodes.specs.FileSystem.{FileSystem, SameRest, IsFileSystem}
use Rattle.mount_tab.specs.Mounted.{MountTable}
use Rattle.fs_tree.specs.declared.user.User.{User}
use Rattle.fs_tree.specs.Mounting.{AreMounts}
use Rattle.fs_tree.specs.Path.{way, to_remove}
use Rattle.fs_tree.specs.Finding.{Inodes, Finding, inodes_of, can_refer, with_reference, put_back, refused, referring_both, removing, remove_in}
use Rattle.fs_tree.proofs.EntryLemmas.{removed_at, removed_used_at}
use Rattle.fs_tree.proofs.MountLemmas.{crosses_of}
use Rattle.sys_files.specs.Entering.{HasEntry, SameReferences, one_to, TwoReferencesMore}
use Rattle.sys_files.proofs.OwingLemmas.{once_more, once_less, put_counts}
use Rattle.sys_files.proofs.EnteringLemmas.{used_low, start_used, if_ok, if_err}

long_set : (r : List ℕ) (i x j : ℕ) → j < length r → j < length (slice_set r i x)
long_set r i x j low = let same = length-set r i x in omega (arith, same, low)

-- Both are referred to once more.
pub twice_more : (r : List ℕ) (a b i : ℕ) → a < length r → b < length r
    → slice_index (slice_set (slice_set r a (slice_index r a + 1)) b
    (slice_index (slice_set r a (slice_index r a + 1)) b + 1)) i ≡ slice_index r i + one_to a i + one_to b i
twice_more r a b i low_a low_b =
    let first = once_more r a i low_a in
    let second = once_more (slice_set r a (slice_index r a + 1)) b i (long_set r a (slice_index r a + 1) b low_b) in
    omega (arith, first, second)

-- Where the inode cannot be referred to, the directory is no longer.
pub more_and_less : (r : List ℕ) (a i : ℕ) → a < length r
    → slice_index (slice_set (slice_set r a (slice_index r a + 1)) a
    (slice_index (slice_set r a (slice_index r a + 1)) a - 1)) i ≡ slice_index r i
more_and_less r a i low =
    let own : one_to a a ≡ 1 = ap (λ t. cond t 1 0) (eq-eqb a a refl) in
    let here = once_more r a a low in
    let first = once_more r a i low in
    let second = once_less (slice_set r a (slice_index r a + 1)) a i (omega (arith, own, here)) in
    omega (arith, first, second)

abbrev Entry : Type 0
Entry = ℕ × ℕ × ℕ

abbrev with_both : Inodes → Entry → Inodes
with_both n e = with_reference (with_reference n e.0) e.2

record Removes (n : Inodes) (e : Entry) (r : Result Entry Errno) (new : Inodes) : Type 0 where
  pub entry : r ≡ Ok e
  pub inodes : new ≡ with_both n e

both_ok : (n : Inodes) (s t : Bool) (a e : Entry) (f : Finding Entry)
    → f ≡ cond (not s) (refused n ENFILE)
    (cond (not t) (refused (put_back (with_reference n a.0) a.0) ENFILE)
    (record { answer = Ok a; inodes = with_both n a })) → f.answer ≡ Ok e → Removes n e (Ok a) f.inodes
both_ok n false t a e f is ok = absurd (cc)
both_ok n true false a e f is ok = absurd (cc)
both_ok n true true a e f is ok =
    let same : a ≡ e = cc in
    record { entry = ap Ok same; inodes = ap (λ (g : Finding Entry). g.inodes) is ∙ ap (with_both n) same }

removing_ok : (n : Inodes) (r : Result Entry Errno) (e : Entry) → (removing n r).answer ≡ Ok e
    → Removes n e r (removing n r).inodes
removing_ok n (Ok a) e ok =
    both_ok n (can_refer n a.0) (can_refer (with_reference n a.0) a.2) a e (referring_both n a) refl ok
removing_ok n (Err x) e ok = absurd (cc)

-- what a refusal leaves
record Leaves (n new : Inodes) : Type 0 where
  pub references : (i : ℕ) → slice_index new.references i ≡ slice_index n.references i
  pub counts : counts new.store ≡ counts n.store

both_err : (n : Inodes) (s t : Bool) (a : Entry) (x : Errno) (f : Finding Entry) → a.0 < length n.references
    → f ≡ cond (not s) (refused n ENFILE)
    (cond (not t) (refused (put_back (with_reference n a.0) a.0) ENFILE)
    (record { answer = Ok a; inodes = with_both n a })) → f.answer ≡ Err x → Leaves n f.inodes
both_err n false t a x f low is err =
    record {
      references = λ i. ap (λ (g : Finding Entry). slice_index g.inodes.references i) is;
      counts = ap (λ (g : Finding Entry). counts g.inodes.store) is;
    }
both_err n true false a x f low is err =
    let one = with_reference n a.0 in
    record {
      references = λ i. ap (λ (g : Finding Entry). slice_index g.inodes.references i) is
          ∙ more_and_less n.references a.0 i low;
      counts = ap (λ (g : Finding Entry). counts g.inodes.store) is
          ∙ put_counts n.store a.0 (slice_index one.references a.0) (node_numbered n.store a.0);
    }
both_err n true true a x f low is err = absurd (cc)

removing_err : (n : Inodes) (r : Result Entry Errno) (x : Errno) → ((a : Entry) → r ≡ Ok a → a.0 < length n.references)
    → (removing n r).answer ≡ Err x → Leaves n (removing n r).inodes
removing_err n (Ok a) x low err =
    both_err n (can_refer n a.0) (can_refer (with_reference n a.0) a.2) a x (referring_both n a) (low a refl) refl err
removing_err n (Err y) x low err = record { references = λ i. refl; counts = refl }

module _ (fs new : FileSystem) (mounts : MountTable) (are : AreMounts mounts fs.store) (marks : List Bool) (user : User)
    (dir : ℕ)
    (bytes : List ℕ) (r : Result Entry Errno)
    (form : IsFileSystem fs) (referred : 0 < slice_index fs.references dir)
    (answer : r ≡ (remove_in (inodes_of fs) mounts marks user dir bytes).answer)
    (inodes : inodes_of new ≡ (remove_in (inodes_of fs) mounts marks user dir bytes).inodes)
    (blocks : SameRest fs new) where
  entry_used : (e : Entry) → then_do (way fs.store mounts user dir bytes) (to_remove fs.store mounts marks) ≡ Ok e
      → IsSome (node_numbered fs.store e.0) × IsSome (node_numbered fs.store e.2)
  entry_used e is = removed_used_at fs.store mounts (crosses_of fs.store mounts are form.second_root) marks user dir bytes e
      (start_used fs form dir bytes referred) is

  removed_is : (e : Entry) → r ≡ Ok e
      → Removes (inodes_of fs) e (then_do (way fs.store mounts user dir bytes) (to_remove fs.store mounts marks))
      (remove_in (inodes_of fs) mounts marks user dir bytes).inodes
  removed_is e ok = removing_ok (inodes_of fs) (then_do (way fs.store mounts user dir bytes) (to_remove fs.store mounts marks))
      e
      (sym answer ∙ ok)

  removed_both : (e : Entry) → r ≡ Ok e → TwoReferencesMore fs e.0 e.2 new
  removed_both e ok =
      let is = removed_is e ok in
      let used = entry_used e is.entry in
      record {
        references = λ i. ap (λ (n : Inodes). slice_index n.references i) (inodes ∙ is.inodes)
            ∙ twice_more fs.references e.0 e.2 i (used_low fs form e.0 used.0) (used_low fs form e.2 used.1);
        counts = ap (λ (n : Inodes). counts n.store) (inodes ∙ is.inodes);
        blocks = blocks;
      }

  pub removed_takes : IfOk r (λ e. TwoReferencesMore fs e.0 e.2 new)
  removed_takes = if_ok r (λ e. TwoReferencesMore fs e.0 e.2 new) removed_both

  pub removed_has : IfOk r (λ e. HasEntry new e.0 e.1)
  removed_has = if_ok r (λ e. HasEntry new e.0 e.1) (λ e ok.
      let is = removed_is e ok in
      let place = removed_at fs.store mounts marks user dir bytes e is.entry in
      let more = (removed_both e ok).references e.0 in
      let own : one_to e.0 e.0 ≡ 1 = ap (λ t. cond t 1 0) (eq-eqb e.0 e.0 refl) in
      let same : new.store ≡ fs.store = ap (λ (n : Inodes). n.store) (inodes ∙ is.inodes) in
      record {
        referenced = omega (arith, more, own);
        directory = λ node there. place.directory node (ap (λ (s : Stores). node_numbered s e.0) (sym same) ∙ there);
        begins = place.begins;
        small = place.small;
      })

  pub removed_none : IfErr r (λ e. SameReferences fs new)
  removed_none = if_err r (SameReferences fs new) (λ x err.
      let left = removing_err (inodes_of fs) (then_do (way fs.store mounts user dir bytes) (to_remove fs.store mounts marks)) x
      (λ a is. used_low fs form a.0 (entry_used a is).0) (sym answer ∙ err) in
      record {
        references = λ i. ap (λ (n : Inodes). slice_index n.references i) inodes ∙ left.references i;
        counts = ap (λ (n : Inodes). counts n.store) inodes ∙ left.counts;
        blocks = blocks;
      })
