-- What a call keeps that gives back what it has taken.
use Rattle.std.proofs.Common.{◌≡◌, ℕ, slice_index, refl, sym, ap, subst, arith}
use Rattle.fs_nodes.specs.Keys.{Stores, counts}
use Rattle.fs_tree.specs.Mounting.{AreMounts}
use Rattle.fs_tree.proofs.MountLemmas.{mounts_stay}
use Rattle.mount_tab.specs.Mounted.{MountTable}
use Rattle.sys_files.specs.Handed.{Handed}
use Rattle.sys_files.specs.Sound.{owed, IsSound, IsKept}
use Rattle.sys_files.proofs.StayingLemmas.{stays_there}

-- The mount table stays, and fits.
pub still_mounts : (m n : MountTable) (old new : Stores) → n ≡ m → counts new ≡ counts old → AreMounts m old → AreMounts n new
still_mounts m n old new is same are = subst (λ (x : MountTable). AreMounts x new) (sym is) (mounts_stay m old new same are)

-- Nothing has changed that counts numbers and references.
pub kept_references : (old new : Handed) → IsSound old → new.files ≡ old.files → new.pipes ≡ old.pipes
    → new.u.files ≡ old.u.files → new.u.dir ≡ old.u.dir → new.mounts ≡ old.mounts
    → ((i : ℕ) → slice_index new.inodes.references i ≡ slice_index old.inodes.references i)
    → counts new.inodes.store ≡ counts old.inodes.store
    → IsKept old new
kept_references old new sound files pipes numbers dir mounts references same = record {
  is_open = rw (files, numbers) sound.is_open;
  numbers = λ entry. rw (files, numbers) refl;
  references = λ i.
      let owes : owed new i ≡ owed old i = rw (files, dir, mounts) refl in
      let is = references i in
      omega (arith, owes, is);
  counts = same;
  mounts = still_mounts old.mounts new.mounts old.inodes.store new.inodes.store mounts same sound.mounts;
  pipes = rw (files, pipes) sound.pipes;
  others = rw files (λ entry file is few. stays_there old.files entry file is);
}

-- the same, where the references are one list
pub kept_same : (old new : Handed) → IsSound old → new.files ≡ old.files → new.pipes ≡ old.pipes → new.u.files ≡ old.u.files
    → new.u.dir ≡ old.u.dir → new.mounts ≡ old.mounts
    → new.inodes.references ≡ old.inodes.references → counts new.inodes.store ≡ counts old.inodes.store → IsKept old new
kept_same old new sound files pipes numbers dir mounts references same =
    kept_references old new sound files pipes numbers dir mounts (λ i. ap (λ l. slice_index l i) references) same
