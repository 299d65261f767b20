-- What is ready can be called on, and stays ready through every call that keeps what it must.
use Rattle.std.proofs.Common.{◌≡◌, ◌+◌, ◌*◌, cond, eqb, ◌<◌, ◌≤◌, ◌==◌, ℕ, zero, suc, List, replicate, slice_index, Option, Some, None, [], refl, sym, ap, ◌∙◌, subst, arith, if◌then◌else◌, Bool, true, false}
use Rattle.std.specs.Prelude.{count_by}
use Rattle.std.proofs.lemmas.Bool.{eqb-true, ne_eqb}
use Rattle.std.proofs.lemmas.List.Folds.{sum_by-replicate}
use Rattle.std.proofs.lemmas.Option.{none-some}
use Rattle.open_files.specs.declared.file.OpenFile.{OpenFile}
use Rattle.open_files.specs.Files.{file_at, times}
use Rattle.fs_codec.specs.Store.{Store}
use Rattle.fs_nodes.specs.FileSystem.{FileSystem}
use Rattle.fs_nodes.specs.Keys.{counts}
use Rattle.mount_tab.specs.Mounted.{MountTable, is_the}
use Rattle.fs_tree.specs.Mounting.{AreMounts}
use Rattle.pipe_ends.specs.declared.ends.Pipe.{Pipe}
use Rattle.sys_files.specs.Handed.{Handed}
use Rattle.sys_files.specs.Pipes.{ArePipes}
use Rattle.sys_files.specs.Sound.{IsKept, is_of}
use Rattle.file_rows.specs.Ready.{FitsDisks, IsReady}

-- The mount table fits the stores where it has their numbers of inodes, and else not.
fits_of : (mounts : MountTable) (root : Store) (second : Option Store) → AreMounts mounts (record { root = root; second = second })
    → FitsDisks mounts (counts (record { root = root; second = second }))
fits_of mounts root None are = record { first = are.first; second = are.second; covered = are.covered }
fits_of mounts root (Some s) are = record { first = are.first; second = are.second; covered = λ some. refl }

pub kept_ready : (old new : Handed)
    → IsReady old.files old.pipes old.u.files old.u.dir old.mounts old.inodes.references (counts old.inodes.store) → IsKept old new
    → IsReady new.files new.pipes new.u.files new.u.dir new.mounts new.inodes.references (counts new.inodes.store)
kept_ready old new ready kept = record {
  is_open = kept.is_open;
  counted = λ entry.
      let a = ready.counted entry in
      let b = kept.numbers entry in
      omega (arith, a, b);
  referred = λ ino.
      let a = ready.referred ino in
      let b = kept.references ino in
      omega (arith, a, b);
  few = λ ino.
      let a = ready.few ino in
      let b = kept.references ino in
      omega (arith, a, b);
  piped = kept.pipes;
  fits = fits_of new.mounts new.inodes.store.root new.inodes.store.second kept.mounts;
}

zeros : (n i : ℕ) → slice_index (replicate n 0) i ≡ 0
zeros zero i = refl
zeros (suc n) zero = refl
zeros (suc n) (suc i) = zeros n i

named_by_none : (n entry : ℕ) → times (replicate n 0) entry ≡ 0
named_by_none n entry =
    let other : eqb 0 (entry + 1) ≡ false = ne_eqb 0 (entry + 1) (λ e. omega (arith, e)) in
    let nothing : cond {A = ℕ} (eqb 0 (entry + 1)) 1 0 ≡ 0 = ap (λ b. cond b 1 0) other in
    let all = sum_by-replicate (λ number. cond (eqb number (entry + 1)) 1 0) n 0 in
    let product : n * cond {A = ℕ} (eqb 0 (entry + 1)) 1 0 ≡ n * 0 = ap (λ k. n * k) nothing in
    omega (arith, all, product)

all_free : (n entry : ℕ) → file_at (replicate n None) entry ≡ None
all_free zero entry = refl
all_free (suc n) zero = refl
all_free (suc n) (suc entry) = all_free n entry

none_of : (n ino : ℕ) → count_by (is_of ino) (replicate n None) ≡ 0
none_of n ino = let all = sum_by-replicate (λ file. cond (is_of ino file) 1 0) n None in omega (arith, all)

owing_root : (ino : ℕ) (references : List ℕ) (b : Bool) → (1 == ino) ≡ b → 0 < slice_index references 1 → (if b then 1 else 0) ≤ slice_index references ino
owing_root ino references true e root = let P : ℕ → Type 0 = λ i. 1 ≤ slice_index references i in subst P (eqb-true 1 ino e) (omega (arith, root))
owing_root ino references false e root = omega arith

-- Where no file is open, no pipe is.
no_pipes : ArePipes (replicate 100 None) []
no_pipes = record {
  there = λ entry file is pipe. absurd (none-some file (sym (all_free 100 entry) ∙ is));
  ended = λ i low. absurd (omega (arith, low));
  once = λ i low. absurd (omega (arith, low));
}

-- Nothing is open, and the process is in the root.
begins : (mounts : MountTable) (fs : FileSystem) → AreMounts mounts fs.store → mounts.covered ≡ None
    → ((i : ℕ) → slice_index fs.references i ≤ 2) → 0 < slice_index fs.references 1
    → IsReady (replicate 100 None) [] (replicate 15 0) 1 mounts fs.references (counts fs.store)
begins mounts fs are uncovered few root = record {
  is_open = λ fd used. let z = zeros 15 fd in absurd (omega (arith, used, z));
  counted = λ entry. let z = named_by_none 15 entry in omega (arith, z);
  referred = λ ino.
      let n = none_of 100 ino in
      let o = owing_root ino fs.references (1 == ino) refl root in
      let c : cond {A = ℕ} (is_the mounts.covered ino) 1 0 ≡ 0 = ap (λ o. cond {A = ℕ} (is_the o ino) 1 0) uncovered in
      omega (arith, n, o, c);
  few = λ ino. let f = few ino in omega (arith, f);
  piped = no_pipes;
  fits = fits_of mounts fs.store.root fs.store.second are;
}

pub begun : (files : List (Option OpenFile)) (pipes : List Pipe) (mounts : MountTable) (old new : FileSystem)
    → files ≡ replicate 100 None → pipes ≡ [] → new ≡ old → AreMounts mounts old.store → mounts.covered ≡ None
    → ((i : ℕ) → slice_index old.references i ≤ 2) → 0 < slice_index old.references 1
    → IsReady files pipes (replicate 15 0) 1 mounts new.references (counts new.store)
begun files pipes mounts old new free none here are uncovered few root =
    let P : List (Option OpenFile) → Type 0 = λ l. IsReady l pipes (replicate 15 0) 1 mounts new.references (counts new.store) in
    let Q : List Pipe → Type 0 = λ l.
    IsReady (replicate 100 None) l (replicate 15 0) 1 mounts new.references (counts new.store) in
    let R : FileSystem → Type 0 = λ fs.
    IsReady (replicate 100 None) [] (replicate 15 0) 1 mounts fs.references (counts fs.store) in
    subst P (sym free) (subst Q (sym none) (subst R (sym here) (begins mounts old are uncovered few root)))
