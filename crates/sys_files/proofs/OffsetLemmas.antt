-- An open file's next read or write begins elsewhere, and the files are as many and as often named as before.
use Rattle.std.proofs.Common.{◌≡◌, ◌<◌, ◌-◌, ℕ, Bool, List, length, get_or, cond, count_by, Option, Some, None, unwrap_or, IsSome, is_some, slice_index, slice_set, refl, sym, ap, ◌∙◌, inl, inr, arith}
use Rattle.std.proofs.lemmas.Bool.{cases_lt, cases_eq}
use Rattle.std.proofs.lemmas.List.{get_or-set_same, get_or-set_other, set_past}
use Rattle.v6_base.specs.Image.{Image}
use Rattle.fs_laws.specs.Pieces.{Moving}
use Rattle.fs_nodes.specs.Keys.{counts}
use Rattle.fs_nodes.proofs.KeyLaws.{counts_set}
use Rattle.sys_files.proofs.KeptLemmas.{still_mounts}
use Rattle.sys_files.specs.Moving.{with_moved}
use Rattle.proc_tab.specs.declared.row.Row.{Row}
use Rattle.u_area.specs.declared.area.UArea.{UArea}
use Rattle.open_files.specs.declared.file.OpenFile.{OpenFile}
use Rattle.open_files.specs.Files.{file_at, changed, with_change, with_offset}
use Rattle.sys_files.specs.declared.files.Files.{Files}
use Rattle.sys_files.specs.Handed.{Handed, handed, no_file, file_of}
use Rattle.sys_files.specs.Moving.{IsFileOf}
use Rattle.sys_files.specs.Sound.{is_of, numbers_of, IsSound, IsKept}
use Rattle.sys_files.proofs.OwedLemmas.{count_changed, file_referred}
use Rattle.sys_files.proofs.PipeLemmas.{pipes_with_change}
use Rattle.sys_files.proofs.StayingLemmas.{stays_with_change}

-- what does not depend on an offset is the same in each entry
pub entry_same : {X : Type 0} (q : Option OpenFile → X) (files : List (Option OpenFile)) (entry n e : ℕ)
    → ((o : Option OpenFile) → q (changed (with_offset n) o) ≡ q o) → q (file_at (with_change files entry (with_offset n)) e) ≡ q (file_at files e)
entry_same q files entry n e same =
    let o : Option OpenFile = changed (with_offset n) (file_at files entry) in
    elim (cases_eq e entry) [
      | inl here ↦ elim (cases_lt entry (length files)) [
        | inl low ↦
            ap (λ i. q (get_or (slice_set files entry o) i None)) here ∙ ap q (get_or-set_same files entry o None low) ∙ same (file_at files entry)
            ∙ ap (λ i. q (file_at files i)) (sym here)
        | inr past ↦ ap (λ l. q (get_or l e None)) (set_past files entry o past)
      ]
      | inr other ↦ ap q (get_or-set_other files entry e o None other)
    ]

-- and is counted as often
count_same : (p : Option OpenFile → Bool) (files : List (Option OpenFile)) (entry n : ℕ)
    → ((o : Option OpenFile) → p (changed (with_offset n) o) ≡ p o) → count_by p (with_change files entry (with_offset n)) ≡ count_by p files
count_same p files entry n same =
    let o : Option OpenFile = changed (with_offset n) (file_at files entry) in
    elim (cases_lt entry (length files)) [
      | inl low ↦
          let counts = count_changed p files entry o None low in
          let is : cond {A = ℕ} (p (get_or files entry None)) 1 0 ≡ cond (p o) 1 0 = ap (λ b. cond b 1 0) (sym (same (file_at files entry))) in
          omega (arith, counts, is)
      | inr past ↦ ap (count_by p) (set_past files entry o past)
    ]

used_same : (n : ℕ) (o : Option OpenFile) → is_some (changed (with_offset n) o) ≡ is_some o
used_same n None = refl
used_same n (Some file) = refl

numbers_same : (n : ℕ) (o : Option OpenFile) → numbers_of (changed (with_offset n) o) ≡ numbers_of o
numbers_same n None = refl
numbers_same n (Some file) = refl

of_same : (ino n : ℕ) (o : Option OpenFile) → is_of ino (changed (with_offset n) o) ≡ is_of ino o
of_same ino n None = refl
of_same ino n (Some file) = refl

-- The file of an entry in use, whose inode is referred to.
there : (files : List (Option OpenFile)) (entry : ℕ) (o : Option OpenFile) (file : OpenFile) → file_at files entry ≡ o → IsSome o → file ≡ unwrap_or o no_file → file_at files entry ≡ Some file
there files entry None file at used is = absurd (cc)
there files entry (Some x) file at used is = at ∙ ap Some (sym is)

-- the file of an entry in use, by what stands there
pub file_there : (h : Handed) (entry : ℕ) (file found : OpenFile) → file_at h.files entry ≡ Some file → found ≡ file_of h entry
    → file ≡ found
file_there h entry file found is of = sym (of ∙ ap (λ o. unwrap_or o no_file) is)

pub referred_there : (h : Handed) (entry : ℕ) (file : OpenFile) → IsSound h → IsSome (file_at h.files entry) → file ≡ file_of h entry → 0 < slice_index h.inodes.references file.ino
referred_there h entry file sound used is = file_referred h entry file sound (there h.files entry (file_at h.files entry) file refl used is)

pub is_file_of : (f : Files) (u : UArea) (row : Row) (image : Image) (entry : ℕ) (file : OpenFile) → IsSound (handed f u row image) → IsSome (file_at f.table entry)
    → file ≡ file_of (handed f u row image) entry → IsFileOf f entry file
is_file_of f u row image entry file sound used is = record {
  is = there f.table entry (file_at f.table entry) file refl used is;
  referred = referred_there (handed f u row image) entry file sound used is;
}

-- Each open file may have moved on.
pub kept_moved : (old new : Handed) (entry n : ℕ) → IsSound old → new.files ≡ with_change old.files entry (with_offset n)
    → new.pipes ≡ old.pipes → new.u.files ≡ old.u.files
    → new.u.dir ≡ old.u.dir → new.mounts ≡ old.mounts → new.inodes.references ≡ old.inodes.references
    → counts new.inodes.store ≡ counts old.inodes.store → IsKept old new
kept_moved old new entry n sound files pipes numbers dir mounts references same = record {
  is_open = rw (files, numbers) (λ fd some. entry_same is_some old.files entry n (slice_index old.u.files fd - 1) (used_same n) ∙ sound.is_open fd some);
  numbers = λ e. rw (files, numbers, entry_same numbers_of old.files entry n e (numbers_same n)) refl;
  references = λ ino. rw (files, dir, mounts, references, count_same (is_of ino) old.files entry n (of_same ino n)) refl;
  counts = same;
  mounts = still_mounts old.mounts new.mounts old.inodes.store new.inodes.store mounts same sound.mounts;
  pipes = rw (files, pipes) (pipes_with_change old.files old.pipes entry (with_offset n) (λ file. refl)
      (λ file. refl) sound.pipes);
  others = rw files (λ e file is fewer.
      stays_with_change old.files entry (with_offset n) (λ file. refl) (λ file. refl) e file is);
}

-- what a read or a write of a file has come to leaves as many inodes
pub moved_counts : {Memory : Type 0} (h : Handed) (entry : ℕ) (m : Moving Memory)
    → counts (with_moved h entry m).inodes.store ≡ counts h.inodes.store
moved_counts h entry m = counts_set h.inodes.store (file_of h entry).ino m.room m.node
