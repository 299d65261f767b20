-- How many references open files and the current directory make, and how many numbers name an entry, when one of them changes.
use Rattle.std.proofs.Common.{◌≡◌, ℕ, Bool, true, ◌+◌, ◌<◌, ◌≤◌, List, length, get_or, cond, eqb, count_by, Option, Some, None, slice_index, slice_set, refl, sym, ap, ◌∙◌, inl, inr, arith}
use Rattle.std.proofs.lemmas.Bool.{eq-eqb, cases_lt}
use Rattle.std.proofs.lemmas.Option.{none-some}
use Rattle.std.proofs.lemmas.List.{get_or_past}
use Rattle.std.proofs.lemmas.List.Sums.{sum_by-set, get_or-le-sum_by}
use Rattle.open_files.specs.declared.file.OpenFile.{OpenFile}
use Rattle.open_files.specs.Files.{file_at}
use Rattle.sys_files.specs.Handed.{Handed}
use Rattle.sys_files.specs.Sound.{is_of, owed, IsSound}

-- a count, when one place of a list has changed
pub count_changed : {X : Type 0} (p : X → Bool) (xs : List X) (i : ℕ) (y d : X) → i < length xs
    → count_by p (slice_set xs i y) + cond (p (get_or xs i d)) 1 0 ≡ count_by p xs + cond (p y) 1 0
count_changed p xs i y d low = sum_by-set (λ x. cond (p x) 1 0) xs i y d low

-- what passes at a place is counted
pub counted : {X : Type 0} (p : X → Bool) (xs : List X) (i : ℕ) (d : X) → i < length xs → p (get_or xs i d) ≡ true → 1 ≤ count_by p xs
counted p xs i d low is = let least = get_or-le-sum_by (λ x. cond (p x) 1 0) xs i d low in let one : cond {A = ℕ} (p (get_or xs i d)) 1 0 ≡ 1 = ap (λ b. cond b 1 0) is in omega (arith, least, one)

-- an entry in use is one of the table
pub used_low : (files : List (Option OpenFile)) (entry : ℕ) (file : OpenFile) → file_at files entry ≡ Some file → entry < length files
used_low files entry file is = elim (cases_lt entry (length files)) [
  | inl low ↦ low
  | inr past ↦ absurd (none-some file (sym (get_or_past files entry None past) ∙ is))
]

-- an open file refers to its inode, and the process to its directory
pub owed_file : (h : Handed) (entry : ℕ) (file : OpenFile) → file_at h.files entry ≡ Some file → 1 ≤ owed h file.ino
owed_file h entry file is =
    let own : is_of file.ino (file_at h.files entry) ≡ true = ap (is_of file.ino) is ∙ eq-eqb file.ino file.ino refl in
    let least : 1 ≤ count_by (is_of file.ino) h.files = counted (is_of file.ino) h.files entry None (used_low h.files entry file is) own in
    omega (arith, least)

pub owed_directory : (h : Handed) → 1 ≤ owed h h.u.dir
owed_directory h = let own : cond {A = ℕ} (eqb h.u.dir h.u.dir) 1 0 ≡ 1 = ap (λ b. cond b 1 0) (eq-eqb h.u.dir h.u.dir refl) in omega (arith, own)

pub file_referred : (h : Handed) (entry : ℕ) (file : OpenFile) → IsSound h → file_at h.files entry ≡ Some file → 0 < slice_index h.inodes.references file.ino
file_referred h entry file sound is = let least = owed_file h entry file is in let most = sound.referred file.ino in omega (arith, least, most)

pub directory_referred : (h : Handed) → IsSound h → 0 < slice_index h.inodes.references h.u.dir
directory_referred h sound = let least = owed_directory h in let most = sound.referred h.u.dir in omega (arith, least, most)
