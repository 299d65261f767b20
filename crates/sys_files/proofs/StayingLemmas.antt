-- Files of which other processes have numbers stay open where an entry is taken, changed or freed, where all entries change, and
-- after a part of a call.
-- `stays_opened`: open. `stays_with_change`: seek, read, write. `stays_changed`: dup, and close where numbers are left.
-- `stays_freed`: close of the last number. `stays_shared`: share.
-- `stays_after`: one part of a call after another, as all numbers are closed.
use Rattle.std.proofs.Common.{◌≡◌, ◌≢◌, ℕ, ◌+◌, ◌<◌, ◌≤◌, List, Option, Some, None, slice_set, refl, sym, ap, ◌∙◌, inl, inr, arith}
use Rattle.std.proofs.lemmas.Bool.{cases_eq}
use Rattle.std.proofs.lemmas.Option.{same_Some}
use Rattle.std.proofs.lemmas.List.{get_or-set_same}
use Rattle.open_files.specs.declared.file.OpenFile.{OpenFile}
use Rattle.open_files.specs.Files.{file_at, times, changed, with_change}
use Rattle.sys_files.specs.Sound.{StaysOpen, numbers_of}
use Rattle.sys_files.proofs.OwedLemmas.{used_low}
use Rattle.sys_files.proofs.PipeLemmas.{set_other, free_other}

-- Each file of which another process has a number stays open: the old table, the numbers of the process that calls, and the new
-- table.
abbrev pub Stay : List (Option OpenFile) → List ℕ → List (Option OpenFile) → Type 0
Stay files mine new = (entry : ℕ) (file : OpenFile) → file_at files entry ≡ Some file → times mine entry < file.count
    → StaysOpen new entry file

-- Each file stays open, also where no other process has it.
abbrev pub AllStay : List (Option OpenFile) → List (Option OpenFile) → Type 0
AllStay files new = (entry : ℕ) (file : OpenFile) → file_at files entry ≡ Some file → StaysOpen new entry file

-- one step after another
pub stays_then : (files now new : List (Option OpenFile)) (mine : List ℕ) → Stay files mine now → AllStay now new
    → Stay files mine new
stays_then files now new mine others all entry file is fewer =
    let s = others entry file is fewer in
    let t = all entry s.now s.there in
    record { now = t.now; there = t.there; ino = t.ino ∙ s.ino; kind = t.kind ∙ s.kind }

-- An entry that is as it was stays open.
pub stays_there : (new : List (Option OpenFile)) (entry : ℕ) (file : OpenFile) → file_at new entry ≡ Some file
    → StaysOpen new entry file
stays_there new entry file is = record { now = file; there = is; ino = refl; kind = refl }

-- A file changes in its entry, and stays one of its inode and its kind.
pub stays_changed : (files : List (Option OpenFile)) (entry : ℕ) (file now : OpenFile) → file_at files entry ≡ Some file
    → now.ino ≡ file.ino → now.kind ≡ file.kind → AllStay files (slice_set files entry (Some now))
stays_changed files entry file now is ino kind e f at = elim (cases_eq e entry) [
  | inl same ↦
      let was : file ≡ f = same_Some file f (sym is ∙ (ap (file_at files) (sym same) ∙ at)) in
      record {
        now = now;
        there = ap (file_at (slice_set files entry (Some now))) same
            ∙ get_or-set_same files entry (Some now) None (used_low files entry file is);
        ino = ino ∙ ap (λ (x : OpenFile). x.ino) was;
        kind = kind ∙ ap (λ (x : OpenFile). x.kind) was;
      }
  | inr other ↦ stays_there (slice_set files entry (Some now)) e f (set_other files entry e (Some now) f other at)
]

-- An entry is taken that was free.
pub stays_opened : (files : List (Option OpenFile)) (entry : ℕ) (o : Option OpenFile) → file_at files entry ≡ None
    → AllStay files (slice_set files entry o)
stays_opened files entry o free e f at =
    stays_there (slice_set files entry o) e f (set_other files entry e o f (free_other files entry e f free at) at)

-- The file of an entry changes, where it has one, and neither its inode nor its kind.
pub stays_with_change : (files : List (Option OpenFile)) (entry : ℕ) (change : OpenFile → OpenFile)
    → ((file : OpenFile) → (change file).ino ≡ file.ino) → ((file : OpenFile) → (change file).kind ≡ file.kind)
    → AllStay files (with_change files entry change)
stays_with_change files entry change ino kind = by (file_at files entry) refl
  where
    by : (o : Option OpenFile) → file_at files entry ≡ o → AllStay files (slice_set files entry (changed change o))
    by (Some file) is = stays_changed files entry file (change file) is (ino file) (kind file)
    by None is = stays_opened files entry None is

-- An entry is freed of which the process has all the numbers.
pub stays_freed : (files : List (Option OpenFile)) (mine : List ℕ) (entry : ℕ) (file : OpenFile)
    → file_at files entry ≡ Some file → file.count ≤ times mine entry
    → Stay files mine (slice_set files entry None)
stays_freed files mine entry file is all e f at fewer =
    let other : e ≢ entry = (λ same.
    let alike : file ≡ f = same_Some file f (sym is ∙ (ap (file_at files) (sym same) ∙ at)) in
    let count = ap (λ (x : OpenFile). x.count) alike in
    let named = ap (times mine) same in
    omega (arith, all, fewer, count, named)) in
    stays_there (slice_set files entry None) e f (set_other files entry e None f other at)

-- A part of a call after another that counts the numbers: who has a number of a file before has one between them.
pub stays_after : (a b c : List (Option OpenFile)) (first second : List ℕ) → Stay a first b
    → ((entry : ℕ) → numbers_of (file_at b entry) + times first entry ≡ numbers_of (file_at a entry) + times second entry)
    → Stay b second c → Stay a first c
stays_after a b c first second before counted after entry file is fewer =
    let s = before entry file is fewer in
    let count = counted entry in
    let was : numbers_of (file_at a entry) ≡ file.count = ap numbers_of is in
    let now : numbers_of (file_at b entry) ≡ s.now.count = ap numbers_of s.there in
    let t = after entry s.now s.there (omega (arith, count, was, now, fewer)) in
    record { now = t.now; there = t.there; ino = t.ino ∙ s.ino; kind = t.kind ∙ s.kind }
