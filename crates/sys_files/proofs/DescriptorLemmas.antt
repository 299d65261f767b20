-- The rows of dup and close, by their tests.
use Rattle.std.proofs.Common.{◌≡◌, ◌≢◌, ◌⊎◌, Result, ℕ, Bool, true, false, ◌+◌, ◌<◌, ◌==◌, List, [], ◌++◌, Option, Some, None, is_none, IsSome, slice_index, slice_set, subst, inl, inr, refl, sym, ap, ◌∙◌, arith, cond, unwrap_or, Ok, Err}
use Rattle.std.proofs.lemmas.Bool.{ne_eqb, eq-eqb, cases_eq}
use Rattle.std.proofs.lemmas.Option.{none-some, same_Some}
use Rattle.std.proofs.lemmas.List.{get_or-set_same, get_or-set_other}
use Rattle.v6_base.specs.declared.errno.Errno.{Errno}
use Rattle.v6_base.specs.declared.errno.Errno.TheVariants.{EBADF, EMFILE}
use Rattle.open_files.specs.declared.file.OpenFile.{OpenFile}
use Rattle.open_files.specs.declared.file.Closed.{Closed}
use Rattle.open_files.specs.declared.file.Closed.TheVariants.{Still, Last}
use Rattle.open_files.specs.Files.{file_at, entry_of, free_number, with_fewer, closed, left, Dups, Drops, dup_error}
use Rattle.sys_files.specs.Handed.{Handed, r0, no_file, file_of, with_number}
use Rattle.sys_files.specs.Did.{Did, check, need, fails, returns}
use Rattle.sys_files.specs.Descriptors.{Closing, open_entry, dup_file, released, told_by, dropped, closes, then_closes, AreReferred}
use Rattle.sys_files.specs.Sound.{IsSound}
use Rattle.sys_files.proofs.CheckLemmas.{check_ok, need_there}
use Rattle.sys_files.proofs.OwedLemmas.{file_referred, used_low}

-- a number that is open, and one that is not
pub entry_open : (h : Handed) (fd : ℕ) → 0 < slice_index h.u.files fd → (slice_index h.u.files fd == 0) ≡ false
entry_open h fd some = ne_eqb (slice_index h.u.files fd) 0 (λ is. omega (arith, is, some))

pub entry_ok : (h : Handed) (fd : ℕ) → 0 < slice_index h.u.files fd → open_entry h fd ≡ Ok (entry_of h.u.files fd)
entry_ok h fd some = ap (λ t. cond {A = Result ℕ Errno} t (Err EBADF) (Ok (entry_of h.u.files fd))) (entry_open h fd some)

pub entry_err : (h : Handed) (fd : ℕ) → slice_index h.u.files fd ≡ 0 → open_entry h fd ≡ Err EBADF
entry_err h fd none = ap (λ t. cond {A = Result ℕ Errno} t (Err EBADF) (Ok (entry_of h.u.files fd))) (eq-eqb (slice_index h.u.files fd) 0 none)

-- A number is given once more.
pub dup_done : (h : Handed) (free : ℕ) (files : List (Option OpenFile)) (numbers : List ℕ) → Dups h.files h.u.files (r0 h) free files numbers
    → dup_file h ≡ returns (record h { files = files; u = record h.u { files = numbers } }) free
dup_done h free files numbers d =
    let entry : ℕ = entry_of h.u.files (r0 h) in
    let more : entry + 1 ≡ slice_index h.u.files (r0 h) = let some = d.0 in omega arith in
    check_ok h (open_entry h (r0 h)) _ entry (entry_ok h (r0 h) d.0)
    ∙ need_there h EMFILE (free_number h.u.files) _ free d.1
    ∙ ap (λ l. returns (record h { files = l; u = with_number h.u free (entry + 1) }) free) (sym d.2)
    ∙ ap (λ n. returns (record h { files = files; u = with_number h.u free n }) free) more
    ∙ ap (λ l. returns (record h { files = files; u = record h.u { files = l } }) free) (sym d.3)

refused_by : (h : Handed) (t : Bool) (entry : ℕ) (o : Option ℕ) (next : ℕ → ℕ → Did) (e : Errno) → cond t (Some EBADF) (cond (is_none o) (Some EMFILE) None) ≡ Some e
    → check h (cond t (Err EBADF) (Ok entry)) (λ entry. check h (need EMFILE o) (next entry)) ≡ fails h e
refused_by h true entry o next e is = ap (fails h) (same_Some EBADF e is)
refused_by h false entry None next e is = ap (fails h) (same_Some EMFILE e is)
refused_by h false entry (Some fd) next e is = absurd (none-some e is)

pub dup_refused : (h : Handed) (e : Errno) → dup_error h.u.files (r0 h) ≡ Some e → dup_file h ≡ fails h e
dup_refused h e is = refused_by h (slice_index h.u.files (r0 h) == 0) (entry_of h.u.files (r0 h)) (free_number h.u.files) _ e is

-- what a number lets go
pub told_is : (h : Handed) (fd : ℕ) (told : Closed) (files : List (Option OpenFile)) (numbers : List ℕ) → Drops h.files h.u.files fd told files numbers → told ≡ told_by h fd
told_is h fd told files numbers d = d.3 ∙ ap closed (sym (same_file h (entry_of h.u.files fd) d.1 d.2))
  where
    same_file : (h : Handed) (entry : ℕ) (file : OpenFile) → file_at h.files entry ≡ Some file → file_of h entry ≡ file
    same_file h entry file is = ap (λ o. unwrap_or o no_file) is

pub dropped_is : (h : Handed) (fd : ℕ) (told : Closed) (files : List (Option OpenFile)) (numbers : List ℕ) → Drops h.files h.u.files fd told files numbers
    → ◌≡◌ {A = Handed} (record h { files = files; u = record h.u { files = numbers } }) (dropped h fd)
dropped_is h fd told files numbers d =
    ap (λ l. record h { files = l; u = record h.u { files = numbers } }) d.4
    ∙ ap (λ t. record h { files = slice_set h.files (entry_of h.u.files fd) (left t); u = record h.u { files = numbers } }) (told_is h fd told files numbers d)
    ∙ ap (λ l. record (dropped h fd) { u = record h.u { files = l } }) d.5

-- A number that is open is closed, and one that is not stays.
pub closes_open : (c : Closing) (fd : ℕ) → 0 < slice_index c.state.u.files fd
    → then_closes c fd ≡ record { state = (closes c.state fd).state; items = c.items ++ (closes c.state fd).items }
closes_open c fd some = ap (λ t. cond t c (record { state = (closes c.state fd).state; items = c.items ++ (closes c.state fd).items })) (entry_open c.state fd some)

pub closes_not : (c : Closing) (fd : ℕ) → slice_index c.state.u.files fd ≡ 0 → then_closes c fd ≡ c
closes_not c fd none = ap (λ t. cond t c (record { state = (closes c.state fd).state; items = c.items ++ (closes c.state fd).items })) (eq-eqb (slice_index c.state.u.files fd) 0 none)

-- What a number lets go is referred to, and so is each file that is still open.
pub same_file : (h : Handed) (entry : ℕ) → IsSome (file_at h.files entry) → file_at h.files entry ≡ Some (file_of h entry)
same_file h entry used = there (file_at h.files entry) used
  where
    there : (o : Option OpenFile) → IsSome o → o ≡ Some (unwrap_or o no_file)
    there (Some file) used = refl
    there None used = absurd (cc)

told_ino : (file last : OpenFile) → closed file ≡ Last last → last.ino ≡ file.ino
told_ino file last is = by (file.count == 1) is
  where
    by : (t : Bool) → cond t (Last (with_fewer file)) (Still (with_fewer file)) ≡ Last last → last.ino ≡ file.ino
    by true is = cc
    by false is = absurd (cc)

pub told_referred : (h : Handed) (fd : ℕ) (last : OpenFile) → IsSound h → 0 < slice_index h.u.files fd → told_by h fd ≡ Last last
    → 0 < slice_index h.inodes.references last.ino
told_referred h fd last sound some is =
    let entry : ℕ = entry_of h.u.files fd in
    let P : ℕ → Type 0 = λ i. 0 < slice_index h.inodes.references i in
    subst P (sym (told_ino (file_of h entry) last is)) (file_referred h entry (file_of h entry) sound (same_file h entry (sound.is_open fd some)))

left_ino : (file rest : OpenFile) → left (closed file) ≡ Some rest → rest.ino ≡ file.ino
left_ino file rest is = by (file.count == 1) is
  where
    by : (t : Bool) → left (cond t (Last (with_fewer file)) (Still (with_fewer file))) ≡ Some rest → rest.ino ≡ file.ino
    by true is = absurd (none-some rest is)
    by false is = cc

pub others_referred : (h : Handed) (fd : ℕ) → IsSound h → 0 < slice_index h.u.files fd → AreReferred (dropped h fd).files h.inodes.references
others_referred h fd sound some e file is =
    let entry : ℕ = entry_of h.u.files fd in
    let P : ℕ → Type 0 = λ i. 0 < slice_index h.inodes.references i in
    elim (cases_eq e entry) [
      | inl same ↦
          let now : left (told_by h fd) ≡ Some file = sym (get_or-set_same h.files entry (left (told_by h fd)) None (used_low h.files entry (file_of h entry) (same_file h entry (sound.is_open fd some)))) ∙ (ap (file_at (dropped h fd).files) (sym same) ∙ is) in
          subst P (sym (left_ino (file_of h entry) file now)) (file_referred h entry (file_of h entry) sound (same_file h entry (sound.is_open fd some)))
      | inr other ↦ file_referred h e file sound (sym (get_or-set_other h.files entry e (left (told_by h fd)) None other) ∙ is)
    ]

-- What closing comes to, once the number names no file.
pub closes_by : (h now : Handed) (fd : ℕ) (told : Closed) → 0 < slice_index h.u.files fd → told ≡ told_by h fd → now ≡ dropped h fd
    → released now told ≡ then_closes (record { state = h; items = [] }) fd
closes_by h now fd told some is same = ap (released now) is ∙ ap (λ (n : Handed). released n (told_by h fd)) same ∙ sym (closes_open (record { state = h; items = [] }) fd some)

-- what a test has found
pub entry_is : (h : Handed) (fd entry : ℕ) → open_entry h fd ≡ Ok entry → (0 < slice_index h.u.files fd) × (entry ≡ entry_of h.u.files fd)
entry_is h fd entry is = by (cases_eq (slice_index h.u.files fd) 0)
  where
    by : (slice_index h.u.files fd ≡ 0) ⊎ (slice_index h.u.files fd ≢ 0) → (0 < slice_index h.u.files fd) × (entry ≡ entry_of h.u.files fd)
    by (inl none) = let err : open_entry h fd ≡ Err EBADF = entry_err h fd none in absurd (cc)
    by (inr some) = let ok : open_entry h fd ≡ Ok (entry_of h.u.files fd) = entry_ok h fd (omega (arith, some)) in (omega (arith, some), cc)

pub need_is : {A : Type 0} (e : Errno) (o : Option A) (a : A) → need e o ≡ Ok a → o ≡ Some a
need_is e (Some x) a is = cc
need_is e None a is = absurd (cc)
