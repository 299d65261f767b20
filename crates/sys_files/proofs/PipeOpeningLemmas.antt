-- The two ends of a pipe are opened, or neither is.
use Rattle.std.proofs.Common.{◌≡◌, ◌+◌, ℕ, List, Option, Some, None, is_none, Result, MatchResult, cond, slice_index, slice_set, sym, ap, ◌∙◌, subst}
use Rattle.std.proofs.lemmas.Option.{none-some, same_Some}
use Rattle.v6_base.specs.declared.errno.Errno.{Errno}
use Rattle.v6_base.specs.declared.errno.Errno.TheVariants.{EBADF, EMFILE, ENFILE}
use Rattle.open_files.specs.declared.file.OpenFile.{OpenFile}
use Rattle.open_files.specs.declared.file.Closed.{Closed}
use Rattle.open_files.specs.Files.{free_number, free_entry, opened, add_error, Adds, Drops}
use Rattle.sys_files.specs.Handed.{Handed}
use Rattle.sys_files.specs.Did.{Did, fails, check, need}
use Rattle.sys_files.specs.Piping.{reading_end, with_end, finds_place, has_opened, opens_ends}
use Rattle.sys_files.proofs.CheckLemmas.{need_there}
use Rattle.sys_files.proofs.OpeningLemmas.{undone}

-- A number and an entry are free.
place_found : (h now : Handed) (next : ℕ → ℕ → Did) (fd entry : ℕ) → free_number now.u.files ≡ Some fd
    → free_entry now.files ≡ Some entry
    → finds_place h now next ≡ next fd entry
place_found h now next fd entry number free =
    need_there h EMFILE (free_number now.u.files) _ fd number ∙ need_there h ENFILE (free_entry now.files) _ entry free

-- One of them is not.
pub place_refused : (h now : Handed) (next : ℕ → ℕ → Did) (e : Errno) → add_error now.files now.u.files ≡ Some e
    → finds_place h now next ≡ fails h e
place_refused h now next e = by (free_number now.u.files) (free_entry now.files)
  where
    by : (number entry : Option ℕ) → cond (is_none number) (Some EMFILE) (cond (is_none entry) (Some ENFILE) None) ≡ Some e
        → check h (need EMFILE number) (λ fd. check h (need ENFILE entry) (λ at. next fd at)) ≡ fails h e
    by None entry is = ap (fails h) (same_Some EMFILE e is)
    by (Some fd) None is = ap (fails h) (same_Some ENFILE e is)
    by (Some fd) (Some entry) is = absurd (none-some e is)

module _ (h : Handed) (ino fd entry : ℕ) (files : List (Option OpenFile)) (mine : List ℕ)
    (number : free_number h.u.files ≡ Some fd) (free : free_entry h.files ≡ Some entry)
    (table : files ≡ slice_set h.files entry (Some (opened ino reading_end)))
    (own : mine ≡ slice_set h.u.files fd (entry + 1)) where
  -- Both ends find their places.
  pub ends_opened : (next_fd next : ℕ) → free_number mine ≡ Some next_fd → free_entry files ≡ Some next
      → opens_ends h ino ≡ has_opened h ino fd entry next_fd next
  ends_opened next_fd next more room =
      place_found h h _ fd entry number free
      ∙ place_found h (with_end h ino reading_end fd entry) _ next_fd next (ap free_number (sym own) ∙ more)
      (ap free_entry (sym table) ∙ room)

  -- The second finds none.
  pub second_refused : (e : Errno) → add_error files mine ≡ Some e → opens_ends h ino ≡ fails h e
  second_refused e refused =
      place_found h h _ fd entry number free
      ∙ place_refused h (with_end h ino reading_end fd entry) _ e (sym (λ i. add_error (table i) (own i)) ∙ refused)

-- The first end is closed again where the second finds no place, and nothing is left of it.
pub first_undone : (files new same last : List (Option OpenFile)) (mine new_mine same_mine last_mine : List ℕ)
    (file : OpenFile) (fd at : ℕ) (r : Result Closed Errno)
    → file.count ≡ 1 → Adds files mine file fd new new_mine → same ≡ new → same_mine ≡ new_mine → at ≡ fd
    → MatchResult r (λ told. Drops same same_mine at told last last_mine)
    (λ e. (e ≡ EBADF) × (slice_index same_mine at ≡ 0) × (last ≡ same) × (last_mine ≡ same_mine))
    → (last ≡ files) × (last_mine ≡ mine)
first_undone files new same last mine new_mine same_mine last_mine file fd at r once added table own here dropped =
    let P : List (Option OpenFile) → List ℕ → ℕ → Type 0 = λ l m n. MatchResult r (λ told. Drops l m n told last last_mine)
    (λ e. (e ≡ EBADF) × (slice_index m n ≡ 0) × (last ≡ l) × (last_mine ≡ m)) in
    undone files new last mine new_mine last_mine file fd r once added
    (subst (λ n. P new new_mine n) here (subst (λ m. P new m at) own (subst (λ l. P l same_mine at) table dropped)))
