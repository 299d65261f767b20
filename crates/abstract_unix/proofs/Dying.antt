-- exit(II): a process that has closed its files names none, and what is owed when it has ended.
use Rattle.std.proofs.Common.{◌≡◌, ◌<◌, ◌+◌, ◌-◌, ◌∙◌, ℕ, zero, suc, Bool, true, false, cond, is_none, ◌==◌, if◌then◌else◌, List, [], ◌∷◌, ◌++◌, length, get_or, set, map, fold, Option, Some, None, slice_index, refl, sym, ap, inl, inr, arith}
use Rattle.std.proofs.lemmas.Bool.{cases_lt, cases_eq, ne_eqb, eq-eqb, eqb-true}
use Rattle.std.proofs.lemmas.List.{get_or_past, get_or-set_same, get_or-set_other, map-set}
use Rattle.open_files.specs.declared.file.OpenFile.{OpenFile}
use Rattle.open_files.specs.declared.file.Closed.{Closed}
use Rattle.open_files.specs.declared.file.Closed.TheVariants.{Still, Last}
use Rattle.open_files.specs.Files.{times}
use Rattle.pipe_ends.specs.declared.ends.Pipe.{Pipe}
use Rattle.u_area.specs.declared.area.UArea.{UArea}
use Rattle.fs_tree.specs.Finding.{put_back}
use Rattle.sys_files.specs.Handed.{Handed}
use Rattle.sys_files.specs.Descriptors.{Closing, released, dropped, closes, then_closes, close_all}
use Rattle.sys_files.specs.Descriptors as closing
use Rattle.sys_files.proofs.ReleasedLemmas.{released_still, released_last}
use Rattle.sys_files.proofs.ClosingLemmas.{closed_below, below_more, below_all}
use Rattle.sys_procs.specs.Process.{Process}
use Rattle.sys_procs.specs.World.{World, process_of}
use Rattle.sys_procs.specs.Exit.{slot_of, adopted, dead}
use Rattle.abstract_unix.specs.Whole.{Told, told_of, told_by, told_in, names, stands, Owes}
use Rattle.abstract_unix.proofs.Owing.{told_at, some_within, names_set, stand_set, dir_referred, fifteen_set}

-- What a number lets go changes nothing of the area.
released_area : (h : Handed) (told : Closed) → (released h told).state.u ≡ h.u
released_area h (Still file) = ap (λ (k : Handed). k.u) (released_still h file)
released_area h (Last file) = ap (λ (k : Handed). k.u) (released_last h file)

-- A process that has closed all its files names none.
released_files : (h : Handed) (told : Closed) → (released h told).state.u.files ≡ h.u.files
released_files h told = ap (λ (u : UArea). u.files) (released_area h told)

closes_files : (h : Handed) (fd : ℕ) → (closes h fd).state.u.files ≡ set h.u.files fd 0
closes_files h fd = released_files (dropped h fd) (closing.told_by h fd)

step_zero : (c : Closing) (fd : ℕ) → ((i : ℕ) → i < fd → slice_index c.state.u.files i ≡ 0)
    → (i : ℕ) → i < suc fd → slice_index (then_closes c fd).state.u.files i ≡ 0
step_zero c fd before i low = by (slice_index c.state.u.files fd == 0) refl
  where
    by : (b : Bool) → (slice_index c.state.u.files fd == 0) ≡ b
        → slice_index (cond b c (record { state = (closes c.state fd).state; items = c.items ++ (closes c.state fd).items })).state.u.files i ≡ 0
    by true e = elim (cases_eq i fd) [
      | inl here ↦ ap (slice_index c.state.u.files) here ∙ eqb-true (slice_index c.state.u.files fd) 0 e
      | inr other ↦ before i (omega (arith, low, other))
    ]
    by false e = elim (cases_eq i fd) [
      | inl here ↦ elim (cases_lt fd (length c.state.u.files)) [
        | inl within ↦ ap (λ l. slice_index l i) (closes_files c.state fd) ∙ ap (slice_index (set c.state.u.files fd 0)) here ∙ get_or-set_same c.state.u.files fd 0 0 within
        | inr past ↦ absurd (let none = eq-eqb (slice_index c.state.u.files fd) 0 (get_or_past c.state.u.files fd 0 past) in cc (none, e))
      ]
      | inr other ↦
          ap (λ l. slice_index l i) (closes_files c.state fd) ∙ get_or-set_other c.state.u.files fd i 0 0 other ∙ before i (omega (arith, low, other))
    ]

below_zero : (h : Handed) (n : ℕ) (i : ℕ) → i < n → slice_index (closed_below h n).state.u.files i ≡ 0
below_zero h zero i low = absurd (omega (arith, low))
below_zero h (suc n) i low =
    let next : suc n ≡ n + 1 = omega arith in
    ap (λ m. slice_index (closed_below h m).state.u.files i) next ∙ ap (λ (c : Closing). slice_index c.state.u.files i) (below_more h n) ∙ step_zero (closed_below h n) n (below_zero h n) i low

none_counted : (mine : List ℕ) (entry n : ℕ) → ((i : ℕ) → slice_index mine i ≡ 0) → fold (λ a x. a + cond (x == entry + 1) 1 0) n mine ≡ n
none_counted [] entry n each = refl
none_counted (x ∷ xs) entry n each =
    let none : cond {A = ℕ} (x == entry + 1) 1 0 ≡ 0 = ap (λ b. cond {A = ℕ} b 1 0) (ne_eqb x (entry + 1) (λ same. let z : x ≡ 0 = each 0 in omega (arith, same, z))) in
    let count : n + cond (x == entry + 1) 1 0 ≡ n = omega (arith, none) in
    none_counted xs entry (n + cond (x == entry + 1) 1 0) (λ i. each (suc i)) ∙ count

pub closed_none : (h : Handed) (entry : ℕ) → length (close_all h).state.u.files ≡ 15 → times (close_all h).state.u.files entry ≡ 0
closed_none h entry long =
    let mine : List ℕ = (close_all h).state.u.files in
    none_counted mine entry 0 (λ i. elim (cases_lt i 15) [
      | inl low ↦ ap (λ (c : Closing). slice_index c.state.u.files i) (sym (below_all h)) ∙ below_zero h 15 i low
      | inr past ↦ get_or_past mine i 0 (omega (arith, past, long))
    ])

-- A reference goes.
pub put_refs : (l : List ℕ) (d ino : ℕ) → 0 < slice_index l d → slice_index (set l d (slice_index l d - 1)) ino + (if d == ino then 1 else 0) ≡ slice_index l ino
put_refs l d ino some =
    let within : d < length l = elim (cases_lt d (length l)) [
      | inl low ↦ low
      | inr high ↦ absurd (let none = get_or_past l d 0 high in omega (arith, none, some))
    ] in
    elim (cases_eq ino d) [
      | inl here ↦
          let now : slice_index (set l d (slice_index l d - 1)) ino ≡ slice_index l d - 1 =
          ap (slice_index (set l d (slice_index l d - 1))) here ∙ get_or-set_same l d (slice_index l d - 1) 0 within in
          let was : slice_index l ino ≡ slice_index l d = ap (slice_index l) here in
          let one : ◌≡◌ {A = ℕ} (if d == ino then 1 else 0) 1 = ap (λ b. cond {A = ℕ} b 1 0) (eq-eqb d ino (sym here)) in
          omega (arith, now, was, one, some)
      | inr other ↦
          let same : slice_index (set l d (slice_index l d - 1)) ino ≡ slice_index l ino = get_or-set_other l d ino (slice_index l d - 1) 0 other in
          let none : ◌≡◌ {A = ℕ} (if d == ino then 1 else 0) 0 = ap (λ b. cond {A = ℕ} b 1 0) (ne_eqb d ino (λ e. other (sym e))) in
          omega (arith, same, none)
    ]

-- Who is adopted is told as before.
adopted_told : (pid : ℕ) (o : Option Process) → told_by (adopted pid o) ≡ told_by o
adopted_told pid None = refl
adopted_told pid (Some p) = by (p.row.ppid == pid)
  where
    by : (b : Bool) → told_by (Some (cond b (record p { row = record p.row { ppid = 1 } }) p)) ≡ told_by (Some p)
    by true = refl
    by false = refl

told_adopted : (pid : ℕ) (ps : List (Option Process)) → told_in (map (adopted pid) ps) ≡ told_in ps
told_adopted pid [] = refl
told_adopted pid (o ∷ ps) = rw (adopted_told pid o, told_adopted pid ps) refl

told_strays : (b : Bool) (ppid : ℕ) (ps : List (Option Process)) → told_in (cond b (map (adopted ppid) ps) ps) ≡ told_in ps
told_strays true ppid ps = told_adopted ppid ps
told_strays false ppid ps = refl

-- A process ends, in any world: it is told no more.
pub told_dead : (w : World) (s : ℕ) → told_in (dead w s).processes ≡ set (told_in w.processes) s None
told_dead w s =
    let z : Process = record (process_of w s) { is_zombie = true; «data» = []; stack = [] } in
    let ppid = (process_of w s).row.ppid in
    told_adopted (process_of w s).row.pid _
    ∙ told_strays (is_none (slot_of w ppid)) ppid _
    ∙ map-set told_by w.processes s (Some z)

-- What is owed where it has left its directory, and is told of no more. Its files are closed.
pub end_owes : {covered : Option ℕ} (w : World) (s : ℕ) (files : List (Option OpenFile)) (pipes : List Pipe) → get_or w.processes s None ≡ Some (process_of w s) → (process_of w s).is_zombie ≡ false
    → ((entry : ℕ) → times (process_of w s).u.files entry ≡ 0) → Owes covered w.inodes.references files pipes w.texts (told_in w.processes)
    → Owes covered (put_back w.inodes (process_of w s).u.dir).references files pipes w.texts (set (told_in w.processes) s None)
end_owes w s files pipes is lives closed owed =
    let p : Process = process_of w s in
    let ts : List (Option Told) = told_in w.processes in
    let at = told_at w.processes s p is lives in
    let low = some_within ts s (told_of p) at in
    record {
      numbers = λ entry.
          let before = owed.numbers entry in
          let change = names_set ts s None entry low in
          let old = ap (names entry) at in
          let gone = closed entry in
          omega (arith, before, change, old, gone);
      referred = λ ino.
          let put = put_refs w.inodes.references p.u.dir ino (dir_referred w.inodes.references files pipes w.texts ts owed s (told_of p) at) in
          let before = owed.referred ino in
          let change = stand_set ts s None ino low in
          let old = ap (stands ino) at in
          omega (arith, put, before, change, old);
      piped = owed.piped;
      fifteen = fifteen_set ts s None owed.fifteen (λ t e. absurd (cc e));
    }
