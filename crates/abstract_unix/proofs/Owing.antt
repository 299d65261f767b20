-- What is owed in a system: what each process has of the counts, what a call is handed, and what a call on files leaves.
use Rattle.std.proofs.Common.{◌≡◌, ◌<◌, ◌≤◌, ◌+◌, ◌*◌, ◌∙◌, ℕ, Bool, true, false, not, cond, ◌&&◌, ◌==◌, if◌then◌else◌, eqb, List, [], ◌∷◌, length, get_or, set, map, fold, count_by, sum_by, Option, Some, None, IsSome, slice_index, refl, sym, ap, subst, inl, inr, arith}
use Rattle.std.proofs.lemmas.Bool.{cases_lt, cases_eq, eq-eqb}
use Rattle.std.proofs.lemmas.List.{get_or_past, get_or-set_same, get_or-set_other, length-set, map-set, set-get_or}
use Rattle.std.proofs.lemmas.List.Elements.{All-from_get_or}
use Rattle.std.proofs.lemmas.List.Sums.{get_or-le-sum_by, sum_by-set, sum_by-le, count_by-le-length}
use Rattle.std.proofs.Math.ListN.{get_or-map}
use Rattle.open_files.specs.declared.file.OpenFile.{OpenFile}
use Rattle.open_files.specs.Files.{file_at, times, entry_of, AreOpen}
use Rattle.pipe_ends.specs.declared.ends.Pipe.{Pipe}
use Rattle.fs_tree.specs.Mounting.{AreMounts}
use Rattle.mount_tab.specs.Mounted.{is_the}
use Rattle.sys_files.specs.Handed.{Handed}
use Rattle.sys_files.specs.Sound.{is_of, numbers_of, IsSound, IsKept}
use Rattle.sys_procs.specs.Process.{Process}
use Rattle.abstract_unix.specs.Unix.{Text, Unix, process_of}
use Rattle.abstract_unix.specs.References.{is_in, is_text_of, referrers, references_of}
use Rattle.abstract_unix.specs.Calls.{handed_of, with_handed}
use Rattle.abstract_unix.specs.Whole.{Told, told_of, told_by, told_in, names, stands, all_names, all_stand, refer, Owes, Owed}

-- What is in a slot is within the list.
pub some_within : {A : Type 0} (xs : List (Option A)) (s : ℕ) (x : A) → get_or xs s None ≡ Some x → s < length xs
some_within xs s x is = elim (cases_lt s (length xs)) [
  | inl low ↦ low
  | inr high ↦ absurd (let none = get_or_past xs s None high in cc (none, is))
]

-- Who lives is told, and who is told lives.
pub told_at : (ps : List (Option Process)) (s : ℕ) (p : Process) → get_or ps s None ≡ Some p → p.is_zombie ≡ false → get_or (told_in ps) s None ≡ Some (told_of p)
told_at ps s p is lives = get_or-map told_by ps s None ∙ ap told_by is ∙ ap (λ b. cond b None (Some (told_of p))) lives

pub told_none : (ps : List (Option Process)) (s : ℕ) → get_or ps s None ≡ None → get_or (told_in ps) s None ≡ None
told_none ps s is = get_or-map told_by ps s None ∙ ap told_by is

pub told_dead : (ps : List (Option Process)) (s : ℕ) (p : Process) → get_or ps s None ≡ Some p → p.is_zombie ≡ true → get_or (told_in ps) s None ≡ None
told_dead ps s p is ended = get_or-map told_by ps s None ∙ ap told_by is ∙ ap (λ b. cond b None (Some (told_of p))) ended

pub record IsLiving (ps : List (Option Process)) (s : ℕ) (t : Told) : Type 0 where
  pub process : Process
  pub there : get_or ps s None ≡ Some process
  pub lives : process.is_zombie ≡ false
  pub told : told_of process ≡ t

pub living : (ps : List (Option Process)) (s : ℕ) (t : Told) → get_or (told_in ps) s None ≡ Some t → IsLiving ps s t
living ps s t is = by (get_or ps s None) refl (sym (get_or-map told_by ps s None) ∙ is)
  where
    alive : (p : Process) → get_or ps s None ≡ Some p → (b : Bool) → p.is_zombie ≡ b → cond b None (Some (told_of p)) ≡ Some t → IsLiving ps s t
    alive p there true dead e = absurd (cc e)
    alive p there false lives e = record { process = p; there = there; lives = lives; told = cc e }

    by : (o : Option Process) → get_or ps s None ≡ o → told_by o ≡ Some t → IsLiving ps s t
    by None there e = absurd (cc e)
    by (Some p) there e = alive p there p.is_zombie refl e

-- A slot is put where the projection doesn't see it.
pub told_unseen : (ps : List (Option Process)) (s : ℕ) (o : Option Process) → told_by o ≡ get_or (told_in ps) s None → told_in (set ps s o) ≡ told_in ps
told_unseen ps s o same = map-set told_by ps s o ∙ ap (set (told_in ps) s) same ∙ set-get_or (told_in ps) s None

-- a process that lives is changed
pub told_change : (ps : List (Option Process)) (s : ℕ) (p q : Process) → get_or ps s None ≡ Some p → told_by (Some q) ≡ told_by (Some p) → told_in (set ps s (Some q)) ≡ told_in ps
told_change ps s p q is same = told_unseen ps s (Some q) (same ∙ sym (get_or-map told_by ps s None ∙ ap told_by is))

-- one slot is another's
pub names_set : (ts : List (Option Told)) (s : ℕ) (q : Option Told) (entry : ℕ) → s < length ts
    → all_names (set ts s q) entry + names entry (get_or ts s None) ≡ all_names ts entry + names entry q
unfolding all_names
names_set ts s q entry low = sum_by-set (names entry) ts s q None low

pub stand_set : (ts : List (Option Told)) (s : ℕ) (q : Option Told) (ino : ℕ) → s < length ts
    → all_stand (set ts s q) ino + stands ino (get_or ts s None) ≡ all_stand ts ino + stands ino q
unfolding all_stand
stand_set ts s q ino low = sum_by-set (stands ino) ts s q None low

-- who refers, as the references of a system say it
same_sum : {A B : Type 0} (f : A → ℕ) (g : B → ℕ) (t : A → B) (xs : List A) (n : ℕ) → ((x : A) → f x ≡ g (t x))
    → fold (λ a x. a + f x) n xs ≡ fold (λ a x. a + g x) n (map t xs)
same_sum f g t [] n each = refl
same_sum f g t (x ∷ xs) n each =
    ap (λ m. fold (λ a x. a + f x) (n + m) xs) (each x) ∙ same_sum f g t xs (n + g (t x)) each

stands_told : (ino : ℕ) (o : Option Process) → cond {A = ℕ} (is_in ino o) 1 0 ≡ stands ino (told_by o)
stands_told ino None = refl
stands_told ino (Some p) = by p.is_zombie
  where
    by : (b : Bool) → cond {A = ℕ} (not b && (p.u.dir == ino)) 1 0 ≡ stands ino (cond b None (Some (told_of p)))
    by true = refl
    by false = refl

pub refer_told : (u : Unix) (ino : ℕ) → refer u.covered u.files u.texts (told_in u.processes) ino ≡ referrers u ino
unfolding all_stand
refer_told u ino =
    ap (λ n. count_by (is_of ino) u.files + n + count_by (is_text_of ino) u.texts + (if ino == 1 then 1 else 0)
    + (if is_the u.covered ino then 1 else 0))
    (sym (same_sum (λ o. cond {A = ℕ} (is_in ino o) 1 0) (stands ino) told_by u.processes 0 (stands_told ino)))

-- what one process has of the counts
module _ (ts : List (Option Told)) (s : ℕ) (t : Told) (is : get_or ts s None ≡ Some t) where
  pub names_within : (entry : ℕ) → times t.files entry ≤ all_names ts entry
  unfolding all_names
  names_within entry =
      let least = get_or-le-sum_by (names entry) ts s None (some_within ts s t is) in
      let one : names entry (get_or ts s None) ≡ times t.files entry = ap (names entry) is in
      omega (arith, least, one)

  pub stands_within : (ino : ℕ) → (if t.dir == ino then 1 else 0) ≤ all_stand ts ino
  unfolding all_stand
  stands_within ino =
      let least = get_or-le-sum_by (stands ino) ts s None (some_within ts s t is) in
      let one : stands ino (get_or ts s None) ≡ (if t.dir == ino then 1 else 0) = ap (stands ino) is in
      omega (arith, least, one)

-- a number that names an entry counts
pub times_some : (mine : List ℕ) (fd : ℕ) → 0 < slice_index mine fd → 1 ≤ times mine (entry_of mine fd)
times_some mine fd above =
    let within : fd < length mine = elim (cases_lt fd (length mine)) [
      | inl low ↦ low
      | inr high ↦ absurd (let none = get_or_past mine fd 0 high in omega (arith, none, above))
    ] in
    let test : ℕ → ℕ = λ number. cond (eqb number (entry_of mine fd + 1)) 1 0 in
    let least = get_or-le-sum_by test mine fd 0 within in
    let own : slice_index mine fd ≡ entry_of mine fd + 1 = omega (arith, above) in
    let one : test (get_or mine fd 0) ≡ 1 = ap (λ b. cond b 1 0) (eq-eqb (slice_index mine fd) (entry_of mine fd + 1) own) in
    let all : sum_by test mine ≡ times mine (entry_of mine fd) = refl in
    omega (arith, least, one, all)

pub is_used : (o : Option OpenFile) → 1 ≤ numbers_of o → IsSome o
is_used None some = absurd (omega (arith, some))
is_used (Some file) some = refl

-- no entry is named by more than fifteen numbers of each process
few_in : (entry : ℕ) (o : Option Told) → ((t : Told) → o ≡ Some t → length t.files ≡ 15) → names entry o ≤ 15
few_in entry None each = omega arith
few_in entry (Some t) each =
    let long = each t refl in
    let most = count_by-le-length (λ number. number == entry + 1) t.files in
    omega (arith, long, most)

few_names : (ts : List (Option Told)) (entry : ℕ) → length ts ≡ 50 → ((s : ℕ) (t : Told) → get_or ts s None ≡ Some t → length t.files ≡ 15) → all_names ts entry ≤ 750
unfolding all_names
few_names ts entry long each =
    let most = sum_by-le (names entry) 15 ts (All-from_get_or (λ o. names entry o ≤ 15) ts None (λ i low. few_in entry (get_or ts i None) (each i))) in
    let size : length ts * 15 ≡ 750 = ap (λ n. n * 15) long in
    omega (arith, most, size)

at_most_one : (b : Bool) → cond {A = ℕ} b 1 0 ≤ 1
at_most_one true = omega arith
at_most_one false = omega arith

stands_once : (ino : ℕ) (o : Option Told) → stands ino o ≤ 1
stands_once ino None = omega arith
stands_once ino (Some t) = at_most_one (t.dir == ino)

few_stand : (ts : List (Option Told)) (ino : ℕ) → length ts ≡ 50 → all_stand ts ino ≤ 50
unfolding all_stand
few_stand ts ino long =
    let most = sum_by-le (stands ino) 1 ts (All-from_get_or (λ o. stands ino o ≤ 1) ts None (λ i low. stands_once ino (get_or ts i None))) in
    omega (arith, most, long)

module _ {covered : Option ℕ} (refs : List ℕ) (files : List (Option OpenFile)) (pipes : List Pipe) (texts : List (Option Text)) (ts : List (Option Told))
    (owed : Owes covered refs files pipes texts ts) where
  -- a process, and what it names and where it is
  module _ (s : ℕ) (t : Told) (is : get_or ts s None ≡ Some t) where
    pub names_open : AreOpen files t.files
    names_open fd above =
        let entry : ℕ = entry_of t.files fd in
        let one = times_some t.files fd above in
        let most = names_within ts s t is entry in
        let count = owed.numbers entry in
        is_used (file_at files entry) (omega (arith, one, most, count))

    pub dir_referred : 0 < slice_index refs t.dir
    dir_referred =
        let least = stands_within ts s t is t.dir in
        let one : cond {A = ℕ} (t.dir == t.dir) 1 0 ≡ 1 = ap (λ b. cond {A = ℕ} b 1 0) (eq-eqb t.dir t.dir refl) in
        let all = owed.referred t.dir in
        omega (arith, least, one, all)

  -- the most that there can be of fifty processes
  module _ (fifty : length ts ≡ 50) where
    pub few_numbers : (entry : ℕ) (file : OpenFile) → file_at files entry ≡ Some file → file.count ≤ 750
    few_numbers entry file is =
        let few = few_names ts entry fifty owed.fifteen in
        let all = owed.numbers entry in
        let count : numbers_of (file_at files entry) ≡ file.count = ap numbers_of is in
        omega (arith, few, all, count)

    pub few_references : (ino : ℕ) → length files ≡ 100 → length texts ≡ 40 → slice_index refs ino ≤ 192
    few_references ino entries forty =
        let a = count_by-le-length (is_of ino) files in
        let b = few_stand ts ino fifty in
        let c = count_by-le-length (is_text_of ino) texts in
        let d = at_most_one (ino == 1) in
        let e = at_most_one (is_the covered ino) in
        let all = owed.referred ino in
        omega (arith, a, b, c, d, e, entries, forty, all)

-- each of some slots has fifteen numbers, if the new one has
pub fifteen_set : (ts : List (Option Told)) (s : ℕ) (o : Option Told) → ((r : ℕ) (t : Told) → get_or ts r None ≡ Some t → length t.files ≡ 15)
    → ((t : Told) → o ≡ Some t → length t.files ≡ 15) → (r : ℕ) (t : Told) → get_or (set ts s o) r None ≡ Some t → length t.files ≡ 15
fifteen_set ts s o all own r t is = elim (cases_eq r s) [
  | inl here ↦
      let low : s < length ts = let l = some_within (set ts s o) r t is in let same = length-set ts s o in omega (arith, l, same, here) in
      own t (sym (get_or-set_same ts s o None low) ∙ ap (λ n. get_or (set ts s o) n None) (sym here) ∙ is)
  | inr other ↦ all r t (sym (get_or-set_other ts s r o None other) ∙ is)
]

-- What a process is handed for a call on files is sound.
pub sound_by : (h : Handed) (texts : List (Option Text)) (ts : List (Option Told)) (s : ℕ)
    → Owes h.mounts.covered h.inodes.references h.files h.pipes texts ts → AreMounts h.mounts h.inodes.store
    → get_or ts s None ≡ Some (record { files = h.u.files; dir = h.u.dir }) → length h.files ≡ 100 → length ts ≡ 50 → length texts ≡ 40 → IsSound h
sound_by h texts ts s owed mounts is entries fifty forty =
    let t : Told = record { files = h.u.files; dir = h.u.dir } in
    let refs : List ℕ = h.inodes.references in
    record {
      is_open = names_open refs h.files h.pipes texts ts owed s t is;
      counted = λ entry file there.
          let most = names_within ts s t is entry in
          let all = owed.numbers entry in
          let count : numbers_of (file_at h.files entry) ≡ file.count = ap numbers_of there in
          omega (arith, most, all, count);
      room = λ entry file there. let few = few_numbers refs h.files h.pipes texts ts owed fifty entry file there in omega (arith, few);
      referred = λ ino.
          let dir = stands_within ts s t is ino in
          let all = owed.referred ino in
          omega (arith, dir, all);
      few = λ ino. let few = few_references refs h.files h.pipes texts ts owed fifty ino entries forty in omega (arith, few);
      pipes = owed.piped;
      mounts = mounts;
    }

-- A call on files of a process keeps what is owed, whatever it does.
pub file_owes : (refs : List ℕ) (u : Unix) (s : ℕ) (h : Handed) → Owed refs u → get_or u.processes s None ≡ Some (process_of u s) → (process_of u s).is_zombie ≡ false
    → refs ≡ references_of u → IsKept (handed_of u (process_of u s)) h → length h.u.files ≡ 15 → Owed h.inodes.references (with_handed u s h)
file_owes refs u s h owed is lives one kept long =
    let p : Process = process_of u s in
    let ts : List (Option Told) = told_in u.processes in
    let q : Told = record { files = h.u.files; dir = h.u.dir } in
    let at = told_at u.processes s p is lives in
    let low = some_within ts s (told_of p) at in
    let put : told_in (with_handed u s h).processes ≡ set ts s (Some q) =
    map-set told_by u.processes s _ ∙ ap (λ b. set ts s (cond b None (Some q))) lives in
    subst (λ (l : List (Option Told)). Owes h.mounts.covered h.inodes.references h.files h.pipes u.texts l) (sym put) (record {
      numbers = λ entry.
          let before = owed.numbers entry in
          let counts = kept.numbers entry in
          let change = names_set ts s (Some q) entry low in
          let old = ap (names entry) at in
          omega (arith, before, counts, change, old);
      referred = λ ino.
          let before = owed.referred ino in
          let counts = kept.references ino in
          let change = stand_set ts s (Some q) ino low in
          let old = ap (stands ino) at in
          let same = ap (λ (l : List ℕ). slice_index l ino) one in
          omega (arith, before, counts, change, old, same);
      piped = kept.pipes;
      fifteen = fifteen_set ts s (Some q) owed.fifteen (λ t e. (let same : q ≡ t = cc e in ap (λ (x : Told). length x.files) (sym same) ∙ long));
    })
