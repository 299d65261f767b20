-- What a call keeps while it refers to inodes itself, which it lets go at its end.
use Rattle.std.proofs.Common.{◌≡◌, ℕ, Bool, true, false, ◌+◌, ◌-◌, ◌<◌, ◌==◌, List, [], ◌∷◌, length, cond, eqb, count_by, Option, None, Some, Result, Ok, Err, slice_index, slice_set, refl, sym, ap, ◌∙◌, subst, inl, inr, arith}
use Rattle.std.proofs.lemmas.Bool.{eq-eqb, ne_eqb, cases_lt, cases_eq}
use Rattle.std.proofs.lemmas.List.{get_or_past, set_past, get_or-set_same, get_or-set_other}
use Rattle.std.proofs.lemmas.List.Sums.{sum_by-cons}
use Rattle.v6_base.specs.declared.errno.Errno.{Errno}
use Rattle.fs_codec.specs.Store.{Node}
use Rattle.fs_nodes.specs.Keys.{Stores, counts, node_numbered, without_reference}
use Rattle.fs_nodes.proofs.CountLaws.{counts_gone}
use Rattle.fs_tree.specs.Mounting.{AreMounts}
use Rattle.fs_tree.proofs.MountLemmas.{mounts_stay}
use Rattle.open_files.specs.Files.{file_at, times, AreOpen}
use Rattle.fs_nodes.specs.FileSystem.{FileSystem, IsFileSystem}
use Rattle.fs_tree.specs.Name.{name_at}
use Rattle.fs_tree.specs.Finding.{Inodes, Finding, inodes_of, with_reference, put_in, find_in}
use Rattle.sys_files.specs.Handed.{Handed, user_of, with_inodes, let_go}
use Rattle.sys_files.specs.Did.{Did, check, then_named, until_end, finds}
use Rattle.sys_files.specs.Pipes.{ArePipes}
use Rattle.sys_files.specs.Sound.{owed, numbers_of, IsSound, IsKept}
use Rattle.fs_tree.proofs.NamingLemmas.{found_more, found_none, found_referred}
use Rattle.sys_files.proofs.OwedLemmas.{directory_referred}
use Rattle.sys_files.proofs.KeptLemmas.{still_mounts}
use Rattle.sys_files.proofs.StayingLemmas.{Stay, stays_there}

-- how many of the references that a call has taken are to an inode
abbrev pub taken_of : List ℕ → ℕ → ℕ
taken_of taken ino = count_by (λ i. eqb i ino) taken

pub taken_more : (ino : ℕ) (taken : List ℕ) (i : ℕ) → taken_of (ino ∷ taken) i ≡ cond (eqb ino i) 1 0 + taken_of taken i
taken_more ino taken i = sum_by-cons (λ j. cond (eqb j i) 1 0) ino taken

-- What is kept but for the references that a call has taken itself: one for each number of a list.
pub record IsKeptBut (old new : Handed) (taken : List ℕ) : Type 0 where
  pub is_open : AreOpen new.files new.u.files
  pub numbers : (entry : ℕ)
      → numbers_of (file_at new.files entry) + times old.u.files entry
      ≡ numbers_of (file_at old.files entry) + times new.u.files entry
  pub references : (ino : ℕ)
      → slice_index new.inodes.references ino + owed old ino
      ≡ slice_index old.inodes.references ino + owed new ino + taken_of taken ino
  pub counts : counts new.inodes.store ≡ counts old.inodes.store
  pub mounts : AreMounts new.mounts new.inodes.store
  pub pipes : ArePipes new.files new.pipes
  pub others : Stay old.files old.u.files new.files

-- What has been referred to once more is one of the numbers.
taken_low : (r : List ℕ) (i : ℕ) → 0 < slice_index (slice_set r i (slice_index r i + 1)) i → i < length r
taken_low r i some = elim (cases_lt i (length r)) [
  | inl low ↦ low
  | inr past ↦ let none : slice_index (slice_set r i (slice_index r i + 1)) i ≡ 0 =
      ap (λ l. slice_index l i) (set_past r i (slice_index r i + 1) past) ∙ get_or_past r i 0 past in
      omega (arith, some, none)
]

-- one reference more, and one fewer
pub once_more : (r : List ℕ) (i j : ℕ) → i < length r
    → slice_index (slice_set r i (slice_index r i + 1)) j ≡ slice_index r j + cond (eqb i j) 1 0
once_more r i j low = elim (cases_eq i j) [
  | inl same ↦ let at : slice_index (slice_set r i (slice_index r i + 1)) j ≡ slice_index r i + 1 =
      ap (slice_index (slice_set r i (slice_index r i + 1))) (sym same)
      ∙ get_or-set_same r i (slice_index r i + 1) 0 low in
      let one : cond {A = ℕ} (eqb i j) 1 0 ≡ 1 = ap (λ b. cond b 1 0) (eq-eqb i j same) in
      let there : slice_index r i ≡ slice_index r j = ap (slice_index r) same in
      omega (arith, at, one, there)
  | inr other ↦ let at : slice_index (slice_set r i (slice_index r i + 1)) j ≡ slice_index r j =
      get_or-set_other r i j (slice_index r i + 1) 0 (λ e. other (sym e)) in
      let none : cond {A = ℕ} (eqb i j) 1 0 ≡ 0 = ap (λ b. cond b 1 0) (ne_eqb i j other) in
      omega (arith, at, none)
]

pub referred_low : (r : List ℕ) (i : ℕ) → 0 < slice_index r i → i < length r
referred_low r i some = elim (cases_lt i (length r)) [
  | inl low ↦ low
  | inr past ↦ let none : slice_index r i ≡ 0 = get_or_past r i 0 past in omega (arith, some, none)
]

pub once_less : (r : List ℕ) (i j : ℕ) → 0 < slice_index r i
    → slice_index (slice_set r i (slice_index r i - 1)) j + cond (eqb i j) 1 0 ≡ slice_index r j
once_less r i j some = elim (cases_eq i j) [
  | inl same ↦ let at : slice_index (slice_set r i (slice_index r i - 1)) j ≡ slice_index r i - 1 =
      ap (slice_index (slice_set r i (slice_index r i - 1))) (sym same)
      ∙ get_or-set_same r i (slice_index r i - 1) 0 (referred_low r i some) in
      let one : cond {A = ℕ} (eqb i j) 1 0 ≡ 1 = ap (λ b. cond b 1 0) (eq-eqb i j same) in
      let there : slice_index r i ≡ slice_index r j = ap (slice_index r) same in
      omega (arith, at, one, there, some)
  | inr other ↦ let at : slice_index (slice_set r i (slice_index r i - 1)) j ≡ slice_index r j =
      get_or-set_other r i j (slice_index r i - 1) 0 (λ e. other (sym e)) in
      let none : cond {A = ℕ} (eqb i j) 1 0 ≡ 0 = ap (λ b. cond b 1 0) (ne_eqb i j other) in
      omega (arith, at, none)
]

-- A call has taken nothing when it begins, and at its end.
pub kept_begins : (h : Handed) → IsSound h → IsKeptBut h h []
kept_begins h sound = record {
  is_open = sound.is_open;
  numbers = λ entry. refl;
  references = λ ino. omega arith;
  counts = refl;
  mounts = sound.mounts;
  pipes = sound.pipes;
  others = λ entry file is few. stays_there h.files entry file is;
}

pub kept_ends : (old new : Handed) → IsKeptBut old new [] → IsKept old new
kept_ends old new k = record {
  is_open = k.is_open;
  numbers = k.numbers;
  references = λ ino. let r = k.references ino in omega (arith, r);
  counts = k.counts;
  mounts = k.mounts;
  pipes = k.pipes;
  others = k.others;
}

-- Nothing changes that counts numbers and references.
pub kept_goes_on : (old now new : Handed) (taken : List ℕ) → IsKeptBut old now taken → new.files ≡ now.files
    → new.pipes ≡ now.pipes → new.u.files ≡ now.u.files → new.u.dir ≡ now.u.dir → new.mounts ≡ now.mounts
    → new.inodes.references ≡ now.inodes.references → counts new.inodes.store ≡ counts now.inodes.store → IsKeptBut old
    new taken
kept_goes_on old now new taken k files pipes numbers dir mounts references same = record {
  is_open = rw (files, numbers) k.is_open;
  numbers = λ entry. rw (files, numbers) (k.numbers entry);
  references = λ ino. rw (files, dir, mounts, references) (k.references ino);
  counts = same ∙ k.counts;
  mounts = still_mounts now.mounts new.mounts now.inodes.store new.inodes.store mounts same k.mounts;
  pipes = rw (files, pipes) k.pipes;
  others = rw files k.others;
}

-- What a call has taken is referred to, and so is the current directory.
pub is_referred : (old now : Handed) (ino : ℕ) (taken : List ℕ) → IsSound old → IsKeptBut old now (ino ∷ taken)
    → 0 < slice_index now.inodes.references ino
is_referred old now ino taken sound k =
    let r = k.references ino in
    let least = sound.referred ino in
    let one : cond {A = ℕ} (eqb ino ino) 1 0 ≡ 1 = ap (λ b. cond b 1 0) (eq-eqb ino ino refl) in
    let more = taken_more ino taken ino in
    omega (arith, r, least, one, more)

-- A reference is taken.
pub kept_takes : (old now : Handed) (ino : ℕ) (taken : List ℕ) → ino < length now.inodes.references
    → IsKeptBut old now taken → IsKeptBut old (with_inodes now (with_reference now.inodes ino)) (ino ∷ taken)
kept_takes old now ino taken low k = record {
  is_open = k.is_open;
  numbers = k.numbers;
  references = λ i. let r = k.references i in let at = once_more now.inodes.references ino i low in
      let more = taken_more ino taken i in omega (arith, r, at, more);
  counts = k.counts;
  mounts = k.mounts;
  pipes = k.pipes;
  others = k.others;
}

-- The numbers of nodes stay where a reference goes.
put_if : (t : Bool) (store : Stores) (ino : ℕ) (node : Node)
    → counts (cond {A = Stores} t (without_reference store ino node) store) ≡ counts store
put_if true store ino node = counts_gone store ino node
put_if false store ino node = refl

pub put_counts : (store : Stores) (ino n : ℕ) (o : Option Node) → counts (put_in store ino n o) ≡ counts store
put_counts store ino n None = refl
put_counts store ino n (Some node) = put_if (n == 1) store ino node

-- as many where a reference of the parts goes
pub let_go_counts : (now : Handed) (ino : ℕ) → counts (let_go now ino).inodes.store ≡ counts now.inodes.store
let_go_counts now ino = put_counts now.inodes.store ino (slice_index now.inodes.references ino)
    (node_numbered now.inodes.store ino)

-- A reference that was taken goes.
pub kept_lets_go : (old now : Handed) (ino : ℕ) (taken : List ℕ) → IsSound old → IsKeptBut old now (ino ∷ taken)
    → IsKeptBut old (let_go now ino) taken
kept_lets_go old now ino taken sound k = record {
  is_open = k.is_open;
  numbers = k.numbers;
  references = λ i. let r = k.references i in
      let at : slice_index (let_go now ino).inodes.references i + cond
      (eqb ino i) 1 0 ≡ slice_index now.inodes.references i =
      once_less now.inodes.references ino i (is_referred old now ino taken sound k) in
      let more = taken_more ino taken i in omega (arith, r, at, more);
  counts = let_go_counts now ino ∙ k.counts;
  mounts = mounts_stay now.mounts now.inodes.store (let_go now ino).inodes.store (let_go_counts now ino) k.mounts;
  pipes = k.pipes;
  others = k.others;
}

-- A test keeps what the call keeps that goes on after it.
pub kept_check : {A : Type 0} (old h : Handed) (taken : List ℕ) (r : Result A Errno) (next : A → Did)
    → IsKeptBut old h taken
    → ((a : A) → r ≡ Ok a → IsKeptBut old (next a).state taken) → IsKeptBut old (check h r next).state taken
kept_check old h taken (Ok a) next k on = on a refl
kept_check old h taken (Err e) next k on = k

-- Where a name is found, its inode is referred to until the call ends.
abbrev pub CanFind : Handed → ℕ → Type 0
CanFind h name = (ino : ℕ) → (find_in h.inodes h.mounts (user_of h.u) h.u.dir (name_at h.image name)).answer ≡ Ok ino
    → 0 < slice_index (find_in h.inodes h.mounts (user_of h.u) h.u.dir (name_at h.image name)).inodes.references ino

pub can_find_at : (fs : FileSystem) (h : Handed) (name : ℕ) → h.inodes ≡ inodes_of fs → IsFileSystem fs
    → AreMounts h.mounts h.inodes.store → 0 < slice_index h.inodes.references h.u.dir → CanFind h name
can_find_at fs h name same is are referred ino ok =
    let P : Inodes → Type 0 = λ n. 0 < slice_index n.references h.u.dir in
    let Q : Inodes → Type 0 =
    λ n. 0 < slice_index (find_in n h.mounts (user_of h.u) h.u.dir (name_at h.image name)).inodes.references ino in
    let R : Inodes → Type 0 = λ n. AreMounts h.mounts n.store in
    let found : (find_in (inodes_of fs) h.mounts (user_of h.u) h.u.dir (name_at h.image name)).answer ≡ Ok ino =
    ap (λ (n : Inodes). (find_in n h.mounts (user_of h.u) h.u.dir (name_at h.image name)).answer) (sym same) ∙ ok in
    subst Q (sym same) (found_referred fs h.mounts (user_of h.u) h.u.dir (name_at h.image name) ino is
    (subst R same are) (subst P same referred) found)

pub can_find : (fs : FileSystem) (h : Handed) (name : ℕ) → h.inodes ≡ inodes_of fs → IsFileSystem fs → IsSound h
    → CanFind h name
can_find fs h name same is sound = can_find_at fs h name same is sound.mounts (directory_referred h sound)

pub kept_named : {A : Type 0} (old h : Handed) (taken : List ℕ) (found : Finding A) (next : Handed → A → Did)
    → ((e : Errno) → found.answer ≡ Err e → IsKeptBut old (with_inodes h found.inodes) taken)
    → ((a : A) → found.answer ≡ Ok a → IsKeptBut old (next
    (with_inodes h found.inodes) a).state taken) → IsKeptBut old (then_named h found next).state taken
kept_named {A = A} old h taken found next refused on = by found.answer refl where
  by : (r : Result A Errno) → found.answer ≡ r
      → IsKeptBut old (check (with_inodes h found.inodes) r (next (with_inodes h found.inodes))).state taken
  by (Ok a) is = on a is
  by (Err e) is = refused e is

-- a search that is refused, and one that finds
pub found_not : (old h : Handed) (name : ℕ) (taken : List ℕ) (e : Errno) → IsKeptBut old h taken
    → (find_in h.inodes h.mounts (user_of h.u) h.u.dir (name_at h.image name)).answer ≡ Err e
    → IsKeptBut old (with_inodes h (find_in h.inodes h.mounts (user_of h.u) h.u.dir (name_at h.image name)).inodes) taken
found_not old h name taken e k err =
    let P : Inodes → Type 0 = λ n. IsKeptBut old (with_inodes h n) taken in
    subst P (sym (found_none h.inodes h.mounts (user_of h.u) h.u.dir (name_at h.image name) e err)) k

pub found_kept : (old h : Handed) (name : ℕ) (taken : List ℕ) (ino : ℕ) → IsKeptBut old h taken → CanFind h name
    → (find_in h.inodes h.mounts (user_of h.u) h.u.dir (name_at h.image name)).answer ≡ Ok ino
    → IsKeptBut old (with_inodes h (find_in h.inodes h.mounts (user_of h.u) h.u.dir (name_at h.image name)).inodes)
    (ino ∷ taken)
found_kept old h name taken ino k can ok =
    let more = found_more h.inodes h.mounts (user_of h.u) h.u.dir (name_at h.image name) ino ok in
    let Q : Inodes → Type 0 = λ n. 0 < slice_index n.references ino in
    let R : Inodes → Type 0 = λ n. IsKeptBut old (with_inodes h n) (ino ∷ taken) in
    let low = taken_low h.inodes.references ino (subst Q more (can ino ok)) in
    subst R (sym more) (kept_takes old h ino taken low k)

pub kept_finds : (old h : Handed) (name : ℕ) (taken : List ℕ) (next : Handed → ℕ → Did) → IsSound old
    → IsKeptBut old h taken → CanFind h name
    → ((now : Handed) (ino : ℕ) → IsKeptBut old now (ino ∷ taken) → IsKeptBut old (next now ino).state
    (ino ∷ taken)) → IsKeptBut old (finds h name next).state taken
kept_finds old h name taken next sound k can on =
    let found = find_in h.inodes h.mounts (user_of h.u) h.u.dir (name_at h.image name) in
    kept_named old h taken found (λ now ino. until_end ino (next now ino))
    (λ e err. found_not old h name taken e k err)
    (λ ino ok. kept_lets_go old _ ino taken sound
    (on (with_inodes h found.inodes) ino (found_kept old h name taken ino k can ok)))
