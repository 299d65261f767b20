-- What the search of a name finds, and what it refers to.
use Rattle.std.proofs.Common.{◌≡◌, ◌+◌, ◌<◌, ◌≤◌, ℕ, Bool, true, false, List, length, slice_index, slice_set, Result, Ok, Err, IsSome, IfOk, refl, sym, ap, ◌∙◌, subst, inl, inr, cond, arith}
use Rattle.std.proofs.lemmas.Bool.{cases_lt, cases_eq}
use Rattle.std.proofs.lemmas.List.{set_past, get_or-set_same, get_or-set_other}
use Rattle.v6_base.specs.Access.{then_do}
use Rattle.v6_base.specs.declared.errno.Errno.{Errno}
use Rattle.v6_base.specs.declared.errno.Errno.TheVariants.{ENFILE}
use Rattle.fs_nodes.specs.Keys.{Stores, node_numbered}
use Rattle.fs_nodes.specs.FileSystem.{FileSystem, IsFileSystem}
use Rattle.fs_tree.specs.declared.user.User.{User}
use Rattle.fs_tree.specs.Name.{is_rooted}
use Rattle.fs_tree.specs.Path.{way, found}
use Rattle.fs_tree.specs.Finding.{Inodes, Finding, inodes_of, can_refer, with_reference, refused, referring, finding, find_in}
use Rattle.mount_tab.specs.Mounted.{MountTable}
use Rattle.fs_tree.specs.Mounting.{AreMounts}
use Rattle.fs_tree.proofs.MountLemmas.{crosses_of}
use Rattle.fs_tree.proofs.PathLemmas.{way_used, found_used}

-- What is found is referred to once more.
record Refers (n : Inodes) (ino : ℕ) (r : Result ℕ Errno) (new : Inodes) : Type 0 where
  pub number : r ≡ Ok ino
  pub inodes : new ≡ with_reference n ino

referring_ok : (n : Inodes) (t : Bool) (i ino : ℕ) (f : Finding ℕ)
    → f ≡ cond t (record { answer = Ok i; inodes = with_reference n i }) (refused n ENFILE) → f.answer ≡ Ok ino
    → Refers n ino (Ok i) f.inodes
referring_ok n false i ino f is ok = absurd (cc)
referring_ok n true i ino f is ok =
    let same : i ≡ ino = cc in
    record { number = ap Ok same; inodes = ap (λ (g : Finding ℕ). g.inodes) is ∙ ap (with_reference n) same }

finding_ok : (n : Inodes) (r : Result ℕ Errno) (ino : ℕ) → (finding n r).answer ≡ Ok ino
    → Refers n ino r (finding n r).inodes
finding_ok n (Ok i) ino ok = referring_ok n (can_refer n i) i ino (referring n i i) refl ok
finding_ok n (Err e) ino ok = absurd (cc)

referring_err : (n : Inodes) (t : Bool) (i : ℕ) (e : Errno) (f : Finding ℕ)
    → f ≡ cond t (record { answer = Ok i; inodes = with_reference n i }) (refused n ENFILE) → f.answer ≡ Err e
    → f.inodes ≡ n
referring_err n false i e f is err = ap (λ (g : Finding ℕ). g.inodes) is
referring_err n true i e f is err = absurd (cc)

finding_err : (n : Inodes) (r : Result ℕ Errno) (e : Errno) → (finding n r).answer ≡ Err e → (finding n r).inodes ≡ n
finding_err n (Ok i) e err = referring_err n (can_refer n i) i e (referring n i i) refl err
finding_err n (Err x) e err = refl

done_before : {A B E : Type 0} (r : Result A E) (f : A → Result B E) (b : B) → then_do r f ≡ Ok b
    → (a : A) × (r ≡ Ok a) × (f a ≡ Ok b)
done_before (Ok a) f b is = (a, refl, is)
done_before (Err e) f b is = absurd (cc)

started : (store : Stores) (t : Bool) (dir : ℕ) → IsSome (node_numbered store 1) → IsSome (node_numbered store dir)
    → IsSome (node_numbered store (cond t 1 dir))
started store true dir root some = root
started store false dir root some = some

-- Where a search finds something, that is a node, and is referred to once more.
pub found_more : (n : Inodes) (mounts : MountTable) (user : User) (dir : ℕ) (bytes : List ℕ) (ino : ℕ)
    → (find_in n mounts user dir bytes).answer ≡ Ok ino → (find_in n mounts user dir bytes).inodes ≡ with_reference n ino
found_more n mounts user dir bytes ino ok = (finding_ok n (then_do (way n.store mounts user dir bytes) (found n.store mounts)) ino ok).inodes

-- Where it finds nothing, all stays.
pub found_none : (n : Inodes) (mounts : MountTable) (user : User) (dir : ℕ) (bytes : List ℕ) (e : Errno)
    → (find_in n mounts user dir bytes).answer ≡ Err e → (find_in n mounts user dir bytes).inodes ≡ n
found_none n mounts user dir bytes e err = finding_err n (then_do (way n.store mounts user dir bytes) (found n.store mounts)) e err

pub found_node : (fs : FileSystem) (mounts : MountTable) (user : User) (dir : ℕ) (bytes : List ℕ) (ino : ℕ) → IsFileSystem fs → AreMounts mounts fs.store
    → 0 < slice_index fs.references dir
    → (find_in (inodes_of fs) mounts user dir bytes).answer ≡ Ok ino → IsSome (node_numbered fs.store ino)
found_node fs mounts user dir bytes ino is are referred ok =
    let r = (finding_ok (inodes_of fs) (then_do (way fs.store mounts user dir bytes) (found fs.store mounts)) ino ok).number in
    let w = done_before (way fs.store mounts user dir bytes) (found fs.store mounts) ino r in
    let start = started fs.store (is_rooted bytes) dir is.root (is.used dir referred) in
    let crosses = crosses_of fs.store mounts are is.second_root in
    found_used fs.store mounts crosses w.0 ino (way_used fs.store mounts crosses user dir bytes w.0 (sym w.1) start) (sym w.2)

more_few : (r : List ℕ) (ino i most : ℕ) → slice_index r ino ≤ most → slice_index r i ≤ most
    → slice_index (slice_set r ino (slice_index r ino + 1)) i ≤ most + 1
more_few r ino i most here there = elim (cases_eq ino i) [
  | inl same ↦ elim (cases_lt ino (length r)) [
    | inl low ↦ let at : slice_index (slice_set r ino (slice_index r ino + 1)) i ≡ slice_index r ino + 1 =
        ap (slice_index (slice_set r ino (slice_index r ino + 1))) (sym same)
        ∙ get_or-set_same r ino (slice_index r ino + 1) 0 low in omega (arith, at, here)
    | inr past ↦ let at : slice_index (slice_set r ino (slice_index r ino + 1)) i ≡ slice_index r i =
        ap (λ l. slice_index l i) (set_past r ino (slice_index r ino + 1) past) in omega (arith, at, there)
  ]
  | inr other ↦ let at : slice_index (slice_set r ino (slice_index r ino + 1)) i ≡ slice_index r i =
      get_or-set_other r ino i (slice_index r ino + 1) 0 (λ e. other (sym e)) in omega (arith, at, there)
]

pub found_referred : (fs : FileSystem) (mounts : MountTable) (user : User) (dir : ℕ) (bytes : List ℕ) (ino : ℕ) → IsFileSystem fs → AreMounts mounts fs.store
    → 0 < slice_index fs.references dir
    → (find_in (inodes_of fs) mounts user dir bytes).answer ≡ Ok ino → 0 < slice_index (find_in
    (inodes_of fs) mounts user dir bytes).inodes.references ino
found_referred fs mounts user dir bytes ino is are referred ok =
    let low : ino < length fs.references = is.low ino (found_node fs mounts user dir bytes ino is are referred ok) in
    let more : (find_in (inodes_of fs) mounts user dir bytes).inodes.references ≡ slice_set fs.references ino
    (slice_index fs.references ino + 1) =
    ap (λ (n : Inodes). n.references) (found_more (inodes_of fs) mounts user dir bytes ino ok) in
    let here : slice_index (slice_set fs.references ino
    (slice_index fs.references ino + 1)) ino ≡ slice_index fs.references ino + 1 =
    get_or-set_same fs.references ino (slice_index fs.references ino + 1) 0 low in
    let there : slice_index (find_in
    (inodes_of fs) mounts user dir bytes).inodes.references ino ≡ slice_index fs.references ino + 1 =
    ap (λ l. slice_index l ino) more ∙ here in
    omega (arith, there)

if_ok : {A E : Type 0} (r : Result A E) (P : A → Type 0) → ((a : A) → r ≡ Ok a → P a) → IfOk r P
if_ok (Ok a) P holds = holds a refl
if_ok (Err e) P holds = tt

-- The same of what is left when the search has come to an end.
pub ends_at_node : (fs new : FileSystem) (mounts : MountTable) (user : User) (dir : ℕ) (bytes : List ℕ) (r : Result ℕ Errno)
    → IsFileSystem fs → AreMounts mounts fs.store → 0 < slice_index fs.references dir
    → r ≡ (find_in (inodes_of fs) mounts user dir bytes).answer → inodes_of new ≡ (find_in
    (inodes_of fs) mounts user dir bytes).inodes → IfOk r (λ ino. IsSome (node_numbered new.store ino))
ends_at_node fs new mounts user dir bytes r is are referred answer inodes =
    if_ok r (λ ino. IsSome (node_numbered new.store ino)) (λ ino ok.
    let found : (find_in (inodes_of fs) mounts user dir bytes).answer ≡ Ok ino = sym answer ∙ ok in
    let same : new.store ≡ fs.store =
    ap (λ (n : Inodes). n.store) (inodes ∙ found_more (inodes_of fs) mounts user dir bytes ino found) in
    let P : Stores → Type 0 = λ s. IsSome (node_numbered s ino) in
    subst P (sym same) (found_node fs mounts user dir bytes ino is are referred found))

pub ends_referred : (fs new : FileSystem) (mounts : MountTable) (user : User) (dir : ℕ) (bytes : List ℕ) (r : Result ℕ Errno)
    → IsFileSystem fs → AreMounts mounts fs.store → 0 < slice_index fs.references dir
    → r ≡ (find_in (inodes_of fs) mounts user dir bytes).answer → inodes_of new ≡ (find_in
    (inodes_of fs) mounts user dir bytes).inodes → IfOk r (λ ino. 0 < slice_index new.references ino)
ends_referred fs new mounts user dir bytes r is are referred answer inodes =
    if_ok r (λ ino. 0 < slice_index new.references ino) (λ ino ok.
    let found : (find_in (inodes_of fs) mounts user dir bytes).answer ≡ Ok ino = sym answer ∙ ok in
    let P : Inodes → Type 0 = λ n. 0 < slice_index n.references ino in
    subst P (sym inodes) (found_referred fs mounts user dir bytes ino is are referred found))

pub found_few : (n : Inodes) (mounts : MountTable) (user : User) (dir : ℕ) (bytes : List ℕ) (most : ℕ) → ((i : ℕ)
    → slice_index n.references i ≤ most) → (i : ℕ)
    → slice_index (find_in n mounts user dir bytes).inodes.references i ≤ most + 1
found_few n mounts user dir bytes most few i = by (find_in n mounts user dir bytes).answer refl where
  by : (r : Result ℕ Errno) → (find_in n mounts user dir bytes).answer ≡ r
      → slice_index (find_in n mounts user dir bytes).inodes.references i ≤ most + 1
  by (Ok ino) is = let P : Inodes → Type 0 = λ m. slice_index m.references i ≤ most + 1 in
      subst P (sym (found_more n mounts user dir bytes ino is)) (more_few n.references ino i most (few ino) (few i))
  by (Err e) is = let P : Inodes → Type 0 = λ m. slice_index m.references i ≤ most + 1 in
      subst P (sym (found_none n mounts user dir bytes e is)) (let f = few i in omega (arith, f))
