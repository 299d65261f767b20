-- The blocks on the way to a data block, each after the block that has its address.
use Rattle.std.proofs.Common.{◌≡◌, ◌≢◌, ◌+◌, ◌/◌, ◌<◌, ◌≤◌, ◌==◌, inl, inr, ℕ, Bool, true, false, cond, List, [], ◌∷◌, nat_lt, refl, sym, ap, ◌∙◌, arith}
use Rattle.std.proofs.lemmas.Bool.{cases_lt, lt-ltb, le-ltb}
use Rattle.std.proofs.lemmas.List.Sums.{sum_by-cons}
use Rattle.std.specs.List.{count_by, AllByRecursion}
use Rattle.bmap_path.specs.Path.{path_of, large_path}
use Rattle.bmap_path.specs.declared.BlockName.{BlockName}
use Rattle.bmap_path.specs.declared.BlockName.TheVariants.{Data, Ind, Dbl}
use Rattle.fs_codec.specs.Fields.{Inode}
use Rattle.fs_codec.specs.Modes.{is_large}
use Rattle.fs_codec.specs.Disk.{Disk}
use Rattle.fs_codec.specs.Held.{indirect_at, address}
use Rattle.fs_laws.specs.Grows.{IsPlace, IsOpen}
use Rattle.fs_laws.proofs.GainLemmas.{small_indirect, small_double}
use Rattle.fs_laws.proofs.TreeLemmas.{large_indirect, large_double}

-- the way to the second name is open where the first is held
abbrev pub Links : BlockName → BlockName → Type 0
Links (Data m) q = ⊥
Links (Ind j) (Data n) = n / 256 ≡ j
Links (Ind j) (Ind k) = k < 7
Links (Ind j) Dbl = Unit {0}
Links Dbl (Data n) = ⊥
Links Dbl (Ind k) = Unit {0}
Links Dbl Dbl = ⊥

abbrev pub Follows : BlockName → List BlockName → Type 0
Follows p [] = Unit {0}
Follows p (q ∷ rest) = Links p q

-- names of blocks, each with the way from the one before, and none of them twice
abbrev pub IsPath : List BlockName → Type 0
IsPath [] = Unit {0}
IsPath (p ∷ rest) = IsPlace p × Follows p rest × AllByRecursion (λ q. q ≢ p) rest × IsPath rest

-- the way to the first name is open
abbrev pub Opens : Disk → Inode → List BlockName → Type 0
Opens disk node [] = Unit {0}
Opens disk node (p ∷ rest) = IsOpen disk node p

not_both : (t : Bool) → t ≡ true → t ≡ false → ⊥
not_both true a b = absurd (cc)
not_both false a b = absurd (cc)

-- what is held opens the way to the next
open_next : (disk : Disk) (node : Inode) (p q : BlockName) → Links p q → address disk node p ≢ 0 → IsOpen disk node q
open_next disk node (Data m) q link some = absurd link
open_next disk node (Ind j) (Data n) link some =
    (λ large z. some (large_indirect disk node j large ∙ ap (indirect_at disk node) (sym link) ∙ z), λ small. absurd (some (small_indirect disk node j small)))
open_next disk node (Ind j) (Ind k) link some = (λ large high. absurd (omega (arith, link, high)), λ small. absurd (some (small_indirect disk node j small)))
open_next disk node (Ind j) Dbl link some = by (is_large node.mode) refl where
  by : (t : Bool) → is_large node.mode ≡ t → is_large node.mode ≡ true
  by true e = e
  by false e = absurd (some (small_indirect disk node j e))
open_next disk node Dbl (Data n) link some = absurd link
open_next disk node Dbl (Ind k) link some = (λ large high z. some (large_double disk node large ∙ z), λ small. absurd (some (small_double disk node small)))
open_next disk node Dbl Dbl link some = absurd link

pub opens_next : (disk : Disk) (node : Inode) (p : BlockName) (rest : List BlockName) → Follows p rest → address disk node p ≢ 0 → Opens disk node rest
opens_next disk node p [] follows some = tt
opens_next disk node p (q ∷ rest) follows some = open_next disk node p q follows some

other_indirect : (j k : ℕ) → j ≢ k → Ind j ≢ Ind k
other_indirect j k other e = let same : j ≡ k = cc in other same

data_indirect : (n k : ℕ) → Data n ≢ Ind k
data_indirect n k e = cc

double_indirect : (k : ℕ) → Dbl ≢ Ind k
double_indirect k e = cc

data_double : (n : ℕ) → Data n ≢ Dbl
data_double n e = cc

indirect_double : (k : ℕ) → Ind k ≢ Dbl
indirect_double k e = cc

near_is : (n : ℕ) → n ≤ 32767 → IsPath (Ind (n / 256) ∷ Data n ∷ [])
near_is n h = (omega (arith, h), refl, (data_indirect n (n / 256), tt), (omega (arith, h), tt, tt, tt))

far_is : (n : ℕ) → n ≤ 32767 → IsPath (Dbl ∷ Ind (n / 256) ∷ Data n ∷ [])
far_is n h = (tt, tt, (indirect_double (n / 256), (data_double n, tt)), near_is n h)

-- the two ways of a large file
abbrev pub way : ℕ → Bool → List BlockName
way n t = cond t (Ind (n / 256) ∷ Data n ∷ []) (Dbl ∷ Ind (n / 256) ∷ Data n ∷ [])

large_is : (n : ℕ) (t : Bool) → n ≤ 32767 → IsPath (way n t)
large_is n true h = near_is n h
large_is n false h = far_is n h

-- a small file becomes large before
converted_is : (n : ℕ) (t : Bool) → n ≤ 32767 → 256 ≤ n → (t ≡ true → n < 1792) → IsPath (Ind 0 ∷ way n t)
converted_is n true h high low =
    let few = low refl in
    let other : n / 256 ≢ 0 = λ e. absurd (omega (arith, e, high)) in
    (omega arith, omega (arith, few), (other_indirect (n / 256) 0 other, (data_indirect n 0, tt)), near_is n h)
converted_is n false h high low =
    let other : n / 256 ≢ 0 = λ e. absurd (omega (arith, e, high)) in
    (omega arith, tt, (double_indirect 0, (other_indirect (n / 256) 0 other, (data_indirect n 0, tt))), far_is n h)

lt_when : (m n : ℕ) → nat_lt m n ≡ true → m < n
lt_when m n e = elim (cases_lt m n) [ inl h ↦ h | inr h ↦ absurd (not_both (nat_lt m n) e (le-ltb m n h)) ]

ge_when : (m n : ℕ) → nat_lt m n ≡ false → n ≤ m
ge_when m n e = elim (cases_lt m n) [ inl h ↦ absurd (not_both (nat_lt m n) (lt-ltb m n h) e) | inr h ↦ h ]

small_is : (n : ℕ) (s t : Bool) → n ≤ 32767 → nat_lt n 8 ≡ s → nat_lt n 256 ≡ t → IsPath (cond s (Data n ∷ []) (cond t (large_path n) (Ind 0 ∷ large_path n)))
small_is n true t h e f = (omega (arith, h), tt, tt, tt)
small_is n false true h e f = large_is n (nat_lt n 1792) h
small_is n false false h e f = converted_is n (nat_lt n 1792) h (ge_when n 256 f) (lt_when n 1792)

pub path_is : (large : Bool) (n : ℕ) → n ≤ 32767 → IsPath (path_of large n)
path_is true n h = large_is n (nat_lt n 1792) h
path_is false n h = small_is n (nat_lt n 8) (nat_lt n 256) h refl refl

large_opens : (disk : Disk) (node : Inode) (n : ℕ) (t : Bool) → is_large node.mode ≡ true → (t ≡ true → n < 1792) → Opens disk node (way n t)
large_opens disk node n true large low = (λ l high. let few = low refl in absurd (omega (arith, few, high)), λ small. absurd (not_both (is_large node.mode) large small))
large_opens disk node n false large low = large

way_opens : (disk : Disk) (node : Inode) (n : ℕ) (t : Bool) → is_large node.mode ≡ false → n < 256 → (t ≡ false → 1792 ≤ n) → Opens disk node (way n t)
way_opens disk node n true small few far = (λ large. absurd (not_both (is_large node.mode) large small), λ s. omega (arith, few))
way_opens disk node n false small few far = let many = far refl in absurd (omega (arith, many, few))

small_opens : (disk : Disk) (node : Inode) (n : ℕ) (s t : Bool) → is_large node.mode ≡ false → nat_lt n 8 ≡ s → nat_lt n 256 ≡ t → Opens disk node (cond s (Data n ∷ []) (cond t (large_path n) (Ind 0 ∷ large_path n)))
small_opens disk node n true t small e f = (λ large. absurd (not_both (is_large node.mode) large small), λ s. lt_when n 8 e)
small_opens disk node n false true small e f = way_opens disk node n (nat_lt n 1792) small (lt_when n 256 f) (ge_when n 1792)
small_opens disk node n false false small e f = (λ large. absurd (not_both (is_large node.mode) large small), λ s. refl)

opens_by : (disk : Disk) (node : Inode) (n : ℕ) (t : Bool) → is_large node.mode ≡ t → Opens disk node (path_of t n)
opens_by disk node n true large = large_opens disk node n (nat_lt n 1792) large (lt_when n 1792)
opens_by disk node n false small = small_opens disk node n (nat_lt n 8) (nat_lt n 256) small refl refl

-- the way to the first name of a path is open
pub path_opens : (disk : Disk) (node : Inode) (n : ℕ) → Opens disk node (path_of (is_large node.mode) n)
path_opens disk node n = opens_by disk node n (is_large node.mode) refl

-- names of which this is the last, or a fact where none is left
abbrev pub Ends : Type 0 → BlockName → List BlockName → Type 0
Ends Done q [] = Done
Ends Done q (p ∷ []) = p ≡ q
Ends Done q (p ∷ r ∷ rest) = Ends Done q (r ∷ rest)

ends_same : (A B : Type 0) (q p : BlockName) (rest : List BlockName) → Ends A q (p ∷ rest) → Ends B q (p ∷ rest)
ends_same A B q p [] e = e
ends_same A B q p (r ∷ rest) e = ends_same A B q r rest e

pub ends_next : (A B : Type 0) (q p : BlockName) (rest : List BlockName) → Ends A q (p ∷ rest) → (p ≡ q → B) → Ends B q rest
ends_next A B q p [] e f = f e
ends_next A B q p (r ∷ rest) e f = ends_same A B q r rest e

way_ends : (A : Type 0) (n : ℕ) (t : Bool) → Ends A (Data n) (way n t)
way_ends A n true = refl
way_ends A n false = refl

way_ends_after : (A : Type 0) (n : ℕ) (t : Bool) → Ends A (Data n) (Ind 0 ∷ way n t)
way_ends_after A n true = refl
way_ends_after A n false = refl

small_ends : (A : Type 0) (n : ℕ) (s t : Bool) → Ends A (Data n) (cond s (Data n ∷ []) (cond t (large_path n) (Ind 0 ∷ large_path n)))
small_ends A n true t = refl
small_ends A n false true = way_ends A n (nat_lt n 1792)
small_ends A n false false = way_ends_after A n (nat_lt n 1792)

pub path_ends : (A : Type 0) (large : Bool) (n : ℕ) → Ends A (Data n) (path_of large n)
path_ends A true n = way_ends A n (nat_lt n 1792)
path_ends A false n = small_ends A n (nat_lt n 8) (nat_lt n 256)

-- how many of these names an inode lacks
abbrev pub lacking : Disk → Inode → List BlockName → ℕ
lacking disk node names = count_by (λ name. address disk node name == 0) names

pub lacking_first : (disk : Disk) (node : Inode) (p : BlockName) (rest : List BlockName) → lacking disk node (p ∷ rest) ≡ cond (address disk node p == 0) 1 0 + lacking disk node rest
lacking_first disk node p rest = sum_by-cons (λ name. cond {A = ℕ} (address disk node name == 0) 1 0) p rest

-- those that are not taken stay as they are
pub lacking_same : (old new : Disk) (node next : Inode) (p : BlockName) (rest : List BlockName) → ((q : BlockName) → q ≢ p → address new next q ≡ address old node q) → AllByRecursion (λ q. q ≢ p) rest
    → lacking new next rest ≡ lacking old node rest
lacking_same old new node next p [] same others = refl
lacking_same old new node next p (q ∷ rest) same others =
    let here : cond {A = ℕ} (address new next q == 0) 1 0 ≡ cond {A = ℕ} (address old node q == 0) 1 0 = ap (λ a. cond {A = ℕ} (a == 0) 1 0) (same q others.0) in
    let r = lacking_same old new node next p rest same others.1 in
    omega (arith, here, r, lacking_first new next q rest, lacking_first old node q rest)
