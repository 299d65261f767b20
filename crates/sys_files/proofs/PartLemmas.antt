-- A call goes from one part to the next.
use Rattle.std.proofs.Common.{◌≡◌, ℕ, Bool, true, false, Result, Ok, Err, refl, sym, ap, ◌∙◌}
use Rattle.v6_base.specs.declared.answer.Answer.{Answer}
use Rattle.v6_base.specs.declared.errno.Errno.{Errno}
use Rattle.fs_tree.specs.Finding.{Inodes, Finding, put_back}
use Rattle.sys_files.specs.Handed.{Handed, with_inodes}
use Rattle.sys_files.specs.Did.{Did, unnamed, fails, is_done, check, must, until_end, then_named}
use Rattle.sys_files.specs.Entering.{did_of, did_with}
use Rattle.sys_files.specs.Making.{names_directory}

-- a test that holds, and one that fails
pub passes : (h : Handed) (e : Errno) (t : Bool) (next : Unit {0} → Did) → t ≡ true → check h (must e t) next ≡ next tt
passes h e true next is = refl
passes h e false next is = absurd (cc)

pub stops : (h : Handed) (e : Errno) (t : Bool) (next : Unit {0} → Did) → t ≡ false
    → check h (must e t) next ≡ fails h e
stops h e true next is = absurd (cc)
stops h e false next is = refl

-- a search that finds, and one that is refused
pub named : {A : Type 0} (h : Handed) (found : Finding A) (a : A) (n : Inodes) (next : Handed → A → Did)
    → Ok a ≡ found.answer → n ≡ found.inodes → then_named h found next ≡ next (with_inodes h n) a
named h found a n next answer inodes =
    sym (λ i. check (with_inodes h (inodes i)) (answer i) (next (with_inodes h (inodes i))))

pub not_named : {A : Type 0} (h : Handed) (found : Finding A) (e : Errno) (n : Inodes) (next : Handed → A → Did)
    → Err e ≡ found.answer → n ≡ found.inodes
    → then_named h found next ≡ fails (with_inodes h n) e
not_named h found e n next answer inodes =
    sym (λ i. check (with_inodes h (inodes i)) (answer i) (next (with_inodes h (inodes i))))

-- the same by what there is after the search
module _ {A : Type 0} (h after : Handed) (found : Finding A) (next : Handed → A → Did)
    (parts : after ≡ with_inodes h found.inodes) where
  pub searched : (a : A) → Ok a ≡ found.answer → then_named h found next ≡ next after a
  searched a answer = sym (λ i. check (parts i) (answer i) (next (parts i)))

  pub not_searched : (e : Errno) → Err e ≡ found.answer → then_named h found next ≡ fails after e
  not_searched e answer = sym (λ i. check (parts i) (answer i) (next (parts i)))

-- a part that gives no value names nothing
pub unnamed_told : (h : Handed) (d : Did) (r : Result (Unit {0}) Errno) → d ≡ did_of h r → unnamed d ≡ did_of h r
unnamed_told h d r did = ap unnamed did ∙ by r where
  by : (r : Result (Unit {0}) Errno) → unnamed (did_of h r) ≡ did_of h r
  by (Ok u) = refl
  by (Err e) = refl

-- the directory of a name that goes is a name as any other
pub unnamed_directory : (found : Result (ℕ × ℕ × ℕ) Errno) (d : Did) → unnamed (names_directory found d) ≡ unnamed d
unnamed_directory (Ok entry) d = refl
unnamed_directory (Err e) d = refl

-- a reference that goes at the end of a part
pub until_told : (h : Handed) (ino : ℕ) (r : Result (Unit {0}) Errno) (n : Inodes) → n ≡ put_back h.inodes ino
    → unnamed (until_end ino (did_of h r)) ≡ did_of (with_inodes h n) r
until_told h ino (Ok u) n is = sym (ap (λ m. is_done (with_inodes h m)) is)
until_told h ino (Err e) n is = sym (ap (λ m. fails (with_inodes h m) e) is)

pub until : (h : Handed) (ino : ℕ) (d : Did) (r : Result (Unit {0}) Errno) (n : Inodes) → unnamed d ≡ did_of h r
    → n ≡ put_back h.inodes ino → unnamed (until_end ino d) ≡ did_of (with_inodes h n) r
until h ino d r n did is = ap (λ (x : Did). unnamed (until_end ino x)) did ∙ until_told h ino r n is

-- the same of a part that answers something
pub until_answered : (after : Handed) (ino : ℕ) (d : Did) (a : Answer) (last : Inodes) → unnamed d ≡ did_with after a
    → last ≡ put_back after.inodes ino → unnamed (until_end ino d) ≡ did_with (with_inodes after last) a
until_answered after ino d a last did is =
    ap (λ (x : Did). unnamed (until_end ino x)) did ∙ sym (ap (λ m. did_with (with_inodes after m) a) is)
