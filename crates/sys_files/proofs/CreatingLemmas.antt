-- What creat keeps, part by part, and what it comes to.
use Rattle.std.proofs.Common.{◌≡◌, ◌<◌, ◌≤◌, ℕ, false, List, [], slice_index, Result, Ok, Err, refl, sym, ap, ◌∙◌, subst, arith}
use Rattle.v6_base.specs.declared.answer.Answer.{Answer}
use Rattle.v6_base.specs.declared.answer.Answer.TheVariants.{Fail}
use Rattle.v6_base.specs.declared.errno.Errno.{Errno}
use Rattle.v6_base.specs.declared.errno.Errno.TheVariants.{EMFILE, ENFILE, ENXIO}
use Rattle.fs_nodes.proofs.RestLemmas.{rest_then}
use Rattle.fs_nodes.specs.Keys.{counts}
use Rattle.fs_tree.specs.Mounting.{AreMounts}
use Rattle.fs_tree.proofs.MountLemmas.{mounts_stay}
use Rattle.fs_nodes.specs.FileSystem.{FileSystem, SameRest}
use Rattle.open_files.specs.declared.file.FileKind.{FileKind}
use Rattle.open_files.specs.Files.{AreOpen, free_number, free_entry}
use Rattle.fs_tree.specs.declared.made.Made.{Made}
use Rattle.fs_tree.specs.declared.made.Made.TheVariants as made
use Rattle.fs_tree.specs.Name.{name_at}
use Rattle.fs_tree.specs.Finding.{Inodes, inodes_of, make_in, put_back}
use Rattle.sys_files.specs.Handed.{Handed, node_at, user_of, with_inodes}
use Rattle.sys_files.specs.Did.{Did, unnamed, check, must, need, by_made}
use Rattle.sys_files.specs.Pipes.{ArePipes}
use Rattle.sys_files.specs.Sound.{owed, IsKept}
use Rattle.sys_files.specs.Opening.{can_open, opens}
use Rattle.sys_files.specs.Making.{opens_again, makes_file, creat_file}
use Rattle.sys_files.specs.Entering.{OneReferenceMore, did_with}
use Rattle.sys_files.proofs.OwingLemmas.{IsKeptBut, kept_ends, once_more, referred_low}
use Rattle.sys_files.proofs.StayingLemmas.{stays_there}
use Rattle.sys_files.proofs.EnteringLemmas.{taken}
use Rattle.sys_files.proofs.GivingLemmas.{OneReferenceLess, gives}
use Rattle.sys_files.proofs.OpeningLemmas.{opens_kept}
use Rattle.sys_files.proofs.PartLemmas.{until_answered}

-- The opening itself keeps what a call keeps.
pub opened_kept : (h new : Handed) (ino : ℕ) (kind : FileKind) → kind.pipe ≡ false → AreOpen h.files h.u.files
    → ArePipes h.files h.pipes → AreMounts h.mounts h.inodes.store → 0 < slice_index h.inodes.references ino
    → new ≡ (opens h ino kind).state → IsKept h new
opened_kept h new ino kind plain open_ pipes mounts referred is =
    let begins : IsKeptBut h h [] =
    record {
      is_open = open_;
      numbers = λ entry. refl;
      references = λ i. omega arith;
      counts = refl;
      mounts = mounts;
      pipes = pipes;
      others = λ entry file is fewer. stays_there h.files entry file is;
    } in
    subst (λ (x : Handed). IsKept h x) (sym is)
    (kept_ends h (opens h ino kind).state (opens_kept h h [] ino kind plain referred begins))

-- It takes no reference away.
check_more : {A : Type 0} (h : Handed) (i : ℕ) (r : Result A Errno) (next : A → Did)
    → ((a : A) → slice_index h.inodes.references i ≤ slice_index (next a).state.inodes.references i)
    → slice_index h.inodes.references i ≤ slice_index (check h r next).state.inodes.references i
check_more h i (Ok a) next more = more a
check_more h i (Err e) next more = omega arith

opens_more : (h : Handed) (ino : ℕ) (kind : FileKind) (i : ℕ) → 0 < slice_index h.inodes.references ino
    → slice_index h.inodes.references i ≤ slice_index (opens h ino kind).state.inodes.references i
opens_more h ino kind i referred =
    check_more h i (need EMFILE (free_number h.u.files)) _
    (λ fd. check_more h i (need ENFILE (free_entry h.files)) _
    (λ entry. check_more h i (must ENXIO (can_open h (node_at h ino))) _ (λ can.
    let more = once_more h.inodes.references ino i (referred_low h.inodes.references ino referred) in
    omega (arith, more))))

pub opened_more : (h new : Handed) (ino : ℕ) (kind : FileKind) (i : ℕ) → 0 < slice_index h.inodes.references ino
    → new ≡ (opens h ino kind).state
    → slice_index h.inodes.references i ≤ slice_index new.inodes.references i
opened_more h new ino kind i referred is =
    subst (λ (x : Handed). slice_index h.inodes.references i ≤ slice_index x.inodes.references i) (sym is)
    (opens_more h ino kind i referred)

-- a part of a call after which another one is kept
pub kept_after : (h m new : Handed) → m.files ≡ h.files → m.u ≡ h.u → m.mounts ≡ h.mounts
    → ((i : ℕ) → slice_index m.inodes.references i ≡ slice_index h.inodes.references i)
    → counts m.inodes.store ≡ counts h.inodes.store
    → IsKept m new → IsKept h new
kept_after h m new files u mounts same all k =
    let owes : (i : ℕ) → owed m i ≡ owed h i = λ i. rw (files, u, mounts) refl in
    record {
      is_open = k.is_open;
      numbers = rw (files, u) at k.numbers;
      references = λ i. (let r = k.references i in let s = same i in let o = owes i in omega (arith, r, s, o));
      counts = k.counts ∙ all;
      mounts = k.mounts;
      pipes = k.pipes;
      others = rw (files, u) at k.others;
    }

-- a reference that is taken before a part and goes after it
module _ (old mid last : Handed) (a b c d : FileSystem) (ino : ℕ) (takes : OneReferenceMore a ino b)
    (k : IsKept (with_inodes mid (inodes_of b)) (with_inodes last (inodes_of c)))
    (files : mid.files ≡ old.files) (u : mid.u ≡ old.u) (mounts : mid.mounts ≡ old.mounts)
    (more : (i : ℕ) → slice_index b.references i ≤ slice_index c.references i)
    (back : inodes_of d ≡ put_back (inodes_of c) ino) (rest : SameRest c d) where
  less : OneReferenceLess c ino d
  less = gives c d ino (let some = taken a b ino takes in let m = more ino in omega (arith, some, m)) back rest

  pub between_kept : IsKept (with_inodes old (inodes_of a)) (with_inodes last (inodes_of d))
  between_kept =
      let owes : (i : ℕ) → owed mid i ≡ owed old i = λ i. rw (files, u, mounts) refl in
      record {
        is_open = k.is_open;
        numbers = rw (files, u) at k.numbers;
        references = λ i. (let t = takes.references i in let r = k.references i in let l = less.references i in let o =
            owes i in omega (arith, t, r, l, o));
        counts = less.counts ∙ k.counts ∙ takes.counts;
        mounts = mounts_stay last.mounts c.store d.store less.counts k.mounts;
        pipes = k.pipes;
        others = rw (files, u) at k.others;
      }

  pub between_more : (i : ℕ) → slice_index a.references i ≤ slice_index d.references i
  between_more i = let t = takes.references i in let m = more i in let l = less.references i in omega (arith, t, m, l)

  pub between_blocks : SameRest b c → SameRest a d
  between_blocks same =
      rest_then a.blocks b.blocks d.blocks takes.blocks (rest_then b.blocks c.blocks d.blocks same rest)

-- what creat comes to, by the parts after the search for the name
module _ (h after : Handed) (name mode now : ℕ)
    (parts : after ≡ with_inodes h (make_in h.inodes h.mounts h.marks (user_of h.u) h.u.dir
    (name_at h.image name)).inodes) where
  made_is : (r : Result Made Errno) → r ≡ (make_in h.inodes h.mounts h.marks (user_of h.u) h.u.dir
      (name_at h.image name)).answer
      → creat_file h name mode now ≡ check after r (by_made (opens_again now) (makes_file mode now) after)
  made_is r answer = sym (λ i. check (parts i) (answer i) (by_made (opens_again now) (makes_file mode now) (parts i)))

  pub creat_refused : (e : Errno) → Err e ≡ (make_in h.inodes h.mounts h.marks (user_of h.u) h.u.dir
      (name_at h.image name)).answer
      → creat_file h name mode now ≡ did_with after (Fail e)
  creat_refused e answer = made_is (Err e) answer

  module _ (m : Made) (a : Answer) (end : Handed) (last : Inodes)
      (answer : Ok m ≡ (make_in h.inodes h.mounts h.marks (user_of h.u) h.u.dir (name_at h.image name)).answer) where
    pub creat_found : (ino : ℕ) → m ≡ made.Found ino → unnamed (opens_again now after ino) ≡ did_with end a
        → last ≡ put_back end.inodes ino
        → unnamed (creat_file h name mode now) ≡ did_with (with_inodes end last) a
    creat_found ino is did back =
        ap unnamed (made_is (Ok m) answer ∙ ap (by_made (opens_again now) (makes_file mode now) after) is)
        ∙ until_answered end ino (opens_again now after ino) a last did back

    pub creat_new : (dir offset : ℕ) (entry : List ℕ) → m ≡ made.Room dir offset entry
        → unnamed (makes_file mode now after dir offset entry) ≡ did_with end a → last ≡ put_back end.inodes dir
        → unnamed (creat_file h name mode now) ≡ did_with (with_inodes end last) a
    creat_new dir offset entry is did back =
        ap unnamed (made_is (Ok m) answer ∙ ap (by_made (opens_again now) (makes_file mode now) after) is)
        ∙ until_answered end dir (makes_file mode now after dir offset entry) a last did back
