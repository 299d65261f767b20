-- A new inode is made, entered, and let go.
use Rattle.std.proofs.Common.{◌≡◌, ◌≢◌, ℕ, List, Result, Ok, Err, ap, ◌∙◌}
use Rattle.std.proofs.lemmas.Bool.{eq-eqb, ne_eqb}
use Rattle.v6_base.specs.declared.answer.Answer.{Answer}
use Rattle.v6_base.specs.declared.errno.Errno.{Errno}
use Rattle.v6_base.specs.declared.errno.Errno.TheVariants.{EPERM, EEXIST}
use Rattle.fs_tree.specs.declared.made.Made.{Made}
use Rattle.fs_tree.specs.declared.made.Made.TheVariants as made
use Rattle.fs_tree.specs.declared.user.User.{User}
use Rattle.fs_tree.specs.Name.{name_at}
use Rattle.fs_tree.specs.Finding.{Inodes, make_in, put_back}
use Rattle.sys_files.specs.Handed.{Handed, disk_of, user_of, with_inodes}
use Rattle.sys_files.specs.Did.{Did, unnamed, fails, until_end, by_made}
use Rattle.sys_files.specs.Making.{new_in, enters_new, makes_node, is_super_user, makes_new, makes_any, mknod_at}
use Rattle.sys_files.specs.Entering.{did_of, did_with}
use Rattle.sys_files.proofs.PartLemmas.{passes, stops, named, not_named, searched, not_searched, until_told, until, until_answered}

module _ (h : Handed) (dir offset : ℕ) (name : List ℕ) (mode now : ℕ) (next : Handed → ℕ → Did) (user : User)
    (caller : user ≡ user_of h.u) (dev : ℕ) (disk : dev ≡ disk_of h dir) where
  is_made : (ino : ℕ) (n : Inodes) → Ok ino ≡ (new_in h.inodes dev mode user now).answer
      → n ≡ (new_in h.inodes dev mode user now).inodes
      → makes_node h dir offset name mode now next
      ≡ until_end ino (enters_new (with_inodes h n) dir offset name ino now next)
  is_made ino n answer inodes =
      named h (new_in h.inodes (disk_of h dir) mode (user_of h.u) now) ino n
      (λ h ino. until_end ino (enters_new h dir offset name ino now next))
      (answer ∙ (λ i. (new_in h.inodes (disk i) mode (caller i) now).answer))
      (inodes ∙ (λ i. (new_in h.inodes (disk i) mode (caller i) now).inodes))

  -- where what comes after it gives no value
  pub made_told : (ino : ℕ) (n last : Inodes) (after : Handed) (r : Result (Unit {0}) Errno)
      → Ok ino ≡ (new_in h.inodes dev mode user now).answer
      → n ≡ (new_in h.inodes dev mode user now).inodes
      → unnamed (enters_new (with_inodes h n) dir offset name ino now next) ≡ did_of after r
      → last ≡ put_back after.inodes ino
      → unnamed (makes_node h dir offset name mode now next) ≡ did_of (with_inodes after last) r
  made_told ino n last after r answer inodes did back =
      ap unnamed (is_made ino n answer inodes)
      ∙ until after ino (enters_new (with_inodes h n) dir offset name ino now next) r last did back

  -- the same where that answers something
  pub made_answered : (ino : ℕ) (n last : Inodes) (after : Handed) (a : Answer)
      → Ok ino ≡ (new_in h.inodes dev mode user now).answer
      → n ≡ (new_in h.inodes dev mode user now).inodes
      → unnamed (enters_new (with_inodes h n) dir offset name ino now next) ≡ did_with after a
      → last ≡ put_back after.inodes ino
      → unnamed (makes_node h dir offset name mode now next) ≡ did_with (with_inodes after last) a
  made_answered ino n last after a answer inodes did back =
      ap unnamed (is_made ino n answer inodes)
      ∙ until_answered after ino (enters_new (with_inodes h n) dir offset name ino now next) a last did back

  -- no inode is made
  pub not_made : (e : Errno) (n : Inodes) → Err e ≡ (new_in h.inodes dev mode user now).answer
      → n ≡ (new_in h.inodes dev mode user now).inodes
      → unnamed (makes_node h dir offset name mode now next) ≡ fails (with_inodes h n) e
  not_made e n answer inodes =
      ap unnamed (not_named h (new_in h.inodes (disk_of h dir) mode (user_of h.u) now) e n
      (λ h ino. until_end ino (enters_new h dir offset name ino now next))
      (answer ∙ (λ i. (new_in h.inodes (disk i) mode (caller i) now).answer))
      (inodes ∙ (λ i. (new_in h.inodes (disk i) mode (caller i) now).inodes)))

-- A new name is looked for: the search is refused, there is an inode of this name, or there is room for it.
module _ (h after : Handed) (name : ℕ) (next : Handed → ℕ → ℕ → List ℕ → Did)
    (parts : after ≡ with_inodes h (make_in h.inodes h.mounts h.marks (user_of h.u) h.u.dir
    (name_at h.image name)).inodes) where
  abbrev either : Handed → Made → Did
  either = by_made (λ h ino. fails h EEXIST) next

  pub name_refused : (e : Errno)
      → Err e ≡ (make_in h.inodes h.mounts h.marks (user_of h.u) h.u.dir (name_at h.image name)).answer
      → unnamed (makes_new h name next) ≡ fails after e
  name_refused e answer =
      ap unnamed (not_searched h after (make_in h.inodes h.mounts h.marks (user_of h.u) h.u.dir (name_at h.image name)) either
      parts e answer)

  module _ (m : Made)
      (answer : Ok m ≡ (make_in h.inodes h.mounts h.marks (user_of h.u) h.u.dir (name_at h.image name)).answer) where
    name_found : makes_new h name next ≡ either after m
    name_found =
        searched h after (make_in h.inodes h.mounts h.marks (user_of h.u) h.u.dir (name_at h.image name)) either parts m answer

    pub name_taken : (ino : ℕ) (last : Inodes) → m ≡ made.Found ino → last ≡ put_back after.inodes ino
        → unnamed (makes_new h name next) ≡ fails (with_inodes after last) EEXIST
    name_taken ino last is back =
        ap unnamed (name_found ∙ ap (either after) is) ∙ until_told after ino (Err EEXIST) last back

    pub name_free : (dir offset : ℕ) (entry : List ℕ) → m ≡ made.Room dir offset entry
        → unnamed (makes_new h name next) ≡ unnamed (until_end dir (next after dir offset entry))
    name_free dir offset entry is = ap unnamed (name_found ∙ ap (either after) is)

-- user 0 makes files of any kind
pub mknod_goes : (h : Handed) (name mode device now : ℕ) → h.u.uid ≡ 0
    → mknod_at h name mode device now ≡ makes_new h name (makes_any mode device now)
mknod_goes h name mode device now super =
    passes h EPERM (is_super_user h) (λ may. makes_new h name (makes_any mode device now)) (eq-eqb h.u.uid 0 super)

pub mknod_refused : (h : Handed) (name mode device now : ℕ) → h.u.uid ≢ 0 → mknod_at h name mode device now ≡ fails h EPERM
mknod_refused h name mode device now other =
    stops h EPERM (is_super_user h) (λ may. makes_new h name (makes_any mode device now)) (ne_eqb h.u.uid 0 other)
