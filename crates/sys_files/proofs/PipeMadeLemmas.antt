-- What pipe(II) keeps: the ends that it opens are counted, and the inode that it makes is referred to by them.
use Rattle.std.proofs.Common.{◌≡◌, ◌+◌, ◌<◌, ◌++◌, ℕ, false, List, [], ◌∷◌, length, Some, slice_index, refl, sym, ap, ◌∙◌, subst, arith}
use Rattle.std.proofs.lemmas.List.{length-set}
use Rattle.v6_base.specs.declared.errno.Errno.TheVariants.{EMFILE, ENFILE}
use Rattle.fs_nodes.specs.FileSystem.{FileSystem}
use Rattle.fs_tree.specs.Finding.{inodes_of, put_back}
use Rattle.open_files.specs.Files.{free_number, free_entry, opened}
use Rattle.pipe_ends.specs.declared.ends.Pipe.{Pipe}
use Rattle.fs_nodes.specs.Keys.{counts}
use Rattle.fs_tree.proofs.MountLemmas.{mounts_stay}
use Rattle.sys_files.specs.Handed.{Handed, with_inodes, let_go}
use Rattle.sys_files.specs.Did.{need}
use Rattle.sys_files.specs.Entering.{OneReferenceMore}
use Rattle.sys_files.specs.Pipes.{new_pipe, has_end}
use Rattle.sys_files.specs.Piping.{reading_end, writing_end, with_end, with_ends, opens_ends}
use Rattle.sys_files.specs.Sound.{IsSound, IsKept}
use Rattle.sys_files.proofs.OwedLemmas.{file_referred}
use Rattle.sys_files.proofs.OwingLemmas.{IsKeptBut, taken_more, kept_check, kept_ends, kept_lets_go, referred_low}
use Rattle.sys_files.proofs.StayingLemmas.{stays_there}
use Rattle.sys_files.proofs.DescriptorLemmas.{need_is}
use Rattle.sys_files.proofs.EnteringLemmas.{taken}
use Rattle.sys_files.proofs.OpeningLemmas.{entry_free, kept_end}
use Rattle.sys_files.proofs.PipeLemmas.{pipes_made, made_first, no_end}

module _ (old h : Handed) (held : List ℕ) (ino : ℕ) (referred : 0 < slice_index h.inodes.references ino)
    (none : has_end h.files ino ≡ false) (k : IsKeptBut old h held) where
  abbrev pipes : List Pipe
  pipes = h.pipes ++ new_pipe ino ∷ []

  abbrev first : ℕ → ℕ → Handed
  first fd entry = record (with_end h ino reading_end fd entry) { pipes = pipes }

  low : ino < length h.inodes.references
  low = referred_low h.inodes.references ino referred

  first_kept : (fd entry : ℕ) → free_number h.u.files ≡ Some fd → free_entry h.files ≡ Some entry
      → IsKeptBut old (first fd entry) held
  first_kept fd entry number free =
      let place = entry_free h.files entry free in
      kept_end old h held ino fd entry reading_end pipes
      (made_first h.files h.pipes entry (opened ino reading_end) place.0 place.1 refl none k.pipes) low number free k

  both_kept : (fd entry next_fd next : ℕ) → free_number h.u.files ≡ Some fd → free_entry h.files ≡ Some entry
      → free_number (first fd entry).u.files ≡ Some next_fd → free_entry (first fd entry).files ≡ Some next
      → IsKeptBut old (with_ends h ino fd entry next_fd next) held
  both_kept fd entry next_fd next number free more room =
      let place = entry_free h.files entry free in
      let long = length-set h.inodes.references ino (slice_index h.inodes.references ino + 1) in
      let short = low in
      kept_end old (first fd entry) held ino next_fd next writing_end pipes
      (pipes_made h.files h.pipes ino entry next (opened ino reading_end) (opened ino writing_end) place.0 place.1 refl refl
      (entry_free (first fd entry).files next room).1 refl none k.pipes)
      (omega (arith, short, long)) more room (first_kept fd entry number free)

  -- What the opening of the ends keeps, while the call refers to other inodes too.
  pub ends_kept : IsKeptBut old (opens_ends h ino).state held
  ends_kept =
      kept_check old h held (need EMFILE (free_number h.u.files)) _ k (λ fd number.
      kept_check old h held (need ENFILE (free_entry h.files)) _ k (λ entry free.
      kept_check old h held (need EMFILE (free_number (first fd entry).u.files)) _ k (λ next_fd more.
      kept_check old h held (need ENFILE (free_entry (first fd entry).files)) _ k (λ next room.
      both_kept fd entry next_fd next
      (need_is EMFILE (free_number h.u.files) fd number) (need_is ENFILE (free_entry h.files) entry free)
      (need_is EMFILE (free_number (first fd entry).u.files) next_fd more)
      (need_is ENFILE (free_entry (first fd entry).files) next room)))))

-- An inode is made, to which the call refers.
made_kept : (h : Handed) (a b : FileSystem) (ino : ℕ) → IsSound h → h.inodes ≡ inodes_of a → OneReferenceMore a ino b
    → IsKeptBut h (with_inodes h (inodes_of b)) (ino ∷ [])
made_kept h a b ino sound same takes =
    let all : counts b.store ≡ counts h.inodes.store = takes.counts ∙ ap (λ n. counts n.store) (sym same) in
    record {
      is_open = sound.is_open;
      numbers = λ entry. refl;
      references = λ i.
          let t = takes.references i in
          let more = taken_more ino [] i in
          let was : slice_index h.inodes.references i ≡ slice_index a.references i =
          ap (λ n. slice_index n.references i) same in
          omega (arith, t, more, was);
      counts = all;
      mounts = mounts_stay h.mounts h.inodes.store b.store all sound.mounts;
      pipes = sound.pipes;
      others = λ entry file is fewer. stays_there h.files entry file is;
    }

-- No open file is of an inode to which nobody refers.
unreferred_end : (h : Handed) (ino : ℕ) → IsSound h → slice_index h.inodes.references ino ≡ 0 → has_end h.files ino ≡ false
unreferred_end h ino sound none = no_end h.files ino (λ entry file is same.
    let some = file_referred h entry file sound is in
    let here : slice_index h.inodes.references file.ino ≡ slice_index h.inodes.references ino =
    ap (slice_index h.inodes.references) same in
    omega (arith, some, here, none))

-- What the whole call keeps: the inode is made, the ends are opened, and the call's own reference goes.
pub pipe_kept : (h after : Handed) (a b d : FileSystem) (ino : ℕ) → IsSound h → h.inodes ≡ inodes_of a
    → OneReferenceMore a ino b
    → slice_index a.references ino ≡ 0 → after ≡ (opens_ends (with_inodes h (inodes_of b)) ino).state
    → inodes_of d ≡ put_back after.inodes ino → IsKept h (with_inodes after (inodes_of d))
pipe_kept h after a b d ino sound same takes fresh ends back =
    let mid : Handed = with_inodes h (inodes_of b) in
    let none = unreferred_end h ino sound (ap (λ n. slice_index n.references ino) same ∙ fresh) in
    let k = ends_kept h mid (ino ∷ []) ino (taken a b ino takes) none (made_kept h a b ino sound same takes) in
    let P : Handed → Type 0 = λ x. IsKeptBut h x (ino ∷ []) in
    let held = kept_lets_go h after ino [] sound (subst P (sym ends) k) in
    let Q : Handed → Type 0 = λ x. IsKept h x in
    subst Q (ap (with_inodes after) (sym back)) (kept_ends h (let_go after ino) held)
