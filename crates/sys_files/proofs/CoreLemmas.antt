-- What the writing of the file `core` keeps: all that a change of inodes keeps. It never sleeps.
use Rattle.std.proofs.Common.{◌==◌, ◌+◌, ℕ, Bool, true, false, cond, List, length, Result, Ok, Err, is_ok, slice_index, ◌≡◌, refl, sym, ap, ◌∙◌}
use Rattle.std.specs.List.{All}
use Rattle.std.proofs.lemmas.Bool.{eq-eqb}
use Rattle.v6_base.specs.declared.answer.Answer.{Answer}
use Rattle.v6_base.specs.declared.answer.Answer.TheVariants.{Ret, Fail, Sleep}
use Rattle.v6_base.specs.declared.errno.Errno.{Errno}
use Rattle.v6_base.specs.declared.errno.Errno.TheVariants.{EPERM, EACCES}
use Rattle.u_area.specs.declared.area.UArea.{UArea}
use Rattle.u_area.specs.Area.{area_bytes}
use Rattle.u_area.specs.declared.layout.TheConstants.{AREA_SIZE}
use Rattle.fs_nodes.specs.Keys.{counts}
use Rattle.fs_tree.specs.declared.made.Made.{Made}
use Rattle.fs_tree.specs.declared.made.Made.TheVariants as made
use Rattle.fs_tree.specs.declared.user.User.{User}
use Rattle.fs_tree.specs.declared.user.Want.TheVariants.{Write}
use Rattle.fs_tree.specs.Finding.{Inodes, Finding, make_in, put_back}
use Rattle.fs_tree.specs.Permission.{access}
use Rattle.lines_eight.specs.Lines.{HasRoom}
use Rattle.sys_files.specs.Handed.{Handed, r0, node_at, disk_of, user_of, with_inodes, let_go}
use Rattle.sys_files.specs.Did.{Did, unnamed, fails, is_done, check, must, until_end, then_named, by_made}
use Rattle.sys_files.specs.Making.{new_in, entry_written, writes_entry, with_links, enters_new, truncated_in, with_no_blocks}
use Rattle.sys_files.specs.Entering.{did_of}
use Rattle.sys_files.specs.Core.{core_name, is_plain, writes_parts, writes_over, writes_new, writes_named, core_file, is_written}
use Rattle.sys_files.specs.Sound.{IsSound, IsKept}
use Rattle.sys_files.proofs.KeptLemmas.{kept_references}
use Rattle.sys_files.proofs.PartLemmas.{unnamed_told, until}
use Rattle.sys_files.proofs.NodeCounts.{put_back_counts, making_counts, new_counts, entry_counts, links_counts, truncated_counts}
use Rattle.sys_files.proofs.Steady.{Steady, steady_same}

-- A file that is there is plain and may be written: it gives its blocks back, and is written.
pub over_goes : (now : ℕ) (h after : Handed) (ino : ℕ) (user : User) (n : Inodes) (u v : Unit {0}) (r : Result (Unit {0}) Errno)
    → Ok u ≡ must EACCES (is_plain (node_at h ino).mode) → user ≡ user_of h.u
    → Ok v ≡ access h.marks ino (node_at h ino) user Write
    → n ≡ truncated_in h.inodes ino now → writes_parts now (with_inodes h n) ino ≡ did_of after r
    → writes_over now h ino ≡ did_of after r
over_goes now h after ino user n u v r plain caller may empty did =
    sym (λ i. check h (plain i) (λ p. check h ((may ∙ ap (λ w. access h.marks ino (node_at h ino) w Write) caller) i)
    (λ m. writes_parts now (with_no_blocks h ino now) ino)))
    ∙ ap (λ x. writes_parts now (with_inodes h x) ino) (sym empty) ∙ did

-- a call that is done or refused
abbrev pub IsOver : Answer → Type 0
IsOver (Ret r0 r1) = Unit {0}
IsOver (Fail e) = Unit {0}
IsOver (Sleep pri chan) = ⊥

pub record OverWith (P : Handed → Type 0) (d : Did) : Type 0 where
  pub state : P d.state
  pub over : IsOver d.answer

module _ (P : Handed → Type 0)
    (keeps : (h : Handed) (inodes : Inodes) → counts inodes.store ≡ counts h.inodes.store → P h
    → P (with_inodes h inodes)) where
  checks : {A : Type 0} (h : Handed) (test : Result A Errno) (next : A → Did) → P h → ((a : A) → OverWith P (next a))
      → OverWith P (check h test next)
  checks h (Ok a) next p goes = goes a
  checks h (Err e) next p goes = record { state = p; over = tt }

  named : {A : Type 0} (h : Handed) (found : Finding A) (next : Handed → A → Did)
      → counts found.inodes.store ≡ counts h.inodes.store → P h
      → ((now : Handed) (a : A) → P now → OverWith P (next now a)) → OverWith P (then_named h found next)
  named h found next same p goes =
      let now : P (with_inodes h found.inodes) = keeps h found.inodes same p in
      checks (with_inodes h found.inodes) found.answer (next (with_inodes h found.inodes)) now
      (λ a. goes (with_inodes h found.inodes) a now)

  lets_go : (ino : ℕ) (d : Did) → OverWith P d → OverWith P (until_end ino d)
  lets_go ino d k =
      record { state = keeps d.state (let_go d.state ino).inodes (put_back_counts d.state.inodes ino) k.state; over = k.over }

  writes : (h : Handed) (dir offset : ℕ) (bytes : List ℕ) (now : ℕ) (next : Handed → Did) → P h
      → ((l : Handed) → P l → OverWith P (next l))
      → OverWith P (writes_entry h dir offset bytes now next)
  writes h dir offset bytes now next p goes = named h (entry_written h.inodes dir offset bytes now) (λ l done. next l)
      (entry_counts h.inodes dir offset bytes now) p
      (λ l done q. goes l q)

  parts : (now : ℕ) (h : Handed) (ino : ℕ) → P h → OverWith P (writes_parts now h ino)
  parts now h ino p =
      let d : ℕ = AREA_SIZE + length h.image.data in
      writes h ino 0 (area_bytes h.u) now
      (λ l. writes_entry l ino AREA_SIZE l.image.data now (λ m. writes_entry m ino d m.image.stack now is_done)) p (λ l q.
      writes l ino AREA_SIZE l.image.data now (λ m. writes_entry m ino d m.image.stack now is_done) q (λ m r.
      writes m ino d m.image.stack now is_done r (λ n t. record { state = t; over = tt })))

  over_file : (now : ℕ) (h : Handed) (ino : ℕ) → P h → OverWith P (writes_over now h ino)
  over_file now h ino p =
      checks h (must EACCES (is_plain (node_at h ino).mode)) _ p (λ plain.
      checks h (access h.marks ino (node_at h ino) (user_of h.u) Write) _ p (λ may.
      parts now (with_no_blocks h ino now) ino
      (keeps h (with_no_blocks h ino now).inodes (truncated_counts h.inodes ino now) p)))

  new_file : (now : ℕ) (h : Handed) (dir offset : ℕ) (name : List ℕ) → P h → OverWith P (writes_new now h dir offset name)
  new_file now h dir offset name p =
      named h (new_in h.inodes (disk_of h dir) 0o666 (user_of h.u) now) _
      (new_counts h.inodes (disk_of h dir) 0o666 (user_of h.u) now) p (λ l ino q.
      lets_go ino (enters_new l dir offset name ino now (writes_parts now))
      (writes l dir offset _ now (λ m. writes_parts now (with_links m ino 1 now) ino) q (λ m r.
      parts now (with_links m ino 1 now) ino (keeps m (with_links m ino 1 now).inodes (links_counts m.inodes ino 1 now) r))))

  made_so : (now : ℕ) (h : Handed) (answer : Made) → P h → OverWith P (by_made (writes_over now) (writes_new now) h answer)
  made_so now h (made.Found ino) p = lets_go ino (writes_over now h ino) (over_file now h ino p)
  made_so now h (made.Room dir offset name) p = lets_go dir (writes_new now h dir offset name) (new_file now h dir offset name p)

  pub core_keeps : (h : Handed) (now : ℕ) → P h → OverWith P (core_file h now)
  unfolding core_file
  core_keeps h now p = by (h.u.uid == h.u.ruid)
    where
      by : (b : Bool) → OverWith P (cond b (writes_named now h) (fails h EPERM))
      by true =
          named h (make_in h.inodes h.mounts h.marks (user_of h.u) h.u.dir core_name)
          (by_made (writes_over now) (writes_new now))
          (making_counts h.inodes _) p
          (λ l answer q. made_so now l answer q)
      by false = record { state = p; over = tt }

-- Of its process all stays, and the marks of the texts; and on no line do more bytes wait than there is room for.
pub core_steady : (h : Handed) (now : ℕ) → All HasRoom h.lines → Steady h (core_file h now).state
core_steady h now room =
    (core_keeps (Steady h)
    (λ l inodes count s. record { row = s.row; area = s.area; image = s.image; marks = s.marks; room = s.room }) h now
    (steady_same h room)).state

-- The file of the name is looked for, in the directory of the process.
module _ (h after : Handed) (now : ℕ) (name : List ℕ) (same : name ≡ core_name)
    (parts : after ≡ with_inodes h (make_in h.inodes h.mounts h.marks (user_of h.u) h.u.dir name).inodes)
  where
    named_is : (r : Result Made Errno) → r ≡ (make_in h.inodes h.mounts h.marks (user_of h.u) h.u.dir name).answer
        → writes_named now h ≡ check after r (by_made (writes_over now) (writes_new now) after)
    named_is r answer =
        ap (λ b. then_named h (make_in h.inodes h.mounts h.marks (user_of h.u) h.u.dir b)
        (by_made (writes_over now) (writes_new now)))
        (sym same)
        ∙ sym (λ i. check (parts i) (answer i) (by_made (writes_over now) (writes_new now) (parts i)))

    -- It is there.
    pub named_over : (m : Made) (ino : ℕ) (end : Handed) (r : Result (Unit {0}) Errno) (last : Inodes)
        → Ok m ≡ (make_in h.inodes h.mounts h.marks (user_of h.u) h.u.dir name).answer → m ≡ made.Found ino
        → writes_over now after ino ≡ did_of end r → last ≡ put_back end.inodes ino
        → unnamed (writes_named now h) ≡ did_of (with_inodes end last) r
    named_over m ino end r last answer is did back =
        ap unnamed (named_is (Ok m) answer ∙ ap (by_made (writes_over now) (writes_new now) after) is)
        ∙ until end ino (writes_over now after ino) r last (unnamed_told end (writes_over now after ino) r did) back

    pub not_named : (e : Errno) → Err e ≡ (make_in h.inodes h.mounts h.marks (user_of h.u) h.u.dir name).answer
        → unnamed (writes_named now h) ≡ fails after e
    not_named e answer = ap unnamed (named_is (Err e) answer)

    -- It isn't there.
    pub named_new : (m : Made) (dir offset : ℕ) (entry : List ℕ) (end : Handed) (r : Result (Unit {0}) Errno) (last : Inodes)
        → Ok m ≡ (make_in h.inodes h.mounts h.marks (user_of h.u) h.u.dir name).answer → m ≡ made.Room dir offset entry
        → unnamed (writes_new now after dir offset entry) ≡ did_of end r → last ≡ put_back end.inodes dir
        → unnamed (writes_named now h) ≡ did_of (with_inodes end last) r
    named_new m dir offset entry end r last answer is did back =
        ap unnamed (named_is (Ok m) answer ∙ ap (by_made (writes_over now) (writes_new now) after) is)
        ∙ until end dir (writes_new now after dir offset entry) r last did back

-- A process whose effective user is the real one writes the file, and no other.
pub core_goes : (h : Handed) (now : ℕ) → h.u.uid ≡ h.u.ruid → core_file h now ≡ writes_named now h
unfolding core_file
core_goes h now same = ap (λ b. cond b (writes_named now h) (fails h EPERM)) (eq-eqb h.u.uid h.u.ruid same)

pub core_refused : (h : Handed) (now : ℕ) → (h.u.uid == h.u.ruid) ≡ false → core_file h now ≡ fails h EPERM
unfolding core_file
core_refused h now other = ap (λ b. cond b (writes_named now h) (fails h EPERM)) other

-- what is told of the writing
pub told_whole : (h : Handed) (r : Result (Unit {0}) Errno) → is_ok r ≡ is_written (did_of h r).answer
told_whole h (Ok u) = refl
told_whole h (Err e) = refl

pub told_state : (h : Handed) (r : Result (Unit {0}) Errno) → h ≡ (did_of h r).state
told_state h (Ok u) = refl
told_state h (Err e) = refl

-- The open files, the pipes and the process are as they were.
record SameTables (old new : Handed) : Type 0 where
  pub files : new.files ≡ old.files
  pub pipes : new.pipes ≡ old.pipes
  pub u : new.u ≡ old.u
  pub mounts : new.mounts ≡ old.mounts

-- What every call keeps the writing of the file keeps too.
pub core_kept : (old new : Handed) (now : ℕ) → IsSound old → new ≡ (core_file old now).state
    → ((i : ℕ) → slice_index new.inodes.references i ≡ slice_index old.inodes.references i)
    → counts new.inodes.store ≡ counts old.inodes.store
    → IsKept old new
core_kept old new now sound state references same_counts =
    let same : SameTables old (core_file old now).state =
    (core_keeps (SameTables old)
    (λ h inodes count_is k. record { files = k.files; pipes = k.pipes; u = k.u; mounts = k.mounts }) old now
    (record { files = refl; pipes = refl; u = refl; mounts = refl })).state in
    kept_references old new sound (ap (λ (h : Handed). h.files) state ∙ same.files)
    (ap (λ (h : Handed). h.pipes) state ∙ same.pipes)
    (ap (λ (h : Handed). h.u.files) state ∙ ap (λ (u : UArea). u.files) same.u)
    (ap (λ (h : Handed). h.u.dir) state ∙ ap (λ (u : UArea). u.dir) same.u)
    (ap (λ (h : Handed). h.mounts) state ∙ same.mounts) references same_counts
