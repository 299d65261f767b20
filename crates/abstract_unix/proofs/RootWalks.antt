-- On the root's disk alone: one walk over the rows of the calls on files, where all that they name is on it. The second disk's store stays,
-- and so it does that all open files are on the root's disk, and the directory of the process.
use Rattle.std.proofs.Common.{◌≡◌, ◌≢◌, ◌<◌, ◌≤◌, ◌∙◌, ◌-◌, ◌==◌, ℕ, zero, suc, Bool, true, false, cond, List, [], ◌∷◌, length, map, set, get_or, slice_index, Option, Some, None, unwrap_or, refl, sym, ap, subst, arith}
use Rattle.std.specs.List.{All}
use Rattle.std.proofs.lemmas.Bool.{false≢true, le-leb}
use Rattle.std.proofs.lemmas.List.Elements.{All-nil, All-head, All-tail}
use Rattle.fs_codec.specs.Store.{Store}
use Rattle.fs_codec.specs.declared.modes.TheConstants.{IALLOC}
use Rattle.fs_nodes.specs.Disks.{OfSecond, Disks}
use Rattle.fs_nodes.specs.Keys.{Stores, OnItsDisk, counts, device_of}
use Rattle.fs_nodes.proofs.CountLaws.{counts_synced}
use Rattle.fs_tree.specs.declared.user.User.{User}
use Rattle.fs_tree.specs.Finding.{Inodes}
use Rattle.mount_tab.specs.Mounted.{split_of}
use Rattle.open_files.specs.declared.file.OpenFile.{OpenFile}
use Rattle.open_files.specs.declared.file.Closed.TheVariants.{Still, Last}
use Rattle.open_files.specs.declared.file.Closed.{Closed}
use Rattle.open_files.specs.Files as files
use Rattle.open_files.specs.Files.{file_at, entry_of, changed, closed, left, with_fewer, with_more, with_offset}
use Rattle.sys_files.specs.Handed.{Handed, no_file, file_of, disk_of, with_inodes, let_go}
use Rattle.sys_files.specs.Did.{Did}
use Rattle.sys_files.specs.Making.{new_in}
use Rattle.sys_files.specs.Core.{core_file}
use Rattle.sys_files.specs.Descriptors.{Closing, told_by, dropped, released, closes, close_all}
use Rattle.sys_files.specs.Moving.{resumes}
use Rattle.sys_files.specs.Names.{sync_all}
use Rattle.sys_files.specs.Pipes.{place_of}
use Rattle.sys_files.specs.Piping.{reading_end, writing_end, pipe_at, pipe_new}
use Rattle.sys_files.proofs.CoreLemmas.{core_keeps}
use Rattle.sys_files.proofs.CoreWalk.{walk_core}
use Rattle.sys_files.proofs.FrameLemmas.{device_counted, lets_go_there, new_there}
use Rattle.sys_files.proofs.NodeCounts.{put_back_counts}
use Rattle.sys_files.proofs.OtherWalks.{IsApart, IsOn, on_root, other_walks}
use Rattle.sys_files.proofs.PipeLemmas.{place_ino}
use Rattle.sys_files.proofs.ReleasedLemmas.{released_still, released_last}
use Rattle.sys_files.proofs.WalkSteps.{Touches, own_key}
use Rattle.sys_files.proofs.Walks.{Walks, CanResume, Owns, closes_all, walk_closes, walk_resume, walk_pipe}
use Rattle.abstract_unix.specs.declared.calls.FileCall.{FileCall}
use Rattle.abstract_unix.specs.declared.calls.FileCall.TheVariants as file
use Rattle.abstract_unix.specs.Calls.{file_row}
use Rattle.abstract_unix.proofs.FileRows.{walk_row}
use Rattle.abstract_unix.proofs.PipeNumbers.{HavePipes}
use Rattle.abstract_unix.proofs.OtherRows.{of_one}
use Rattle.abstract_unix.proofs.RootNames.{key_zero, sync_stays, row_on, pipe_on, core_on, resume_on}

-- What is so of each element of a list is so of each when one has changed, and of what a function makes of them.
pub each_set : {A : Type 0} (P : A → Type 0) (d x : A) (l : List A) (at : ℕ) → P x → ((k : ℕ) → P (get_or l k d)) → (k : ℕ) → P (get_or (set l at x) k d)
each_set P d x [] at here all k = all k
each_set P d x (y ∷ l) zero here all zero = here
each_set P d x (y ∷ l) zero here all (suc k) = all (suc k)
each_set P d x (y ∷ l) (suc at) here all zero = all zero
each_set P d x (y ∷ l) (suc at) here all (suc k) = each_set P d x l at here (λ i. all (suc i)) k

pub each_of : {A B : Type 0} (P : A → Type 0) (R : B → Type 0) (f : A → B) (a : A) (b : B) (l : List A) → R b → ((x : A) → P x → R (f x))
    → ((k : ℕ) → P (get_or l k a)) → (k : ℕ) → R (get_or (map f l) k b)
each_of P R f a b [] none goes all k = none
each_of P R f a b (x ∷ l) none goes all zero = goes x (all zero)
each_of P R f a b (x ∷ l) none goes all (suc k) = each_of P R f a b l none goes (λ i. all (suc i)) k

-- of each file in the table, which is on the root's disk
abbrev pub FileOn : Stores → Option OpenFile → Type 0
FileOn base o = IsOn 0 base (unwrap_or o no_file).ino

abbrev pub AllFiles : Stores → List (Option OpenFile) → Type 0
AllFiles base table = (entry : ℕ) → FileOn base (file_at table entry)

-- Stores with the second one of others, and with as many nodes on each disk; all files and the directory are on the root's disk.
pub record IsRooted (base store : Stores) (low : ℕ) (table : List (Option OpenFile)) (at : ℕ) : Type 0 where
  pub apart : IsApart (λ (s : Stores). s.second) base store low
  pub files : AllFiles base table
  pub dir : IsOn 0 base at

-- the same of what a call is handed
abbrev pub Stays : Stores → Handed → Type 0
Stays base h = IsRooted base h.inodes.store h.mounts.first h.files h.u.dir

pub zero_on : (base : Stores) → IsOn 0 base 0
zero_on base = key_zero base 0 (omega arith)

left_on : (base : Stores) (file : OpenFile) → IsOn 0 base file.ino → FileOn base (left (closed file))
left_on base file here = by (file.count == 1)
  where
    by : (last : Bool) → FileOn base (left (cond last (Last (with_fewer file)) (Still (with_fewer file))))
    by true = zero_on base
    by false = here

pub more_on : (base : Stores) (n : ℕ) (o : Option OpenFile) → FileOn base o → FileOn base (changed (with_more n) o)
more_on base n None here = here
more_on base n (Some file) here = here

moved_on : (base : Stores) (offset : ℕ) (o : Option OpenFile) → FileOn base o → FileOn base (changed (with_offset offset) o)
moved_on base offset None here = here
moved_on base offset (Some file) here = here

put_file : (base : Stores) (table : List (Option OpenFile)) (entry : ℕ) (o : Option OpenFile) → FileOn base o → AllFiles base table
    → AllFiles base (set table entry o)
put_file base table entry o here all = each_set (FileOn base) None o table entry here all

module _ (base : Stores) (slot : ℕ) where
  abbrev On : ℕ → Type 0
  On key = IsOn 0 base key

  abbrev Roots : Did → Type 0
  Roots d = All On d.named → Stays base d.state

  abbrev Apart : Handed → Type 0
  Apart h = IsApart (λ (s : Stores). s.second) base h.inodes.store h.mounts.first

  with_apart : (h : Handed) (inodes : Inodes) → Apart (with_inodes h inodes) → Stays base h → Stays base (with_inodes h inodes)
  with_apart h inodes apart p = record { apart = apart; files = p.files; dir = p.dir }

  roots_named : (ino : ℕ) (d : Did) → (On ino → Roots d) → All On (ino ∷ d.named) → Stays base d.state
  roots_named ino d when named = when (All-head On ino d.named named) (All-tail On ino d.named named)

  abbrev far : Walks Apart (λ d. All On d.named → Apart d.state) (λ count. Unit {0}) (λ ino. Unit {0}) (λ line. Unit {0}) On (Unit {0}) ⊥ slot
  far = other_walks (λ (s : Stores). s.second) 0 base on_root slot

  moved : (h : Handed) (inodes : Inodes) → counts inodes.store ≡ counts h.inodes.store → Touches On ⊥ h.inodes.store inodes.store
      → Stays base h → Stays base (with_inodes h inodes)
  moved h inodes same touches p = with_apart h inodes (far.inodes h inodes same touches p.apart) p

  lets_go_rooted : (ino : ℕ) (d : Did) → (On ino → Roots d) → All On (ino ∷ d.named) → Stays base (let_go d.state ino)
  lets_go_rooted ino d when named =
      moved d.state (let_go d.state ino).inodes (put_back_counts d.state.inodes ino)
      (own_key ino (All-head On ino d.named named) (lets_go_there d.state ino)) (roots_named ino d when named)

  pub root_walks : Walks (Stays base) Roots (λ count. Unit {0}) (λ ino. Unit {0}) (λ line. Unit {0}) On (Unit {0}) ⊥ slot
  root_walks = record {
    refused = λ h e p named. p;
    done = λ h a b p named. p;
    lets_go = λ ino d when named. lets_go_rooted ino d when named;
    named = λ ino d when named. roots_named ino d when named;
    waits = λ h l entry at count calling line p named. record { apart = p.apart; files = p.files; dir = p.dir };
    waits_for_room = λ h l entry at count done calling line p named. record { apart = p.apart; files = p.files; dir = p.dir };
    waits_in_pipe = λ h chan pending entry at count left which of awaits p named. record { apart = p.apart; files = p.files; dir = p.dir };
    tells = λ entries d few all none q named. q named;
    lets_out = λ h l front back d few first second p none q named. q named;
    showing = λ l line bytes count d long few q named. q named;
    inodes = λ h inodes same touches p. moved h inodes same touches p;
    made = λ h dir mode user now here p. with_apart h (new_in h.inodes (disk_of h dir) mode user now).inodes (far.made h dir mode user now here p.apart) p;
    opened = λ h ino kind fd entry plain number free here moves p. record {
      apart = p.apart;
      files = put_file base h.files entry (Some (files.opened ino kind)) here p.files;
      dir = p.dir;
    };
    ends = λ h ino fd entry next_fd next_entry above within number free next_number next_free here moves p. record {
      apart = p.apart;
      files = put_file base (set h.files entry (Some (files.opened ino reading_end))) next_entry (Some (files.opened ino writing_end)) here
          (put_file base h.files entry (Some (files.opened ino reading_end)) here p.files);
      dir = p.dir;
    };
    given = λ h fd free named number moves p. record {
      apart = p.apart;
      files = put_file base h.files (entry_of h.u.files fd) _ (more_on base 1 (file_at h.files (entry_of h.u.files fd)) (p.files (entry_of h.u.files fd))) p.files;
      dir = p.dir;
    };
    offset = λ h entry offset p. record {
      apart = p.apart;
      files = put_file base h.files entry _ (moved_on base offset (file_at h.files entry) (p.files entry)) p.files;
      dir = p.dir;
    };
    dropped = λ h fd named moves p. record {
      apart = p.apart;
      files = put_file base h.files (entry_of h.u.files fd) (left (told_by h fd))
          (left_on base (file_of h (entry_of h.u.files fd)) (p.files (entry_of h.u.files fd))) p.files;
      dir = p.dir;
    };
    marked = λ h pipe p. p;
    gone = λ h ino none p. p;
    known = λ h entry is p. (tt, tt);
    numbered = λ h l other there p. tt;
    typewriter = λ h l t kept p. p;
    covered = λ h covered p. p;
    enters = λ h dir here moves p. record { apart = p.apart; files = p.files; dir = here };
    terminal = λ h tty p. p;
    signalled = λ h p. p;
    stored = λ h m same p. p;
  }

  -- The files of the process, and the pipes that they are ends of, are among them.
  owns_rooted : (h : Handed) → HavePipes h.files h.pipes → Stays base h → Owns On h
  owns_rooted h have p = record { file = λ entry named. p.files entry; pipe = λ entry is named. pipe entry (file_at h.files entry) refl is; dir = p.dir }
    where
      pipe : (entry : ℕ) (o : Option OpenFile) → file_at h.files entry ≡ o → (unwrap_or o no_file).kind.pipe ≡ true → On (pipe_at h entry).ino
      pipe entry None is piped = absurd (cc piped)
      pipe entry (Some x) is piped =
          let same : (file_of h entry).ino ≡ x.ino = ap (λ o. (unwrap_or o no_file).ino) is in
          let low = subst (λ ino. place_of h.pipes ino < length h.pipes) (sym same) (have entry x is piped).there in
          subst On (sym (place_ino h.pipes (file_of h entry).ino low)) (p.files entry)

-- What a number lets go, and the file `core`, leave the mount table.
released_mounts : (h : Handed) (told : Closed) → (released h told).state.mounts ≡ h.mounts
released_mounts h (Still file) = ap (λ (l : Handed). l.mounts) (released_still h file)
released_mounts h (Last file) = ap (λ (l : Handed). l.mounts) (released_last h file)

pub closed_mounts : (h : Handed) → (close_all h).state.mounts ≡ h.mounts
closed_mounts h = closes_all (λ (c : Closing). c.state.mounts ≡ h.mounts)
    (λ c fd some same. released_mounts (dropped c.state fd) (told_by c.state fd) ∙ same) h refl

pub core_mounts : (h : Handed) (now : ℕ) → (core_file h now).state.mounts ≡ h.mounts
core_mounts h now = (core_keeps (λ (l : Handed). l.mounts ≡ h.mounts) (λ l inodes same k. k) h now refl).state

module _ (base : Stores) (one : 1 ≤ base.root.count) (clean : OfSecond (λ (x : Store). x.mark ≡ false) base.second) (slot : ℕ) where
  abbrev walks : Walks (Stays base) (Roots base slot) (λ count. Unit {0}) (λ ino. Unit {0}) (λ line. Unit {0}) (IsOn 0 base) (Unit {0}) ⊥ slot
  walks = root_walks base slot

  -- the root's count, and the disk of a key, in the stores that stay
  its_count : (h : Handed) → Stays base h → h.inodes.store.root.count ≡ base.root.count
  its_count h p = ap (λ (c : Disks ℕ). c.root) p.apart.counts

  its_first : (h : Handed) → Stays base h → h.mounts.first ≡ h.inodes.store.root.count
  its_first h p = p.apart.first ∙ sym (its_count h p)

  its_some : (h : Handed) → Stays base h → 1 ≤ h.inodes.store.root.count
  its_some h p = subst (λ n. 1 ≤ n) (sym (its_count h p)) one

  its_dir : (h : Handed) → Stays base h → device_of h.inodes.store h.u.dir ≡ 0
  its_dir h p = device_counted h.inodes.store base h.u.dir p.apart.counts ∙ p.dir

  based : (h : Handed) (keys : List ℕ) → Stays base h → All (λ key. device_of h.inodes.store key ≡ 0) keys → All (IsOn 0 base) keys
  based h keys p on = λ i d within. sym (device_counted h.inodes.store base (get_or keys i d) p.apart.counts) ∙ on i d within

  sync_rooted : (h : Handed) (now : ℕ) → Stays base h → Stays base (sync_all h now).state
  sync_rooted h now p = record {
    apart = record {
      same = sync_stays h now (subst (OfSecond (λ (x : Store). x.mark ≡ false)) (sym p.apart.same) clean) ∙ p.apart.same;
      counts = counts_synced h.inodes.store now ∙ p.apart.counts;
      first = p.apart.first;
    };
    files = p.files;
    dir = p.dir;
  }

  pipe_rooted : (h : Handed) (now : ℕ) → h.mounts.covered ≡ None → Stays base h → Stays base (pipe_new h now).state
  pipe_rooted h now none p =
      let nobody : User = record { uid = 0; gid = 0 } in
      let first = its_first h p in
      let some = its_some h p in
      let made : (dev : ℕ) → Stores = λ dev. (new_in h.inodes dev IALLOC nobody now).inodes.store in
      let zero_is : (split_of h.mounts 1).0 ≡ 0 =
      ap (λ b. (cond {A = ℕ × ℕ} b (0, 1) (1, 1 - h.mounts.first)).0) (le-leb 1 h.mounts.first (omega (arith, first, some))) in
      let only : OnItsDisk h.inodes.store (made 0) 1 =
      subst (λ dev. OnItsDisk h.inodes.store (made dev) 1) zero_is (new_there h.inodes h.mounts 1 IALLOC nobody now first) in
      walk_pipe walks h now (own_key 1 (key_zero base 1 one) only) tt p
      (based h (pipe_new h now).named p (pipe_on h first some none (its_dir h p) now))

  others_rooted : (call : FileCall) (h : Handed) (args : List ℕ) (now : ℕ) → call ≢ file.Sync → call ≢ file.Pipe → h.mounts.covered ≡ None
      → HavePipes h.files h.pipes → Stays base h → Stays base (file_row call h slot args now).state
  others_rooted call h args now sync pipe none have p =
      walk_row walks call h args now tt (λ moves. tt) (λ both. false≢true (sym (of_one call sync pipe) ∙ both)) (owns_rooted base slot h have p) p
      (based h (file_row call h slot args now).named p (row_on h (its_first h p) (its_some h p) none (its_dir h p) call slot args now sync pipe))

  pub row_rooted : (call : FileCall) (h : Handed) (args : List ℕ) (now : ℕ) → h.mounts.covered ≡ None → HavePipes h.files h.pipes
      → Stays base h → Stays base (file_row call h slot args now).state
  row_rooted file.Sync h args now none have p = sync_rooted h now p
  row_rooted file.Pipe h args now none have p = pipe_rooted h now none p
  row_rooted call h args now none have p =
      others_rooted call h args now (λ same. absurd (cc same)) (λ same. absurd (cc same)) none have p

  pub resume_rooted : (h : Handed) (now : ℕ) → h.mounts.covered ≡ None → CanResume (λ count. Unit {0}) h → HavePipes h.files h.pipes
      → Stays base h → Stays base (resumes h slot now).state
  resume_rooted h now none can have p =
      walk_resume walks h now can (owns_rooted base slot h have p) (record { apart = p.apart; files = p.files; dir = p.dir })
      (based h (resumes h slot now).named p (resume_on h (its_first h p) (its_some h p) none (its_dir h p) slot now))

  pub core_rooted : (h : Handed) (now : ℕ) → h.mounts.covered ≡ None → Stays base h → Stays base (core_file h now).state
  core_rooted h now none p =
      walk_core walks now h p (based h (core_file h now).named p (core_on h (its_first h p) (its_some h p) none (its_dir h p) now))

  pub closed_rooted : (h : Handed) → Stays base h → Stays base (close_all h).state
  closed_rooted h p = closes_all (λ (c : Closing). Stays base c.state) next h p
    where
      next : (c : Closing) (fd : ℕ) → 0 < slice_index c.state.u.files fd → Stays base c.state → Stays base (closes c.state fd).state
      next c fd some k = walk_closes walks c.state fd 0 0 some (k.files (entry_of c.state.u.files fd)) tt k (All-nil (IsOn 0 base))
