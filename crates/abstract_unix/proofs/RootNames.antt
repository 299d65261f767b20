-- While nothing is covered, all that a call names is on the root's disk, where its process stands there; so the second disk's store
-- stays.
use Rattle.std.proofs.Common.{◌≡◌, ◌≢◌, ◌≤◌, ◌+◌, ◌-◌, ◌/◌, ◌%◌, ◌==◌, ◌&&◌, ◌||◌, ℕ, Bool, true, false, not, cond, nat_lt, nat_le, List, [], ◌∷◌, length, take, get_or, slice_index, is_some, IsSome, is_none, Option, Some, None, Result, Ok, Err, refl, sym, ap, ◌∙◌, subst, arith}
use Rattle.std.specs.List.{All}
use Rattle.std.proofs.lemmas.Bool.{leb-true, ltb-false, le-leb, le-ltb}
use Rattle.std.proofs.lemmas.List.Elements.{All-nil, All-cons}
use Rattle.std.specs.Prelude.{IfOk}
use Rattle.v6_base.specs.Image.{Image}
use Rattle.v6_base.specs.Trace.{Taken}
use Rattle.v6_base.specs.declared.answer.Answer.{Answer}
use Rattle.v6_base.specs.declared.entry.PanicKind.{PanicKind}
use Rattle.v6_base.specs.declared.errno.Errno.{Errno}
use Rattle.v6_base.specs.declared.errno.Errno.TheVariants.{EINTR, EPERM, EBADF, EACCES, EFAULT, EEXIST, ENOTDIR, EISDIR, ENFILE, EMFILE, ENXIO, ESPIPE, EMLINK, EXDEV, EBUSY, EINVAL}
use Rattle.u_area.specs.Area.{area_bytes}
use Rattle.u_area.specs.declared.layout.TheConstants.{AREA_SIZE, LINE_READ, LINE_WRITE, PIPE_READ}
use Rattle.fs_codec.specs.Modes.{is_device, is_directory}
use Rattle.fs_laws.specs.Numbers.{Draw, draw}
use Rattle.fs_laws.specs.Pieces.{Moving}
use Rattle.fs_codec.specs.declared.modes.TheConstants.{IALLOC}
use Rattle.fs_nodes.specs.Disks.{Disks, OfSecond}
use Rattle.fs_nodes.specs.FileSystem.{FileSystem, referenced}
use Rattle.fs_codec.specs.Store.{Store}
use Rattle.fs_nodes.specs.Keys.{Stores, counts, device_of, references_on, store_on, synced}
use Rattle.fs_nodes.proofs.NumbersMake.{draw_free}
use Rattle.fs_tree.specs.declared.made.Made.{Made}
use Rattle.fs_tree.specs.declared.made.Made.TheVariants as made
use Rattle.fs_tree.specs.declared.user.User.{User}
use Rattle.fs_tree.specs.declared.user.Want.TheVariants.{Write, Execute}
use Rattle.mount_tab.specs.Mounted.{MountTable, split_of}
use Rattle.fs_tree.specs.Alone.{StartsOnRoot}
use Rattle.fs_tree.specs.Mounting.{AreMounts}
use Rattle.fs_tree.specs.Finding.{Inodes, Finding, can_refer, with_reference, refused, finding, find_in, named_by_made, making, make_in, put_back, removing}
use Rattle.fs_tree.specs.Name.{name_at, is_rooted, readable}
use Rattle.fs_tree.specs.Permission.{permission, access}
use Rattle.fs_tree.proofs.AloneLemmas.{found_alone, made_alone, removed_alone}
use Rattle.pipe_ends.specs.declared.ends.Piped.{Piped}
use Rattle.pipe_ends.specs.declared.ends.Piped.TheVariants as piped
use Rattle.tty_line.specs.Output.{after_shown, written}
use Rattle.tty_line.specs.Reading.{Reading}
use Rattle.tty_line.specs.Terminal.{Terminal}
use Rattle.tty_line.specs.declared.line.Took.{Took}
use Rattle.tty_line.specs.declared.line.Took.TheVariants as took
use Rattle.sig_core.specs.Signals.{due}
use Rattle.open_files.specs.declared.file.FileKind.{FileKind}
use Rattle.open_files.specs.Files.{free_number, free_entry}
use Rattle.sys_files.specs.Handed.{Handed, r0, node_at, disk_of, file_of, user_of, line_of, line_at, with_line, with_inodes, with_changed, let_go}
use Rattle.sys_files.specs.Did.{Did, fails, returns, is_done, check, must, need, unless_due, until_end, names, then_named, finds, by_made, makes}
use Rattle.sys_files.specs.Core.{core_name, is_plain, writes_parts, writes_over, writes_new, writes_named as writes_core, core_file}
use Rattle.sys_files.specs.Descriptors.{open_entry}
use Rattle.sys_files.specs.Making.{new_numbered, new_in, entry_written, writes_entry, enters_new, makes_node, opens_for_writing, with_no_blocks, opens_again, makes_file, creat_file, is_super_user, makes_any, mknod_at, may_link, is_covered, enters_again, links_to, link_file, empties, removes, found_to_remove, names_directory, unlink_file, with_links, with_device}
use Rattle.sys_files.specs.Modes.{terminal_line, of_terminal, words_at, sets_modes}
use Rattle.sys_files.specs.Mounting.{disk_named, can_cover, with_covered, covers, mounts_disk, mounts_found, mount_on, is_held, uncovers, unmounts, unmounts_named, umount_off}
use Rattle.sys_files.specs.Moving.{with_moved, gives_count, read_of, with_read, line_read, with_line_read, write_of, waits_for_room, takes_line, reads_line, reads_by, reads_from, read_file_of, without_pending, line_kept, goes_on_line, goes_on_pipe, goes_on, resumes, writes_line, writes_by, writes_to, write_file_of}
use Rattle.sys_files.specs.Names.{enters_directory, chdir_to, is_owner, changes_mode, sync_all}
use Rattle.sys_files.specs.Opening.{last_failure, open_tests, can_open, opens, opens_named}
use Rattle.sys_files.specs.Piping.{reading_end, with_end, opens_ends, pipe_new, pipe_at, pipe_read, with_pipe_read, pipe_write, with_pipe_write, ends_read, reads_pipe, ends_write, writes_pipe}
use Rattle.sys_files.specs.Status.{with_stored, tells_status}
use Rattle.sys_files.specs.Sound.{IsSound}
use Rattle.pick_rules.specs.Logged.{Stop, left_by}
use Rattle.sys_procs.specs.declared.procs.Procs.{Procs}
use Rattle.sys_procs.specs.Agree.{answered}
use Rattle.sys_procs.specs.Comes.{Comes}
use Rattle.sys_procs.specs.Done.{HasDone}
use Rattle.sys_procs.specs.Handed.{came, handed}
use Rattle.sys_procs.specs.Process.{Process, image_of}
use Rattle.sys_procs.specs.World.{World, process_of}
use Rattle.sys_procs.specs.Tests.{user_of as its_user}
use Rattle.sys_procs.specs.Frame.{named_by, exec_named}
use Rattle.sys_files.proofs.NodeCounts.{finding_counts, making_counts, new_counts}
use Rattle.sys_files.proofs.CoreWalk.{core_leaves_other}
use Rattle.sys_files.proofs.FrameLemmas.{lets_go_there, new_there}
use Rattle.abstract_unix.specs.declared.calls.FileCall.{FileCall}
use Rattle.abstract_unix.specs.declared.calls.FileCall.TheVariants as file
use Rattle.abstract_unix.specs.declared.calls.ProcessCall.{ProcessCall}
use Rattle.abstract_unix.specs.declared.calls.ProcessCall.TheVariants as process
use Rattle.abstract_unix.specs.Calls.{file_row, process_row, process_named}
use Rattle.abstract_unix.specs.OtherDisk.{StandsOnRoot, RunsOnRoot}
use Rattle.abstract_unix.proofs.OtherRows.{row_leaves_other}
use Rattle.abstract_unix.proofs.OtherProcs.{process_leaves_other}

both_hold : (a b : Bool) → a && b ≡ true → (a ≡ true) × (b ≡ true)
both_hold true b is = (refl, is)
both_hold false b is = absurd (cc is)

-- What an answer tells of what was sought.
told_if : {A : Type 0} (b : Bool) (a c : A) (old new : Inodes)
    → (cond {A = Finding A} b (record { answer = Ok a; inodes = new }) (refused old ENFILE)).answer ≡ Ok c → a ≡ c
told_if true a c old new is = cc is
told_if false a c old new is = absurd (cc is)

sought_found : (n : Inodes) (r : Result ℕ Errno) (ino : ℕ) → (finding n r).answer ≡ Ok ino → r ≡ Ok ino
sought_found n (Ok i) ino is = ap Ok (told_if (can_refer n i) i ino n (with_reference n i) is)
sought_found n (Err e) ino is = absurd (cc is)

sought_made : (n : Inodes) (r : Result Made Errno) (m : Made) → (making n r).answer ≡ Ok m → r ≡ Ok m
sought_made n (Ok a) m is = ap Ok (told_if (can_refer n (named_by_made a)) a m n (with_reference n (named_by_made a)) is)
sought_made n (Err e) m is = absurd (cc is)

sought_removed : (n : Inodes) (entry e : ℕ × ℕ × ℕ) → (removing n (Ok entry)).answer ≡ Ok e → entry ≡ e
sought_removed n entry e = by (not (can_refer n entry.0)) (not (can_refer once entry.2)) where
  once : Inodes
  once = with_reference n entry.0

  by : (b c : Bool) → (cond {A = Finding (ℕ × ℕ × ℕ)} b (refused n ENFILE)
      (cond c (refused (put_back once entry.0) ENFILE)
      (record { answer = Ok entry; inodes = with_reference once entry.2 }))).answer ≡ Ok e → entry ≡ e
  by true c is = absurd (cc is)
  by false true is = absurd (cc is)
  by false false is = cc is

module _ (n : ℕ) (one : 1 ≤ n) where
  abbrev On : ℕ → Type 0
  On key = key ≤ n

  abbrev Named : Did → Type 0
  Named d = All On d.named

  -- Nothing is covered, and the process stands in a directory of the root's disk.
  pub record IsThere (h : Handed) : Type 0 where
    pub first : h.mounts.first ≡ n
    pub count : h.inodes.store.root.count ≡ n
    pub none : h.mounts.covered ≡ None
    pub dir : h.u.dir ≤ n

  none : All On []
  none = All-nil On

  checked : {A : Type 0} (h : Handed) (test : Result A Errno) (next : A → Did) → ((a : A) → test ≡ Ok a → Named (next a))
      → Named (check h test next)
  checked h (Ok a) next goes = goes a refl
  checked h (Err e) next goes = none

  -- the same, where what goes on names nothing
  tests : {A : Type 0} (h : Handed) (test : Result A Errno) (next : A → Did) → ((a : A) → Named (next a)) → Named (check h test next)
  tests h test next goes = checked h test next (λ a is. goes a)

  more : (ino : ℕ) (keys : List ℕ) → On ino → All On keys → All On (ino ∷ keys)
  more ino keys here rest = All-cons On ino keys here rest

  if_so : (b : Bool) (x y : Did) → Named x → Named y → Named (cond b x y)
  if_so true x y p q = p
  if_so false x y p q = q

  same_count : (h : Handed) (inodes : Inodes) → counts inodes.store ≡ counts h.inodes.store → IsThere h → IsThere (with_inodes h inodes)
  same_count h inodes same at = record {
    first = at.first;
    count = ap (λ (c : Disks ℕ). c.root) same ∙ at.count;
    none = at.none;
    dir = at.dir;
  }

  -- searches
  starts : (h : Handed) (bytes : List ℕ) → IsThere h → StartsOnRoot h.inodes.store h.mounts h.u.dir bytes
  starts h bytes at = record { none = at.none; root = by (is_rooted bytes) } where
    by : (b : Bool) → cond {A = ℕ} b 1 h.u.dir ≤ h.inodes.store.root.count
    by true = let c = at.count in omega (arith, one, c)
    by false = let c = at.count in let d = at.dir in omega (arith, c, d)

  fits : (h : Handed) → IsThere h → h.mounts.first ≡ h.inodes.store.root.count
  fits h at = at.first ∙ sym at.count

  found_on : (h : Handed) (bytes : List ℕ) (ino : ℕ) → IsThere h
      → (find_in h.inodes h.mounts (user_of h.u) h.u.dir bytes).answer ≡ Ok ino → On ino
  found_on h bytes ino at is =
      subst (λ k. ino ≤ k) at.count ((found_alone h.inodes.store h.mounts (fits h at) (user_of h.u) h.u.dir bytes (starts h bytes at)).within
      ino (sought_found h.inodes _ ino is))

  made_on : (h : Handed) (bytes : List ℕ) (m : Made) → IsThere h
      → (make_in h.inodes h.mounts h.marks (user_of h.u) h.u.dir bytes).answer ≡ Ok m → On (named_by_made m)
  made_on h bytes m at is =
      subst (λ k. named_by_made m ≤ k) at.count
      ((made_alone h.inodes.store h.mounts (fits h at) (user_of h.u) h.u.dir bytes (starts h bytes at) h.marks).within m
      (sought_made h.inodes _ m is))

  finds_named : (h : Handed) (name : ℕ) (next : Handed → ℕ → Did) → IsThere h
      → ((now : Handed) (ino : ℕ) → On ino → IsThere now → Named (next now ino)) → Named (finds h name next)
  finds_named h name next at goes =
      let bytes : List ℕ = name_at h.image name in
      let found : Finding ℕ = find_in h.inodes h.mounts (user_of h.u) h.u.dir bytes in
      let now : Handed = with_inodes h found.inodes in
      let there : IsThere now = same_count h found.inodes (finding_counts h.inodes _) at in
      checked now found.answer (λ ino. until_end ino (next now ino)) (λ ino is.
      let here : On ino = found_on h bytes ino at is in more ino (next now ino).named here (goes now ino here there))

  by_made_named : (h : Handed) (m : Made) (old : Handed → ℕ → Did) (new : Handed → ℕ → ℕ → List ℕ → Did) → On (named_by_made m)
      → IsThere h → ((ino : ℕ) → On ino → Named (old h ino)) → ((dir offset : ℕ) (name : List ℕ) → On dir → Named (new h dir offset name))
      → Named (by_made old new h m)
  by_made_named h (made.Found ino) old new here at first second = more ino (old h ino).named here (first ino here)
  by_made_named h (made.Room dir offset name) old new here at first second =
      more dir (new h dir offset name).named here (second dir offset name here)

  makes_named : (h : Handed) (name : ℕ) (old : Handed → ℕ → Did) (new : Handed → ℕ → ℕ → List ℕ → Did) → IsThere h
      → ((now : Handed) (ino : ℕ) → On ino → IsThere now → Named (old now ino))
      → ((now : Handed) (dir offset : ℕ) (bytes : List ℕ) → On dir → IsThere now → Named (new now dir offset bytes))
      → Named (makes h name old new)
  makes_named h name old new at first second =
      let bytes : List ℕ = name_at h.image name in
      let found : Finding Made = make_in h.inodes h.mounts h.marks (user_of h.u) h.u.dir bytes in
      let now : Handed = with_inodes h found.inodes in
      let there : IsThere now = same_count h found.inodes (making_counts h.inodes _) at in
      checked now found.answer (by_made old new now) (λ m is.
      by_made_named now m old new (made_on h bytes m at is) there (λ ino here. first now ino here there)
      (λ dir offset room here. second now dir offset room here there))

  -- a new inode
  new_on : (s : Inodes) (mode : ℕ) (user : User) (now key : ℕ) → s.store.root.count ≡ n → (new_in s 0 mode user now).answer ≡ Ok key
      → On key
  new_on s mode user now key count = by d.number refl where
    is_referenced : ℕ → Bool
    is_referenced i = nat_lt 0 (slice_index (references_on s.store s.references 0) i)

    d : Draw
    d = draw (store_on s.store 0) is_referenced

    by : (o : Option ℕ) → d.number ≡ o → (new_numbered s 0 mode user now d o).answer ≡ Ok key → On key
    by None e f = absurd (cc f)
    by (Some i) e f =
        let same : i ≡ key = told_if (nat_lt (referenced s.references) 100) i key _ _ f in
        let free = both_hold (nat_le 1 i) _ (both_hold _ _ (draw_free (store_on s.store 0) is_referenced i e)).0 in
        let low = leb-true i s.store.root.count free.1 in
        omega (arith, low, count, same)

  disk_zero : (h : Handed) (dir : ℕ) → IsThere h → On dir → disk_of h dir ≡ 0
  disk_zero h dir at here =
      let low : nat_le dir h.mounts.first ≡ true = (let f = at.first in le-leb dir h.mounts.first (omega (arith, f, here))) in
      ap (λ b. (cond {A = ℕ × ℕ} b (0, dir) (1, dir - h.mounts.first)).0) low

  writes_named : (h : Handed) (dir offset : ℕ) (bytes : List ℕ) (now : ℕ) (next : Handed → Did)
      → ((l : Handed) → Named (next l)) → Named (writes_entry h dir offset bytes now next)
  writes_named h dir offset bytes now next goes =
      let found : Finding (Unit {0}) = entry_written h.inodes dir offset bytes now in
      tests (with_inodes h found.inodes) found.answer (λ done. next (with_inodes h found.inodes)) (λ done. goes (with_inodes h found.inodes))

  node_named : (h : Handed) (dir offset : ℕ) (name : List ℕ) (mode now : ℕ) (next : Handed → ℕ → Did) → On dir → IsThere h
      → ((l : Handed) (ino : ℕ) → Named (next l ino)) → Named (makes_node h dir offset name mode now next)
  node_named h dir offset name mode now next here at goes =
      let found : Finding ℕ = new_in h.inodes (disk_of h dir) mode (user_of h.u) now in
      let l : Handed = with_inodes h found.inodes in
      checked l found.answer (λ ino. until_end ino (enters_new l dir offset name ino now next)) (λ ino is.
      more ino (enters_new l dir offset name ino now next).named
      (new_on h.inodes mode (user_of h.u) now ino at.count
      (ap (λ dev. (new_in h.inodes dev mode (user_of h.u) now).answer) (sym (disk_zero h dir at here)) ∙ is))
      (writes_named l dir offset _ now (λ m. next (with_links m ino 1 now) ino) (λ m. goes (with_links m ino 1 now) ino)))

  opens_none : (h : Handed) (ino : ℕ) (kind : FileKind) → Named (opens h ino kind)
  opens_none h ino kind =
      tests h (need EMFILE (free_number h.u.files)) _ (λ fd.
      tests h (need ENFILE (free_entry h.files)) _ (λ entry.
      tests h (must ENXIO (can_open h (node_at h ino))) _ (λ can. none)))

  stored_none : (h : Handed) (o : Option Image) → Named (with_stored h o)
  stored_none h (Some image) = none
  stored_none h None = none

  -- calls on open files name nothing
  due_none : (h : Handed) (d : Did) → Named d → Named (unless_due h d)
  due_none h d p = if_so (is_some (due h.row h.u)) (fails h EINTR) d none p

  count_none : (h : Handed) (count : ℕ) (e : Option Errno) → Named (gives_count h count e)
  count_none h count None = none
  count_none h count (Some e) = none

  took_none : (h : Handed) (l entry at count : ℕ) (t : Took) → Named (takes_line h l entry at count t)
  took_none h l entry at count (took.Done k) = none
  took_none h l entry at count took.Wait = due_none h _ none
  took_none h l entry at count took.Fault = none

  line_none : (h : Handed) (l entry at count : ℕ) → Named (reads_line h l entry at count)
  line_none h l entry at count =
      let reading : Reading = line_read h l at count in took_none (with_line_read h l reading) l entry at count reading.took

  by_none : (h : Handed) (line : Option ℕ) (entry at count : ℕ) (m : Moving Image) → Named (reads_by h line entry at count m)
  by_none h None entry at count m = count_none h m.done m.error
  by_none h (Some l) entry at count m = line_none h l entry at count

  pipe_none : (h : Handed) (ino entry at count : ℕ) (answer : Piped) → Named (ends_read h ino entry at count answer)
  pipe_none h ino entry at count (piped.Done k) = none
  pipe_none h ino entry at count (piped.Wait left) = due_none h _ none
  pipe_none h ino entry at count piped.Broken = none
  pipe_none h ino entry at count (piped.Error e) = none

  read_named : (h : Handed) (at count now : ℕ) → Named (read_file_of h at count now)
  read_named h at count now =
      tests h (open_entry h (r0 h)) _ (λ entry.
      tests h (must EBADF (file_of h entry).kind.reading) _ (λ may.
      if_so (file_of h entry).kind.pipe (reads_pipe h entry at count now) (reads_from h entry at count now)
      (pipe_none (with_pipe_read h (pipe_read h entry at count now)) (pipe_at h entry).ino entry at count (pipe_read h entry at count now).answer)
      (by_none (with_read h entry (read_of h entry at count now)) (line_of h (node_at h (file_of h entry).ino)) entry at count
      (read_of h entry at count now))))

  ended_none : (h : Handed) (l entry at count done : ℕ) (stopped all : Bool)
      → Named (cond stopped (waits_for_room h l entry at count done) (cond all (returns h count) (fails h EFAULT)))
  ended_none h l entry at count done true all = due_none h _ none
  ended_none h l entry at count done false true = none
  ended_none h l entry at count done false false = none

  shown_none : (h : Handed) (l entry at count done : ℕ) → Named (writes_line h l entry at count done)
  shown_none h l entry at count done =
      let t : Terminal = line_at h l in
      let bytes : List ℕ = readable h.image ((at + done) % 65536) (count - done) in
      let k : ℕ = written t bytes in
      ended_none (with_line h l (after_shown t (take k bytes))) l entry at count (done + k) (nat_lt k (length bytes)) (done + k == count)

  to_none : (h : Handed) (line : Option ℕ) (device : Bool) (entry at count : ℕ) (m : Moving (Unit {0}))
      → Named (writes_by h line device entry at count m)
  to_none h None device entry at count m = count_none h (cond device count m.done) m.error
  to_none h (Some l) device entry at count m = shown_none h l entry at count 0

  end_none : (h : Handed) (slot ino entry at count : ℕ) (answer : Piped) → Named (ends_write h slot ino entry at count answer)
  end_none h slot ino entry at count (piped.Done k) = none
  end_none h slot ino entry at count (piped.Wait left) = due_none h _ none
  end_none h slot ino entry at count piped.Broken = none
  end_none h slot ino entry at count (piped.Error e) = none

  write_named : (h : Handed) (slot at count now : ℕ) → Named (write_file_of h slot at count now)
  write_named h slot at count now =
      tests h (open_entry h (r0 h)) _ (λ entry.
      tests h (must EBADF (file_of h entry).kind.writing) _ (λ may.
      if_so (file_of h entry).kind.pipe (writes_pipe h slot entry at count count now) (writes_to h entry at count now)
      (end_none (with_pipe_write h (pipe_write h entry at count count now)) slot (pipe_at h entry).ino entry at count
      (pipe_write h entry at count count now).answer)
      (to_none (with_moved h entry (write_of h entry at count now)) (line_of h (node_at h (file_of h entry).ino))
      (is_device (node_at h (file_of h entry).ino).mode) entry at count (write_of h entry at count now))))

  -- a call that goes on after a sleep names nothing either
  pub resume_named : (h : Handed) (slot now : ℕ) → Named (resumes h slot now)
  resume_named h slot now = due_none rest (goes_on h slot now)
      (if_so ((h.u.pending == LINE_READ) || (h.u.pending == LINE_WRITE)) (goes_on_line rest h.u.pending call)
      (goes_on_pipe rest slot h.u.pending call now)
      (if_so (h.u.pending == LINE_READ) (reads_line rest l entry at count) (writes_line rest l entry at count done)
      (line_none rest l entry at count) (shown_none rest l entry at count done))
      (if_so (h.u.pending == PIPE_READ) (reads_pipe rest entry at count now) (writes_pipe rest slot entry at count done now)
      (pipe_none (with_pipe_read rest (pipe_read rest entry at count now)) (pipe_at rest entry).ino entry at count
      (pipe_read rest entry at count now).answer)
      (end_none (with_pipe_write rest (pipe_write rest entry at count done now)) slot (pipe_at rest entry).ino entry at count
      (pipe_write rest entry at count done now).answer)))
    where
      rest : Handed
      rest = without_pending h

      call : List ℕ
      call = h.u.call

      entry : ℕ
      entry = slice_index call 0

      at : ℕ
      at = slice_index call 1

      count : ℕ
      count = slice_index call 2

      done : ℕ
      done = slice_index call 3

      l : ℕ
      l = line_kept rest entry

  terminal_none : (h : Handed) (does : ℕ → Did) → ((l : ℕ) → Named (does l)) → Named (of_terminal h does)
  terminal_none h does goes =
      tests h (open_entry h (r0 h)) _ (λ entry. tests h (terminal_line h (node_at h (file_of h entry).ino)) does goes)

  -- names of files
  creat_named : (h : Handed) (name mode now : ℕ) → IsThere h → Named (creat_file h name mode now)
  creat_named h name mode now at =
      makes_named h name (opens_again now) (makes_file mode now) at (λ l ino here q.
      tests l (access l.marks ino (node_at l ino) (user_of l.u) Write) _ (λ may.
      tests l (must EISDIR (not (is_directory (node_at l ino).mode))) _ (λ file. opens_none (with_no_blocks l ino now) ino _)))
      (λ l dir offset bytes here q. node_named l dir offset bytes _ now opens_for_writing here q (λ m ino. opens_none m ino _))

  link_named : (h : Handed) (name new now : ℕ) → IsThere h → Named (link_file h name new now)
  link_named h name new now at =
      finds_named h name (links_to new now) at (λ l ino own q.
      tests l (must EMLINK (nat_lt (node_at l ino).nlink 127)) _ (λ few.
      tests l (must EPERM (may_link l ino)) _ (λ may.
      makes_named l new (λ m there. fails m EEXIST) (enters_again ino now) q (λ m there here r. none)
      (λ m dir offset bytes here r.
      tests m (must EXDEV (disk_of m ino == disk_of m dir)) _ (λ same.
      writes_named m dir offset _ now (λ k. is_done (with_links k ino ((node_at k ino).nlink + 1) now)) (λ k. none))))))

  empties_none : (h : Handed) (now dir offset ino : ℕ) → Named (empties now h dir offset ino)
  empties_none h now dir offset ino =
      tests h (must EPERM (may_link h ino)) _ (λ may.
      tests h (must EBUSY (not (is_covered h ino))) _ (λ free.
      writes_named h dir offset (0 ∷ 0 ∷ []) now (λ m. is_done (with_links m ino ((node_at m ino).nlink - 1) now)) (λ m. none)))

  removes_named : (h : Handed) (now : ℕ) (e : ℕ × ℕ × ℕ) → On e.0 → On e.2 → Named (removes now h e)
  removes_named h now (dir, offset, ino) first second =
      more ino (until_end dir (empties now h dir offset ino)).named second
      (more dir (empties now h dir offset ino).named first (empties_none h now dir offset ino))

  unlink_named : (h : Handed) (name now : ℕ) → IsThere h → Named (unlink_file h name now)
  unlink_named h name now at =
      by (found_to_remove h name)
      (removed_alone h.inodes.store h.mounts (fits h at) (user_of h.u) h.u.dir (name_at h.image name) (starts h (name_at h.image name) at)
      h.marks).within
    where
      by : (found : Result (ℕ × ℕ × ℕ) Errno)
          → ((e : ℕ × ℕ × ℕ) → found ≡ Ok e → (e.0 ≤ h.inodes.store.root.count) × (e.2 ≤ h.inodes.store.root.count))
          → Named (names_directory found (then_named h (removing h.inodes found) (removes now)))
      by (Err e) within = none
      by (Ok entry) within =
          let low = within entry refl in
          let l : Handed = with_inodes h (removing h.inodes (Ok entry)).inodes in
          let first : On entry.0 = subst (λ k. entry.0 ≤ k) at.count low.0 in
          more entry.0 (then_named h (removing h.inodes (Ok entry)) (removes now)).named first
          (checked l (removing h.inodes (Ok entry)).answer (removes now l) (λ e is.
          let same = sought_removed h.inodes entry e is in
          removes_named l now e (subst (λ (x : ℕ × ℕ × ℕ). On x.0) same first)
          (subst (λ (x : ℕ × ℕ × ℕ). On x.2) same (subst (λ k. entry.2 ≤ k) at.count low.1))))

  chdir_named : (h : Handed) (name : ℕ) → IsThere h → Named (chdir_to h name)
  chdir_named h name at =
      finds_named h name enters_directory at (λ l ino here q.
      tests l (must ENOTDIR (is_directory (node_at l ino).mode)) _ (λ is.
      tests l (permission (node_at l ino) (user_of l.u) Execute) _ (λ may. none)))

  mknod_named : (h : Handed) (name mode device now : ℕ) → IsThere h → Named (mknod_at h name mode device now)
  mknod_named h name mode device now at =
      tests h (must EPERM (is_super_user h)) _ (λ may.
      makes_named h name (λ l there. fails l EEXIST) (makes_any mode device now) at (λ l there here q. none)
      (λ l dir offset bytes here q.
      node_named l dir offset bytes _ now (λ m ino. is_done (with_device m ino device)) here q (λ m ino. none)))

  mount_named : (h : Handed) (special name : ℕ) → IsThere h → Named (mount_on h special name)
  mount_named h special name at =
      finds_named h special (mounts_found name) at (λ l node here q.
      tests l (disk_named l node) (mounts_disk name l) (λ device.
      let bytes : List ℕ = name_at l.image name in
      let found : Finding ℕ = find_in l.inodes l.mounts (user_of l.u) l.u.dir bytes in
      let m : Handed = with_inodes l found.inodes in
      checked m found.answer (covers device m) (λ dir is.
      let own : On dir = found_on l bytes dir q is in
      if_so (can_cover m device dir) (names dir (is_done (with_covered m (Some dir)))) (until_end dir (fails m EBUSY)) (more dir [] own none)
      (more dir [] own none))))

  uncovers_none : (h : Handed) (covered : Option ℕ) → covered ≡ None → Named (uncovers h covered)
  uncovers_none h None is = none
  uncovers_none h (Some dir) is = absurd (cc is)

  umount_named : (h : Handed) (special : ℕ) → IsThere h → Named (umount_off h special)
  umount_named h special at =
      let bytes : List ℕ = name_at h.image special in
      let found : Finding ℕ = find_in h.inodes h.mounts (user_of h.u) h.u.dir bytes in
      let l : Handed = with_inodes h found.inodes in
      checked l found.answer (unmounts_named l) (λ node is.
      let rest : Handed = let_go l node in
      more node _ (found_on h bytes node at is)
      (tests rest (disk_named l node) (unmounts rest) (λ device.
      tests rest (must EINVAL (not ((device == 1) && is_none rest.mounts.covered))) _ (λ mounted.
      tests rest (must EBUSY (not (device == 0) && not (is_held rest))) _ (λ free.
      uncovers_none rest rest.mounts.covered at.none)))))

  -- the ends of a pipe
  ends_none : (h : Handed) (ino : ℕ) → Named (opens_ends h ino)
  ends_none h ino =
      tests h (need EMFILE (free_number h.u.files)) _ (λ fd.
      tests h (need ENFILE (free_entry h.files)) _ (λ entry.
      let first : Handed = with_end h ino reading_end fd entry in
      tests h (need EMFILE (free_number first.u.files)) _ (λ next_fd.
      tests h (need ENFILE (free_entry first.files)) _ (λ next_entry. none))))

  pub pipe_named : (h : Handed) (now : ℕ) → IsThere h → Named (pipe_new h now)
  pipe_named h now at =
      let nobody : User = record { uid = 0; gid = 0 } in
      let found : Finding ℕ = new_in h.inodes 0 IALLOC nobody now in
      let l : Handed = with_inodes h found.inodes in
      more 1 (then_named h found (λ m ino. until_end ino (opens_ends m ino))).named one
      (checked l found.answer (λ ino. until_end ino (opens_ends l ino)) (λ ino is.
      more ino (opens_ends l ino).named (new_on h.inodes IALLOC nobody now ino at.count is) (ends_none l ino)))

  -- the file `core`
  parts_none : (h : Handed) (now ino : ℕ) → Named (writes_parts now h ino)
  parts_none h now ino =
      let d : ℕ = AREA_SIZE + length h.image.data in
      writes_named h ino 0 (area_bytes h.u) now
      (λ l. writes_entry l ino AREA_SIZE l.image.data now (λ m. writes_entry m ino d m.image.stack now is_done)) (λ l.
      writes_named l ino AREA_SIZE l.image.data now (λ m. writes_entry m ino d m.image.stack now is_done) (λ m.
      writes_named m ino d m.image.stack now is_done (λ k. none)))

  pub core_named : (h : Handed) (now : ℕ) → IsThere h → Named (core_file h now)
  unfolding core_file
  core_named h now at = if_so (h.u.uid == h.u.ruid) (writes_core now h) (fails h EPERM) written_named none
    where
      found : Finding Made
      found = make_in h.inodes h.mounts h.marks (user_of h.u) h.u.dir core_name

      l : Handed
      l = with_inodes h found.inodes

      there : IsThere l
      there = same_count h found.inodes (making_counts h.inodes _) at

      written_named : Named (writes_core now h)
      written_named =
          checked l found.answer (by_made (writes_over now) (writes_new now) l) (λ m is.
          by_made_named l m (writes_over now) (writes_new now) (made_on h core_name m at is) there (λ ino here.
          tests l (must EACCES (is_plain (node_at l ino).mode)) _ (λ plain.
          tests l (access l.marks ino (node_at l ino) (user_of l.u) Write) _ (λ may. parts_none (with_no_blocks l ino now) now ino)))
          (λ dir offset name here. node_named l dir offset name 0o666 now (writes_parts now) here there (λ k ino. parts_none k now ino)))

  -- each row, but for those that name the roots
  pub row_named : (call : FileCall) (h : Handed) (slot : ℕ) (a : List ℕ) (now : ℕ) → call ≢ file.Sync → call ≢ file.Pipe → IsThere h
      → Named (file_row call h slot a now)
  row_named file.Read h slot a now sync pipe at = read_named h (slice_index a 0) (slice_index a 1) now
  row_named file.Write h slot a now sync pipe at = write_named h slot (slice_index a 0) (slice_index a 1) now
  row_named file.Open h slot a now sync pipe at =
      finds_named h (slice_index a 0) (λ l ino. opens_named l ino (slice_index a 1)) at (λ l ino here q.
      tests l (last_failure (open_tests l.marks ino (node_at l ino) (user_of l.u) (slice_index a 1))) _ (λ passed. opens_none l ino _))
  row_named file.Close h slot a now sync pipe at = tests h (open_entry h (r0 h)) _ (λ entry. none)
  row_named file.Creat h slot a now sync pipe at = creat_named h (slice_index a 0) (slice_index a 1) now at
  row_named file.Link h slot a now sync pipe at = link_named h (slice_index a 0) (slice_index a 1) now at
  row_named file.Unlink h slot a now sync pipe at = unlink_named h (slice_index a 0) now at
  row_named file.Chdir h slot a now sync pipe at = chdir_named h (slice_index a 0) at
  row_named file.Mknod h slot a now sync pipe at = mknod_named h (slice_index a 0) (slice_index a 1) (slice_index a 2) now at
  row_named file.Chmod h slot a now sync pipe at =
      finds_named h (slice_index a 0) (changes_mode (slice_index a 1) now) at (λ l ino here q.
      tests l (must EPERM (is_owner l ino)) _ (λ may. none))
  row_named file.Chown h slot a now sync pipe at =
      let owner = slice_index a 1 in
      tests h (must EPERM (is_super_user h)) _ (λ may.
      finds_named h (slice_index a 0)
      (λ l ino. is_done (with_changed l ino (record (node_at l ino) { uid = owner % 256; gid = owner / 256; modtime = now }))) at
      (λ l ino here q. none))
  row_named file.Stat h slot a now sync pipe at =
      finds_named h (slice_index a 0) (λ l ino. tells_status l ino (slice_index a 1)) at (λ l ino here q. stored_none l _)
  row_named file.Seek h slot a now sync pipe at =
      tests h (open_entry h (r0 h)) _ (λ entry. tests h (must ESPIPE (not (file_of h entry).kind.pipe)) _ (λ may. none))
  row_named file.Mount h slot a now sync pipe at = mount_named h (slice_index a 0) (slice_index a 1) at
  row_named file.Umount h slot a now sync pipe at = umount_named h (slice_index a 0) at
  row_named file.Fstat h slot a now sync pipe at = tests h (open_entry h (r0 h)) _ (λ entry. stored_none h _)
  row_named file.Stty h slot a now sync pipe at =
      terminal_none h _ (λ l. tests h (need EFAULT (words_at h (slice_index a 0))) (sets_modes h l) (λ bytes. none))
  row_named file.Gtty h slot a now sync pipe at = terminal_none h _ (λ l. stored_none h _)
  row_named file.Sync h slot a now sync pipe at = absurd (sync refl)
  row_named file.Dup h slot a now sync pipe at =
      tests h (open_entry h (r0 h)) _ (λ entry. tests h (need EMFILE (free_number h.u.files)) _ (λ fd. none))
  row_named file.Pipe h slot a now sync pipe at = absurd (pipe refl)

-- A key of the root's disk is no key of the second one, and where there is one no other is.
no_second : (b : Bool) → b && false ≡ false
no_second true = refl
no_second false = refl

key_low : (s : Stores) (key : ℕ) → IsSome s.second → device_of s key ≡ 0 → key ≤ s.root.count
key_low s key some on = by (nat_lt s.root.count key) refl
  where
    by : (b : Bool) → nat_lt s.root.count key ≡ b → key ≤ s.root.count
    by true is =
        let one : 1 ≡ 0 = sym (λ i. cond {A = ℕ} (some i && is i) 1 0) ∙ on in absurd (omega (arith, one))
    by false is = ltb-false s.root.count key is

keys_low : (s : Stores) (keys : List ℕ) → All (λ key. key ≤ s.root.count) keys → All (λ key. device_of s key ≡ 0) keys
keys_low s keys low = λ i d within.
    ap (λ b. cond {A = ℕ} (is_some s.second && b) 1 0) (le-ltb s.root.count (get_or keys i d) (low i d within))
    ∙ ap (λ b. cond {A = ℕ} b 1 0) (no_second (is_some s.second))

-- with one disk all keys are the root's
keys_one : (s : Stores) (keys : List ℕ) → s.second ≡ None → All (λ key. device_of s key ≡ 0) keys
keys_one s keys none = λ i d within. ap (λ (o : Option Store). cond {A = ℕ} (is_some o && nat_lt s.root.count (get_or keys i d)) 1 0) none

pub key_zero : (s : Stores) (key : ℕ) → key ≤ s.root.count → device_of s key ≡ 0
key_zero s key low =
    ap (λ b. cond {A = ℕ} (is_some s.second && b) 1 0) (le-ltb s.root.count key low)
    ∙ ap (λ b. cond {A = ℕ} b 1 0) (no_second (is_some s.second))

-- The calls that name the roots: sync writes no super-block that hasn't changed, and a pipe is on the root's disk.
pub sync_stays : (h : Handed) (now : ℕ) → OfSecond (λ (x : Store). x.mark ≡ false) h.inodes.store.second
    → (sync_all h now).state.inodes.store.second ≡ h.inodes.store.second
sync_stays h now = by h.inodes.store.second
  where
    by : (o : Option Store) → OfSecond (λ (x : Store). x.mark ≡ false) o → (synced (record { root = h.inodes.store.root; second = o }) now).second ≡ o
    by None clean = refl
    by (Some x) clean = ap (λ b. Some (cond {A = Store} b (record x { stamp = now; mark = false }) x)) clean

store_kept : {A : Type 0} (h : Handed) (test : Result A Errno) (next : A → Did) → ((a : A) → (next a).state.inodes.store ≡ h.inodes.store)
    → (check h test next).state.inodes.store ≡ h.inodes.store
store_kept h (Ok a) next same = same a
store_kept h (Err e) next same = refl

ends_kept : (h : Handed) (ino : ℕ) → (opens_ends h ino).state.inodes.store ≡ h.inodes.store
ends_kept h ino =
    store_kept h (need EMFILE (free_number h.u.files)) _ (λ fd.
    store_kept h (need ENFILE (free_entry h.files)) _ (λ entry.
    let first : Handed = with_end h ino reading_end fd entry in
    store_kept h (need EMFILE (free_number first.u.files)) _ (λ next_fd.
    store_kept h (need ENFILE (free_entry first.files)) _ (λ next_entry. refl))))

pipe_stays : (h : Handed) (now : ℕ) → h.mounts.first ≡ h.inodes.store.root.count → 1 ≤ h.inodes.store.root.count
    → (pipe_new h now).state.inodes.store.second ≡ h.inodes.store.second
pipe_stays h now first some = by found.answer refl
  where
    nobody : User
    nobody = record { uid = 0; gid = 0 }

    found : Finding ℕ
    found = new_in h.inodes 0 IALLOC nobody now

    l : Handed
    l = with_inodes h found.inodes

    zero_is : (split_of h.mounts 1).0 ≡ 0
    zero_is = ap (λ b. (cond {A = ℕ × ℕ} b (0, 1) (1, 1 - h.mounts.first)).0) (le-leb 1 h.mounts.first (omega (arith, first, some)))

    made_same : l.inodes.store.second ≡ h.inodes.store.second
    made_same =
        subst (λ dev. (new_in h.inodes dev IALLOC nobody now).inodes.store.second ≡ h.inodes.store.second) zero_is
        ((new_there h.inodes h.mounts 1 IALLOC nobody now first).second (key_zero h.inodes.store 1 some))

    by : (r : Result ℕ Errno) → found.answer ≡ r
        → (check l r (λ ino. until_end ino (opens_ends l ino))).state.inodes.store.second ≡ h.inodes.store.second
    by (Err e) is = made_same
    by (Ok ino) is =
        let d : Did = opens_ends l ino in
        let same = ends_kept l ino in
        let count : d.state.inodes.store.root.count ≡ h.inodes.store.root.count =
        ap (λ (s : Stores). s.root.count) same
        ∙ ap (λ (c : Disks ℕ). c.root) (new_counts h.inodes 0 IALLOC nobody now) in
        let low = new_on h.inodes.store.root.count some h.inodes IALLOC nobody now ino refl is in
        (lets_go_there d.state ino).second (key_zero d.state.inodes.store ino (omega (arith, low, count)))
        ∙ ap (λ (s : Stores). s.second) same ∙ made_same

-- All that a row names is on the root's disk then.
module _ (h : Handed) (first : h.mounts.first ≡ h.inodes.store.root.count) (some : 1 ≤ h.inodes.store.root.count)
    (none : h.mounts.covered ≡ None) (dir : device_of h.inodes.store h.u.dir ≡ 0)
  where
    its_on : (keys : List ℕ) → (IsThere h.inodes.store.root.count some h → All (λ key. key ≤ h.inodes.store.root.count) keys)
        → All (λ key. device_of h.inodes.store key ≡ 0) keys
    its_on keys low = by h.inodes.store.second refl
      where
        by : (o : Option Store) → h.inodes.store.second ≡ o → All (λ key. device_of h.inodes.store key ≡ 0) keys
        by None is = keys_one h.inodes.store keys is
        by (Some x) is =
            keys_low h.inodes.store keys
            (low (record { first = first; count = refl; none = none; dir = key_low h.inodes.store h.u.dir (ap is_some is) dir }))

    pub row_on : (call : FileCall) (slot : ℕ) (args : List ℕ) (now : ℕ) → call ≢ file.Sync → call ≢ file.Pipe
        → All (λ key. device_of h.inodes.store key ≡ 0) (file_row call h slot args now).named
    row_on call slot args now sync pipe = its_on (file_row call h slot args now).named
        (λ there. row_named h.inodes.store.root.count some call h slot args now sync pipe there)

    pub pipe_on : (now : ℕ) → All (λ key. device_of h.inodes.store key ≡ 0) (pipe_new h now).named
    pipe_on now = its_on (pipe_new h now).named (λ there. pipe_named h.inodes.store.root.count some h now there)

    pub core_on : (now : ℕ) → All (λ key. device_of h.inodes.store key ≡ 0) (core_file h now).named
    core_on now = its_on (core_file h now).named (λ there. core_named h.inodes.store.root.count some h now there)

    pub resume_on : (slot now : ℕ) → All (λ key. device_of h.inodes.store key ≡ 0) (resumes h slot now).named
    resume_on slot now = its_on (resumes h slot now).named (λ there. resume_named h.inodes.store.root.count some h slot now)

others : (call : FileCall) (h : Handed) (slot : ℕ) (args : List ℕ) (now : ℕ) → IsSound h → call ≢ file.Sync → call ≢ file.Pipe
    → StandsOnRoot h → (file_row call h slot args now).state.inodes.store.second ≡ h.inodes.store.second
others call h slot args now sound sync pipe on =
    (row_leaves_other call h slot args now sound sync pipe).second (record {
      named = row_on h sound.mounts.first on.some on.none on.keeps.dir call slot args now sync pipe;
      files = on.keeps.files;
      dir = on.keeps.dir;
    })

pub file_stays : (call : FileCall) (h : Handed) (slot : ℕ) (args : List ℕ) (now : ℕ) → IsSound h → StandsOnRoot h
    → (file_row call h slot args now).state.inodes.store.second ≡ h.inodes.store.second
file_stays file.Sync h slot args now sound on = sync_stays h now on.clean
file_stays file.Pipe h slot args now sound on = pipe_stays h now sound.mounts.first on.some
file_stays call h slot args now sound on =
    others call h slot args now sound (λ same. absurd (cc same)) (λ same. absurd (cc same)) on

pub core_stays : (h : Handed) (now : ℕ) → IsSound h → StandsOnRoot h → (core_file h now).state.inodes.store.second ≡ h.inodes.store.second
core_stays h now sound on =
    (core_leaves_other h now sound).second (record {
      named = core_on h sound.mounts.first on.some on.none on.keeps.dir now;
      files = on.keeps.files;
      dir = on.keeps.dir;
    })

-- and so is the program that exec names
pub exec_on : (mounts : MountTable) (w : World) (s name : ℕ) → mounts.first ≡ w.inodes.store.root.count → 1 ≤ w.inodes.store.root.count
    → mounts.covered ≡ None → device_of w.inodes.store (process_of w s).u.dir ≡ 0
    → All (λ key. device_of w.inodes.store key ≡ 0) (exec_named mounts w s name)
exec_on mounts w s name first one none dir = by w.inodes.store.second refl
  where
    exec : (r : Result ℕ Errno) → ((ino : ℕ) → r ≡ Ok ino → ino ≤ w.inodes.store.root.count) → All (λ key. key ≤ w.inodes.store.root.count) (named_by r)
    exec (Ok ino) low = All-cons (λ key. key ≤ w.inodes.store.root.count) ino [] (low ino refl) (All-nil (λ key. key ≤ w.inodes.store.root.count))
    exec (Err e) low = All-nil (λ key. key ≤ w.inodes.store.root.count)

    p : Process
    p = process_of w s

    starts_at : (bytes : List ℕ) → IsSome w.inodes.store.second → StartsOnRoot w.inodes.store mounts p.u.dir bytes
    starts_at bytes some = record { none = none; root = by (is_rooted bytes) } where
      by : (b : Bool) → cond {A = ℕ} b 1 p.u.dir ≤ w.inodes.store.root.count
      by true = one
      by false = key_low w.inodes.store p.u.dir some dir

    by : (o : Option Store) → w.inodes.store.second ≡ o → All (λ key. device_of w.inodes.store key ≡ 0) (exec_named mounts w s name)
    by None is = keys_one w.inodes.store (exec_named mounts w s name) is
    by (Some x) is =
        let bytes : List ℕ = name_at (image_of w.texts p) name in
        keys_low w.inodes.store (exec_named mounts w s name)
        (exec (find_in w.inodes mounts (its_user p) p.u.dir bytes).answer (λ ino found.
        (found_alone w.inodes.store mounts first (its_user p) p.u.dir bytes (starts_at bytes (ap is_some is))).within ino
        (sought_found w.inodes _ ino found)))

pub process_stays : (call : ProcessCall) (mounts : MountTable) (w : World) (s : ℕ) (args : List ℕ) → AreMounts mounts w.inodes.store
    → RunsOnRoot mounts w s → (process_row call mounts w s args).state.inodes.store.second ≡ w.inodes.store.second
process_stays call mounts w s args are on =
    (process_leaves_other call mounts w s args).second (record { named = named call; text = on.keeps.text })
  where
    named : (call : ProcessCall) → All (λ key. device_of w.inodes.store key ≡ 0) (process_named call mounts w s args)
    named process.Exec = exec_on mounts w s (slice_index args 0) are.first on.some on.none on.dir
    named call = All-nil (λ key. device_of w.inodes.store key ≡ 0)

-- the same of what it has done, where it answers
pub process_stayed : (call : ProcessCall) (mounts : MountTable) (p q : Procs) (fs gs : FileSystem) (s : ℕ) (args : List ℕ)
    (result : Result Answer PanicKind) (start end : Taken) → AreMounts mounts fs.store
    → HasDone p q gs result start end (process_row call mounts (handed p fs) s args)
    → IfOk result (λ answer. RunsOnRoot mounts (handed p fs) s → gs.store.second ≡ fs.store.second)
process_stayed call mounts p q fs gs s args result start end are done = by (came p comes).stop done.answer done.state where
  comes : Comes
  comes = process_row call mounts (handed p fs) s args

  by : (stop : Option (Stop World)) → result ≡ answered stop comes.answer → handed q gs ≡ left_by stop comes.state
      → IfOk result (λ answer. RunsOnRoot mounts (handed p fs) s → gs.store.second ≡ fs.store.second)
  by None is state =
      subst (λ (r : Result Answer PanicKind). IfOk r (λ answer. RunsOnRoot mounts (handed p fs) s → gs.store.second ≡ fs.store.second)) (sym is)
      (λ on. ap (λ (x : World). x.inodes.store.second) state ∙ process_stays call mounts (handed p fs) s args are on)
  by (Some stop) is state =
      subst (λ (r : Result Answer PanicKind). IfOk r (λ answer. RunsOnRoot mounts (handed p fs) s → gs.store.second ≡ fs.store.second)) (sym is) tt
