-- One walk over the rows of calls on files, for each fact that says what stays, what is shown and what a step changes.
use Rattle.std.proofs.Common.{◌≡◌, ◌≢◌, ◌<◌, ◌≤◌, ◌∙◌, ◌+◌, ◌-◌, ◌/◌, ◌%◌, ◌^◌, ◌==◌, ◌&&◌, ◌||◌, ℕ, Bool, true, false, not, nat_lt, cond, List, [], ◌∷◌, append-nil, length, take, slice_index, slice_set, is_some, is_none, IfSome, Option, Some, None, Result, Ok, Err, refl, sym, ap, subst, inl, inr, arith, ◌++◌, map, length-append}
use Rattle.v6_base.specs.Image.{Image}
use Rattle.v6_base.specs.Trace.{Log, sent, Item}
use Rattle.v6_base.specs.Copy.{store_bytes}
use Rattle.v6_base.specs.declared.answer.Answer.TheVariants.{Ret}
use Rattle.v6_base.specs.declared.entry.Chan.{Chan}
use Rattle.v6_base.specs.declared.entry.Chan.TheVariants as chan
use Rattle.v6_base.specs.declared.entry.Entry.TheVariants.{Wake, Signal}
use Rattle.v6_base.specs.declared.errno.Errno.{Errno}
use Rattle.v6_base.specs.declared.errno.Errno.TheVariants.{EINTR, EPERM, EBADF, EFAULT, EEXIST, ENOTDIR, EISDIR, ENFILE, EMFILE, ENXIO, ESPIPE, EMLINK, EPIPE, EXDEV, EBUSY, EINVAL}
use Rattle.v6_base.proofs.Copies.{SameLengths, same_lengths, bytes_lengths}
use Rattle.fs_codec.specs.Bytes.{bytes_of}
use Rattle.fs_codec.specs.Words.{word}
use Rattle.fs_codec.specs.Modes.{is_device, is_directory}
use Rattle.fs_codec.specs.Store.{Node}
use Rattle.fs_codec.specs.declared.modes.TheConstants.{IALLOC}
use Rattle.u_area.specs.declared.layout.TheConstants.{LINE_READ, LINE_WRITE, PIPE_READ, PIPE_WRITE}
use Rattle.u_area.specs.Pending.{IsPipeCall}
use Rattle.fs_laws.specs.Pieces.{Moving}
use Rattle.fs_nodes.specs.Keys.{counts, key_count, key_on, synced}
use Rattle.fs_nodes.proofs.CountLaws.{counts_synced, keys_counted}
use Rattle.fs_nodes.proofs.OtherDisk.{node_there}
use Rattle.fs_tree.specs.declared.made.Made.{Made}
use Rattle.fs_tree.specs.declared.made.Made.TheVariants as made
use Rattle.fs_tree.specs.declared.user.Want.TheVariants.{Write, Execute}
use Rattle.fs_tree.specs.Name.{name_at, readable}
use Rattle.fs_tree.specs.Finding.{Finding, refused, with_reference, find_in, removing}
use Rattle.fs_tree.specs.Permission.{permission, access}
use Rattle.open_files.specs.declared.file.OpenFile.{OpenFile}
use Rattle.open_files.specs.declared.file.FileKind.{FileKind}
use Rattle.open_files.specs.declared.file.Closed.{Closed}
use Rattle.open_files.specs.declared.file.Closed.TheVariants.{Still, Last}
use Rattle.open_files.specs.Files as files
use Rattle.open_files.specs.Files.{entry_of, free_number, free_entry, with_change, with_more, times}
use Rattle.tty_line.specs.Terminal as terminal
use Rattle.tty_line.specs.Terminal.{Terminal}
use Rattle.tty_line.specs.declared.line.Took.{Took}
use Rattle.tty_line.specs.declared.line.Took.TheVariants.{Done, Wait, Fault}
use Rattle.tty_line.specs.Said as said
use Rattle.tty_line.specs.Said.{holds, with_modes}
use Rattle.tty_line.specs.Output.{after_shown, written}
use Rattle.tty_line.proofs.OutputLemmas.{written_few, room_written}
use Rattle.lines_eight.specs.Told.{keys_of, show_of, wakes_if}
use Rattle.lines_eight.proofs.LinesLemmas.{room_opened, room_read}
use Rattle.tty_line.specs.Reading.{Reading}
use Rattle.sig_core.specs.Signals.{due, posted}
use Rattle.pipe_ends.specs.declared.ends.Pipe.{Pipe}
use Rattle.pipe_ends.specs.declared.ends.Piped.{Piped}
use Rattle.pipe_ends.specs.declared.ends.Piped.TheVariants as piped
use Rattle.pipe_ends.specs.Reads.{PipeRead}
use Rattle.pipe_ends.specs.Writes.{PipeWrite}
use Rattle.sys_files.specs.Handed.{Handed, r0, r1, node_at, disk_of, number_of, file_of, user_of, line_of, line_at, with_line, with_inodes, with_store, with_changed, with_number, let_go}
use Rattle.sys_files.specs.Did.{Did, fails, returns, is_done, check, must, need, unless_due, until_end, names, then_named, finds, by_made, makes}
use Rattle.sys_files.specs.Descriptors.{open_entry, dup_file, is_line_open, closes_line, without_marks, with_roused, pipe_roused, with_gone, released, told_by, dropped, closes, close_file, Closing}
use Rattle.sys_files.specs.Opening.{last_failure, open_tests, can_open, with_tty, lines_opened, with_opened, opens, opens_named, open_file}
use Rattle.sys_files.specs.Making.{new_in, entry_written, writes_entry, with_links, enters_new, makes_node, opens_for_writing, with_no_blocks, opens_again, makes_file, creat_file, with_device, is_super_user, makes_any, mknod_at, may_link, is_covered, enters_again, links_to, link_file, empties, removes, found_to_remove, names_directory, unlink_file}
use Rattle.sys_files.specs.Mounting.{disk_named, can_cover, with_covered, covers, mounts_disk, mount_on, is_held, uncovers, unmounts, unmounts_named, umount_off}
use Rattle.sys_files.specs.Moving.{with_moved, gives_count, read_of, with_read, line_read, with_line_read, takes_line, reads_line, reads_by, reads_from, read_file_of, without_pending, line_kept, resumes, writes_line, writes_by, write_of, writes_to, write_file_of, seek_to}
use Rattle.sys_files.specs.Pipes.{pipe_of, with_pipe, without_pipe, has_end}
use Rattle.sys_files.specs.Piping.{reading_end, with_end, opens_ends, pipe_new, after, words_of, pipe_at, ends_at, pipe_read, with_pipe_read, ends_read, reads_pipe, pipe_write, with_pipe_write, ends_write, writes_pipe, waits_in_pipe, breaks}
use Rattle.sys_files.specs.Modes.{terminal_line, of_terminal, words_at, sets_modes, stty_set, tells_modes, gtty_get}
use Rattle.sys_files.specs.Names.{entered_at, with_directory, enters_directory, chdir_to, is_owner, changes_mode, chmod_to, chown_to, sync_all}
use Rattle.sys_files.specs.Status.{status_bytes, with_stored, tells_status, stat_file, stat_open}
use Rattle.sys_files.proofs.Lengths.{line_lengths, read_lengths}
use Rattle.sys_files.proofs.LineLemmas.{line_there, terminal_there, kept_there}
use Rattle.sys_files.proofs.ReleasedLemmas.{shut}
use Rattle.sys_files.proofs.WriteLemmas.{with_shown, ends_shown, lined_on, piped_on}
use Rattle.sys_files.proofs.PipedLemmas.{pipe_lengths, left_of, write_leaves, read_leaves}
use Rattle.std.specs.List.{All}
use Rattle.std.proofs.lemmas.List.{map-append, length-take}
use Rattle.std.proofs.lemmas.List.Elements.{All-nil, All-cons, All-append}
use Rattle.v6_base.specs.declared.entry.Entry.{Entry}
use Rattle.sig_core.specs.declared.numbers.TheConstants.{SIGPIPE}
use Rattle.sys_files.proofs.Bounds.{IsOfFiles, IsLineOf, keys_of_files, show_of_files, few_readable}
use Rattle.sys_files.proofs.OffsetLemmas.{moved_counts}
use Rattle.sys_files.proofs.NodeCounts.{put_back_counts, finding_counts, making_counts, removing_counts, new_counts, entry_counts, links_counts, fields_counts, truncated_counts, device_counts, new_within}
pub use Rattle.sys_files.proofs.WalkSteps.{asleep_for_keys, asleep_for_room, asleep_in_pipe, IsOfPipe, IsCalling, IsAwaiting, CanResume, Owns, owns_all, Walks, closes_all}
use Rattle.sys_files.proofs.WalkSteps.{Touches, nothing, own_key, moved_there, need_some, entry_named, is_named, must_true, file_there, IsNamedBy, named_told, LetsGo, own_told}
use Rattle.fs_tree.proofs.OtherDisk.{removing_there}
use Rattle.sys_files.proofs.FrameLemmas.{finding_store, making_store, entry_there, links_there, truncated_there, device_there, changed_there, lets_go_there, read_there, write_there}

module _ {P : Handed → Type 0} {Q : Did → Type 0} {Few Known Line Here : ℕ → Type 0} {Moves Both : Type 0} {slot : ℕ}
    (k : Walks P Q Few Known Line Here Moves Both slot)
  where
    pub checks : {A : Type 0} (h : Handed) (test : Result A Errno) (next : A → Did) → P h → ((a : A) → Q (next a)) → Q (check h test next)
    checks h (Ok a) next p goes = goes a
    checks h (Err e) next p goes = k.refused h e p

    -- the same, where what goes on asks what the test has given
    checks_so : {A : Type 0} (h : Handed) (test : Result A Errno) (next : A → Did) → P h → ((a : A) → test ≡ Ok a → Q (next a))
        → Q (check h test next)
    checks_so h (Ok a) next p goes = goes a refl
    checks_so h (Err e) next p goes = k.refused h e p

    pub walk_named : {A : Type 0} (h : Handed) (found : Finding A) (next : Handed → A → Did)
        → counts found.inodes.store ≡ counts h.inodes.store → Touches Here Both h.inodes.store found.inodes.store → P h
        → ((now : Handed) (a : A) → P now → Q (next now a)) → Q (then_named h found next)
    walk_named h found next same touches p goes =
        let now : P (with_inodes h found.inodes) = k.inodes h found.inodes same touches p in
        checks (with_inodes h found.inodes) found.answer (next (with_inodes h found.inodes)) now
        (λ a. goes (with_inodes h found.inodes) a now)

    walk_finds : (h : Handed) (name : ℕ) (next : Handed → ℕ → Did) → P h
        → ((now : Handed) (ino : ℕ) → Here ino → P now → Q (next now ino)) → Q (finds h name next)
    walk_finds h name next p goes = walk_named h _ _ (finding_counts h.inodes _) (nothing (finding_store h.inodes _)) p
        (λ now ino q. k.lets_go ino (next now ino) (λ here. goes now ino here q))

    pub walk_made : (h : Handed) (answer : Made) (there : Handed → ℕ → Did) (new : Handed → ℕ → ℕ → List ℕ → Did) → P h
        → ((now : Handed) (ino : ℕ) → Here ino → P now → Q (there now ino))
        → ((now : Handed) (dir offset : ℕ) (name : List ℕ) → Here dir → P now → Q (new now dir offset name))
        → Q (by_made there new h answer)
    walk_made h (made.Found ino) there new p one two = k.lets_go ino (there h ino) (λ here. one h ino here p)
    walk_made h (made.Room dir offset name) there new p one two =
        k.lets_go dir (new h dir offset name) (λ here. two h dir offset name here p)

    walk_makes : (h : Handed) (name : ℕ) (there : Handed → ℕ → Did) (new : Handed → ℕ → ℕ → List ℕ → Did) → P h
        → ((now : Handed) (ino : ℕ) → Here ino → P now → Q (there now ino))
        → ((now : Handed) (dir offset : ℕ) (name : List ℕ) → Here dir → P now → Q (new now dir offset name))
        → Q (makes h name there new)
    walk_makes h name there new p one two =
        walk_named h _ (by_made there new) (making_counts h.inodes _) (nothing (making_store h.inodes _)) p
        (λ now answer q. walk_made now answer there new q one two)

    pub walk_writes : (h : Handed) (dir offset : ℕ) (bytes : List ℕ) (now : ℕ) (next : Handed → Did) → Here dir → P h
        → ((l : Handed) → P l → Q (next l))
        → Q (writes_entry h dir offset bytes now next)
    walk_writes h dir offset bytes now next here p goes = walk_named h (entry_written h.inodes dir offset bytes now)
        (λ l done. next l) (entry_counts h.inodes dir offset bytes now) (own_key dir here (entry_there h.inodes dir offset bytes now)) p
        (λ l done q. goes l q)

    linked_in : (h : Handed) (ino links now : ℕ) → Here ino → P h → P (with_links h ino links now)
    linked_in h ino links now here p =
        k.inodes h (with_links h ino links now).inodes (links_counts h.inodes ino links now)
        (own_key ino here (links_there h.inodes ino links now)) p

    pub walk_node : (h : Handed) (dir offset : ℕ) (name : List ℕ) (mode now : ℕ) (next : Handed → ℕ → Did) → Here dir → P h
        → ((l : Handed) (ino : ℕ) → Here ino → P l → Q (next l ino)) → Q (makes_node h dir offset name mode now next)
    walk_node h dir offset name mode now next here p goes =
        let found : Finding ℕ = new_in h.inodes (disk_of h dir) mode (user_of h.u) now in
        let l : Handed = with_inodes h found.inodes in
        let there : P l = k.made h dir mode (user_of h.u) now here p in
        checks l found.answer (λ ino. until_end ino (enters_new l dir offset name ino now next)) there (λ ino.
        k.lets_go ino (enters_new l dir offset name ino now next) (λ own.
        walk_writes l dir offset _ now (λ m. next (with_links m ino 1 now) ino) here there (λ m r.
        goes (with_links m ino 1 now) ino own (linked_in m ino 1 now own r))))

    -- An inode is opened.
    opened : (h : Handed) (ino : ℕ) (kind : FileKind) (fd entry : ℕ) → kind.pipe ≡ false → free_number h.u.files ≡ Some fd
        → free_entry h.files ≡ Some entry → Here ino → Moves → P h → P (with_opened h ino kind fd entry)
    opened h ino kind fd entry plain number free here moves p = by (line_of h (node_at h ino))
      where
        next : Handed
        next = with_opened h ino kind fd entry

        entered : (now : Handed) → free_number now.u.files ≡ Some fd → free_entry now.files ≡ Some entry → P now
            → P (record now {
              inodes = with_reference now.inodes ino;
              files = slice_set now.files entry (Some (files.opened ino kind));
              u = with_number now.u fd (entry + 1);
            })
        entered now number free p =
            k.opened (with_inodes now (with_reference now.inodes ino)) ino kind fd entry plain number free here moves
            (k.inodes now (with_reference now.inodes ino) refl (nothing refl) p)

        lined : ℕ → Handed
        lined l = with_line h l (terminal.opened (line_at h l))

        there : (l : ℕ) → P (lined l)
        there l = k.typewriter h l (terminal.opened (line_at h l)) (room_opened (line_at h l)) p

        taken : (l : ℕ) (b : Bool) → P (record next { row = cond b (record h.row { tty = l + 1 }) h.row; lines = (lined l).lines })
        taken l true = entered (record (lined l) { row = record h.row { tty = l + 1 } }) number free (k.terminal (lined l) (l + 1) (there l))
        taken l false = entered (lined l) number free (there l)

        by : (line : Option ℕ) → P (record next { row = with_tty h.row line; lines = lines_opened h line })
        by None = entered h number free p
        by (Some l) = taken l (h.row.tty == 0)

    walk_opens : (h : Handed) (ino : ℕ) (kind : FileKind) → kind.pipe ≡ false → Here ino → Moves → P h → Q (opens h ino kind)
    walk_opens h ino kind plain here moves p =
        checks_so h (need EMFILE (free_number h.u.files)) _ p (λ fd number.
        checks_so h (need ENFILE (free_entry h.files)) _ p (λ entry free.
        checks h (must ENXIO (can_open h (node_at h ino))) _ p (λ can.
        k.done (with_opened h ino kind fd entry) fd (r1 h)
        (opened h ino kind fd entry plain (need_some EMFILE (free_number h.u.files) fd number)
        (need_some ENFILE (free_entry h.files) entry free) here moves p))))

    -- Bytes are read, and written.
    after_moved : {Memory : Type 0} (h : Handed) (entry : ℕ) (m : Moving Memory) → Here (file_of h entry).ino → P h
        → P (with_moved h entry m)
    after_moved h entry m here p =
        k.offset _ entry (((file_of h entry).offset + m.done) % 2 ^ 32)
        (k.inodes h (with_moved h entry m).inodes (moved_counts h entry m)
        (own_key (file_of h entry).ino here (node_there h.inodes.store (file_of h entry).ino m.node m.room)) p)

    walk_count : (h : Handed) (count : ℕ) (e : Option Errno) → P h → Q (gives_count h count e)
    walk_count h count None p = k.done h count (r1 h) p
    walk_count h count (Some e) p = k.refused h e p

    -- a sleep that a signal may break
    unless_due_walk : (h : Handed) (sleep : Did) → P h → Q sleep → Q (unless_due h sleep)
    unless_due_walk h sleep p q = by (is_some (due h.row h.u))
      where
        by : (b : Bool) → Q (cond b (fails h EINTR) sleep)
        by true = k.refused h EINTR p
        by false = q

    walk_line : (h : Handed) (l entry at count : ℕ) (took : Took) → IsCalling h entry count 0 → (l ≢ 0 → Line l) → P h → Q (takes_line h l entry at count took)
    walk_line h l entry at count (Done n) calling line p = k.done h n (r1 h) p
    walk_line h l entry at count Wait calling line p =
        unless_due_walk h (asleep_for_keys h l entry at count) p (k.waits h l entry at count calling line p)
    walk_line h l entry at count Fault calling line p = k.refused h EFAULT p

    walk_reads_line : (h : Handed) (l entry at count : ℕ) → IsCalling h entry count 0 → (l ≢ 0 → Line l) → P h → Q (reads_line h l entry at count)
    walk_reads_line h l entry at count calling line p =
        let reading : Reading = line_read h l at count in
        walk_line (with_line_read h l reading) l entry at count reading.took
        (record { there = calling.there; named = calling.named; few = calling.few }) line
        (k.stored (with_line h l reading.terminal) reading.image (line_lengths (line_at h l) h.image at count)
        (k.typewriter h l reading.terminal (room_read (line_at h l) h.image at count) p))

    read_by : (h : Handed) (entry at count now : ℕ) (line : Option ℕ) → ((l : ℕ) → line ≡ Some l → l < length h.lines) → IsCalling h entry count 0
        → Owns Here h → P h → Q (reads_by (with_read h entry (read_of h entry at count now)) line entry at count (read_of h entry at count now))
    read_by h entry at count now line lies calling own p = by line lies
      where
        m : Moving Image
        m = read_of h entry at count now

        after : P (with_read h entry m)
        after = k.stored (with_moved h entry m) m.memory (read_lengths h entry at count now)
            (after_moved h entry m (own.file entry calling.named) p)

        by : (line : Option ℕ) → ((l : ℕ) → line ≡ Some l → l < length h.lines) → Q (reads_by (with_read h entry m) line entry at count m)
        by (Some l) lies = walk_reads_line (with_read h entry m) l entry at count
            (record { there = moved_there h entry _ calling.there; named = calling.named; few = calling.few })
            (λ other. k.numbered h l other (lies l refl) p) after
        by None lies = walk_count (with_read h entry m) m.done m.error after

    ended : (after : Handed) (l entry at count done : ℕ) (stopped all : Bool) → IsCalling after entry count done → (l ≢ 0 → Line l) → P after
        → Q (ends_shown after l entry at count done stopped all)
    ended after l entry at count done true all calling line p =
        unless_due_walk after (asleep_for_room after l entry at count done) p (k.waits_for_room after l entry at count done calling line p)
    ended after l entry at count done false true calling line p = k.done after count (r1 after) p
    ended after l entry at count done false false calling line p = k.refused after EFAULT p

    walk_writes_line : (h : Handed) (l entry at count done : ℕ) → Few (count - done) → IsCalling h entry count done → (l ≢ 0 → Line l) → P h
        → Q (writes_line h l entry at count done)
    walk_writes_line h l entry at count done few calling line p =
        let t : Terminal = line_at h l in
        let bytes : List ℕ = readable h.image ((at + done) % 65536) (count - done) in
        let n : ℕ = written t bytes in
        let some = written_few t bytes in
        let most = few_readable h.image ((at + done) % 65536) (count - done) in
        let long = length-take n bytes in
        let within = calling.few in
        k.showing l t (take n bytes) (count - done)
        (ends_shown (with_shown h l (take n bytes)) l entry at count (done + n) (nat_lt n (length bytes)) (done + n == count))
        (omega (arith, long, most)) few
        (ended (with_shown h l (take n bytes)) l entry at count (done + n) (nat_lt n (length bytes)) (done + n == count)
        (record { there = calling.there; named = calling.named; few = omega (arith, some, most, within) }) line
        (k.typewriter h l (after_shown t (take n bytes)) (room_written t bytes) p))

    write_by : (h : Handed) (entry at count now : ℕ) (line : Option ℕ) → ((l : ℕ) → line ≡ Some l → l < length h.lines) → Few count
        → IsCalling h entry count 0 → Owns Here h → P h
        → Q (writes_by (with_moved h entry (write_of h entry at count now)) line (is_device (node_at h (file_of h entry).ino).mode)
        entry at count (write_of h entry at count now))
    write_by h entry at count now (Some l) lies few calling own p =
        let all : count - 0 ≡ count = omega arith in
        walk_writes_line (with_moved h entry (write_of h entry at count now)) l entry at count 0 (subst Few (sym all) few)
        (record { there = moved_there h entry _ calling.there; named = calling.named; few = calling.few })
        (λ other. k.numbered h l other (lies l refl) p)
        (after_moved h entry (write_of h entry at count now) (own.file entry calling.named) p)
    write_by h entry at count now None lies few calling own p =
        walk_count (with_moved h entry (write_of h entry at count now)) _ _
        (after_moved h entry (write_of h entry at count now) (own.file entry calling.named) p)

    -- Bytes are put into the image.
    walk_stored : (h : Handed) (o : Option Image) → IfSome o (SameLengths h.image) → P h → Q (with_stored h o)
    walk_stored h (Some m) same p = k.done (record h { image = m }) (r0 h) (r1 h) (k.stored h m same p)
    walk_stored h None same p = k.refused h EFAULT p

    walk_status : (h : Handed) (ino at : ℕ) → P h → Q (tells_status h ino at)
    walk_status h ino at p =
        walk_stored h _ (bytes_lengths h.image h.image at (status_bytes (disk_of h ino) (number_of h ino) (node_at h ino))
        (same_lengths h.image)) p

    walk_told : (h : Handed) (l at : ℕ) (odd : Bool) → P h → Q
        (with_stored h (cond odd None (store_bytes h.image at (bytes_of (line_at h l).modes))))
    walk_told h l at true p = k.refused h EFAULT p
    walk_told h l at false p =
        walk_stored h _ (bytes_lengths h.image h.image at (bytes_of (line_at h l).modes) (same_lengths h.image)) p

    walk_terminal : (h : Handed) (does : ℕ → Did) → P h → ((l : ℕ) → (l ≢ 0 → l < length h.lines) → Q (does l)) → Q (of_terminal h does)
    walk_terminal h does p goes =
        checks h (open_entry h (r0 h)) _ p (λ entry.
        checks_so h (terminal_line h (node_at h (file_of h entry).ino)) does p (λ l is.
        goes l (terminal_there h (node_at h (file_of h entry).ino) l is)))

    wake_line : (chan : Chan) (entries : List Entry) → IsOfFiles Known Line chan → All (IsLineOf Known Line slot) entries
        → All (IsLineOf Known Line slot) (Wake chan ∷ entries)
    wake_line chan entries named all = All-cons (IsLineOf Known Line slot) (Wake chan) entries (inl (chan, refl, named)) all

    no_line : All (IsLineOf Known Line slot) []
    no_line = All-nil (IsLineOf Known Line slot)

    answers : (h : Handed) (a b : ℕ) (entries : List Entry) → length entries ≤ 3 → All (IsLineOf Known Line slot) entries → P h
        → Q (record { answer = Ret a b; state = h; items = map Log entries; named = [] })
    answers h a b entries few all p =
        k.tells entries (record { answer = Ret a b; state = h; items = []; named = [] }) few all refl (k.done h a b p)

    closes_by : (h : Handed) (a b ino : ℕ) (pipe : Bool) → (pipe ≡ true → Known ino) → P h
        → Q (record {
          answer = Ret a b;
          state = h;
          items = cond pipe (Log (Wake (chan.Write ino)) ∷ Log (Wake (chan.Read ino)) ∷ []) [];
          named = [];
        })
    closes_by h a b ino true named p =
        answers h a b (Wake (chan.Write ino) ∷ Wake (chan.Read ino) ∷ []) (omega arith)
        (wake_line (chan.Write ino) (Wake (chan.Read ino) ∷ []) (named refl) (wake_line (chan.Read ino) [] (named refl) no_line)) p
    closes_by h a b ino false named p = k.done h a b p

    -- what a line tells that lets out what waits, after an end of a pipe or not
    told_by_line : (h rest : Handed) (a b ino l : ℕ) (pipe show : Bool) → (pipe ≡ true → Known ino) → (l ≢ 0 → l < length h.lines) → P h → P rest
        → Q (record {
          answer = Ret a b;
          state = rest;
          items = cond pipe (Log (Wake (chan.Write ino)) ∷ Log (Wake (chan.Read ino)) ∷ []) []
              ++ (sent l (line_at h l).output ++ (wakes_if true (keys_of l) ++ wakes_if show (show_of l)));
          named = [];
        })
    told_by_line h rest a b ino l pipe show named there p q = by pipe show named
      where
        told : Did
        told = record { answer = Ret a b; state = rest; items = []; named = [] }

        line : l ≢ 0 → Line l
        line other = k.numbered h l other (there other) p

        ends : List Entry
        ends = Wake (chan.Write ino) ∷ Wake (chan.Read ino) ∷ []

        roused : Known ino → All (IsLineOf Known Line slot) ends
        roused name = wake_line (chan.Write ino) (Wake (chan.Read ino) ∷ []) name (wake_line (chan.Read ino) [] name no_line)

        keys : All (IsLineOf Known Line slot) (Wake (keys_of l) ∷ [])
        keys = wake_line (keys_of l) [] (keys_of_files Known Line l line) no_line

        both : All (IsLineOf Known Line slot) (Wake (keys_of l) ∷ Wake (show_of l) ∷ [])
        both = wake_line (keys_of l) (Wake (show_of l) ∷ []) (keys_of_files Known Line l line) (wake_line (show_of l) [] (show_of_files Known Line l line) no_line)

        by : (pipe show : Bool) → (pipe ≡ true → Known ino) → Q (record {
          answer = Ret a b;
          state = rest;
          items = cond pipe (Log (Wake (chan.Write ino)) ∷ Log (Wake (chan.Read ino)) ∷ []) []
              ++ (sent l (line_at h l).output ++ (wakes_if true (keys_of l) ++ wakes_if show (show_of l)));
          named = [];
        })
        by true true name =
            k.lets_out h l ends (Wake (keys_of l) ∷ Wake (show_of l) ∷ []) told (omega arith) (roused (name refl)) both p refl (k.done rest a b q)
        by true false name = k.lets_out h l ends (Wake (keys_of l) ∷ []) told (omega arith) (roused (name refl)) keys p refl (k.done rest a b q)
        by false true name = k.lets_out h l [] (Wake (keys_of l) ∷ Wake (show_of l) ∷ []) told (omega arith) no_line both p refl (k.done rest a b q)
        by false false name = k.lets_out h l [] (Wake (keys_of l) ∷ []) told (omega arith) no_line keys p refl (k.done rest a b q)

    -- Pipes are read and written. What a call on a pipe comes to has one line of its own at most.
    told_after : (first rest : List Entry) (d : Did) → length first ≤ 1 → length rest ≤ 1 → All (IsLineOf Known Line slot) first
        → All (IsLineOf Known Line slot) rest
        → d.items ≡ map Log rest → Q (record d { items = [] }) → Q (after (map Log first) d)
    told_after first rest d few one all own are q =
        let P' : List Item → Type 0 = λ l. Q (record d { items = l }) in
        let long = length-append first rest in
        subst P' (map-append Log first rest ∙ ap (λ l. map Log first ++ l) (sym are))
        (k.tells (first ++ rest) (record d { items = [] }) (omega (arith, few, one, long))
        (All-append (IsLineOf Known Line slot) first rest all own) refl q)

    told_woken : (woken : Bool) (chan : Chan) (rest : List Entry) (d : Did) → IsOfFiles Known Line chan → length rest ≤ 1
        → All (IsLineOf Known Line slot) rest
        → d.items ≡ map Log rest → Q (record d { items = [] }) → Q (after (cond woken (Log (Wake chan) ∷ []) []) d)
    told_woken true chan rest d named one own are q =
        told_after (Wake chan ∷ []) rest d (omega arith) one (wake_line chan [] named no_line) own are q
    told_woken false chan rest d named one own are q = told_after [] rest d (omega arith) one no_line own are q

    -- a call that ends quietly on a pipe, after somebody was woken or not
    quiet_woken : (woken : Bool) (chan : Chan) (d : Did) → IsOfFiles Known Line chan → d.items ≡ [] → Q d
        → Q (after (cond woken (Log (Wake chan) ∷ []) []) d)
    quiet_woken woken chan d named none q =
        told_woken woken chan [] d named (omega arith) no_line none
        (subst Q (ap (λ (l : List Item). record { answer = d.answer; state = d.state; items = l; named = d.named }) none) q)

    waits_woken : (woken : Bool) (on chan : Chan) (h : Handed) (pending entry at count left : ℕ) → IsPipeCall pending
        → IsOfFiles Known Line on → IsOfPipe Known chan → IsAwaiting h entry count left → P h
        → Q (after (cond woken (Log (Wake on) ∷ []) []) (waits_in_pipe h chan pending (words_of entry at count left)))
    waits_woken woken on chan h pending entry at count left kind named name awaits p = by (is_some (due h.row h.u))
      where
        by : (b : Bool) → Q
            (after (cond woken (Log (Wake on) ∷ []) [])
            (cond b (fails h EINTR) (asleep_in_pipe h chan pending (words_of entry at count left))))
        by true = quiet_woken woken on (fails h EINTR) named refl (k.refused h EINTR p)
        by false = quiet_woken woken on (asleep_in_pipe h chan pending (words_of entry at count left)) named refl
            (k.waits_in_pipe h chan pending entry at count left kind name awaits p)

    read_ends : (woken : Bool) (h : Handed) (ino entry at count : ℕ) (answer : Piped) → Known ino → IsAwaiting h entry count 0 → P h
        → Q (after (cond woken (Log (Wake (chan.Write ino)) ∷ []) []) (ends_read h ino entry at count answer))
    read_ends woken h ino entry at count (piped.Done n) name awaits p =
        quiet_woken woken (chan.Write ino) (returns h n) name refl (k.done h n (r1 h) p)
    read_ends woken h ino entry at count (piped.Wait left) name awaits p =
        waits_woken woken (chan.Write ino) (chan.Read ino) h PIPE_READ entry at count 0 (inl refl) name name awaits p
    read_ends woken h ino entry at count piped.Broken name awaits p =
        quiet_woken woken (chan.Write ino) (fails h EPIPE) name refl (k.refused h EPIPE p)
    read_ends woken h ino entry at count (piped.Error e) name awaits p =
        quiet_woken woken (chan.Write ino) (fails h e) name refl (k.refused h e p)

    write_ends : (woken : Bool) (h : Handed) (ino entry at count : ℕ) (answer : Piped) → Known ino
        → IsAwaiting h entry count (left_of answer) → P h
        → Q (after (cond woken (Log (Wake (chan.Read ino)) ∷ []) []) (ends_write h slot ino entry at count answer))
    write_ends woken h ino entry at count (piped.Done n) name awaits p =
        quiet_woken woken (chan.Read ino) (returns h count) name refl (k.done h count (r1 h) p)
    write_ends woken h ino entry at count (piped.Wait left) name awaits p =
        waits_woken woken (chan.Read ino) (chan.Write ino) h PIPE_WRITE entry at count left (inr refl) name name awaits p
    write_ends woken h ino entry at count piped.Broken name awaits p =
        told_woken woken (chan.Read ino) (Signal slot SIGPIPE ∷ []) (breaks h slot) name (omega arith)
        (All-cons (IsLineOf Known Line slot) (Signal slot SIGPIPE) [] (inr refl) no_line) refl
        (k.refused (record h { row = posted h.row SIGPIPE }) EPIPE (k.signalled h p))
    write_ends woken h ino entry at count (piped.Error e) name awaits p =
        quiet_woken woken (chan.Read ino) (fails h e) name refl (k.refused h e p)

    walk_reads_pipe : (h : Handed) (entry at count now : ℕ) → (file_of h entry).kind.pipe ≡ true → 1 ≤ times h.u.files entry
        → Owns Here h → P h → Q (reads_pipe h entry at count now)
    walk_reads_pipe h entry at count now is named own p =
        let r : PipeRead = pipe_read h entry at count now in
        let q : Pipe = pipe_at h entry in
        let known : Known q.ino = (k.known h entry is p).1 in
        let read : P (with_store h r.store) = k.inodes h (record h.inodes { store = r.store })
        (read_leaves h.inodes.store (ends_at h entry) q h.image at count now).counts
        (own_key q.ino (own.pipe entry is named) (read_there h.inodes.store (ends_at h entry) q h.image at count now)) p in
        let stored : P (record (with_store h r.store) { image = r.image }) =
        k.stored (with_store h r.store) r.image (pipe_lengths h.inodes.store (ends_at h entry) q h.image at count now) read in
        read_ends (q.writer_waits && not r.pipe.writer_waits) (with_pipe_read h r) q.ino entry at count r.answer known
        (record { pipe = is; named = named; few = omega arith })
        (k.marked (record (with_store h r.store) { image = r.image }) r.pipe stored)

    walk_writes_pipe : (h : Handed) (entry at count left now : ℕ) → (file_of h entry).kind.pipe ≡ true
        → 1 ≤ times h.u.files entry → left ≤ count → Owns Here h → P h → Q (writes_pipe h slot entry at count left now)
    walk_writes_pipe h entry at count left now is named less own p =
        let w : PipeWrite = pipe_write h entry at count left now in
        let q : Pipe = pipe_at h entry in
        let known : Known q.ino = (k.known h entry is p).1 in
        let leaves = write_leaves h.inodes.store (ends_at h entry) q h.image ((at + (count - left)) % 65536) left now in
        let few = leaves.few in
        let written : P (with_store h w.store) = k.inodes h (record h.inodes { store = w.store }) leaves.leaves.counts
        (own_key q.ino (own.pipe entry is named)
        (write_there h.inodes.store (ends_at h entry) q h.image ((at + (count - left)) % 65536) left now)) p in
        write_ends (q.reader_waits && not w.pipe.reader_waits) (with_pipe_write h w) q.ino entry at count w.answer known
        (record { pipe = is; named = named; few = omega (arith, few, less) }) (k.marked (with_store h w.store) w.pipe written)

    -- one or the other, as a file is an end of a pipe or none
    by_kind : (b : Bool) (x y : Did) → (b ≡ true → Q x) → Q y → Q (cond b x y)
    by_kind true x y first second = first refl
    by_kind false x y first second = second

    -- What a number lets go, when its entry has been left: the inode of a pipe is known.
    roused : (h : Handed) (file : OpenFile) (b : Bool) → P h
        → P (cond b (record h { pipes = with_pipe h.pipes (without_marks (pipe_of h.pipes file.ino)) }) h)
    roused h file true p = k.marked h (without_marks (pipe_of h.pipes file.ino)) p
    roused h file false p = p

    without_end : (h : Handed) (ino : ℕ) (b c : Bool) → has_end h.files ino ≡ c → P h
        → P (cond (b && not c) (record h { pipes = without_pipe h.pipes ino }) h)
    without_end h ino true true e p = p
    without_end h ino true false e p = k.gone h ino e p
    without_end h ino false c e p = p

    line_closes : (h : Handed) (a b : ℕ) (file : OpenFile) (line : Option ℕ) → ((l : ℕ) → line ≡ Some l → l < length h.lines)
        → (file.kind.pipe ≡ true → Known file.ino) → Here file.ino → P h
        → Q (record {
          answer = Ret a b;
          state = let_go (closes_line h line).state file.ino;
          items = pipe_roused file ++ (closes_line h line).items;
          named = [];
        })
    line_closes h a b file line there known here p = by line there
      where
        stays : Q (record { answer = Ret a b; state = let_go h file.ino; items = pipe_roused file ++ []; named = [] })
        stays = subst (λ (items : List Item). Q (record { answer = Ret a b; state = let_go h file.ino; items = items; named = [] }))
            (sym (append-nil (pipe_roused file)))
            (closes_by (let_go h file.ino) a b file.ino file.kind.pipe known
            (k.inodes h (let_go h file.ino).inodes (put_back_counts h.inodes file.ino)
            (own_key file.ino here (lets_go_there h file.ino)) p))

        either : (l : ℕ) (used : Bool) → l < length h.lines → Q (record {
          answer = Ret a b;
          state = let_go (cond {A = Closing} used (record { state = h; items = [] }) (shut h l)).state file.ino;
          items = pipe_roused file ++ (cond {A = Closing} used (record { state = h; items = [] }) (shut h l)).items;
          named = [];
        })
        either l true there = stays
        either l false there =
            told_by_line h (let_go (shut h l).state file.ino) a b file.ino l file.kind.pipe (said.closed (line_at h l)).show known (λ other. there) p
            (k.inodes (shut h l).state (let_go h file.ino).inodes (put_back_counts h.inodes file.ino)
            (own_key file.ino here (lets_go_there h file.ino))
            (k.typewriter h l (said.closed (line_at h l)).terminal (λ room. omega arith) p))

        by : (line : Option ℕ) → ((l : ℕ) → line ≡ Some l → l < length h.lines) → Q (record {
          answer = Ret a b;
          state = let_go (closes_line h line).state file.ino;
          items = pipe_roused file ++ (closes_line h line).items;
          named = [];
        })
        by None there = stays
        by (Some l) there = either l (is_line_open h l) (there l refl)

    walk_released : (h : Handed) (a b : ℕ) (told : Closed) → IsNamedBy Known told → LetsGo Here told → P h
        → Q (record { answer = Ret a b; state = (released h told).state; items = (released h told).items; named = [] })
    walk_released h a b (Still file) known own p =
        closes_by (with_roused h file) a b file.ino file.kind.pipe known (roused h file file.kind.pipe p)
    walk_released h a b (Last file) known own p =
        let rest : Handed = with_gone (with_roused h file) file in
        let here : P rest = without_end (with_roused h file) file.ino file.kind.pipe
        (has_end (with_roused h file).files file.ino) refl (roused h file file.kind.pipe p) in
        line_closes rest a b file (line_of rest (node_at rest file.ino)) (line_there rest (node_at rest file.ino)) known own here

    pub walk_closes : (h : Handed) (fd a b : ℕ) → 0 < slice_index h.u.files fd → Here (file_of h (entry_of h.u.files fd)).ino → Moves → P h
        → Q (record { answer = Ret a b; state = (closes h fd).state; items = (closes h fd).items; named = [] })
    walk_closes h fd a b named own moves p =
        let file : OpenFile = file_of h (entry_of h.u.files fd) in
        walk_released (dropped h fd) a b (told_by h fd)
        (named_told Known file (λ pipe. (k.known h (entry_of h.u.files fd) pipe p).0)) (own_told Here file own)
        (k.dropped h fd named moves p)

    -- The rows: 3, read
    pub walk_read : (h : Handed) (at count now : ℕ) → Owns Here h → P h → Q (read_file_of h at count now)
    walk_read h at count now own p =
        checks_so h (open_entry h (r0 h)) _ p (λ entry is.
        checks_so h (must EBADF (file_of h entry).kind.reading) _ p (λ passed may.
        by_kind (file_of h entry).kind.pipe (reads_pipe h entry at count now) (reads_from h entry at count now)
        (λ pipe. walk_reads_pipe h entry at count now pipe (is_named h (r0 h) entry is) own p)
        (read_by h entry at count now (line_of h (node_at h (file_of h entry).ino)) (line_there h (node_at h (file_of h entry).ino))
        (record { there = file_there h entry (λ file. file.kind.reading) (must_true EBADF _ may) refl; named = is_named h (r0 h) entry is; few = omega arith }) own p)))

    -- 4, write
    pub walk_write : (h : Handed) (at count now : ℕ) → Few count → Owns Here h → P h → Q (write_file_of h slot at count now)
    walk_write h at count now few own p =
        checks_so h (open_entry h (r0 h)) _ p (λ entry is.
        checks_so h (must EBADF (file_of h entry).kind.writing) _ p (λ passed may.
        by_kind (file_of h entry).kind.pipe (writes_pipe h slot entry at count count now) (writes_to h entry at count now)
        (λ pipe. walk_writes_pipe h entry at count count now pipe (is_named h (r0 h) entry is) (omega arith) own p)
        (write_by h entry at count now (line_of h (node_at h (file_of h entry).ino)) (line_there h (node_at h (file_of h entry).ino)) few
        (record { there = file_there h entry (λ file. file.kind.writing) (must_true EBADF _ may) refl; named = is_named h (r0 h) entry is; few = omega arith }) own p)))

    -- 5, open
    pub walk_open : (h : Handed) (name mode : ℕ) → Moves → P h → Q (open_file h name mode)
    walk_open h name mode moves p =
        walk_finds h name (λ l ino. opens_named l ino mode) p (λ l ino here q.
        checks l (last_failure (open_tests l.marks ino (node_at l ino) (user_of l.u) mode)) _ q
        (λ passed. walk_opens l ino _ refl here moves q))

    -- 6, close
    pub walk_close : (h : Handed) → Owns Here h → Moves → P h → Q (close_file h)
    walk_close h own moves p =
        checks_so h (open_entry h (r0 h)) _ p (λ entry is.
        let named = entry_named h (r0 h) entry is in
        walk_closes h (r0 h) (r0 h) (r1 h) named.0
        (subst (λ e. Here (file_of h e).ino) named.1 (own.file entry (is_named h (r0 h) entry is))) moves p)

    -- 8, creat
    again : (h : Handed) (ino now : ℕ) → Here ino → Moves → P h → Q (opens_again now h ino)
    again h ino now here moves p =
        checks h (access h.marks ino (node_at h ino) (user_of h.u) Write) _ p (λ may.
        checks h (must EISDIR (not (is_directory (node_at h ino).mode))) _ p (λ file.
        walk_opens (with_no_blocks h ino now) ino _ refl here moves (k.inodes h (with_no_blocks h ino now).inodes
        (truncated_counts h.inodes ino now) (own_key ino here (truncated_there h.inodes ino now)) p)))

    pub walk_creat : (h : Handed) (name mode now : ℕ) → Moves → P h → Q (creat_file h name mode now)
    walk_creat h name mode now moves p =
        walk_makes h name (opens_again now) (makes_file mode now) p (λ l ino here q. again l ino now here moves q)
        (λ l dir offset bytes here q.
        walk_node l dir offset bytes _ now opens_for_writing here q (λ m ino own r. walk_opens m ino _ refl own moves r))

    -- 9, link
    linked : (h : Handed) (ino links now : ℕ) → Here ino → P h → Q (is_done (with_links h ino links now))
    linked h ino links now here p = k.done (with_links h ino links now) (r0 h) (r1 h) (linked_in h ino links now here p)

    entered : (h : Handed) (ino now dir offset : ℕ) (name : List ℕ) → Here ino → Here dir → P h
        → Q (enters_again ino now h dir offset name)
    entered h ino now dir offset name own here p =
        checks h (must EXDEV (disk_of h ino == disk_of h dir)) _ p (λ same.
        walk_writes h dir offset _ now (λ l. is_done (with_links l ino ((node_at l ino).nlink + 1) now)) here p
        (λ l q. linked l ino _ now own q))

    pub walk_link : (h : Handed) (name new now : ℕ) → P h → Q (link_file h name new now)
    walk_link h name new now p =
        walk_finds h name (links_to new now) p (λ l ino own q.
        checks l (must EMLINK (nat_lt (node_at l ino).nlink 127)) _ q (λ few.
        checks l (must EPERM (may_link l ino)) _ q (λ may.
        walk_makes l new (λ m there. fails m EEXIST) (enters_again ino now) q (λ m there here r. k.refused m EEXIST r)
        (λ m dir offset bytes here r. entered m ino now dir offset bytes own here r))))

    -- 10, unlink
    emptied : (h : Handed) (dir offset ino now : ℕ) → Here dir → Here ino → P h → Q (empties now h dir offset ino)
    emptied h dir offset ino now here own p =
        checks h (must EPERM (may_link h ino)) _ p (λ may.
        checks h (must EBUSY (not (is_covered h ino))) _ p (λ free.
        walk_writes h dir offset (0 ∷ 0 ∷ []) now (λ l. is_done (with_links l ino ((node_at l ino).nlink - 1) now)) here p
        (λ l q. linked l ino _ now own q)))

    removed : (h : Handed) (now : ℕ) (entry : ℕ × ℕ × ℕ) → P h → Q (removes now h entry)
    removed h now (dir, offset, ino) p =
        k.lets_go ino (until_end dir (empties now h dir offset ino)) (λ own.
        k.lets_go dir (empties now h dir offset ino) (λ here. emptied h dir offset ino now here own p))

    pub walk_unlink : (h : Handed) (name now : ℕ) → P h → Q (unlink_file h name now)
    walk_unlink h name now p = by (found_to_remove h name)
      where
        by : (found : Result (ℕ × ℕ × ℕ) Errno)
            → Q (names_directory found (then_named h (removing h.inodes found) (removes now)))
        by (Err e) = walk_named h (refused h.inodes e) (removes now) refl (nothing refl) p (λ l entry q. removed l now entry q)
        by (Ok entry) =
            k.named entry.0 (then_named h (removing h.inodes (Ok entry)) (removes now)) (λ here.
            walk_named h (removing h.inodes (Ok entry)) (removes now) (removing_counts h.inodes (Ok entry))
            (own_key entry.0 here (removing_there h.inodes entry)) p (λ l entry q. removed l now entry q))

    -- 12, chdir
    pub walk_chdir : (h : Handed) (name : ℕ) → Owns Here h → Moves → P h → Q (chdir_to h name)
    walk_chdir h name own moves p =
        let found : Finding ℕ = find_in h.inodes h.mounts (user_of h.u) h.u.dir (name_at h.image name) in
        let l : Handed = with_inodes h found.inodes in
        let q : P l = k.inodes h found.inodes (finding_counts h.inodes _) (nothing (finding_store h.inodes _)) p in
        checks l found.answer (λ ino. until_end ino (enters_directory l ino)) q (λ ino.
        k.lets_go ino (enters_directory l ino) (λ here.
        checks l (must ENOTDIR (is_directory (node_at l ino).mode)) _ q (λ is.
        checks l (permission (node_at l ino) (user_of l.u) Execute) _ q (λ may.
        k.done (with_directory l ino) (r0 l) (r1 l)
        (k.inodes _ (with_directory l ino).inodes (put_back_counts (with_reference l.inodes ino) l.u.dir)
        (own_key l.u.dir own.dir (lets_go_there (entered_at l ino) l.u.dir)) (k.enters l ino here moves q))))))

    -- 14, mknod
    pub walk_mknod : (h : Handed) (name mode device now : ℕ) → P h → Q (mknod_at h name mode device now)
    walk_mknod h name mode device now p =
        checks h (must EPERM (is_super_user h)) _ p (λ may.
        walk_makes h name (λ l there. fails l EEXIST) (makes_any mode device now) p (λ l there here q. k.refused l EEXIST q)
        (λ l dir offset bytes here q.
        walk_node l dir offset bytes _ now (λ m ino. is_done (with_device m ino device)) here q (λ m ino own r.
        k.done (with_device m ino device) (r0 m) (r1 m) (k.inodes m (with_device m ino device).inodes
        (device_counts m.inodes ino device) (own_key ino own (device_there m.inodes ino device)) r))))

    -- 15, chmod, and 16, chown
    changed : (h : Handed) (ino : ℕ) (node : Node) → Here ino → P h → Q (is_done (with_changed h ino node))
    changed h ino node here p = k.done (with_changed h ino node) (r0 h) (r1 h) (k.inodes h (with_changed h ino node).inodes
        (fields_counts h.inodes.store ino node) (own_key ino here (changed_there h ino node)) p)

    pub walk_chmod : (h : Handed) (name mode now : ℕ) → P h → Q (chmod_to h name mode now)
    walk_chmod h name mode now p =
        walk_finds h name (changes_mode mode now) p (λ l ino here q. checks l (must EPERM (is_owner l ino)) _ q
        (λ may. changed l ino _ here q))

    pub walk_chown : (h : Handed) (name owner now : ℕ) → P h → Q (chown_to h name owner now)
    walk_chown h name owner now p =
        checks h (must EPERM (is_super_user h)) _ p (λ may.
        walk_finds h name _ p
        (λ l ino here q. changed l ino (record (node_at l ino) { uid = owner % 256; gid = owner / 256; modtime = now }) here q))

    -- 18, stat, and 28, fstat
    pub walk_stat : (h : Handed) (name at : ℕ) → P h → Q (stat_file h name at)
    walk_stat h name at p = walk_finds h name (λ l ino. tells_status l ino at) p (λ l ino here q. walk_status l ino at q)

    pub walk_stat_open : (h : Handed) (at : ℕ) → P h → Q (stat_open h at)
    walk_stat_open h at p = checks h (open_entry h (r0 h)) _ p (λ entry. walk_status h (file_of h entry).ino at p)

    -- 19, seek
    pub walk_seek : (h : Handed) (offset mode : ℕ) → P h → Q (seek_to h offset mode)
    walk_seek h offset mode p =
        checks h (open_entry h (r0 h)) _ p (λ entry.
        checks h (must ESPIPE (not (file_of h entry).kind.pipe)) _ p (λ may.
        k.done _ (r0 h) (r1 h) (k.offset h entry _ p)))

    -- 21, mount, and 22, umount
    covered : (h : Handed) (device dir : ℕ) → P h → Q (covers device h dir)
    covered h device dir p = by (can_cover h device dir)
      where
        by : (b : Bool) → Q (cond b (names dir (is_done (with_covered h (Some dir)))) (until_end dir (fails h EBUSY)))
        by true =
            k.named dir (is_done (with_covered h (Some dir)))
            (λ here. k.done (with_covered h (Some dir)) (r0 h) (r1 h) (k.covered h (Some dir) p))
        by false = k.lets_go dir (fails h EBUSY) (λ here. k.refused h EBUSY p)

    pub walk_mount : (h : Handed) (special name : ℕ) → P h → Q (mount_on h special name)
    walk_mount h special name p =
        walk_finds h special (λ l node. check l (disk_named l node) (mounts_disk name l)) p (λ l node here q.
        checks l (disk_named l node) (mounts_disk name l) q (λ device.
        walk_named l (find_in l.inodes l.mounts (user_of l.u) l.u.dir (name_at l.image name)) (covers device)
        (finding_counts l.inodes _) (nothing (finding_store l.inodes _)) q (λ m dir r. covered m device dir r)))

    uncovered : (h : Handed) (dir : Option ℕ) → P h → Q (uncovers h dir)
    uncovered h None p = k.refused h EINVAL p
    uncovered h (Some dir) p =
        k.lets_go dir (is_done (with_covered h None)) (λ here. k.done (with_covered h None) (r0 h) (r1 h) (k.covered h None p))

    unmounted : (h : Handed) (device : ℕ) → P h → Q (unmounts h device)
    unmounted h device p =
        checks h (must EINVAL (not ((device == 1) && is_none h.mounts.covered))) _ p (λ mounted.
        checks h (must EBUSY (not (device == 0) && not (is_held h))) _ p (λ free.
        uncovered h h.mounts.covered p))

    pub walk_umount : (h : Handed) (special : ℕ) → P h → Q (umount_off h special)
    walk_umount h special p =
        walk_named h (find_in h.inodes h.mounts (user_of h.u) h.u.dir (name_at h.image special)) unmounts_named
        (finding_counts h.inodes _) (nothing (finding_store h.inodes _)) p (λ l node q.
        let rest : Handed = let_go l node in
        k.named node (check rest (disk_named l node) (unmounts rest)) (λ here.
        let there : P rest = k.inodes l rest.inodes (put_back_counts l.inodes node) (own_key node here (lets_go_there l node)) q in
        checks rest (disk_named l node) (unmounts rest) there (λ device. unmounted rest device there)))

    -- 31, stty, and 32, gtty
    pub walk_stty : (h : Handed) (at : ℕ) → P h → Q (stty_set h at)
    walk_stty h at p =
        walk_terminal h (λ l. check h (need EFAULT (words_at h at)) (sets_modes h l)) p (λ l there.
        checks h (need EFAULT (words_at h at)) (sets_modes h l) p (λ bytes.
        told_by_line h (sets_modes h l bytes).state (r0 h) (r1 h) 0 l false (holds (line_at h l)) (λ none. absurd (cc none)) there p
        (k.typewriter h l (with_modes (line_at h l) (word bytes 0 ∷ word bytes 2 ∷ word bytes 4 ∷ [])).terminal (λ room. omega arith) p)))

    pub walk_gtty : (h : Handed) (at : ℕ) → P h → Q (gtty_get h at)
    walk_gtty h at p = walk_terminal h (λ l. tells_modes h l at) p (λ l there. walk_told h l at (at % 2 == 1) p)

    -- 36, sync
    pub walk_sync : (h : Handed) (now : ℕ) → Both → P h → Q (sync_all h now)
    walk_sync h now both p =
        let after : Handed = with_store h (synced h.inodes.store now) in
        k.named 1 (names (key_on h.inodes.store 1 1) (is_done after)) (λ root.
        k.named (key_on h.inodes.store 1 1) (is_done after) (λ second.
        k.done after (r0 h) (r1 h) (k.inodes h after.inodes (counts_synced h.inodes.store now) (inl both) p)))

    -- 41, dup
    pub walk_dup : (h : Handed) → Moves → P h → Q (dup_file h)
    walk_dup h moves p =
        checks_so h (open_entry h (r0 h)) _ p (λ entry is.
        checks_so h (need EMFILE (free_number h.u.files)) _ p (λ fd number.
        let named = entry_named h (r0 h) entry is in
        subst (λ e. Q (returns (record h { files = with_change h.files e (with_more 1); u = with_number h.u fd (e + 1) }) fd)) (sym named.1)
        (k.done _ fd (r1 h) (k.given h (r0 h) fd named.0 (need_some EMFILE (free_number h.u.files) fd number) moves p))))

    -- 42, pipe
    opens_pipe : (h : Handed) (ino : ℕ) → 1 ≤ ino → ino ≤ key_count h.inodes.store → Here ino → Moves → P h → Q (opens_ends h ino)
    opens_pipe h ino above within here moves p =
        checks_so h (need EMFILE (free_number h.u.files)) _ p (λ fd number.
        checks_so h (need ENFILE (free_entry h.files)) _ p (λ entry free.
        let first : Handed = with_end h ino reading_end fd entry in
        checks_so h (need EMFILE (free_number first.u.files)) _ p (λ next_fd next_number.
        checks_so h (need ENFILE (free_entry first.files)) _ p (λ next_entry next_free.
        k.done _ fd next_fd (k.ends h ino fd entry next_fd next_entry above within
        (need_some EMFILE (free_number h.u.files) fd number) (need_some ENFILE (free_entry h.files) entry free)
        (need_some EMFILE (free_number first.u.files) next_fd next_number)
        (need_some ENFILE (free_entry first.files) next_entry next_free) here moves p)))))

    pub walk_pipe : (h : Handed) (now : ℕ)
        → Touches Here Both h.inodes.store (new_in h.inodes 0 IALLOC (record { uid = 0; gid = 0 }) now).inodes.store → Moves → P h → Q (pipe_new h now)
    walk_pipe h now touches moves p =
        let found : Finding ℕ = new_in h.inodes 0 IALLOC (record { uid = 0; gid = 0 }) now in
        let same : counts found.inodes.store ≡ counts h.inodes.store =
        new_counts h.inodes 0 IALLOC (record { uid = 0; gid = 0 }) now in
        let there : P (with_inodes h found.inodes) = k.inodes h found.inodes same touches p in
        let made : Handed → ℕ → Did = λ l ino. until_end ino (opens_ends l ino) in
        k.named 1 (then_named h found made) (λ root.
        checks_so (with_inodes h found.inodes) found.answer _ there (λ ino is.
        let within = new_within h.inodes IALLOC (record { uid = 0; gid = 0 }) now ino is in
        k.lets_go ino (opens_ends (with_inodes h found.inodes) ino) (λ here.
        opens_pipe (with_inodes h found.inodes) ino within.0
        (subst (λ n. ino ≤ n) (keys_counted h.inodes.store found.inodes.store (sym same)) within.1)
        here moves there)))

    -- A call in which a process slept goes on: its file is there, and in a pipe an end.
    pub walk_resume : (h : Handed) (now : ℕ) → CanResume Few h → Owns Here h → P (without_pending h) → Q (resumes h slot now)
    walk_resume h now can own p = unless_due_walk rest _ p
        (by_call ((h.u.pending == LINE_READ) || (h.u.pending == LINE_WRITE)) (h.u.pending == LINE_READ) (h.u.pending == PIPE_READ) refl)
      where
        rest : Handed
        rest = without_pending h

        call : List ℕ
        call = h.u.call

        line : line_kept rest (slice_index call 0) ≢ 0 → Line (line_kept rest (slice_index call 0))
        line other = k.numbered rest (line_kept rest (slice_index call 0)) other (kept_there rest (node_at rest (file_of rest (slice_index call 0)).ino) other) p

        by_call : (line first third : Bool) → ((h.u.pending == LINE_READ) || (h.u.pending == LINE_WRITE)) ≡ line
            → Q (cond line (lined_on rest (line_kept rest (slice_index call 0)) call first) (piped_on rest slot call now third))
        by_call true true third is =
            walk_reads_line rest (line_kept rest (slice_index call 0)) (slice_index call 0) (slice_index call 1) (slice_index call 2)
            (record { there = can.calling.there; named = can.calling.named; few = omega arith }) line p
        by_call true false third is =
            walk_writes_line rest (line_kept rest (slice_index call 0)) (slice_index call 0) (slice_index call 1) (slice_index call 2) (slice_index call 3) can.few
            (record { there = can.calling.there; named = can.calling.named; few = can.calling.few }) line p
        by_call false first true is =
            walk_reads_pipe rest (slice_index call 0) (slice_index call 1) (slice_index call 2) now (can.pipe is) can.calling.named
            (record { file = own.file; pipe = own.pipe; dir = own.dir }) p
        by_call false first false is =
            walk_writes_pipe rest (slice_index call 0) (slice_index call 1) (slice_index call 2) (slice_index call 3) now (can.pipe is)
            can.calling.named can.calling.few (record { file = own.file; pipe = own.pipe; dir = own.dir }) p
