-- What a call on files leaves of a turn: it shows bytes, wakes, and a signal of its own process alone; the image keeps its
-- size; the process waits in a call exactly where the answer is to sleep; and the pipes that are open have numbers that a channel may
-- have.
use Rattle.std.proofs.Common.{◌≡◌, ◌≢◌, ◌⊎◌, ◌≤◌, ◌<◌, ◌==◌, ◌∙◌, ◌++◌, ℕ, zero, suc, Bool, true, false, cond, List, [], ◌∷◌, length, ℤ, pos, slice_index, refl, sym, ap, subst, inl, inr, arith, map}
use Rattle.std.proofs.lemmas.Bool.{eqb-false}
use Rattle.std.proofs.lemmas.List.{length-set}
use Rattle.std.specs.List.{All}
use Rattle.v6_base.specs.Trace.{Item, Byte, Log, sent, line_bytes, entries_of}
use Rattle.v6_base.specs.declared.answer.Answer.{Answer}
use Rattle.v6_base.specs.declared.answer.Answer.TheVariants.{Ret, Fail, Sleep}
use Rattle.v6_base.specs.declared.entry.Chan.{Chan}
use Rattle.v6_base.specs.declared.entry.Chan.TheVariants.{RunIn, RunOut, Tout, Keys, Show, Wait, Read, Write, Disk, KeysOf, ShowOf}
use Rattle.v6_base.specs.declared.entry.Entry.{Entry}
use Rattle.v6_base.specs.declared.entry.Entry.TheVariants.{Wake, Signal}
use Rattle.u_area.specs.declared.layout.TheConstants.{NOTHING_PENDING, LINE_READ, LINE_WRITE}
use Rattle.u_area.specs.declared.area.UArea.{UArea}
use Rattle.u_area.specs.Pending.{IsPipeCall}
use Rattle.fs_tree.specs.Finding.{Inodes}
use Rattle.open_files.specs.Files.{entry_of, with_more, with_offset}
use Rattle.tty_line.specs.Output.{shows}
use Rattle.lines_eight.specs.Told.{keys_of, show_of}
use Rattle.pick_rules.specs.Fits.{IsSleep}
use Rattle.pick_rules.specs.Ranges.{IsInode, IsLine, IsChannel}
use Rattle.sig_core.specs.declared.numbers.TheConstants.{SIGPIPE}
use Rattle.sys_files.specs.Handed.{Handed, disk_of, line_at, with_inodes, let_go}
use Rattle.sys_files.specs.Did.{Did}
use Rattle.sys_files.specs.Making.{new_in}
use Rattle.sys_files.specs.Descriptors.{Closing, dropped, closes, close_all}
use Rattle.sys_files.specs.Moving.{without_pending, resumes}
use Rattle.sys_files.proofs.Bounds.{IsOfFiles, IsLineOf}
use Rattle.fs_nodes.specs.Keys.{counts, key_count}
use Rattle.fs_nodes.proofs.CountLaws.{keys_counted}
use Rattle.sys_files.proofs.NodeCounts.{put_back_counts, new_counts}
use Rattle.sys_files.proofs.Walks.{IsOfPipe, CanResume, Walks, owns_all, walk_closes, walk_resume, closes_all}
use Rattle.std.proofs.lemmas.List.Elements.{All-head, All-tail}
use Rattle.sys_files.specs.Piping.{words_of}
use Rattle.abstract_unix.specs.Calls.{bytes_from, in_order}
use Rattle.abstract_unix.proofs.PipeNumbers.{HavePipes, end_known, pipes_opened, pipes_change, pipes_left, pipes_marked, pipes_gone, pipes_ends}

-- Items that are bytes, wakes, and the signal of the process of a slot that writes to a pipe which nobody reads.
abbrev pub IsQuiet : ℕ → Entry → Type 0
IsQuiet s e = ((chan : Chan) × (e ≡ Wake chan) × IsChannel chan) ⊎ (e ≡ Signal s SIGPIPE)

abbrev pub AreQuiet : ℕ → List Item → Type 0
AreQuiet s [] = Unit {0}
AreQuiet s (Byte line byte ∷ items) = AreQuiet s items
AreQuiet s (Log e ∷ items) = IsQuiet s e × AreQuiet s items

quiet_append : (s : ℕ) (xs ys : List Item) → AreQuiet s xs → AreQuiet s ys → AreQuiet s (xs ++ ys)
quiet_append s [] ys p q = q
quiet_append s (Byte line byte ∷ xs) ys p q = quiet_append s xs ys p q
quiet_append s (Log e ∷ xs) ys p q = (p.0, quiet_append s xs ys p.1 q)

pub quiet_sent : (s line : ℕ) (bytes : List ℕ) → AreQuiet s (sent line bytes)
quiet_sent s line [] = tt
quiet_sent s line (byte ∷ bytes) = quiet_sent s line bytes

quiet_bytes : (s l count : ℕ) (items : List Item) → AreQuiet s (bytes_from l count items)
quiet_bytes s l zero items = tt
quiet_bytes s l (suc count) items =
    quiet_append s (sent l (line_bytes l items)) (bytes_from (suc l) count items) (quiet_sent s l (line_bytes l items))
    (quiet_bytes s (suc l) count items)

quiet_lines : (s : ℕ) (items : List Item) → AreQuiet s items → AreQuiet s (map Log (entries_of items))
quiet_lines s [] q = tt
quiet_lines s (Byte line byte ∷ items) q = quiet_lines s items q
quiet_lines s (Log e ∷ items) q = (q.0, quiet_lines s items q.1)

pub quiet_in_order : (s : ℕ) (items : List Item) → AreQuiet s items → AreQuiet s (in_order items)
quiet_in_order s items q =
    quiet_append s (bytes_from 0 8 items) (map Log (entries_of items)) (quiet_bytes s 0 8 items) (quiet_lines s items q)

-- the image has the same size
pub record SameSize (old new : UArea) : Type 0 where
  pub «data» : new.data_size ≡ old.data_size
  pub stack : new.stack_size ≡ old.stack_size

-- and the process waits in a call or not as before
pub record SameCall (old new : UArea) : Type 0 where
  pub size : SameSize old new
  pub pending : new.pending ≡ old.pending

pub same_call : (u : UArea) → SameCall u u
same_call u = record { size = record { «data» = refl; stack = refl }; pending = refl }

-- it waits in a call, for a channel
pub record Waits (old new : UArea) (pri : ℤ) (chan : Chan) : Type 0 where
  pub size : SameSize old new
  pub pending : (new.pending == NOTHING_PENDING) ≡ false
  pub at : (s : ℕ) → IsSleep s chan pri
  pub on : IsChannel chan

abbrev pub EndsIn : UArea → UArea → Answer → Type 0
EndsIn old new (Ret r0 r1) = SameCall old new
EndsIn old new (Fail e) = SameCall old new
EndsIn old new (Sleep pri chan) = Waits old new pri chan

-- The numbers of nodes are words, and those of pipes that are open are numbers of inodes.
pub record HasNumbers (h : Handed) : Type 0 where
  pub count : key_count h.inodes.store ≤ 65535
  pub eight : length h.lines ≤ 8
  pub pipes : HavePipes h.files h.pipes

-- So it is in a call, of a process that waits in a call or not as before,
pub record InCalm (old : UArea) (h : Handed) : Type 0 where
  pub same : SameCall old h.u
  pub numbers : HasNumbers h

same_size : {old : UArea} {h : Handed} {pending : ℕ} {call : List ℕ} → InCalm old h
    → SameSize old (record h.u { pending = pending; call = call })
same_size p = record { «data» = p.same.size.data; stack = p.same.size.stack }

same_call_in : {old : UArea} {h : Handed} {numbers : List ℕ} {dir : ℕ} → InCalm old h
    → SameCall old (record h.u { files = numbers; dir = dir })
same_call_in p = record { size = record { «data» = p.same.size.data; stack = p.same.size.stack }; pending = p.same.pending }

pub other_inodes : (h : Handed) (inodes : Inodes) → counts inodes.store ≡ counts h.inodes.store → HasNumbers h
    → HasNumbers (with_inodes h inodes)
other_inodes h inodes same n = record {
  count = subst (λ c. c ≤ 65535) (sym (keys_counted inodes.store h.inodes.store same)) n.count;
  pipes = n.pipes;
  eight = n.eight;
}

dropped_calm : (old : UArea) (h : Handed) (fd : ℕ) → InCalm old h → InCalm old (dropped h fd)
dropped_calm old h fd p = record {
  same = same_call_in p;
  numbers = record { count = p.numbers.count; pipes = pipes_left h (entry_of h.u.files fd) p.numbers.pipes; eight = p.numbers.eight };
}

not_user : (n pending : ℕ) → IsPipeCall pending → n ≡ pending → (n == NOTHING_PENDING) ≡ false
not_user n pending (inl three) is = ap (λ m. m == NOTHING_PENDING) (is ∙ three)
not_user n pending (inr four) is = ap (λ m. m == NOTHING_PENDING) (is ∙ four)

-- and when it has ended.
pub record Calm (old : UArea) (s : ℕ) (did : Did) : Type 0 where
  pub quiet : AreQuiet s did.items
  pub ends : EndsIn old did.state.u did.answer
  pub numbers : HasNumbers did.state

line_quiet : (s : ℕ) (chan : Chan) → IsOfFiles IsInode IsLine chan → IsQuiet s (Wake chan)
line_quiet s RunIn of = absurd of
line_quiet s RunOut of = absurd of
line_quiet s Tout of = absurd of
line_quiet s Keys of = inl (Keys, refl, tt)
line_quiet s (Wait slot) of = absurd of
line_quiet s (Read ino) of = inl (Read ino, refl, of)
line_quiet s (Write ino) of = inl (Write ino, refl, of)
line_quiet s Show of = inl (Show, refl, tt)
line_quiet s (Disk slot) of = absurd of
line_quiet s (KeysOf line) of = inl (KeysOf line, refl, of)
line_quiet s (ShowOf line) of = inl (ShowOf line, refl, of)

lines_quiet : (s : ℕ) (entries : List Entry) → All (IsLineOf IsInode IsLine s) entries → AreQuiet s (map Log entries)
lines_quiet s [] all = tt
lines_quiet s (e ∷ entries) all =
    (by (All-head (IsLineOf IsInode IsLine s) e entries all), lines_quiet s entries (All-tail (IsLineOf IsInode IsLine s) e entries all))
  where
    by : IsLineOf IsInode IsLine s e → IsQuiet s e
    by (inl (chan, is, of)) = subst (IsQuiet s) (sym is) (line_quiet s chan of)
    by (inr is) = inr is

sleeps_so : (old new : UArea) (pending : ℕ) (chan : Chan) → SameSize old new → IsPipeCall pending
    → new.pending ≡ pending → IsOfPipe IsInode chan
    → Waits old new (pos 1) chan
sleeps_so old new pending RunIn same which is of = absurd of
sleeps_so old new pending RunOut same which is of = absurd of
sleeps_so old new pending Tout same which is of = absurd of
sleeps_so old new pending Keys same which is of = absurd of
sleeps_so old new pending (Wait slot) same which is of = absurd of
sleeps_so old new pending Show same which is of = absurd of
sleeps_so old new pending (Disk slot) same which is of = absurd of
sleeps_so old new pending (KeysOf line) same which is of = absurd of
sleeps_so old new pending (ShowOf line) same which is of = absurd of
sleeps_so old new pending (Read ino) same which is of = record {
  size = same;
  pending = not_user new.pending pending which is;
  at = λ s. refl;
  on = of;
}
sleeps_so old new pending (Write ino) same which is of = record {
  size = same;
  pending = not_user new.pending pending which is;
  at = λ s. refl;
  on = of;
}

-- It waits for keys of a line, or for room on it.
waits_for_keys : (old new : UArea) (l : ℕ) → SameSize old new → new.pending ≡ LINE_READ → (l ≢ 0 → IsLine l) → Waits old new (pos 10) (keys_of l)
waits_for_keys old new l same which range = record {
  size = same;
  pending = ap (λ m. m == NOTHING_PENDING) which;
  at = λ s. at (l == 0) s;
  on = on (l == 0) refl;
}
  where
    at : (b : Bool) (s : ℕ) → IsSleep s (cond b Keys (KeysOf l)) (pos 10)
    at true s = refl
    at false s = refl

    on : (b : Bool) → (l == 0) ≡ b → IsChannel (cond b Keys (KeysOf l))
    on true is = tt
    on false other = range (eqb-false l 0 other)

waits_for_show : (old new : UArea) (l : ℕ) → SameSize old new → new.pending ≡ LINE_WRITE → (l ≢ 0 → IsLine l) → Waits old new (pos 20) (show_of l)
waits_for_show old new l same which range = record {
  size = same;
  pending = ap (λ m. m == NOTHING_PENDING) which;
  at = λ s. at (l == 0) s;
  on = on (l == 0) refl;
}
  where
    at : (b : Bool) (s : ℕ) → IsSleep s (cond b Show (ShowOf l)) (pos 20)
    at true s = refl
    at false s = refl

    on : (b : Bool) → (l == 0) ≡ b → IsChannel (cond b Show (ShowOf l))
    on true is = tt
    on false other = range (eqb-false l 0 other)

-- Each row of a call on files is calm.
pub calm_walks : (old : UArea) (s : ℕ) → Walks (InCalm old) (Calm old s) (λ count. Unit {0}) IsInode IsLine (λ key. Unit {0}) (Unit {0}) (Unit {0}) s
calm_walks old s = record {
  refused = λ h e p. record { quiet = tt; ends = p.same; numbers = p.numbers };
  done = λ h a b p. record { quiet = tt; ends = p.same; numbers = p.numbers };
  lets_go = λ ino d when. let c = when tt in record {
    quiet = c.quiet;
    ends = c.ends;
    numbers = other_inodes d.state (let_go d.state ino).inodes (put_back_counts d.state.inodes ino) c.numbers;
  };
  named = λ ino d when. let c = when tt in record { quiet = c.quiet; ends = c.ends; numbers = c.numbers };
  waits = λ h l entry at count calling line p. record {
    quiet = tt;
    ends = waits_for_keys old (record h.u { pending = LINE_READ; call = entry ∷ at ∷ count ∷ 0 ∷ 0 ∷ 0 ∷ 0 ∷ 0 ∷ [] }) l (same_size p) refl line;
    numbers = record { count = p.numbers.count; pipes = p.numbers.pipes; eight = p.numbers.eight };
  };
  waits_for_room = λ h l entry at count done calling line p. record {
    quiet = tt;
    ends = waits_for_show old (record h.u { pending = LINE_WRITE; call = entry ∷ at ∷ count ∷ done ∷ 0 ∷ 0 ∷ 0 ∷ 0 ∷ [] }) l (same_size p) refl line;
    numbers = record { count = p.numbers.count; pipes = p.numbers.pipes; eight = p.numbers.eight };
  };
  waits_in_pipe = λ h chan pending entry at count left which of awaits p. record {
    quiet = tt;
    ends = sleeps_so old (record h.u { pending = pending; call = words_of entry at count left }) pending chan (same_size p) which refl of;
    numbers = record { count = p.numbers.count; pipes = p.numbers.pipes; eight = p.numbers.eight };
  };
  tells = λ entries d few all none c. record { quiet = lines_quiet s entries all; ends = c.ends; numbers = c.numbers };
  lets_out = λ h l front back d few first second p none c. record {
    quiet = quiet_append s (map Log front) (sent l (line_at h l).output ++ map Log back) (lines_quiet s front first)
        (quiet_append s (sent l (line_at h l).output) (map Log back) (quiet_sent s l (line_at h l).output) (lines_quiet s back second));
    ends = c.ends;
    numbers = c.numbers;
  };
  showing = λ l line bytes count d long few c. record { quiet = quiet_sent s l (shows line bytes); ends = c.ends; numbers = c.numbers };
  inodes = λ h inodes same touches p. record { same = p.same; numbers = other_inodes h inodes same p.numbers };
  made = λ h dir mode user now here p. record {
    same = p.same;
    numbers = other_inodes h (new_in h.inodes (disk_of h dir) mode user now).inodes
        (new_counts h.inodes (disk_of h dir) mode user now) p.numbers;
  };
  opened = λ h ino kind fd entry plain number free here moves p. record {
    same = same_call_in p;
    numbers = record { count = p.numbers.count; pipes = pipes_opened h.files h.pipes entry ino kind plain p.numbers.pipes; eight = p.numbers.eight };
  };
  ends = λ h ino fd entry next_fd next_entry above within number free next_number next_free here moves p. record {
    same = same_call_in p;
    numbers = record {
      count = p.numbers.count;
      pipes = pipes_ends h.files h.pipes ino entry next_entry
          (above, (let few = p.numbers.count in omega (arith, within, few))) p.numbers.pipes;
      eight = p.numbers.eight;
    };
  };
  given = λ h fd free named number moves p. record {
    same = same_call_in p;
    numbers = record {
      count = p.numbers.count;
      pipes = pipes_change h.files h.pipes (entry_of h.u.files fd) (with_more 1) (λ file. refl) (λ file. refl) p.numbers.pipes;
      eight = p.numbers.eight;
    };
  };
  offset = λ h entry offset p. record {
    same = p.same;
    numbers = record {
      count = p.numbers.count;
      pipes = pipes_change h.files h.pipes entry (with_offset offset) (λ file. refl) (λ file. refl) p.numbers.pipes;
      eight = p.numbers.eight;
    };
  };
  dropped = λ h fd named moves p. dropped_calm old h fd p;
  marked = λ h pipe p. record {
    same = p.same;
    numbers = record { count = p.numbers.count; pipes = pipes_marked h.files h.pipes pipe p.numbers.pipes; eight = p.numbers.eight };
  };
  gone = λ h ino none p. record {
    same = p.same;
    numbers = record { count = p.numbers.count; pipes = pipes_gone h.files h.pipes ino none p.numbers.pipes; eight = p.numbers.eight };
  };
  known = λ h entry is p. end_known h entry p.numbers.pipes is;
  numbered = λ h l other there p. (omega (arith, other), (let few = p.numbers.eight in omega (arith, few, there)));
  typewriter = λ h l t kept p. record {
    same = p.same;
    numbers = record {
      count = p.numbers.count;
      pipes = p.numbers.pipes;
      eight = subst (λ n. n ≤ 8) (sym (length-set h.lines l t)) p.numbers.eight;
    };
  };
  covered = λ h covered p. record { same = p.same; numbers = record { count = p.numbers.count; pipes = p.numbers.pipes; eight = p.numbers.eight } };
  enters = λ h dir here moves p. record { same = same_call_in p; numbers = record { count = p.numbers.count; pipes = p.numbers.pipes; eight = p.numbers.eight } };
  terminal = λ h tty p. record { same = p.same; numbers = record { count = p.numbers.count; pipes = p.numbers.pipes; eight = p.numbers.eight } };
  signalled = λ h p. record { same = p.same; numbers = record { count = p.numbers.count; pipes = p.numbers.pipes; eight = p.numbers.eight } };
  stored = λ h m same p. record { same = p.same; numbers = record { count = p.numbers.count; pipes = p.numbers.pipes; eight = p.numbers.eight } };
}

-- A call in which a process slept goes on: until it sleeps again no call is waited in.
pub resume_calm : (h : Handed) (s now : ℕ) → CanResume (λ count. Unit {0}) h → HasNumbers h
    → Calm (without_pending h).u s (resumes h s now)
resume_calm h s now has numbers =
    walk_resume (calm_walks (without_pending h).u s) h now has (owns_all h)
    (record { same = same_call (without_pending h).u; numbers = record { count = numbers.count; pipes = numbers.pipes; eight = numbers.eight } })

-- Numbers let their files go.
pub record CalmClosing (old : UArea) (s : ℕ) (c : Closing) : Type 0 where
  pub quiet : AreQuiet s c.items
  pub calm : InCalm old c.state

closes_calm : (old : UArea) (s : ℕ) (h : Handed) (fd : ℕ) → 0 < slice_index h.u.files fd → InCalm old h
    → CalmClosing old s (closes h fd)
closes_calm old s h fd named p =
    let c : Calm old s (record { answer = Ret 0 0; state = (closes h fd).state; items = (closes h fd).items; named = [] }) =
    walk_closes (calm_walks old s) h fd 0 0 named tt tt p in
    record { quiet = c.quiet; calm = record { same = c.ends; numbers = c.numbers } }

-- all numbers of a process, one after another
pub close_all_calm : (h : Handed) (s : ℕ) → HasNumbers h → CalmClosing h.u s (close_all h)
close_all_calm h s numbers =
    closes_all (CalmClosing h.u s) (λ c fd named k.
    let next = closes_calm h.u s c.state fd named k.calm in
    record { quiet = quiet_append s c.items (closes c.state fd).items k.quiet next.quiet; calm = next.calm }) h
    (record { quiet = tt; calm = record { same = same_call h.u; numbers = numbers } })
