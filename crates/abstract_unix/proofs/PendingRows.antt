-- What a call on files leaves of the call in which its process waits: who waits has a number for its file.
use Rattle.std.proofs.Common.{◌≡◌, ◌≤◌, ◌∙◌, ℕ, Bool, true, false, List, Option, Some, None, is_some, slice_index, refl, inl, inr, arith, [], ap}
use Rattle.std.specs.Prelude.{unwrap_or}
use Rattle.v6_base.specs.declared.answer.Answer.{Answer}
use Rattle.v6_base.specs.declared.answer.Answer.TheVariants.{Ret, Fail, Sleep}
use Rattle.open_files.specs.declared.file.OpenFile.{OpenFile}
use Rattle.open_files.specs.Files.{file_at, times}
use Rattle.u_area.specs.declared.layout.TheConstants.{NOTHING_PENDING, LINE_READ, LINE_WRITE}
use Rattle.u_area.specs.declared.area.UArea.{UArea}
use Rattle.u_area.specs.Pending.{is_on_files, IsLineCall, IsPipeCall, IsFileCall}
use Rattle.u_area.proofs.PendingLemmas.{on_files_cases, on_pipe}
use Rattle.sys_files.specs.Handed.{Handed, no_file}
use Rattle.sys_files.specs.Did.{Did, fails}
use Rattle.sys_files.specs.Core.{core_file}
use Rattle.sys_files.specs.Descriptors.{close_all}
use Rattle.sys_files.specs.Moving.{resumes}
use Rattle.abstract_unix.specs.declared.calls.FileCall.{FileCall}
use Rattle.abstract_unix.specs.Calls.{file_row}
use Rattle.abstract_unix.proofs.FileRows.{walk_row}
use Rattle.sys_files.proofs.Walks.{Walks, IsCalling, IsAwaiting, CanResume, owns_all, walk_closes, walk_resume, closes_all}
use Rattle.sys_files.proofs.CoreLemmas.{core_keeps}

pub never_in_call : {P : Type 0} (n : ℕ) → n ≡ NOTHING_PENDING → IsFileCall n → P
never_in_call n free (inl (inl one)) = absurd (omega (arith, free, one))
never_in_call n free (inl (inr two)) = absurd (omega (arith, free, two))
never_in_call n free (inr (inl three)) = absurd (omega (arith, free, three))
never_in_call n free (inr (inr four)) = absurd (omega (arith, free, four))

-- An entry is in use, of a pipe where the call is one's, and one of these numbers at least names it.
pub record HasFile (files : List (Option OpenFile)) (mine : List ℕ) (pending entry : ℕ) : Type 0 where
  pub file : OpenFile
  pub there : file_at files entry ≡ Some file
  pub pipe : IsPipeCall pending → file.kind.pipe ≡ true
  pub named : 1 ≤ times mine entry

-- Who waits in a call on an open file has a number for it, and no more bytes are done, or left, than there were.
pub record IsAtFile (files : List (Option OpenFile)) (u : UArea) : Type 0 where
  pub end : HasFile files u.files u.pending (slice_index u.call 0)
  pub left : slice_index u.call 3 ≤ slice_index u.call 2

abbrev pub Pends : Handed → Type 0
Pends h = IsFileCall h.u.pending → IsAtFile h.files h.u

-- a call whose answer is that its process sleeps
abbrev pub is_sleep : Answer → Bool
is_sleep (Ret a b) = false
is_sleep (Fail e) = false
is_sleep (Sleep pri chan) = true

-- What a call leaves: who waits has a number for its file, and who doesn't sleep waits for nothing.
pub record Holds (d : Did) : Type 0 where
  pub pends : Pends d.state
  pub user : is_sleep d.answer ≡ false → d.state.u.pending ≡ NOTHING_PENDING

holds_free : (d : Did) → d.state.u.pending ≡ NOTHING_PENDING → Holds d
holds_free d free = record { pends = never_in_call d.state.u.pending free; user = λ awake. free }

never_in_pipe_on_line : {P : Type 0} (n : ℕ) → IsLineCall n → IsPipeCall n → P
never_in_pipe_on_line n (inl one) (inl three) = absurd (omega (arith, one, three))
never_in_pipe_on_line n (inl one) (inr four) = absurd (omega (arith, one, four))
never_in_pipe_on_line n (inr two) (inl three) = absurd (omega (arith, two, three))
never_in_pipe_on_line n (inr two) (inr four) = absurd (omega (arith, two, four))

-- An awaited end is one of the process,
end_awaited : (h : Handed) (pending entry count left : ℕ) → IsAwaiting h entry count left → HasFile h.files h.u.files pending entry
end_awaited h pending entry count left awaits = by (file_at h.files entry) refl awaits.pipe
  where
    by : (o : Option OpenFile) → file_at h.files entry ≡ o → (unwrap_or o no_file).kind.pipe ≡ true
        → HasFile h.files h.u.files pending entry
    by None is e = absurd (cc e)
    by (Some file) is e = record { file = file; there = is; pipe = λ on. e; named = awaits.named }

-- and so is the file of a line.
file_called : (h : Handed) (pending entry count left : ℕ) → IsLineCall pending → IsCalling h entry count left
    → HasFile h.files h.u.files pending entry
file_called h pending entry count left on calling = by (file_at h.files entry) refl calling.there
  where
    by : (o : Option OpenFile) → file_at h.files entry ≡ o → is_some o ≡ true → HasFile h.files h.u.files pending entry
    by None is e = absurd (cc e)
    by (Some file) is e = record { file = file; there = is; pipe = λ piped. never_in_pipe_on_line pending on piped; named = calling.named }

-- Each row of a call on files leaves it so, of a process that waits for nothing.
pending_walks : (slot : ℕ)
    → Walks (λ h. h.u.pending ≡ NOTHING_PENDING) Holds (λ count. Unit {0}) (λ ino. Unit {0}) (λ line. Unit {0}) (λ key. Unit {0}) (Unit {0}) (Unit {0}) slot
pending_walks slot = record {
  refused = λ h e free. holds_free (fails h e) free;
  done = λ h a b free. holds_free (record { answer = Ret a b; state = h; items = []; named = [] }) free;
  lets_go = λ ino d when. let holds = when tt in record { pends = holds.pends; user = holds.user };
  named = λ ino d when. let holds = when tt in record { pends = holds.pends; user = holds.user };
  waits = λ h l entry at count calling line free. record {
    pends = λ waits. record { end = file_called h LINE_READ entry count 0 (inl refl) calling; left = calling.few };
    user = λ awake. absurd (cc awake);
  };
  waits_for_room = λ h l entry at count done calling line free. record {
    pends = λ waits. record { end = file_called h LINE_WRITE entry count done (inr refl) calling; left = calling.few };
    user = λ awake. absurd (cc awake);
  };
  waits_in_pipe = λ h chan pending entry at count left which of awaits free. record {
    pends = λ waits. record { end = end_awaited h pending entry count left awaits; left = awaits.few };
    user = λ awake. absurd (cc awake);
  };
  tells = λ entries d few all none holds. record { pends = holds.pends; user = holds.user };
  lets_out = λ h l front back d few first second free none holds. record { pends = holds.pends; user = holds.user };
  showing = λ l line bytes count d long few holds. record { pends = holds.pends; user = holds.user };
  inodes = λ h inodes same touches free. free;
  made = λ h dir mode user now here free. free;
  opened = λ h ino kind fd entry plain number none here moves free. free;
  ends = λ h ino fd entry next_fd next_entry above within number none next_number next_none here moves free. free;
  given = λ h fd next named number moves free. free;
  offset = λ h entry offset free. free;
  dropped = λ h fd named moves free. free;
  marked = λ h pipe free. free;
  gone = λ h ino none free. free;
  known = λ h entry is free. (tt, tt);
  numbered = λ h l other there free. tt;
  typewriter = λ h l t kept free. free;
  covered = λ h covered free. free;
  enters = λ h dir here moves free. free;
  terminal = λ h tty free. free;
  signalled = λ h free. free;
  stored = λ h m same free. free;
}

-- A call on files of a process in user mode.
row_holds : (call : FileCall) (h : Handed) (slot : ℕ) (args : List ℕ) (now : ℕ) → h.u.pending ≡ NOTHING_PENDING
    → Holds (file_row call h slot args now)
row_holds call h slot args now free = walk_row (pending_walks slot) call h args now tt (λ moves. tt) (λ both. tt) (owns_all h) free

pub row_pends : (call : FileCall) (h : Handed) (slot : ℕ) (args : List ℕ) (now : ℕ) → h.u.pending ≡ NOTHING_PENDING
    → Pends (file_row call h slot args now).state
row_pends call h slot args now free = (row_holds call h slot args now free).pends

-- a call that comes to an answer waits for nothing
pub row_user : (call : FileCall) (h : Handed) (slot : ℕ) (args : List ℕ) (now : ℕ) → h.u.pending ≡ NOTHING_PENDING
    → is_sleep (file_row call h slot args now).answer ≡ false
    → (file_row call h slot args now).state.u.pending ≡ NOTHING_PENDING
row_user call h slot args now free awake = (row_holds call h slot args now free).user awake

-- A process goes on with a call on files: its file is there, and an end where the call is a pipe's.
pub can_resume : (h : Handed) → is_on_files h.u.pending ≡ true → Pends h → CanResume (λ count. Unit {0}) h
can_resume h on pends =
    let which = on_files_cases h.u.pending on in
    let held = pends which in
    record {
      calling = record { there = ap is_some held.end.there; named = held.end.named; few = held.left };
      pipe = λ other. ap (λ o. (unwrap_or o no_file).kind.pipe) held.end.there ∙ held.end.pipe (on_pipe h.u.pending which other);
      few = tt;
    }

resume_holds : (h : Handed) (slot now : ℕ) → is_on_files h.u.pending ≡ true → Pends h → Holds (resumes h slot now)
resume_holds h slot now on pends = walk_resume (pending_walks slot) h now (can_resume h on pends) (owns_all h) refl

pub resume_pends : (h : Handed) (slot now : ℕ) → is_on_files h.u.pending ≡ true → Pends h → Pends (resumes h slot now).state
resume_pends h slot now on pends = (resume_holds h slot now on pends).pends

pub resume_user : (h : Handed) (slot now : ℕ) → is_on_files h.u.pending ≡ true → Pends h
    → is_sleep (resumes h slot now).answer ≡ false
    → (resumes h slot now).state.u.pending ≡ NOTHING_PENDING
resume_user h slot now on pends awake = (resume_holds h slot now on pends).user awake

-- Files that are closed, and the file core: the process waits for nothing.
pub close_user : (h : Handed) → h.u.pending ≡ NOTHING_PENDING → (close_all h).state.u.pending ≡ NOTHING_PENDING
close_user h free =
    closes_all (λ c. c.state.u.pending ≡ NOTHING_PENDING)
    (λ c fd named is. (walk_closes (pending_walks 0) c.state fd 0 0 named tt tt is).user refl) h free

pub core_user : (h : Handed) (now : ℕ) → h.u.pending ≡ NOTHING_PENDING → (core_file h now).state.u.pending ≡ NOTHING_PENDING
core_user h now free = (core_keeps (λ l. l.u.pending ≡ NOTHING_PENDING) (λ l inodes same is. is) h now free).state

pub close_pends : (h : Handed) → h.u.pending ≡ NOTHING_PENDING → Pends (close_all h).state
close_pends h free = never_in_call (close_all h).state.u.pending (close_user h free)

pub core_pends : (h : Handed) (now : ℕ) → h.u.pending ≡ NOTHING_PENDING → Pends (core_file h now).state
core_pends h now free = never_in_call (core_file h now).state.u.pending (core_user h now free)
