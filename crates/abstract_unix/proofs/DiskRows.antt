-- No row of a call on files leaves a wait for the disk.
use Rattle.std.proofs.Common.{◌≡◌, ℕ, true, List, refl, inl, inr, arith}
use Rattle.u_area.specs.declared.layout.TheConstants.{NOTHING_PENDING, LINE_READ, LINE_WRITE, DISK_WAIT}
use Rattle.u_area.specs.Pending.{is_on_files, IsPipeCall}
use Rattle.sys_files.specs.Handed.{Handed}
use Rattle.sys_files.specs.Moving.{resumes}
use Rattle.sys_files.proofs.Walks.{Walks, owns_all, walk_resume}
use Rattle.abstract_unix.specs.declared.calls.FileCall.{FileCall}
use Rattle.abstract_unix.specs.Calls.{file_row}
use Rattle.abstract_unix.proofs.FileRows.{walk_row}
use Rattle.abstract_unix.proofs.PendingRows.{Pends, can_resume}

abbrev pub NoDisk : ℕ → Type 0
NoDisk n = n ≡ DISK_WAIT → ⊥

free : (n : ℕ) → n ≡ NOTHING_PENDING → NoDisk n
free n is disk = absurd (omega (arith, is, disk))

in_pipe : (n : ℕ) → IsPipeCall n → NoDisk n
in_pipe n (inl three) disk = absurd (omega (arith, three, disk))
in_pipe n (inr four) disk = absurd (omega (arith, four, disk))

for_keys : NoDisk LINE_READ
for_keys disk = absurd (omega (arith, disk))

for_room : NoDisk LINE_WRITE
for_room disk = absurd (omega (arith, disk))

pub disk_walks : (slot : ℕ)
    → Walks (λ h. h.u.pending ≡ NOTHING_PENDING) (λ d. NoDisk d.state.u.pending) (λ count. Unit {0}) (λ ino. Unit {0}) (λ line. Unit {0}) (λ key. Unit {0}) (Unit {0}) (Unit {0})
    slot
disk_walks slot = record {
  refused = λ h e p. free h.u.pending p;
  done = λ h a b p. free h.u.pending p;
  lets_go = λ ino d c. c tt;
  named = λ ino d c. c tt;
  waits = λ h l entry at count calling line p. for_keys;
  waits_for_room = λ h l entry at count done calling line p. for_room;
  waits_in_pipe = λ h chan pending entry at count left which of awaits p. in_pipe pending which;
  tells = λ entries d few all none c. c;
  lets_out = λ h l front back d few first second p none c. c;
  showing = λ l line bytes count d long few c. c;
  inodes = λ h inodes same touches p. p;
  made = λ h dir mode user now here p. p;
  opened = λ h ino kind fd entry plain number none here moves p. p;
  ends = λ h ino fd entry next_fd next_entry above within number none next_number next_none here moves p. p;
  given = λ h fd next named number moves p. p;
  offset = λ h entry offset p. p;
  dropped = λ h fd named moves p. p;
  marked = λ h pipe p. p;
  gone = λ h ino none p. p;
  known = λ h entry is p. (tt, tt);
  numbered = λ h l other there p. tt;
  typewriter = λ h l t kept p. p;
  covered = λ h covered p. p;
  enters = λ h dir here moves p. p;
  terminal = λ h tty p. p;
  signalled = λ h p. p;
  stored = λ h m same p. p;
}

pub row_no_disk : (call : FileCall) (h : Handed) (slot : ℕ) (args : List ℕ) (now : ℕ) → h.u.pending ≡ NOTHING_PENDING
    → NoDisk (file_row call h slot args now).state.u.pending
row_no_disk call h slot args now is = walk_row (disk_walks slot) call h args now tt (λ moves. tt) (λ both. tt) (owns_all h) is

pub resume_no_disk : (h : Handed) (slot now : ℕ) → is_on_files h.u.pending ≡ true → Pends h
    → NoDisk (resumes h slot now).state.u.pending
resume_no_disk h slot now on pends = walk_resume (disk_walks slot) h now (can_resume h on pends) (owns_all h) refl
