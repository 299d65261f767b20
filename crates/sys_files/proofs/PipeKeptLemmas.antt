-- A read or a write of a pipe keeps what every call keeps.
use Rattle.std.proofs.Common.{◌≡◌, ◌-◌, ◌+◌, ◌%◌, ℕ, Bool, true, false, cond, pos, List, [], is_some, refl}
use Rattle.v6_base.specs.declared.entry.Chan.{Chan}
use Rattle.v6_base.specs.declared.entry.Chan.TheVariants.{Read, Write}
use Rattle.v6_base.specs.declared.answer.Answer.TheVariants.{Sleep}
use Rattle.v6_base.specs.declared.errno.Errno.TheVariants.{EINTR}
use Rattle.fs_nodes.specs.Keys.{counts}
use Rattle.sys_files.proofs.KeptLemmas.{still_mounts}
use Rattle.u_area.specs.declared.layout.TheConstants.{PIPE_READ, PIPE_WRITE}
use Rattle.pipe_ends.specs.declared.ends.Pipe.{Pipe}
use Rattle.pipe_ends.specs.declared.ends.Piped.{Piped}
use Rattle.pipe_ends.specs.declared.ends.Piped.TheVariants.{Done, Wait, Broken, Error}
use Rattle.pipe_ends.specs.Reads.{PipeRead}
use Rattle.pipe_ends.specs.Writes.{PipeWrite}
use Rattle.sig_core.specs.declared.numbers.TheConstants.{SIGPIPE}
use Rattle.sig_core.specs.Signals.{due, posted}
use Rattle.sys_files.specs.Handed.{Handed}
use Rattle.sys_files.specs.Did.{Did, fails}
use Rattle.sys_files.specs.Pipes.{with_pipe}
use Rattle.sys_files.specs.Piping.{waits_in_pipe, words_of, pipe_at, ends_at, pipe_read, with_pipe_read, ends_read, reads_pipe, pipe_write, with_pipe_write, ends_write, writes_pipe}
use Rattle.sys_files.specs.Sound.{IsSound, IsKept}
use Rattle.sys_files.proofs.StayingLemmas.{stays_there}
use Rattle.sys_files.proofs.PipeLemmas.{pipes_marked}
use Rattle.sys_files.proofs.PipedLemmas.{read_leaves, write_leaves}

-- A pipe has changed, and nothing else that is counted.
pub kept_with_pipe : (old new : Handed) (p : Pipe) → IsSound old → new.files ≡ old.files → new.pipes ≡ with_pipe old.pipes p
    → new.u.files ≡ old.u.files
    → new.u.dir ≡ old.u.dir → new.mounts ≡ old.mounts → new.inodes.references ≡ old.inodes.references
    → counts new.inodes.store ≡ counts old.inodes.store → IsKept old new
kept_with_pipe old new p sound files pipes numbers dir mounts references same = record {
  is_open = rw (files, numbers) sound.is_open;
  numbers = λ entry. rw (files, numbers) refl;
  references = λ i. rw (files, dir, mounts, references) refl;
  counts = same;
  mounts = still_mounts old.mounts new.mounts old.inodes.store new.inodes.store mounts same sound.mounts;
  pipes = rw (files, pipes) (pipes_marked old.files old.pipes p sound.pipes);
  others = rw files (λ entry file is few. stays_there old.files entry file is);
}

-- What the end of a call on a pipe leaves: the parts as they were, or with another call that goes on, or with a signal.
pub record LeavesParts (P : Handed → Type 0) (h : Handed) : Type 0 where
  pub same : P h
  pub waits : (pending : ℕ) (words : List ℕ) → P (record h { u = record h.u { pending = pending; call = words } })
  pub signalled : P (record h { row = posted h.row SIGPIPE })

module _ (P : Handed → Type 0) (h : Handed) (leaves : LeavesParts P h) where
  waits_leaves : (chan : Chan) (pending : ℕ) (words : List ℕ) → P (waits_in_pipe h chan pending words).state
  waits_leaves chan pending words = by (is_some (due h.row h.u)) where
    by : (b : Bool) → P (cond {A = Did} b (fails h EINTR) (record {
      answer = Sleep (pos 1) chan;
      state = record h { u = record h.u { pending = pending; call = words } };
      items = [];
      named = [];
    })).state
    by true = leaves.same
    by false = leaves.waits pending words

  read_ends : (ino entry at count : ℕ) (answer : Piped) → P (ends_read h ino entry at count answer).state
  read_ends ino entry at count (Done n) = leaves.same
  read_ends ino entry at count (Wait left) = waits_leaves (Read ino) PIPE_READ (words_of entry at count 0)
  read_ends ino entry at count Broken = leaves.same
  read_ends ino entry at count (Error e) = leaves.same

  write_ends : (slot ino entry at count : ℕ) (answer : Piped) → P (ends_write h slot ino entry at count answer).state
  write_ends slot ino entry at count (Done n) = leaves.same
  write_ends slot ino entry at count (Wait left) = waits_leaves (Write ino) PIPE_WRITE (words_of entry at count left)
  write_ends slot ino entry at count Broken = leaves.signalled
  write_ends slot ino entry at count (Error e) = leaves.same

-- The call that goes on may be another one to begin with.
module _ (old : Handed) (sound : IsSound old) (pending : ℕ) (words : List ℕ) where
  abbrev begun : Handed
  begun = record old { u = record old.u { pending = pending; call = words } }

  pub pipe_read_kept : (entry at count now : ℕ) → IsKept old (reads_pipe begun entry at count now).state
  pipe_read_kept entry at count now =
      let r : PipeRead = pipe_read begun entry at count now in
      let after : Handed = with_pipe_read begun r in
      let left = (read_leaves begun.inodes.store (ends_at begun entry) (pipe_at begun entry) begun.image at count now).counts in
      read_ends (IsKept old) after (record {
        same = kept_with_pipe old after r.pipe sound refl refl refl refl refl refl left;
        waits = λ pending words. kept_with_pipe old
            (record after { u = record after.u { pending = pending; call = words } }) r.pipe sound refl refl refl refl refl refl
            left;
        signalled = kept_with_pipe old
            (record after { row = posted after.row SIGPIPE }) r.pipe sound refl refl refl refl refl refl left;
      }) (pipe_at begun entry).ino entry at count r.answer

  pub pipe_write_kept : (slot entry at count left now : ℕ) → IsKept old (writes_pipe begun slot entry at count left now).state
  pipe_write_kept slot entry at count left now =
      let w : PipeWrite = pipe_write begun entry at count left now in
      let after : Handed = with_pipe_write begun w in
      let leaves = (write_leaves begun.inodes.store (ends_at begun entry) (pipe_at begun entry) begun.image
      ((at + (count - left)) % 65536) left now).leaves.counts in
      write_ends (IsKept old) after (record {
        same = kept_with_pipe old after w.pipe sound refl refl refl refl refl refl leaves;
        waits = λ pending words. kept_with_pipe old
            (record after { u = record after.u { pending = pending; call = words } }) w.pipe sound refl refl refl refl refl refl
            leaves;
        signalled = kept_with_pipe old
            (record after { row = posted after.row SIGPIPE }) w.pipe sound refl refl refl refl refl refl leaves;
      }) slot (pipe_at begun entry).ino entry at count w.answer
