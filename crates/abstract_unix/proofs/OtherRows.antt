-- A call on files leaves the disk alone that nothing it has to do with is on. `sync` writes both, and a pipe is on the root's.
use Rattle.std.proofs.Common.{◌≡◌, ◌≢◌, ◌∙◌, ℕ, true, false, List, refl, sym}
use Rattle.std.specs.List.{All}
use Rattle.std.proofs.lemmas.Bool.{false≢true}
use Rattle.fs_nodes.specs.Keys.{Stores, OnItsDisk, device_of}
use Rattle.u_area.specs.Pending.{is_on_files}
use Rattle.sys_files.specs.Handed.{Handed}
use Rattle.sys_files.specs.Did.{Did}
use Rattle.sys_files.specs.Frame.{KeepsTo, LeavesOther}
use Rattle.sys_files.specs.Moving.{resumes}
use Rattle.sys_files.specs.Sound.{IsSound}
use Rattle.sys_files.proofs.OtherWalks.{IsApart, IsOn, on_root, on_second, other_walks, keeps_own}
use Rattle.sys_files.proofs.Walks.{walk_resume}
use Rattle.abstract_unix.specs.declared.calls.FileCall.{FileCall}
use Rattle.abstract_unix.specs.declared.calls.FileCall.TheVariants as file
use Rattle.abstract_unix.specs.Calls.{file_row}
use Rattle.abstract_unix.proofs.FileRows.{is_of_both, walk_row}
use Rattle.abstract_unix.proofs.PendingRows.{Pends, can_resume}

module _ {X : Type 0} (pick : Stores → X) (dev : ℕ)
    (law : (old new : Stores) (key : ℕ) → device_of old key ≡ dev → OnItsDisk old new key → pick new ≡ pick old) (h : Handed) (slot now : ℕ)
    (sound : IsSound h)
  where
    at_first : IsApart pick h.inodes.store h.inodes.store h.mounts.first
    at_first = record { same = refl; counts = refl; first = sound.mounts.first }

    row_apart : (call : FileCall) (args : List ℕ) → is_of_both call ≡ false → KeepsTo h dev (file_row call h slot args now).named
        → pick (file_row call h slot args now).state.inodes.store ≡ pick h.inodes.store
    row_apart call args one keeps =
        let did : Did = file_row call h slot args now in
        let leaves : All (IsOn dev h.inodes.store) did.named → IsApart pick h.inodes.store did.state.inodes.store did.state.mounts.first =
        walk_row (other_walks pick dev h.inodes.store law slot) call h args now tt (λ moves. tt) (λ both. false≢true (sym one ∙ both))
        (keeps_own h dev did.named sound keeps) at_first in
        (leaves keeps.named).same

    resume_apart : is_on_files h.u.pending ≡ true → Pends h → KeepsTo h dev (resumes h slot now).named
        → pick (resumes h slot now).state.inodes.store ≡ pick h.inodes.store
    resume_apart on pends keeps =
        let did : Did = resumes h slot now in
        let leaves : All (IsOn dev h.inodes.store) did.named → IsApart pick h.inodes.store did.state.inodes.store did.state.mounts.first =
        walk_resume (other_walks pick dev h.inodes.store law slot) h now (can_resume h on pends) (keeps_own h dev did.named sound keeps) at_first in
        (leaves keeps.named).same

-- the calls on files but these two
pub of_one : (call : FileCall) → call ≢ file.Sync → call ≢ file.Pipe → is_of_both call ≡ false
of_one file.Sync other pipe = absurd (other refl)
of_one file.Pipe sync other = absurd (other refl)
of_one call sync pipe = refl

pub row_leaves_other : (call : FileCall) (h : Handed) (slot : ℕ) (args : List ℕ) (now : ℕ) → IsSound h → call ≢ file.Sync → call ≢ file.Pipe
    → LeavesOther h (file_row call h slot args now)
row_leaves_other call h slot args now sound sync pipe = record {
  second = row_apart (λ (s : Stores). s.second) 0 on_root h slot now sound call args (of_one call sync pipe);
  root = row_apart (λ (s : Stores). s.root) 1 on_second h slot now sound call args (of_one call sync pipe);
}

-- and so does one that goes on after a sleep.
pub resume_leaves_other : (h : Handed) (slot now : ℕ) → IsSound h → is_on_files h.u.pending ≡ true → Pends h
    → LeavesOther h (resumes h slot now)
resume_leaves_other h slot now sound on pends = record {
  second = resume_apart (λ (s : Stores). s.second) 0 on_root h slot now sound on pends;
  root = resume_apart (λ (s : Stores). s.root) 1 on_second h slot now sound on pends;
}
