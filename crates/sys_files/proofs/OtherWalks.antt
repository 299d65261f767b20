-- A call that keeps to a disk leaves the store of the other one alone: one walk over the rows, for what is read off the stores.
use Rattle.std.proofs.Common.{◌≡◌, ◌<◌, ◌≤◌, ◌∙◌, ℕ, true, List, ◌∷◌, length, Option, Some, None, unwrap_or, refl, sym, ap, subst, arith, inl, inr}
use Rattle.std.specs.List.{All}
use Rattle.std.proofs.lemmas.List.Elements.{All-head, All-tail}
use Rattle.fs_nodes.specs.Keys.{Stores, OnItsDisk, counts, device_of}
use Rattle.fs_nodes.specs.Disks.{Disks}
use Rattle.fs_tree.specs.Finding.{Inodes}
use Rattle.open_files.specs.declared.file.OpenFile.{OpenFile}
use Rattle.open_files.specs.Files.{file_at, times}
use Rattle.sys_files.specs.Handed.{Handed, no_file, file_of, disk_of, with_inodes, let_go}
use Rattle.sys_files.specs.Did.{Did}
use Rattle.sys_files.specs.Frame.{KeepsTo}
use Rattle.sys_files.specs.Making.{new_in}
use Rattle.sys_files.specs.Pipes.{place_of}
use Rattle.sys_files.specs.Piping.{pipe_at}
use Rattle.sys_files.specs.Sound.{IsSound}
use Rattle.sys_files.proofs.NumberLemmas.{free_times}
use Rattle.sys_files.proofs.PipeLemmas.{place_ino}
use Rattle.sys_files.proofs.NodeCounts.{put_back_counts, new_counts}
use Rattle.sys_files.proofs.FrameLemmas.{device_counted, lets_go_there, new_there}
use Rattle.sys_files.proofs.WalkSteps.{Touches, Owns}
use Rattle.sys_files.proofs.Walks.{Walks}

-- Stores of which the same is read off as of others, with as many nodes on each disk, and so many of the root's in the table.
pub record IsApart {X : Type 0} (pick : Stores → X) (base now : Stores) (low : ℕ) : Type 0 where
  pub same : pick now ≡ pick base
  pub counts : counts now ≡ counts base
  pub first : low ≡ base.root.count

-- the keys of a disk
abbrev pub IsOn : ℕ → Stores → ℕ → Type 0
IsOn dev base key = device_of base key ≡ dev

-- a change of the one disk leaves the other one's store
pub on_root : (old new : Stores) (key : ℕ) → device_of old key ≡ 0 → OnItsDisk old new key → new.second ≡ old.second
on_root old new key on only = only.second on

pub on_second : (old new : Stores) (key : ℕ) → device_of old key ≡ 1 → OnItsDisk old new key → new.root ≡ old.root
on_second old new key on only = only.root on

-- What is read off the stores is what every change at a key of the disk leaves.
module _ {X : Type 0} (pick : Stores → X) (dev : ℕ) (base : Stores)
    (law : (old new : Stores) (key : ℕ) → device_of old key ≡ dev → OnItsDisk old new key → pick new ≡ pick old)
  where
    abbrev Apart : Handed → Type 0
    Apart h = IsApart pick base h.inodes.store h.mounts.first

    abbrev Leaves : Did → Type 0
    Leaves d = All (IsOn dev base) d.named → Apart d.state

    changed_apart : (h : Handed) (inodes : Inodes) (key : ℕ) → IsOn dev base key → counts inodes.store ≡ counts h.inodes.store
        → OnItsDisk h.inodes.store inodes.store key → Apart h → Apart (with_inodes h inodes)
    changed_apart h inodes key here same only p = record {
      same = law h.inodes.store inodes.store key (device_counted h.inodes.store base key p.counts ∙ here) only ∙ p.same;
      counts = same ∙ p.counts;
      first = p.first;
    }

    touched_apart : (h : Handed) (inodes : Inodes) → counts inodes.store ≡ counts h.inodes.store
        → Touches (IsOn dev base) ⊥ h.inodes.store inodes.store → Apart h → Apart (with_inodes h inodes)
    touched_apart h inodes same (inl both) p = absurd both
    touched_apart h inodes same (inr (inl is)) p = record { same = ap pick is ∙ p.same; counts = same ∙ p.counts; first = p.first }
    touched_apart h inodes same (inr (inr within)) p = changed_apart h inodes within.key within.here same within.only p

    leaves_named : (ino : ℕ) (d : Did) → (IsOn dev base ino → Leaves d) → All (IsOn dev base) (ino ∷ d.named) → Apart d.state
    leaves_named ino d when named =
        when (All-head (IsOn dev base) ino d.named named) (All-tail (IsOn dev base) ino d.named named)

    pub other_walks : (slot : ℕ)
        → Walks Apart Leaves (λ count. Unit {0}) (λ ino. Unit {0}) (λ line. Unit {0}) (IsOn dev base) (Unit {0}) ⊥ slot
    other_walks slot = record {
      refused = λ h e p named. p;
      done = λ h a b p named. p;
      lets_go = λ ino d when named. changed_apart d.state (let_go d.state ino).inodes ino (All-head (IsOn dev base) ino d.named named)
          (put_back_counts d.state.inodes ino) (lets_go_there d.state ino) (leaves_named ino d when named);
      named = λ ino d when named. leaves_named ino d when named;
      waits = λ h l entry at count calling line p named. p;
      waits_for_room = λ h l entry at count done calling line p named. p;
      waits_in_pipe = λ h chan pending entry at count left which of awaits p named. p;
      tells = λ entries d few all none q named. q named;
      lets_out = λ h l front back d few first second p none q named. q named;
      showing = λ l line bytes count d long few q named. q named;
      inodes = λ h inodes same touches p. touched_apart h inodes same touches p;
      made = λ h dir mode user now here p. changed_apart h (new_in h.inodes (disk_of h dir) mode user now).inodes dir here
          (new_counts h.inodes (disk_of h dir) mode user now)
          (new_there h.inodes h.mounts dir mode user now (p.first ∙ sym (ap (λ (c : Disks ℕ). c.root) p.counts))) p;
      opened = λ h ino kind fd entry plain number free here moves p. p;
      ends = λ h ino fd entry next_fd next_entry above within number free next_number next_free here moves p. p;
      given = λ h fd free named number moves p. p;
      offset = λ h entry offset p. p;
      dropped = λ h fd named moves p. p;
      marked = λ h pipe p. p;
      gone = λ h ino none p. p;
      known = λ h entry is p. (tt, tt);
      numbered = λ h l other there p. tt;
      typewriter = λ h l t kept p. p;
      covered = λ h covered p. p;
      enters = λ h dir here moves p. p;
      terminal = λ h tty p. p;
      signalled = λ h p. p;
      stored = λ h m same p. p;
    }

-- The files of a process that keeps to a disk, and the pipes that they are ends of, are of that disk.
pub keeps_own : (h : Handed) (dev : ℕ) (keys : List ℕ) → IsSound h → KeepsTo h dev keys → Owns (IsOn dev h.inodes.store) h
keeps_own h dev keys sound keeps = record {
  file = λ entry named. file entry named (file_at h.files entry) refl;
  pipe = λ entry is named. pipe entry named (file_at h.files entry) refl is;
  dir = keeps.dir;
}
  where
    file : (entry : ℕ) → 1 ≤ times h.u.files entry → (o : Option OpenFile) → file_at h.files entry ≡ o
        → IsOn dev h.inodes.store (unwrap_or o no_file).ino
    file entry named None is =
        let none = free_times h.files h.u.files entry sound.is_open is in absurd (omega (arith, none, named))
    file entry named (Some x) is = keeps.files entry x (omega (arith, named)) is

    pipe : (entry : ℕ) → 1 ≤ times h.u.files entry → (o : Option OpenFile) → file_at h.files entry ≡ o
        → (unwrap_or o no_file).kind.pipe ≡ true → IsOn dev h.inodes.store (pipe_at h entry).ino
    pipe entry named None is piped = absurd (cc piped)
    pipe entry named (Some x) is piped =
        let same : (file_of h entry).ino ≡ x.ino = ap (λ o. (unwrap_or o no_file).ino) is in
        let low = subst (λ ino. place_of h.pipes ino < length h.pipes) (sym same) (sound.pipes.there entry x is piped) in
        ap (device_of h.inodes.store) (place_ino h.pipes (file_of h entry).ino low ∙ same) ∙ keeps.files entry x (omega (arith, named)) is
