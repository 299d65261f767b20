-- The walk of the row that writes the file `core`; and that row leaves the other disk alone.
use Rattle.std.proofs.Common.{◌≡◌, ◌+◌, ◌==◌, ℕ, Bool, true, false, cond, List, length, refl, ap, ◌∙◌}
use Rattle.std.specs.List.{All}
use Rattle.v6_base.specs.declared.errno.Errno.TheVariants.{EPERM, EACCES}
use Rattle.u_area.specs.Area.{area_bytes}
use Rattle.u_area.specs.declared.layout.TheConstants.{AREA_SIZE}
use Rattle.fs_nodes.specs.Keys.{Stores, OnItsDisk, device_of}
use Rattle.fs_tree.specs.declared.user.Want.TheVariants.{Write}
use Rattle.fs_tree.specs.Finding.{make_in}
use Rattle.fs_tree.specs.Permission.{access}
use Rattle.sys_files.specs.Handed.{Handed, r0, r1, node_at, user_of}
use Rattle.sys_files.specs.Did.{Did, fails, is_done, must, by_made}
use Rattle.sys_files.specs.Making.{writes_entry, with_no_blocks}
use Rattle.sys_files.specs.Core.{core_name, is_plain, writes_parts, writes_over, writes_new, writes_named, core_file}
use Rattle.sys_files.specs.Frame.{KeepsTo, LeavesOther}
use Rattle.sys_files.specs.Sound.{IsSound}
use Rattle.sys_files.proofs.NodeCounts.{making_counts, truncated_counts}
use Rattle.sys_files.proofs.FrameLemmas.{making_store, truncated_there}
use Rattle.sys_files.proofs.WalkSteps.{nothing, own_key}
use Rattle.sys_files.proofs.Walks.{Walks, checks, walk_named, walk_made, walk_writes, walk_node}
use Rattle.sys_files.proofs.OtherWalks.{IsApart, IsOn, on_root, on_second, other_walks}

module _ {P : Handed → Type 0} {Q : Did → Type 0} {Few Known Line Here : ℕ → Type 0} {Moves Both : Type 0} {slot : ℕ}
    (k : Walks P Q Few Known Line Here Moves Both slot) (now : ℕ)
  where
    parts : (h : Handed) (ino : ℕ) → Here ino → P h → Q (writes_parts now h ino)
    parts h ino here p =
        let d : ℕ = AREA_SIZE + length h.image.data in
        walk_writes k h ino 0 (area_bytes h.u) now
        (λ l. writes_entry l ino AREA_SIZE l.image.data now (λ m. writes_entry m ino d m.image.stack now is_done)) here p (λ l q.
        walk_writes k l ino AREA_SIZE l.image.data now (λ m. writes_entry m ino d m.image.stack now is_done) here q (λ m r.
        walk_writes k m ino d m.image.stack now is_done here r (λ n t. k.done n (r0 n) (r1 n) t)))

    over : (h : Handed) (ino : ℕ) → Here ino → P h → Q (writes_over now h ino)
    over h ino here p =
        checks k h (must EACCES (is_plain (node_at h ino).mode)) _ p (λ plain.
        checks k h (access h.marks ino (node_at h ino) (user_of h.u) Write) _ p (λ may.
        parts (with_no_blocks h ino now) ino here
        (k.inodes h (with_no_blocks h ino now).inodes (truncated_counts h.inodes ino now)
        (own_key ino here (truncated_there h.inodes ino now)) p)))

    new : (h : Handed) (dir offset : ℕ) (name : List ℕ) → Here dir → P h → Q (writes_new now h dir offset name)
    new h dir offset name here p = walk_node k h dir offset name 0o666 now (writes_parts now) here p parts

    pub walk_core : (h : Handed) → P h → Q (core_file h now)
    unfolding core_file
    walk_core h p = by (h.u.uid == h.u.ruid)
      where
        by : (b : Bool) → Q (cond b (writes_named now h) (fails h EPERM))
        by true =
            walk_named k h (make_in h.inodes h.mounts h.marks (user_of h.u) h.u.dir core_name)
            (by_made (writes_over now) (writes_new now)) (making_counts h.inodes _) (nothing (making_store h.inodes _)) p
            (λ l answer q. walk_made k l answer (writes_over now) (writes_new now) q over new)
        by false = k.refused h EPERM p

module _ {X : Type 0} (pick : Stores → X) (dev : ℕ)
    (law : (old new : Stores) (key : ℕ) → device_of old key ≡ dev → OnItsDisk old new key → pick new ≡ pick old)
  where
    core_apart : (h : Handed) (now : ℕ) → IsSound h → KeepsTo h dev (core_file h now).named
        → pick (core_file h now).state.inodes.store ≡ pick h.inodes.store
    core_apart h now sound keeps =
        let did : Did = core_file h now in
        let leaves : All (IsOn dev h.inodes.store) did.named → IsApart pick h.inodes.store did.state.inodes.store did.state.mounts.first =
        walk_core (other_walks pick dev h.inodes.store law 0) now h (record { same = refl; counts = refl; first = sound.mounts.first }) in
        (leaves keeps.named).same

pub core_leaves_other : (h : Handed) (now : ℕ) → IsSound h → LeavesOther h (core_file h now)
core_leaves_other h now sound = record {
  second = core_apart (λ (s : Stores). s.second) 0 on_root h now sound;
  root = core_apart (λ (s : Stores). s.root) 1 on_second h now sound;
}

-- the same of what has been done, since the row does it
pub core_left_other : (h new : Handed) (now : ℕ) → IsSound h → new ≡ (core_file h now).state
    → LeavesOther h (record (core_file h now) { state = new })
core_left_other h new now sound is =
    let row = core_leaves_other h now sound in
    record {
      second = λ keeps. ap (λ (x : Handed). x.inodes.store.second) is ∙ row.second keeps;
      root = λ keeps. ap (λ (x : Handed). x.inodes.store.root) is ∙ row.root keeps;
    }
