use Rattle.std.proofs.Common.{◌≡◌, refl, sym, subst, List, ℕ, false}
use Rattle.buf_cache.specs.Blocks.{block_at}
use Rattle.fs_laws.specs.Sync.{ReadsAlike}
use Rattle.fs_laws.proofs.SyncLemmas.{alike_fault, alike_store}
use Rattle.buf_cache.specs.Cached.{cached_blocks}
use Rattle.fs_blocks.specs.State.{disk_with, IsKept}
use Rattle.fs_blocks.proofs.StoredLemmas.{kept_written}
use Rattle.fs_blocks.specs.declared.volume.Volume.TheInside.{Inside}
use Rattle.fs_blocks.proofs.volume.Volume.sync.Goals as goal
use Rattle.fs_blocks.proofs.volume.Volume.sync.Goals.{After-sync, then-self, else-self}

-- the fields before the cache is written out
inside : (c : After-sync) → IsKept (cached_blocks c.if-self.self-inside.cache) c.if-self.self-inside.head c.if-self.self-inside.changed × (c.if-self.self-inside.changed ≡ false)
inside c =
    let P : Inside → Type 0 = λ x. IsKept (cached_blocks x.cache) x.head x.changed × (x.changed ≡ false) in
    elim c.if-self.branch [
      | then-self w ↦ (let e = w.write_head.ensures in subst P (sym w.self-inside-is) (kept_written _ c.self.inside.head _ c.args.time e.sound c.self.invariant.flags e.head e.written, refl))
      | else-self w ↦ subst P (sym w.self-inside-is) (c.self.invariant, w.if-self.false)
    ]

kept : (c : After-sync) → IsKept (cached_blocks c.sync.new.self) c.if-self.self-inside.head c.if-self.self-inside.changed
kept c = let P : List (List ℕ) → Type 0 = λ l. IsKept l c.if-self.self-inside.head c.if-self.self-inside.changed in subst P (sym c.sync.ensures.blocks) (inside c).0

alike : (c : After-sync) → ReadsAlike (disk_with (cached_blocks c.sync.new.self) c.if-self.self-inside.head) (block_at (cached_blocks c.sync.new.self))
alike c = (kept c).stored (inside c).1

pub invariant_of-self : goal.invariant_of-self
invariant_of-self c = kept c

pub returns-clause-faults : goal.returns-clause-faults
returns-clause-faults c = λ limit. alike_fault limit (disk_with (cached_blocks c.sync.new.self) c.if-self.self-inside.head) (block_at (cached_blocks c.sync.new.self)) (alike c)

pub returns-clause-stands : goal.returns-clause-stands
returns-clause-stands c = λ whole. alike_store (disk_with (cached_blocks c.sync.new.self) c.if-self.self-inside.head) (block_at (cached_blocks c.sync.new.self)) (alike c) whole
