use Rattle.buf_cache.specs.Cached.{cached_blocks}
use Rattle.std.proofs.Common.{◌≡◌, false, refl, ap, sym, subst, ◌∙◌, List, ℕ}
use Rattle.buf_cache.specs.Blocks.{block_at}
use Rattle.fs_codec.specs.Disk.{head}
use Rattle.fs_codec.specs.Fields.{super_of}
use Rattle.fs_codec.specs.declared.super_block.SuperBlock.{SuperBlock}
use Rattle.fs_laws.specs.Chain.{free}
use Rattle.fs_laws.specs.Sync.{ReadsAlike}
use Rattle.fs_laws.proofs.SyncLemmas.{alike_back, alike_fault, alike_whole, alike_store}
use Rattle.fs_blocks.specs.State.{disk_with, IsKept, opened}
use Rattle.fs_blocks.proofs.VolumeLemmas.{volume_opened}
use Rattle.fs_blocks.proofs.StoredLemmas.{kept_opened}
use Rattle.fs_blocks.proofs.volume.Volume.open_on.Goals as goal
use Rattle.fs_blocks.proofs.volume.Volume.open_on.Goals.{After-see_fields}

read : (c : After-see_fields) → SuperBlock
read c = c.read_super-head.result

-- what the blocks of the cache are
Opens : List (List ℕ) → SuperBlock → List (List ℕ) → Type 0
Opens cache s blocks =
    (free (disk_with blocks (opened s)) ≡ free (block_at cache)) × IsKept blocks (opened s) false × ReadsAlike (disk_with blocks (opened s)) (block_at cache)

step : (c : After-see_fields) → Opens (cached_blocks c.args.cache) (read c) (cached_blocks c.block.follows.lender-at-none)
unfolding Opens read
step c =
    let is : c.read_super-head.result ≡ head (block_at (cached_blocks c.args.cache)) = c.read_super-head.ensures ∙ ap super_of c.block.ensures.value in
    let v = volume_opened (cached_blocks c.args.cache) (opened c.read_super-head.result) c.requires c.see_fields.ensures (ap (λ (h : SuperBlock). h.i_size) is) (ap (λ (h : SuperBlock). h.f_size) is)
    (ap (λ (h : SuperBlock). h.nfree) is) (ap (λ (h : SuperBlock). h.free) is) (ap (λ (h : SuperBlock). h.ninode) is) in
    let k = kept_opened (cached_blocks c.args.cache) c.read_super-head.result v.1 c.requires v.0 is in
    subst (Opens (cached_blocks c.args.cache) (read c)) (sym (ap cached_blocks c.block.follows.holds-at-none ∙ c.block.ensures.blocks)) (v.0, k, k.stored refl)

alike : (c : After-see_fields) → ReadsAlike (block_at (cached_blocks c.args.cache)) (disk_with (cached_blocks c.block.follows.lender-at-none) (opened c.read_super-head.result))
unfolding Opens read
alike c = alike_back (disk_with (cached_blocks c.block.follows.lender-at-none) (opened c.read_super-head.result)) (block_at (cached_blocks c.args.cache)) (step c).2

pub invariant_of-result : goal.invariant_of-result
unfolding Opens read
invariant_of-result c = (step c).1

pub returns-clause-free : goal.returns-clause-free
unfolding Opens read
returns-clause-free c = (step c).0

pub returns-clause-faults : goal.returns-clause-faults
returns-clause-faults c = λ limit. alike_fault limit (block_at (cached_blocks c.args.cache)) (disk_with (cached_blocks c.block.follows.lender-at-none) (opened c.read_super-head.result)) (alike c)

pub returns-clause-whole : goal.returns-clause-whole
returns-clause-whole c = λ whole. alike_whole (block_at (cached_blocks c.args.cache)) (disk_with (cached_blocks c.block.follows.lender-at-none) (opened c.read_super-head.result)) (alike c) whole

pub returns-clause-stands : goal.returns-clause-stands
returns-clause-stands c = λ whole. alike_store (block_at (cached_blocks c.args.cache)) (disk_with (cached_blocks c.block.follows.lender-at-none) (opened c.read_super-head.result)) (alike c) whole
