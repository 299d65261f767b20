use Rattle.std.proofs.Common.{refl, ap, ◌∙◌, arith, ◌≡◌, length, drop}
use Rattle.buf_cache.specs.Blocks.{block_at}
use Rattle.fs_codec.specs.Fields.{super_of}
use Rattle.buf_cache.specs.Cached.{cached_blocks}
use Rattle.fs_blocks.proofs.BlockLemmas.{patched_all, changed_block, set_others}
use Rattle.fs_blocks.proofs.VolumeLemmas.{head_changed, good_volume}
use Rattle.fs_blocks.proofs.volume.write_head.Goals as goal
use Rattle.fs_blocks.proofs.volume.write_head.Goals.{After-change}

here : (c : After-change) → block_at (cached_blocks c.change.new.self) 1 ≡ c.write_super.new.b
here c =
    let d = c.block.ensures.form in
    let same = ap cached_blocks c.block.follows.holds-at-none ∙ c.block.ensures.blocks in
    let long : length (cached_blocks c.block.follows.lender-at-none) ≡ 4872 = ap length same ∙ d.count in
    let block : length (block_at (cached_blocks c.block.follows.lender-at-none) 1) ≡ 512 = ap (λ l. length (block_at l 1)) same ∙ d.whole 1 (omega arith) in
    changed_block _ _ 1 _ c.change.ensures.blocks (omega (arith, long)) ∙ patched_all c.write_super.new.b _ 512 c.write_super.array_long block

pub returns-clause-written : goal.returns-clause-written
returns-clause-written c = ap super_of (here c) ∙ c.write_super.ensures.spelled

pub returns-clause-rest : goal.returns-clause-rest
returns-clause-rest c = ap (drop 416) (here c) ∙ c.write_super.ensures.rest ∙ ap (drop 416) c.block.ensures.value

pub returns-clause-sound : goal.returns-clause-sound
returns-clause-sound c =
    (head_changed (cached_blocks c.args.cache.now) (cached_blocks c.change.new.self) c.args.head.now _ c.requires c.see_fields.ensures refl refl refl refl (good_volume _ _ c.requires).ninode
    (λ k h. set_others _ _ 1 _ c.change.ensures.blocks k h ∙ ap (λ l. block_at l k) (ap cached_blocks c.block.follows.holds-at-none ∙ c.block.ensures.blocks))).1

pub returns-clause-free : goal.returns-clause-free
returns-clause-free c =
    (head_changed (cached_blocks c.args.cache.now) (cached_blocks c.change.new.self) c.args.head.now _ c.requires c.see_fields.ensures refl refl refl refl (good_volume _ _ c.requires).ninode
    (λ k h. set_others _ _ 1 _ c.change.ensures.blocks k h ∙ ap (λ l. block_at l k) (ap cached_blocks c.block.follows.holds-at-none ∙ c.block.ensures.blocks))).0
