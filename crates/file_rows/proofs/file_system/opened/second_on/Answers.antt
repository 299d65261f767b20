use Rattle.std.proofs.Common.{◌≡◌, ℕ, List, sym, ◌∙◌, subst}
use Rattle.buf_cache.specs.Blocks.{block_at, blocks_of}
use Rattle.buf_cache.specs.Cached.{cached_blocks}
use Rattle.fs_laws.specs.Chain.{IsSound}
use Rattle.fs_laws.specs.Whole.{IsWhole}
use Rattle.fs_laws.proofs.WholeLemmas.{whole_has_none}
use Rattle.fs_blocks.specs.State.{disk}
use Rattle.fs_nodes.proofs.SecondImage.{second_short, second_sound, second_whole}
use Rattle.file_rows.proofs.file_system.opened.second_on.Goals as goal
use Rattle.file_rows.proofs.file_system.opened.second_on.Goals.{In_ok-cache}

pub from_bytes-requires : goal.from_bytes-requires
from_bytes-requires c = second_short c.args.image.now c.requires

cache_is : (c : In_ok-cache) → cached_blocks c.in_ok-cache.cache ≡ blocks_of c.args.image.now
cache_is c = c.in_ok-cache.ensures.blocks ∙ c.in_ok-from_bytes.ensures

pub open_on-volume-requires : goal.open_on-volume-requires
open_on-volume-requires c =
    let P : List (List ℕ) → Type 0 = λ b. IsSound (block_at b) in
    subst P (sym (cache_is c)) (second_sound c.args.image.now c.requires)

pub returns : goal.returns
returns c =
    let before = (goal.at.returns c).In_ok-cache in
    let W : List (List ℕ) → Type 0 = λ b. IsWhole (block_at b) in
    whole_has_none (disk c.open_on-volume.result.state)
    (c.open_on-volume.ensures.whole (subst W (sym (cache_is before)) (second_whole c.args.image.now c.requires)))
