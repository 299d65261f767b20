use Rattle.std.proofs.Common.{◌≡◌, ℕ, List, sym, ◌∙◌, subst, arith}
use Rattle.buf_cache.specs.Blocks.{block_at, blocks_of}
use Rattle.buf_cache.specs.Cached.{cached_blocks}
use Rattle.fs_codec.specs.Held.{addresses}
use Rattle.fs_laws.specs.Chain.{IsSound}
use Rattle.fs_laws.specs.Whole.{IsApart, IsWhole}
use Rattle.fs_laws.proofs.ImageLemmas.{image_short, image_sound, image_whole, image_apart}
use Rattle.fs_laws.proofs.WholeLemmas.{whole_has_none}
use Rattle.fs_blocks.specs.State.{disk}
use Rattle.fs_blocks.proofs.OpenedLemmas.{opened_apart}
use Rattle.file_rows.proofs.file_system.opened.volume_on.Goals as goal
use Rattle.file_rows.proofs.file_system.opened.volume_on.Goals.{In_ok-cache}

pub from_bytes-requires : goal.from_bytes-requires
from_bytes-requires c = image_short c.args.image.now c.requires

cache_is : (c : In_ok-cache) → cached_blocks c.in_ok-cache.cache ≡ blocks_of c.args.image.now
cache_is c = c.in_ok-cache.ensures.blocks ∙ c.in_ok-from_bytes.ensures

pub open_on-volume-requires : goal.open_on-volume-requires
open_on-volume-requires c = let P : List (List ℕ) → Type 0 = λ b. IsSound (block_at b) in subst P (sym (cache_is c)) (image_sound c.args.image.now c.requires)

pub returns : goal.returns
returns c =
    let before = (goal.at.returns c).In_ok-cache in
    let e = c.open_on-volume.ensures in
    let W : List (List ℕ) → Type 0 = λ b. IsWhole (block_at b) in
    record {
      none = whole_has_none (disk c.open_on-volume.result.state) (e.whole (subst W (sym (cache_is before)) (image_whole c.args.image.now c.requires)));
      apart = λ node is holds.
          let P : List (List ℕ) → Type 0 = λ b. IsApart (block_at b) (addresses (block_at b) node) in
          opened_apart (cached_blocks c.in_ok-cache.cache) c.open_on-volume.result.state node c.head-head.ensures.sound.fits e.blocks e.head e.free
          (subst P (sym (cache_is before)) (image_apart c.args.image.now 2 node c.requires (omega arith) (omega arith) is holds));
    }
