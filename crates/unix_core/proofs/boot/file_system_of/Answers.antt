use Rattle.std.proofs.Common.{◌≡◌, ◌∙◌, ◌+◌, ℕ, List, slice_index, sym, ap, subst}
use Rattle.buf_cache.specs.Blocks.{block_at, blocks_of}
use Rattle.buf_cache.specs.Cached.{Cached, cached_blocks, used}
use Rattle.fs_codec.specs.Fields.{super_of}
use Rattle.fs_blocks.specs.State.{opened}
use Rattle.fs_laws.specs.Chain.{IsSound}
use Rattle.fs_laws.proofs.ImageLemmas.{image_short, image_whole}
use Rattle.unix_core.proofs.BootLemmas.{volume_sound, volume_store, volume_stamp, alone, none_of}
use Rattle.unix_core.proofs.boot.file_system_of.Goals as goal

pub from_bytes-requires : goal.from_bytes-requires
from_bytes-requires c = image_short c.args.image.now c.requires

cache_is : (c : goal.In_ok-cache) → cached_blocks c.in_ok-cache.cache ≡ blocks_of c.args.image.now
cache_is c = c.in_ok-cache.ensures.blocks ∙ c.in_ok-disk.ensures

pub open_on-volume-requires : goal.open_on-volume-requires
open_on-volume-requires c = subst (λ l. IsSound (block_at l)) (sym (cache_is c)) (image_whole c.args.image.now c.requires).sound

opened_is : (c : goal.After-head) → c.open_on-volume.result.state.blocks ≡ blocks_of c.args.image.now
opened_is c = c.open_on-volume.ensures.blocks ∙ c.in_ok-cache.ensures.blocks ∙ c.in_ok-disk.ensures

pub new-nodes-requires : goal.new-nodes-requires
new-nodes-requires c = record { sound = volume_sound c.args.image.now c.requires c.open_on-volume.result.state (opened_is c) c.open_on-volume.ensures.clean c.head.ensures.stored }

pub returns-clause-store : goal.returns-clause-store
returns-clause-store c =
    c.take_root.ensures.store ∙ c.new-nodes.ensures.store
    ∙ ap alone (volume_store c.args.image.now c.requires c.open_on-volume.result.state (c.open_on-volume.ensures.blocks ∙ c.in_ok-cache.ensures.blocks ∙ c.in_ok-disk.ensures)
    c.open_on-volume.ensures.clean c.head.ensures.stored)

pub take_root-requires : goal.take_root-requires
take_root-requires c = record {
  none = λ ino. ap (λ (l : List ℕ). slice_index l ino) c.new-nodes.ensures.none ∙ none_of (c.new-nodes.result.store.root.count + 1) ino;
}

pub returns-clause-blocks : goal.returns-clause-blocks
returns-clause-blocks c = c.take_root.ensures.blocks ∙ c.new-nodes.ensures.blocks ∙ ap alone (c.open_on-volume.ensures.blocks ∙ c.in_ok-cache.ensures.blocks ∙ c.in_ok-disk.ensures)

pub returns-clause-time : goal.returns-clause-time
returns-clause-time c =
    let is = c.open_on-volume.ensures in
    ap (λ (h : _). h.time) c.head.ensures.head
    ∙ volume_stamp c.args.image.now c.requires c.open_on-volume.result.state (is.blocks ∙ c.in_ok-cache.ensures.blocks ∙ c.in_ok-disk.ensures) is.clean c.head.ensures.stored
    (is.head ∙ ap (λ l. opened (super_of (block_at l 1))) (c.in_ok-cache.ensures.blocks ∙ c.in_ok-disk.ensures))

pub returns-clause-stored : goal.returns-clause-stored
unfolding used
returns-clause-stored c =
    let blocks_is = c.new-nodes.ensures.blocks ∙ ap alone (c.open_on-volume.ensures.blocks ∙ c.in_ok-cache.ensures.blocks ∙ c.in_ok-disk.ensures) in
    let stored_is = c.new-nodes.ensures.stored
    ∙ ap alone (c.open_on-volume.ensures.stored ∙ ap (λ (x : Cached). (used x 1).disk) c.in_ok-cache.ensures.cached ∙ c.in_ok-disk.ensures) in
    c.take_root.ensures.stored (stored_is ∙ sym blocks_is) ∙ blocks_is
