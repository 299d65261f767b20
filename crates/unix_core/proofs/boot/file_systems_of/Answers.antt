use Rattle.std.proofs.Common.{◌≡◌, ◌∙◌, ℕ, List, sym, ap, subst, arith}
use Rattle.buf_cache.specs.Blocks.{block_at, blocks_of}
use Rattle.buf_cache.specs.Cached.{Cached, cached_blocks, used}
use Rattle.fs_codec.specs.Fields.{super_of}
use Rattle.fs_codec.specs.Store.{Store}
use Rattle.fs_codec.specs.Disk.{disk_of}
use Rattle.fs_codec.specs.Stands.{store_of}
use Rattle.fs_codec.specs.declared.layout.TheConstants.{DISK_BLOCKS}
use Rattle.fs_blocks.specs.Store.{store_now}
use Rattle.fs_blocks.specs.State.{opened}
use Rattle.fs_laws.specs.Chain.{IsSound}
use Rattle.fs_laws.proofs.ImageLemmas.{image_short, image_whole}
use Rattle.fs_nodes.proofs.SecondImage.{second_short, second_sound}
use Rattle.unix_core.proofs.BootLemmas.{volume_sound, volume_store, volume_stamp, second_volume_sound, second_volume_store, both}
use Rattle.unix_core.proofs.boot.file_systems_of.Goals as goal
use Rattle.unix_core.proofs.boot.file_systems_of.Goals.{After-open_on}

pub from_bytes-requires : goal.from_bytes-requires
from_bytes-requires c = image_short c.args.image.now c.requires.root

cache_is : (c : goal.In_ok-cache) → cached_blocks c.in_ok-cache.cache ≡ blocks_of c.args.image.now
cache_is c = c.in_ok-cache.ensures.blocks ∙ c.in_ok-disk.ensures

pub open_on-volume-requires : goal.open_on-volume-requires
open_on-volume-requires c = subst (λ l. IsSound (block_at l)) (sym (cache_is c)) (image_whole c.args.image.now c.requires.root).sound

pub from_bytes-requires-2 : goal.from_bytes-requires-2
from_bytes-requires-2 c = second_short c.args.second.now c.requires.second

cache_is-2 : (c : goal.In_ok-cache-2) → cached_blocks c.in_ok-cache-2.cache ≡ blocks_of c.args.second.now
cache_is-2 c = c.in_ok-cache-2.ensures.blocks ∙ c.in_ok-disk-2.ensures

pub open_on-requires : goal.open_on-requires
open_on-requires c = subst (λ l. IsSound (block_at l)) (sym (cache_is-2 c)) (second_sound c.args.second.now c.requires.second)

-- The first volume, and the second.
first_blocks : (c : After-open_on) → c.open_on-volume.result.state.blocks ≡ blocks_of c.args.image.now
first_blocks c = c.open_on-volume.ensures.blocks ∙ c.in_ok-cache.ensures.blocks ∙ c.in_ok-disk.ensures

first_store : (c : After-open_on) → store_now c.open_on-volume.result.state ≡ store_of (disk_of c.args.image.now)
first_store c = volume_store c.args.image.now c.requires.root c.open_on-volume.result.state (first_blocks c) c.open_on-volume.ensures.clean c.head.ensures.stored

second_store : (c : After-open_on) → store_now c.open_on.result.state ≡ store_of (disk_of c.args.second.now)
second_store c =
    second_volume_store c.args.second.now c.requires.second (cached_blocks c.in_ok-cache-2.cache) c.open_on.result.state
    (c.in_ok-cache-2.ensures.blocks ∙ c.in_ok-disk-2.ensures) c.open_on.ensures.clean c.open_on.ensures.stands

pub new2-nodes-requires-clause-sound : goal.new2-nodes-requires-clause-sound
new2-nodes-requires-clause-sound c = volume_sound c.args.image.now c.requires.root c.open_on-volume.result.state (first_blocks c) c.open_on-volume.ensures.clean c.head.ensures.stored

pub new2-nodes-requires-clause-second : goal.new2-nodes-requires-clause-second
new2-nodes-requires-clause-second c =
    second_volume_sound c.args.second.now c.requires.second (cached_blocks c.in_ok-cache-2.cache) c.open_on.result.state
    (c.in_ok-cache-2.ensures.blocks ∙ c.in_ok-disk-2.ensures) (c.open_on.ensures.faults DISK_BLOCKS)

pub new2-nodes-requires-clause-few : goal.new2-nodes-requires-clause-few
new2-nodes-requires-clause-few c =
    let first = ap (λ (x : Store). x.count) (first_store c) in
    let second = ap (λ (x : Store). x.count) (second_store c) in
    let few = c.requires.few in
    omega (arith, first, second, few)

pub returns-clause-store : goal.returns-clause-store
returns-clause-store c =
    let before = (goal.at.returns-clause-store c).After-open_on in
    let first = first_store before in
    let second = second_store before in
    c.take_root.ensures.store ∙ c.new2-nodes.ensures.store ∙ (λ i. both {X = Store} (first i) (second i))

pub returns-clause-blocks : goal.returns-clause-blocks
returns-clause-blocks c =
    let first = first_blocks (goal.at.returns-clause-blocks c).After-open_on in
    let second = c.open_on.ensures.blocks ∙ c.in_ok-cache-2.ensures.blocks ∙ c.in_ok-disk-2.ensures in
    c.take_root.ensures.blocks ∙ c.new2-nodes.ensures.blocks ∙ (λ i. both {X = List (List ℕ)} (first i) (second i))

pub returns-clause-stored : goal.returns-clause-stored
unfolding used
returns-clause-stored c =
    let first = c.open_on-volume.ensures.stored ∙ ap (λ (x : Cached). (used x 1).disk) c.in_ok-cache.ensures.cached ∙ c.in_ok-disk.ensures in
    let second = c.open_on.ensures.stored ∙ ap (λ (x : Cached). (used x 1).disk) c.in_ok-cache-2.ensures.cached ∙ c.in_ok-disk-2.ensures in
    let first_is = first_blocks (goal.at.returns-clause-stored c).After-open_on in
    let second_is = c.open_on.ensures.blocks ∙ c.in_ok-cache-2.ensures.blocks ∙ c.in_ok-disk-2.ensures in
    let blocks_is = c.new2-nodes.ensures.blocks ∙ (λ i. both {X = List (List ℕ)} (first_is i) (second_is i)) in
    c.take_root.ensures.stored ((c.new2-nodes.ensures.stored ∙ (λ i. both {X = List (List ℕ)} (first i) (second i))) ∙ sym blocks_is) ∙ blocks_is

pub returns-clause-time : goal.returns-clause-time
returns-clause-time c =
    let is = c.open_on-volume.ensures in
    ap (λ (h : _). h.time) c.head.ensures.head
    ∙ volume_stamp c.args.image.now c.requires.root c.open_on-volume.result.state (first_blocks (goal.at.returns-clause-time c).After-open_on) is.clean c.head.ensures.stored
    (is.head ∙ ap (λ l. opened (super_of (block_at l 1))) (c.in_ok-cache.ensures.blocks ∙ c.in_ok-disk.ensures))
