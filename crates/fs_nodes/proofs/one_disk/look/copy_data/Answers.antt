use Rattle.std.proofs.Common.{◌≡◌, true, sym, ap, ◌∙◌}
use Rattle.fs_codec.specs.Fields.{fields_of}
use Rattle.fs_codec.specs.Modes.{holds_blocks}
use Rattle.fs_blocks.specs.State.{State}
use Rattle.buf_cache.specs.Blocks.{block_at}
use Rattle.fs_nodes.proofs.LookLemmas.{address_below, data_read}
use Rattle.fs_blocks.proofs.LateLemmas.{late_stays, late_again}
use Rattle.fs_nodes.proofs.one_disk.look.copy_data.Goals as goal

pub copy_block-requires : goal.copy_block-requires
copy_block-requires c =
    let holds : holds_blocks c.args.node.now.mode ≡ true = sym c.holds_blocks.ensures ∙ c.if-not-holds_blocks.false in
    address_below c.args.volume.now.state (fields_of c.args.node.now) c.args.n c.address_of-b.result c.see.ensures.sound (c.requires holds) c.see_addresses.ensures c.address_of-b.ensures.value

pub returns-clause-bytes : goal.returns-clause-bytes
returns-clause-bytes c =
    let holds : holds_blocks c.args.node.now.mode ≡ true = sym c.holds_blocks.ensures ∙ c.if-not-holds_blocks.false in
    let e = c.copy_block.ensures in
    data_read c.args.volume.now.state (fields_of c.args.node.now) c.args.n c.address_of-b.result c.copy_block.new.into (c.requires holds) c.see_addresses.ensures holds c.address_of-b.ensures.value e.none
    (λ some. e.some some ∙ ap (λ (s : State). block_at s.blocks c.address_of-b.result) c.address_of-b.ensures.same)

pub returns-then-not-holds_blocks-clause-stored : goal.returns-then-not-holds_blocks-clause-stored
returns-then-not-holds_blocks-clause-stored c = late_stays _ _

pub returns-clause-stored : goal.returns-clause-stored
returns-clause-stored c = late_again _ _ _ _ _ (ap (λ (s : State). s.blocks) c.address_of-b.ensures.same) c.address_of-b.ensures.stored c.copy_block.ensures.stored
