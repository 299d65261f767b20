use Rattle.std.proofs.Common.{◌≡◌, ◌+◌, take, slice_set, ap, ◌∙◌, arith}
use Rattle.fs_codec.specs.declared.super_block.SuperBlock.{SuperBlock}
use Rattle.fs_nodes.specs.one_disk.Table.{seen}
use Rattle.fs_nodes.proofs.SeenLemmas.{volume_seen}
use Rattle.fs_nodes.proofs.HeldLemmas.{over}
use Rattle.fs_nodes.proofs.NumbersLemmas.{pushed_room, pushed_full}
use Rattle.fs_nodes.proofs.one_disk.numbers.push_number.Goals as goal

pub returns-then-head-lt-LIST_SIZE-clause-store : goal.returns-then-head-lt-LIST_SIZE-clause-store
returns-then-head-lt-LIST_SIZE-clause-store c =
    let v = (seen c.args.volume.now.state c.args.table.now) in
    let e : c.head-head.result.now.ninode ≡ c.args.volume.now.state.head.ninode = ap (λ (h : SuperBlock). h.ninode) c.head-head.ensures.head in
    c.set_list.ensures.store
    ∙ pushed_room v c.args.ino _ (volume_seen c.args.volume.now.state c.args.table.now (over c.args.volume.now.state c.args.table.now c.requires)) (omega (arith, e)) (ap (λ (h : SuperBlock). take (h.ninode + 1) (slice_set h.inode h.ninode c.args.ino)) c.head-head.ensures.head)

pub returns-else-head-lt-LIST_SIZE-clause-store : goal.returns-else-head-lt-LIST_SIZE-clause-store
returns-else-head-lt-LIST_SIZE-clause-store c =
    let v = (seen c.args.volume.now.state c.args.table.now) in
    let e : c.head-head.result.now.ninode ≡ c.args.volume.now.state.head.ninode = ap (λ (h : SuperBlock). h.ninode) c.head-head.ensures.head in
    pushed_full v c.args.ino (volume_seen c.args.volume.now.state c.args.table.now (over c.args.volume.now.state c.args.table.now c.requires)) (omega (arith, e))
