use Rattle.std.proofs.Common.{◌≡◌, sym, ap, ◌∙◌, arith}
use Rattle.fs_codec.specs.Disk.{head, inode}
use Rattle.fs_codec.specs.Fields.{Inode}
use Rattle.fs_codec.specs.Store.{node_numbered}
use Rattle.fs_codec.specs.declared.super_block.SuperBlock.{SuperBlock}
use Rattle.fs_blocks.specs.State.{disk}
use Rattle.fs_blocks.proofs.SuperLemmas.{head_is}
use Rattle.fs_nodes.specs.one_disk.FileSystem.{store_now}
use Rattle.fs_nodes.proofs.NodesLemmas.{no_node, no_node_0, no_node_past, node_at, shows_inode, low_number}
use Rattle.fs_blocks.proofs.LateLemmas.{late_stays}
use Rattle.fs_nodes.proofs.one_disk.inodes.read_used.Goals as goal
use Rattle.fs_nodes.proofs.one_disk.inodes.read_used.Goals.{then-ino-eq0-via-then-ino-eq0, then-ino-eq0-via-else-ino-eq0+then-from}

pub returns-then-ino-eq0-clause-used : goal.returns-then-ino-eq0-clause-used
returns-then-ino-eq0-clause-used c =
    let size : (head (disk c.args.volume.now.state)).i_size ≡ c.args.volume.now.state.head.i_size =
    ap (λ (s : SuperBlock). s.i_size) (head_is c.args.volume.now.state.blocks c.args.volume.now.state.head c.see.ensures.sound.fits) in
    elim c.then-ino-eq0.branch [
      | then-ino-eq0-via-then-ino-eq0 w ↦ ap (node_numbered (store_now c.args.volume.now.state)) w.if-ino-eq0.true ∙ no_node_0 c.args.volume.now.state
      | then-ino-eq0-via-else-ino-eq0+then-from w ↦
          let a = w.from.ensures in
          let b = w.from-else-ino-eq0.ensures in
          let h : w.head.result.now.i_size ≡ c.args.volume.now.state.head.i_size = ap (λ (s : SuperBlock). s.i_size) w.head.ensures.head in
          let past = w.if-from.true in
          no_node_past c.args.volume.now.state c.args.ino (omega (arith, a, b, h, past, size))
    ]

pub read_inode-node-requires-clause-high : goal.read_inode-node-requires-clause-high
read_inode-node-requires-clause-high c =
    low_number c.args.volume.now.state c.args.ino c.from.result c.from-else-ino-eq0.result c.head.result.now c.see.ensures.sound.fits c.from.ensures c.from-else-ino-eq0.ensures c.head.ensures.head c.if-from.false

pub returns-then-node-eq0-clause-used : goal.returns-then-node-eq0-clause-used
returns-then-node-eq0-clause-used c =
    let some = c.if-ino-eq0.false in
    node_at c.args.volume.now.state c.args.ino (omega (arith, some)) (low_number c.args.volume.now.state c.args.ino c.from.result c.from-else-ino-eq0.result c.head.result.now c.see.ensures.sound.fits c.from.ensures c.from-else-ino-eq0.ensures c.head.ensures.head c.if-from.false)
    ∙ no_node (disk c.args.volume.now.state) (inode (disk c.args.volume.now.state) c.args.ino) (ap (λ (n : Inode). n.mode) (sym c.read_inode-node.ensures.node) ∙ c.if-node-eq0.true)

pub returns-clause-used : goal.returns-clause-used
returns-clause-used c =
    let some = c.if-ino-eq0.false in
    shows_inode c.args.volume.now.state c.args.ino c.read_inode-node.result (omega (arith, some)) (low_number c.args.volume.now.state c.args.ino c.from.result c.from-else-ino-eq0.result c.head.result.now c.see.ensures.sound.fits c.from.ensures c.from-else-ino-eq0.ensures c.head.ensures.head c.if-from.false) c.read_inode-node.ensures.node c.if-node-eq0.false

pub returns-then-ino-eq0-clause-stored : goal.returns-then-ino-eq0-clause-stored
returns-then-ino-eq0-clause-stored c = late_stays _ _

pub returns-then-node-eq0-clause-stored : goal.returns-then-node-eq0-clause-stored
returns-then-node-eq0-clause-stored c = c.read_inode-node.ensures.stored

pub returns-clause-stored : goal.returns-clause-stored
returns-clause-stored c = c.read_inode-node.ensures.stored
