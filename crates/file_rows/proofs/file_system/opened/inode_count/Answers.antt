use Rattle.std.proofs.Common.{◌≡◌, ◌*◌, sym, ap, ◌∙◌, arith}
use Rattle.fs_codec.specs.declared.super_block.SuperBlock.{SuperBlock}
use Rattle.fs_nodes.proofs.NodesLemmas as nodes
use Rattle.fs_nodes.proofs.NumbersLemmas.{count_is, few_inodes}
use Rattle.file_rows.proofs.file_system.opened.inode_count.Goals as goal
use Rattle.file_rows.proofs.file_system.opened.inode_count.Goals.{After-from}

size : (c : After-from) → c.from.result ≡ c.args.volume.now.state.head.i_size
size c = c.from.ensures ∙ ap (λ (h : SuperBlock). h.i_size) c.head.ensures.head

pub returns-clause-count : goal.returns-clause-count
returns-clause-count c =
    ap (λ n. 16 * n) (size c) ∙ sym (count_is c.args.volume.now.state c.head.ensures.sound)
    ∙ sym (nodes.count_is c.args.volume.now.state)

pub returns-clause-few : goal.returns-clause-few
returns-clause-few c =
    let e = few_inodes c.args.volume.now.state c.head.ensures.sound in
    let s = size c in omega (arith, e, s)
