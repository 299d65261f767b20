use Rattle.std.proofs.Common.{◌≡◌, ◌*◌, sym, ap, ◌∙◌, arith}
use Rattle.fs_codec.specs.declared.super_block.SuperBlock.{SuperBlock}
use Rattle.fs_nodes.proofs.NumbersLemmas.{count_is, few_inodes}
use Rattle.fs_nodes.proofs.one_disk.numbers.count_inodes.Goals as goal
use Rattle.fs_nodes.proofs.one_disk.numbers.count_inodes.Goals.{After-from-2}

size : (c : After-from-2) → c.from.result * c.from-2.result ≡ 16 * c.args.volume.now.state.head.i_size
size c =
    let e : c.from-2.result ≡ c.args.volume.now.state.head.i_size = c.from-2.ensures ∙ ap (λ (h : SuperBlock). h.i_size) c.head.ensures.head in
    let s = c.from.ensures in
    ap (λ n. n * c.from-2.result) s ∙ ap (λ n. 16 * n) e

pub returns-clause-count : goal.returns-clause-count
returns-clause-count c = size c ∙ sym (count_is c.args.volume.now.state c.see.ensures.sound)

pub returns-clause-few : goal.returns-clause-few
returns-clause-few c = let e = few_inodes c.args.volume.now.state c.see.ensures.sound in let s = size c in omega (arith, e, s)
