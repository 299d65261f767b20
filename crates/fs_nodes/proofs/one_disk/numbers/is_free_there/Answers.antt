use Rattle.std.proofs.Common.{sym, ap, ◌∙◌, ◌==◌, arith}
use Rattle.fs_codec.specs.Fields.{Inode}
use Rattle.fs_nodes.proofs.NumbersLemmas.{free_mode, free_zero, free_high}
use Rattle.fs_blocks.proofs.LateLemmas.{late_stays}
use Rattle.fs_nodes.proofs.one_disk.numbers.is_free_there.Goals as goal

pub returns-then-ino-eq0-clause-free : goal.returns-then-ino-eq0-clause-free
returns-then-ino-eq0-clause-free c = sym (free_zero c.args.volume.now.state c.args.ino (omega arith))

pub returns-then-from-count_inodes-clause-free : goal.returns-then-from-count_inodes-clause-free
returns-then-from-count_inodes-clause-free c = let n = c.count_inodes.ensures.count in sym (free_high c.args.volume.now.state c.args.ino (omega (arith, n)))

pub returns-clause-free : goal.returns-clause-free
returns-clause-free c =
    let n = c.count_inodes.ensures.count in
    ap (λ (i : Inode). i.mode == 0) c.read_inode.ensures.node ∙ sym (free_mode c.args.volume.now.state c.args.ino (omega arith) (omega (arith, n)))

pub returns-then-ino-eq0-clause-stored : goal.returns-then-ino-eq0-clause-stored
returns-then-ino-eq0-clause-stored c = late_stays _ _

pub returns-then-from-count_inodes-clause-stored : goal.returns-then-from-count_inodes-clause-stored
returns-then-from-count_inodes-clause-stored c = late_stays _ _

pub returns-clause-stored : goal.returns-clause-stored
returns-clause-stored c = c.read_inode.ensures.stored
