use Rattle.std.proofs.Common.{◌∙◌}
use Rattle.sys_procs.proofs.StackBytesLemmas.{word_stored, word_left_out}
use Rattle.sys_procs.proofs.stack.put_word.Goals as goal

pub returns-then-at-ge-LOWEST-clause-image : goal.returns-then-at-ge-LOWEST-clause-image
returns-then-at-ge-LOWEST-clause-image g c above stack whole =
    c.store_word.ensures.image
    ∙ word_stored (g.S.Space.image c.args.space.now) c.args.at c.args.word above (g.met.S.Space.formed c.args.space.now) stack c.if-at-ge-LOWEST.true c.requires.even whole

pub returns-else-at-ge-LOWEST-clause-image : goal.returns-else-at-ge-LOWEST-clause-image
returns-else-at-ge-LOWEST-clause-image g c above stack whole =
    word_left_out (g.S.Space.image c.args.space.now) c.args.at c.args.word above stack c.if-at-ge-LOWEST.false c.requires.even whole
