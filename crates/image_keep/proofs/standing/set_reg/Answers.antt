-- A register that is written leaves all else.
use Rattle.image_keep.proofs.StandingState.{register_rest}
use Rattle.image_keep.proofs.standing.set_reg.Goals as goal

pub returns-clause-rest : goal.returns-clause-rest
returns-clause-rest c = λ k m off. register_rest c.args.core.now c.put_word.new.core c.args.at c.args.n c.args.value k m c.requires.number c.put_word.ensures.word off
