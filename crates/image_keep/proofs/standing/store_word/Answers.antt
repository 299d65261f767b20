-- A word that is written leaves what stands outside the data and the stack.
use Rattle.std.proofs.Common.{length}
use Rattle.image_keep.proofs.StandingParts.{word_rest}
use Rattle.image_keep.proofs.standing.store_word.Goals as goal

pub returns-clause-rest : goal.returns-clause-rest
returns-clause-rest c = λ k m off.
    word_rest (length c.args.core.now) c.args.core.now c.put_word.new.core c.args.f.now c.args.place c.args.value k m c.requires.stands c.requires.place c.put_word.ensures.word off
