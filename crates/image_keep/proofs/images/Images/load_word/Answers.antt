use Rattle.std.proofs.Common.{◌∙◌, ap, arith, Ok}
use Rattle.image_keep.specs.Kept.{image_of}
use Rattle.image_keep.proofs.Words.{odd_loaded, word_unloaded, word_loaded}
use Rattle.image_keep.proofs.images.Images.load_word.Goals as goal

pub returns-then-at-eq1 : goal.returns-then-at-eq1
returns-then-at-eq1 c = odd_loaded (image_of c.args.self.now.kept c.args.s) c.args.at c.if-at-eq1.true

pub returns-in-Nothing : goal.returns-in-Nothing
returns-in-Nothing c = word_unloaded (image_of c.args.self.now.kept c.args.s) c.args.at c.find.result (omega (arith, c.if-at-eq1.false)) c.find.ensures.named c.in-Nothing.is

pub returns-in_default : goal.returns-in_default
returns-in_default c = let w = c.word_of.ensures in ap Ok w.4 ∙ word_loaded (image_of c.args.self.now.kept c.args.s) c.args.at w.0 w.1 c.find.result (omega (arith, c.if-at-eq1.false)) c.find.ensures.named (c.find.ensures.next (omega (arith, c.if-at-eq1.false))) w.2 w.3
