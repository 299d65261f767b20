use Rattle.image_keep.proofs.StateOf.{kept_is}
use Rattle.std.proofs.Common.{◌∙◌}
use Rattle.image_keep.specs.Inside.{stock_in}
use Rattle.image_keep.proofs.KeptForm.{all_long}
use Rattle.image_keep.proofs.TextSearch.{found_is, finds_text}
use Rattle.image_keep.proofs.SharedFacts.{shared_holds}
use Rattle.image_keep.proofs.images.Images.find_text.Goals as goal

pub returns-clause-text : goal.returns-clause-text
returns-clause-text c = c.find.ensures.text ∙ found_is (stock_in c.self.inside) c.args.self.now.kept c.args.ino (kept_is c.self.view_is)

pub returns-clause-words : goal.returns-clause-words
returns-clause-words c = finds_text (stock_in c.self.inside) c.args.self.now.kept c.args.ino c.find.result (kept_is c.self.view_is) c.find.ensures.words

pub returns-clause-sized : goal.returns-clause-sized
returns-clause-sized c = all_long (stock_in c.self.inside) c.args.self.now.kept (kept_is c.self.view_is) c.self.invariant.sound

pub returns-clause-texts : goal.returns-clause-texts
returns-clause-texts c = shared_holds (stock_in c.self.inside) c.args.self.now.kept (kept_is c.self.view_is) c.find.ensures.table c.self.invariant.counted
