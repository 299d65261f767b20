use Rattle.std.proofs.Common.{◌+◌, ◌∙◌, sym}
use Rattle.v6_base.specs.Words.{next_byte}
use Rattle.image_keep.proofs.Reading.{find_is, there_within}
use Rattle.image_keep.proofs.images.Images.find.Goals as goal

pub returns-clause-named : goal.returns-clause-named
returns-clause-named c = c.find.ensures.named ∙ find_is c.args.self.now.kept c.args.s c.args.starts.now c.args.at c.requires

pub returns-clause-within : goal.returns-clause-within
returns-clause-within c = there_within c.args.self.now.kept c.args.s c.args.starts.now c.find.result c.requires c.find.ensures.within

pub returns-clause-next : goal.returns-clause-next
returns-clause-next c even = sym (find_is c.args.self.now.kept c.args.s c.args.starts.now (c.args.at + 1) c.requires) ∙ c.find.ensures.next even

pub returns-clause-next_within : goal.returns-clause-next_within
returns-clause-next_within c even = there_within c.args.self.now.kept c.args.s c.args.starts.now (next_byte c.find.result) c.requires (c.find.ensures.next_there even)
