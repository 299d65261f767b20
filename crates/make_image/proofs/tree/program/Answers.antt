use Rattle.std.proofs.Common.{rules}
use Rattle.make_image.specs.Files.{init}
use Rattle.make_image.proofs.tree.program.Goals as goal

pub returns-clause-items : goal.returns-clause-items
unfolding init
returns-clause-items c = search rules
