use Rattle.std.proofs.Common.{ap}
use Rattle.make_image.specs.Files.{entry}
use Rattle.make_image.proofs.FilesLemmas.{named, named_field}
use Rattle.make_image.proofs.tree.entry.Goals as goal

pub returns : goal.returns
unfolding entry named
returns c = ap (named c.args.ino) (named_field c.args.name.now c.copy_from_slice.new.self c.requires c.copy_from_slice.ensures.after)
