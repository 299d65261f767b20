use Rattle.image_keep.proofs.Frames.{alive_image}
use Rattle.image_keep.proofs.AreaSet.{starts_fixed}
use Rattle.image_keep.proofs.images.Images.fixed_start.Goals as goal

pub returns-clause-image : goal.returns-clause-image
returns-clause-image c = alive_image c.args.self.now.kept c.args.fixed.now.slot c.requires.alive

pub returns-clause-place : goal.returns-clause-place
returns-clause-place c = starts_fixed c.args.self.now.kept c.args.fixed.now.slot c.args.fixed.now.starts c.requires
