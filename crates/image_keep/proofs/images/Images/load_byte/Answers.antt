use Rattle.std.proofs.Common.{ap, Ok, Err}
use Rattle.v6_base.specs.declared.space.Trap.TheVariants.{Segment}
use Rattle.v6_base.specs.Access.{byte_at}
use Rattle.image_keep.specs.Kept.{image_of}
use Rattle.image_keep.proofs.Words.{byte_loaded}
use Rattle.image_keep.proofs.images.Images.load_byte.Goals as goal

pub returns-in-Nothing : goal.returns-in-Nothing
returns-in-Nothing c = byte_loaded (image_of c.args.self.now.kept c.args.s) c.args.at c.find.result (Err Segment) c.find.ensures.named (ap (byte_at (image_of c.args.self.now.kept c.args.s)) c.in-Nothing.is)

pub returns-in_default : goal.returns-in_default
returns-in_default c = byte_loaded (image_of c.args.self.now.kept c.args.s) c.args.at c.find.result (Ok c.byte_of.result) c.find.ensures.named c.byte_of.ensures
