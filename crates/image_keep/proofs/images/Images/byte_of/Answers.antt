use Rattle.image_keep.proofs.StateOf.{kept_is}
use Rattle.std.proofs.Common.{◌<◌, ◌∙◌, length, slice_index, sym, ap, subst, Ok}
use Rattle.image_keep.specs.Inside.{stock_in}
use Rattle.image_keep.specs.Line.{line_of}
use Rattle.image_keep.proofs.Reading.{byte_read}
use Rattle.image_keep.proofs.Putting.{low_of}
use Rattle.image_keep.proofs.images.Images.byte_of.Goals as goal

pub start_of-requires : goal.start_of-requires
start_of-requires c = low_of c.args.self.now.kept c.args.s c.args.starts.now c.args.at c.requires.starts c.requires.within

pub byte-requires : goal.byte-requires
byte-requires c = subst (λ j. j < length (line_of c.self.inside.memory)) (sym c.start_of.ensures) (byte_read (stock_in c.self.inside) c.args.self.now.kept c.args.s c.args.starts.now c.args.at (kept_is c.self.view_is) c.self.invariant.sound c.self.invariant.counted c.requires.starts c.requires.within c.requires.some).0

pub returns : goal.returns
returns c = (byte_read (stock_in c.self.inside) c.args.self.now.kept c.args.s c.args.starts.now c.args.at (kept_is c.self.view_is) c.self.invariant.sound c.self.invariant.counted c.requires.starts c.requires.within c.requires.some).1 ∙ ap Ok (ap (slice_index (line_of c.self.inside.memory)) (sym c.start_of.ensures) ∙ sym c.byte.ensures)
