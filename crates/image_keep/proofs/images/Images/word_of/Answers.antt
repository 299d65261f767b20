use Rattle.image_keep.proofs.StateOf.{kept_is}
use Rattle.std.proofs.Common.{◌+◌, ◌≤◌, ◌∙◌, length, slice_index, sym, ap, subst, Ok}
use Rattle.image_keep.specs.Inside.{stock_in}
use Rattle.image_keep.specs.Line.{line_of}
use Rattle.image_keep.specs.Starts.{start_of}
use Rattle.image_keep.proofs.Lent.{side_to}
use Rattle.image_keep.proofs.Putting.{low_of}
use Rattle.image_keep.proofs.WordsRead.{word_read}
use Rattle.image_keep.proofs.images.Images.word_of.Goals as goal

pub start_of-requires : goal.start_of-requires
start_of-requires c = low_of c.args.self.now.kept c.args.s c.args.starts.now c.args.at c.requires.starts c.requires.within

pub word-requires-clause-place : goal.word-requires-clause-place
word-requires-clause-place c = side_to c.self.inside.core (start_of c.args.starts.now c.args.at) 2 (length c.self.inside.memory.core) c.start_of.result (word_read (stock_in c.self.inside) c.args.self.now.kept c.args.s c.args.starts.now c.args.at (kept_is c.self.view_is) c.self.invariant.sound c.self.invariant.counted c.requires.starts c.requires.within c.requires.next c.requires.some).side c.start_of.ensures c.self.invariant.cut

pub word-requires-clause-inside : goal.word-requires-clause-inside
word-requires-clause-inside c = subst (λ j. j + 2 ≤ length (line_of c.self.inside.memory)) (sym c.start_of.ensures) (word_read (stock_in c.self.inside) c.args.self.now.kept c.args.s c.args.starts.now c.args.at (kept_is c.self.view_is) c.self.invariant.sound c.self.invariant.counted c.requires.starts c.requires.within c.requires.next c.requires.some).inside

pub returns : goal.returns
returns c = let w = (word_read (stock_in c.self.inside) c.args.self.now.kept c.args.s c.args.starts.now c.args.at (kept_is c.self.view_is) c.self.invariant.sound c.self.invariant.counted c.requires.starts c.requires.within c.requires.next c.requires.some) in (
  slice_index (line_of c.self.inside.memory) c.start_of.result,
  slice_index (line_of c.self.inside.memory) (c.start_of.result + 1),
  w.low ∙ ap (λ i. Ok (slice_index (line_of c.self.inside.memory) i)) (sym c.start_of.ensures),
  w.high ∙ ap (λ i. Ok (slice_index (line_of c.self.inside.memory) (i + 1))) (sym c.start_of.ensures),
  c.word.ensures,
)
