use Rattle.image_keep.proofs.StateOf.{kept_is}
use Rattle.std.proofs.Common.{◌+◌, ◌≤◌, ◌∙◌, length, sym, ap, subst}
use Rattle.core_mem.specs.Bytes.{part}
use Rattle.image_keep.specs.Inside.{stock_in}
use Rattle.image_keep.specs.Line.{line_of}
use Rattle.image_keep.specs.Starts.{start_of}
use Rattle.image_keep.proofs.RunsRead.{run_read}
use Rattle.image_keep.proofs.Lent.{side_to}
use Rattle.image_keep.proofs.images.Images.get_part.Goals as goal

pub get-requires-clause-place : goal.get-requires-clause-place
get-requires-clause-place c = side_to c.self.inside.core (start_of c.args.starts.now c.args.from) (length c.args.into.now) (length c.self.inside.memory.core) c.start_of.result (run_read (stock_in c.self.inside) c.args.self.now.kept c.args.s (length c.args.into.now) c.args.starts.now c.args.from (kept_is c.self.view_is) c.self.invariant.sound c.self.invariant.counted c.requires.starts c.requires.within c.requires.few c.requires.some).side c.start_of.ensures c.self.invariant.cut

pub get-requires-clause-inside : goal.get-requires-clause-inside
get-requires-clause-inside c = subst (λ j. j + (length c.args.into.now) ≤ length (line_of c.self.inside.memory)) (sym c.start_of.ensures) (run_read (stock_in c.self.inside) c.args.self.now.kept c.args.s (length c.args.into.now) c.args.starts.now c.args.from (kept_is c.self.view_is) c.self.invariant.sound c.self.invariant.counted c.requires.starts c.requires.within c.requires.few c.requires.some).inside

pub returns : goal.returns
returns c = c.get.ensures ∙ ap (λ j. part (line_of c.self.inside.memory) j (length c.args.into.now)) c.start_of.ensures ∙ (run_read (stock_in c.self.inside) c.args.self.now.kept c.args.s (length c.args.into.now) c.args.starts.now c.args.from (kept_is c.self.view_is) c.self.invariant.sound c.self.invariant.counted c.requires.starts c.requires.within c.requires.few c.requires.some).is
