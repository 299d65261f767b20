use Rattle.std.proofs.Common.{arith}
use Rattle.fs_codec.proofs.WordsLemmas.{words_by_places}
use Rattle.fs_codec.specs.Disk.{disk_of}
use Rattle.fs_codec.proofs.image.words_in.Goals as goal

pub returns : goal.returns
returns c = words_by_places (disk_of c.args.image.now c.args.block) _ 0 256 c.loop-k.invariant.size (λ k h. c.loop-k.invariant.below k (omega arith))
