use Rattle.std.proofs.Common.{arith}
use Rattle.make_image.proofs.FreeListLemmas.{listed_from}
use Rattle.make_image.proofs.free_list.free_count.Goals as goal

pub returns : goal.returns
returns c =
    let list = listed_from c.args.lowest c.requires.above c.requires.below in
    omega (arith, list.count)
