use Rattle.std.proofs.Common.{sym}
use Rattle.fs_codec.proofs.BytesLemmas.{part}
use Rattle.u_area.proofs.ReadLemmas.{part_each}
use Rattle.u_area.proofs.arrays.fifteen_bytes.Goals as goal

pub returns : goal.returns
unfolding part
returns c = sym (part_each 15 c.args.at c.args.b.now c.requires)
