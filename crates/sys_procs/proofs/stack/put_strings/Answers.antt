use Rattle.std.proofs.Common.{◌-◌, ◌%◌, ℕ, length, ap, ◌∙◌, arith}
use Rattle.v6_base.specs.Image.{Image}
use Rattle.v6_base.specs.Copy.{store_bytes, image_or}
use Rattle.v6_base.proofs.Copies.{put_is}
use Rattle.sys_procs.proofs.StackBytesLemmas.{strings_put}
use Rattle.sys_procs.proofs.stack.put_strings.Goals as goal

pub returns-clause-image : goal.returns-clause-image
returns-clause-image g c =
    let m : Image = g.S.Space.image c.args.space.now in
    let at : ℕ = (65536 - length c.args.bytes.now - length c.args.bytes.now % 2) % 65536 in
    let put = put_is m (g.S.Space.image c.copy_out.new.self) (store_bytes m at c.args.bytes.now) c.copy_out.result c.copy_out.ensures.done c.copy_out.ensures.refused c.copy_out.ensures.same in
    put.1 ∙ ap (image_or m) (strings_put m at c.args.bytes.now (g.met.S.Space.formed c.args.space.now) c.requires.stack c.requires.few (omega arith))
