use Rattle.std.proofs.Common.{◌++◌, ◌-◌, ◌∙◌, ap}
use Rattle.std.proofs.lemmas.Result.{on_ok_weaker}
use Rattle.fs_codec.specs.Bytes.{super_bytes}
use Rattle.make_image.specs.Padded.{padded}
use Rattle.make_image.specs.FreeList.{freed_down}
use Rattle.make_image.proofs.ImageLemmas.{super_is}
use Rattle.make_image.proofs.image.push_super.Goals as goal

pub returns-clause-items : goal.returns-clause-items
returns-clause-items c = on_ok_weaker c.push_super_block.result (λ e. e ∙ ap (λ s. c.args.image.now.items ++ padded 512 (super_bytes s)) (super_is c.free_count.result c.free_numbers.result (freed_down (4000 - c.args.first_free)) c.free_count.ensures c.free_numbers.ensures)) c.push_super_block.ensures.items
