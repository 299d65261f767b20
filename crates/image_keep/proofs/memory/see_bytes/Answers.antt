use Rattle.std.proofs.Common.{◌<◌, arith, subst}
use Rattle.std.proofs.lemmas.List.{get_or_default}
use Rattle.image_keep.proofs.memory.see_bytes.Goals as goal

pub returns : goal.returns
returns c k d low = let f = c.type_inv.bytes k in subst (λ b. b < 256) (get_or_default c.args.bytes.now k 0 d low) (omega (arith, f))
