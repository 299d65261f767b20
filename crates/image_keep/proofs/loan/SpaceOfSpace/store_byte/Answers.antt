use Rattle.std.proofs.Common.{◌∙◌, sym, ap, subst, arith}
use Rattle.v6_base.specs.Image.{IsImage}
use Rattle.v6_base.specs.Access.{store_byte, image_after}
use Rattle.v6_base.proofs.Formed.{formed_after_byte}
use Rattle.image_keep.specs.Kept.{image_of}
use Rattle.image_keep.proofs.Frames.{with_image_same}
use Rattle.image_keep.proofs.loan.SpaceOfSpace.store_byte.Goals as goal

pub invariant_of-self : goal.invariant_of-self
invariant_of-self c =
    let old = c.args.self.now.images.now.kept in
    let slot = c.args.self.now.slot in
    let m = image_after (image_of old slot) (store_byte (image_of old slot) c.args.at c.args.value) in
    record {
      are = c.store_byte.ensures.starts;
      formed =
          subst IsImage (sym (ap (λ k. image_of k slot) c.store_byte.ensures.kept ∙ with_image_same old slot m c.args.self.now.are.alive))
          (formed_after_byte (image_of old slot) c.args.at c.args.value (omega arith) c.args.self.now.formed);
    }
