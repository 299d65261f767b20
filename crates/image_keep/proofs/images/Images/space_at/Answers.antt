use Rattle.image_keep.proofs.images.Images.space_at.Goals as goal

pub invariant_of-result : goal.invariant_of-result
invariant_of-result c = record { are = c.requires; formed = c.see_kept.ensures.formed c.args.fixed.now.slot }
