use Rattle.std.proofs.Common.{◌∙◌, sym, ap, subst}
use Rattle.u_area.specs.declared.area.UArea.{UArea}
use Rattle.u_area.specs.Area.{fetched}
use Rattle.image_keep.specs.Kept.{HasSizes, image_of}
use Rattle.image_keep.proofs.images.Images.area_from.Goals as goal

pub returns-clause-fetch : goal.returns-clause-fetch
returns-clause-fetch c = λ held has. c.fetch_bytes.ensures.read ∙ ap fetched (c.bytes_from.ensures.there held has)

pub returns-clause-u : goal.returns-clause-u
returns-clause-u c = c.fetch_bytes.ensures.read ∙ c.bytes_from.ensures.read

pub returns-clause-sizes : goal.returns-clause-sizes
returns-clause-sizes c =
    subst (λ (u : UArea). HasSizes u (image_of c.args.self.now.kept c.args.s)) (sym (returns-clause-u c)) (c.see_kept.ensures.sizes c.args.s c.requires.image)
