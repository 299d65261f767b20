use Rattle.std.proofs.Common.{◌∙◌, ◌⊎◌, ◌+◌, ◌≤◌, length, refl, sym, ap, subst}
use Rattle.core_mem.proofs.Parts.{length-part}
use Rattle.u_area.specs.Area.{fetched}
use Rattle.image_keep.specs.Inside.{stock_in}
use Rattle.image_keep.proofs.StateOf.{kept_is, core_is, swap_is}
use Rattle.image_keep.proofs.AreaSet.{area_here, fetched_here, area_is_there}
use Rattle.image_keep.proofs.images.Images.bytes_from.Goals as goal

pub area_bytes-requires-clause-place : goal.area_bytes-requires-clause-place
area_bytes-requires-clause-place c = subst (λ n. (c.args.at + 1024 ≤ n) ⊎ (n ≤ c.args.at)) (sym c.self.invariant.cut) (area_here (stock_in c.self.inside) c.args.self.now.kept c.args.s c.args.at (kept_is c.self.view_is) c.self.invariant.sound c.self.invariant.counted c.requires.image c.requires.place).side

pub area_bytes-requires-clause-inside : goal.area_bytes-requires-clause-inside
area_bytes-requires-clause-inside c = (area_here (stock_in c.self.inside) c.args.self.now.kept c.args.s c.args.at (kept_is c.self.view_is) c.self.invariant.sound c.self.invariant.counted c.requires.image c.requires.place).inside

pub returns-clause-there : goal.returns-clause-there
returns-clause-there c = λ held has.
    c.area_bytes.ensures
    ∙ area_is_there (stock_in c.self.inside) c.args.self.now c.args.s c.args.at held (kept_is c.self.view_is) c.self.invariant.sound c.self.invariant.counted has
    (c.requires.place held has) c.self.inside.memory.core c.self.inside.memory.swap c.self.invariant.cut refl (sym (core_is c.self.view_is)) (sym (swap_is c.self.view_is))

pub returns-clause-read : goal.returns-clause-read
returns-clause-read c = ap fetched c.area_bytes.ensures ∙ fetched_here _ _ _ _ (area_here (stock_in c.self.inside) c.args.self.now.kept c.args.s c.args.at (kept_is c.self.view_is) c.self.invariant.sound c.self.invariant.counted c.requires.image c.requires.place)

pub returns-clause-stored : goal.returns-clause-stored
returns-clause-stored c = let h = area_here (stock_in c.self.inside) c.args.self.now.kept c.args.s c.args.at (kept_is c.self.view_is) c.self.invariant.sound c.self.invariant.counted c.requires.image c.requires.place in (_, h.sized, c.area_bytes.ensures ∙ h.bytes)

pub returns-clause-size : goal.returns-clause-size
returns-clause-size c = ap length c.area_bytes.ensures ∙ length-part _ c.args.at 1024 (area_here (stock_in c.self.inside) c.args.self.now.kept c.args.s c.args.at (kept_is c.self.view_is) c.self.invariant.sound c.self.invariant.counted c.requires.image c.requires.place).inside
