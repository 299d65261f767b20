-- Bytes are put into a u area: the line holds another one there, and all else is as it was.
use Rattle.std.proofs.Common.{◌∙◌, ◌+◌, length, ap, arith}
use Rattle.core_mem.specs.Bytes.{over}
use Rattle.u_area.specs.declared.area.UArea.{UArea}
use Rattle.image_keep.specs.Inside.{stock_in}
use Rattle.image_keep.specs.Kept.{area_of}
use Rattle.image_keep.specs.Fields.{IsPut}
use Rattle.image_keep.specs.Line.{line_of}
use Rattle.image_keep.proofs.StateOf.{kept_is, core_is, line_is}
use Rattle.image_keep.proofs.AreaSet.{AreaSet, area_here, field_side, field_set}
use Rattle.image_keep.proofs.FieldPut.{stays}
use Rattle.image_keep.proofs.Told.{area_told}
use Rattle.image_keep.proofs.images.Images.put_field.Goals.{After-put}
use Rattle.image_keep.proofs.images.Images.put_field.Goals as goal

pub overflow_add-at : goal.overflow_add-at
overflow_add-at c =
    let inside = (area_here (stock_in c.self.inside) c.args.self.now.kept c.args.s c.args.at (kept_is c.self.view_is) c.self.invariant.sound c.self.invariant.counted c.requires.image c.requires.place).inside in
    let size = c.self.invariant.sound.size in let most = c.self.invariant.sound.most in let within = c.requires.within in
    omega (arith, inside, size, most, within)

pub put-requires-clause-place : goal.put-requires-clause-place
put-requires-clause-place c = field_side c.self.inside.core c.args.at c.args.field _ _ (area_here (stock_in c.self.inside) c.args.self.now.kept c.args.s c.args.at (kept_is c.self.view_is) c.self.invariant.sound c.self.invariant.counted c.requires.image c.requires.place).side c.requires.within c.self.invariant.cut

pub put-requires-clause-inside : goal.put-requires-clause-inside
put-requires-clause-inside c = (let inside = (area_here (stock_in c.self.inside) c.args.self.now.kept c.args.s c.args.at (kept_is c.self.view_is) c.self.invariant.sound c.self.invariant.counted c.requires.image c.requires.place).inside in let within = c.requires.within in omega (arith, inside, within))

set : (c : After-put) (u : UArea) → IsPut (area_of c.args.self.now.kept c.args.s) c.args.field c.args.bytes.now u → AreaSet (stock_in c.self.inside) c.args.self.now.kept c.args.s u (line_of c.put.new.self)
set c u put =
    field_set (stock_in c.self.inside) c.args.self.now.kept c.args.s c.args.at c.args.field u c.args.bytes.now (line_of c.put.new.self) (kept_is c.self.view_is) c.self.invariant.sound c.self.invariant.counted c.requires.image c.requires.place
    put c.requires.within c.put.ensures.bytes

pub invariant_of-self : goal.invariant_of-self
invariant_of-self c =
    let done = set c c.requires.law.0 c.requires.law.1 in record {
      sound = done.sound;
      maps = record { core = c.self.invariant.maps.core; swap = c.self.invariant.maps.swap };
      table = c.self.invariant.table;
      cut = c.put.ensures.core ∙ c.self.invariant.cut;
      counted = c.self.invariant.counted;
      told = area_told _ _ c.args.self.now.kept c.args.s c.requires.law.0 (kept_is c.self.view_is) done.kept c.requires.law.1.sizes c.self.invariant.told;
    }

pub returns-clause-kept : goal.returns-clause-kept
returns-clause-kept c = λ u put. (set c u put).kept

pub returns-clause-written : goal.returns-clause-written
returns-clause-written c = λ held its. (
  c.put.ensures.core ∙ ap length (core_is c.self.view_is),
  c.put.ensures.bytes ∙ (λ i. over (line_is c.self.view_is i) (c.requires.place held its i + c.args.field) c.args.bytes.now),
)

pub returns-clause-image : goal.returns-clause-image
returns-clause-image c = (stays c.args.self.now.kept _ c.args.s c.args.at c.requires.law.0 c.requires.image c.requires.place (set c c.requires.law.0 c.requires.law.1).kept).0

pub returns-clause-place : goal.returns-clause-place
returns-clause-place c = (stays c.args.self.now.kept _ c.args.s c.args.at c.requires.law.0 c.requires.image c.requires.place (set c c.requires.law.0 c.requires.law.1).kept).1

pub returns-clause-room : goal.returns-clause-room
returns-clause-room c =
    let inside = (area_here (stock_in c.self.inside) c.args.self.now.kept c.args.s c.args.at (kept_is c.self.view_is) c.self.invariant.sound c.self.invariant.counted c.requires.image c.requires.place).inside in
    let size = ap length (line_is c.self.view_is) in
    omega (arith, inside, size)
