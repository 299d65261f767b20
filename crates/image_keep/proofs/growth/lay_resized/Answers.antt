use Rattle.std.proofs.Common.{rules, ◌-◌, ◌+◌, ap, refl}
use Rattle.image_keep.specs.Line.{line_of}
use Rattle.image_keep.proofs.Overwriting.{resized_line}
use Rattle.image_keep.proofs.growth.lay_resized.Goals as goal

pub returns-clause-line : goal.returns-clause-line
returns-clause-line c = resized_line (line_of c.args.memory.now) (line_of c.copy.new.self) (line_of c.copy_some.new.memory) (line_of c.clear_some.new.memory) (line_of c.put.new.self) c.args.row c.args.from c.args.to c.args.d c.args.stack c.lesser-data.result c.lesser-end.result (c.args.d - c.lesser-data.result + (c.args.stack - c.lesser-end.result)) (c.args.from + c.from.result) (c.args.to + c.from-2.result) (c.args.to + c.from-3.result) c.args.area.now c.lesser-data.ensures c.lesser-end.ensures c.requires.from_inside c.requires.to_inside (search rules) c.requires.apart refl (ap (λ i. c.args.from + i) c.from.ensures) (ap (λ i. c.args.to + i) c.from-2.ensures) (ap (λ i. c.args.to + i) c.from-3.ensures) c.copy.ensures.bytes c.copy_some.ensures.bytes c.clear_some.ensures.bytes c.put.ensures.bytes
