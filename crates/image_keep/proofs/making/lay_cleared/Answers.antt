use Rattle.std.proofs.Common.{rules}
use Rattle.image_keep.specs.Line.{line_of}
use Rattle.image_keep.proofs.Made.{cleared_line}
use Rattle.image_keep.proofs.making.lay_cleared.Goals as goal

pub returns-clause-line : goal.returns-clause-line
returns-clause-line c = cleared_line (line_of c.args.memory.now) (line_of c.clear.new.self) (line_of c.put.new.self) c.args.at c.args.d c.args.stack c.args.area.now (search rules) c.requires.inside c.clear.ensures.bytes c.put.ensures.bytes
