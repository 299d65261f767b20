use Rattle.std.proofs.Common.{length, ap}
use Rattle.image_keep.specs.Line.{line_of}
use Rattle.image_keep.proofs.Empty.{begun, first_long}
use Rattle.image_keep.proofs.images.Images.new.Goals as goal

pub invariant_of-result : goal.invariant_of-result
invariant_of-result c = let g = (begun c.args.core (line_of c.in_ok-new.field-0) c.in_ok-empty_rows.field-0.items c.new-2.result c.new-3.result c.new-4.result c.requires.least c.requires.most (first_long c.in_ok-new.field-0 c.args.core c.args.swap.now c.in_ok-new.ensures.core c.in_ok-new.ensures.swap c.requires.swap).0 c.in_ok-empty_rows.ensures c.new-2.ensures c.new-3.ensures c.new-4.ensures) in record { sound = g.sound; maps = g.maps; table = ap length c.new-2.ensures; cut = (first_long c.in_ok-new.field-0 c.args.core c.args.swap.now c.in_ok-new.ensures.core c.in_ok-new.ensures.swap c.requires.swap).1; counted = g.counted; told = g.told }

pub returns-clause-kept : goal.returns-clause-kept
returns-clause-kept c = (begun c.args.core (line_of c.in_ok-new.field-0) c.in_ok-empty_rows.field-0.items c.new-2.result c.new-3.result c.new-4.result c.requires.least c.requires.most (first_long c.in_ok-new.field-0 c.args.core c.args.swap.now c.in_ok-new.ensures.core c.in_ok-new.ensures.swap c.requires.swap).0 c.in_ok-empty_rows.ensures c.new-2.ensures c.new-3.ensures c.new-4.ensures).kept

pub returns-clause-core : goal.returns-clause-core
returns-clause-core c = c.in_ok-new.ensures.core

pub returns-clause-swap : goal.returns-clause-swap
returns-clause-swap c = c.in_ok-new.ensures.swap
