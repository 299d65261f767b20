use Rattle.std.proofs.Common.{◌/◌, arith, true, false}
use Rattle.fs_codec.specs.Fields.{fields_of}
use Rattle.fs_nodes.specs.one_disk.Moves.{Touched}
use Rattle.fs_nodes.proofs.PieceSteps.{touched, ready, its_block, block_below}
use Rattle.fs_nodes.proofs.one_disk.pieces.touch_block.Goals as goal
use Rattle.fs_nodes.proofs.one_disk.pieces.touch_block.Goals.{In-Ok, In-Err}

found : (c : In-Ok) → Touched c.args.volume.now.state (fields_of c.args.node.now) (c.args.at / 512) c.touch-taken.new.self.state (fields_of c.touch-taken.new.node) true
found c = let h = c.requires.end in touched _ _ (c.args.at / 512) _ _ _ c.requires.used c.requires.file (c.in-Ok.ensures.takes (omega (arith, h)))

none : (c : In-Err) → Touched c.args.volume.now.state (fields_of c.args.node.now) (c.args.at / 512) c.touch-taken.new.self.state (fields_of c.touch-taken.new.node) false
none c = let h = c.requires.end in touched _ _ (c.args.at / 512) _ _ _ c.requires.used c.requires.file (c.in-Err.ensures.takes (omega (arith, h)))

pub returns-in-Ok-clause-touched : goal.returns-in-Ok-clause-touched
returns-in-Ok-clause-touched c = found c

pub returns-in-Ok-clause-file : goal.returns-in-Ok-clause-file
returns-in-Ok-clause-file c = ready _ _ _ _ _ _ (found c) c.see.ensures.blocks c.see.ensures.sound

pub returns-in-Ok-clause-block : goal.returns-in-Ok-clause-block
returns-in-Ok-clause-block c =
    let h = c.requires.end in
    let a = c.in-Ok.ensures.answer (omega (arith, h)) in
    let f = ready _ _ _ _ _ _ (found c) c.see.ensures.blocks c.see.ensures.sound in
    let b = its_block c.touch-taken.new.self.state (fields_of c.touch-taken.new.node) (c.args.at / 512) c.in-Ok.b f a.0 a.1 in
    (b, block_below _ _ _ _ f b)

pub returns-in-Err-clause-touched : goal.returns-in-Err-clause-touched
returns-in-Err-clause-touched c = none c

pub returns-in-Err-clause-file : goal.returns-in-Err-clause-file
returns-in-Err-clause-file c = ready _ _ _ _ _ _ (none c) c.see.ensures.blocks c.see.ensures.sound
