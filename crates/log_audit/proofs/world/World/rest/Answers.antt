use Rattle.std.proofs.Common.{refl}
use Rattle.pick_rules.specs.Table.{row_at}
use Rattle.log_audit.proofs.Steps.{row_step}
use Rattle.log_audit.proofs.Moves.{rests}
use Rattle.log_audit.proofs.world.World.rest.Goals as goal

pub returns-clause-loose : goal.returns-clause-loose
returns-clause-loose c cl sl l =
    row_step c.args.self.now _ c.args.s _ cl sl cl sl c.requires.slot l (let is = l.table in record { last = is.last; running = is.running; ticks = is.ticks }) refl (rests (row_at c.args.self.now.table c.args.s) cl sl (l.each c.args.s) l.core_some l.swap_some)
