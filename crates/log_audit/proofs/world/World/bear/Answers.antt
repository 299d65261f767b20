use Rattle.std.proofs.Common.{ap, slice_set}
use Rattle.pick_rules.specs.Table.{row_at}
use Rattle.log_audit.proofs.Steps.{row_step}
use Rattle.log_audit.proofs.Moves.{bears}
use Rattle.log_audit.proofs.world.World.bear.Goals as goal

pub returns-clause-loose : goal.returns-clause-loose
returns-clause-loose c cl sl l =
    row_step c.args.self.now _ c.args.child _ cl sl cl sl c.requires.slot l (let is = l.table in record { last = is.last; running = is.running; ticks = is.ticks })
    (ap (slice_set c.args.self.now.table.rows c.args.child) c.born.ensures)
    (bears (row_at c.args.self.now.table c.args.child) _ cl sl (l.each c.args.child) c.requires.free l.core_some l.swap_some)
