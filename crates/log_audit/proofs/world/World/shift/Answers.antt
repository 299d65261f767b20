use Rattle.std.proofs.Common.{refl}
use Rattle.pick_rules.specs.Table.{row_at}
use Rattle.log_audit.proofs.Steps.{row_step}
use Rattle.log_audit.proofs.Moves.{shifts}
use Rattle.log_audit.proofs.world.World.shift.Goals as goal

pub returns-clause-loose : goal.returns-clause-loose
returns-clause-loose c cl sl l =
    row_step c.args.self.now _ c.args.s _ _ sl _ sl c.requires.slot l (let is = l.table in record { last = is.last; running = is.running; ticks = is.ticks }) refl
    (shifts (row_at c.args.self.now.table c.args.s) c.args.from c.args.to c.args.clicks cl sl (l.each c.args.s) (record { used = c.requires.used; alive = c.requires.alive }) c.requires.place c.requires.some c.requires.most l.core_some.1 l.swap_some)
