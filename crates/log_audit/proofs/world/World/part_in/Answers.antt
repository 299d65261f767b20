use Rattle.std.proofs.Common.{refl, sym, subst, Some}
use Rattle.pick_rules.specs.Table.{row_at}
use Rattle.log_audit.specs.World.{unshared, less_used, less_loaded}
use Rattle.log_audit.proofs.Steps.{SeatStep, seat_step}
use Rattle.log_audit.proofs.Moves.{parts_in, gone_with}
use Rattle.log_audit.proofs.world.World.part_in.Goals as goal

pub returns-clause-loose : goal.returns-clause-loose
returns-clause-loose c cl sl l =
    seat_step c.args.self.now _ _ c.args.s c.args.k _ _ cl sl _ sl c.requires.slot c.requires.small l (let is = l.table in record { last = is.last; running = is.running; ticks = is.ticks }) refl refl
    (subst (λ was. SeatStep (row_at c.args.self.now.table c.args.s) (unshared (row_at c.args.self.now.table c.args.s)) was (Some (less_used (less_loaded c.args.text))) c.args.k cl sl (gone_with c.args.text cl) sl) (sym c.requires.text)
    (parts_in (row_at c.args.self.now.table c.args.s) c.args.text c.args.k cl sl (l.each c.args.s) (l.entries c.args.k c.args.text c.requires.text) c.requires.there c.requires.shared c.requires.used c.requires.loaded l.core_some l.swap_some))
