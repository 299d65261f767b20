use Rattle.std.proofs.Common.{refl, sym, subst, Some}
use Rattle.log_audit.specs.World.{first_at}
use Rattle.log_audit.proofs.Steps.{TextStep, text_step}
use Rattle.log_audit.proofs.Moves.{clicks_set}
use Rattle.log_audit.proofs.world.World.set_click.Goals as goal

pub returns-clause-loose : goal.returns-clause-loose
returns-clause-loose c cl sl l =
    text_step c.args.self.now _ c.args.k _ cl sl cl sl c.requires.small l refl
    (subst (λ was. TextStep was (Some (first_at c.args.text c.args.c)) cl sl cl sl) (sym c.requires.text)
    (clicks_set c.args.text c.args.c cl sl (l.entries c.args.k c.args.text c.requires.text) c.requires.away l.core_some l.swap_some))
