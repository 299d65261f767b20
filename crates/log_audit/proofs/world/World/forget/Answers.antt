use Rattle.std.proofs.Common.{refl, sym, subst, ◌∷◌, None}
use Rattle.pick_rules.specs.Board.{blocks}
use Rattle.log_audit.proofs.Claims.{range}
use Rattle.log_audit.proofs.Steps.{TextStep, text_step}
use Rattle.log_audit.proofs.Moves.{forgets}
use Rattle.log_audit.proofs.Shared.{unused_out}
use Rattle.log_audit.proofs.world.World.forget.Goals as goal

pub returns-clause-loose : goal.returns-clause-loose
returns-clause-loose c cl sl l =
    text_step c.args.self.now _ c.args.k _ cl sl cl _ c.requires.small l refl
    (subst (λ was. TextStep was None cl sl cl (range c.args.text.block (blocks c.args.text.clicks) ∷ sl)) (sym c.requires.text)
    (forgets c.args.text cl sl (l.entries c.args.k c.args.text c.requires.text) c.requires.unused (unused_out c.args.self.now c.args.k c.args.text cl sl l c.requires.text c.requires.unused) l.core_some l.swap_some))
