use Rattle.std.proofs.Common.{◌∙◌, sym, ap, subst, [], ◌∷◌, arith}
use Rattle.std.proofs.lemmas.Bool.{ne_eqb}
use Rattle.log_audit.specs.declared.world.World.{World}
use Rattle.log_audit.specs.World.{board_of}
use Rattle.log_audit.specs.Sound.{IsLoose}
use Rattle.log_audit.proofs.Claims.{range}
use Rattle.log_audit.proofs.RowLemmas.{same_whole}
use Rattle.log_audit.proofs.PartLemmas.{gone_text, kept_text}
use Rattle.log_audit.proofs.world.World.go_if_unused.Goals as goal

pub give_swap-requires : goal.give_swap-requires
give_swap-requires c =
    record { loose = ([], [], subst (λ n. IsLoose c.forget.new.self [] (range c.in-Some.text.block n ∷ [])) (sym c.blocks_of.ensures) (c.forget.ensures.loose [] [] c.requires.whole.loose), omega arith) }

pub returns-then-text-eq0-clause-board : goal.returns-then-text-eq0-clause-board
returns-then-text-eq0-clause-board c =
    ap board_of c.give_swap.ensures.same ∙ ap board_of c.forget.ensures.same
    ∙ gone_text c.args.self.now c.args.k c.in-Some.text (sym c.text_of.ensures ∙ c.in-Some.is) c.if-text-eq0.true

pub returns-then-text-eq0-clause-whole : goal.returns-then-text-eq0-clause-whole
returns-then-text-eq0-clause-whole c =
    same_whole c.args.self.now c.give_swap.new.self c.requires.whole
    (ap (λ (w : World). w.table) c.give_swap.ensures.same ∙ ap (λ (w : World). w.table) c.forget.ensures.same)
    (c.give_swap.ensures.loose [] [] (subst (λ n. IsLoose c.forget.new.self [] (range c.in-Some.text.block n ∷ [])) (sym c.blocks_of.ensures) (c.forget.ensures.loose [] [] c.requires.whole.loose)))

pub returns-else-text-eq0-clause-board : goal.returns-else-text-eq0-clause-board
returns-else-text-eq0-clause-board c =
    kept_text c.args.self.now c.args.k c.in-Some.text (sym c.text_of.ensures ∙ c.in-Some.is) (ne_eqb c.in-Some.text.users 0 c.if-text-eq0.false)
