use Rattle.std.proofs.Common.{◌∙◌, sym, ap, subst, [], ◌∷◌}
use Rattle.v6_base.specs.declared.entry.Place.TheVariants.{Swap}
use Rattle.pick_rules.specs.Table.{row_at, with_row, child_row}
use Rattle.pick_rules.specs.Board.{Board}
use Rattle.pick_rules.specs.Apply.{applied, at_place, in_table, joins}
use Rattle.log_audit.specs.declared.world.World.{World}
use Rattle.log_audit.specs.World.{board_of}
use Rattle.log_audit.specs.Sound.{IsLoose, entry_at}
use Rattle.log_audit.proofs.Claims.{range}
use Rattle.log_audit.proofs.ForkLemmas.{text_there, child_out}
use Rattle.log_audit.proofs.world.World.fork_out.Goals as goal

pub make_child-requires-clause-loose : goal.make_child-requires-clause-loose
make_child-requires-clause-loose c = ([], range c.args.block c.blocks_of.result ∷ [], c.claim_swap.ensures.loose)

pub make_child-requires-clause-text : goal.make_child-requires-clause-text
make_child-requires-clause-text c k e =
    let h = text_there c.args.self.now c.args.s k c.requires.whole c.requires.slot e in
    (h.0, λ f. h.1 (ap (λ (w : World). entry_at w.texts k) (sym c.claim_swap.ensures.same) ∙ f))

pub stand_out-requires-clause-most : goal.stand_out-requires-clause-most
stand_out-requires-clause-most c = (c.requires.whole.loose.each c.args.s).most

pub stand_out-requires-clause-loose : goal.stand_out-requires-clause-loose
stand_out-requires-clause-loose c =
    subst (λ n. IsLoose c.make_child.new.self [] (range c.args.block n ∷ [])) c.blocks_of.ensures
    (c.make_child.ensures.loose [] (range c.args.block c.blocks_of.result ∷ []) c.claim_swap.ensures.loose)

pub returns-clause-board : goal.returns-clause-board
unfolding applied
returns-clause-board c =
    c.stand_out.ensures.board
    ∙ ap (λ (b : Board). at_place b c.args.child (row_at c.args.self.now.table c.args.s).size (Swap c.args.block))
    (c.make_child.ensures.board ∙ ap (λ (w : World). joins (in_table (board_of w) (λ t. with_row t c.args.child (child_row (row_at c.args.self.now.table c.args.s)))) (row_at c.args.self.now.table c.args.s).text) c.claim_swap.ensures.same)

pub returns-clause-whole : goal.returns-clause-whole
returns-clause-whole c =
    child_out c.args.self.now c.stand_out.new.self c.make_child.new.self c.args.child (row_at c.args.self.now.table c.args.s).size c.args.block (row_at c.args.self.now.table c.args.s) c.requires.whole c.requires.child
    (c.make_child.ensures.table ∙ ap (λ (w : World). with_row w.table c.args.child (child_row (row_at c.args.self.now.table c.args.s))) c.claim_swap.ensures.same)
    c.stand_out.ensures.board c.stand_out.ensures.loose
