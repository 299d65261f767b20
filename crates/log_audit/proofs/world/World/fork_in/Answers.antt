use Rattle.std.proofs.Common.{◌∙◌, sym, ap, [], ◌∷◌, arith}
use Rattle.v6_base.specs.declared.entry.Place.TheVariants.{Core}
use Rattle.pick_rules.specs.Table.{row_at, with_row, child_row}
use Rattle.pick_rules.specs.Board.{Board}
use Rattle.pick_rules.specs.Apply.{applied, at_place, in_table, joins}
use Rattle.log_audit.specs.declared.world.World.{World}
use Rattle.log_audit.specs.World.{board_of}
use Rattle.log_audit.specs.Sound.{entry_at}
use Rattle.log_audit.proofs.Claims.{range}
use Rattle.log_audit.proofs.ForkLemmas.{text_there, child_may, child_in}
use Rattle.log_audit.proofs.world.World.fork_in.Goals as goal

pub make_child-requires-clause-loose : goal.make_child-requires-clause-loose
make_child-requires-clause-loose c = (range c.args.c (row_at c.args.self.now.table c.args.s).size ∷ [], [], c.claim_core.ensures.loose)

pub make_child-requires-clause-text : goal.make_child-requires-clause-text
make_child-requires-clause-text c k e =
    let h = text_there c.args.self.now c.args.s k c.requires.whole c.requires.slot e in
    (h.0, λ f. h.1 (ap (λ (w : World). entry_at w.texts k) (sym c.claim_core.ensures.same) ∙ f))

pub stand_in-requires-clause-most : goal.stand_in-requires-clause-most
stand_in-requires-clause-most c = (c.requires.whole.loose.each c.args.s).most

pub stand_in-requires-clause-may : goal.stand_in-requires-clause-may
stand_in-requires-clause-may c =
    let n = c.requires.whole.loose.rows in
    let m = c.requires.child in
    child_may (board_of c.args.self.now) (board_of c.make_child.new.self) c.args.child (row_at c.args.self.now.table c.args.s) (omega (arith, n, m))
    (c.make_child.ensures.board ∙ ap (λ (w : World). joins (in_table (board_of w) (λ t. with_row t c.args.child (child_row (row_at c.args.self.now.table c.args.s)))) (row_at c.args.self.now.table c.args.s).text) c.claim_core.ensures.same)
    c.requires.may

pub stand_in-requires-clause-loose : goal.stand_in-requires-clause-loose
stand_in-requires-clause-loose c = c.make_child.ensures.loose (range c.args.c (row_at c.args.self.now.table c.args.s).size ∷ []) [] c.claim_core.ensures.loose

pub returns-clause-board : goal.returns-clause-board
unfolding applied
returns-clause-board c =
    c.stand_in.ensures.board
    ∙ ap (λ (b : Board). at_place b c.args.child (row_at c.args.self.now.table c.args.s).size (Core c.args.c))
    (c.make_child.ensures.board ∙ ap (λ (w : World). joins (in_table (board_of w) (λ t. with_row t c.args.child (child_row (row_at c.args.self.now.table c.args.s)))) (row_at c.args.self.now.table c.args.s).text) c.claim_core.ensures.same)

pub returns-clause-whole : goal.returns-clause-whole
returns-clause-whole c =
    child_in c.args.self.now c.stand_in.new.self c.make_child.new.self c.args.child (row_at c.args.self.now.table c.args.s).size c.args.c (row_at c.args.self.now.table c.args.s) c.requires.whole c.requires.child
    (c.make_child.ensures.table ∙ ap (λ (w : World). with_row w.table c.args.child (child_row (row_at c.args.self.now.table c.args.s))) c.claim_core.ensures.same)
    c.stand_in.ensures.board c.stand_in.ensures.loose
