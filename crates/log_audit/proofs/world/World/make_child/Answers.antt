use Rattle.std.proofs.Common.{rules, ◌≡◌, ◌∙◌, ℤ, FitsSigned, w8, sym, ap, arith}
use Rattle.std.proofs.lemmas.Int.{to_z-of_z}
use Rattle.pick_rules.specs.Table.{row_at, with_row}
use Rattle.log_audit.specs.declared.world.World.{World}
use Rattle.log_audit.specs.World.{board_of, born, sharing}
use Rattle.log_audit.specs.Sound.{entry_at}
use Rattle.log_audit.proofs.Images.{few_users}
use Rattle.log_audit.proofs.ForkLemmas.{shared_table, shared_board, joined, with_child}
use Rattle.log_audit.proofs.world.World.make_child.Goals as goal

pub join-requires-clause-few : goal.join-requires-clause-few
join-requires-clause-few c =
    few_users c.bear.new.self c.in-Some.k _ _ (c.bear.ensures.loose c.requires.loose.0 c.requires.loose.1 c.requires.loose.2) c.in-Some-text_of.text (sym c.text_of.ensures ∙ c.in-Some-text_of.is)

pub returns-in-Some-text_of-clause-board : goal.returns-in-Some-text_of-clause-board
returns-in-Some-text_of-clause-board c =
    let fits : FitsSigned w8 c.args.parent.nice = search rules in
    let n = c.requires.loose.2.rows in let m = c.requires.slot in
    let same : c.bear.new.self ≡ with_child c.args.self.now c.args.child c.args.parent =
    c.bear.ensures.same ∙ ap (λ (z : ℤ). record c.args.self.now { table = with_row c.args.self.now.table c.args.child (born z) }) (to_z-of_z w8 c.args.parent.nice fits) in
    ap board_of c.join.ensures.same ∙ ap (λ (w : World). board_of (joined w c.args.child c.in-Some.k c.in-Some-text_of.text)) same
    ∙ shared_board c.args.self.now c.args.child c.in-Some.k c.args.parent c.in-Some-text_of.text (omega (arith, n, m)) c.in-Some.is
    (ap (λ (w : World). entry_at w.texts c.in-Some.k) (sym same) ∙ sym c.text_of.ensures ∙ c.in-Some-text_of.is)

pub returns-in-Some-text_of-clause-table : goal.returns-in-Some-text_of-clause-table
returns-in-Some-text_of-clause-table c =
    let fits : FitsSigned w8 c.args.parent.nice = search rules in
    let n = c.requires.loose.2.rows in let m = c.requires.slot in
    let same : c.bear.new.self ≡ with_child c.args.self.now c.args.child c.args.parent =
    c.bear.ensures.same ∙ ap (λ (z : ℤ). record c.args.self.now { table = with_row c.args.self.now.table c.args.child (born z) }) (to_z-of_z w8 c.args.parent.nice fits) in
    ap (λ (w : World). w.table) c.join.ensures.same ∙ ap (λ (w : World). with_row w.table c.args.child (sharing (row_at w.table c.args.child) c.in-Some.k)) same
    ∙ shared_table c.args.self.now.table c.args.child c.in-Some.k c.args.parent (omega (arith, n, m)) c.in-Some.is
