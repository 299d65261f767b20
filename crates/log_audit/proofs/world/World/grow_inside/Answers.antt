use Rattle.std.proofs.Common.{◌≡◌, ◌∙◌, ap, subst, [], ◌∷◌, arith}
use Rattle.pick_rules.specs.Table.{row_at, with_row}
use Rattle.log_audit.specs.declared.world.World.{World}
use Rattle.log_audit.specs.World.{board_of, in_at}
use Rattle.log_audit.specs.Sound.{IsLoose}
use Rattle.log_audit.proofs.Claims.{range}
use Rattle.log_audit.proofs.GrowthLemmas.{grown_board}
use Rattle.log_audit.proofs.Images.{in_whole}
use Rattle.log_audit.proofs.world.World.grow_inside.Goals as goal

pub give_core-requires : goal.give_core-requires
give_core-requires c =
    let same : (row_at c.claim_core.new.self.table c.args.s).size ≡ (row_at c.args.self.now.table c.args.s).size = ap (λ (w : World). (row_at w.table c.args.s).size) c.claim_core.ensures.same in
    record { loose = ([], [], subst (λ n. IsLoose c.shift.new.self (range c.args.from n ∷ []) []) same (c.shift.ensures.loose [] [] c.claim_core.ensures.loose), omega arith) }

pub returns-clause-board : goal.returns-clause-board
returns-clause-board c =
    ap board_of c.give_core.ensures.same ∙ ap board_of c.shift.ensures.same
    ∙ ap (λ (w : World). board_of (record w { table = with_row w.table c.args.s (in_at (row_at w.table c.args.s) c.args.clicks c.args.to) })) c.claim_core.ensures.same
    ∙ grown_board c.args.self.now c.args.s c.args.clicks c.args.from c.args.to c.requires.whole.loose c.requires.slot c.requires.user c.requires.place

pub returns-clause-whole : goal.returns-clause-whole
returns-clause-whole c =
    let same : (row_at c.claim_core.new.self.table c.args.s).size ≡ (row_at c.args.self.now.table c.args.s).size = ap (λ (w : World). (row_at w.table c.args.s).size) c.claim_core.ensures.same in
    in_whole c.args.self.now c.give_core.new.self c.args.s c.args.clicks c.args.to c.requires.whole c.requires.slot
    (ap (λ (w : World). w.table) c.give_core.ensures.same ∙ ap (λ (w : World). w.table) c.shift.ensures.same
    ∙ ap (λ (w : World). with_row w.table c.args.s (in_at (row_at w.table c.args.s) c.args.clicks c.args.to)) c.claim_core.ensures.same)
    (c.give_core.ensures.loose [] [] (subst (λ n. IsLoose c.shift.new.self (range c.args.from n ∷ []) []) same (c.shift.ensures.loose [] [] c.claim_core.ensures.loose)))
