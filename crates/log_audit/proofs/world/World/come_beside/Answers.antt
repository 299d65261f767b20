use Rattle.std.proofs.Common.{◌∙◌, ap, [], ◌∷◌, arith}
use Rattle.pick_rules.specs.Table.{row_at}
use Rattle.pick_rules.specs.Apply.{without_place}
use Rattle.log_audit.specs.declared.world.World.{World}
use Rattle.log_audit.specs.World.{board_of}
use Rattle.log_audit.proofs.Claims.{range}
use Rattle.log_audit.proofs.ComeLemmas.{may_still, come_board}
use Rattle.log_audit.proofs.world.World.come_beside.Goals as goal

pub release-requires-clause-loose : goal.release-requires-clause-loose
release-requires-clause-loose c = (range c.args.c (row_at c.args.self.now.table c.args.s).size ∷ [], [], c.claim_core.ensures.loose, omega arith, omega arith)

pub stand_in-requires-clause-may : goal.stand_in-requires-clause-may
stand_in-requires-clause-may c =
    let n = c.requires.whole.loose.rows in
    let m = c.requires.slot in
    may_still c.args.self.now c.release.new.self c.args.s c.args.block (omega (arith, n, m)) c.requires.user c.requires.place
    (c.release.ensures.board ∙ ap (λ (w : World). without_place (board_of w) c.args.s) c.claim_core.ensures.same) c.requires.may

pub stand_in-requires-clause-loose : goal.stand_in-requires-clause-loose
stand_in-requires-clause-loose c = c.release.ensures.loose (range c.args.c (row_at c.args.self.now.table c.args.s).size ∷ []) [] c.claim_core.ensures.loose

pub returns-clause-board : goal.returns-clause-board
returns-clause-board c =
    let n = c.requires.whole.loose.rows in
    let m = c.requires.slot in
    c.stand_in.ensures.board
    ∙ come_board c.args.self.now c.release.new.self c.args.s (row_at c.args.self.now.table c.args.s).size c.args.block c.args.c (omega (arith, n, m)) c.requires.user c.requires.place
    (c.release.ensures.board ∙ ap (λ (w : World). without_place (board_of w) c.args.s) c.claim_core.ensures.same)
