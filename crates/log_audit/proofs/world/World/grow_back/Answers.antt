use Rattle.std.proofs.Common.{◌∙◌, ap, [], ◌∷◌, arith}
use Rattle.v6_base.specs.declared.entry.Place.TheVariants.{Core}
use Rattle.pick_rules.specs.Board.{Board}
use Rattle.pick_rules.specs.Apply.{at_place, without_place}
use Rattle.log_audit.specs.declared.world.World.{World}
use Rattle.log_audit.specs.World.{board_of}
use Rattle.log_audit.proofs.Claims.{range}
use Rattle.log_audit.proofs.ComeLemmas.{may_still, in_again}
use Rattle.log_audit.proofs.world.World.grow_back.Goals as goal

pub release-requires-clause-loose : goal.release-requires-clause-loose
release-requires-clause-loose c = (range c.args.to c.args.clicks ∷ [], [], c.claim_core.ensures.loose, omega arith, omega arith)

pub stand_in-requires-clause-may : goal.stand_in-requires-clause-may
stand_in-requires-clause-may c =
    let n = c.requires.whole.loose.rows in
    let m = c.requires.slot in
    may_still c.args.self.now c.release.new.self c.args.s c.args.block (omega (arith, n, m)) c.requires.user c.requires.place
    (c.release.ensures.board ∙ ap (λ (w : World). without_place (board_of w) c.args.s) c.claim_core.ensures.same) c.requires.may

pub stand_in-requires-clause-loose : goal.stand_in-requires-clause-loose
stand_in-requires-clause-loose c = c.release.ensures.loose (range c.args.to c.args.clicks ∷ []) [] c.claim_core.ensures.loose

pub returns-clause-board : goal.returns-clause-board
returns-clause-board c =
    c.stand_in.ensures.board
    ∙ ap (λ (b : Board). at_place b c.args.s c.args.clicks (Core c.args.to)) (c.release.ensures.board ∙ ap (λ (w : World). without_place (board_of w) c.args.s) c.claim_core.ensures.same)

pub returns-clause-whole : goal.returns-clause-whole
returns-clause-whole c =
    in_again c.args.self.now c.stand_in.new.self c.args.s c.args.clicks c.args.to c.requires.whole c.requires.slot
    (c.stand_in.ensures.board
    ∙ ap (λ (b : Board). at_place b c.args.s c.args.clicks (Core c.args.to)) (c.release.ensures.board ∙ ap (λ (w : World). without_place (board_of w) c.args.s) c.claim_core.ensures.same))
    c.stand_in.ensures.loose
