use Rattle.std.proofs.Common.{◌∙◌, ◌+◌, refl, sym, ap, [], ◌∷◌, arith}
use Rattle.pick_rules.specs.declared.row.TableRow.{TableRow}
use Rattle.pick_rules.specs.Table.{row_at, with_row, is_empty, is_zombie}
use Rattle.pick_rules.specs.Apply.{without_place}
use Rattle.log_audit.specs.declared.world.World.{World}
use Rattle.log_audit.specs.World.{board_of, unplaced, first_at}
use Rattle.log_audit.specs.Sound.{entry_at}
use Rattle.log_audit.proofs.Claims.{range, claim_end}
use Rattle.log_audit.proofs.Shared.{HasEntry, has_entry, stood_shared}
use Rattle.log_audit.proofs.ComeLemmas.{both_claimed, clicked, clicked_there, text_left, come_board, brought_away, released, inside_whole}
use Rattle.log_audit.proofs.world.World.come_behind.Goals as goal

pub overflow_add-both : goal.overflow_add-both
overflow_add-both c =
    let a = (c.requires.whole.loose.each c.args.s).most in
    let b = (c.requires.whole.loose.entries c.args.k c.args.text c.requires.text).most in omega (arith, a, b)

pub overflow_add-behind : goal.overflow_add-behind
overflow_add-behind c =
    let e = claim_end c.claim_core.new.self c.args.c ((row_at c.args.self.now.table c.args.s).size + c.args.text.clicks) [] [] c.claim_core.ensures.loose in omega (arith, e)

pub claim_core-requires-clause-some : goal.claim_core-requires-clause-some
claim_core-requires-clause-some c = let b = (c.requires.whole.loose.entries c.args.k c.args.text c.requires.text).some in omega (arith, b)

pub set_click-requires-clause-loose : goal.set_click-requires-clause-loose
set_click-requires-clause-loose c = (range c.args.c ((row_at c.args.self.now.table c.args.s).size + c.args.text.clicks) ∷ [], [], c.claim_core.ensures.loose)

pub set_click-requires-clause-text : goal.set_click-requires-clause-text
set_click-requires-clause-text c = ap (λ (w : World). entry_at w.texts c.args.k) c.claim_core.ensures.same ∙ c.requires.text

pub set_click-requires-clause-small : goal.set_click-requires-clause-small
set_click-requires-clause-small c =
    let h : HasEntry c.args.self.now c.args.s c.args.k = has_entry c.args.self.now c.args.s c.args.k [] [] c.requires.whole.loose c.requires.slot c.requires.shared in h.small

pub release-requires-clause-loose : goal.release-requires-clause-loose
release-requires-clause-loose c =
    let n = (row_at c.args.self.now.table c.args.s).size + c.args.text.clicks in
    (range c.args.c n ∷ [], [], c.set_click.ensures.loose (range c.args.c n ∷ []) [] c.claim_core.ensures.loose, omega arith, omega arith)

pub release-requires-clause-alive : goal.release-requires-clause-alive
release-requires-clause-alive c =
    ap (λ (w : World). is_zombie (row_at w.table c.args.s).stat) c.set_click.ensures.same ∙ ap (λ (w : World). is_zombie (row_at w.table c.args.s).stat) c.claim_core.ensures.same ∙ c.requires.alive

pub release-requires-clause-placed : goal.release-requires-clause-placed
release-requires-clause-placed c e =
    let f = sym (ap (λ (w : World). (row_at w.table c.args.s).place) c.set_click.ensures.same ∙ ap (λ (w : World). (row_at w.table c.args.s).place) c.claim_core.ensures.same ∙ c.requires.place) ∙ e in cc f

pub stand_shared-requires-clause-loose : goal.stand_shared-requires-clause-loose
stand_shared-requires-clause-loose c =
    let n = (row_at c.args.self.now.table c.args.s).size + c.args.text.clicks in
    (range c.args.c n ∷ [], [], c.release.ensures.loose (range c.args.c n ∷ []) [] (c.set_click.ensures.loose (range c.args.c n ∷ []) [] c.claim_core.ensures.loose))

pub stand_shared-requires-clause-bare : goal.stand_shared-requires-clause-bare
stand_shared-requires-clause-bare c =
    ap (λ (r : TableRow). r.place) (released c.args.self.now c.release.new.self c.args.s c.requires.whole c.requires.slot
    (c.release.ensures.table ∙ ap (λ (w : World). with_row w.table c.args.s (unplaced (row_at w.table c.args.s))) c.set_click.ensures.same ∙ ap (λ (w : World). with_row w.table c.args.s (unplaced (row_at w.table c.args.s))) c.claim_core.ensures.same))

pub stand_shared-requires-clause-used : goal.stand_shared-requires-clause-used
stand_shared-requires-clause-used c =
    ap (λ (r : TableRow). is_empty r.stat) (released c.args.self.now c.release.new.self c.args.s c.requires.whole c.requires.slot
    (c.release.ensures.table ∙ ap (λ (w : World). with_row w.table c.args.s (unplaced (row_at w.table c.args.s))) c.set_click.ensures.same ∙ ap (λ (w : World). with_row w.table c.args.s (unplaced (row_at w.table c.args.s))) c.claim_core.ensures.same))
    ∙ c.requires.used

pub stand_shared-requires-clause-alive : goal.stand_shared-requires-clause-alive
stand_shared-requires-clause-alive c =
    ap (λ (r : TableRow). is_zombie r.stat) (released c.args.self.now c.release.new.self c.args.s c.requires.whole c.requires.slot
    (c.release.ensures.table ∙ ap (λ (w : World). with_row w.table c.args.s (unplaced (row_at w.table c.args.s))) c.set_click.ensures.same ∙ ap (λ (w : World). with_row w.table c.args.s (unplaced (row_at w.table c.args.s))) c.claim_core.ensures.same))
    ∙ c.requires.alive

pub stand_shared-requires-clause-some : goal.stand_shared-requires-clause-some
stand_shared-requires-clause-some c = (c.requires.whole.loose.each c.args.s).some (λ e. let f = sym c.requires.place ∙ e in cc f) c.requires.alive

pub stand_shared-requires-clause-most : goal.stand_shared-requires-clause-most
stand_shared-requires-clause-most c = (c.requires.whole.loose.each c.args.s).most

pub stand_shared-requires-clause-shared : goal.stand_shared-requires-clause-shared
stand_shared-requires-clause-shared c =
    ap (λ (r : TableRow). r.text) (released c.args.self.now c.release.new.self c.args.s c.requires.whole c.requires.slot
    (c.release.ensures.table ∙ ap (λ (w : World). with_row w.table c.args.s (unplaced (row_at w.table c.args.s))) c.set_click.ensures.same ∙ ap (λ (w : World). with_row w.table c.args.s (unplaced (row_at w.table c.args.s))) c.claim_core.ensures.same))
    ∙ c.requires.shared

pub stand_shared-requires-clause-text : goal.stand_shared-requires-clause-text
stand_shared-requires-clause-text c =
    let h : HasEntry c.args.self.now c.args.s c.args.k = has_entry c.args.self.now c.args.s c.args.k [] [] c.requires.whole.loose c.requires.slot c.requires.shared in
    let n = h.small in let m = c.requires.whole.loose.texts in
    text_left (clicked c.args.self.now c.args.k c.args.text c.args.c) c.release.new.self c.args.s c.args.block c.args.k (first_at c.args.text c.args.c) c.requires.user c.requires.place
    (c.release.ensures.board ∙ ap (λ (w : World). without_place (board_of w) c.args.s) c.set_click.ensures.same ∙ ap (λ (w : World). without_place (board_of (clicked w c.args.k c.args.text c.args.c)) c.args.s) c.claim_core.ensures.same)
    (clicked_there c.args.self.now c.args.k c.args.c c.args.text (omega (arith, n, m)))

pub stand_shared-requires-clause-small : goal.stand_shared-requires-clause-small
stand_shared-requires-clause-small c =
    let h : HasEntry c.args.self.now c.args.s c.args.k = has_entry c.args.self.now c.args.s c.args.k [] [] c.requires.whole.loose c.requires.slot c.requires.shared in h.small

pub stand_shared-requires-clause-few : goal.stand_shared-requires-clause-few
stand_shared-requires-clause-few c = let z = c.requires.away in omega (arith, z)

pub returns-clause-board : goal.returns-clause-board
returns-clause-board c =
    let h : HasEntry c.args.self.now c.args.s c.args.k = has_entry c.args.self.now c.args.s c.args.k [] [] c.requires.whole.loose c.requires.slot c.requires.shared in
    let n = h.small in let m = c.requires.whole.loose.texts in
    let left = c.release.ensures.board ∙ ap (λ (w : World). without_place (board_of w) c.args.s) c.set_click.ensures.same ∙ ap (λ (w : World). without_place (board_of (clicked w c.args.k c.args.text c.args.c)) c.args.s) c.claim_core.ensures.same in
    ap board_of c.stand_shared.ensures.same
    ∙ stood_shared c.release.new.self c.args.s (row_at c.args.self.now.table c.args.s).size (c.args.c + c.args.text.clicks) c.args.k (first_at c.args.text c.args.c)
    (ap (λ (r : TableRow). r.text) (released c.args.self.now c.release.new.self c.args.s c.requires.whole c.requires.slot
    (c.release.ensures.table ∙ ap (λ (w : World). with_row w.table c.args.s (unplaced (row_at w.table c.args.s))) c.set_click.ensures.same ∙ ap (λ (w : World). with_row w.table c.args.s (unplaced (row_at w.table c.args.s))) c.claim_core.ensures.same))
    ∙ c.requires.shared)
    (text_left (clicked c.args.self.now c.args.k c.args.text c.args.c) c.release.new.self c.args.s c.args.block c.args.k (first_at c.args.text c.args.c) c.requires.user c.requires.place left
    (clicked_there c.args.self.now c.args.k c.args.c c.args.text (omega (arith, n, m))))
    ∙ come_board (clicked c.args.self.now c.args.k c.args.text c.args.c) c.release.new.self c.args.s (row_at c.args.self.now.table c.args.s).size c.args.block (c.args.c + c.args.text.clicks)
    (inside_whole c.args.self.now c.args.s c.requires.whole c.requires.slot) c.requires.user c.requires.place left
    ∙ brought_away c.args.self.now c.args.s c.args.k c.args.c c.args.text c.requires.shared c.requires.text c.requires.away

pub returns-clause-loose : goal.returns-clause-loose
returns-clause-loose c =
    let n = (row_at c.args.self.now.table c.args.s).size + c.args.text.clicks in
    c.stand_shared.ensures.loose [] []
    (both_claimed c.release.new.self c.args.text c.args.c (row_at c.args.self.now.table c.args.s).size n
    (c.requires.whole.loose.entries c.args.k c.args.text c.requires.text).some
    ((c.requires.whole.loose.each c.args.s).some (λ e. let f = sym c.requires.place ∙ e in cc f) c.requires.alive)
    refl c.requires.away
    (c.release.ensures.loose (range c.args.c n ∷ []) [] (c.set_click.ensures.loose (range c.args.c n ∷ []) [] c.claim_core.ensures.loose)))
