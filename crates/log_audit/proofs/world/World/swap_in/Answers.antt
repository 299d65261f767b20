use Rattle.std.proofs.Common.{◌∙◌, ap, []}
use Rattle.pick_rules.specs.Board.{Board}
use Rattle.pick_rules.specs.Apply.{applied, in_table, change_row}
use Rattle.log_audit.specs.World.{board_of, rested}
use Rattle.log_audit.proofs.ComeLemmas.{come_whole}
use Rattle.log_audit.proofs.world.World.swap_in.Goals as goal

pub rest-requires-clause-loose : goal.rest-requires-clause-loose
rest-requires-clause-loose c = ([], [], c.come.ensures.loose)

pub returns-clause-board : goal.returns-clause-board
unfolding applied
returns-clause-board c =
    ap board_of c.rest.ensures.same ∙ ap (λ (b : Board). in_table b (λ t. change_row t c.args.s rested)) c.come.ensures.board

pub returns-clause-whole : goal.returns-clause-whole
unfolding applied
returns-clause-whole c =
    come_whole c.args.self.now c.rest.new.self c.args.s c.args.c c.requires.whole c.requires.slot (record { used = c.requires.used; alive = c.requires.alive })
    (ap board_of c.rest.ensures.same ∙ ap (λ (b : Board). in_table b (λ t. change_row t c.args.s rested)) c.come.ensures.board)
    (c.rest.ensures.loose [] [] c.come.ensures.loose)
