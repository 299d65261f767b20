use Rattle.std.proofs.Common.{◌∙◌, sym, ap}
use Rattle.pick_rules.specs.Board.{core_fit}
use Rattle.log_audit.specs.World.{board_of}
use Rattle.log_audit.proofs.ComeLemmas.{need_there, need_away, may_there, brought_there}
use Rattle.log_audit.proofs.world.World.come_shared.Goals as goal

pub come_behind-requires-clause-found : goal.come_behind-requires-clause-found
come_behind-requires-clause-found c =
    ap (core_fit (board_of c.args.self.now)) (sym (need_away c.args.self.now c.args.s c.args.k c.in-Some.text c.requires.shared (sym c.text_of.ensures ∙ c.in-Some.is) c.if-text-eq0.true)) ∙ c.requires.found

pub come_beside-requires-clause-may : goal.come_beside-requires-clause-may
come_beside-requires-clause-may c = may_there c.args.self.now c.args.s c.args.k c.in-Some.text c.requires.shared (sym c.text_of.ensures ∙ c.in-Some.is) c.if-text-eq0.false

pub come_beside-requires-clause-found : goal.come_beside-requires-clause-found
come_beside-requires-clause-found c =
    ap (core_fit (board_of c.args.self.now)) (sym (need_there c.args.self.now c.args.s c.args.k c.in-Some.text c.requires.shared (sym c.text_of.ensures ∙ c.in-Some.is) c.if-text-eq0.false)) ∙ c.requires.found

pub returns-else-text-eq0-clause-board : goal.returns-else-text-eq0-clause-board
returns-else-text-eq0-clause-board c =
    c.come_beside.ensures.board ∙ brought_there c.args.self.now c.args.s c.args.k c.args.c c.in-Some.text c.requires.shared (sym c.text_of.ensures ∙ c.in-Some.is) c.if-text-eq0.false
