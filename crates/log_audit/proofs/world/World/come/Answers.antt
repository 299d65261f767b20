use Rattle.std.proofs.Common.{◌∙◌, sym, ap}
use Rattle.pick_rules.specs.Board.{core_fit}
use Rattle.log_audit.specs.World.{board_of}
use Rattle.log_audit.proofs.ComeLemmas.{need_plain, may_plain, brought_plain}
use Rattle.log_audit.proofs.world.World.come.Goals as goal

pub come_beside-requires-clause-may : goal.come_beside-requires-clause-may
come_beside-requires-clause-may c = may_plain (board_of c.args.self.now) c.args.s c.in-None.is

pub come_beside-requires-clause-found : goal.come_beside-requires-clause-found
come_beside-requires-clause-found c = ap (core_fit (board_of c.args.self.now)) (sym (need_plain (board_of c.args.self.now) c.args.s c.in-None.is)) ∙ c.requires.found

pub returns-in-None-clause-board : goal.returns-in-None-clause-board
returns-in-None-clause-board c = c.come_beside.ensures.board ∙ brought_plain (board_of c.args.self.now) c.args.s c.args.c c.in-None.is
