use Rattle.std.proofs.Common.{◌∙◌, ap, Some}
use Rattle.pick_rules.specs.Table.{row_at}
use Rattle.log_audit.specs.World.{board_of}
use Rattle.log_audit.proofs.Images.{found_core, found_swap}
use Rattle.log_audit.proofs.world.World.fork.Goals as goal

pub fork_in-requires-clause-may : goal.fork_in-requires-clause-may
fork_in-requires-clause-may c = (found_core (board_of c.args.self.now) c.args.s (row_at c.args.self.now.table c.args.s).size c.in-Core.c (c.requires.found ∙ ap Some c.in-Core.is)).0

pub fork_in-requires-clause-found : goal.fork_in-requires-clause-found
fork_in-requires-clause-found c = (found_core (board_of c.args.self.now) c.args.s (row_at c.args.self.now.table c.args.s).size c.in-Core.c (c.requires.found ∙ ap Some c.in-Core.is)).1

pub fork_out-requires-clause-found : goal.fork_out-requires-clause-found
fork_out-requires-clause-found c = found_swap (board_of c.args.self.now) c.args.s (row_at c.args.self.now.table c.args.s).size c.in-Swap.block (c.requires.found ∙ ap Some c.in-Swap.is)
