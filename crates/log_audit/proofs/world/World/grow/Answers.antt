use Rattle.std.proofs.Common.{◌∙◌, ap, Some}
use Rattle.log_audit.specs.World.{board_of}
use Rattle.log_audit.proofs.Images.{found_core, found_swap}
use Rattle.log_audit.proofs.world.World.grow.Goals as goal

pub grow_in-requires-clause-may : goal.grow_in-requires-clause-may
grow_in-requires-clause-may c = (found_core (board_of c.args.self.now) c.args.s c.args.clicks c.in-Core.to (c.requires.found ∙ ap Some c.in-Core.is)).0

pub grow_in-requires-clause-found : goal.grow_in-requires-clause-found
grow_in-requires-clause-found c = (found_core (board_of c.args.self.now) c.args.s c.args.clicks c.in-Core.to (c.requires.found ∙ ap Some c.in-Core.is)).1

pub go_out-requires-clause-found : goal.go_out-requires-clause-found
go_out-requires-clause-found c = found_swap (board_of c.args.self.now) c.args.s c.args.clicks c.in-Swap.block (c.requires.found ∙ ap Some c.in-Swap.is)
