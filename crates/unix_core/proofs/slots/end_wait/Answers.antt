use Rattle.unix_core.specs.declared.world.World.{World}
use Rattle.unix_core.proofs.WorldLemmas.{ready_alive}
use Rattle.unix_core.proofs.WaitLemmas.{rest_come, rest_ready}
use Rattle.unix_core.proofs.slots.end_wait.Goals as goal

pub set_call-requires : goal.set_call-requires
set_call-requires c = (ready_alive c.args.world.now c.args.s c.requires).image

pub returns-clause-come : goal.returns-clause-come
returns-clause-come c =
    let w : World = c.args.world.now in
    rest_come w c.args.s c.requires c.set_call.new.self c.set_call.ensures.kept

pub returns-clause-ready : goal.returns-clause-ready
returns-clause-ready c =
    let w : World = c.args.world.now in
    rest_ready w c.args.s c.requires c.set_call.new.self c.set_call.ensures.kept
