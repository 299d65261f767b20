use Rattle.unix_core.specs.Slots.{passed_in}
use Rattle.unix_core.proofs.SendLines.{unpaced_none}
use Rattle.unix_core.proofs.slots.renew.Goals as goal

pub returns-else-world-ne0-clause-counted : goal.returns-else-world-ne0-clause-counted
returns-else-world-ne0-clause-counted c = record {
  timed = c.requires.timed;
  sends = λ some. unpaced_none c.args.world.now.slots (passed_in c.args.world.now.slots) c.if-world-ne0.false;
}
