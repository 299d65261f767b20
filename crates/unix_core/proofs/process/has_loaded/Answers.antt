use Rattle.std.proofs.Common.{◌∙◌, sym}
use Rattle.abstract_unix.specs.Calls.{loads_program}
use Rattle.abstract_unix.proofs.AtOnce.{at_once}
use Rattle.unix_core.specs.Parts.{unix_of}
use Rattle.unix_core.proofs.WaitLemmas.{some_takes}
use Rattle.unix_core.proofs.process.has_loaded.Goals as goal

pub returns-then-world-eq0 : goal.returns-then-world-eq0
returns-then-world-eq0 c = sym ((at_once (unix_of c.args.world.now)).waits c.if-world-eq0.true (loads_program c.args.call c.args.answer))

pub returns : goal.returns
returns c = c.loads_program.ensures ∙ some_takes (loads_program c.args.call c.args.answer) c.args.world.now.slots.disk c.if-world-eq0.false
