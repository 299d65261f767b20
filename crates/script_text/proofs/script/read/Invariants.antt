use Rattle.std.proofs.Common.{length}
use Rattle.script_text.proofs.ScriptLemmas.{HasRead}
use Rattle.script_text.proofs.script.read.Given as goal

abbrev pub invariant-lines : goal.invariant-lines
invariant-lines l = HasRead l.bytes l.rest l.line l.slots l.events.items

abbrev pub decreases-lines : goal.decreases-lines
decreases-lines l = length l.rest
