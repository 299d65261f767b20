use Rattle.std.proofs.Common.{◌≡◌, ◌++◌, map, take}
use Rattle.script_text.specs.declared.script.Event.TheVariants as event
use Rattle.script_text.proofs.command.push_keys.Given as goal

abbrev pub invariant-loop-byte : goal.invariant-loop-byte
invariant-loop-byte l = l.events.items ≡ l.fn.events.items ++ map event.Byte (take l.byte-index l.text)
