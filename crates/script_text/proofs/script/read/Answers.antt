use Rattle.std.proofs.Common.{rules, arith, ◌≡◌, ◌∙◌, ◌++◌, sym, ap, Some}
use Rattle.std.specs.Option.{option_map}
use Rattle.script_text.specs.Command.{events_of_line}
use Rattle.script_text.specs.Asked.{events_of}
use Rattle.script_text.proofs.ScriptLemmas.{read_more}
use Rattle.script_text.proofs.script.read.Goals as goal

pub lines-preserved : goal.lines-preserved
lines-preserved c =
    let first = c.first_line-first in
    let asked = events_of c.in-Some.command in
    let is : events_of_line first.result.line.now ≡ Some asked =
    sym c.command_of_line.ensures.events ∙ ap (option_map events_of) c.in-Some.is in
    let pushed : c.push.new.events.items ≡ c.lines.events.items ++ asked = search rules in
    rw (pushed, c.slots_asked-more.ensures)
    (read_more _ _ _ _ _ c.lines.invariant _ _ first.ensures.first asked is
    (omega (arith, c.slots_asked-more.ensures)) first.ensures.shorter)
