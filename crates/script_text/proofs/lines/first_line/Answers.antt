use Rattle.std.proofs.Common.{◌+◌, ◌-◌, length, drop, arith, rules}
use Rattle.std.proofs.lemmas.List.{take_all, length-drop}
use Rattle.script_text.proofs.LineLemmas.{lines_of-feed, lines_of-last}
use Rattle.script_text.proofs.lines.first_line.Goals as goal

pub returns-in-Some-clause-first : goal.returns-in-Some-clause-first
returns-in-Some-clause-first c =
    let text = c.args.text.now in
    let end = c.in-Some.end in
    let whole = take_all (length text - (end + 1)) (drop (end + 1) text) (omega (arith, length-drop (end + 1) text)) in
    rw (c.without_carriage_return.ensures, whole) (lines_of-feed text end (search rules))

pub returns-in-None-clause-first : goal.returns-in-None-clause-first
returns-in-None-clause-first c = lines_of-last c.args.text.now (search rules) c.requires
