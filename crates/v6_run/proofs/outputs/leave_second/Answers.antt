use Rattle.std.proofs.Common.{sym, ◌∙◌, ◌++◌, ap}
use Rattle.std.proofs.lemmas.List.{append-nil}
use Rattle.v6_run.specs.Ports.{second_of}
use Rattle.v6_run.specs.Final.{second_text}
use Rattle.v6_run.proofs.FrontLemmas.{front_of_nothing}
use Rattle.v6_run.proofs.LeaveLemmas.{none_only, none_text, other_only, other_named}
use Rattle.v6_run.proofs.outputs.leave_second.Goals as goal

pub returns-then-not-two-clause-only : goal.returns-then-not-two-clause-only
returns-then-not-two-clause-only g c = none_only _ c.args.two

pub returns-then-not-two-clause-whole : goal.returns-then-not-two-clause-whole
returns-then-not-two-clause-whole g c told =
    let none = none_text c.args.kernel.now.stored.second (c.requires.stored ∙ c.if-not-two.true) in
    sym (append-nil _) ∙ ap (λ l. (second_of (g.H.Host.outside c.args.host.now)).bytes ++ l) (sym none)

pub returns-then-not-two-clause-front : goal.returns-then-not-two-clause-front
returns-then-not-two-clause-front g c told = front_of_nothing (second_of (g.H.Host.outside c.args.host.now)).bytes (second_text c.args.kernel.now.stored.second)

pub write_second-requires-clause-second : goal.write_second-requires-clause-second
write_second-requires-clause-second g c = c.requires.second ∙ c.if-not-two.false

pub write_second-requires-clause-stored : goal.write_second-requires-clause-stored
write_second-requires-clause-stored g c = c.requires.stored ∙ c.if-not-two.false

pub write_second-requires-clause-is_open : goal.write_second-requires-clause-is_open
write_second-requires-clause-is_open g c = c.requires.is_open c.if-not-two.false

pub returns-in-Ok-clause-only : goal.returns-in-Ok-clause-only
returns-in-Ok-clause-only g c = other_only c.args.two _ _ c.if-not-two.false c.write_second.ensures.only

pub returns-in-Err-clause-only : goal.returns-in-Err-clause-only
returns-in-Err-clause-only g c = other_only c.args.two _ _ c.if-not-two.false c.write_second.ensures.only

pub returns-in-Err-clause-named : goal.returns-in-Err-clause-named
returns-in-Err-clause-named g c = other_named c.args.two c.if-not-two.false
