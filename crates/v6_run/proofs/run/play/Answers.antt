use Rattle.std.proofs.Common.{rules, sym, ◌∙◌, ap, is_some}
use Rattle.v6_port.specs.declared.host.OutPort.{OutPort}
use Rattle.v6_run.proofs.LinePorts.{some_lines}
use Rattle.v6_run.proofs.ShownLemmas.{goes_from, calm_from, fault_from, named_from, fronts_from, uncut_from, all_from}
use Rattle.v6_run.proofs.run.play.Goals as goal

pub returns-in-Some-clause-only : goal.returns-in-Some-clause-only
returns-in-Some-clause-only g c =
    let run = c.show_run-ends.ensures in
    let ports = c.new-ports.ensures in
    let only = (goes_from _ _ _ _ _ _ _ (ports.lines ∙ c.count.ensures) (ap g.H.Host.outside ports.outside) ports.kept run.frame.0).only in
    search (rules, only)

pub returns-in-Some-clause-is_open : goal.returns-in-Some-clause-is_open
returns-in-Some-clause-is_open g c =
    let run = c.show_run-ends.ensures in
    let ports = c.new-ports.ensures in
    let goes = goes_from _ _ _ _ _ _ _ (ports.lines ∙ c.count.ensures) (ap g.H.Host.outside ports.outside) ports.kept run.frame.0 in
    let stay = λ (p : OutPort). (goes.grows p).is_open in
    search (rules, stay)

pub returns-in-Some-clause-fronts : goal.returns-in-Some-clause-fronts
returns-in-Some-clause-fronts g c =
    let run = c.show_run-ends.ensures in
    let ports = c.new-ports.ensures in
    let fronts = fronts_from _ (some_lines c.args.lines) _ _ (ports.lines ∙ c.count.ensures) run.frame.2 _ _ _ _ _ _ (ap g.H.Host.outside ports.outside) ports.kept run.shown run.frame.0 in
    search (rules, fronts)

pub returns-in-Some-clause-cause : goal.returns-in-Some-clause-cause
returns-in-Some-clause-cause g c =
    let run = c.show_run-ends.ensures in
    let ports = c.new-ports.ensures in
    let failed = sym c.failed.ensures ∙ c.in-Some.is in
    let fault = fault_from _ _ _ _ _ _ _ (ports.lines ∙ c.count.ensures) (ap g.H.Host.outside ports.outside) ports.kept run.frame.0 _ failed in
    search (rules, fault)

pub returns-in-Some-clause-named : goal.returns-in-Some-clause-named
returns-in-Some-clause-named g c =
    let run = c.show_run-ends.ensures in
    let ports = c.new-ports.ensures in
    named_from _ _ _ _ _ _ _ (ports.lines ∙ c.count.ensures) (ap g.H.Host.outside ports.outside) ports.kept run.frame.0 _ (sym c.failed.ensures ∙ c.in-Some.is)

pub returns-in-None-clause-only : goal.returns-in-None-clause-only
returns-in-None-clause-only g c =
    let run = c.show_run-ends.ensures in
    let ports = c.new-ports.ensures in
    let only = (goes_from _ _ _ _ _ _ _ (ports.lines ∙ c.count.ensures) (ap g.H.Host.outside ports.outside) ports.kept run.frame.0).only in
    search (rules, only)

pub returns-in-None-clause-is_open : goal.returns-in-None-clause-is_open
returns-in-None-clause-is_open g c =
    let run = c.show_run-ends.ensures in
    let ports = c.new-ports.ensures in
    let goes = goes_from _ _ _ _ _ _ _ (ports.lines ∙ c.count.ensures) (ap g.H.Host.outside ports.outside) ports.kept run.frame.0 in
    let stay = λ (p : OutPort). (goes.grows p).is_open in
    search (rules, stay)

pub returns-in-None-clause-ending : goal.returns-in-None-clause-ending
returns-in-None-clause-ending g c =
    let run = c.show_run-ends.ensures in
    let ports = c.new-ports.ensures in
    let uncut = ap is_some (sym c.failed.ensures ∙ c.in-None.is) in
    run.ends (uncut_from _ (some_lines c.args.lines) _ _ (ports.lines ∙ c.count.ensures) run.frame.2 _ _ _ _ _ _ (ap g.H.Host.outside ports.outside) ports.kept run.shown run.frame.0 uncut)

pub returns-in-None-clause-system : goal.returns-in-None-clause-system
returns-in-None-clause-system g c =
    let run = c.show_run-ends.ensures in
    let ports = c.new-ports.ensures in
    let uncut = ap is_some (sym c.failed.ensures ∙ c.in-None.is) in
    run.system (uncut_from _ (some_lines c.args.lines) _ _ (ports.lines ∙ c.count.ensures) run.frame.2 _ _ _ _ _ _ (ap g.H.Host.outside ports.outside) ports.kept run.shown run.frame.0 uncut)

pub returns-in-None-clause-shown : goal.returns-in-None-clause-shown
returns-in-None-clause-shown g c =
    let run = c.show_run-ends.ensures in
    let ports = c.new-ports.ensures in
    let uncut = ap is_some (sym c.failed.ensures ∙ c.in-None.is) in
    let all = all_from _ (some_lines c.args.lines) _ _ (ports.lines ∙ c.count.ensures) run.frame.2 _ _ _ _ _ _ (ap g.H.Host.outside ports.outside) ports.kept run.shown run.frame.0 uncut in
    search (rules, all)

pub returns-in-None-clause-fronts : goal.returns-in-None-clause-fronts
returns-in-None-clause-fronts g c =
    let run = c.show_run-ends.ensures in
    let ports = c.new-ports.ensures in
    let fronts = fronts_from _ (some_lines c.args.lines) _ _ (ports.lines ∙ c.count.ensures) run.frame.2 _ _ _ _ _ _ (ap g.H.Host.outside ports.outside) ports.kept run.shown run.frame.0 in
    search (rules, fronts)

pub returns-in-None-clause-cause : goal.returns-in-None-clause-cause
returns-in-None-clause-cause g c =
    let run = c.show_run-ends.ensures in
    let ports = c.new-ports.ensures in
    let calm = calm_from _ _ _ _ _ _ _ (ports.lines ∙ c.count.ensures) (ap g.H.Host.outside ports.outside) ports.kept run.frame.0 (sym c.failed.ensures ∙ c.in-None.is) in
    search (rules, calm)
