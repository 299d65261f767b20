use Rattle.std.proofs.Common.{sym, ◌∙◌}
use Rattle.v6_run.proofs.PortLemmas.{line_silently, line_appended}
use Rattle.v6_run.proofs.ports.PortsTrace.entry.Goals as goal

pub returns-then-is_silent-clause-took : goal.returns-then-is_silent-clause-took
returns-then-is_silent-clause-took g c =
    line_silently c.args.self.now.lines (g.H.Host.outside c.args.self.now.host.now) _ c.args.self.now.kept (sym c.is_silent.ensures ∙ c.if-is_silent.true)

pub returns-then-is_silent-clause-whole : goal.returns-then-is_silent-clause-whole
returns-then-is_silent-clause-whole g c =
    line_appended c.args.self.now.lines (g.H.Host.outside c.args.self.now.host.now) _ c.args.self.now.kept (sym c.is_silent.ensures ∙ c.if-is_silent.true)
