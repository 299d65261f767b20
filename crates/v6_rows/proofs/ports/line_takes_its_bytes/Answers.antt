use Rattle.std.proofs.Common.{◌∙◌, ap, lit<}
use Rattle.v6_port.specs.declared.host.OutPort.TheVariants.{Line}
use Rattle.v6_port.specs.Outside.{Out, PortState}
use Rattle.v6_port.proofs.CauseLemmas.{not_line}
use Rattle.v6_rows.proofs.ports.line_takes_its_bytes.Goals as goal

pub open_write-requires-clause-closed : goal.open_write-requires-clause-closed
open_write-requires-clause-closed c = ap (λ (s : PortState). s.is_open) (c.in_ok-room.ensures.ok.ports (Out (Line c.args.line)))
    ∙ c.new-host.ensures.fresh.is_open (Out (Line c.args.line)) ∙ not_line 7 c.args.line (lit< tt)
