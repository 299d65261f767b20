use Rattle.std.proofs.Common.{◌∙◌, ap}
use Rattle.v6_port.specs.declared.host.OutPort.TheVariants.{Term}
use Rattle.v6_port.specs.Outside.{Out, PortState}
use Rattle.v6_port.specs.Memory.{Memory}
use Rattle.v6_rows.proofs.ports.writes_are_short.Goals as goal

pub open_write-requires-clause-closed : goal.open_write-requires-clause-closed
open_write-requires-clause-closed c = ap (λ (m : Memory). (m.outside.port (Out Term)).is_open) c.chunk.ensures.chunk
    ∙ ap (λ (s : PortState). s.is_open) (c.in_ok-room.ensures.ok.ports (Out Term)) ∙ c.new-host.ensures.fresh.is_open (Out Term)
