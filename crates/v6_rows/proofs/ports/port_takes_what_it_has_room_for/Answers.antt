use Rattle.std.proofs.Common.{◌∙◌, ap}
use Rattle.v6_port.specs.declared.host.OutPort.TheVariants.{Term}
use Rattle.v6_port.specs.Outside.{Out, PortState}
use Rattle.v6_rows.proofs.ports.port_takes_what_it_has_room_for.Goals as goal

pub open_write-requires : goal.open_write-requires
open_write-requires c = record {
  closed = ap (λ (s : PortState). s.is_open) (c.in_ok-room-2.ensures.ok.ports (Out Term))
      ∙ ap (λ (s : PortState). s.is_open) (c.in_ok-room.ensures.ok.ports (Out Term)) ∙ c.new-host.ensures.fresh.is_open (Out Term);
  there = tt;
}
