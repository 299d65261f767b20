use Rattle.std.proofs.Common.{◌∙◌, ap}
use Rattle.std.specs.Prelude.{refl}
use Rattle.v6_port.specs.declared.host.OutPort.TheVariants.{Term, Log}
use Rattle.v6_port.specs.Outside.{Out, PortState}
use Rattle.v6_rows.proofs.ports.ports_have_their_own_bytes.Goals as goal

pub open_write-requires : goal.open_write-requires
open_write-requires c = record {
  closed = ap (λ (s : PortState). s.is_open) (c.in_ok-room-2.ensures.ok.ports (Out Term))
      ∙ ap (λ (s : PortState). s.is_open) (c.in_ok-room.ensures.ok.ports (Out Term)) ∙ c.new-host.ensures.fresh.is_open (Out Term);
  there = tt;
}

pub open_write-requires-2 : goal.open_write-requires-2
open_write-requires-2 c = record {
  closed = ap (λ (s : PortState). s.is_open) (c.open_write.ensures.opens.only.others (Out Log) refl)
      ∙ ap (λ (s : PortState). s.is_open) (c.in_ok-room-2.ensures.ok.ports (Out Log))
      ∙ ap (λ (s : PortState). s.is_open) (c.in_ok-room.ensures.ok.ports (Out Log)) ∙ c.new-host.ensures.fresh.is_open (Out Log);
  there = tt;
}

pub write-requires : goal.write-requires
write-requires c = record {
  is_open = ap (λ (s : PortState). s.is_open) (c.open_write-2.ensures.opens.only.others (Out Term) refl)
      ∙ ap (λ (s : PortState). s.is_open) c.in_ok-open_write.ensures.opens.outcome.0;
  there = tt;
}

pub write-requires-2 : goal.write-requires-2
write-requires-2 c = record {
  is_open = ap (λ (s : PortState). s.is_open) (c.write.ensures.writes.only.others (Out Log) refl)
      ∙ ap (λ (s : PortState). s.is_open) c.in_ok-open_write-2.ensures.opens.outcome.0;
  there = tt;
}
