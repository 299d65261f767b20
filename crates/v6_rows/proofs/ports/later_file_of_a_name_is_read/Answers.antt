use Rattle.std.proofs.Common.{◌∙◌, ap}
use Rattle.std.specs.Prelude.{refl}
use Rattle.v6_port.specs.declared.host.InPort.TheVariants.{Image, Script}
use Rattle.v6_port.specs.Outside.{In, PortState}
use Rattle.v6_rows.proofs.ports.later_file_of_a_name_is_read.Goals as goal

pub read-requires : goal.read-requires
read-requires c = ap (λ (s : PortState). s.is_open) (c.open_read-2.ensures.opens.only.others (In Image) refl)
    ∙ ap (λ (s : PortState). s.is_open) (c.in_ok-add-2.ensures.ok.ports (In Image))
    ∙ ap (λ (s : PortState). s.is_open) c.in_ok-open_read.ensures.opens.outcome.0

pub read-requires-2 : goal.read-requires-2
read-requires-2 c = ap (λ (s : PortState). s.is_open) (c.read.ensures.reads.only.others (In Script) refl)
    ∙ ap (λ (s : PortState). s.is_open) c.in_ok-open_read-2.ensures.opens.outcome.0
