use Rattle.std.proofs.Common.{lit<}
use Rattle.v6_port.specs.declared.host.OutPort.TheVariants.{Final}
use Rattle.v6_port.specs.Outside.{Out}
use Rattle.v6_rows.proofs.ports.file_of_the_system_holds_what_was_written.Goals as goal

pub open_write-requires : goal.open_write-requires
open_write-requires g c = (lit< tt, (c.new-host.ensures.fresh.is_open (Out Final), tt))
