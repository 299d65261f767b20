use Rattle.std.proofs.Common.{lit<}
use Rattle.v6_port.specs.declared.host.OutPort.TheVariants.{Log}
use Rattle.v6_port.specs.Outside.{Out}
use Rattle.v6_rows.proofs.real_files.write_and_let_go.Goals as goal

pub open_write-requires : goal.open_write-requires
open_write-requires c = (lit< tt, (c.new-host.ensures.fresh.is_open (Out Log), tt))
