use Rattle.std.proofs.Common.{◌-◌}
use Rattle.unix_core.proofs.SendLines.{none_until}
use Rattle.unix_core.proofs.slots.Slots.add_send.Goals as goal

pub returns-clause-timing : goal.returns-clause-timing
returns-clause-timing c =
    let e = c.add.ensures in λ i. record { passed = e.passed i; disk = e.disk i; pace = e.pace i; since = e.passed i - e.set i }

pub returns-clause-sends : goal.returns-clause-sends
returns-clause-sends c =
    let e = c.add.ensures in
    none_until c.args.self.now c.add.new.self c.args.behind c.requires.set c.requires.behind e.ends e.passed e.pace e.set
