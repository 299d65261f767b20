use Rattle.std.proofs.Common.{◌≡◌, ◌-◌, ◌≤◌, ◌++◌, List, ℕ, length}
use Rattle.v6_port.specs.declared.host.InPort.TheVariants.{Log}
use Rattle.v6_port.specs.Outside.{In, IsOpen, OnlyAt, Tells, same}
use Rattle.v6_port.specs.Causes.{Calm}
use Rattle.v6_run.specs.declared.audit.TheConstants.{LOG_LIMIT}
use Rattle.v6_run.specs.Audit.{HasRead}
use Rattle.v6_run.proofs.audit.read_log.Given as goal

abbrev pub invariant-file : goal.invariant-file
invariant-file g l =
    let old = g.H.Host.outside l.initial.host in
    let now = g.H.Host.outside l.host in record {
      only : OnlyAt (same (In Log)) old now;
      calm : Calm old now;
      is_open : IsOpen now (In Log);
      read : (front : List ℕ) × HasRead front l.reading × (length front ≡ l.total) × (Tells old → (old.port (In Log)).bytes ≡ front ++ (now.port (In Log)).bytes);
      within : l.total ≤ LOG_LIMIT;
    }

abbrev pub decreases-file : goal.decreases-file
decreases-file g l = LOG_LIMIT - l.total
