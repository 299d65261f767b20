-- What a status says of the ports, by docs/manual/commands.md: a fault is answered only where the port's count of faults rose.
use Rattle.std.specs.Prelude.{◌≡◌, Bool, true, false, MatchOption}
use Rattle.v6_port.specs.Outside.{Port, same, is_report, Outside, Tells, Rose}
use Rattle.v6_port.specs.Causes.{Calm, FaultAt}
use Rattle.v6_run.specs.declared.status.Status.{Status}
use Rattle.v6_run.specs.declared.status.Status.TheVariants.{Done}
use Rattle.v6_run.specs.Status.{fault_port}

-- Why a status is answered: the faults of its port rose and no count of another has changed, or, with any other status, no
-- count has changed at all. Where the host tells, a name is missing only where it isn't known.
abbrev pub IsCaused : (Port → Bool) → Status → Outside → Outside → Type 0
IsCaused known status old new = MatchOption (fault_port status) (Calm old new) (λ p. FaultAt p (known p) old new)

-- the faults of this port rose, and those of no other but Report
pub record IsFaultOf (p : Port) (old new : Outside) : Type 0 where
  pub rose : Rose (old.port p).faults (new.port p).faults
  pub others : (q : Port) → is_report q ≡ false → same p q ≡ false → (new.port q).faults ≡ (old.port q).faults

-- the faults of no port but Report rose
abbrev pub IsFaultless : Outside → Outside → Type 0
IsFaultless old new = (q : Port) → is_report q ≡ false → (new.port q).faults ≡ (old.port q).faults

-- What the faults of all ports show of a command's status, when that has been reported: with Done those of Report didn't rise
-- either.
pub record HasCause (status : Status) (old new : Outside) : Type 0 where
  pub cause : MatchOption (fault_port status) (IsFaultless old new) (λ p. IsFaultOf p old new)
  pub done : status ≡ Done → (q : Port) → (new.port q).faults ≡ (old.port q).faults

-- where the host tells, a name is missing at no port where it is known
abbrev pub MissesUnknown : (Port → Bool) → Outside → Outside → Type 0
MissesUnknown known old new = Tells old → (q : Port) → known q ≡ true → (new.port q).missing ≡ (old.port q).missing
