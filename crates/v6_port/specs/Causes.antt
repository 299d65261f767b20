-- What several calls together do to the counts of the ports: a fault has a cause.
-- The rules are those of docs/manual/ports.md, "Counts".
use Rattle.std.specs.Prelude.{◌≡◌, Bool, true, false}
use Rattle.v6_port.specs.Outside.{Port, same, PortState, Outside, Tells, Rose}

pub record SameCounts (old new : PortState) : Type 0 where
  pub faults : new.faults ≡ old.faults
  pub missing : new.missing ≡ old.missing

-- no count has changed
pub record Calm (old new : Outside) : Type 0 where
  pub at : (q : Port) → SameCounts (old.port q) (new.port q)

-- no count has changed but at these ports
pub record CalmBut (mine : Port → Bool) (old new : Outside) : Type 0 where
  pub at : (q : Port) → mine q ≡ false → SameCounts (old.port q) (new.port q)

-- The faults of this port rose, and no count of another has changed. Where the host tells,
-- and the name that was asked for is known, none is missing.
pub record FaultAt (p : Port) (known : Bool) (old new : Outside) : Type 0 where
  pub rose : Rose (old.port p).faults (new.port p).faults
  pub others : CalmBut (same p) old new
  pub missing : Tells old → known ≡ true → (new.port p).missing ≡ (old.port p).missing
