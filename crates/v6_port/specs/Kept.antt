-- What each of our hosts keeps of its ports, by their numbers, and what is seen by it.
use Rattle.std.specs.Prelude.{◌≡◌, ℕ, Bool, true, false, ◌||◌, ◌==◌, List, [], None, slice_index_or, refl}
use Rattle.v6_port.specs.declared.kept.Kept.{Kept}
use Rattle.v6_port.specs.declared.host.OutPort.TheVariants.{Report}
use Rattle.v6_port.specs.Outside.{Port, Out, IsOpen, port_number, is_report, PortState, Environment, Outside, Rose}

-- a port that is closed, with no fault yet
abbrev pub nothing_kept : Kept
nothing_kept = record { is_open = false; faults = 0; missing = 0 }

abbrev pub kept_at : List Kept → ℕ → Kept
kept_at ports n = slice_index_or ports n nothing_kept

-- Report is always open.
abbrev pub state_of : Kept → Port → List ℕ → PortState
state_of kept q bytes =
    record { is_open = kept.is_open || is_report q; faults = kept.faults; missing = kept.missing; bytes = bytes }

abbrev pub outside_of : Environment → (Port → List ℕ) → List Kept → Outside
outside_of fixed bytes ports = record { fixed = fixed; port = λ q. state_of (kept_at ports (port_number q)) q (bytes q) }

-- a host that tells nothing of its bytes
abbrev pub untold : Environment
untold = record { tells = false; given = λ _. None; expects = λ _. None }

abbrev pub silent : List Kept → Outside
silent ports = outside_of untold (λ _. []) ports

-- nothing that is kept has changed but at this number
pub record KeptBut (n : ℕ) (old new : List Kept) : Type 0 where
  pub others : (m : ℕ) → (n == m) ≡ false → kept_at new m ≡ kept_at old m

pub record Faults (n : ℕ) (old new : List Kept) : Type 0 where
  pub others : KeptBut n old new
  pub is_open : (kept_at new n).is_open ≡ (kept_at old n).is_open
  pub rose : Rose (kept_at old n).faults (kept_at new n).faults
  pub missing : (kept_at new n).missing ≡ (kept_at old n).missing

-- a fault for a name that isn't known
pub record Misses (n : ℕ) (old new : List Kept) : Type 0 where
  pub others : KeptBut n old new
  pub is_open : (kept_at new n).is_open ≡ (kept_at old n).is_open
  pub rose : Rose (kept_at old n).faults (kept_at new n).faults
  pub missing : Rose (kept_at old n).missing (kept_at new n).missing

pub record Turns (n : ℕ) (is_open : Bool) (old new : List Kept) : Type 0 where
  pub others : KeptBut n old new
  pub turned : kept_at new n ≡ record (kept_at old n) { is_open = is_open }

or_true : (b : Bool) → (b || true) ≡ true
or_true true = refl
or_true false = refl

-- Report is open
pub outside_of-report : (fixed : Environment) (bytes : Port → List ℕ) (ports : List Kept)
    → IsOpen (outside_of fixed bytes ports) (Out Report)
outside_of-report fixed bytes ports = or_true _

pub silent-report : (ports : List Kept) → IsOpen (silent ports) (Out Report)
silent-report ports = or_true _
