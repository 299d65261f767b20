-- The opening and the finishing of a run's files, one after another, by docs/manual/commands.md.
use Rattle.std.specs.Prelude.{◌≡◌, ⊤, ℕ, Bool, true, false, not, Result, IfErr, OnOk, MatchResult, List, [], ◌∷◌, ◌++◌, string_bytes}
use Rattle.v6_port.specs.declared.host.OutPort.{OutPort}
use Rattle.v6_port.specs.declared.host.OutPort.TheVariants as out_port
use Rattle.v6_port.specs.Outside.{Port, In, Out, IsThere, is_report, Outside, Tells, OnlyAt}
use Rattle.v6_port.specs.Causes.{Calm, FaultAt}
use Rattle.v6_run.specs.declared.outputs.Output.{Output}
use Rattle.v6_run.specs.Ports.{final_of, second_of}
use Rattle.v6_run.specs.Fronts.{HoldsFront}
use Rattle.v6_run.specs.Outputs.{is_left}
use Rattle.v6_run.specs.Words.{Outputs, ToDisk, ToMemory}
use Rattle.v6_run.specs.Steps.{is_written_before, is_opened_before}
use Rattle.v6_run.specs.Opened.{NamedPort, output, output_ports, has_port, ports_before, knows_port, AreGood}

-- the port and the name of a file that a program holds
abbrev pub output_value : Output → NamedPort
output_value o = output o.port (string_bytes o.name)

-- These are the files that a run opens by a list of them: `memory` opens its one file by its name.
abbrev pub IsListOf : Outputs → List NamedPort → Type 0
IsListOf (ToDisk files) ports = ports ≡ output_ports (ToDisk files)
IsListOf (ToMemory final) ports = ⊤

-- each of these is a port for writing that there is, and is opened and closed
abbrev pub IsWritten : Port → Type 0
IsWritten (In p) = ⊥
IsWritten (Out p) = IsThere p × (is_report (Out p) ≡ false)

abbrev pub AreThere : List NamedPort → Type 0
AreThere [] = ⊤
AreThere (p ∷ ports) = IsWritten p.port × AreThere ports

-- They are opened in their order, up to the first that can't be opened.
pub record Opens (ports : List NamedPort) (r : Result (Unit {0}) OutPort) (old new : Outside) : Type 0 where
  pub only : OnlyAt (has_port ports) old new
  pub bytes : (p : OutPort) → (new.port (Out p)).bytes ≡ (old.port (Out p)).bytes
  pub is_open : OnOk r ((p : OutPort) → has_port ports (Out p) ≡ true → (new.port (Out p)).is_open ≡ true)
  pub cause : MatchResult r (λ _. Calm old new) (λ port. FaultAt (Out port) (knows_port ports old.fixed (Out port)) old new)
  pub named : IfErr r (λ port. has_port ports (Out port) ≡ true)
  pub order : Tells old
      → MatchResult r (λ _. AreGood old.fixed ports) (λ port. AreGood old.fixed (ports_before ports (Out port)))
  pub stopped : IfErr r (λ port. (q : OutPort) → has_port ports (Out q) ≡ true
      → (new.port (Out q)).is_open ≡ is_opened_before ports q port)

-- The run is over, and the bytes of the disk that it leaves go to Final, and then, where there are two, those of the second one
-- to Second: up to the first that can't be written.
pub record Leaves (two : Bool) (disk second : List ℕ) (r : Result (Unit {0}) OutPort) (old new : Outside) : Type 0 where
  pub only : OnlyAt (is_left two) old new
  pub is_open : (p : OutPort) → (new.port (Out p)).is_open ≡ (old.port (Out p)).is_open
  pub whole : OnOk r (Tells old → ((final_of new).bytes ≡ (final_of old).bytes ++ disk)
      × ((second_of new).bytes ≡ (second_of old).bytes ++ second))
  pub front : Tells old → HoldsFront (final_of old).bytes disk (final_of new).bytes
      × HoldsFront (second_of old).bytes second (second_of new).bytes
  pub cause : MatchResult r (λ _. Calm old new) (λ port. FaultAt (Out port) true old new)
  pub named : IfErr r (λ port. is_left two (Out port) ≡ true)
  pub first : IfErr r (λ port. is_written_before out_port.Final port ≡ true → Tells old
      → (final_of new).bytes ≡ (final_of old).bytes ++ disk)

-- They are finished in their order, up to the first that can't be.
pub record Shuts (ports : List NamedPort) (r : Result (Unit {0}) OutPort) (old new : Outside) : Type 0 where
  pub only : OnlyAt (has_port ports) old new
  pub bytes : (p : OutPort) → (new.port (Out p)).bytes ≡ (old.port (Out p)).bytes
  pub is_open : OnOk r ((p : OutPort) → has_port ports (Out p) ≡ true → (new.port (Out p)).is_open ≡ false)
  pub cause : MatchResult r (λ _. Calm old new) (λ port. FaultAt (Out port) true old new)
  pub named : IfErr r (λ port. has_port ports (Out port) ≡ true)
  pub stopped : IfErr r (λ port. (q : OutPort) → has_port ports (Out q) ≡ true
      → (new.port (Out q)).is_open ≡ not (is_opened_before ports q port))
