-- What a program sees of the outside: the ports, the state of each, and what stays for good.
-- The rules are those of docs/manual/ports.md, "Ports and what is seen of them".
use Rattle.std.specs.Prelude.{◌≡◌, ◌≢◌, ℕ, ◌+◌, ◌-◌, ◌^◌, ◌<◌, ◌≤◌, Bool, true, false, ◌==◌, List, [], Option}
use Rattle.v6_port.specs.declared.host.InPort.{InPort}
use Rattle.v6_port.specs.declared.host.InPort.TheVariants as in_port
use Rattle.v6_port.specs.declared.host.OutPort.{OutPort}
use Rattle.v6_port.specs.declared.host.OutPort.TheVariants as out_port

pub data Port : Type 0 where
  In : InPort → Port
  Out : OutPort → Port

-- the ports in order, from 0
abbrev pub in_number : InPort → ℕ
in_number in_port.Image = 0
in_number in_port.Script = 1
in_number in_port.Log = 2
in_number in_port.Second = 3

abbrev pub out_number : OutPort → ℕ
out_number out_port.Term = 4
out_number out_port.Log = 5
out_number out_port.Final = 6
out_number out_port.Report = 7
out_number out_port.Second = 8
out_number (out_port.Line l) = 9 + l

-- a port's place among those for writing
abbrev pub place : OutPort → ℕ
place out_port.Term = 0
place out_port.Log = 1
place out_port.Final = 2
place out_port.Report = 3
place out_port.Second = 4
place (out_port.Line l) = 5 + l

-- The condition of each call on a port for writing: beside the console, which is line 0, a terminal has the lines 1 to 7.
abbrev pub IsThere : OutPort → Type 0
IsThere out_port.Term = Unit {0}
IsThere out_port.Log = Unit {0}
IsThere out_port.Final = Unit {0}
IsThere out_port.Report = Unit {0}
IsThere out_port.Second = Unit {0}
IsThere (out_port.Line l) = (1 ≤ l) × (l ≤ 7)

abbrev pub port_number : Port → ℕ
port_number (In p) = in_number p
port_number (Out p) = out_number p

abbrev pub same : Port → Port → Bool
same p q = port_number p == port_number q

abbrev pub is_report : Port → Bool
is_report q = same (Out out_port.Report) q

-- One port. `bytes` are those left to be read, or all that were written since the host was made;
-- they say nothing where the host doesn't tell.
pub record PortState : Type 0 where
  pub is_open : Bool
  pub faults : ℕ
  pub missing : ℕ
  pub bytes : List ℕ

-- What no call changes: whether the host tells its bytes, the bytes of each name, and the one name
-- under which a port can be opened for writing.
pub record Environment : Type 0 where
  pub tells : Bool
  pub given : List ℕ → Option (List ℕ)
  pub expects : OutPort → Option (List ℕ)

pub record Outside : Type 0 where
  pub fixed : Environment
  pub port : Port → PortState

abbrev pub Tells : Outside → Type 0
Tells o = o.fixed.tells ≡ true

abbrev pub IsOpen : Outside → Port → Type 0
IsOpen o q = (o.port q).is_open ≡ true

-- A count rose: it is greater than before, or it stood at 2^64 - 1 already.
abbrev pub Rose : ℕ → ℕ → Type 0
Rose before now = (before ≤ now) × (before ≢ 2 ^ 64 - 1 → before < now)

-- nothing has changed but at these ports
pub record OnlyAt (mine : Port → Bool) (old new : Outside) : Type 0 where
  pub fixed : new.fixed ≡ old.fixed
  pub others : (q : Port) → mine q ≡ false → new.port q ≡ old.port q

-- a host to which nothing has happened yet
pub record IsNew (o : Outside) : Type 0 where
  pub is_open : (q : Port) → (o.port q).is_open ≡ is_report q
  pub faults : (q : Port) → (o.port q).faults ≡ 0
  pub missing : (q : Port) → (o.port q).missing ≡ 0
  pub bytes : (q : Port) → (o.port q).bytes ≡ []

-- the condition of a whole command: no port for writing but Report is open, and each count can still rise
pub record IsIdle (o : Outside) : Type 0 where
  pub closed : (p : OutPort) → is_report (Out p) ≡ false → (o.port (Out p)).is_open ≡ false
  pub faults : (q : Port) → (o.port q).faults < 2 ^ 64 - 1
  pub missing : (q : Port) → (o.port q).missing < 2 ^ 64 - 1
