-- Why a step of a command stops, step by step in the order of docs/manual/commands.md.
use Rattle.std.specs.Prelude.{◌≡◌, ◌⊎◌, ℕ, Bool, true, false, not, nat_lt, Some, IsSomeAnd, List, take}
use Rattle.v6_port.specs.declared.host.InPort.TheVariants as in_port
use Rattle.v6_port.specs.declared.host.OutPort.{OutPort}
use Rattle.v6_port.specs.declared.host.OutPort.TheVariants as out_port
use Rattle.v6_port.specs.Outside.{Port, In, Out, is_report, Outside, Tells}
use Rattle.v6_port.specs.Causes.{Calm, FaultAt}
use Rattle.v6_port.specs.Calls.{is_given}
use Rattle.fs_codec.specs.Faults.{image_fault}
use Rattle.v6_run.specs.declared.image.TheConstants.{IMAGE_LIMIT}
use Rattle.v6_run.specs.declared.files.ReadError.{ReadError}
use Rattle.v6_run.specs.declared.files.ReadError.TheVariants as reading
use Rattle.v6_run.specs.declared.image.ImageError.{ImageError}
use Rattle.v6_run.specs.declared.image.ImageError.TheVariants as image
use Rattle.v6_run.specs.declared.image.SecondError.{SecondError}
use Rattle.v6_run.specs.declared.image.SecondError.TheVariants as second
use Rattle.unix_core.specs.Boots.{second_fault_of}
use Rattle.v6_run.specs.Fronts.{HoldsSome}
use Rattle.v6_run.specs.Opened.{NamedPort, has_port, ports_before}

-- the reading of a file: at a fault of its port, under a name that is known or not, or for want of memory
abbrev pub StopsReading : Port → Bool → ReadError → Outside → Outside → Type 0
StopsReading p known reading.Fault old new = FaultAt p known old new
StopsReading p known reading.NoMemory old new = Calm old new

-- the reading of an image of this name: also at its first fault
abbrev pub StopsImage : List ℕ → ImageError → Outside → Outside → Type 0
StopsImage name (image.Unread error) old new = StopsReading (In in_port.Image) (is_given (old.fixed.given name)) error old new
StopsImage name (image.Faulty fault) old new =
    Calm old new × (Tells old → IsSomeAnd (old.fixed.given name) (λ bytes. image_fault (take IMAGE_LIMIT bytes) ≡ Some fault))

-- the reading of a second image of this name, beside an image: also at what is wrong with it
abbrev pub StopsSecond : List ℕ → List ℕ → SecondError → Outside → Outside → Type 0
StopsSecond image name (second.Unread error) old new =
    StopsReading (In in_port.Second) (is_given (old.fixed.given name)) error old new
StopsSecond image name (second.Faulty fault) old new =
    Calm old new
    × (Tells old → IsSomeAnd (old.fixed.given name) (λ bytes. second_fault_of image (take IMAGE_LIMIT bytes) ≡ Some fault))

-- the making of a file: it couldn't be opened, and nothing was written, or it is still open
abbrev pub StopsFile : OutPort → Outside → Outside → Type 0
StopsFile p old new =
    (((new.port (Out p)).is_open ≡ false) × ((new.port (Out p)).bytes ≡ (old.port (Out p)).bytes)) ⊎ (new.port (Out p)).is_open ≡ true

-- The order of writing: what a run shows goes out while it runs, then come the disk that it leaves and the second disk, and the
-- report is the last.
abbrev pub place_in_writing : OutPort → ℕ
place_in_writing out_port.Term = 0
place_in_writing (out_port.Line l) = 0
place_in_writing out_port.Log = 0
place_in_writing out_port.Final = 1
place_in_writing out_port.Second = 2
place_in_writing out_port.Report = 3

abbrev pub is_written_before : OutPort → OutPort → Bool
is_written_before q p = nat_lt (place_in_writing q) (place_in_writing p)

-- The files are finished in the order in which they were opened.
abbrev pub is_opened_before : List NamedPort → OutPort → OutPort → Bool
is_opened_before ports q p = has_port (ports_before ports (Out p)) (Out q)

-- A port could not be opened: of these ports those before it are open and no others, and nothing was written.
pub record StopsOpening (ports : List NamedPort) (p : OutPort) (old new : Outside) : Type 0 where
  pub states : (q : OutPort) → has_port ports (Out q) ≡ true → (new.port (Out q)).is_open ≡ is_opened_before ports q p
  pub bytes : (q : OutPort) → is_report (Out q) ≡ false → (new.port (Out q)).bytes ≡ (old.port (Out q)).bytes

-- It could not be written: all are open, and each that is written before it has got all of a text that may be written to it.
pub record StopsWriting (ports : List NamedPort) (writes : OutPort → List ℕ → Type 0) (p : OutPort) (old new : Outside) : Type 0 where
  pub states : (q : OutPort) → has_port ports (Out q) ≡ true → (new.port (Out q)).is_open ≡ true
  pub written : Tells old → (q : OutPort) → is_report (Out q) ≡ false → is_written_before q p ≡ true
      → HoldsSome (writes q) (old.port (Out q)).bytes (new.port (Out q)).bytes

-- It could not be finished: each has got all of such a text, and those before it are closed and no others.
pub record StopsFinishing (ports : List NamedPort) (writes : OutPort → List ℕ → Type 0) (p : OutPort) (old new : Outside) : Type 0 where
  pub states : (q : OutPort) → has_port ports (Out q) ≡ true → (new.port (Out q)).is_open ≡ not (is_opened_before ports q p)
  pub written : Tells old → (q : OutPort) → is_report (Out q) ≡ false
      → HoldsSome (writes q) (old.port (Out q)).bytes (new.port (Out q)).bytes

abbrev pub StopsAt : List NamedPort → (OutPort → List ℕ → Type 0) → OutPort → Outside → Outside → Type 0
StopsAt ports writes p old new = StopsOpening ports p old new ⊎ (StopsWriting ports writes p old new ⊎ StopsFinishing ports writes p old new)
