-- The ports of a host as a trace of what a run shows: the bytes of each terminal line go to its port, and the lines of the log
-- to Log.
use Rattle.std.specs.Prelude.{◌≡◌, ℕ, Bool, true, false, ◌&&◌, Option, Some, None, is_some, IfSome, MatchOption, List, [], ◌∷◌, ◌++◌, ◌+◌, ◌==◌, nat_lt, if◌then◌else◌}
use Rattle.v6_base.specs.Trace.{Taken, Item}
use Rattle.v6_port.specs.declared.host.OutPort.{OutPort}
use Rattle.v6_port.specs.declared.host.OutPort.TheVariants as out_port
use Rattle.v6_port.specs.Outside.{Out, PortState, Outside, Tells, OnlyAt}
use Rattle.v6_port.specs.Causes.{Calm, FaultAt}
use Rattle.v6_run.specs.declared.ports.Kept.{Kept}
use Rattle.v6_run.specs.declared.ports.Kept.TheVariants as kept
use Rattle.v6_run.specs.declared.ports.TheConstants.{MOST}
use Rattle.v6_run.specs.Fronts.{HoldsFront}
use Rattle.v6_run.specs.Opened.{line_port}
use Rattle.v6_run.specs.Outputs.{is_shown, shown_text}

-- the port of a terminal line
abbrev pub line_state : Outside → ℕ → PortState
line_state o l = o.port (Out (line_port l))

abbrev pub log_of : Outside → PortState
log_of o = o.port (Out out_port.Log)

abbrev pub second_of : Outside → PortState
second_of o = o.port (Out out_port.Second)

abbrev pub final_of : Outside → PortState
final_of o = o.port (Out out_port.Final)

-- the port at which a write has failed, where one has
abbrev pub failed_port : Kept → Option OutPort
failed_port kept.Nothing = None
failed_port (kept.Byte line byte) = Some (line_port line)
failed_port (kept.Line rest) = Some out_port.Log
failed_port kept.Unwanted = None
failed_port (kept.Count n) = None

-- the byte that could not be written, on its line
abbrev pub kept_byte : Kept → ℕ → List ℕ
kept_byte (kept.Byte line byte) l = if line == l then byte ∷ [] else []
kept_byte _ l = []

-- what was not written of a line
abbrev pub kept_text : Kept → List ℕ
kept_text (kept.Line rest) = rest.items
kept_text _ = []

-- nothing is written any more, or nothing is to be written
abbrev pub is_silent : Kept → Bool
is_silent kept.Nothing = false
is_silent (kept.Byte line byte) = true
is_silent (kept.Line rest) = true
is_silent kept.Unwanted = true
is_silent (kept.Count n) = true

abbrev pub is_wanted : Kept → Bool
is_wanted kept.Nothing = true
is_wanted (kept.Byte line byte) = true
is_wanted (kept.Line rest) = true
is_wanted kept.Unwanted = false
is_wanted (kept.Count n) = false

-- the bytes of the terminal are counted
abbrev pub is_counted : Kept → Bool
is_counted (kept.Count n) = true
is_counted _ = false

-- What has been taken are the bytes of each of so many lines, those written to its port, and the text of the log, what was
-- written to Log: each with the byte, or the rest of the line, that is kept because its writing failed. With that the trace is
-- cut. A trace of which nothing is wanted is never cut, and tells nothing.
abbrev pub taken_of : ℕ → Outside → Kept → Taken
taken_of lines o k = record {
  cut = is_some (failed_port k);
  tells_bytes = λ l. nat_lt l lines && (is_wanted k && o.fixed.tells);
  bytes = λ l. (line_state o l).bytes ++ kept_byte k l;
  tells_count = λ l. false;
  count = λ l. 0;
  tells_entries = false;
  entries = [];
  tells_text = is_wanted k && o.fixed.tells;
  text = (log_of o).bytes ++ kept_text k;
}

-- A trace that counts tells how many bytes went out on line 0, and is cut at the greatest number.
abbrev pub shown_to : ℕ → Taken
shown_to n = record {
  cut = n == MOST;
  tells_bytes = λ l. false;
  bytes = λ l. [];
  tells_count = λ l. l == 0;
  count = λ l. n;
  tells_entries = false;
  entries = [];
  tells_text = false;
  text = [];
}

abbrev pub taken_by : ℕ → Outside → Kept → Taken
taken_by lines o (kept.Count n) = shown_to n
taken_by lines o kept.Nothing = taken_of lines o kept.Nothing
taken_by lines o (kept.Byte line byte) = taken_of lines o (kept.Byte line byte)
taken_by lines o (kept.Line rest) = taken_of lines o (kept.Line rest)
taken_by lines o kept.Unwanted = taken_of lines o kept.Unwanted

-- one byte more is counted, up to the greatest number
abbrev pub one_more : ℕ → ℕ
one_more n = if n == MOST then n else n + 1

abbrev pub counted : Kept → Kept
counted (kept.Count n) = kept.Count (one_more n)
counted k = k

-- those of the console alone are
abbrev pub counted_on : ℕ → Kept → Kept
counted_on line k = if line == 0 then counted k else k

-- so many have been, and no more
abbrev pub HasCounted : Kept → ℕ → Type 0
HasCounted (kept.Count n) count = (count ≡ n) × ((n == MOST) ≡ false)
HasCounted k count = ⊥

pub record Extends (old new : List ℕ) : Type 0 where
  pub more : List ℕ
  pub is : new ≡ old ++ more

-- a port is open as before, and what was written there is a front of what is now, where the host tells
pub record Grows (told : Type 0) (old new : PortState) : Type 0 where
  pub is_open : new.is_open ≡ old.is_open
  pub bytes : told → Extends old.bytes new.bytes

-- What stays while bytes and lines go out: only the ports of the lines and Log change, and more is written to them. No count
-- changes until a write to one of them has failed: then the faults of its port have risen, and from then on nothing changes;
-- nor does it where nothing is to be written.
pub record Goes (lines : ℕ) (a : Outside) (a_kept : Kept) (b : Outside) (b_kept : Kept) : Type 0 where
  pub only : OnlyAt (is_shown lines) a b
  pub grows : (p : OutPort) → Grows (Tells a) (a.port (Out p)) (b.port (Out p))
  pub cause : failed_port a_kept ≡ None
      → MatchOption (failed_port b_kept) (Calm a b) (λ p. FaultAt (Out p) true a b)
  pub named : failed_port a_kept ≡ None → IfSome (failed_port b_kept) (λ p. is_shown lines (Out p) ≡ true)
  pub stopped : is_silent a_kept ≡ true → (b ≡ a) × (is_silent b_kept ≡ true) × (failed_port b_kept ≡ failed_port a_kept)
  pub counted : is_counted b_kept ≡ is_counted a_kept

-- each port has got all of what is shown there
abbrev pub HasShown : ℕ → List Item → Outside → Outside → Type 0
HasShown lines items old new = (p : OutPort) → (new.port (Out p)).bytes ≡ (old.port (Out p)).bytes ++ shown_text lines items p

-- or a front of it
abbrev pub HasShownFronts : ℕ → List Item → Outside → Outside → Type 0
HasShownFronts lines items old new = (p : OutPort)
    → HoldsFront (old.port (Out p)).bytes (shown_text lines items p) (new.port (Out p)).bytes
