-- What each call of a host does, one record a call.
-- The rules are those of docs/manual/ports.md, "The five calls".
use Rattle.std.specs.Prelude.{◌≡◌, ℕ, ◌<◌, ◌≤◌, min, Bool, true, false, List, [], ◌++◌, length, take, Option, Some, None, is_some, Result, MatchResult, nat_eq}
use Rattle.std.specs.Cmp.Lexicographic.{pointwise}
use Rattle.v6_port.specs.declared.host.InPort.{InPort}
use Rattle.v6_port.specs.declared.host.OutPort.{OutPort}
use Rattle.v6_port.specs.declared.host.Failed.{Failed}
use Rattle.v6_port.specs.Outside.{Port, In, Out, same, Outside, Tells, Rose, OnlyAt}

abbrev pub is_given : Option (List ℕ) → Bool
is_given bytes = is_some bytes

abbrev pub is_expected : Option (List ℕ) → List ℕ → Bool
is_expected None name = false
is_expected (Some expected) name = pointwise nat_eq expected name

-- of so many bytes those that go in one call, where the most that go is limited
abbrev pub at_most : Option ℕ → ℕ → ℕ
at_most None n = n
at_most (Some most) n = min n most

-- A call has failed at this port: its faults rose, and no more is open, read or written than before.
pub record HasFailed (q : Port) (old new : Outside) : Type 0 where
  pub rose : Rose (old.port q).faults (new.port q).faults
  pub is_open : (new.port q).is_open ≡ (old.port q).is_open
  pub bytes : (new.port q).bytes ≡ (old.port q).bytes

-- an opening has failed: where the host tells, a name is missing exactly where it isn't known
pub record FailedToOpen (q : Port) (known : Bool) (old new : Outside) : Type 0 where
  pub failed : HasFailed q old new
  pub missed : Tells old → known ≡ false → Rose (old.port q).missing (new.port q).missing
  pub found : Tells old → known ≡ true → (new.port q).missing ≡ (old.port q).missing
  pub no_fewer : (old.port q).missing ≤ (new.port q).missing

-- another call has failed: no name is missing
pub record FailedPlainly (q : Port) (old new : Outside) : Type 0 where
  pub failed : HasFailed q old new
  pub missing : (new.port q).missing ≡ (old.port q).missing

-- `open_read`: the port is open, and what is left are the bytes of the name.
pub record OpensRead (p : InPort) (name : List ℕ) (old : Outside) (r : Result (Unit {0}) Failed) (new : Outside) : Type 0 where
  pub only : OnlyAt (same (In p)) old new
  pub outcome : MatchResult r
      (λ _. (new.port (In p) ≡ record (old.port (In p)) { is_open = true; bytes = (new.port (In p)).bytes })
      × (Tells old → old.fixed.given name ≡ Some (new.port (In p)).bytes))
      (λ _. FailedToOpen (In p) (is_given (old.fixed.given name)) old new)

-- `read`: the first bytes of what is left go into the buffer, and none only at the end.
pub record Reads (p : InPort) (old : Outside) (buffer : List ℕ) (r : Result ℕ Failed) (new : Outside) : Type 0 where
  pub only : OnlyAt (same (In p)) old new
  pub outcome : MatchResult r
      (λ n. (n ≤ length buffer)
      × (new.port (In p) ≡ record (old.port (In p)) { bytes = (new.port (In p)).bytes })
      × (Tells old → (old.port (In p)).bytes ≡ take n buffer ++ (new.port (In p)).bytes)
      × (Tells old → n ≡ 0 → 0 < length buffer → (old.port (In p)).bytes ≡ []))
      (λ _. FailedPlainly (In p) old new)

-- `open_write`: the port is open, and what was written stays.
pub record OpensWrite (p : OutPort) (name : List ℕ) (old : Outside) (r : Result (Unit {0}) Failed)
    (new : Outside) : Type 0 where
  pub only : OnlyAt (same (Out p)) old new
  pub outcome : MatchResult r
      (λ _. (new.port (Out p) ≡ record (old.port (Out p)) { is_open = true })
      × (Tells old → is_expected (old.fixed.expects p) name ≡ true))
      (λ _. FailedToOpen (Out p) (is_expected (old.fixed.expects p) name) old new)

-- `write`: the first bytes of the piece are appended, at least one of a piece that isn't empty.
pub record Writes (p : OutPort) (old : Outside) (piece : List ℕ) (r : Result ℕ Failed) (new : Outside) : Type 0 where
  pub only : OnlyAt (same (Out p)) old new
  pub outcome : MatchResult r
      (λ n. (n ≤ length piece)
      × (0 < length piece → 0 < n)
      × (new.port (Out p) ≡ record (old.port (Out p)) { bytes = (new.port (Out p)).bytes })
      × (Tells old → (new.port (Out p)).bytes ≡ (old.port (Out p)).bytes ++ take n piece))
      (λ _. FailedPlainly (Out p) old new)

-- `finish`: the port is closed, and what was written stays.
pub record Finishes (p : OutPort) (old : Outside) (r : Result (Unit {0}) Failed) (new : Outside) : Type 0 where
  pub only : OnlyAt (same (Out p)) old new
  pub outcome : MatchResult r
      (λ _. new.port (Out p) ≡ record (old.port (Out p)) { is_open = false })
      (λ _. FailedPlainly (Out p) old new)
