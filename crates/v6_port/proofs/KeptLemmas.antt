-- What a change of what is kept shows outside.
use Rattle.std.proofs.Common.{◌≡◌, ◌≢◌, ◌<◌, ℕ, zero, suc, Bool, true, false, List, [], ◌≤◌, length, Result, Ok, Err, rules, arith, replicate, slice_index_or, ap, subst, refl, sym, ◌∙◌}
use Rattle.std.proofs.lemmas.Bool.Decides.{nat_tests}
use Rattle.v6_port.specs.declared.kept.Kept.{Kept}
use Rattle.v6_port.specs.declared.host.InPort.{InPort}
use Rattle.v6_port.specs.declared.host.OutPort.{OutPort}
use Rattle.v6_port.specs.declared.host.OutPort.TheVariants as out_port
use Rattle.v6_port.specs.declared.host.Failed.{Failed}
use Rattle.v6_port.specs.Outside.{Port, In, Out, same, in_number, out_number, port_number, is_report, Environment, OnlyAt, IsNew, IsIdle}
use Rattle.v6_port.specs.Calls.{HasFailed, FailedPlainly, FailedToOpen, OpensRead, OpensWrite, Reads, Writes, Finishes}
use Rattle.v6_port.specs.Kept.{nothing_kept, silent, untold, kept_at, state_of, outside_of, KeptBut, Faults, Turns}

-- nothing else is seen to change
pub only_at : (q : Port) (fixed : Environment) (bytes later : Port → List ℕ) (old new : List Kept) (n : ℕ) → n ≡ port_number q
    → KeptBut n old new → ((r : Port) → same q r ≡ false → later r ≡ bytes r)
    → OnlyAt (same q) (outside_of fixed bytes old) (outside_of fixed later new)
only_at q fixed bytes later old new n is but same_bytes = subst
    (λ (n : ℕ). KeptBut n old new → OnlyAt (same q) (outside_of fixed bytes old) (outside_of fixed later new)) (sym is)
    (λ (but : KeptBut (port_number q) old new). record {
      fixed = refl;
      others = λ r other. search (rules, but.others (port_number r) other, same_bytes r other);
    }) but

-- a fault is seen as a failed call
pub has_failed : (q : Port) (fixed : Environment) (bytes later : Port → List ℕ) (old new : List Kept) (n : ℕ) → n ≡ port_number q
    → Faults n old new → later q ≡ bytes q → HasFailed q (outside_of fixed bytes old) (outside_of fixed later new)
has_failed q fixed bytes later old new n is fault same_bytes = subst
    (λ (n : ℕ). Faults n old new → HasFailed q (outside_of fixed bytes old) (outside_of fixed later new)) (sym is)
    (λ (fault : Faults (port_number q) old new). search (rules, same_bytes)) fault

-- A port that is opened is seen to be open.
pub opened : (q : Port) (fixed : Environment) (bytes later : Port → List ℕ) (old new : List Kept) (n : ℕ) → n ≡ port_number q
    → Turns n true old new
    → (outside_of fixed later new).port q ≡ record ((outside_of fixed bytes old).port q) { is_open = true; bytes = later q }
opened q fixed bytes later old new n is turned = subst
    (λ (n : ℕ). Turns n true old new → (outside_of fixed later new).port q ≡ record ((outside_of fixed bytes old).port q) { is_open = true; bytes = later q }) (sym is)
    (λ (turned : Turns (port_number q) true old new). ap (λ (kept : Kept). state_of kept q (later q)) turned.turned) turned

-- The same of a host that tells nothing.
pub silent_only : (q : Port) (old new : List Kept) (n : ℕ) → n ≡ port_number q → KeptBut n old new → OnlyAt (same q) (silent old) (silent new)
silent_only q old new n is but = only_at q _ (λ _. []) (λ _. []) old new n is but (λ _ _. refl)

pub silent_plainly : (q : Port) (old new : List Kept) (n : ℕ) → n ≡ port_number q → Faults n old new → FailedPlainly q (silent old) (silent new)
silent_plainly q old new n is fault = record {
  failed = has_failed q _ (λ _. []) (λ _. []) old new n is fault refl;
  missing = subst (λ (n : ℕ). (kept_at new n).missing ≡ (kept_at old n).missing) is fault.missing;
}

pub silent_to_open : (q : Port) (known : Bool) (old new : List Kept) (n : ℕ) → n ≡ port_number q → Faults n old new → FailedToOpen q known (silent old) (silent new)
silent_to_open q known old new n is fault = let plainly = silent_plainly q old new n is fault in record {
  failed = plainly.failed;
  missed = λ told. absurd (cc);
  found = λ told. absurd (cc);
  no_fewer = omega (arith, plainly.missing);
}

-- a failed call of a host that tells nothing
module _ (old new : List Kept) (n : ℕ) (fault : Faults n old new) where
  pub open_read_fails : (p : InPort) (name : List ℕ) (r : Result (Unit {0}) Failed) → n ≡ in_number p → r ≡ Err (record {}) → OpensRead p name (silent old) r (silent new)
  open_read_fails p name r is fails = rw fails (record {
    only = silent_only (In p) old new n is fault.others;
    outcome = silent_to_open (In p) _ old new n is fault;
  })

  pub open_write_fails : (p : OutPort) (name : List ℕ) (r : Result (Unit {0}) Failed) → n ≡ out_number p → r ≡ Err (record {}) → OpensWrite p name (silent old) r (silent new)
  open_write_fails p name r is fails = rw fails (record {
    only = silent_only (Out p) old new n is fault.others;
    outcome = silent_to_open (Out p) _ old new n is fault;
  })

  pub read_fails : (p : InPort) (buffer : List ℕ) (r : Result ℕ Failed) → n ≡ in_number p → r ≡ Err (record {}) → Reads p (silent old) buffer r (silent new)
  read_fails p buffer r is fails = rw fails (record {
    only = silent_only (In p) old new n is fault.others;
    outcome = silent_plainly (In p) old new n is fault;
  })

  pub write_fails : (p : OutPort) (piece : List ℕ) (r : Result ℕ Failed) → n ≡ out_number p → r ≡ Err (record {}) → Writes p (silent old) piece r (silent new)
  write_fails p piece r is fails = rw fails (record {
    only = silent_only (Out p) old new n is fault.others;
    outcome = silent_plainly (Out p) old new n is fault;
  })

  pub finish_fails : (p : OutPort) (r : Result (Unit {0}) Failed) → n ≡ out_number p → r ≡ Err (record {}) → Finishes p (silent old) r (silent new)
  finish_fails p r is fails = rw fails (record {
    only = silent_only (Out p) old new n is fault.others;
    outcome = silent_plainly (Out p) old new n is fault;
  })

-- a port that a host that tells nothing has opened
module _ (old new : List Kept) (n : ℕ) (turned : Turns n true old new) where
  pub opens_read : (p : InPort) (name : List ℕ) → n ≡ in_number p → OpensRead p name (silent old) (Ok tt) (silent new)
  opens_read p name is = record {
    only = silent_only (In p) old new n is turned.others;
    outcome = (opened (In p) untold (λ _. []) (λ _. []) old new n is turned, λ told. absurd (cc));
  }

  pub opens_write : (p : OutPort) (name : List ℕ) → n ≡ out_number p → OpensWrite p name (silent old) (Ok tt) (silent new)
  opens_write p name is = record {
    only = silent_only (Out p) old new n is turned.others;
    outcome = (opened (Out p) untold (λ _. []) (λ _. []) old new n is turned, λ told. absurd (cc));
  }

-- a port that it has closed
not_report : (p : OutPort) → p ≢ out_port.Report → is_report (Out p) ≡ false
not_report out_port.Term other = refl
not_report out_port.Log other = refl
not_report out_port.Final other = refl
not_report out_port.Report other = absurd (other refl)
not_report out_port.Second other = refl
not_report (out_port.Line l) other = grind (arith, nat_tests)

pub finishes : (old new : List Kept) (n : ℕ) → Turns n false old new
    → (p : OutPort) → n ≡ out_number p → p ≢ out_port.Report → Finishes p (silent old) (Ok tt) (silent new)
finishes old new n turned p is other = record {
  only = silent_only (Out p) old new n is turned.others;
  outcome = subst (λ (n : ℕ). Turns n false old new → (silent new).port (Out p) ≡ record ((silent old).port (Out p)) { is_open = false }) (sym is)
      (λ (turned : Turns (out_number p) false old new).
      ap (λ (kept : Kept). state_of kept (Out p) []) turned.turned
      ∙ ap (λ (is_open : Bool). record ((silent old).port (Out p)) { is_open = is_open }) (not_report p other)) turned;
}

-- Reads and writes of a host that tells nothing change nothing that is seen.
module _ (ports : List Kept) (bytes : List ℕ) (n : ℕ) (within : n ≤ length bytes) where
  pub reads : (p : InPort) → Reads p (silent ports) bytes (Ok n) (silent ports)
  reads p = record {
    only = record { fixed = refl; others = λ q other. refl };
    outcome = (within, refl, (λ told. absurd (cc)), λ told. absurd (cc));
  }

  pub writes : (p : OutPort) → (0 < length bytes → 0 < n) → Writes p (silent ports) bytes (Ok n) (silent ports)
  writes p some = record {
    only = record { fixed = refl; others = λ q other. refl };
    outcome = (within, some, refl, λ told. absurd (cc));
  }

-- nothing is kept yet
pub repeated : {A : Type 0} (m n : ℕ) (x : A) → slice_index_or (replicate m x) n x ≡ x
repeated zero n x = refl
repeated (suc m) zero x = refl
repeated (suc m) (suc n) x = repeated m n x

module _ (fixed : Environment) (bytes : Port → List ℕ) (ports : List Kept) (nothing : (n : ℕ) → kept_at ports n ≡ nothing_kept) where
  pub is_new : ((q : Port) → bytes q ≡ []) → IsNew (outside_of fixed bytes ports)
  is_new empty = record {
    is_open = λ q. rw nothing refl;
    faults = λ q. rw nothing refl;
    missing = λ q. rw nothing refl;
    bytes = empty;
  }

  pub is_idle : IsIdle (outside_of fixed bytes ports)
  is_idle = record {
    closed = λ p other. rw (nothing, other) refl;
    faults = λ q. rw nothing (omega arith);
    missing = λ q. rw nothing (omega arith);
  }
