-- What goes out on two ports, one thing after another: the laws of the trace over a host.
use Rattle.std.proofs.Common.{◌≡◌, ℕ, true, Option, Some, None, IfSome, MatchOption, [], ◌++◌, refl, sym, ◌∙◌, ap, subst, append_assoc}
use Rattle.std.proofs.lemmas.List.{append-nil}
use Rattle.v6_port.specs.declared.host.OutPort.{OutPort}
use Rattle.v6_port.specs.Outside.{Out, PortState, Outside, Tells}
use Rattle.v6_port.specs.Causes.{Calm, FaultAt}
use Rattle.v6_port.proofs.CauseLemmas.{calm_still, calm_then, fault_then, only_then, still_tells}
use Rattle.v6_run.specs.declared.ports.Kept.{Kept}
use Rattle.v6_run.specs.declared.ports.Kept.TheVariants as kept
use Rattle.v6_run.specs.Outputs.{is_shown}
use Rattle.v6_run.specs.Ports.{failed_port, is_silent, Grows, Goes}

pub grows_not : (told : Type 0) (p : PortState) → Grows told p p
grows_not told p = record { is_open = refl; bytes = λ _. record { more = []; is = sym (append-nil p.bytes) } }

grows_on : (told then : Type 0) (a b c : PortState) → (told → then) → Grows told a b → Grows then b c → Grows told a c
grows_on told then a b c still first second = record {
  is_open = second.is_open ∙ first.is_open;
  bytes = λ is.
      let one = first.bytes is in
      let two = second.bytes (still is) in
      record {
        more = one.more ++ two.more;
        is = two.is ∙ ap (λ l. l ++ two.more) one.is ∙ append_assoc a.bytes one.more two.more;
      };
}

-- nothing has failed
calm_at : (o : Outside) (failed : Option OutPort) → failed ≡ None
    → MatchOption failed (Calm o o) (λ p. FaultAt (Out p) true o o)
calm_at o None is = calm_still o
calm_at o (Some port) is = absurd (cc)

named_at : (lines : ℕ) (failed : Option OutPort) → failed ≡ None → IfSome failed (λ p. is_shown lines (Out p) ≡ true)
named_at lines None is = tt
named_at lines (Some port) is = absurd (cc)

pub Goes-same : (lines : ℕ) (o : Outside) (kept : Kept) → Goes lines o kept o kept
Goes-same lines o kept = record {
  only = record { fixed = refl; others = λ q other. refl };
  grows = λ p. grows_not (Tells o) (o.port (Out p));
  cause = calm_at o (failed_port kept);
  named = named_at lines (failed_port kept);
  stopped = λ is_cut. (refl, is_cut, refl);
  counted = refl;
}

-- after a failure nothing is written
silent_failed : (k : Kept) (port : OutPort) → failed_port k ≡ Some port → is_silent k ≡ true
silent_failed kept.Nothing port is = absurd (cc is)
silent_failed (kept.Byte line byte) port is = refl
silent_failed (kept.Line rest) port is = refl
silent_failed kept.Unwanted port is = refl
silent_failed (kept.Count n) port is = refl

-- a fault comes after calm, or else nothing changes after it
module _ (lines : ℕ) (a b c : Outside) (b_kept c_kept : Kept) (second : Goes lines b b_kept c c_kept)
    (fixed : b.fixed ≡ a.fixed) where
  after_calm : (failed : Option OutPort) → Calm a b → MatchOption failed (Calm b c) (λ p. FaultAt (Out p) true b c)
      → MatchOption failed (Calm a c) (λ p. FaultAt (Out p) true a c)
  after_calm None calm calm_too = calm_then a b c calm calm_too
  after_calm (Some port) calm fault = fault_then (Out port) true a b c fixed calm fault

  cause_on : (failed : Option OutPort) → failed_port b_kept ≡ failed
      → MatchOption failed (Calm a b) (λ p. FaultAt (Out p) true a b)
      → MatchOption (failed_port c_kept) (Calm a c) (λ p. FaultAt (Out p) true a c)
  cause_on None is calm = after_calm (failed_port c_kept) calm (second.cause is)
  cause_on (Some port) is fault =
      let still = second.stopped (silent_failed b_kept port is) in
      subst (λ o. MatchOption o (Calm a c) (λ p. FaultAt (Out p) true a c)) (sym (still.2 ∙ is))
      (subst (λ o. FaultAt (Out port) true a o) (sym still.0) fault)

  named_on : (failed : Option OutPort) → failed_port b_kept ≡ failed → IfSome failed (λ p. is_shown lines (Out p) ≡ true)
      → IfSome (failed_port c_kept) (λ p. is_shown lines (Out p) ≡ true)
  named_on None is named = second.named is
  named_on (Some port) is named =
      let still = second.stopped (silent_failed b_kept port is) in
      subst (λ o. IfSome o (λ p. is_shown lines (Out p) ≡ true)) (sym (still.2 ∙ is)) named

pub Goes-on : (lines : ℕ) (a : Outside) (a_kept : Kept) (b : Outside) (b_kept : Kept) (c : Outside) (c_kept : Kept)
    → Goes lines a a_kept b b_kept → Goes lines b b_kept c c_kept → Goes lines a a_kept c c_kept
Goes-on lines a a_kept b b_kept c c_kept first second = record {
  only = only_then (is_shown lines) a b c first.only second.only;
  grows = λ p. grows_on (Tells a) (Tells b) (a.port (Out p)) (b.port (Out p)) (c.port (Out p))
      (still_tells (is_shown lines) a b first.only)
      (first.grows p) (second.grows p);
  cause = λ goes. cause_on lines a b c b_kept c_kept second first.only.fixed (failed_port b_kept) refl (first.cause goes);
  named = λ goes. named_on lines a b c b_kept c_kept second first.only.fixed (failed_port b_kept) refl (first.named goes);
  stopped = λ is_cut.
      let one = first.stopped is_cut in
      let two = second.stopped one.1 in
      (two.0 ∙ one.0, two.1, two.2 ∙ one.2);
  counted = second.counted ∙ first.counted;
}

-- the same, where the number of lines is that of another
pub goes_then : (lines more : ℕ) (a : Outside) (a_kept : Kept) (b : Outside) (b_kept : Kept) (c : Outside) (c_kept : Kept)
    → more ≡ lines → Goes lines a a_kept b b_kept → Goes more b b_kept c c_kept → Goes lines a a_kept c c_kept
goes_then lines more a a_kept b b_kept c c_kept is first second =
    Goes-on lines a a_kept b b_kept c c_kept first (subst (λ n. Goes n b b_kept c c_kept) is second)
