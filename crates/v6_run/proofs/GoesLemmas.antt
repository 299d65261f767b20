-- What stays while a byte, or a line of the log, goes out.
use Rattle.std.proofs.Common.{◌≡◌, ◌<◌, ℕ, Bool, true, false, Some, None, IfSome, MatchOption, Result, Ok, Err, is_err, OnOk, OnErr, MatchResult, take, refl, sym, ◌∙◌, ap, subst, cond, List, [], ◌∷◌, ◌++◌}
use Rattle.std.specs.Prelude.{◌==◌}
use Rattle.std.proofs.lemmas.List.{append-nil}
use Rattle.v6_port.specs.declared.host.Failed.{Failed}
use Rattle.v6_port.specs.declared.host.OutPort.{OutPort}
use Rattle.v6_port.specs.declared.host.OutPort.TheVariants as out_port
use Rattle.v6_port.specs.Outside.{Port, Out, same, PortState, Outside, Tells, IsOpen, OnlyAt}
use Rattle.v6_port.specs.Causes.{Calm, FaultAt}
use Rattle.v6_port.proofs.CauseLemmas.{same_is, calm_still}
use Rattle.v6_run.specs.declared.ports.Kept.{Kept}
use Rattle.v6_run.specs.declared.ports.Kept.TheVariants as kept
use Rattle.v6_run.specs.Opened.{line_port}
use Rattle.v6_run.specs.Outputs.{is_shown}
use Rattle.v6_run.specs.Ports.{failed_port, is_silent, is_counted, counted, counted_on, Extends, Grows, Goes}
use Rattle.v6_run.specs.PortLaws.{grows_not, Goes-same}
use Rattle.v6_run.proofs.CauseLemmas.{by_test, only_within}
use Rattle.v6_run.proofs.LinePorts.{line_shown}
use Rattle.v6_run.proofs.PortLemmas.{loud_written}

-- one port grows, and the others stay
grows_at : (q : OutPort) (a b : Outside) → OnlyAt (same (Out q)) a b → Grows (Tells a) (a.port (Out q)) (b.port (Out q)) → (p : OutPort)
    → Grows (Tells a) (a.port (Out p)) (b.port (Out p))
grows_at q a b only here p = by_test (same (Out q) (Out p)) _
    (λ is. subst (λ (r : Port). Grows (Tells a) (a.port r) (b.port r)) (same_is (Out q) (Out p) is) here)
    (λ other. subst (λ (s : PortState). Grows (Tells a) (a.port (Out p)) s) (sym (only.others (Out p) other)) (grows_not (Tells a) (a.port (Out p))))

shown_within : (lines : ℕ) (q : OutPort) → is_shown lines (Out q) ≡ true → (r : Port) → is_shown lines r ≡ false → same (Out q) r ≡ false
shown_within lines q shown r other = by_test (same (Out q) r) (same (Out q) r ≡ false)
    (λ is. absurd (let never : true ≡ false = sym shown ∙ ap (is_shown lines) (same_is (Out q) r is) ∙ other in cc))
    (λ apart. apart)

-- something is written to one of the ports
pub goes_written : (lines : ℕ) (q : OutPort) (a b : Outside) (before after : Kept) → is_shown lines (Out q) ≡ true → is_silent before ≡ false → OnlyAt (same (Out q)) a b
    → IsOpen a (Out q) → IsOpen b (Out q) → (Tells a → Extends (a.port (Out q)).bytes (b.port (Out q)).bytes)
    → MatchOption (failed_port after) (Calm a b) (λ p. FaultAt (Out p) true a b) → IfSome (failed_port after) (λ p. is_shown lines (Out p) ≡ true)
    → is_counted before ≡ false → is_counted after ≡ false → Goes lines a before b after
goes_written lines q a b before after shown loud only was_open is_open more cause named plain still_plain = record {
  only = only_within _ _ _ _ (shown_within lines q shown) only;
  grows = grows_at q a b only (record { is_open = is_open ∙ sym was_open; bytes = more });
  cause = λ _. cause;
  named = λ _. named;
  stopped = λ silent. absurd (let never : true ≡ false = sym silent ∙ loud in cc);
  counted = still_plain ∙ sym plain;
}

-- nothing is written, and a byte may be counted
goes_counting : (lines : ℕ) (o : Outside) (k : Kept) → is_silent k ≡ true → Goes lines o k o (counted k)
goes_counting lines o kept.Nothing silent = cc
goes_counting lines o (kept.Byte line other) silent = Goes-same lines o (kept.Byte line other)
goes_counting lines o (kept.Line rest) silent = Goes-same lines o (kept.Line rest)
goes_counting lines o kept.Unwanted silent = Goes-same lines o kept.Unwanted
goes_counting lines o (kept.Count n) silent = record {
  only = record { fixed = refl; others = λ q other. refl };
  grows = λ p. grows_not (Tells o) (o.port (Out p));
  cause = λ _. calm_still o;
  named = λ _. tt;
  stopped = λ _. (refl, refl, refl);
  counted = refl;
}

pub goes_silently : (lines : ℕ) (o : Outside) (line : ℕ) (k : Kept) → is_silent k ≡ true → Goes lines o k o (counted_on line k)
goes_silently lines o line k silent = by (line == 0)
  where
    by : (b : Bool) → Goes lines o k o (cond b (counted k) k)
    by true = goes_counting lines o k silent
    by false = Goes-same lines o k

-- what isn't silent hasn't failed
unfailed : (k : Kept) → is_silent k ≡ false → failed_port k ≡ None
unfailed kept.Nothing loud = refl
unfailed (kept.Byte line byte) loud = cc
unfailed (kept.Line rest) loud = cc
unfailed kept.Unwanted loud = refl
unfailed (kept.Count n) loud = refl

calm_cause : (k : Kept) (a b : Outside) → is_silent k ≡ false → Calm a b → MatchOption (failed_port k) (Calm a b) (λ p. FaultAt (Out p) true a b)
calm_cause k a b loud calm = subst (λ o. MatchOption o (Calm a b) (λ p. FaultAt (Out p) true a b)) (sym (unfailed k loud)) calm

none_named : (lines : ℕ) (k : Kept) → is_silent k ≡ false → IfSome (failed_port k) (λ p. is_shown lines (Out p) ≡ true)
none_named lines k loud = subst (λ o. IfSome o (λ p. is_shown lines (Out p) ≡ true)) (sym (unfailed k loud)) tt

-- A byte goes out on the port of its line.
module _ (lines : ℕ) (a b : Outside) (before : Kept) (line byte : ℕ) (loud : is_silent before ≡ false) (below : line < lines) (q : OutPort) (q_is : q ≡ line_port line)
    (only : OnlyAt (same (Out q)) a b) (was_open : IsOpen a (Out q)) (is_open : IsOpen b (Out q)) where
  line_named : is_shown lines (Out (line_port line)) ≡ true
  line_named = line_shown lines line below

  shown : is_shown lines (Out q) ≡ true
  shown = ap (λ p. is_shown lines (Out p)) q_is ∙ line_named

  pub byte_goes : (r : Result (Unit {0}) Failed) → is_err r ≡ false → OnOk r (Tells a → (b.port (Out q)).bytes ≡ (a.port (Out q)).bytes ++ byte ∷ [])
      → MatchResult r (λ _. Calm a b) (λ _. FaultAt (Out q) true a b) → Goes lines a before b before
  byte_goes (Ok x) good whole cause = goes_written lines q a b before before shown loud only was_open is_open (λ told. record { more = byte ∷ []; is = whole told })
      (calm_cause before a b loud cause) (none_named lines before loud) (loud_written before loud) (loud_written before loud)
  byte_goes (Err e) good whole cause = absurd (cc)

  pub kept_goes : (r : Result (Unit {0}) Failed) → is_err r ≡ true → OnErr r ((b.port (Out q)).bytes ≡ (a.port (Out q)).bytes)
      → MatchResult r (λ _. Calm a b) (λ _. FaultAt (Out q) true a b) → Goes lines a before b (kept.Byte line byte)
  kept_goes (Ok x) bad stays cause = absurd (cc)
  kept_goes (Err e) bad stays cause = goes_written lines q a b before (kept.Byte line byte) shown loud only was_open is_open
      (λ told. record { more = []; is = stays ∙ sym (append-nil (a.port (Out q)).bytes) }) (subst (λ p. FaultAt (Out p) true a b) q_is cause) line_named (loud_written before loud) refl

-- A line of the log goes out.
module _ (lines : ℕ) (a b : Outside) (before : Kept) (text : List ℕ) (loud : is_silent before ≡ false) (only : OnlyAt (same (Out out_port.Log)) a b)
    (was_open : IsOpen a (Out out_port.Log)) (is_open : IsOpen b (Out out_port.Log)) where
  log_shown : is_shown lines (Out out_port.Log) ≡ true
  log_shown = refl

  pub line_goes : (Tells a → (b.port (Out out_port.Log)).bytes ≡ (a.port (Out out_port.Log)).bytes ++ text) → Calm a b → Goes lines a before b before
  line_goes whole calm = goes_written lines out_port.Log a b before before refl loud only was_open is_open (λ told. record { more = text; is = whole told })
      (calm_cause before a b loud calm) (none_named lines before loud) (loud_written before loud) (loud_written before loud)

  pub rest_goes : (count : ℕ) (rest : Kept) → failed_port rest ≡ Some out_port.Log → is_counted rest ≡ false
      → (Tells a → (b.port (Out out_port.Log)).bytes ≡ (a.port (Out out_port.Log)).bytes ++ take count text) → FaultAt (Out out_port.Log) true a b → Goes lines a before b rest
  rest_goes count rest failed plain front fault = goes_written lines out_port.Log a b before rest refl loud only was_open is_open
      (λ told. record { more = take count text; is = front told })
      (subst (λ o. MatchOption o (Calm a b) (λ p. FaultAt (Out p) true a b)) (sym failed) fault)
      (subst (λ o. IfSome o (λ p. is_shown lines (Out p) ≡ true)) (sym failed) log_shown) (loud_written before loud) plain
