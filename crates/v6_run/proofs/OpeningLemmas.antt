-- The opening and the finishing of a run's files, one after another.
use Rattle.std.proofs.Common.{◌≡◌, ◌≢◌, ◌+◌, ◌-◌, ◌<◌, ◌≤◌, ℕ, suc, Bool, true, false, not, ◌||◌, ◌⊎◌, inl, if◌then◌else◌, Option, is_some, Result, Ok, Err, is_err, List, [], ◌∷◌, ◌++◌, append_assoc, length, get_or, take, drop, take_all, length-take, length-drop, map, string_bytes, refl, sym, ◌∙◌, ap, subst, arith}
use Rattle.std.specs.List.{range_with_len}
use Rattle.std.proofs.lemmas.Bool.{eq-eqb}
use Rattle.std.proofs.lemmas.List.FromFn.{map-range_with_len_more}
use Rattle.v6_port.specs.declared.host.Failed.{Failed}
use Rattle.v6_port.specs.declared.host.OutPort.{OutPort}
use Rattle.v6_port.specs.declared.host.OutPort.TheVariants as out_port
use Rattle.v6_port.specs.Outside.{Port, Out, port_number, same, is_report, IsThere, PortState, Environment, Outside, Tells, IsOpen, OnlyAt}
use Rattle.v6_port.specs.Calls.{is_expected, OpensWrite, Finishes}
use Rattle.v6_port.specs.Causes.{SameCounts, Calm, FaultAt}
use Rattle.v6_port.proofs.CauseLemmas.{same_is, still_tells, only_then, calm_still, calm_then, fault_then}
use Rattle.fs_codec.specs.Disk.{Disk}
use Rattle.abstract_unix.specs.Runs.{Course}
use Rattle.v6_run.specs.Words.{DiskFiles, ToDisk}
use Rattle.v6_run.specs.declared.outputs.Output.{Output}
use Rattle.v6_run.specs.Opened.{NamedPort, output, line_port, output_ports, has_port, AreApart, ports_before, knows_port, AreGood, line_output}
use Rattle.v6_run.specs.Steps.{is_opened_before}
use Rattle.v6_run.specs.Opening.{output_value, AreThere, Opens, Shuts}
use Rattle.v6_run.specs.Outputs.{is_shown, is_left, is_disk_output, disk_writes, StopsRun}
use Rattle.v6_run.proofs.CauseLemmas.{by_test, only_within, left_false, right_false, fault_known}
use Rattle.v6_run.proofs.OutputLemmas.{nothing_of}
use Rattle.v6_run.proofs.LinePorts.{right_true, disk_ports, either_told, line_shown}

same_self : (q : Port) → same q q ≡ true
same_self q = eq-eqb (port_number q) (port_number q) refl

-- what a call at one port leaves and changes
module _ (p : OutPort) (a b : Outside) (only : OnlyAt (same (Out p)) a b) where
  bytes_step : (b.port (Out p)).bytes ≡ (a.port (Out p)).bytes → (q : OutPort) → (b.port (Out q)).bytes ≡ (a.port (Out q)).bytes
  bytes_step is q = by_test (same (Out p) (Out q)) _
      (λ here. subst (λ (r : Port). (b.port r).bytes ≡ (a.port r).bytes) (same_is (Out p) (Out q) here) is)
      (λ other. ap (λ (state : PortState). state.bytes) (only.others (Out q) other))

  others_step : (q : Port) → same (Out p) q ≡ false → SameCounts (a.port q) (b.port q)
  others_step q other = record {
    faults = ap (λ (state : PortState). state.faults) (only.others q other);
    missing = ap (λ (state : PortState). state.missing) (only.others q other);
  }

  calm_step : SameCounts (a.port (Out p)) (b.port (Out p)) → Calm a b
  calm_step here = record {
    at = λ q. by_test (same (Out p) q) _
        (λ is. subst (λ (r : Port). SameCounts (a.port r) (b.port r)) (same_is (Out p) q is) here) (others_step q);
  }

module _ (p : OutPort) (name : List ℕ) (ports : List NamedPort) where
  abbrev all : List NamedPort
  all = output p name ∷ ports

  only_first : (a b : Outside) → OnlyAt (same (Out p)) a b → OnlyAt (has_port all) a b
  only_first a b only = only_within _ _ _ _ (λ q other. left_false (same (Out p) q) (has_port ports q) other) only

  only_rest : (a b : Outside) → OnlyAt (has_port ports) a b → OnlyAt (has_port all) a b
  only_rest a b only = only_within _ _ _ _ (λ q other. right_false (same (Out p) q) (has_port ports q) other) only

  first_named : has_port all (Out p) ≡ true
  first_named = ap (λ b. b || has_port ports (Out p)) (same_self (Out p))

  rest_named : (q : Port) → has_port ports q ≡ true → has_port all q ≡ true
  rest_named q is = by_test (same (Out p) q) _ (λ here. ap (λ b. b || has_port ports q) here) (λ other. ap (λ b. b || has_port ports q) other ∙ is)

  knows_first : (fixed : Environment) → knows_port all fixed (Out p) ≡ is_expected (fixed.expects p) name
  knows_first fixed = ap (λ b. if b then is_expected (fixed.expects p) name else knows_port ports fixed (Out p)) (same_self (Out p))

  none_before : ports_before all (Out p) ≡ []
  none_before = ap (λ b. if b then [] else output p name ∷ ports_before ports (Out p)) (same_self (Out p))

  -- the first isn't among the others
  module _ (apart : has_port ports (Out p) ≡ false) where
    pub not_first : (q : Port) → has_port ports q ≡ true → same (Out p) q ≡ false
    not_first q named = by_test (same (Out p) q) _
        (λ is. absurd (let never : false ≡ true = sym apart ∙ ap (has_port ports) (same_is (Out p) q is) ∙ named in cc)) (λ other. other)

    knows_rest : (fixed : Environment) (q : Port) → has_port ports q ≡ true → knows_port all fixed q ≡ knows_port ports fixed q
    knows_rest fixed q named = ap (λ b. if b then is_expected (fixed.expects p) name else knows_port ports fixed q) (not_first q named)

    before_rest : (q : Port) → has_port ports q ≡ true → ports_before all q ≡ output p name ∷ ports_before ports q
    before_rest q named = ap (λ b. if b then [] else output p name ∷ ports_before ports q) (not_first q named)

    -- what is closed before the first is opened is closed after it
    pub still_at : (state : Bool) (a b : Outside) → OnlyAt (same (Out p)) a b → ((q : OutPort) → has_port all (Out q) ≡ true → (a.port (Out q)).is_open ≡ state)
        → (q : OutPort) → has_port ports (Out q) ≡ true → (b.port (Out q)).is_open ≡ state
    still_at state a b only were q named =
        ap (λ (port : PortState). port.is_open) (only.others (Out q) (not_first (Out q) named)) ∙ were q (rest_named (Out q) named)

    -- the first is open, or closed, and the others are left to what comes
    all_at : (state : Bool) (b c : Outside) → OnlyAt (has_port ports) b c → (b.port (Out p)).is_open ≡ state
        → ((q : OutPort) → has_port ports (Out q) ≡ true → (c.port (Out q)).is_open ≡ state) → (q : OutPort) → has_port all (Out q) ≡ true → (c.port (Out q)).is_open ≡ state
    all_at state b c only here others q named = either_told (same (Out p) (Out q)) (has_port ports (Out q)) _ named
        (λ is. subst (λ (r : Port). (c.port r).is_open ≡ state) (same_is (Out p) (Out q) is) (ap (λ (port : PortState). port.is_open) (only.others (Out p) apart) ∙ here))
        (others q)

    -- what is told of those before another port, when the first has been passed and the others are as it says
    states_then : (f : Bool → Bool) (b c : Outside) (q : OutPort) → has_port ports (Out q) ≡ true → OnlyAt (has_port ports) b c → (b.port (Out p)).is_open ≡ f true
        → ((r : OutPort) → has_port ports (Out r) ≡ true → (c.port (Out r)).is_open ≡ f (is_opened_before ports r q))
        → (r : OutPort) → has_port all (Out r) ≡ true → (c.port (Out r)).is_open ≡ f (is_opened_before all r q)
    states_then f b c q named only here others r among =
        either_told (same (Out p) (Out r)) (has_port ports (Out r)) _ among
        (λ is. subst (λ (s : Port). (c.port s).is_open ≡ f true) (same_is (Out p) (Out r) is) (ap (λ (port : PortState). port.is_open) (only.others (Out p) apart) ∙ here)
        ∙ ap (λ b. f (b || is_opened_before ports r q)) (sym is) ∙ ap (λ l. f (has_port l (Out r))) (sym (before_rest (Out q) named)))
        (λ later. others r later ∙ ap (λ b. f (b || is_opened_before ports r q)) (sym (not_first (Out r) later)) ∙ ap (λ l. f (has_port l (Out r))) (sym (before_rest (Out q) named)))

  -- the first has failed, and none comes before it
  states_first : (f : Bool → Bool) (a b : Outside) → OnlyAt (same (Out p)) a b → (b.port (Out p)).is_open ≡ (a.port (Out p)).is_open
      → ((r : OutPort) → has_port all (Out r) ≡ true → (a.port (Out r)).is_open ≡ f false)
      → (r : OutPort) → has_port all (Out r) ≡ true → (b.port (Out r)).is_open ≡ f (is_opened_before all r p)
  states_first f a b only here were r among =
      by_test (same (Out p) (Out r)) _ (λ is. subst (λ (s : Port). (b.port s).is_open ≡ (a.port s).is_open) (same_is (Out p) (Out r) is) here)
      (λ other. ap (λ (port : PortState). port.is_open) (only.others (Out r) other))
      ∙ were r among ∙ ap (λ l. f (has_port l (Out r))) (sym none_before)

  -- it can't be opened
  pub open_fault : (a b : Outside) (r : Result (Unit {0}) Failed) → ((q : OutPort) → has_port all (Out q) ≡ true → (a.port (Out q)).is_open ≡ false) → is_err r ≡ true
      → OpensWrite p name a r b → Opens all (Err p) a b
  open_fault a b (Ok x) closed bad opens = absurd (cc)
  open_fault a b (Err e) closed bad opens = record {
    only = only_first a b opens.only;
    bytes = bytes_step p a b opens.only opens.outcome.failed.bytes;
    is_open = tt;
    cause = fault_known (Out p) _ _ a b (knows_first a.fixed) (record {
      rose = opens.outcome.failed.rose;
      others = record { at = others_step p a b opens.only };
      missing = opens.outcome.found;
    });
    named = first_named;
    order = λ told. subst (AreGood a.fixed) (sym none_before) tt;
    stopped = states_first (λ b. b) a b opens.only opens.outcome.failed.is_open closed;
  }

  -- or finished
  pub finish_fault : (a b : Outside) (r : Result (Unit {0}) Failed) → ((q : OutPort) → has_port all (Out q) ≡ true → (a.port (Out q)).is_open ≡ true) → is_err r ≡ true
      → Finishes p a r b → Shuts all (Err p) a b
  finish_fault a b (Ok x) opened bad shuts = absurd (cc)
  finish_fault a b (Err e) opened bad shuts = record {
    only = only_first a b shuts.only;
    bytes = bytes_step p a b shuts.only shuts.outcome.failed.bytes;
    is_open = tt;
    cause = record {
      rose = shuts.outcome.failed.rose;
      others = record { at = others_step p a b shuts.only };
      missing = λ told known. shuts.outcome.missing;
    };
    named = first_named;
    stopped = states_first not a b shuts.only shuts.outcome.failed.is_open opened;
  }

  -- it is opened, and the others after it
  module _ (a b c : Outside) (apart : has_port ports (Out p) ≡ false) (only : OnlyAt (same (Out p)) a b) (opened : b.port (Out p) ≡ record (a.port (Out p)) { is_open = true })
      (expected : Tells a → is_expected (a.fixed.expects p) name ≡ true) where
    first_calm : Calm a b
    first_calm = calm_step p a b only (record { faults = ap (λ (state : PortState). state.faults) opened; missing = ap (λ (state : PortState). state.missing) opened })

    first_bytes : (q : OutPort) → (b.port (Out q)).bytes ≡ (a.port (Out q)).bytes
    first_bytes = bytes_step p a b only (ap (λ (state : PortState). state.bytes) opened)

    both_opened : (s : Result (Unit {0}) OutPort) → Opens ports s b c → Opens all s a c
    both_opened (Ok x) rest = record {
      only = only_then (has_port all) a b c (only_first a b only) (only_rest b c rest.only);
      bytes = λ q. rest.bytes q ∙ first_bytes q;
      is_open = all_at apart true b c rest.only (ap (λ (state : PortState). state.is_open) opened) rest.is_open;
      cause = calm_then a b c first_calm rest.cause;
      named = tt;
      order = λ told. (expected told, subst (λ (f : Environment). AreGood f ports) only.fixed (rest.order (still_tells _ a b only told)));
      stopped = tt;
    }
    both_opened (Err q) rest = record {
      only = only_then (has_port all) a b c (only_first a b only) (only_rest b c rest.only);
      bytes = λ q. rest.bytes q ∙ first_bytes q;
      is_open = tt;
      cause = fault_known (Out q) _ _ a c (knows_rest apart a.fixed (Out q) rest.named ∙ ap (λ (f : Environment). knows_port ports f (Out q)) (sym only.fixed))
          (fault_then (Out q) _ a b c only.fixed first_calm rest.cause);
      named = rest_named (Out q) rest.named;
      order = λ told. subst (AreGood a.fixed) (sym (before_rest apart (Out q) rest.named))
          (expected told, subst (λ (f : Environment). AreGood f (ports_before ports (Out q))) only.fixed (rest.order (still_tells _ a b only told)));
      stopped = states_then apart (λ b. b) b c q rest.named rest.only (ap (λ (state : PortState). state.is_open) opened) rest.stopped;
    }

  pub open_then : (a b c : Outside) (r : Result (Unit {0}) Failed) (s : Result (Unit {0}) OutPort) → has_port ports (Out p) ≡ false → is_err r ≡ false → OpensWrite p name a r b
      → Opens ports s b c → Opens all s a c
  open_then a b c (Ok x) s apart good opens rest = both_opened a b c apart opens.only opens.outcome.0 opens.outcome.1 s rest
  open_then a b c (Err e) s apart good opens rest = absurd (cc)

  -- it is finished, and the others after it
  module _ (a b c : Outside) (apart : has_port ports (Out p) ≡ false) (only : OnlyAt (same (Out p)) a b) (shut : b.port (Out p) ≡ record (a.port (Out p)) { is_open = false }) where
    shut_calm : Calm a b
    shut_calm = calm_step p a b only (record { faults = ap (λ (state : PortState). state.faults) shut; missing = ap (λ (state : PortState). state.missing) shut })

    shut_bytes : (q : OutPort) → (b.port (Out q)).bytes ≡ (a.port (Out q)).bytes
    shut_bytes = bytes_step p a b only (ap (λ (state : PortState). state.bytes) shut)

    both_shut : (s : Result (Unit {0}) OutPort) → Shuts ports s b c → Shuts all s a c
    both_shut (Ok x) rest = record {
      only = only_then (has_port all) a b c (only_first a b only) (only_rest b c rest.only);
      bytes = λ q. rest.bytes q ∙ shut_bytes q;
      is_open = all_at apart false b c rest.only (ap (λ (state : PortState). state.is_open) shut) rest.is_open;
      cause = calm_then a b c shut_calm rest.cause;
      named = tt;
      stopped = tt;
    }
    both_shut (Err q) rest = record {
      only = only_then (has_port all) a b c (only_first a b only) (only_rest b c rest.only);
      bytes = λ q. rest.bytes q ∙ shut_bytes q;
      is_open = tt;
      cause = fault_then (Out q) true a b c only.fixed shut_calm rest.cause;
      named = rest_named (Out q) rest.named;
      stopped = states_then apart not b c q rest.named rest.only (ap (λ (state : PortState). state.is_open) shut) rest.stopped;
    }

  pub finish_then : (a b c : Outside) (r : Result (Unit {0}) Failed) (s : Result (Unit {0}) OutPort) → has_port ports (Out p) ≡ false → is_err r ≡ false → Finishes p a r b
      → Shuts ports s b c → Shuts all s a c
  finish_then a b c (Ok x) s apart good shuts rest = both_shut a b c apart shuts.only shuts.outcome s rest
  finish_then a b c (Err e) s apart good shuts rest = absurd (cc)

-- nothing is opened, nothing finished
pub opens_none : (o : Outside) → Opens [] (Ok tt) o o
opens_none o = record {
  only = record { fixed = refl; others = λ q other. refl };
  bytes = λ p. refl;
  is_open = λ p no. absurd (cc no);
  cause = calm_still o;
  named = tt;
  order = λ told. tt;
  stopped = tt;
}

pub shuts_none : (o : Outside) → Shuts [] (Ok tt) o o
shuts_none o = record {
  only = record { fixed = refl; others = λ q other. refl };
  bytes = λ p. refl;
  is_open = λ p no. absurd (cc no);
  cause = calm_still o;
  named = tt;
  stopped = tt;
}

-- The files that a program holds, the first before the others.
pub no_outputs : (held : List Output) → length held < 1 → map output_value held ≡ []
no_outputs [] none = refl
no_outputs (x ∷ others) none = absurd (omega arith)

pub none_opened : (held : List Output) (o : Outside) → length held < 1 → Opens (map output_value held) (Ok tt) o o
none_opened held o none = subst (λ l. Opens l (Ok tt) o o) (sym (no_outputs held none)) (opens_none o)

pub none_shut : (held : List Output) (o : Outside) → length held < 1 → Shuts (map output_value held) (Ok tt) o o
none_shut held o none = subst (λ l. Shuts l (Ok tt) o o) (sym (no_outputs held none)) (shuts_none o)

pub fewer_left : (held : List Output) → 1 ≤ length held → length (take (length held - 1) (drop 1 held)) < length held
fewer_left held some = omega (arith, length-take (length held - 1) (drop 1 held), length-drop 1 held)

first_of : (held : List Output) (first d : Output) → 1 ≤ length held → first ≡ get_or held 0 d
    → map output_value held ≡ output_value first ∷ map output_value (take (length held - 1) (drop 1 held))
first_of [] first d some is = absurd (omega arith)
first_of (x ∷ others) first d some is =
    let all_left : take (suc (length others) - 1) others ≡ others = take_all _ others (omega arith) in
    rw (is, all_left)

module _ (held : List Output) (first d : Output) (some : 1 ≤ length held) (first_is : first ≡ get_or held 0 d) where
  abbrev ports_left : List NamedPort
  ports_left = map output_value (take (length held - 1) (drop 1 held))

  abbrev first_name : List ℕ
  first_name = string_bytes first.name

  split : map output_value held ≡ output first.port first_name ∷ ports_left
  split = first_of held first d some first_is

  pub left_apart : AreApart (map output_value held) → AreApart ports_left
  left_apart apart = (subst AreApart split apart).1

  first_apart : AreApart (map output_value held) → has_port ports_left (Out first.port) ≡ false
  first_apart apart = (subst AreApart split apart).0

  pub left_there : AreThere (map output_value held) → AreThere ports_left
  left_there there = (subst AreThere split there).1

  pub first_there : AreThere (map output_value held) → IsThere first.port
  first_there there = (subst AreThere split there).0.0

  pub not_report : AreThere (map output_value held) → first.port ≢ out_port.Report
  not_report there is =
      let other : is_report (Out first.port) ≡ false = (subst AreThere split there).0.1 in
      let never : true ≡ false = ap (λ p. is_report (Out p)) (sym is) ∙ other in cc

  -- whether each is open
  module _ (state : Bool) (a : Outside) (are : (q : OutPort) → has_port (map output_value held) (Out q) ≡ true → (a.port (Out q)).is_open ≡ state) where
    pub first_at : (a.port (Out first.port)).is_open ≡ state
    first_at = are first.port (ap (λ l. has_port l (Out first.port)) split ∙ first_named first.port first_name ports_left)

    pub left_at : (b : Outside) → AreApart (map output_value held) → OnlyAt (same (Out first.port)) a b → (q : OutPort) → has_port ports_left (Out q) ≡ true
        → (b.port (Out q)).is_open ≡ state
    left_at b apart only = still_at first.port first_name ports_left (first_apart apart) state a b only (λ q named. are q (ap (λ l. has_port l (Out q)) split ∙ named))

  pub first_unopened : (a b : Outside) (name : List ℕ) (r : Result (Unit {0}) Failed)
      → ((q : OutPort) → has_port (map output_value held) (Out q) ≡ true → (a.port (Out q)).is_open ≡ false) → name ≡ first_name → is_err r ≡ true
      → OpensWrite first.port name a r b → Opens (map output_value held) (Err first.port) a b
  first_unopened a b name r closed named bad opens = subst (λ l. Opens l (Err first.port) a b) (sym split)
      (open_fault first.port first_name ports_left a b r (subst (λ l. (q : OutPort) → has_port l (Out q) ≡ true → (a.port (Out q)).is_open ≡ false) split closed) bad (subst (λ n. OpensWrite first.port n a r b) named opens))

  pub left_opened : (a b c : Outside) (name : List ℕ) (r : Result (Unit {0}) Failed) (s : Result (Unit {0}) OutPort) → name ≡ first_name → AreApart (map output_value held)
      → is_err r ≡ false → OpensWrite first.port name a r b → Opens ports_left s b c → Opens (map output_value held) s a c
  left_opened a b c name r s named apart good opens left = subst (λ l. Opens l s a c) (sym split)
      (open_then first.port first_name ports_left a b c r s (first_apart apart) good (subst (λ n. OpensWrite first.port n a r b) named opens) left)

  pub first_unshut : (a b : Outside) (r : Result (Unit {0}) Failed)
      → ((q : OutPort) → has_port (map output_value held) (Out q) ≡ true → (a.port (Out q)).is_open ≡ true) → is_err r ≡ true → Finishes first.port a r b
      → Shuts (map output_value held) (Err first.port) a b
  first_unshut a b r opened bad shuts = subst (λ l. Shuts l (Err first.port) a b) (sym split)
      (finish_fault first.port first_name ports_left a b r (subst (λ l. (q : OutPort) → has_port l (Out q) ≡ true → (a.port (Out q)).is_open ≡ true) split opened) bad shuts)

  pub left_shut : (a b c : Outside) (r : Result (Unit {0}) Failed) (s : Result (Unit {0}) OutPort) → AreApart (map output_value held) → is_err r ≡ false
      → Finishes first.port a r b → Shuts ports_left s b c → Shuts (map output_value held) s a c
  left_shut a b c r s apart good shuts left = subst (λ l. Shuts l s a c) (sym split)
      (finish_then first.port first_name ports_left a b c r s (first_apart apart) good shuts left)

-- The files of a run.
module _ (files : DiskFiles) (ports : List NamedPort) (ports_are : ports ≡ output_ports (ToDisk files)) where
  named_as : (q : Port) → has_port ports q ≡ is_disk_output files q
  named_as q = ap (λ l. has_port l q) ports_are ∙ disk_ports files q

  only_files : (a b : Outside) → OnlyAt (has_port ports) a b → OnlyAt (is_disk_output files) a b
  only_files a b only = only_within _ _ _ _ (λ q other. named_as q ∙ other) only

  pub only_opened : (a b : Outside) (r : Result (Unit {0}) OutPort) → Opens ports r a b → OnlyAt (is_disk_output files) a b
  only_opened a b r opens = only_files a b opens.only

  pub only_shut : (a b : Outside) (r : Result (Unit {0}) OutPort) → Shuts ports r a b → OnlyAt (is_disk_output files) a b
  only_shut a b r shuts = only_files a b shuts.only

  pub good_opened : (a b : Outside) → Opens ports (Ok tt) a b → Tells a → AreGood a.fixed (output_ports (ToDisk files))
  good_opened a b opens told = subst (AreGood a.fixed) ports_are (opens.order told)

  pub all_opened : (a b : Outside) → Opens ports (Ok tt) a b → (p : OutPort) → is_disk_output files (Out p) ≡ true → (b.port (Out p)).is_open ≡ true
  all_opened a b opens p named = opens.is_open p (named_as (Out p) ∙ named)

  pub all_shut : (a b : Outside) → Shuts ports (Ok tt) a b → (p : OutPort) → is_disk_output files (Out p) ≡ true → (b.port (Out p)).is_open ≡ false
  all_shut a b shuts p named = shuts.is_open p (named_as (Out p) ∙ named)

  pub files_at : (state : Bool) (a : Outside) → ((p : OutPort) → is_disk_output files (Out p) ≡ true → (a.port (Out p)).is_open ≡ state)
      → (p : OutPort) → has_port ports (Out p) ≡ true → (a.port (Out p)).is_open ≡ state
  files_at state a are p named = are p (sym (named_as (Out p)) ∙ named)

  pub unshut_named : (a b : Outside) (p : OutPort) → Shuts ports (Err p) a b → is_disk_output files (Out p) ≡ true
  unshut_named a b p shuts = sym (named_as (Out p)) ∙ shuts.named

  -- one of them could not be opened
  pub stopped_opening : (first : Disk) (second : Option Disk) (run : Course) (a b : Outside) (port : OutPort) → Opens ports (Err port) a b
      → StopsRun (ToDisk files) (disk_writes files.lines first second run) port a b
  stopped_opening first second run a b port opens = record {
    named = sym (named_as (Out port)) ∙ opens.named;
    written = λ told p. nothing_of _ _ _ (opens.bytes p);
    order = λ told. subst (λ l. AreGood a.fixed (ports_before l (Out port))) ports_are (opens.order told);
    opened = λ told p grew. absurd (grew (opens.bytes p));
    fault = subst (λ l. FaultAt (Out port) (knows_port l a.fixed (Out port)) a b) ports_are opens.cause;
    step = inl (record {
      states = subst (λ l. (q : OutPort) → has_port l (Out q) ≡ true → (b.port (Out q)).is_open ≡ is_opened_before l q port) ports_are opens.stopped;
      bytes = λ q other. opens.bytes q;
    });
  }

  -- or finished
  pub states_unshut : (a b : Outside) (port : OutPort) → Shuts ports (Err port) a b
      → (q : OutPort) → has_port (output_ports (ToDisk files)) (Out q) ≡ true → (b.port (Out q)).is_open ≡ not (is_opened_before (output_ports (ToDisk files)) q port)
  states_unshut a b port shuts =
      subst (λ l. (q : OutPort) → has_port l (Out q) ≡ true → (b.port (Out q)).is_open ≡ not (is_opened_before l q port)) ports_are shuts.stopped

-- The files stay open while the run is taken and its disks are written.
module _ (files : DiskFiles) (b c d : Outside) (opened : (p : OutPort) → is_disk_output files (Out p) ≡ true → (b.port (Out p)).is_open ≡ true)
    (played : (p : OutPort) → (c.port (Out p)).is_open ≡ (b.port (Out p)).is_open) where
  pub lines_opened : (l : ℕ) → l < files.lines → IsOpen b (Out (line_port l))
  lines_opened l below = opened (line_port l) (ap (λ s. s || is_left (is_some files.second) (Out (line_port l))) (line_shown files.lines l below))

  pub log_opened : IsOpen b (Out out_port.Log)
  log_opened = opened out_port.Log refl

  pub left_open : (p : OutPort) → is_left (is_some files.second) (Out p) ≡ true → IsOpen c (Out p)
  left_open p left = played p ∙ opened p (right_true (is_shown files.lines (Out p)) (is_left (is_some files.second) (Out p)) left)

  pub all_open : ((p : OutPort) → (d.port (Out p)).is_open ≡ (c.port (Out p)).is_open) → (p : OutPort) → is_disk_output files (Out p) ≡ true → (d.port (Out p)).is_open ≡ true
  all_open written p named = written p ∙ played p ∙ opened p named

module _ (files : DiskFiles) where
  abbrev left : Port → Bool
  left = is_left (is_some files.second)

  pub only_played : (a b c : Outside) → OnlyAt (is_disk_output files) a b → OnlyAt (is_shown files.lines) b c → OnlyAt (is_disk_output files) a c
  only_played a b c opens plays = only_then _ a b c opens
      (only_within _ _ _ _ (λ q other. left_false (is_shown files.lines q) (left q) other) plays)

  pub only_written : (a c d : Outside) → OnlyAt (is_disk_output files) a c → OnlyAt (is_left (is_some files.second)) c d → OnlyAt (is_disk_output files) a d
  only_written a c d plays writes = only_then _ a c d plays
      (only_within _ _ _ _ (λ q other. right_false (is_shown files.lines q) (left q) other) writes)

-- One line more.
pub line_added : (term : List ℕ) (first now new : List NamedPort) (line : ℕ) → 1 ≤ line → now ≡ first ++ map (line_output term) (range_with_len 1 (line - 1)) → new ≡ now ++ line_output term line ∷ []
    → new ≡ first ++ map (line_output term) (range_with_len 1 (line + 1 - 1))
line_added term first now new line some was more =
    let here : 1 + (line - 1) ≡ line = omega (arith, some) in
    let next : (line - 1) + 1 ≡ line + 1 - 1 = omega (arith, some) in
    more ∙ ap (λ l. l ++ line_output term line ∷ []) was ∙ append_assoc first (map (line_output term) (range_with_len 1 (line - 1))) (line_output term line ∷ [])
    ∙ ap (λ l. first ++ l) (sym (map-range_with_len_more (line_output term) 1 (line - 1) line here) ∙ ap (λ n. map (line_output term) (range_with_len 1 n)) next)

-- the files one behind the other
pub in_a_row : (term log final_disk : NamedPort) (lines second a b c d e : List NamedPort) → a ≡ [] ++ term ∷ [] → b ≡ a ++ lines → c ≡ b ++ log ∷ [] → d ≡ c ++ final_disk ∷ []
    → e ≡ d ++ second → e ≡ term ∷ (lines ++ (log ∷ final_disk ∷ second))
in_a_row term log final_disk lines second a b c d e one two three four five =
    five ∙ ap (λ l. l ++ second) (four ∙ ap (λ l. l ++ final_disk ∷ []) (three ∙ ap (λ l. l ++ log ∷ []) (two ∙ ap (λ l. l ++ lines) one))
    ∙ ap (λ l. term ∷ l) (append_assoc lines (log ∷ []) (final_disk ∷ [])))
    ∙ ap (λ l. term ∷ l) (append_assoc lines (log ∷ final_disk ∷ []) second)
