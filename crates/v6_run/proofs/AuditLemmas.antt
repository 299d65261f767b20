-- What `audit` reads of its file, and what it answers.
use Rattle.std.proofs.Common.{◌≡◌, ◌∙◌, ◌+◌, ◌<◌, ◌≤◌, ◌==◌, ℕ, Bool, true, false, Option, Some, None, List, [], ◌∷◌, ◌++◌, append_assoc, length, length-append, take, drop, get_or, Result, Ok, Err, MatchResult, IfOk, IsSomeAnd, is_err, refl, sym, ap, subst, lit<, arith}
use Rattle.std.proofs.lemmas.Bool.{eq-eqb, false≢true}
use Rattle.std.proofs.lemmas.Result.{MatchResult-weaker}
use Rattle.std.proofs.lemmas.List.{append-nil, take-append-drop, length-take-le, take_more}
use Rattle.v6_port.specs.declared.host.Failed.{Failed}
use Rattle.v6_port.specs.declared.host.InPort.{InPort}
use Rattle.v6_port.specs.declared.host.InPort.TheVariants as in_port
use Rattle.v6_port.specs.declared.host.OutPort.{OutPort}
use Rattle.v6_port.specs.Outside.{In, Out, same, PortState, Outside, Tells, OnlyAt}
use Rattle.v6_port.specs.Calls.{is_given, Reads, OpensRead}
use Rattle.v6_port.specs.Causes.{SameCounts, Calm, FaultAt}
use Rattle.v6_port.proofs.CauseLemmas.{same_is, still_tells, only_then, calm_then, fault_then}
use Rattle.v6_run.specs.declared.audit.Reading.{Reading}
use Rattle.v6_run.specs.declared.audit.LogError.{LogError}
use Rattle.v6_run.specs.declared.audit.LogError.TheVariants.{Unread, Unlawful, Bad, TooLong}
use Rattle.v6_run.specs.declared.audit.TheConstants.{LOG_LIMIT}
use Rattle.v6_run.specs.declared.status.Status.{Status}
use Rattle.v6_run.specs.declared.status.Status.TheVariants as status
use Rattle.v6_run.specs.Words.{Audit}
use Rattle.v6_run.specs.Status.{has_written}
use Rattle.v6_run.specs.Errors.{end_of, log_status}
use Rattle.v6_run.specs.Report.{lawful_line}
use Rattle.v6_run.specs.Logs.{AuditEnds}
use Rattle.v6_run.specs.Audit.{HasRead, IsAtFault, Closes, AuditsTo, StopsLog}
use Rattle.v6_run.specs.Headline.{IsKnownAnd, log_completion, log_line, is_named, may_end, is_known, IsComplete}
use Rattle.v6_run.specs.Opened.{command_ports, AreGood, ports_passed}
use Rattle.v6_run.specs.Causes.{IsCaused}
use Rattle.v6_run.specs.Answers.{Answers}
use Rattle.v6_run.proofs.LinePorts.{or_false}
use Rattle.v6_run.proofs.CauseLemmas.{by_test, only_within, left_false, not_input}
use Rattle.v6_run.proofs.OutputLemmas.{fault_any}
use Rattle.v6_run.proofs.AnswerLemmas.{not_so, unwritten}
use Rattle.v6_run.proofs.FaultLemmas.{fault_ends, close_ends, long_ends}

-- a test that is true isn't false
pub not_both : (b : Bool) → b ≡ true → b ≡ false → ⊥
not_both b is not = false≢true (sym not ∙ is)

-- there is room where not all is taken
pub below_full : (n most : ℕ) → n ≤ most → (n == most) ≡ false → n < most
below_full n most within free = let other : n ≡ most → ⊥ = (λ e. not_both (n == most) (eq-eqb n most e) free) in omega (arith, within, other)

-- bytes that are some are not none
pub not_none : (items : List ℕ) → (length items == 0) ≡ false → items ≡ [] → ⊥
not_none items some e = not_both (length items == 0) (eq-eqb (length items) 0 (ap length e)) some

-- one byte more of a piece
pub one_more : (front piece : List ℕ) (i : ℕ) → i < length piece → (front ++ take i piece) ++ get_or piece i 0 ∷ [] ≡ front ++ take (i + 1) piece
one_more front piece i l = append_assoc front (take i piece) (get_or piece i 0 ∷ []) ∙ ap (λ ls. front ++ ls) (sym (take_more piece i 0 l))

pub room_more : (front piece : List ℕ) (i most : ℕ) → i ≤ length piece → length front + length piece ≤ most → length (front ++ take i piece) ≤ most
room_more front piece i most l room =
    let a = length-append front (take i piece) in
    let b = length-take-le i piece l in omega (arith, a, b, room)

-- A fault among the bytes that were read is one of the file.
pub fault_read : (front piece more bytes : List ℕ) (k : ℕ) (error : LogError) → bytes ≡ front ++ (piece ++ more) → k ≤ length piece → length front + length piece ≤ LOG_LIMIT
    → IsAtFault (front ++ take k piece) error → AuditsTo bytes (Err error)
fault_read front piece more bytes k error is l room fault =
    subst (λ bs. AuditsTo bs (Err error)) (sym (is ∙ cut)) (fault_ends (front ++ take k piece) (drop k piece ++ more) error (room_more front piece k LOG_LIMIT l room) fault)
  where
    cut : front ++ (piece ++ more) ≡ (front ++ take k piece) ++ (drop k piece ++ more)
    cut =
        ap (λ p. front ++ (p ++ more)) (sym (take-append-drop k piece)) ∙ ap (λ p. front ++ p) (append_assoc (take k piece) (drop k piece) more)
        ∙ sym (append_assoc front (take k piece) (drop k piece ++ more))

-- the end of the file, and the most of it that is read
pub end_read : (front more bytes : List ℕ) (r : Result ℕ LogError) → bytes ≡ front ++ more → more ≡ [] → length front < LOG_LIMIT → Closes front r → AuditsTo bytes r
end_read front more bytes r is none l closes =
    subst (λ bs. AuditsTo bs r) (sym (is ∙ ap (λ m. front ++ m) none ∙ append-nil front)) (close_ends front r (omega (arith, l)) closes)

pub most_read : (front more bytes : List ℕ) (reading : Reading) → bytes ≡ front ++ more → HasRead front reading → length front ≡ LOG_LIMIT → AuditsTo bytes (Err TooLong)
most_read front more bytes reading is h l = subst (λ bs. AuditsTo bs (Err TooLong)) (sym is) (long_ends front more reading h l)

-- nothing of this is a fault of the port
pub fault_calm : (front : List ℕ) (error : LogError) (old new : Outside) → IsAtFault front error → Calm old new → StopsLog true error old new
fault_calm front Unread old new fault calm = absurd fault
fault_calm front (Unlawful n) old new fault calm = calm
fault_calm front (Bad n) old new fault calm = calm
fault_calm front TooLong old new fault calm = absurd fault

pub close_calm : (front : List ℕ) (r : Result ℕ LogError) (old new : Outside) → Closes front r → Calm old new → MatchResult r (λ _. Calm old new) (λ error. StopsLog true error old new)
close_calm front (Ok count) old new closes calm = calm
close_calm front (Err Unread) old new closes calm = absurd closes
close_calm front (Err (Unlawful n)) old new closes calm = calm
close_calm front (Err (Bad n)) old new closes calm = calm
close_calm front (Err TooLong) old new closes calm = absurd closes

-- what a read does
pub read_within : (p : InPort) (old new : Outside) (buffer : List ℕ) (r : Result ℕ Failed) (n : ℕ) → Reads p old buffer r new → r ≡ Ok n → n ≤ length buffer
read_within p old new buffer (Ok m) n reads is = let same_count : m ≡ n = cc in subst (λ k. k ≤ length buffer) same_count reads.outcome.0
read_within p old new buffer (Err e) n reads is = cc

pub read_piece : (p : InPort) (old new : Outside) (buffer : List ℕ) (r : Result ℕ Failed) (n : ℕ) → Reads p old buffer r new → r ≡ Ok n → Tells old
    → (old.port (In p)).bytes ≡ take n buffer ++ (new.port (In p)).bytes
read_piece p old new buffer (Ok m) n reads is told =
    let same_count : m ≡ n = cc in subst (λ k. (old.port (In p)).bytes ≡ take k buffer ++ (new.port (In p)).bytes) same_count (reads.outcome.2 told)
read_piece p old new buffer (Err e) n reads is told = cc

pub read_none : (p : InPort) (old new : Outside) (buffer : List ℕ) (r : Result ℕ Failed) (n : ℕ) → Reads p old buffer r new → r ≡ Ok n → n ≡ 0 → 0 < length buffer → Tells old
    → (old.port (In p)).bytes ≡ []
read_none p old new buffer (Ok m) n reads is none some told = let same_count : m ≡ n = cc in reads.outcome.3 told (same_count ∙ none) some
read_none p old new buffer (Err e) n reads is none some told = cc

-- the file of a name is open, or the port is at fault
pub opened_bytes : (p : InPort) (name : List ℕ) (old new : Outside) (r : Result (Unit {0}) Failed) → OpensRead p name old r new → false ≡ is_err r → Tells old
    → old.fixed.given name ≡ Some (new.port (In p)).bytes
opened_bytes p name old new (Ok u) opens is told = opens.outcome.1 told
opened_bytes p name old new (Err e) opens is told = absurd (cc)

-- What `audit` answers, where what it has read comes to this.
module _ (name : List ℕ) (old new : Outside) (only : OnlyAt (same (In in_port.Log)) old new) where
  only_log : OnlyAt (is_named (Audit name)) old new
  only_log = only_within _ _ _ _ (λ q other. left_false (same (In in_port.Log) q) false other) only

  no_output : (p : OutPort) → new.port (Out p) ≡ old.port (Out p)
  no_output p = only.others (Out p) (not_input 2 p (lit< tt))

  -- the file is given, and ends so
  log_complete : (s : Status) (given : Option (List ℕ)) → IsSomeAnd given (λ bytes. AuditEnds bytes s) → IsKnownAnd (log_completion given) (IsComplete s old new)
  log_complete s None is = absurd is
  log_complete s (Some bytes) is = record {
    answered = is;
    written = λ told p other. record {
      text = [];
      fits = refl;
      holds = ap (λ (state : PortState). state.bytes) (no_output p) ∙ sym (append-nil (old.port (Out p)).bytes);
    };
  }

  is_there : (given : Option (List ℕ)) (P : List ℕ → Type 0) → IsSomeAnd given P → is_given given ≡ true
  is_there None P is = absurd is
  is_there (Some bytes) P is = refl

  ends_done : (given : Option (List ℕ)) (count : ℕ) → IsSomeAnd given (λ bytes. AuditsTo bytes (Ok count)) → IsSomeAnd given (λ bytes. AuditEnds bytes status.Done)
  ends_done None count is = absurd is
  ends_done (Some bytes) count is = is.0

  ended : (count : ℕ) → Calm old new → (Tells old → IsSomeAnd (old.fixed.given name) (λ bytes. AuditsTo bytes (Ok count))) → Answers (Audit name) status.Done old new
  ended count calm ends = record {
    only = only_log;
    ends = refl;
    unreported = λ is. cc;
    complete = λ _ told. log_complete status.Done (old.fixed.given name) (ends_done (old.fixed.given name) count (ends (told refl)));
    partial = λ p is. absurd (cc);
    steps = λ p is. absurd (cc);
    order = λ told. (is_there (old.fixed.given name) _ (ends told), tt);
    opened = λ told p grew. (is_there (old.fixed.given name) _ (ends told), tt);
    none = λ before. not_so _ (sym before);
    closed = λ _ p is. not_so _ (sym (or_false _ ∙ not_input 2 p (lit< tt)) ∙ is);
    cause = calm;
  }

  -- the log has a fault, or is too long
  faulty : (s : Status) → may_end (Audit name) s ≡ true → has_written s ≡ false → AreGood old.fixed (ports_passed s (command_ports (Audit name)))
      → (Tells old → IsSomeAnd (old.fixed.given name) (λ bytes. AuditEnds bytes s)) → IsCaused (is_known (Some (Audit name)) old.fixed) s old new → Answers (Audit name) s old new
  faulty s may before good ends cause =
      unwritten (Audit name) s old new only_log may before no_output (λ told. good) (λ _ told. log_complete s (old.fixed.given name) (ends (told refl))) cause

  pub unread : FaultAt (In in_port.Log) (is_given (old.fixed.given name)) old new → Answers (Audit name) (status.ReadFault in_port.Log) old new
  unread fault = unwritten (Audit name) (status.ReadFault in_port.Log) old new only_log refl refl no_output (λ told. tt) (λ decided. not_so _ decided) fault

  pub audit_answers : (r : Result ℕ LogError) → (Tells old → IsSomeAnd (old.fixed.given name) (λ bytes. AuditsTo bytes r))
      → MatchResult r (λ _. Calm old new) (λ error. StopsLog (is_given (old.fixed.given name)) error old new) → Answers (Audit name) (end_of log_status r) old new
  audit_answers (Ok count) ends cause = ended count cause ends
  audit_answers (Err Unread) ends cause = unread cause
  audit_answers (Err (Unlawful n)) ends cause = faulty (status.Unlawful n) refl refl tt ends cause
  audit_answers (Err (Bad n)) ends cause = faulty (status.BadLog n) refl refl tt ends cause
  audit_answers (Err TooLong) ends cause = faulty status.LogTooLong refl refl tt ends cause

-- the number of lines that it tells
line_is : (given : Option (List ℕ)) (count : ℕ) → IsSomeAnd given (λ bytes. AuditsTo bytes (Ok count)) → log_line given ≡ lawful_line count
line_is None count is = absurd is
line_is (Some bytes) count is = ap lawful_line (sym is.1)

pub audit_line : (given : Option (List ℕ)) (r : Result ℕ LogError) (T : Type 0) → (T → IsSomeAnd given (λ bytes. AuditsTo bytes r)) → IfOk r (λ lines. T → log_line given ≡ lawful_line lines)
audit_line given (Ok count) T ends = λ told. line_is given count (ends told)
audit_line given (Err error) T ends = _

-- no count changes where a call is done
same_counts : (a b : PortState) → b ≡ a → SameCounts a b
same_counts a b e = record { faults = ap (λ (s : PortState). s.faults) e; missing = ap (λ (s : PortState). s.missing) e }

calm_by : (p : InPort) (old new : Outside) → OnlyAt (same (In p)) old new → SameCounts (old.port (In p)) (new.port (In p)) → Calm old new
calm_by p old new only counts = record {
  at = λ q. by_test (same (In p) q) _ (λ here. subst (λ t. SameCounts (old.port t) (new.port t)) (same_is (In p) q here) counts)
      (λ other. same_counts (old.port q) (new.port q) (only.others q other));
}

pub calm_read : (p : InPort) (old new : Outside) (buffer : List ℕ) (r : Result ℕ Failed) (n : ℕ) → Reads p old buffer r new → r ≡ Ok n → Calm old new
calm_read p old new buffer (Ok m) n reads is =
    let e = reads.outcome.1 in
    calm_by p old new reads.only (record { faults = ap (λ (s : PortState). s.faults) e; missing = ap (λ (s : PortState). s.missing) e })
calm_read p old new buffer (Err f) n reads is = cc

calm_opened : (p : InPort) (name : List ℕ) (old new : Outside) (r : Result (Unit {0}) Failed) → OpensRead p name old r new → false ≡ is_err r → Calm old new
calm_opened p name old new (Ok u) opens is =
    let e = opens.outcome.0 in
    calm_by p old new opens.only (record { faults = ap (λ (s : PortState). s.faults) e; missing = ap (λ (s : PortState). s.missing) e })
calm_opened p name old new (Err f) opens is = absurd (cc)

fault_opened : (p : InPort) (name : List ℕ) (old new : Outside) (r : Result (Unit {0}) Failed) → OpensRead p name old r new → true ≡ is_err r
    → FaultAt (In p) (is_given (old.fixed.given name)) old new
fault_opened p name old new (Ok u) opens is = absurd (cc)
fault_opened p name old new (Err f) opens is = record {
  rose = opens.outcome.failed.rose;
  others = record { at = λ q other. same_counts (old.port q) (new.port q) (opens.only.others q other) };
  missing = opens.outcome.found;
}

stops_then : (known : Bool) (error : LogError) (old middle new : Outside) → middle.fixed ≡ old.fixed → Calm old middle → StopsLog true error middle new → StopsLog known error old new
stops_then known Unread old middle new fixed calm stops = fault_any _ _ _ _ (fault_then _ _ old middle new fixed calm stops)
stops_then known (Unlawful n) old middle new fixed calm stops = calm_then _ _ _ calm stops
stops_then known (Bad n) old middle new fixed calm stops = calm_then _ _ _ calm stops
stops_then known TooLong old middle new fixed calm stops = calm_then _ _ _ calm stops

-- The file could not be opened, or was read.
pub unopened : (name : List ℕ) (old new : Outside) (r : Result (Unit {0}) Failed) → OpensRead in_port.Log name old r new → true ≡ is_err r → Answers (Audit name) (status.ReadFault in_port.Log) old new
unopened name old new r opens is = unread name old new opens.only (fault_opened in_port.Log name old new r opens is)

module _ (name : List ℕ) (old middle new : Outside) (r : Result (Unit {0}) Failed) (opens : OpensRead in_port.Log name old r middle) (opened : false ≡ is_err r)
    (result : Result ℕ LogError) (ends : Tells middle → AuditsTo (middle.port (In in_port.Log)).bytes result) where
  given_ends : Tells old → IsSomeAnd (old.fixed.given name) (λ bytes. AuditsTo bytes result)
  given_ends told =
      subst (λ given. IsSomeAnd given (λ bytes. AuditsTo bytes result)) (sym (opened_bytes in_port.Log name old middle r opens opened told)) (ends (still_tells _ _ _ opens.only told))

  pub read_answers : OnlyAt (same (In in_port.Log)) middle new → MatchResult result (λ _. Calm middle new) (λ error. StopsLog true error middle new) → Answers (Audit name) (end_of log_status result) old new
  read_answers only cause =
      let calm = calm_opened in_port.Log name old middle r opens opened in
      audit_answers name old new (only_then _ _ _ _ opens.only only) result given_ends
      (MatchResult-weaker result cause (λ _ after. calm_then _ _ _ calm after) (λ error stops. stops_then _ error old middle new opens.only.fixed calm stops))

  pub read_tells : IfOk result (λ lines. Tells old → log_line (old.fixed.given name) ≡ lawful_line lines)
  read_tells = audit_line (old.fixed.given name) result (Tells old) given_ends

-- what has been read of the open file, and a piece more
abbrev pub HasTaken : Reading → ℕ → Outside → Outside → Type 0
HasTaken reading total old now =
    (front : List ℕ) × HasRead front reading × (length front ≡ total) × (Tells old → (old.port (In in_port.Log)).bytes ≡ front ++ (now.port (In in_port.Log)).bytes)

-- so many bytes were read, which are this piece
pub record IsPiece (piece buffer : List ℕ) (count : ℕ) (now new : Outside) : Type 0 where
  pub is : piece ≡ take count buffer
  pub long : length piece ≡ count
  pub split : Tells now → (now.port (In in_port.Log)).bytes ≡ piece ++ (new.port (In in_port.Log)).bytes

pub piece_read : (now new : Outside) (piece buffer : List ℕ) (r : Result ℕ Failed) (n : ℕ) → Reads in_port.Log now buffer r new → r ≡ Ok n → piece ≡ take n buffer → IsPiece piece buffer n now new
piece_read now new piece buffer r n reads is same_piece = record {
  is = same_piece;
  long = ap length same_piece ∙ length-take-le n buffer (read_within in_port.Log now new buffer r n reads is);
  split = λ told. read_piece in_port.Log now new buffer r n reads is told ∙ ap (λ l. l ++ (new.port (In in_port.Log)).bytes) (sym same_piece);
}

pub room_for : (reading : Reading) (total count : ℕ) (old now new : Outside) (piece buffer : List ℕ) → HasTaken reading total old now → IsPiece piece buffer count now new → total + count ≤ LOG_LIMIT
    → (front : List ℕ) × HasRead front reading × (length front + length piece ≤ LOG_LIMIT)
room_for reading total count old now new piece buffer h p room = let l = h.2 in let k = p.long in (h.0, h.1, omega (arith, l, k, room))

pub taken_more : (reading after : Reading) (total count : ℕ) (old now new : Outside) (piece buffer : List ℕ) → HasTaken reading total old now → IsPiece piece buffer count now new → (Tells old → Tells now)
    → ((front : List ℕ) → HasRead front reading → HasRead (front ++ piece) after) → HasTaken after (total + count) old new
taken_more reading after total count old now new piece buffer h p still takes = (
  h.0 ++ piece,
  takes h.0 h.1,
  (let a = length-append h.0 piece in let l = h.2 in let k = p.long in omega (arith, a, l, k)),
  λ told. h.3 told ∙ ap (λ l. h.0 ++ l) (p.split (still told)) ∙ sym (append_assoc h.0 piece (new.port (In in_port.Log)).bytes),
)

-- a line is at fault within this piece
abbrev pub FaultWithin : Reading → List ℕ → LogError → Type 0
FaultWithin reading piece error = (front : List ℕ) → HasRead front reading → (k : ℕ) × (k ≤ length piece) × IsAtFault (front ++ take k piece) error

pub fault_taken : (reading : Reading) (total count : ℕ) (old now new : Outside) (piece buffer : List ℕ) (error : LogError) → HasTaken reading total old now → IsPiece piece buffer count now new
    → (Tells old → Tells now) → total + count ≤ LOG_LIMIT → FaultWithin reading piece error → Tells old → AuditsTo (old.port (In in_port.Log)).bytes (Err error)
fault_taken reading total count old now new piece buffer error h p still room fault told =
    let l = h.2 in
    let k = p.long in
    let f = fault h.0 h.1 in
    fault_read h.0 piece (new.port (In in_port.Log)).bytes _ f.0 error (h.3 told ∙ ap (λ m. h.0 ++ m) (p.split (still told))) f.1 (omega (arith, l, k, room)) f.2

pub fault_stops : (reading : Reading) (front piece : List ℕ) (error : LogError) (a b : Outside) → HasRead front reading → FaultWithin reading piece error → Calm a b → StopsLog true error a b
fault_stops reading front piece error a b h fault calm = let f = fault front h in fault_calm (front ++ take f.0 piece) error a b f.2 calm

-- a buffer keeps its length
pub as_long : (buffer new : List ℕ) (wanted : ℕ) → length new ≡ length (take wanted buffer) → wanted ≤ length buffer → length new ≡ wanted
as_long buffer new wanted same_length small = same_length ∙ length-take-le wanted buffer small
