-- One byte, or one line of the log, more in the trace over a host.
use Rattle.std.proofs.Common.{◌≡◌, ◌≢◌, ◌<◌, ◌≤◌, ℕ, Bool, true, false, ◌&&◌, is_some, List, [], ◌∷◌, ◌++◌, ◌+◌, length, refl, sym, ◌∙◌, ap, subst, append_assoc, take, drop, Result, Ok, Err, is_err, OnOk, OnErr, eqb, eqb-true, cond, arith}
use Rattle.std.specs.Prelude.{nat_lt}
use Rattle.std.proofs.lemmas.Bool.{ne_eqb, eq-eqb, eqb-false, ltb-true}
use Rattle.std.proofs.lemmas.List.{append-nil, take-append-drop}
use Rattle.v6_base.specs.declared.entry.Entry.{Entry}
use Rattle.v6_base.specs.LogLine.{entry_line}
use Rattle.v6_base.specs.Trace as trace
use Rattle.v6_base.specs.Trace.{Item, HoldsMore, Took, Appends, line_bytes, text_of}
use Rattle.v6_base.proofs.Took.{took_refused, took_whole}
use Rattle.v6_port.specs.declared.host.Failed.{Failed}
use Rattle.v6_port.specs.declared.host.OutPort.{OutPort}
use Rattle.v6_port.specs.declared.host.OutPort.TheVariants as out_port
use Rattle.v6_port.specs.Outside.{Out, same, PortState, Environment, Outside, Tells, OnlyAt}
use Rattle.v6_run.specs.declared.ports.Kept.{Kept}
use Rattle.v6_run.specs.declared.ports.Kept.TheVariants as kept
use Rattle.v6_run.specs.declared.ports.TheConstants.{MOST}
use Rattle.v6_run.specs.Opened.{line_port}
use Rattle.v6_run.specs.Ports.{line_state, log_of, failed_port, is_silent, is_wanted, is_counted, kept_byte, kept_text, taken_of, shown_to, taken_by, counted, counted_on}
use Rattle.v6_run.proofs.LinePorts.{lines_apart, log_apart, line_apart, both_told, one_told}

pub no_byte : (k : Kept) → is_some (failed_port k) ≡ false → (l : ℕ) → kept_byte k l ≡ []
no_byte kept.Nothing goes l = refl
no_byte (kept.Byte line byte) goes l = cc
no_byte (kept.Line rest) goes l = refl
no_byte kept.Unwanted goes l = refl
no_byte (kept.Count n) goes l = refl

pub no_text : (k : Kept) → is_some (failed_port k) ≡ false → kept_text k ≡ []
no_text kept.Nothing goes = refl
no_text (kept.Byte line byte) goes = refl
no_text (kept.Line rest) goes = cc
no_text kept.Unwanted goes = refl
no_text (kept.Count n) goes = refl

-- what isn't silent has kept nothing yet, and is wanted
pub none_failed : (k : Kept) → is_silent k ≡ false → is_some (failed_port k) ≡ false
none_failed kept.Nothing goes = refl
none_failed (kept.Byte line byte) goes = cc
none_failed (kept.Line rest) goes = cc
none_failed kept.Unwanted goes = cc
none_failed (kept.Count n) goes = cc

pub wanted : (k : Kept) → is_silent k ≡ false → is_wanted k ≡ true
wanted kept.Nothing goes = refl
wanted (kept.Byte line byte) goes = cc
wanted (kept.Line rest) goes = cc
wanted kept.Unwanted goes = cc
wanted (kept.Count n) goes = cc

-- and is written, not counted
pub uncounted : (lines : ℕ) (o : Outside) (k : Kept) → is_counted k ≡ false → taken_by lines o k ≡ taken_of lines o k
uncounted lines o kept.Nothing is = refl
uncounted lines o (kept.Byte line byte) is = refl
uncounted lines o (kept.Line rest) is = refl
uncounted lines o kept.Unwanted is = refl
uncounted lines o (kept.Count n) is = cc

pub loud_written : (k : Kept) → is_silent k ≡ false → is_counted k ≡ false
loud_written kept.Nothing goes = refl
loud_written (kept.Byte line byte) goes = cc
loud_written (kept.Line rest) goes = cc
loud_written kept.Unwanted goes = cc
loud_written (kept.Count n) goes = cc

module _ (lines : ℕ) (old new : Outside) (before after : Kept) (item : Item) (loud : is_silent before ≡ false) (plain : is_counted after ≡ false) where
  took_by : Took (taken_of lines old before) (item ∷ []) (taken_of lines new after) → Took (taken_by lines old before) (item ∷ []) (taken_by lines new after)
  took_by took =
      subst (λ t. Took t (item ∷ []) (taken_by lines new after)) (sym (uncounted lines old before (loud_written before loud)))
      (subst (λ t. Took (taken_of lines old before) (item ∷ []) t) (sym (uncounted lines new after plain)) took)

  appends_by : HoldsMore (taken_of lines old before) (item ∷ []) (taken_of lines new after) → Appends (taken_by lines old before) item (taken_by lines new after)
  appends_by holds uncut =
      subst (λ t. HoldsMore t (item ∷ []) (taken_by lines new after)) (sym (uncounted lines old before (loud_written before loud)))
      (subst (λ t. HoldsMore (taken_of lines old before) (item ∷ []) t) (sym (uncounted lines new after plain)) holds)

-- an item is taken, where none of it is lost
module _ (lines : ℕ) (old new : Outside) (before after : Kept) (item : Item) (was : is_wanted before ≡ true) (stays : is_wanted after ≡ true) (fixed : new.fixed ≡ old.fixed)
    (bytes : Tells old → (l : ℕ) → (line_state new l).bytes ++ kept_byte after l ≡ ((line_state old l).bytes ++ kept_byte before l) ++ line_bytes l (item ∷ []))
    (text : Tells old → (log_of new).bytes ++ kept_text after ≡ ((log_of old).bytes ++ kept_text before) ++ text_of (item ∷ [])) where
  still_told : (is_wanted after && new.fixed.tells) ≡ (is_wanted before && old.fixed.tells)
  still_told = ap (λ (f : Environment). is_wanted after && f.tells) fixed ∙ ap (λ w. w && old.fixed.tells) (stays ∙ sym was)

  holds_item : HoldsMore (taken_of lines old before) (item ∷ []) (taken_of lines new after)
  holds_item = record {
    tells_bytes = λ l. ap (λ b. nat_lt l lines && b) still_told;
    bytes = λ l told. bytes (both_told (is_wanted before) old.fixed.tells (both_told (nat_lt l lines) (is_wanted before && old.fixed.tells) told)) l;
    tells_count = λ l. refl;
    count = λ l told. absurd (let no_count : false ≡ true = told in cc);
    tells_entries = refl;
    entries = λ told. absurd (let no_entries : false ≡ true = told in cc);
    tells_text = still_told;
    text = λ told. text (both_told (is_wanted before) old.fixed.tells told);
  }

  took_item : is_some (failed_port before) ≡ false → Took (taken_of lines old before) (item ∷ []) (taken_of lines new after)
  took_item goes = took_whole (taken_of lines old before) (taken_of lines new after) (item ∷ []) goes holds_item

-- a trace of which nothing is wanted takes all, and tells nothing
module _ (lines : ℕ) (o : Outside) (item : Item) where
  holds_unwanted : HoldsMore (taken_of lines o kept.Unwanted) (item ∷ []) (taken_of lines o kept.Unwanted)
  holds_unwanted = record {
    tells_bytes = λ l. refl;
    bytes = λ l told. absurd (let untold : false ≡ true = both_told (nat_lt l lines) false told in cc);
    tells_count = λ l. refl;
    count = λ l told. absurd (let untold : false ≡ true = told in cc);
    tells_entries = refl;
    entries = λ told. absurd (let untold : false ≡ true = told in cc);
    tells_text = refl;
    text = λ told. absurd (let untold : false ≡ true = told in cc);
  }

  took_unwanted : Took (taken_of lines o kept.Unwanted) (item ∷ []) (taken_of lines o kept.Unwanted)
  took_unwanted = took_whole (taken_of lines o kept.Unwanted) (taken_of lines o kept.Unwanted) (item ∷ []) refl holds_unwanted

-- A trace that counts takes so many bytes more of the console, and tells nothing else.
holds_count : (n m : ℕ) (item : Item) → m ≡ n + length (line_bytes 0 (item ∷ [])) → HoldsMore (shown_to n) (item ∷ []) (shown_to m)
holds_count n m item more = record {
  tells_bytes = λ line. refl;
  bytes = λ line told. absurd (let untold : false ≡ true = told in cc);
  tells_count = λ line. refl;
  count = λ line told. subst (λ l. m ≡ n + length (line_bytes l (item ∷ []))) (sym (eqb-true line 0 told)) more;
  tells_entries = refl;
  entries = λ told. absurd (let untold : false ≡ true = told in cc);
  tells_text = refl;
  text = λ told. absurd (let untold : false ≡ true = told in cc);
}

holds_uncounted : (n : ℕ) (entry : Entry) → HoldsMore (shown_to n) (trace.Log entry ∷ []) (shown_to n)
holds_uncounted n entry = holds_count n n (trace.Log entry) (omega arith)

holds_counted : (n byte : ℕ) → HoldsMore (shown_to n) (trace.Byte 0 byte ∷ []) (shown_to (n + 1))
holds_counted n byte = holds_count n (n + 1) (trace.Byte 0 byte) refl

-- What tells nothing of an item takes it, or is cut.
took_untold : (t : trace.Taken) (item : Item) → HoldsMore t (item ∷ []) t → Took t (item ∷ []) t
took_untold t item holds = by t.cut refl
  where
    by : (is_cut : Bool) → t.cut ≡ is_cut → Took t (item ∷ []) t
    by true is = took_refused t (item ∷ []) is
    by false is = took_whole t t (item ∷ []) is holds

-- A line of the log, where nothing is written.
module _ (lines : ℕ) (o : Outside) (entry : Entry) where
  pub line_silently : (k : Kept) → is_silent k ≡ true → Took (taken_by lines o k) (trace.Log entry ∷ []) (taken_by lines o k)
  line_silently kept.Nothing silent = cc
  line_silently (kept.Byte line byte) silent = took_refused (taken_of lines o (kept.Byte line byte)) (trace.Log entry ∷ []) refl
  line_silently (kept.Line rest) silent = took_refused (taken_of lines o (kept.Line rest)) (trace.Log entry ∷ []) refl
  line_silently kept.Unwanted silent = took_unwanted lines o (trace.Log entry)
  line_silently (kept.Count n) silent = took_untold (shown_to n) (trace.Log entry) (holds_uncounted n entry)

  pub line_appended : (k : Kept) → is_silent k ≡ true → Appends (taken_by lines o k) (trace.Log entry) (taken_by lines o k)
  line_appended kept.Nothing silent = cc
  line_appended (kept.Byte line byte) silent = λ uncut. absurd (let never : true ≡ false = uncut in cc)
  line_appended (kept.Line rest) silent = λ uncut. absurd (let never : true ≡ false = uncut in cc)
  line_appended kept.Unwanted silent = λ uncut. holds_unwanted lines o (trace.Log entry)
  line_appended (kept.Count n) silent = λ uncut. holds_uncounted n entry

-- A byte of the console, where nothing is written.
module _ (lines : ℕ) (o : Outside) (byte : ℕ) where
  took_on : (n : ℕ) (full : Bool) → eqb n MOST ≡ full → Took (shown_to n) (trace.Byte 0 byte ∷ []) (shown_to (cond full n (n + 1)))
  took_on n true is = took_refused (shown_to n) (trace.Byte 0 byte ∷ []) is
  took_on n false is = took_whole (shown_to n) (shown_to (n + 1)) (trace.Byte 0 byte ∷ []) is (holds_counted n byte)

  appended_on : (n : ℕ) (full : Bool) → eqb n MOST ≡ full → Appends (shown_to n) (trace.Byte 0 byte) (shown_to (cond full n (n + 1)))
  appended_on n true is = λ uncut. absurd (let never : true ≡ false = sym is ∙ uncut in cc)
  appended_on n false is = λ uncut. holds_counted n byte

  pub byte_silently : (k : Kept) → is_silent k ≡ true → Took (taken_by lines o k) (trace.Byte 0 byte ∷ []) (taken_by lines o (counted k))
  byte_silently kept.Nothing silent = cc
  byte_silently (kept.Byte line other) silent = took_refused (taken_of lines o (kept.Byte line other)) (trace.Byte 0 byte ∷ []) refl
  byte_silently (kept.Line rest) silent = took_refused (taken_of lines o (kept.Line rest)) (trace.Byte 0 byte ∷ []) refl
  byte_silently kept.Unwanted silent = took_unwanted lines o (trace.Byte 0 byte)
  byte_silently (kept.Count n) silent = took_on n _ refl

  pub byte_appended : (k : Kept) → is_silent k ≡ true → Appends (taken_by lines o k) (trace.Byte 0 byte) (taken_by lines o (counted k))
  byte_appended kept.Nothing silent = cc
  byte_appended (kept.Byte line other) silent = λ uncut. absurd (let never : true ≡ false = uncut in cc)
  byte_appended (kept.Line rest) silent = λ uncut. absurd (let never : true ≡ false = uncut in cc)
  byte_appended kept.Unwanted silent = λ uncut. holds_unwanted lines o (trace.Byte 0 byte)
  byte_appended (kept.Count n) silent = appended_on n _ refl

-- A byte on a line of which nothing is told.
module _ (line byte : ℕ) where
  none_more : (n : ℕ) → n + 0 ≡ n
  none_more n = omega arith

  holds_elsewhere : (t : trace.Taken) → ((l : ℕ) → t.tells_bytes l ≡ true → line ≢ l) → ((l : ℕ) → t.tells_count l ≡ true → line ≢ l) → HoldsMore t (trace.Byte line byte ∷ []) t
  holds_elsewhere t other no_count = record {
    tells_bytes = λ l. refl;
    bytes = λ l told. sym (ap (λ b. t.bytes l ++ cond b (byte ∷ []) []) (ne_eqb line l (other l told)) ∙ append-nil (t.bytes l));
    tells_count = λ l. refl;
    count = λ l told. sym (ap (λ b. t.count l + length (cond b (byte ∷ []) [])) (ne_eqb line l (no_count l told)) ∙ none_more (t.count l));
    tells_entries = refl;
    entries = λ told. sym (append-nil t.entries);
    tells_text = refl;
    text = λ told. sym (append-nil t.text);
  }

  -- line 0 alone is counted
  module _ (lines : ℕ) (o : Outside) (other : line ≢ 0) where
    uncounted_byte : (n : ℕ) → HoldsMore (shown_to n) (trace.Byte line byte ∷ []) (shown_to n)
    uncounted_byte n = holds_elsewhere (shown_to n) (λ l told. absurd (let untold : false ≡ true = told in cc)) (λ l told is. other (is ∙ eqb-true l 0 told))

    pub other_silently : (k : Kept) → is_silent k ≡ true → Took (taken_by lines o k) (trace.Byte line byte ∷ []) (taken_by lines o k)
    other_silently kept.Nothing silent = cc
    other_silently (kept.Byte l b) silent = took_refused (taken_of lines o (kept.Byte l b)) (trace.Byte line byte ∷ []) refl
    other_silently (kept.Line rest) silent = took_refused (taken_of lines o (kept.Line rest)) (trace.Byte line byte ∷ []) refl
    other_silently kept.Unwanted silent = took_unwanted lines o (trace.Byte line byte)
    other_silently (kept.Count n) silent = took_untold (shown_to n) (trace.Byte line byte) (uncounted_byte n)

    pub other_appended : (k : Kept) → is_silent k ≡ true → Appends (taken_by lines o k) (trace.Byte line byte) (taken_by lines o k)
    other_appended kept.Nothing silent = cc
    other_appended (kept.Byte l b) silent = λ uncut. absurd (let never : true ≡ false = uncut in cc)
    other_appended (kept.Line rest) silent = λ uncut. absurd (let never : true ≡ false = uncut in cc)
    other_appended kept.Unwanted silent = λ uncut. holds_unwanted lines o (trace.Byte line byte)
    other_appended (kept.Count n) silent = λ uncut. uncounted_byte n

  -- a byte of any line
  module _ (lines : ℕ) (o : Outside) (k : Kept) (silent : is_silent k ≡ true) where
    pub kept_silently : Took (taken_by lines o k) (trace.Byte line byte ∷ []) (taken_by lines o (counted_on line k))
    kept_silently = by (eqb line 0) refl
      where
        by : (b : Bool) → eqb line 0 ≡ b → Took (taken_by lines o k) (trace.Byte line byte ∷ []) (taken_by lines o (cond b (counted k) k))
        by true is = subst (λ l. Took (taken_by lines o k) (trace.Byte l byte ∷ []) (taken_by lines o (counted k))) (sym (eqb-true line 0 is)) (byte_silently lines o byte k silent)
        by false is = other_silently lines o (eqb-false line 0 is) k silent

    pub kept_quietly : Appends (taken_by lines o k) (trace.Byte line byte) (taken_by lines o (counted_on line k))
    kept_quietly = by (eqb line 0) refl
      where
        by : (b : Bool) → eqb line 0 ≡ b → Appends (taken_by lines o k) (trace.Byte line byte) (taken_by lines o (cond b (counted k) k))
        by true is = subst (λ l. Appends (taken_by lines o k) (trace.Byte l byte) (taken_by lines o (counted k))) (sym (eqb-true line 0 is)) (byte_appended lines o byte k silent)
        by false is = other_appended lines o (eqb-false line 0 is) k silent

  -- and no more than so many lines are written
  module _ (lines : ℕ) (o : Outside) (k : Kept) (loud : is_silent k ≡ false) (past : lines ≤ line) where
    beyond : HoldsMore (taken_of lines o k) (trace.Byte line byte ∷ []) (taken_of lines o k)
    beyond = holds_elsewhere (taken_of lines o k) (λ l told is.
        let below : l < lines = ltb-true l lines (one_told (nat_lt l lines) (is_wanted k && o.fixed.tells) told) in omega (arith, past, below, is))
        (λ l told. absurd (let no_count : false ≡ true = told in cc))

    pub beyond_took : Took (taken_by lines o k) (trace.Byte line byte ∷ []) (taken_by lines o k)
    beyond_took = took_by lines o o k k (trace.Byte line byte) loud (loud_written k loud) (took_untold (taken_of lines o k) (trace.Byte line byte) beyond)

    pub beyond_appended : Appends (taken_by lines o k) (trace.Byte line byte) (taken_by lines o k)
    beyond_appended = appends_by lines o o k k (trace.Byte line byte) loud (loud_written k loud) beyond

-- the byte is written to the port of its line, or kept
module _ (lines : ℕ) (old new : Outside) (before after : Kept) (line byte : ℕ) (was : is_wanted before ≡ true) (stays : is_wanted after ≡ true) (goes : is_some (failed_port before) ≡ false)
    (only : OnlyAt (same (Out (line_port line))) old new) (quiet : kept_text after ≡ []) (elsewhere : (l : ℕ) → line ≢ l → kept_byte after l ≡ [])
    (takes : Tells old → (line_state new line).bytes ++ kept_byte after line ≡ (line_state old line).bytes ++ byte ∷ []) where
  at_line : Tells old → (line_state new line).bytes ++ kept_byte after line ≡ ((line_state old line).bytes ++ kept_byte before line) ++ byte ∷ []
  at_line told = takes told ∙ ap (λ l. l ++ byte ∷ []) (sym (append-nil (line_state old line).bytes) ∙ ap (λ l. (line_state old line).bytes ++ l) (sym (no_byte before goes line)))

  at_other : (l : ℕ) → line ≢ l → (line_state new l).bytes ++ kept_byte after l ≡ ((line_state old l).bytes ++ kept_byte before l) ++ []
  at_other l other =
      ap (λ (state : PortState). state.bytes ++ kept_byte after l) (only.others (Out (line_port l)) (lines_apart line l other))
      ∙ ap (λ k. (line_state old l).bytes ++ k) (elsewhere l other ∙ sym (no_byte before goes l)) ∙ sym (append-nil ((line_state old l).bytes ++ kept_byte before l))

  byte_bytes : Tells old → (l : ℕ) → (line_state new l).bytes ++ kept_byte after l ≡ ((line_state old l).bytes ++ kept_byte before l) ++ line_bytes l (trace.Byte line byte ∷ [])
  byte_bytes told l = by (eqb line l) refl
    where
      by : (here : Bool) → eqb line l ≡ here
          → (line_state new l).bytes ++ kept_byte after l ≡ ((line_state old l).bytes ++ kept_byte before l) ++ cond here (byte ∷ []) []
      by true is = subst (λ k. (line_state new k).bytes ++ kept_byte after k ≡ ((line_state old k).bytes ++ kept_byte before k) ++ byte ∷ []) (eqb-true line l is) (at_line told)
      by false is = at_other l (eqb-false line l is)

  byte_text : Tells old → (log_of new).bytes ++ kept_text after ≡ ((log_of old).bytes ++ kept_text before) ++ text_of (trace.Byte line byte ∷ [])
  byte_text told =
      ap (λ (state : PortState). state.bytes ++ kept_text after) (only.others (Out out_port.Log) (line_apart line)) ∙ ap (λ l. (log_of old).bytes ++ l) (quiet ∙ sym (no_text before goes))
      ∙ sym (append-nil ((log_of old).bytes ++ kept_text before))

  holds_byte : HoldsMore (taken_of lines old before) (trace.Byte line byte ∷ []) (taken_of lines new after)
  holds_byte = holds_item lines old new before after (trace.Byte line byte) was stays only.fixed byte_bytes byte_text

  took_byte : Took (taken_of lines old before) (trace.Byte line byte ∷ []) (taken_of lines new after)
  took_byte = took_item lines old new before after (trace.Byte line byte) was stays only.fixed byte_bytes byte_text goes

-- the line is written, or the rest of it kept
module _ (lines : ℕ) (old new : Outside) (before after : Kept) (entry : Entry) (was : is_wanted before ≡ true) (stays : is_wanted after ≡ true) (goes : is_some (failed_port before) ≡ false)
    (only : OnlyAt (same (Out out_port.Log)) old new) (quiet : (l : ℕ) → kept_byte after l ≡ [])
    (takes : Tells old → (log_of new).bytes ++ kept_text after ≡ (log_of old).bytes ++ (entry_line entry ++ 0o012 ∷ [])) where
  line_bytes_same : Tells old → (l : ℕ) → (line_state new l).bytes ++ kept_byte after l ≡ ((line_state old l).bytes ++ kept_byte before l) ++ line_bytes l (trace.Log entry ∷ [])
  line_bytes_same told l =
      ap (λ (state : PortState). state.bytes ++ kept_byte after l) (only.others (Out (line_port l)) (log_apart l))
      ∙ ap (λ k. (line_state old l).bytes ++ k) (quiet l ∙ sym (no_byte before goes l)) ∙ sym (append-nil ((line_state old l).bytes ++ kept_byte before l))

  line_text : Tells old → (log_of new).bytes ++ kept_text after ≡ ((log_of old).bytes ++ kept_text before) ++ text_of (trace.Log entry ∷ [])
  line_text told =
      takes told ∙ ap (λ l. l ++ (entry_line entry ++ 0o012 ∷ [])) (sym (append-nil (log_of old).bytes) ∙ ap (λ l. (log_of old).bytes ++ l) (sym (no_text before goes)))
      ∙ ap (λ l. ((log_of old).bytes ++ kept_text before) ++ l) (sym (append-nil (entry_line entry ++ 0o012 ∷ [])))

  took_line : Took (taken_of lines old before) (trace.Log entry ∷ []) (taken_of lines new after)
  took_line = took_item lines old new before after (trace.Log entry) was stays only.fixed line_bytes_same line_text goes

  holds_line : HoldsMore (taken_of lines old before) (trace.Log entry ∷ []) (taken_of lines new after)
  holds_line = holds_item lines old new before after (trace.Log entry) was stays only.fixed line_bytes_same line_text

-- A byte goes out on the port of its line.
module _ (lines : ℕ) (old new : Outside) (before : Kept) (line byte : ℕ) (loud : is_silent before ≡ false) (q : OutPort) (q_is : q ≡ line_port line) (only : OnlyAt (same (Out q)) old new) where
  goes : is_some (failed_port before) ≡ false
  goes = none_failed before loud

  only_line : OnlyAt (same (Out (line_port line))) old new
  only_line = subst (λ p. OnlyAt (same (Out p)) old new) q_is only

  module _ (whole : Tells old → (new.port (Out q)).bytes ≡ (old.port (Out q)).bytes ++ byte ∷ []) where
    written : Tells old → (line_state new line).bytes ++ kept_byte before line ≡ (line_state old line).bytes ++ byte ∷ []
    written told =
        ap (λ l. (line_state new line).bytes ++ l) (no_byte before goes line) ∙ append-nil (line_state new line).bytes
        ∙ subst (λ p. (new.port (Out p)).bytes ≡ (old.port (Out p)).bytes ++ byte ∷ []) q_is (whole told)

    pub took_written : Took (taken_by lines old before) (trace.Byte line byte ∷ []) (taken_by lines new before)
    took_written = took_by lines old new before before (trace.Byte line byte) loud (loud_written before loud)
        (took_byte lines old new before before line byte (wanted before loud) (wanted before loud) goes only_line (no_text before goes) (λ l _. no_byte before goes l) written)

    pub written_appended : Appends (taken_by lines old before) (trace.Byte line byte) (taken_by lines new before)
    written_appended = appends_by lines old new before before (trace.Byte line byte) loud (loud_written before loud)
        (holds_byte lines old new before before line byte (wanted before loud) (wanted before loud) goes only_line (no_text before goes) (λ l _. no_byte before goes l) written)

  module _ (same_bytes : (new.port (Out q)).bytes ≡ (old.port (Out q)).bytes) where
    byte_kept : Tells old → (line_state new line).bytes ++ kept_byte (kept.Byte line byte) line ≡ (line_state old line).bytes ++ byte ∷ []
    byte_kept told =
        let same_line : (line_state new line).bytes ≡ (line_state old line).bytes = subst (λ p. (new.port (Out p)).bytes ≡ (old.port (Out p)).bytes) q_is same_bytes in
        ap (λ l. l ++ kept_byte (kept.Byte line byte) line) same_line ∙ ap (λ b. (line_state old line).bytes ++ cond b (byte ∷ []) []) (eq-eqb line line refl)

    none_elsewhere : (l : ℕ) → line ≢ l → kept_byte (kept.Byte line byte) l ≡ []
    none_elsewhere l other = ap (λ b. cond b (byte ∷ []) []) (ne_eqb line l other)

    pub took_kept : Took (taken_by lines old before) (trace.Byte line byte ∷ []) (taken_by lines new (kept.Byte line byte))
    took_kept = took_by lines old new before (kept.Byte line byte) (trace.Byte line byte) loud refl
        (took_byte lines old new before (kept.Byte line byte) line byte (wanted before loud) refl goes only_line refl none_elsewhere byte_kept)

    pub kept_appended : Appends (taken_by lines old before) (trace.Byte line byte) (taken_by lines new (kept.Byte line byte))
    kept_appended = appends_by lines old new before (kept.Byte line byte) (trace.Byte line byte) loud refl
        (holds_byte lines old new before (kept.Byte line byte) line byte (wanted before loud) refl goes only_line refl none_elsewhere byte_kept)

  -- by how the write has ended
  pub byte_took : (r : Result (Unit {0}) Failed) → is_err r ≡ false → OnOk r (Tells old → (new.port (Out q)).bytes ≡ (old.port (Out q)).bytes ++ byte ∷ [])
      → Took (taken_by lines old before) (trace.Byte line byte ∷ []) (taken_by lines new before)
  byte_took (Ok x) good whole = took_written whole
  byte_took (Err e) good whole = absurd (cc)

  pub byte_all : (r : Result (Unit {0}) Failed) → is_err r ≡ false → OnOk r (Tells old → (new.port (Out q)).bytes ≡ (old.port (Out q)).bytes ++ byte ∷ [])
      → Appends (taken_by lines old before) (trace.Byte line byte) (taken_by lines new before)
  byte_all (Ok x) good whole = written_appended whole
  byte_all (Err e) good whole = absurd (cc)

  pub kept_took : (r : Result (Unit {0}) Failed) → is_err r ≡ true → OnErr r ((new.port (Out q)).bytes ≡ (old.port (Out q)).bytes)
      → Took (taken_by lines old before) (trace.Byte line byte ∷ []) (taken_by lines new (kept.Byte line byte))
  kept_took (Ok x) bad stays = absurd (cc)
  kept_took (Err e) bad stays = took_kept stays

  pub kept_all : (r : Result (Unit {0}) Failed) → is_err r ≡ true → OnErr r ((new.port (Out q)).bytes ≡ (old.port (Out q)).bytes)
      → Appends (taken_by lines old before) (trace.Byte line byte) (taken_by lines new (kept.Byte line byte))
  kept_all (Ok x) bad stays = absurd (cc)
  kept_all (Err e) bad stays = kept_appended stays

-- A line goes out, which is the bytes of `line`, in as many writes as it takes.
module _ (lines : ℕ) (old new : Outside) (before : Kept) (entry : Entry) (line : List ℕ) (loud : is_silent before ≡ false) (only : OnlyAt (same (Out out_port.Log)) old new)
    (line_is : line ≡ entry_line entry ++ 0o012 ∷ []) where
  line_goes : is_some (failed_port before) ≡ false
  line_goes = none_failed before loud

  -- all of it
  module _ (whole : Tells old → (log_of new).bytes ≡ (log_of old).bytes ++ line) where
    line_written : Tells old → (log_of new).bytes ++ kept_text before ≡ (log_of old).bytes ++ (entry_line entry ++ 0o012 ∷ [])
    line_written told =
        ap (λ l. (log_of new).bytes ++ l) (no_text before line_goes) ∙ append-nil (log_of new).bytes ∙ whole told ∙ ap (λ l. (log_of old).bytes ++ l) line_is

    pub took_all : Took (taken_by lines old before) (trace.Log entry ∷ []) (taken_by lines new before)
    took_all = took_by lines old new before before (trace.Log entry) loud (loud_written before loud)
        (took_line lines old new before before entry (wanted before loud) (wanted before loud) line_goes only (no_byte before line_goes) line_written)

    pub all_appended : Appends (taken_by lines old before) (trace.Log entry) (taken_by lines new before)
    all_appended = appends_by lines old new before before (trace.Log entry) loud (loud_written before loud)
        (holds_line lines old new before before entry (wanted before loud) (wanted before loud) line_goes only (no_byte before line_goes) line_written)

  -- its first bytes
  module _ (count : ℕ) (front : Tells old → (log_of new).bytes ≡ (log_of old).bytes ++ take count line) (rest : List ℕ) (rest_is : rest ≡ drop count line) where
    line_kept : Tells old → (log_of new).bytes ++ rest ≡ (log_of old).bytes ++ (entry_line entry ++ 0o012 ∷ [])
    line_kept told =
        ap (λ l. l ++ rest) (front told) ∙ append_assoc (log_of old).bytes (take count line) rest ∙ ap (λ l. (log_of old).bytes ++ (take count line ++ l)) rest_is
        ∙ ap (λ l. (log_of old).bytes ++ l) (take-append-drop count line ∙ line_is)

    pub took_front : Took (taken_by lines old before) (trace.Log entry ∷ []) (taken_by lines new (kept.Line (record { items = rest })))
    took_front = took_by lines old new before (kept.Line (record { items = rest })) (trace.Log entry) loud refl
        (took_line lines old new before (kept.Line (record { items = rest })) entry (wanted before loud) refl line_goes only (λ l. refl) line_kept)

    pub front_appended : Appends (taken_by lines old before) (trace.Log entry) (taken_by lines new (kept.Line (record { items = rest })))
    front_appended = appends_by lines old new before (kept.Line (record { items = rest })) (trace.Log entry) loud refl
        (holds_line lines old new before (kept.Line (record { items = rest })) entry (wanted before loud) refl line_goes only (λ l. refl) line_kept)
