-- What a host's terminal lines and log have got of what a run shows.
use Rattle.std.proofs.Common.{◌≡◌, ◌<◌, ℕ, Bool, true, false, ◌&&◌, ◌||◌, cond, is_some, Some, None, IfSome, MatchOption, List, [], ◌++◌, ◌+◌, length, refl, sym, ◌∙◌, ap, subst, append_assoc, arith, lit<}
use Rattle.std.specs.Prelude.{nat_lt}
use Rattle.std.proofs.lemmas.Bool.{lt-ltb}
use Rattle.std.proofs.lemmas.List.{append-nil, append_cancel_left}
use Rattle.v6_base.specs.Trace.{Item, Taken, Took, line_bytes, text_of}
use Rattle.v6_base.proofs.Took.{line_bytes-append, text_of-append}
use Rattle.v6_port.specs.declared.host.OutPort.{OutPort}
use Rattle.v6_port.specs.declared.host.OutPort.TheVariants as out_port
use Rattle.v6_port.specs.Outside.{Out, same, PortState, Outside, Tells}
use Rattle.v6_port.specs.Causes.{Calm, FaultAt}
use Rattle.v6_port.proofs.CauseLemmas.{not_line}
use Rattle.v6_run.specs.Fronts.{HoldsFront}
use Rattle.v6_run.specs.Opened.{line_port}
use Rattle.v6_run.specs.Outputs.{is_line, is_shown}
use Rattle.v6_run.specs.declared.ports.Kept.{Kept}
use Rattle.v6_run.specs.declared.ports.Kept.TheVariants.{Nothing, Byte, Line, Unwanted, Count}
use Rattle.v6_run.specs.Ports.{line_state, log_of, failed_port, is_silent, kept_byte, kept_text, taken_of, shown_to, taken_by, is_counted, HasCounted, Extends, Goes, HasShown, HasShownFronts}
use Rattle.v6_run.proofs.FrontLemmas.{front_of_nothing}
use Rattle.v6_run.proofs.LinePorts.{other_port, is_low, is_high}
use Rattle.v6_run.proofs.PortLemmas.{no_byte, no_text, uncounted}

-- What was written with what was kept is what was taken: so what was written is a front of it all.
front_written : (old new kept part rest all : List ℕ) → Extends old new → new ++ kept ≡ old ++ part → all ≡ part ++ rest → HoldsFront old all new
front_written old new kept part rest all more taken split =
    let whole : more.more ++ kept ≡ part = append_cancel_left old _ _ (sym (append_assoc old more.more kept) ∙ ap (λ l. l ++ kept) (sym more.is) ∙ taken) in
    record {
      part = more.more;
      rest = kept ++ rest;
      split = split ∙ ap (λ l. l ++ rest) (sym whole) ∙ append_assoc more.more kept rest;
      holds = more.is;
    }

-- and where nothing is kept, and nothing left, it is it all
all_written : (old new kept part rest all : List ℕ) → kept ≡ [] → rest ≡ [] → new ++ kept ≡ old ++ part → all ≡ part ++ rest → new ≡ old ++ all
all_written old new kept part rest all none whole taken split =
    sym (append-nil new) ∙ ap (λ l. new ++ l) (sym none) ∙ taken ∙ ap (λ l. old ++ l) (sym (append-nil part) ∙ ap (λ l. part ++ l) (sym whole) ∙ sym split)

module _ (lines : ℕ) (some : 0 < lines) (old new : Outside) (kept : Kept) (items : List Item) (took : Took (taken_of lines old Nothing) items (taken_of lines new kept))
    (goes : Goes lines old Nothing new kept) (told : Tells old) where
  told_line : (l : ℕ) → l < lines → (nat_lt l lines && (true && old.fixed.tells)) ≡ true
  told_line l below = ap (λ b. b && (true && old.fixed.tells)) (lt-ltb l lines below) ∙ told

  taken_bytes : (l : ℕ) → l < lines → (line_state new l).bytes ++ kept_byte kept l ≡ (line_state old l).bytes ++ line_bytes l took.part
  taken_bytes l below = took.holds.bytes l (told_line l below) ∙ ap (λ b. b ++ line_bytes l took.part) (append-nil (line_state old l).bytes)

  taken_text : (log_of new).bytes ++ kept_text kept ≡ (log_of old).bytes ++ text_of took.part
  taken_text = took.holds.text told ∙ ap (λ l. l ++ text_of took.part) (append-nil (log_of old).bytes)

  bytes_split : (l : ℕ) → line_bytes l items ≡ line_bytes l took.part ++ line_bytes l took.rest
  bytes_split l = ap (line_bytes l) took.split ∙ line_bytes-append l took.part took.rest

  text_split : text_of items ≡ text_of took.part ++ text_of took.rest
  text_split = ap text_of took.split ∙ text_of-append took.part took.rest

  -- of what isn't shown nothing changes
  unshown : (p : OutPort) → is_shown lines (Out p) ≡ false → (new.port (Out p)).bytes ≡ (old.port (Out p)).bytes
  unshown p other = ap (λ (state : PortState). state.bytes) (goes.only.others (Out p) other)

  no_line : (l : ℕ) → is_line lines l ≡ false → is_shown lines (Out (out_port.Line l)) ≡ false
  no_line l is = ap (λ b. b || same (Out out_port.Log) (Out (out_port.Line l))) is ∙ not_line 5 l (lit< tt)

  -- a line beside the console
  is_port : (l : ℕ) → is_line lines l ≡ true → line_port l ≡ out_port.Line l
  is_port l is = sym (other_port l (λ none. let low = is_low 1 l lines is in omega (arith, low, none)))

  front_at : (l : ℕ) → l < lines → HoldsFront (line_state old l).bytes (line_bytes l items) (line_state new l).bytes
  front_at l below = front_written _ _ _ _ _ _ ((goes.grows (line_port l)).bytes told) (taken_bytes l below) (bytes_split l)

  no_front : (p : OutPort) → is_shown lines (Out p) ≡ false → HoldsFront (old.port (Out p)).bytes [] (new.port (Out p)).bytes
  no_front p other = subst (HoldsFront (old.port (Out p)).bytes []) (sym (unshown p other)) (front_of_nothing (old.port (Out p)).bytes [])

  pub fronts_shown : HasShownFronts lines items old new
  fronts_shown out_port.Term = front_at 0 some
  fronts_shown out_port.Log = front_written _ _ _ _ _ _ ((goes.grows out_port.Log).bytes told) taken_text text_split
  fronts_shown out_port.Final = no_front out_port.Final refl
  fronts_shown out_port.Report = no_front out_port.Report refl
  fronts_shown out_port.Second = no_front out_port.Second refl
  fronts_shown (out_port.Line l) = by (is_line lines l) refl
    where
      by : (b : Bool) → is_line lines l ≡ b → HoldsFront (old.port (Out (out_port.Line l))).bytes (cond b (line_bytes l items) []) (new.port (Out (out_port.Line l))).bytes
      by true is = subst (λ q. HoldsFront (old.port (Out q)).bytes (line_bytes l items) (new.port (Out q)).bytes) (is_port l is) (front_at l (is_high 1 l lines is))
      by false is = no_front (out_port.Line l) (no_line l is)

  module _ (uncut : is_some (failed_port kept) ≡ false) where
    all_at : (l : ℕ) → l < lines → (line_state new l).bytes ≡ (line_state old l).bytes ++ line_bytes l items
    all_at l below = all_written _ _ _ _ _ _ (no_byte kept uncut l) (ap (line_bytes l) (took.whole uncut)) (taken_bytes l below) (bytes_split l)

    nothing_at : (p : OutPort) → is_shown lines (Out p) ≡ false → (new.port (Out p)).bytes ≡ (old.port (Out p)).bytes ++ []
    nothing_at p other = unshown p other ∙ sym (append-nil (old.port (Out p)).bytes)

    pub all_shown : HasShown lines items old new
    all_shown out_port.Term = all_at 0 some
    all_shown out_port.Log = all_written _ _ _ _ _ _ (no_text kept uncut) (ap text_of (took.whole uncut)) taken_text text_split
    all_shown out_port.Final = nothing_at out_port.Final refl
    all_shown out_port.Report = nothing_at out_port.Report refl
    all_shown out_port.Second = nothing_at out_port.Second refl
    all_shown (out_port.Line l) = by (is_line lines l) refl
      where
        by : (b : Bool) → is_line lines l ≡ b → (new.port (Out (out_port.Line l))).bytes ≡ (old.port (Out (out_port.Line l))).bytes ++ cond b (line_bytes l items) []
        by true is = subst (λ q. (new.port (Out q)).bytes ≡ (old.port (Out q)).bytes ++ line_bytes l items) (is_port l is) (all_at l (is_high 1 l lines is))
        by false is = nothing_at (out_port.Line l) (no_line l is)

-- A trace of which nothing is wanted is never cut.
pub never_cut : (start_lines end_lines : ℕ) (start new : Outside) (start_kept kept : Kept) (items : List Item) → start_kept ≡ Unwanted
    → Took (taken_by start_lines start start_kept) items (taken_by end_lines new kept) → Goes start_lines start start_kept new kept
    → (taken_by end_lines new kept).cut ≡ false
never_cut start_lines end_lines start new start_kept kept items is took goes =
    let none = ap is_some ((goes.stopped (ap is_silent is)).2 ∙ ap failed_port is) in
    ap (λ (t : Taken). t.cut) (uncounted end_lines new kept (goes.counted ∙ ap is_counted is)) ∙ none

-- A trace that has counted, and no more than that, isn't cut, and has counted all.
pub uncut_counted : (lines : ℕ) (o : Outside) (kept : Kept) (count : ℕ) → HasCounted kept count → (taken_by lines o kept).cut ≡ false
uncut_counted lines o Nothing count counted = absurd counted
uncut_counted lines o (Byte line byte) count counted = absurd counted
uncut_counted lines o (Line rest) count counted = absurd counted
uncut_counted lines o Unwanted count counted = absurd counted
uncut_counted lines o (Count n) count counted = counted.1

pub all_counted : (start_lines end_lines : ℕ) (start new : Outside) (start_kept kept : Kept) (items : List Item) (count : ℕ) → start_kept ≡ Count 0
    → Took (taken_by start_lines start start_kept) items (taken_by end_lines new kept) → HasCounted kept count → count ≡ length (line_bytes 0 items)
all_counted start_lines end_lines start new start_kept Nothing items count is took counted = absurd counted
all_counted start_lines end_lines start new start_kept (Byte line byte) items count is took counted = absurd counted
all_counted start_lines end_lines start new start_kept (Line rest) items count is took counted = absurd counted
all_counted start_lines end_lines start new start_kept Unwanted items count is took counted = absurd counted
all_counted start_lines end_lines start new start_kept (Count n) items count is took counted =
    let from : Took (shown_to 0) items (shown_to n) = subst (λ k. Took (taken_by start_lines start k) items (shown_to n)) is took in
    let all : items ≡ from.part = from.split ∙ ap (λ l. from.part ++ l) (from.whole counted.1) ∙ append-nil from.part in
    let sum : n ≡ 0 + length (line_bytes 0 from.part) = from.holds.count 0 refl in
    let same : length (line_bytes 0 items) ≡ length (line_bytes 0 from.part) = ap (λ l. length (line_bytes 0 l)) all in
    let is_n : count ≡ n = counted.0 in
    omega (arith, sum, same, is_n)

-- What stays, where the trace began as one over the host at hand.
module _ (lines start_lines : ℕ) (old start new : Outside) (start_kept kept : Kept) (lines_are : start_lines ≡ lines) (same_start : start ≡ old) (fresh : start_kept ≡ Nothing)
    (goes : Goes start_lines start start_kept new kept) where
  pub goes_from : Goes lines old Nothing new kept
  goes_from = subst (λ n. Goes n old Nothing new kept) lines_are (subst (λ s. Goes start_lines s Nothing new kept) same_start (subst (λ k. Goes start_lines start k new kept) fresh goes))

  -- no write has failed, or one to a port of what is shown
  pub calm_from : failed_port kept ≡ None → Calm old new
  calm_from is = subst (λ o. MatchOption o (Calm old new) (λ p. FaultAt (Out p) true old new)) is (goes_from.cause refl)

  pub fault_from : (port : OutPort) → failed_port kept ≡ Some port → FaultAt (Out port) true old new
  fault_from port is = subst (λ o. MatchOption o (Calm old new) (λ p. FaultAt (Out p) true old new)) is (goes_from.cause refl)

  pub named_from : (port : OutPort) → failed_port kept ≡ Some port → is_shown lines (Out port) ≡ true
  named_from port is = subst (λ o. IfSome o (λ p. is_shown lines (Out p) ≡ true)) is (goes_from.named refl)

-- The same of what the host has got.
module _ (lines : ℕ) (some : 0 < lines) (start_lines end_lines : ℕ) (lines_are : start_lines ≡ lines) (lines_stay : end_lines ≡ start_lines) (old start new : Outside) (start_kept kept : Kept) (items : List Item)
    (same_start : start ≡ old) (fresh : start_kept ≡ Nothing) (took : Took (taken_by start_lines start start_kept) items (taken_by end_lines new kept)) (goes : Goes start_lines start start_kept new kept) where
  goes_all : Goes lines old Nothing new kept
  goes_all = goes_from lines start_lines old start new start_kept kept lines_are same_start fresh goes

  taken_now : taken_by end_lines new kept ≡ taken_of lines new kept
  taken_now = ap (λ n. taken_by n new kept) (lines_stay ∙ lines_are) ∙ uncounted lines new kept (goes.counted ∙ ap is_counted fresh)

  taken_first : taken_by start_lines start start_kept ≡ taken_of lines old Nothing
  taken_first = ap (λ n. taken_by n start start_kept) lines_are ∙ ap (λ s. taken_by lines s start_kept) same_start ∙ ap (taken_by lines old) fresh

  pub uncut_from : is_some (failed_port kept) ≡ false → (taken_by end_lines new kept).cut ≡ false
  uncut_from uncut = ap (λ (t : Taken). t.cut) taken_now ∙ uncut

  took_all : Took (taken_of lines old Nothing) items (taken_of lines new kept)
  took_all = subst (λ t. Took (taken_of lines old Nothing) items t) taken_now (subst (λ t. Took t items (taken_by end_lines new kept)) taken_first took)

  pub fronts_from : Tells old → HasShownFronts lines items old new
  fronts_from = fronts_shown lines some old new kept items took_all goes_all

  pub all_from : is_some (failed_port kept) ≡ false → Tells old → HasShown lines items old new
  all_from uncut told = all_shown lines some old new kept items took_all goes_all told uncut
