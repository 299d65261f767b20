-- What a change of the table of texts leaves in an entry, and what effects leave that make no text there.
use Rattle.std.proofs.Common.{◌≡◌, ◌≢◌, ◌≤◌, ◌||◌, ◌==◌, ◌+◌, ◌-◌, ◌∙◌, ℕ, Bool, true, false, cond, List, [], ◌∷◌, ◌++◌, length, get_or, set, fold, Option, Some, None, option_map, refl, sym, ap, subst, inl, inr}
use Rattle.std.specs.List.{list_any}
use Rattle.std.proofs.lemmas.Bool.{cases_eq, cases_lt, eq-eqb}
use Rattle.std.proofs.lemmas.List.{get_or-set_same, get_or-set_other, get_or_past, length-set}
use Rattle.std.proofs.lemmas.List.Folds.{list_any-append}
use Rattle.v6_base.specs.Trace.{Log}
use Rattle.v6_base.specs.declared.entry.Entry.{Entry}
use Rattle.v6_base.specs.declared.entry.Entry.TheVariants as line
use Rattle.v6_base.specs.declared.entry.PanicKind.{PanicKind}
use Rattle.v6_base.specs.declared.entry.PanicKind.TheVariants as panic
use Rattle.pick_rules.specs.Board.{Board, blocks, swap_fit, free_text}
use Rattle.pick_rules.specs.Apply.{applied}
use Rattle.pick_rules.specs.Effects.{Effect, Show, Text, new_text_at, came}
use Rattle.pick_rules.specs.Logged.{Logged, Stop, logged, log_one, left_by, nothing_logged, with_what_came}
use Rattle.pick_rules.proofs.Stopping.{stays_stopped}
use Rattle.sys_procs.specs.TextTable as its
use Rattle.sys_procs.specs.Texts.{joined, with_user, joined_by_child, goes, remaining}
use Rattle.abstract_unix.specs.Shared.{WasThere, TextStays, is_made_by}
use Rattle.unix_core.proofs.LoggedLemmas.{after_items, logged_after, logged_then, logged_halted}
use Rattle.unix_core.proofs.PrivateSlots.{AllCarry, left_carried}

abbrev Table : Type 0
Table = List (Option its.Text)

pub stays_same : (ts : Table) (k : ℕ) → TextStays ts ts k
stays_same ts k text is = record { before = text; there = is; ino = refl; bytes = refl }

pub stays_then : (ts us vs : Table) (k : ℕ) → TextStays ts us k → TextStays us vs k → TextStays ts vs k
stays_then ts us vs k first second text is =
    let two : WasThere (get_or us k None) text = second text is in
    let one : WasThere (get_or ts k None) two.before = first two.before two.there in
    record { before = one.before; there = one.there; ino = two.ino ∙ one.ino; bytes = two.bytes ∙ one.bytes }

-- another entry has changed
pub stays_other : (ts : Table) (j k : ℕ) (o : Option its.Text) → k ≢ j → TextStays ts (set ts j o) k
stays_other ts j k o other text is = stays_same ts k text (sym (get_or-set_other ts j k o None other) ∙ is)

-- an entry has what was there, or nothing
stays_changed : (ts : Table) (j k : ℕ) (o : Option its.Text)
    → ((text : its.Text) → o ≡ Some text → WasThere (get_or ts j None) text) → TextStays ts (set ts j o) k
stays_changed ts j k o was text is = elim (cases_eq k j) [
  | inl here ↦ (
      let at : get_or (set ts j o) j None ≡ Some text = ap (λ n. get_or (set ts j o) n None) (sym here) ∙ is in
      subst (λ n. WasThere (get_or ts n None) text) (sym here) (was text (same at)))
  | inr other ↦ stays_other ts j k o other text is
]
  where
    same : get_or (set ts j o) j None ≡ Some text → o ≡ Some text
    same at = elim (cases_lt j (length ts)) [
      | inl low ↦ sym (get_or-set_same ts j o None low) ∙ at
      | inr past ↦ absurd (
          let none = get_or_past (set ts j o) j None (subst (λ n. n ≤ j) (sym (length-set ts j o)) past) in
          let never = sym none ∙ at in
          cc never)
    ]

-- it has another number of users
there_with : (text new : its.Text) (users : ℕ) → record text { users = users } ≡ new → WasThere (Some text) new
there_with text new users is = record {
  before = text;
  there = refl;
  ino = ap (λ (t : its.Text). t.ino) (sym is);
  bytes = ap (λ (t : its.Text). t.bytes) (sym is);
}

pub stays_joined : (ts : Table) (j k : ℕ) → TextStays ts (with_user ts j) k
stays_joined ts j k = stays_changed ts j k (option_map joined (get_or ts j None)) (by (get_or ts j None))
  where
    by : (o : Option its.Text) (text : its.Text) → option_map joined o ≡ Some text → WasThere o text
    by None text is = absurd (cc is)
    by (Some old) text is = there_with old text (old.users + 1) (cc is)

pub stays_child : (ts : Table) (o : Option ℕ) (k : ℕ) → TextStays ts (joined_by_child ts o) k
stays_child ts None k = stays_same ts k
stays_child ts (Some j) k = stays_joined ts j k

pub stays_left : (ts : Table) (j k : ℕ) (sticky : Bool) → TextStays ts (set ts j (remaining sticky (get_or ts j None))) k
stays_left ts j k sticky = stays_changed ts j k (remaining sticky (get_or ts j None)) (by (get_or ts j None))
  where
    stays : (old text : its.Text) (x : Bool) (users : ℕ) → cond x None (Some (record old { users = users })) ≡ Some text
        → WasThere (Some old) text
    stays old text true users is = absurd (cc is)
    stays old text false users is = there_with old text users (cc is)

    by : (o : Option its.Text) (text : its.Text) → remaining sticky o ≡ Some text → WasThere o text
    by None text is = absurd (cc is)
    by (Some old) text is = stays old text (goes old sticky) (old.users - 1) is

-- Effects, of which no line makes a text in an entry, leave a state of which this is so.
pub first_false : (x y : Bool) → (x || y) ≡ false → x ≡ false
first_false true y is = absurd (cc is)
first_false false y is = refl

second_false : (x y : Bool) → (x || y) ≡ false → y ≡ false
second_false true y is = absurd (cc is)
second_false false y is = is

module _ {W : Type 0} (P : W → Type 0) (k : ℕ) where
  abbrev LeavesIn : Logged W → W → Type 0
  LeavesIn l after = list_any (is_made_by k) l.items ≡ false → P (left_by l.stop after)

  abbrev pub Leaves : Board → List (Effect W) → W → Type 0
  Leaves b es after = LeavesIn (logged b es) after

  pub leaves_carried : (b : Board) (es : List (Effect W)) (after : W) → AllCarry P es → P after → Leaves b es after
  leaves_carried b es after h now none = left_carried P b es after h now

  -- some effects, and then others, which carry the fact where the first ones have left it
  pub leaves_then : (b : Board) (es more : List (Effect W)) (between after : W) → Leaves b es between
      → (P between → AllCarry P more × P after) → Leaves b (es ++ more) after
  leaves_then b es more between after first rest = by (logged b es).stop refl
    where
      by : (o : Option (Stop W)) → (logged b es).stop ≡ o → Leaves b (es ++ more) after
      by None none = subst (λ (l : Logged W). LeavesIn l after) (sym (logged_then b es more none)) (λ made.
          let now : Board = (logged b es).board in
          let early = first_false (list_any (is_made_by k) (logged b es).items) (list_any (is_made_by k) (logged now more).items)
          (sym (list_any-append (is_made_by k) (logged b es).items (logged now more).items) ∙ made) in
          let others = rest (subst (λ (o : Option (Stop W)). P (left_by o between)) none (first early)) in
          left_carried P now more after others.0 others.1)
      by (Some stop) some = subst (λ (l : Logged W). LeavesIn l after) (sym (logged_halted b es more stop some)) (λ made.
          subst (λ (o : Option (Stop W)). P (left_by o after)) (sym some)
          (subst (λ (o : Option (Stop W)). P (left_by o between)) some (first made)))

  line_is : (b : Board) (e : Entry) (es : List (Effect W))
      → logged b (Show (Log e) ∷ es) ≡ after_items (Log e ∷ []) (logged (applied b e) es)
  unfolding log_one came
  line_is b e es = logged_after b (Log e ∷ []) es

  pub leaves_line : (b : Board) (e : Entry) (es : List (Effect W)) (after : W) → Leaves (applied b e) es after
      → Leaves b (Show (Log e) ∷ es) after
  leaves_line b e es after h = subst (λ (l : Logged W). LeavesIn l after) (sym (line_is b e es))
      (λ none. h (second_false (is_made_by k (Log e)) (list_any (is_made_by k) (logged (applied b e) es).items) none))

  module _ (b : Board) (s n : ℕ) (before : W) (es : List (Effect W)) (after : W) (was : P before)
      (rest : (j : ℕ) → free_text b ≡ Some j → k ≢ j → AllCarry P es × P after) where
    -- what its entry and its blocks make of the demand, and of the log with what follows it
    abbrev made : Option ℕ → Option ℕ → Logged W
    made o block =
        fold log_one (with_what_came (nothing_logged b) (new_text_at before o block (λ j block. line.Text s j n block))) es

    halts : (kind : PanicKind) → LeavesIn (fold log_one (record {
      items = Log (line.Panic kind) ∷ [];
      board = applied b (line.Panic kind);
      stop = Some (record { why = kind; before = before });
    }) es) after
    halts kind = subst (λ (l : Logged W). LeavesIn l after) (sym (stays_stopped _ _ _ es)) (λ none. was)

    by : (o block : Option ℕ) → free_text b ≡ o → LeavesIn (made o block) after
    unfolding log_one came
    by None block free = halts panic.Text
    by (Some j) None free = halts panic.Swap
    by (Some j) (Some at) free = subst (λ (l : Logged W). LeavesIn l after) (sym (line_is b (line.Text s j n at) es)) (λ none.
        let now : Board = applied b (line.Text s j n at) in
        let not_it = first_false (j == k) (list_any (is_made_by k) (logged now es).items) none in
        let others = rest j free (λ is. let never : true ≡ false = sym (eq-eqb j k (sym is)) ∙ not_it in cc never) in
        left_carried P now es after others.0 others.1)

    pub leaves_made : Leaves b (Text s n before ∷ es) after
    unfolding log_one came
    leaves_made = by (free_text b) (swap_fit b (blocks n)) refl
