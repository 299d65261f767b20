-- The same call of each line, lowest first: after each who waits for room on it is woken, where that is called for.
use Rattle.std.proofs.Common.{◌≡◌, ◌∙◌, ◌<◌, ◌≤◌, ◌+◌, ◌-◌, ◌||◌, length-append, length-drop, ℕ, zero, suc, Bool, true, false, List, [], ◌∷◌, ◌++◌, length, map, fold, take, drop, get_or, set, refl, sym, ap, subst, append_assoc, arith}
use Rattle.std.proofs.Math.Seq.{set-append_seam, get_or-append_seam}
use Rattle.std.proofs.lemmas.List.{append-nil, drop_more, drop_all, take_more, take_all, length-take-le}
use Rattle.std.proofs.lemmas.List.Sums.{fold-append}
use Rattle.v6_base.specs.Trace.{Item, Byte, Log, Took, Taken, sent, entries_of}
use Rattle.v6_base.proofs.Took.{took_then, took_more, took_nothing, entries_of-append, entries_of-sent}
use Rattle.v6_base.specs.declared.entry.Chan.{Chan}
use Rattle.v6_base.specs.declared.entry.Entry.{Entry}
use Rattle.v6_base.specs.declared.entry.Entry.TheVariants.{Wake}
use Rattle.tty_line.specs.Terminal.{Terminal, first_terminal}
use Rattle.tty_line.specs.Said.{Said}
use Rattle.lines_eight.specs.Lines.{terminal_at, with_terminal}
use Rattle.lines_eight.specs.Told.{AllTold, keys_of, show_of, wakes_if, told, each_from, each_line}
use Rattle.pick_rules.specs.declared.table.Table.{Table}
use Rattle.pick_rules.specs.Table.{IsTable}
use Rattle.pick_rules.specs.Board.{Board, first_board}
use Rattle.pick_rules.specs.Apply.{applied}
use Rattle.pick_rules.specs.Effects.{Show}
use Rattle.pick_rules.specs.Logged.{Logged, logged, board_after}
use Rattle.pick_rules.proofs.Laws as law
use Rattle.image_keep.specs.Kept.{Kept}
use Rattle.sys_procs.specs.Agree.{Agree, board_of}
use Rattle.abstract_unix.specs.Unix.{Unix}
use Rattle.abstract_unix.specs.Outside.{wakes}
use Rattle.abstract_unix.proofs.Telling.{lines_length}
use Rattle.unix_core.specs.declared.world.World.{World}
use Rattle.unix_core.specs.Passing.{HaveSlots, called_table, woken_by, all_woken}
use Rattle.unix_core.specs.Parts.{unix_of, board_in, IsGood}
use Rattle.unix_core.proofs.BoardLemmas.{board_woken, logged_line}
use Rattle.unix_core.proofs.LoggedLemmas.{logged_shown}
use Rattle.unix_core.proofs.ShowingLemmas.{woken_kept, woken_agree}
use Rattle.unix_core.proofs.TableLemmas.{RunsImage, with_table, good_table}
use Rattle.unix_core.proofs.TypedLemmas.{with_lines, lines_good}

-- 1. What the lines tell wakes sleepers, and has no other lines of the log.
abbrev pub OnlyWake : List Item → Type 0
OnlyWake [] = Unit {0}
OnlyWake (Byte l byte ∷ items) = OnlyWake items
OnlyWake (Log e ∷ items) = ((chan : Chan) × (e ≡ Wake chan)) × OnlyWake items

wake_append : (xs ys : List Item) → OnlyWake xs → OnlyWake ys → OnlyWake (xs ++ ys)
wake_append [] ys one two = two
wake_append (Byte l byte ∷ xs) ys one two = wake_append xs ys one two
wake_append (Log e ∷ xs) ys one two = (one.0, wake_append xs ys one.1 two)

wake_sent : (l : ℕ) (bytes : List ℕ) → OnlyWake (sent l bytes)
wake_sent l [] = tt
wake_sent l (byte ∷ bytes) = wake_sent l bytes

wake_if : (b : Bool) (chan : Chan) → OnlyWake (wakes_if b chan)
wake_if true chan = ((chan, refl), tt)
wake_if false chan = tt

pub wake_told : (l : ℕ) (s : Said) → OnlyWake (told l s)
wake_told l s =
    wake_append (sent l s.shown) (wakes_if s.keys (keys_of l) ++ wakes_if s.show (show_of l)) (wake_sent l s.shown)
    (wake_append (wakes_if s.keys (keys_of l)) (wakes_if s.show (show_of l)) (wake_if s.keys (keys_of l)) (wake_if s.show (show_of l)))

each_wake : (call : Terminal → Said) (l : ℕ) (lines : List Terminal) → OnlyWake (each_from l call lines).items
each_wake call l [] = tt
each_wake call l (t ∷ ts) = wake_append (told l (call t)) (each_from (suc l) call ts).items (wake_told l (call t)) (each_wake call (suc l) ts)

pub lines_wake : (call : Terminal → Said) (lines : List Terminal) → OnlyWake (each_line call lines).items
lines_wake call lines = each_wake call 0 lines

only_slots : (items : List Item) → OnlyWake items → HaveSlots (entries_of items)
only_slots [] only i slot sig is = absurd (cc is)
only_slots (Byte l byte ∷ items) only i slot sig is = only_slots items only i slot sig is
only_slots (Log e ∷ items) only zero slot sig is = absurd (let no = sym only.0.1 ∙ is in cc no)
only_slots (Log e ∷ items) only (suc i) slot sig is = only_slots items only.1 i slot sig is

one_board : (e : Entry) → (chan : Chan) → e ≡ Wake chan → (t : Table) (k : Kept) → applied (board_of t k) e ≡ board_of (woken_by t e) k
one_board e chan is t k = ap (applied (board_of t k)) is ∙ sym (board_woken t k chan) ∙ ap (λ x. board_of (woken_by t x) k) (sym is)

only_board : (items : List Item) → OnlyWake items → (t : Table) (k : Kept) → fold board_after (board_of t k) items ≡ board_of (all_woken t (entries_of items)) k
only_board [] only t k = refl
only_board (Byte l byte ∷ items) only t k = only_board items only t k
only_board (Log e ∷ items) only t k =
    ap (λ b. fold board_after b items) (one_board e only.0.0 only.0.1 t k) ∙ only_board items only.1 (woken_by t e) k

-- The world in which the lines are others, and who slept is woken by what they tell.
module _ (w : World) (good : IsGood w) (lines : List Terminal) (items : List Item) (only : OnlyWake items) (t : Table)
    (is : t ≡ all_woken w.procs.table (entries_of items)) where
  abbrev pub told_world : World
  told_world = with_table (with_lines w lines) t

  kept : law.Kept w.procs.table (all_woken w.procs.table (entries_of items))
  kept = woken_kept w.procs.table (entries_of items) (only_slots items only)

  pub told_running : t.running ≡ w.procs.table.running
  told_running = ap (λ (x : Table). x.running) is ∙ kept.running

  pub told_unix : unix_of told_world ≡ record (unix_of w) { lines = lines }
  told_unix =
      ap (λ x. unix_of (with_table (with_lines w lines) x)) is
      ∙ (λ i. record (unix_of w) { lines = lines; clock = record { time = kept.now i; ticks = kept.ticks i; tout = kept.tout i } })

  pub told_board : board_in told_world ≡ (logged {W = Unix} (board_in w) (map Show items)).board
  told_board =
      ap (λ x. board_of x w.procs.images.kept) is ∙ sym (only_board items only w.procs.table w.procs.images.kept)
      ∙ sym (ap (λ (l : Logged Unix). l.board) (logged_shown (board_in w) items))

  agree : Agree w.procs.rows t w.procs.images.kept
  agree = subst (λ x. Agree w.procs.rows x w.procs.images.kept) (sym is)
      (woken_agree w.procs.rows w.procs.table w.procs.images.kept (entries_of items) (only_slots items only) good.agree)

  runs : RunsImage t w.procs.images.kept
  runs s e above = good.running s (sym told_running ∙ e) above

  pub told_good : IsGood told_world
  told_good = good_table (with_lines w lines) t agree runs (lines_good w lines good)

-- 2. The lines are called one after another.
abbrev pub one_told : (Terminal → Said) → ℕ → Terminal → List Item
one_told call l t = sent l (call t).shown ++ wakes_if (call t).show (show_of l)

or_none : (b : Bool) → (b || false) ≡ b
or_none true = refl
or_none false = refl

or_last : (a b c d : Bool) → (a || (b || (c || d))) ≡ ((a || (b || c)) || d)
or_last true b c d = refl
or_last false true c d = refl
or_last false false c d = refl

-- a call for which who waits for keys is not woken
module _ (call : Terminal → Said) (never : (t : Terminal) → (call t).keys ≡ false) where
  told_one : (l : ℕ) (t : Terminal) → told l (call t) ≡ one_told call l t
  told_one l t = ap (λ b. sent l (call t).shown ++ (wakes_if b (keys_of l) ++ wakes_if (call t).show (show_of l))) (never t)

  lines_more : (l : ℕ) (xs : List Terminal) (t : Terminal) → (each_from l call (xs ++ t ∷ [])).lines ≡ (each_from l call xs).lines ++ (call t).terminal ∷ []
  lines_more l [] t = refl
  lines_more l (x ∷ xs) t = ap (λ ts. (call x).terminal ∷ ts) (lines_more (suc l) xs t)

  items_more : (l : ℕ) (xs : List Terminal) (t : Terminal) (n : ℕ) → n ≡ l + length xs
      → (each_from l call (xs ++ t ∷ [])).items ≡ (each_from l call xs).items ++ one_told call n t
  items_more l [] t n is =
      let e : l ≡ n = omega (arith, is) in append-nil (told l (call t)) ∙ told_one l t ∙ ap (λ m. one_told call m t) e
  items_more l (x ∷ xs) t n is =
      let e : n ≡ suc l + length xs = omega (arith, is) in
      ap (λ items. told l (call x) ++ items) (items_more (suc l) xs t n e)
      ∙ sym (append_assoc (told l (call x)) (each_from (suc l) call xs).items (one_told call n t))

  wakes_more : (l : ℕ) (xs : List Terminal) (t : Terminal) → (each_from l call (xs ++ t ∷ [])).wakes ≡ ((each_from l call xs).wakes || (call t).show)
  wakes_more l [] t = ap (λ b. b || ((call t).show || false)) (never t) ∙ or_none (call t).show
  wakes_more l (x ∷ xs) t =
      ap (λ b. (call x).keys || ((call x).show || b)) (wakes_more (suc l) xs t)
      ∙ or_last (call x).keys (call x).show (each_from (suc l) call xs).wakes (call t).show

-- what those below a line tell
abbrev pub below : (Terminal → Said) → ℕ → List Terminal → AllTold
below call k lines = each_line call (take k lines)

-- So many lines have been called, by which the table is this one.
pub record HasCalled (call : Terminal → Said) (k : ℕ) (old new : List Terminal) (first now : Table) (any : Bool) (start end : Taken) : Type 0 where
  pub lines : new ≡ (below call k old).lines ++ drop k old
  pub table : now ≡ all_woken first (entries_of (below call k old).items)
  pub good : IsTable now
  pub wakes : any ≡ (below call k old).wakes
  pub same : any ≡ false → now ≡ first
  pub items : Took start (below call k old).items end

pub called_first : (call : Terminal → Said) (lines : List Terminal) (t : Table) (start : Taken) → IsTable t
    → HasCalled call 0 lines lines t t false start start
called_first call lines t start good = record {
  lines = refl;
  table = refl;
  good = good;
  wakes = refl;
  same = λ none. refl;
  items = took_nothing start [] refl;
}

-- a line that has been called is still there
pub called_length : {call : Terminal → Said} {k : ℕ} {old new : List Terminal} {first now : Table} {any : Bool} {start end : Taken}
    → HasCalled call k old new first now any start end → k ≤ length old → length new ≡ length old
called_length {call} {k} {old} {new} was low =
    let front : List Terminal = (below call k old).lines in
    let a : length front ≡ length (take k old) = lines_length call (take k old) in
    let b : length (take k old) ≡ k = length-take-le k old low in
    let c : length (front ++ drop k old) ≡ length front + length (drop k old) = length-append front (drop k old) in
    let d : length (drop k old) ≡ length old - k = length-drop k old in
    let e : length new ≡ length (front ++ drop k old) = ap length was.lines in
    omega (arith, a, b, c, d, e, low)

woken_if : (t : Table) (b : Bool) (chan : Chan) → called_table b chan t ≡ all_woken t (entries_of (wakes_if b chan))
woken_if t true chan = refl
woken_if t false chan = refl

-- what is told where sleepers are woken
pub wakes_told : (b : Board) (called : Bool) (chan : Chan) → (logged {W = Unix} b (wakes called chan)).items ≡ wakes_if called chan
wakes_told b true chan = ap (λ (l : Logged Unix). l.items) (logged_line b (Wake chan))
wakes_told b false chan = refl

first_no : (a b : Bool) → (a || b) ≡ false → a ≡ false
first_no true b e = absurd (cc e)
first_no false b e = refl

second_no : (a b : Bool) → (a || b) ≡ false → b ≡ false
second_no true b e = absurd (cc e)
second_no false b e = e

module _ {call : Terminal → Said} {k : ℕ} {old mid : List Terminal} {first now : Table} {any : Bool} {start a : Taken}
    (never : (t : Terminal) → (call t).keys ≡ false) (was : HasCalled call k old mid first now any start a) (low : k < length old) where
  abbrev own : Terminal
  own = get_or old k first_terminal

  abbrev front : List Terminal
  front = (below call k old).lines

  few : length (take k old) ≡ k
  few = length-take-le k old (omega (arith, low))

  long : length front ≡ k
  long = lines_length call (take k old) ∙ few

  mid_is : mid ≡ front ++ own ∷ drop (k + 1) old
  mid_is = was.lines ∙ ap (λ l. front ++ l) (drop_more old k first_terminal low)

  own_is : terminal_at mid k ≡ own
  own_is =
      ap (λ l. get_or l k first_terminal) mid_is ∙ ap (λ n. get_or (front ++ own ∷ drop (k + 1) old) n first_terminal) (sym long)
      ∙ get_or-append_seam front own (drop (k + 1) old) first_terminal

  next_is : below call (k + 1) old ≡ record {
    lines = front ++ (call own).terminal ∷ [];
    items = (below call k old).items ++ one_told call k own;
    wakes = (below call k old).wakes || (call own).show;
  }
  next_is =
      let e : k ≡ 0 + length (take k old) = omega (arith, few) in
      ap (each_line call) (take_more old k first_terminal low)
      ∙ (λ i. record {
        lines = lines_more call never 0 (take k old) own i;
        items = items_more call never 0 (take k old) own k e i;
        wakes = wakes_more call never 0 (take k old) own i;
      })

  set_is : (t : Terminal) → with_terminal mid k t ≡ (front ++ t ∷ []) ++ drop (k + 1) old
  set_is t =
      ap (λ l. set l k t) mid_is ∙ ap (λ n. set (front ++ own ∷ drop (k + 1) old) n t) (sym long)
      ∙ set-append_seam front own (drop (k + 1) old) t ∙ sym (append_assoc front (t ∷ []) (drop (k + 1) old))

  told_entries : entries_of (one_told call k own) ≡ entries_of (wakes_if (call own).show (show_of k))
  told_entries =
      entries_of-append (sent k (call own).shown) (wakes_if (call own).show (show_of k))
      ∙ ap (λ l. l ++ entries_of (wakes_if (call own).show (show_of k))) (entries_of-sent k (call own).shown)

  pub called_next : (new : List Terminal) → new ≡ with_terminal mid k (call (terminal_at mid k)).terminal
      → (show : Bool) → show ≡ (call (terminal_at mid k)).show → (chan : Chan) → chan ≡ show_of k
      → (t : Table) → t ≡ called_table show chan now → IsTable t → (b c : Taken) → Took a (sent k (call (terminal_at mid k)).shown) b
      → ((board : Board) → Took b (logged {W = Unix} board (wakes show chan)).items c) → (either : Bool) → either ≡ (any || show)
      → HasCalled call (k + 1) old new first t either start c
  called_next new new_is show show_is chan chan_is t table good b c shown woken either either_is =
      let shows : show ≡ (call own).show = show_is ∙ ap (λ x. (call x).show) own_is in
      let bytes : Took a (sent k (call own).shown) b = subst (λ x. Took a (sent k (call x).shown) b) own_is shown in
      let told : wakes_if show chan ≡ wakes_if (call own).show (show_of k) = (λ i. wakes_if (shows i) (chan_is i)) in
      let wake : Took b (wakes_if (call own).show (show_of k)) c =
      subst (λ l. Took b l c) told (subst (λ l. Took b l c) (wakes_told (first_board 0 0) show chan) (woken (first_board 0 0))) in
      let all : List Item = (below call k old).items in record {
        lines = new_is ∙ ap (λ x. with_terminal mid k (call x).terminal) own_is ∙ set_is (call own).terminal
            ∙ ap (λ (x : AllTold). x.lines ++ drop (k + 1) old) (sym next_is);
        table = table ∙ (λ i. called_table (shows i) (chan_is i) (was.table i))
            ∙ woken_if (all_woken first (entries_of all)) (call own).show (show_of k)
            ∙ sym (fold-append woken_by first (entries_of all) (entries_of (wakes_if (call own).show (show_of k))))
            ∙ ap (λ l. all_woken first (entries_of all ++ l)) (sym told_entries)
            ∙ ap (all_woken first) (sym (entries_of-append all (one_told call k own)))
            ∙ ap (λ (x : AllTold). all_woken first (entries_of x.items)) (sym next_is);
        good = good;
        wakes = either_is ∙ (λ i. was.wakes i || shows i) ∙ ap (λ (x : AllTold). x.wakes) (sym next_is);
        same = λ none. table ∙ ap (λ x. called_table x chan now) (second_no any show (sym either_is ∙ none)) ∙ was.same (first_no any show (sym either_is ∙ none));
        items = took_then start a c all (one_told call k own) (below call (k + 1) old).items was.items
            (took_more a b c (sent k (call own).shown) (wakes_if (call own).show (show_of k)) bytes wake)
            (ap (λ (x : AllTold). x.items) (sym next_is));
      }

-- when all have been called
pub called_all : {call : Terminal → Said} {k : ℕ} {old new : List Terminal} {first now : Table} {any : Bool} {start end : Taken}
    → HasCalled call k old new first now any start end → length old ≤ k
    → (new ≡ (each_line call old).lines) × (now ≡ all_woken first (entries_of (each_line call old).items))
    × (any ≡ (each_line call old).wakes) × (Took start (each_line call old).items end)
called_all {call} {k} {old} {new} {first} {now} {any} {start} {end} was past =
    let all : take k old ≡ old = take_all k old past in (
      was.lines ∙ (λ i. (each_line call (all i)).lines ++ drop_all k old past i) ∙ append-nil (each_line call old).lines,
      was.table ∙ ap (λ l. all_woken first (entries_of (each_line call l).items)) all,
      was.wakes ∙ ap (λ l. (each_line call l).wakes) all,
      subst (λ l. Took start (each_line call l).items end) all was.items,
    )

-- 3. Where nothing is told, nobody is woken.
none_of : (xs ys : List Item) → (xs ++ ys) ≡ [] → (xs ≡ []) × (ys ≡ [])
none_of [] ys e = (refl, e)
none_of (x ∷ xs) ys e = absurd (cc e)

none_if : (b : Bool) (chan : Chan) → wakes_if b chan ≡ [] → b ≡ false
none_if true chan e = absurd (cc e)
none_if false chan e = refl

each_nobody : (call : Terminal → Said) (l : ℕ) (lines : List Terminal) → (each_from l call lines).items ≡ [] → (each_from l call lines).wakes ≡ false
each_nobody call l [] none = refl
each_nobody call l (t ∷ ts) none =
    let s : Said = call t in
    let both = none_of (told l s) (each_from (suc l) call ts).items none in
    let bytes = none_of (sent l s.shown) (wakes_if s.keys (keys_of l) ++ wakes_if s.show (show_of l)) both.0 in
    let woken = none_of (wakes_if s.keys (keys_of l)) (wakes_if s.show (show_of l)) bytes.1 in
    let keys : s.keys ≡ false = none_if s.keys (keys_of l) woken.0 in
    let show : s.show ≡ false = none_if s.show (show_of l) woken.1 in
    let rest : (each_from (suc l) call ts).wakes ≡ false = each_nobody call (suc l) ts both.1 in
    λ i. keys i || (show i || rest i)

pub nobody_told : (call : Terminal → Said) (lines : List Terminal) → (each_line call lines).items ≡ [] → (each_line call lines).wakes ≡ false
nobody_told call lines none = each_nobody call 0 lines none
