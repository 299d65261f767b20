-- A process leaves its text and gives its image back, and executes a program: what the world is then, and what that comes to.
use Rattle.std.proofs.Common.{◌≡◌, ◌≢◌, ◌∙◌, ◌+◌, ◌-◌, ◌<◌, ◌≤◌, ◌==◌, ℕ, Bool, true, false, cond, if◌then◌else◌, [], ◌∷◌, List, length, get_or, set, count_by, slice_index, Option, Some, None, Result, refl, sym, ap, subst, inl, inr, arith}
use Rattle.std.specs.Option.{unwrap_or}
use Rattle.std.proofs.Math.ListN.{get_or-map}
use Rattle.std.proofs.lemmas.Bool.{cases_eq, cases_lt, eq-eqb, eqb-true}
use Rattle.std.proofs.lemmas.List.{get_or-set_same, get_or-set_other, get_or_past, length-set}
use Rattle.std.proofs.lemmas.List.Sums.{get_or-le-sum_by}
use Rattle.v6_base.specs.Trace.{Log, Taken, Took}
use Rattle.v6_base.specs.declared.entry.Entry.TheVariants.{Bare}
use Rattle.v6_base.specs.declared.answer.Answer.{Answer}
use Rattle.v6_base.specs.declared.entry.PanicKind.{PanicKind}
use Rattle.fs_codec.specs.Store.{Node}
use Rattle.fs_nodes.specs.Keys.{Stores, without_reference}
use Rattle.fs_nodes.proofs.OtherLemmas.{gone_other}
use Rattle.fs_nodes.specs.FileSystem.{FileSystem}
use Rattle.fs_tree.specs.Finding.{Inodes, put_in, put_back}
use Rattle.image_keep.specs.Kept.{text_of}
use Rattle.image_keep.specs.SharedTexts.{AreShared}
use Rattle.pick_rules.specs.Board.{Board}
use Rattle.pick_rules.specs.Effects.{came}
use Rattle.pick_rules.specs.Logged.{Logged, logged, log_one}
use Rattle.sys_procs.specs.declared.procs.Procs.{Procs}
use Rattle.sys_procs.specs.declared.program.Program.{Program}
use Rattle.sys_procs.specs.Process.{Process}
use Rattle.sys_procs.specs.TextTable as table
use Rattle.sys_procs.specs.TextTable.{Text, no_text, is_text_of}
use Rattle.sys_procs.specs.Texts.{goes, is_sticky, remaining, without_text, leaves_text, xfree}
use Rattle.sys_procs.specs.World.{World, process_of, change, with_inodes, text_in}
use Rattle.sys_procs.specs.Tests.{no_node, node_in}
use Rattle.sys_procs.specs.Comes.{Comes, logs}
use Rattle.sys_procs.specs.inside.Begun.{nothing, bare_board, leaves, area_in}
use Rattle.sys_procs.specs.ExecFile.{bared, begins_anew, loads}
use Rattle.sys_procs.specs.inside.Tested.{AreSized}
use Rattle.sys_procs.specs.Handed.{IsAlive, board, handed}
use Rattle.sys_procs.specs.Done.{HasDone, HasLeft}
use Rattle.sys_procs.proofs.Alive.{put_here, is_here}
use Rattle.sys_procs.proofs.Dones.{done_as}
use Rattle.sys_procs.proofs.Tables.{logged_line}
use Rattle.sys_procs.proofs.Following.{both, done_after}

-- One reference fewer.
fewer_at : (l : List ℕ) (i j : ℕ) → slice_index (set l i (slice_index l i - 1)) j ≤ slice_index l j
fewer_at l i j = elim (cases_eq j i) [
  | inl here ↦ elim (cases_lt i (length l)) [
    | inl low ↦
        (let is = get_or-set_same l i (slice_index l i - 1) 0 low in
        subst (λ n. slice_index (set l i (slice_index l i - 1)) n ≤ slice_index l n) (sym here) (omega (arith, is)))
    | inr past ↦
        (let long = length-set l i (slice_index l i - 1) in
        let is = get_or_past (set l i (slice_index l i - 1)) i 0 (omega (arith, long, past)) in
        subst (λ n. slice_index (set l i (slice_index l i - 1)) n ≤ slice_index l n) (sym here) (omega (arith, is)))
  ]
  | inr other ↦ (let is = get_or-set_other l i j (slice_index l i - 1) 0 other in omega (arith, is))
]

some_at : (l : List ℕ) (i j : ℕ) → 0 < slice_index l j → (i ≡ j → 2 ≤ slice_index l j)
    → 0 < slice_index (set l i (slice_index l i - 1)) j
some_at l i j some two = elim (cases_eq j i) [
  | inl here ↦ elim (cases_lt i (length l)) [
    | inl low ↦
        (let is : slice_index (set l i (slice_index l i - 1)) j ≡ slice_index l i - 1 =
        ap (λ n. slice_index (set l i (slice_index l i - 1)) n) here ∙ get_or-set_same l i (slice_index l i - 1) 0 low in
        let same : slice_index l j ≡ slice_index l i = ap (λ n. slice_index l n) here in
        let more = two (sym here) in
        omega (arith, is, same, more))
    | inr past ↦ absurd (let none : slice_index l j ≡ 0 = ap (λ n. slice_index l n) here
        ∙ get_or_past l i 0 past in omega (arith, none, some))
  ]
  | inr other ↦ (let is = get_or-set_other l i j (slice_index l i - 1) 0 other in omega (arith, is, some))
]

-- An inode that is still referred to stays as it is.
node_kept : (store : Stores) (i count j : ℕ) (o : Option Node) → (i ≡ j → count ≢ 1) → node_in (put_in store i count o) j
    ≡ node_in store j
node_kept store i count j None last = refl
node_kept store i count j (Some node) last = by (count == 1) refl
  where
    by : (b : Bool) → (count == 1) ≡ b → node_in (if b then without_reference store i node else store) j ≡ node_in store j
    by true e = ap (λ o. unwrap_or o no_node) (gone_other store i j node (λ same. last (sym same) (eqb-true count 1 e)))
    by false e = refl

-- The texts that stay have the clicks that they had.
remaining_by : (o : Option Text) (sticky : Bool) (text : Text) → remaining sticky o ≡ Some text
    → (old : Text) × (o ≡ Some old) × (text.ino ≡ old.ino) × (text.bytes ≡ old.bytes)
remaining_by None sticky text e = absurd (cc e)
remaining_by (Some old) sticky text e = by (goes old sticky) e
  where
    by : (b : Bool) → (if b then None else Some (record old { users = old.users - 1 })) ≡ Some text
        → (x : Text) × (Some old ≡ Some x) × (text.ino ≡ x.ino) × (text.bytes ≡ x.bytes)
    by true f = absurd (cc f)
    by false f =
        let same : ◌≡◌ {A = Text} (record old { users = old.users - 1 }) text = cc f in
        (old, refl, sym (ap (λ (y : Text). y.ino) same), sym (ap (λ (y : Text). y.bytes) same))

sized_still : (texts : List (Option Text)) (k : ℕ) (sticky : Bool) (ino size : ℕ) → AreSized texts ino size
    → AreSized (set texts k (remaining sticky (get_or texts k None))) ino size
sized_still texts k sticky ino size sized = λ j text at named.
    elim (cases_eq j k) [
      | inl here ↦ elim (cases_lt k (length texts)) [
        | inl low ↦
            (let now : remaining sticky (get_or texts k None) ≡ Some text =
            sym (get_or-set_same texts k (remaining sticky (get_or texts k None)) None low)
            ∙ (ap (λ n. get_or (set texts k (remaining sticky (get_or texts k None))) n None) (sym here) ∙ at) in
            let old = remaining_by (get_or texts k None) sticky text now in
            ap length old.3 ∙ sized k old.0 old.1 (sym old.2 ∙ named))
        | inr past ↦
            absurd (let long = length-set texts k (remaining sticky (get_or texts k None)) in
            let none : get_or (set texts k (remaining sticky (get_or texts k None))) j None ≡ None =
            ap (λ n. get_or (set texts k (remaining sticky (get_or texts k None))) n None) here
            ∙ get_or_past (set texts k (remaining sticky (get_or texts k None))) k None (omega (arith, long, past)) in
            no_text_at _ text none at)
      ]
      | inr other ↦ sized j text (sym (get_or-set_other texts k j (remaining sticky (get_or texts k None)) None other) ∙ at) named
    ]
  where
    no_text_at : (o : Option Text) (text : Text) → o ≡ None → o ≡ Some text → ⊥
    no_text_at o text e f = cc (sym e ∙ f)

-- What is so of a world that a process leaves, whose file this one is.
pub record IsAfter (w l : World) (s ino size : ℕ) : Type 0 where
  pub long : length l.processes ≡ length w.processes
  pub row : (process_of l s).row ≡ (process_of w s).row
  pub uid : (process_of l s).u.uid ≡ (process_of w s).u.uid
  pub area : (node : Node) (program : Program) → area_in node (process_of w s).u program ≡ area_in node (process_of l s).u program
  pub limit : l.limit ≡ w.limit
  pub referenced : 0 < slice_index l.inodes.references ino
  pub fewer : (j : ℕ) → slice_index l.inodes.references j ≤ slice_index w.inodes.references j
  pub node : node_in l.inodes.store ino ≡ node_in w.inodes.store ino
  pub sized : AreSized w.texts ino size → AreSized l.texts ino size

module _ (w : World) (s ino size : ℕ) (low : s < length w.processes)
    (referred : (j : ℕ) → count_by (is_text_of j) w.texts + (if j == ino then 1 else 0) ≤ slice_index w.inodes.references j) where
  own : 1 + count_by (is_text_of ino) w.texts ≤ slice_index w.inodes.references ino
  own =
      let most = referred ino in
      let one : ◌≡◌ {A = ℕ} (if ino == ino then 1 else 0) 1 = ap (λ (b : Bool). if b then 1 else 0) (eq-eqb ino ino refl) in
      omega (arith, most, one)

  some_own : 0 < slice_index w.inodes.references ino
  some_own = let more = own in omega (arith, more)

  module _ (k : ℕ) (text : Text) (there : get_or w.texts k None ≡ Some text) where
    within : k < length w.texts
    within = elim (cases_lt k (length w.texts)) [
      | inl below ↦ below
      | inr past ↦ absurd (let none = get_or_past w.texts k None past in cc (sym none ∙ there))
    ]

    text_is : table.text_of w.texts k ≡ text
    text_is = ap (λ o. unwrap_or o no_text) there

    -- its own text refers to the file too
    two : (table.text_of w.texts k).ino ≡ ino → 2 ≤ slice_index w.inodes.references ino
    two same =
        let mine : is_text_of ino (get_or w.texts k None) ≡ true =
        ap (is_text_of ino) there ∙ eq-eqb text.ino ino (sym (ap (λ (y : Text). y.ino) text_is) ∙ same) in
        let least = get_or-le-sum_by (λ o. cond (is_text_of ino o) 1 0) w.texts k None within in
        let one : ◌≡◌ {A = ℕ} (cond (is_text_of ino (get_or w.texts k None)) 1 0) 1 = ap (λ b. cond b 1 0) mine in
        let most = own in
        omega (arith, least, one, most)

    module _ (sticky : Bool) where
      abbrev left : World
      left = change (record w { texts = set w.texts k (remaining sticky (get_or w.texts k None)) }) s without_text

      now : process_of left s ≡ without_text (process_of w s)
      now = put_here w.processes s (without_text (process_of w s)) low

      left_with : (n : Inodes) → 0 < slice_index n.references ino
          → ((j : ℕ) → slice_index n.references j ≤ slice_index w.inodes.references j)
          → node_in n.store ino ≡ node_in w.inodes.store ino → IsAfter w (with_inodes left n) s ino size
      left_with n some fewer node = record {
        long = length-set w.processes s (Some (without_text (process_of w s)));
        row = ap (λ (q : Process). q.row) now;
        uid = ap (λ (q : Process). q.u.uid) now;
        area = λ node program. ap (λ (q : Process). area_in node q.u program) (sym now);
        limit = refl;
        referenced = some;
        fewer = fewer;
        node = node;
        sized = sized_still w.texts k sticky ino size;
      }

      left_by_going : (b : Bool)
          → IsAfter w (if b then with_inodes left (put_back w.inodes (table.text_of w.texts k).ino) else left) s ino size
      left_by_going true =
          let i : ℕ = (table.text_of w.texts k).ino in
          left_with (put_back w.inodes i) (some_at w.inodes.references i ino some_own two) (fewer_at w.inodes.references i)
          (node_kept w.inodes.store i (slice_index w.inodes.references i) ino _
          (λ same last. let more = two same in
          let count : slice_index w.inodes.references ino ≡ 1 = ap (λ n. slice_index w.inodes.references n) (sym same) ∙ last in
          omega (arith, more, count)))
      left_by_going false = left_with w.inodes some_own (λ j. omega arith) refl

      is_after_text : IsAfter w (leaves_text w s k sticky) s ino size
      is_after_text = left_by_going (goes (table.text_of w.texts k) sticky)

  after_by : (o : Option ℕ) → ((k : ℕ) → o ≡ Some k → (text : Text) × (get_or w.texts k None ≡ Some text))
      → IsAfter w (xfree w s o nothing).state s ino size
  after_by None there = record {
    long = refl;
    row = refl;
    uid = refl;
    area = λ node program. refl;
    limit = refl;
    referenced = some_own;
    fewer = λ j. omega arith;
    node = refl;
    sized = λ sized. sized;
  }
  after_by (Some k) there = let it = there k refl in is_after_text k it.0 it.1 (is_sticky w k)

  pub is_after : ((k : ℕ) → (process_of w s).text ≡ Some k → (text : Text) × (get_or w.texts k None ≡ Some text))
      → IsAfter w (leaves w s).state s ino size
  is_after there = after_by (process_of w s).text there

-- The text of a process is there.
pub text_there : (p : Procs) (fs : FileSystem) (s : ℕ) → IsAlive p s → AreShared p.images.kept → (k : ℕ)
    → (process_of (handed p fs) s).text ≡ Some k → (text : Text) × (get_or (handed p fs).texts k None ≡ Some text)
text_there p fs s alive are k has =
    let here : text_of p.images.kept s ≡ Some k = sym (ap (λ (q : Process). q.text) (is_here p s alive).process_is) ∙ has in
    let it = are.used s k here in (
      record { ino = it.text.row.ino; bytes = it.text.bytes; users = it.text.row.users },
      get_or-map text_in p.images.kept.texts k None ∙ ap text_in it.there,
    )

-- The log goes on.
free_by : (b : Board) (w : World) (s : ℕ) (o : Option ℕ) → (logged b (xfree w s o nothing).effects).stop ≡ None
unfolding log_one came
free_by b w s None = refl
free_by b w s (Some k) = refl

pub leaves_free : (b : Board) (w : World) (s : ℕ) → (logged b (leaves w s).effects).stop ≡ None
leaves_free b w s = free_by b w s (process_of w s).text

module _ (w : World) (s : ℕ) (program : Program) where
  abbrev pub gone : World
  gone = change (leaves w s).state s bared

  abbrev shows : Comes
  shows = logs (Bare s) (nothing gone)

  abbrev pub anew : Comes
  anew = begins_anew gone s (process_of (leaves w s).state s).u program

  abbrev loads_or : Option ℕ → Comes
  loads_or o = xfree w s o (λ left. logs (Bare s) (begins_anew (change left s bared) s (process_of left s).u program))

  abbrev left_or : Option ℕ → World
  left_or o = (xfree w s o nothing).state

  loads_by : (o : Option ℕ) → loads_or o ≡ both (xfree w s o nothing)
      (both (logs (Bare s) (nothing (change (left_or o) s bared)))
      (begins_anew (change (left_or o) s bared) s (process_of (left_or o) s).u program))
  loads_by None = refl
  loads_by (Some k) = refl

  pub loads_is : loads w s program ≡ both (leaves w s) (both shows anew)
  loads_is = loads_by (process_of w s).text

  -- A process has left its text and given its image back, and executes the program then.
  pub loads_done : {p q r z : Procs} {gs hs : FileSystem} {result : Result Answer PanicKind} {start middle later end : Taken}
      → HasLeft p q gs start middle (leaves w s) → board r ≡ bare_board (board q) s
      → Took middle (Log (Bare s) ∷ []) later → HasDone r z hs result later end anew
      → HasDone p z hs result start end (loads w s program)
  loads_done {p} {q} {r} {z} {gs} {hs} {result} {start} {middle} {later} {end} left shown items done =
      let bare = logged_line (board q) (Bare s) in
      done_as (sym loads_is)
      (done_after {mid = q} (leaves w s) (leaves_free (board p) w s) left.shown left.items
      (done_after {mid = r} shows (ap (λ (l : Logged World). l.stop) bare) (shown ∙ sym (ap (λ (l : Logged World). l.board) bare))
      (subst (λ (l : Logged World). Took middle l.items later) (sym bare) items) done))
