-- A signal that is sent to all that are meant, slot by slot.
use Rattle.std.proofs.Common.{◌≡◌, ◌≢◌, ◌∙◌, ℕ, zero, suc, ◌+◌, ◌-◌, ◌<◌, ◌≤◌, Bool, true, false, ◌||◌, cond, nat_lt, List, [], ◌∷◌, ◌++◌, length, map, filter, fold, get_or, set, Option, Some, None, refl, sym, ap, inl, inr, arith}
use Rattle.std.specs.List.{range_with_len}
use Rattle.std.specs.Option.{unwrap_or}
use Rattle.std.proofs.Common.{append_assoc}
use Rattle.std.proofs.lemmas.Bool.{cases_eq, cases_lt, le-leb, lt-leb}
use Rattle.std.proofs.lemmas.List.{append-nil, same_lists, length-set, set-get_or, get_or-set_same, get_or-set_other, get_or_default}
use Rattle.std.proofs.lemmas.List.Elements.{filter-append}
use Rattle.std.proofs.lemmas.List.FromFn.{get_or-map-range_with_len, length-map-range_with_len}
use Rattle.v6_base.specs.Trace.{Item, Log, Taken, Took}
use Rattle.v6_base.specs.declared.entry.Entry.TheVariants as line
use Rattle.v6_base.proofs.Took.{took_then, took_nothing}
use Rattle.pick_rules.specs.Board.{Board}
use Rattle.pick_rules.specs.Effects.{Show, came}
use Rattle.pick_rules.specs.Logged.{Logged, logged, log_one, board_after}
use Rattle.sig_core.specs.Signals.{is_signal}
use Rattle.fs_nodes.specs.FileSystem.{FileSystem}
use Rattle.sys_procs.specs.declared.procs.Procs.{Procs}
use Rattle.sys_procs.specs.Process.{Process, no_process}
use Rattle.sys_procs.specs.World.{World, process_at, change}
use Rattle.sys_procs.specs.Signals.{signalled, signal_lines, is_meant, signalled_if, all_signalled}
use Rattle.sys_procs.specs.inside.Sender.{lines_where}
use Rattle.sys_procs.specs.Handed.{board, handed}

-- Lines that name no place never stop.
all_shown : (items : List Item) (b : Board) (xs : List Item)
    → fold (log_one {W = World}) (record { items = items; board = b; stop = None })
    (map Show xs) ≡ record { items = items ++ xs; board = fold board_after b xs; stop = None }
unfolding log_one came
all_shown items b [] = ap (λ l. record { items = l; board = b; stop = None }) (sym (append-nil items))
all_shown items b (x ∷ xs) =
    all_shown (items ++ x ∷ []) (board_after b x) xs
    ∙ ap (λ l. record { items = l; board = fold board_after (board_after b x) xs; stop = None }) (append_assoc items (x ∷ []) xs)

pub logged_shown : (b : Board) (xs : List Item)
    → logged {W = World} b (map Show xs) ≡ record { items = xs; board = fold board_after b xs; stop = None }
logged_shown b xs = all_shown [] b xs

fold_more : (b : Board) (xs ys : List Item) → fold board_after b (xs ++ ys) ≡ fold board_after (fold board_after b xs) ys
fold_more b [] ys = refl
fold_more b (x ∷ xs) ys = fold_more (board_after b x) xs ys

abbrev board_by : Board → List Item → Board
board_by b xs = (logged {W = World} b (map Show xs)).board

board_more : (b : Board) (xs ys : List Item) → board_by (board_by b xs) ys ≡ board_by b (xs ++ ys)
board_more b xs ys =
    let of : Logged World → Board = λ l. l.board in
    ap of (logged_shown (board_by b xs) ys)
    ∙ (ap (λ c. fold board_after c ys) (ap of (logged_shown b xs))
    ∙ (sym (fold_more b xs ys) ∙ sym (ap of (logged_shown b (xs ++ ys)))))

-- One number more.
range_more : (a n : ℕ) → range_with_len a (suc n) ≡ range_with_len a n ++ (a + n) ∷ []
range_more a zero = let e : a ≡ a + 0 = omega arith in ap (λ x. x ∷ []) e
range_more a (suc n) =
    let e : a + 1 + n ≡ a + suc n = omega arith in
    ap (λ l. a ∷ l) (range_more (a + 1) n ∙ ap (λ x. range_with_len (a + 1) n ++ x ∷ []) e)

module _ (who : ℕ → Process → Bool) (n : ℕ) where
  -- the processes when those below a slot have it, and these slots
  abbrev below_at : ℕ → List (Option Process) → ℕ → Option Process
  below_at k ps s = cond (nat_lt s k) (signalled_if who n s (get_or ps s None)) (get_or ps s None)

  abbrev pub sent_below : ℕ → List (Option Process) → List (Option Process)
  sent_below k ps = map (λ s. below_at k ps s) (range_with_len 0 50)

  abbrev pub meant_below : ℕ → List (Option Process) → List ℕ
  meant_below k ps = filter (λ s. is_meant who s (get_or ps s None)) (range_with_len 1 (k - 1))

  below_is : (k : ℕ) (ps : List (Option Process)) (s : ℕ) → s < 50 → get_or (sent_below k ps) s None ≡ below_at k ps s
  below_is k ps s low = get_or-map-range_with_len (λ s. below_at k ps s) 0 50 s s None low (omega arith)

  long : (k : ℕ) (ps : List (Option Process)) → length (sent_below k ps) ≡ 50
  long k ps = length-map-range_with_len (λ s. below_at k ps s) 0 50

  -- fifty processes are these
  pub they_are : (xs ys : List (Option Process)) → length xs ≡ 50 → length ys ≡ 50
      → ((s : ℕ) → s < 50 → get_or xs s None ≡ get_or ys s None) → xs ≡ ys
  they_are xs ys lx ly each = same_lists xs ys (lx ∙ sym ly) (λ s d l.
      let low : s < 50 = omega (arith, l, lx) in
      get_or_default xs s d None l ∙ (each s low ∙ get_or_default ys s None d (omega (arith, low, ly))))

  before : (k : ℕ) (ps : List (Option Process)) (s : ℕ) → s < k → below_at k ps s ≡ signalled_if who n s (get_or ps s None)
  before k ps s l = ap (λ b. cond b (signalled_if who n s (get_or ps s None)) (get_or ps s None))
      (le-leb (suc s) k (omega (arith, l)))

  behind : (k : ℕ) (ps : List (Option Process)) (s : ℕ) → k ≤ s → below_at k ps s ≡ get_or ps s None
  behind k ps s l = ap (λ b. cond b (signalled_if who n s (get_or ps s None)) (get_or ps s None))
      (lt-leb (suc s) k (omega (arith, l)))

  pub none_below : (ps : List (Option Process)) → length ps ≡ 50 → get_or ps 0 None ≡ None → sent_below 1 ps ≡ ps
  none_below ps fifty kernel = they_are (sent_below 1 ps) ps (long 1 ps) fifty each
    where
      each : (s : ℕ) → s < 50 → get_or (sent_below 1 ps) s None ≡ get_or ps s None
      each s low = elim (cases_lt s 1) [
        | inl first ↦
            let zero : s ≡ 0 = omega (arith, first) in
            let none : get_or ps s None ≡ None = ap (λ r. get_or ps r None) zero ∙ kernel in
            below_is 1 ps s low ∙ (before 1 ps s first ∙ (ap (signalled_if who n s) none ∙ sym none))
        | inr past ↦ below_is 1 ps s low ∙ behind 1 ps s (omega (arith, past))
      ]

  pub all_below : (ps : List (Option Process)) → sent_below 50 ps ≡ all_signalled who n ps
  all_below ps = they_are (sent_below 50 ps) (all_signalled who n ps) (long 50 ps)
      (length-map-range_with_len (λ s. signalled_if who n s (get_or ps s None)) 0 50)
      (λ s low. below_is 50 ps s low ∙ (before 50 ps s low
      ∙ sym (get_or-map-range_with_len (λ s. signalled_if who n s (get_or ps s None)) 0 50 s s None low (omega arith))))

  one_set : (k : ℕ) (ps : List (Option Process)) → k < 50
      → set (sent_below k ps) k (signalled_if who n k (get_or ps k None)) ≡ sent_below (k + 1) ps
  one_set k ps low = they_are _ _ (length-set (sent_below k ps) k new ∙ long k ps) (long (k + 1) ps) each
    where
      new : Option Process
      new = signalled_if who n k (get_or ps k None)

      each : (s : ℕ) → s < 50 → get_or (set (sent_below k ps) k new) s None ≡ get_or (sent_below (k + 1) ps) s None
      each s below = elim (cases_eq s k) [
        | inl here ↦
            ap (λ r. get_or (set (sent_below k ps) k new) r None) here
            ∙ (get_or-set_same (sent_below k ps) k new None (omega (arith, low, long k ps))
            ∙ (ap (λ r. signalled_if who n r (get_or ps r None)) (sym here)
            ∙ (sym (before (k + 1) ps s (omega (arith, here))) ∙ sym (below_is (k + 1) ps s below))))
        | inr other ↦
            get_or-set_other (sent_below k ps) k s new None other
            ∙ (below_is k ps s below ∙ (same s other ∙ sym (below_is (k + 1) ps s below)))
      ]
        where
          same : (s : ℕ) → s ≢ k → below_at k ps s ≡ below_at (k + 1) ps s
          same s other = elim (cases_lt s k) [
            | inl l ↦ before k ps s l ∙ sym (before (k + 1) ps s (omega (arith, l)))
            | inr past ↦ behind k ps s (omega (arith, past)) ∙ sym (behind (k + 1) ps s (omega (arith, past, other)))
          ]

  pub one_sent : (k : ℕ) (o : Option Process) (b : Bool) → b ≡ is_meant who k o
      → cond b (Some (signalled n (unwrap_or o no_process))) o ≡ signalled_if who n k o
  one_sent k None true e = absurd (cc e)
  one_sent k None false e = refl
  one_sent k (Some p) true e = ap (λ b. Some (cond b (signalled n p) p)) e
  one_sent k (Some p) false e = ap (λ b. Some (cond b (signalled n p) p)) e

  set_where : (l : List (Option Process)) (k : ℕ) (o : Option Process) (b : Bool)
      → cond b (set l k o) l ≡ set l k (cond b o (get_or l k None))
  set_where l k o true = refl
  set_where l k o false = sym (set-get_or l k None)

  world_where : (w : World) (k : ℕ) (b : Bool) → cond b (change w k (signalled n)) w
      ≡ record w {
        processes = cond b
            (set w.processes k (Some (signalled n (unwrap_or (get_or w.processes k None) no_process)))) w.processes;
      }
  world_where w k true = refl
  world_where w k false = refl

  still : (k : ℕ) (ps : List (Option Process)) → k < 50 → get_or (sent_below k ps) k None ≡ get_or ps k None
  still k ps low = below_is k ps k low ∙ behind k ps k (omega arith)

  next_processes : (k : ℕ) (ps : List (Option Process)) (b : Bool) → k < 50 → b ≡ is_meant who k (get_or ps k None)
      → let l : List (Option Process) = sent_below k ps in
      cond b (set l k (Some (signalled n (unwrap_or (get_or l k None) no_process)))) l ≡ sent_below (k + 1) ps
  next_processes k ps b low means =
      let l : List (Option Process) = sent_below k ps in
      set_where l k (Some (signalled n (unwrap_or (get_or l k None) no_process))) b
      ∙ (ap (λ o. set l k (cond b (Some (signalled n (unwrap_or o no_process))) o)) (still k ps low)
      ∙ (ap (set l k) (one_sent k (get_or ps k None) b means) ∙ one_set k ps low))

  pub next_meant : (k : ℕ) (ps : List (Option Process)) (b : Bool) → 1 ≤ k → b ≡ is_meant who k (get_or ps k None)
      → meant_below (k + 1) ps ≡ meant_below k ps ++ cond b (k ∷ []) []
  next_meant k ps b above means =
      let test : ℕ → Bool = λ s. is_meant who s (get_or ps s None) in
      let e : k + 1 - 1 ≡ suc (k - 1) = omega (arith, above) in
      let f : 1 + (k - 1) ≡ k = omega (arith, above) in
      ap (λ m. filter test (range_with_len 1 m)) e
      ∙ (ap (filter test) (range_more 1 (k - 1))
      ∙ (filter-append test (range_with_len 1 (k - 1)) ((1 + (k - 1)) ∷ [])
      ∙ (ap (λ x. meant_below k ps ++ filter test (x ∷ [])) f
      ∙ ap (λ c. meant_below k ps ++ cond c (k ∷ []) []) (sym means))))

  abbrev lines_of : List ℕ → List Item
  lines_of slots = map (λ s. Log (line.Signal s n)) slots

  lines_more : (xs ys : List ℕ) → lines_of (xs ++ ys) ≡ lines_of xs ++ lines_of ys
  lines_more [] ys = refl
  lines_more (x ∷ xs) ys = ap (λ l. Log (line.Signal x n) ∷ l) (lines_more xs ys)

  pub more_lines : (xs : List ℕ) (k : ℕ) (b : Bool)
      → signal_lines n (xs ++ cond b (k ∷ []) []) ≡ signal_lines n xs ++ lines_where b n k
  more_lines xs k b = by (is_signal n) b
    where
      by : (is b : Bool) → cond is (lines_of (xs ++ cond b (k ∷ []) [])) [] ≡ cond is (lines_of xs) [] ++ cond b
          (cond is (lines_of (k ∷ [])) []) []
      by true true = lines_more xs (k ∷ [])
      by true false = lines_more xs []
      by false true = refl
      by false false = refl

  no_line : signal_lines n [] ≡ []
  no_line = by (is_signal n)
    where
      by : (is : Bool) → cond is (lines_of []) [] ≡ []
      by true = refl
      by false = refl

  -- The parts when those below a slot have it.
  pub record IsSent (k : ℕ) (old new : Procs) (start end : Taken) : Type 0 where
    pub state : (fs : FileSystem) → handed new fs ≡ record (handed old fs) { processes = sent_below k (handed old fs).processes }
    pub shown : (fs : FileSystem) → board new ≡ board_by (board old) (signal_lines n (meant_below k (handed old fs).processes))
    pub items : (fs : FileSystem) → Took start (signal_lines n (meant_below k (handed old fs).processes)) end

  pub sent_first : (p : Procs) (t : Taken) → ((fs : FileSystem) → length (handed p fs).processes ≡ 50)
      → ((fs : FileSystem) → get_or (handed p fs).processes 0 None ≡ None) → IsSent 1 p p t t
  sent_first p t fifty kernel = record {
    state = λ fs. ap (λ (ps : List (Option Process)). record (handed p fs) { processes = ps })
        (sym (none_below (handed p fs).processes (fifty fs) (kernel fs)));
    shown = λ fs. ap (λ l. board_by (board p) l) (sym no_line);
    items = λ fs. took_nothing t (signal_lines n []) no_line;
  }

  module _ {k : ℕ} {old mid : Procs} {start a : Taken} {means : Bool} (sent : IsSent k old mid start a) (above : 1 ≤ k)
      (low : k < 50)
      (meant : (fs : FileSystem) → means ≡ is_meant who k (process_at (handed mid fs) k)) where
    told : (fs : FileSystem) → means ≡ is_meant who k (get_or (handed old fs).processes k None)
    told fs =
        meant fs ∙ (ap (λ (w : World). is_meant who k (process_at w k)) (sent.state fs)
        ∙ ap (is_meant who k) (still k (handed old fs).processes low))

    pub found_more : (fs : FileSystem)
        → meant_below (k + 1) (handed old fs).processes ≡ meant_below k (handed old fs).processes ++ cond means (k ∷ []) []
    found_more fs = next_meant k (handed old fs).processes means above (told fs)

    lines_are : (fs : FileSystem)
        → signal_lines n (meant_below k (handed old fs).processes) ++ lines_where means n k ≡ signal_lines n
        (meant_below (k + 1) (handed old fs).processes)
    lines_are fs =
        sym (more_lines (meant_below k (handed old fs).processes) k means) ∙ ap (signal_lines n) (sym (found_more fs))

    pub sent_next : {new : Procs} {b : Taken}
        → ((fs : FileSystem) → handed new fs ≡ cond means (change (handed mid fs) k (signalled n)) (handed mid fs))
        → board new ≡ board_by (board mid) (lines_where means n k) → Took a (lines_where means n k) b
        → IsSent (k + 1) old new start b
    sent_next {new} {b} state shown items = record {
      state = λ fs.
          let w : World = handed old fs in
          state fs
          ∙ (ap (λ (v : World). cond means (change v k (signalled n)) v) (sent.state fs)
          ∙ (world_where (record w { processes = sent_below k w.processes }) k means
          ∙ ap (λ (ps : List (Option Process)). record w { processes = ps }) (next_processes k w.processes means low (told fs))));
      shown = λ fs.
          let xs : List Item = signal_lines n (meant_below k (handed old fs).processes) in
          shown ∙ (ap (λ c. board_by c (lines_where means n k)) (sent.shown fs)
          ∙ (board_more (board old) xs (lines_where means n k) ∙ ap (board_by (board old)) (lines_are fs)));
      items = λ fs. took_then start a b (signal_lines n (meant_below k (handed old fs).processes)) (lines_where means n k) _
          (sent.items fs) items (lines_are fs);
    }

-- whether there are some
pub found_next : (xs : List ℕ) (k : ℕ) (b : Bool) → nat_lt 0 (length (xs ++ cond b (k ∷ []) [])) ≡ (nat_lt 0 (length xs) || b)
found_next [] k true = refl
found_next [] k false = refl
found_next (x ∷ xs) k b =
    let some : (l : ℕ) → nat_lt 0 (suc l) ≡ true = λ l. le-leb 1 (suc l) (omega arith) in
    some (length (xs ++ cond b (k ∷ []) [])) ∙ sym (ap (λ t. t || b) (some (length xs)))
