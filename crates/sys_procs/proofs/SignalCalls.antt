-- kill and signal by the tests that they make.
use Rattle.std.proofs.Common.{◌≡◌, ◌≢◌, ◌∙◌, ℕ, zero, suc, ◌+◌, ◌<◌, ◌≤◌, Bool, true, false, ◌&&◌, ◌==◌, not, cond, nat_le, nat_lt, List, [], ◌∷◌, ◌++◌, length, map, filter, fold, get_or, set, Option, Some, None, refl, sym, ap, inl, inr, arith}
use Rattle.std.specs.List.{range_with_len}
use Rattle.std.specs.Option.{unwrap_or}
use Rattle.std.proofs.lemmas.Bool.{cases_eq, leb-true, leb-false, le-leb, lt-leb, eq-eqb, ne_eqb}
use Rattle.std.proofs.lemmas.List.{append-nil, set-get_or}
use Rattle.std.proofs.lemmas.List.FromFn.{get_or-map-range_with_len, length-map-range_with_len}
use Rattle.v6_base.specs.Trace.{Item}
use Rattle.v6_base.specs.declared.answer.Answer.TheVariants.{Ret}
use Rattle.v6_base.specs.declared.errno.Errno.TheVariants.{ESRCH, EINVAL}
use Rattle.u_area.specs.declared.area.UArea.{UArea}
use Rattle.proc_tab.specs.declared.row.Row.{Row}
use Rattle.pick_rules.specs.Board.{Board}
use Rattle.pick_rules.specs.Effects.{Show}
use Rattle.pick_rules.specs.Logged.{logged, board_after}
use Rattle.sig_core.specs.declared.numbers.TheConstants.{SIGKIL}
use Rattle.sig_core.specs.Signals.{is_signal, handler_of}
use Rattle.fs_nodes.specs.FileSystem.{FileSystem}
use Rattle.sys_procs.specs.declared.procs.Procs.{Procs}
use Rattle.sys_procs.specs.Process.{Process, no_process}
use Rattle.sys_procs.specs.World.{World, process_of, with_process, change}
use Rattle.sys_procs.specs.Comes.{Comes, gives, returns, fails, shows}
use Rattle.sys_procs.specs.Signals.{signalled, signal_lines, is_meant, meant_in, signalled_if, all_signalled, is_reached, kill_to, asking, signal_set}
use Rattle.sys_procs.specs.Handed.{IsAlive, handed, process_here}
use Rattle.sys_procs.proofs.Slots.{fifty_processes}
use Rattle.sys_procs.proofs.Alive.{is_here, put_here}
use Rattle.sys_procs.proofs.Signalled.{there}
use Rattle.sys_procs.proofs.SentAll.{logged_shown, one_sent, they_are}

-- Whether there are some.
abbrev pub reached : World → ℕ → List ℕ
reached w s = meant_in (is_reached s (process_of w s)) w.processes

abbrev reaches_some : World → ℕ → ℕ → Comes
reaches_some w s n =
    shows (signal_lines n (reached w s))
    (returns (record w { processes = all_signalled (is_reached s (process_of w s)) n w.processes }) s)

pub kill_none : (w : World) (s n : ℕ) → nat_lt 0 (length (reached w s)) ≡ false → fails w ESRCH ≡ kill_to w s n
unfolding kill_to
kill_none w s n none =
    let l : ℕ = length (reached w s) in
    let e : l ≡ 0 = omega (arith, leb-false 1 l none) in
    sym (ap (λ b. cond b (fails w ESRCH) (reaches_some w s n)) (eq-eqb l 0 e))

pub kill_some : (w : World) (s n : ℕ) → nat_lt 0 (length (reached w s)) ≡ true → kill_to w s n ≡ reaches_some w s n
unfolding kill_to
kill_some w s n some =
    let l : ℕ = length (reached w s) in
    ap (λ b. cond b (fails w ESRCH) (reaches_some w s n)) (ne_eqb l 0 (λ e. omega (arith, e, leb-true 1 l some)))

-- what it shows
pub kill_shown : (b : Board) (xs : List Item)
    → logged {W = World} b (map Show xs ++ []) ≡ record { items = xs; board = fold board_after b xs; stop = None }
kill_shown b xs = ap (λ es. logged {W = World} b es) (append-nil (map Show xs)) ∙ logged_shown b xs

-- where nobody is meant, all stay
none_passes : (test : ℕ → Bool) (a n : ℕ) → length (filter test (range_with_len a n)) ≡ 0 → (s : ℕ) → a ≤ s → s < a + n
    → test s ≡ false
none_passes test a zero none s above below = absurd (omega (arith, above, below))
none_passes test a (suc n) none s above below = by (test a) refl
    (λ empty next. none_passes test (a + 1) n empty s next (omega (arith, below)))
  where
    rest : List ℕ
    rest = filter test (range_with_len (a + 1) n)

    by : (b : Bool) → test a ≡ b → (length rest ≡ 0 → a + 1 ≤ s → test s ≡ false) → test s ≡ false
    by true e more = absurd (let l : length (cond true (a ∷ rest) rest) ≡ 0 = ap (λ c. length (cond c (a ∷ rest) rest)) (sym e)
        ∙ none in omega (arith, l))
    by false e more = elim (cases_eq s a) [
      | inl here ↦ ap test here ∙ e
      | inr other ↦ more (ap (λ c. length (cond c (a ∷ rest) rest)) (sym e) ∙ none) (omega (arith, above, other))
    ]

pub none_meant : (who : ℕ → Process → Bool) (n : ℕ) (ps : List (Option Process)) → length ps ≡ 50 → get_or ps 0 None ≡ None
    → nat_lt 0 (length (meant_in who ps)) ≡ false → all_signalled who n ps ≡ ps
none_meant who n ps fifty kernel none =
    they_are who n (all_signalled who n ps) ps
    (length-map-range_with_len (λ s. signalled_if who n s (get_or ps s None)) 0 50) fifty each
  where
    l : ℕ
    l = length (meant_in who ps)

    empty : l ≡ 0
    empty = omega (arith, leb-false 1 l none)

    not_meant : (s : ℕ) → s < 50 → is_meant who s (get_or ps s None) ≡ false
    not_meant s low = elim (cases_eq s 0) [
      | inl first ↦ ap (is_meant who s) (ap (λ r. get_or ps r None) first ∙ kernel)
      | inr other ↦ none_passes (λ r. is_meant who r (get_or ps r None)) 1 49 empty s (omega (arith, other)) (omega (arith, low))
    ]

    each : (s : ℕ) → s < 50 → get_or (all_signalled who n ps) s None ≡ get_or ps s None
    each s low =
        get_or-map-range_with_len (λ s. signalled_if who n s (get_or ps s None)) 0 50 s s None low (omega arith)
        ∙ sym (one_sent who n s (get_or ps s None) false (sym (not_meant s low)))

-- who calls has the registers that it had
area_stays : (who : ℕ → Process → Bool) (n s : ℕ) (o : Option Process)
    → (unwrap_or (signalled_if who n s o) no_process).u ≡ (unwrap_or o no_process).u
area_stays who n s None = refl
area_stays who n s (Some p) = by (who s p)
  where
    by : (b : Bool) → (cond b (signalled n p) p).u ≡ p.u
    by true = refl
    by false = refl

pub kill_answer : (w : World) (s n : ℕ) (who : ℕ → Process → Bool) (u : UArea) → s < 50 → u ≡ (process_of w s).u
    → Ret (get_or u.r 0 0) (get_or u.r 1 0) ≡ (returns (record w { processes = all_signalled who n w.processes }) s).answer
kill_answer w s n who u low is =
    let now : World = record w { processes = all_signalled who n w.processes } in
    let at : get_or now.processes s None ≡ signalled_if who n s (get_or w.processes s None) =
    get_or-map-range_with_len (λ s. signalled_if who n s (get_or w.processes s None)) 0 50 s s None low (omega arith) in
    let same : u ≡ (process_of now s).u =
    is ∙ sym (ap (λ (o : Option Process). (unwrap_or o no_process).u) at ∙ area_stays who n s (get_or w.processes s None)) in
    ap (λ (v : UArea). Ret (get_or v.r 0 0) (get_or v.r 1 0)) same

-- signal
pub set_refused : (w : World) (s n handler : ℕ) → (is_signal n && not (n == SIGKIL)) ≡ false
    → fails w EINVAL ≡ signal_set w s n handler
unfolding signal_set
set_refused w s n handler refused =
    sym (ap (λ c. cond c (gives (change w s (asking n handler)) s (handler_of (process_of w s).u n)) (fails w EINVAL)) refused)

pub set_asked : (w : World) (s n handler : ℕ) → (is_signal n && not (n == SIGKIL)) ≡ true
    → gives (change w s (asking n handler)) s (handler_of (process_of w s).u n) ≡ signal_set w s n handler
unfolding signal_set
set_asked w s n handler asked =
    sym (ap (λ c. cond c (gives (change w s (asking n handler)) s (handler_of (process_of w s).u n)) (fails w EINVAL)) asked)

-- nobody is sent any line
pub no_lines_shown : (n : ℕ) (xs : List ℕ) → nat_lt 0 (length xs) ≡ false → signal_lines n xs ≡ []
no_lines_shown n [] none = by (is_signal n)
  where
    by : (b : Bool) → cond {A = List Item} b [] [] ≡ []
    by true = refl
    by false = refl
no_lines_shown n (x ∷ xs) none = absurd
    (let some : nat_lt 0 (suc (length xs)) ≡ true = le-leb 1 (suc (length xs)) (omega arith) in cc (some, none))

-- which numbers may be asked for
abbrev pub may_ask : ℕ → Bool
may_ask n = is_signal n && not (n == SIGKIL)

pub asks_none : (n : ℕ) → n ≡ 0 → may_ask n ≡ false
asks_none n e = ap may_ask e

pub asks_kill : (n : ℕ) → n ≡ 9 → may_ask n ≡ false
asks_kill n e = ap may_ask e

pub asks_high : (n : ℕ) → 20 ≤ n → may_ask n ≡ false
asks_high n high = ap (λ b. (nat_le 1 n && b) && not (n == SIGKIL)) (lt-leb (suc n) 20 (omega (arith, high))) ∙ by (nat_le 1 n)
  where
    by : (a : Bool) → ((a && false) && not (n == SIGKIL)) ≡ false
    by true = refl
    by false = refl

pub asks_one : (n : ℕ) → n ≢ 0 → n < 20 → n ≢ 9 → may_ask n ≡ true
asks_one n some low other =
    ap (λ a. (a && nat_lt n 20) && not (n == SIGKIL)) (le-leb 1 n (omega (arith, some)))
    ∙ (ap (λ b. b && not (n == SIGKIL)) (le-leb (suc n) 20 (omega (arith, low))) ∙ ap (λ c. not c) (ne_eqb n 9 other))

-- a signal that waits is forgotten, or not
pub forgets : (row own : Row) (n : ℕ) → row ≡ own → row.sig ≡ n
    → record row { sig = 0 } ≡ cond (own.sig == n) (record own { sig = 0 }) own
forgets row own n is e =
    ap (λ (r : Row). record r { sig = 0 }) is
    ∙ sym (ap (λ b. cond b (record own { sig = 0 }) own) (eq-eqb own.sig n (ap (λ (r : Row). r.sig) (sym is) ∙ e)))

pub forgets_none : (row own : Row) (n : ℕ) → row ≡ own → row.sig ≢ n → own ≡ cond (own.sig == n) (record own { sig = 0 }) own
forgets_none row own n is other =
    sym (ap (λ b. cond b (record own { sig = 0 }) own) (ne_eqb own.sig n (λ e. other (ap (λ (r : Row). r.sig) is ∙ e))))

-- a process that lives is where it is
pub stays_there : (p : Procs) (fs : FileSystem) (s : ℕ) → IsAlive p s
    → handed p fs ≡ with_process (handed p fs) s (process_here p s)
stays_there p fs s alive =
    let it = is_here p s alive in
    let w : World = handed p fs in
    ap (λ (ps : List (Option Process)). record w { processes = ps })
    (sym (set-get_or w.processes s None)
    ∙ ap (set w.processes s) (there p.rows.slots p.images.kept s it.member alive.below it.member_is))

pub set_answer : (p : Procs) (fs : FileSystem) (s n handler at : ℕ) (u : UArea) → IsAlive p s
    → u ≡ (process_of (handed p fs) s).u → at ≡ n
    → Ret (get_or u.handlers at 0) (get_or u.r 1 0) ≡
    (gives (change (handed p fs) s (asking n handler)) s (handler_of (process_of (handed p fs) s).u n)).answer
set_answer p fs s n handler at u alive is same =
    let w : World = handed p fs in
    let low : s < length w.processes = let below = alive.below in omega (arith, below, fifty_processes p.rows.slots p.images.kept) in
    let r : u.r ≡ (process_of (change w s (asking n handler)) s).u.r =
    ap (λ (v : UArea). v.r) is
    ∙ sym (ap (λ (q : Process). q.u.r) (put_here w.processes s (asking n handler (process_of w s)) low)) in
    ap (λ (v : UArea). Ret (get_or v.handlers at 0) (get_or u.r 1 0)) is
    ∙ (ap (λ k. Ret (get_or (process_of w s).u.handlers k 0) (get_or u.r 1 0)) same
    ∙ ap (λ (l : List ℕ). Ret (get_or (process_of w s).u.handlers n 0) (get_or l 1 0)) r)
