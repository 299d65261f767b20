-- The searches: each slot that is passed by leaves what was found.
use Rattle.std.proofs.Common.{◌≡◌, ◌∙◌, ◌≤◌, ◌+◌, ◌-◌, ◌==◌, ◌&&◌, ◌||◌, ℕ, zero, suc, Bool, true, false, cond, not, ◌∷◌, List, Option, Some, None, find, filter, refl, sym, ap, arith}
use Rattle.std.proofs.lemmas.Bool.{ne_eqb}
use Rattle.std.specs.List.{range_with_len}
use Rattle.pick_rules.specs.declared.table.Table.{Table}
use Rattle.pick_rules.specs.Search.{least}
use Rattle.pick_rules.specs.Table.{row_at, is_ready, is_waiting, is_sleeping, is_in_core, is_loaded}
use Rattle.pick_rules.specs.Swapper.{candidate, loaded_waiter, loaded_runner}
use Rattle.swap_sched.specs.inside.Searches.{waits, goes_before, older, asks_at, oldest_of}

-- of the slots from a number on
abbrev pub scanned : Bool → Table → ℕ → ℕ → Option ℕ
scanned loaded t first n = least (goes_before t) (filter (asks_at loaded t) (range_with_len first n))

pub scan_next : (loaded : Bool) (t : Table) (first n : ℕ)
    → scanned loaded t first (suc n) ≡ cond (asks_at loaded t first) (older t first (scanned loaded t (first + 1) n)) (scanned loaded t (first + 1) n)
unfolding least
scan_next loaded t first n = by (asks_at loaded t first)
  where
    rest : List ℕ
    rest = filter (asks_at loaded t) (range_with_len (first + 1) n)

    by : (b : Bool) → least (goes_before t) (cond b (first ∷ rest) rest) ≡ cond b (older t first (least (goes_before t) rest)) (least (goes_before t) rest)
    by true = refl
    by false = refl

-- the same test of each
same_filter : (p q : ℕ → Bool) (first n : ℕ) → ((s : ℕ) → first ≤ s → p s ≡ q s) → filter p (range_with_len first n) ≡ filter q (range_with_len first n)
same_filter p q first zero h = refl
same_filter p q first (suc n) h =
    let rest : filter p (range_with_len (first + 1) n) ≡ filter q (range_with_len (first + 1) n) = same_filter p q (first + 1) n (λ s l. h s (omega (arith, l))) in
    λ i. cond (h first (omega arith) i) (first ∷ rest i) (rest i)

not_zero : (s : ℕ) → 1 ≤ s → (s == 0) ≡ false
not_zero s l = ne_eqb s 0 (λ e. omega (arith, e, l))

pub loaded_above_0 : (t : Table) (s : ℕ) → 1 ≤ s → is_in_core (row_at t s).place ≡ is_loaded t s
loaded_above_0 t s l = ap (λ b. b || is_in_core (row_at t s).place) (sym (not_zero s l))

pub is_candidate : (t : Table) → oldest_of false t ≡ candidate t
unfolding oldest_of
is_candidate t = ap (least (goes_before t)) (same_filter _ _ 1 49 (λ s l. ap (λ b. is_ready (row_at t s).stat && not b) (loaded_above_0 t s l)))

pub is_runner : (t : Table) → oldest_of true t ≡ loaded_runner t
unfolding oldest_of
is_runner t = ap (least (goes_before t)) (same_filter _ _ 1 49 (λ s l. ap (λ b. (is_ready (row_at t s).stat || is_sleeping (row_at t s).stat) && b) (loaded_above_0 t s l)))

-- those who wait, from a number on
abbrev pub waits_at : Table → ℕ → Bool
waits_at t s = is_waiting (row_at t s).stat && is_loaded t s

abbrev pub waiting_from : Table → ℕ → ℕ → Option ℕ
waiting_from t first n = find (waits_at t) (range_with_len first n)

pub wait_next : (t : Table) (first n : ℕ) → 1 ≤ first → waiting_from t first (suc n) ≡ cond (waits (row_at t first)) (Some first) (waiting_from t (first + 1) n)
wait_next t first n l = ap (λ b. cond (is_waiting (row_at t first).stat && b) (Some first) (waiting_from t (first + 1) n)) (sym (loaded_above_0 t first l))

-- Over the loops.
pub scan_none : (loaded : Bool) (t : Table) (first n : ℕ) → n ≡ 0 → None ≡ scanned loaded t first n
unfolding least
scan_none loaded t first n e = sym (ap (scanned loaded t first) e)

pub scan_on : (loaded : Bool) (t : Table) (k s first n : ℕ) (best next : Option ℕ) → 1 ≤ k → s + k ≡ 50 → first + (k + 1) ≡ 51 → n + 1 ≡ k + 1
    → best ≡ scanned loaded t (s + 1) (k - 1) → next ≡ cond (asks_at loaded t s) (older t s best) best → next ≡ scanned loaded t first n
scan_on loaded t k s first n best next l e f g h i =
    let start : s ≡ first = omega (arith, e, f) in
    let count : suc (k - 1) ≡ n = omega (arith, g, l) in
    i ∙ ap (λ o. cond (asks_at loaded t s) (older t s o) o) h ∙ sym (scan_next loaded t s (k - 1))
    ∙ ap (λ x. scanned loaded t x (suc (k - 1))) start ∙ ap (scanned loaded t first) count

pub wait_first : (t : Table) (n : ℕ) → 1 + n ≡ 50 → loaded_waiter t ≡ waiting_from t 1 n
wait_first t n e = let count : 49 ≡ n = omega (arith, e) in ap (waiting_from t 1) count

pub wait_on : (t : Table) (s n : ℕ) → 1 ≤ s → (x : Bool) → waits (row_at t s) ≡ x → loaded_waiter t ≡ waiting_from t s (suc n)
    → loaded_waiter t ≡ cond x (Some s) (waiting_from t (s + 1) n)
wait_on t s n l x e h = h ∙ wait_next t s n l ∙ ap (λ b. cond b (Some s) (waiting_from t (s + 1) n)) e
