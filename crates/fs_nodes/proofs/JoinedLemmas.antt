-- The references of two disks by keys.
use Rattle.std.proofs.Common.{◌≡◌, ◌+◌, ◌-◌, ◌<◌, ◌≤◌, ◌&&◌, ℕ, Bool, true, false, cond, nat_lt, List, [], ◌∷◌, ◌++◌, length, drop, slice_index, slice_set, Option, Some, None, is_some, refl, sym, ap, ◌∙◌, arith}
use Rattle.std.specs.List.{count_by}
use Rattle.std.proofs.lemmas.Bool.Decides.{nat_tests}
use Rattle.std.proofs.lemmas.List.{get_or_append_left, get_or-append_right, get_or-drop, set-append_left, set-append_right, drop-set-add, length-append, length-drop}
use Rattle.std.proofs.lemmas.List.Sums.{sum_by-append}
use Rattle.fs_nodes.specs.Keys.{joined}

pub below : (n key : ℕ) → nat_lt n key ≡ false → key ≤ n
below n key e = grind (arith, nat_tests)

pub above : (n key : ℕ) → nat_lt n key ≡ true → n < key
above n key e = grind (arith, nat_tests)

pub at_root : (r : List ℕ) (s : Option (List ℕ)) (n key : ℕ) → length r ≡ n + 1 → (is_some s && nat_lt n key) ≡ false
    → slice_index (joined r s) key ≡ slice_index r key
at_root r None n key long low = refl
at_root r (Some s) n key long low =
    get_or_append_left r (drop 1 s) 0 key (let b = below n key low in omega (arith, long, b))

pub at_second : (r s : List ℕ) (n key : ℕ) → length r ≡ n + 1 → n < key
    → slice_index (joined r (Some s)) key ≡ slice_index s (key - n)
at_second r s n key long high =
    get_or-append_right r (drop 1 s) (n + 1) key 0 long (omega (arith, high))
    ∙ get_or-drop 1 s (key - (n + 1)) 0
    ∙ ap (slice_index s) (omega (arith, high))

pub set_root : (r : List ℕ) (s : Option (List ℕ)) (n key x : ℕ) → length r ≡ n + 1 → (is_some s && nat_lt n key) ≡ false
    → slice_set (joined r s) key x ≡ joined (slice_set r key x) s
set_root r None n key x long low = refl
set_root r (Some s) n key x long low =
    set-append_left r (drop 1 s) key x (let b = below n key low in omega (arith, long, b))

pub set_second : (r s : List ℕ) (n key x : ℕ) → length r ≡ n + 1 → n < key
    → slice_set (joined r (Some s)) key x ≡ joined r (Some (slice_set s (key - n) x))
set_second r s n key x long high =
    let place : 1 + (key - (n + 1)) ≡ key - n = omega (arith, high) in
    set-append_right r (drop 1 s) (n + 1) key x long (omega (arith, high))
    ∙ ap (λ l. r ++ l) (sym (drop-set-add 1 s (key - (n + 1)) x) ∙ ap (λ k. drop 1 (slice_set s k x)) place)

pub joined_long : (r s : List ℕ) (n m : ℕ) → length r ≡ n + 1 → length s ≡ m + 1 → length (joined r (Some s)) ≡ n + m + 1
joined_long r s n m long long' =
    let a = length-append r (drop 1 s) in let d = length-drop 1 s in omega (arith, a, d, long, long')

count_append : (p : ℕ → Bool) (r s : List ℕ) → count_by p (r ++ s) ≡ count_by p r + count_by p s
count_append p r s = sum_by-append (λ x. cond (p x) 1 0) r s

pub counted : (r s : List ℕ) → slice_index s 0 ≡ 0
    → count_by (nat_lt 0) (joined r (Some s)) ≡ count_by (nat_lt 0) r + count_by (nat_lt 0) s
counted r [] none = count_append (nat_lt 0) r []
counted r (x ∷ s) none =
    let first : cond {A = ℕ} (nat_lt 0 x) 1 0 ≡ 0 = ap (λ (y : ℕ). cond {A = ℕ} (nat_lt 0 y) 1 0) none in
    let a : count_by (nat_lt 0) (joined r (Some (x ∷ s))) ≡ count_by (nat_lt 0) r + count_by (nat_lt 0) s = count_append (nat_lt 0) r s in
    let b : count_by (nat_lt 0) (x ∷ s) ≡ (0 + cond {A = ℕ} (nat_lt 0 x) 1 0) + count_by (nat_lt 0) s = count_append (nat_lt 0) (x ∷ []) s in
    omega (arith, a, b, first)
