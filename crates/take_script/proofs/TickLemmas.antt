-- Slots from one tick to the next are one stretch.
use Rattle.std.proofs.Common.{◌≡◌, ◌≢◌, ◌∙◌, ◌<◌, ◌≤◌, ◌+◌, ◌*◌, ◌-◌, ◌%◌, ◌==◌, ◌&&◌, not, ℕ, zero, suc, Bool, true, false, if◌then◌else◌, [], ◌∷◌, ◌++◌, flat_map, replicate, eqb-true, refl, sym, ap, arith}
use Rattle.std.proofs.Math.Nat.{mod-add-mod, mod-eq_of_lt, add-mul-mod_self_right}
use Rattle.std.specs.List.{range_with_len}
use Rattle.abstract_unix.specs.Runs.{Slot, Tick}
use Rattle.take_script.specs.Events.{is_ticked, slot_with, slot_numbered, stretch}
use Rattle.take_script.proofs.ListLemmas.{flat_split}
use Rattle.std.proofs.lemmas.Bool.{eq-eqb, ne_eqb, eqb-false}
use Rattle.std.proofs.lemmas.List.{append-nil}

-- no slot of these has a tick
pub untimed : (every first n : ℕ) → ((k : ℕ) → first ≤ k → k < first + n → is_ticked every k ≡ false)
    → flat_map (slot_numbered every) (range_with_len first n) ≡ replicate n Slot
untimed every first zero none = refl
untimed every first (suc n) none =
    ap (λ b. slot_with b ++ flat_map (slot_numbered every) (range_with_len (first + 1) n)) (none first (omega arith) (omega arith))
    ∙ ap (λ events. Slot ∷ events) (untimed every (first + 1) n (λ k low high. none k (omega (arith, low)) (omega (arith, high))))

-- and the next one has
pub until_tick : (every first n : ℕ) → ((k : ℕ) → first ≤ k → k < first + n → is_ticked every k ≡ false)
    → is_ticked every (first + n) ≡ true
    → flat_map (slot_numbered every) (range_with_len first (suc n)) ≡ replicate (suc n) Slot ++ Tick ∷ []
until_tick every first zero none last = ap (λ b. slot_with b ++ []) (ap (is_ticked every) plain ∙ last)
  where
    plain : first ≡ first + 0
    plain = omega arith
until_tick every first (suc n) none last =
    ap (λ b. slot_with b ++ flat_map (slot_numbered every) (range_with_len (first + 1) (suc n))) (none first (omega arith) (omega arith))
    ∙ ap (λ events. Slot ∷ events) (until_tick every (first + 1) n (λ k low high. none k (omega (arith, low)) (omega (arith, high))) (ap (is_ticked every) moved ∙ last))
  where
    moved : first + 1 + n ≡ first + suc n
    moved = omega arith

-- A slot of which so many more, fewer than a tick's, come before the next tick has none.
pub before_tick : (every k rest : ℕ) → (k + rest) % every ≡ 0 → 0 < rest → rest < every → is_ticked every k ≡ false
before_tick every k rest ends some less = by (every == 0) (k % every == 0) refl
  where
    by : (none here : Bool) → (k % every == 0) ≡ here → (not none && here) ≡ false
    by true here is = refl
    by false false is = refl
    by false true is =
        let start : k % every ≡ 0 = eqb-true (k % every) 0 is in
        let sum : (k % every + rest) % every ≡ (k + rest) % every = mod-add-mod k every rest in
        let own : rest % every ≡ rest = mod-eq_of_lt less in
        let alone : rest ≡ 0 + rest = omega arith in
        let none_ : rest ≡ 0 = sym own ∙ ap (λ r. r % every) alone ∙ ap (λ r. (r + rest) % every) (sym start) ∙ sum ∙ ends in
        absurd (omega (arith, none_, some))

-- So many slots, up to the next tick at most, are a stretch: the next tick comes after `upto` of them.
pub stretch_is : (every since gone upto n : ℕ) → (since + gone + upto) % every ≡ 0 → upto ≤ every → 0 < n → n ≤ upto → 0 < every
    → stretch n (n == upto) ≡ flat_map (slot_numbered every) (range_with_len (since + 1 + gone) n)
stretch_is every since gone upto zero ends most some less more = absurd (omega (arith, some))
stretch_is every since gone upto (suc n) ends most some less more = by (suc n == upto) refl
  where
    -- those before the last have none
    none : (k : ℕ) → since + 1 + gone ≤ k → k < since + gone + upto → is_ticked every k ≡ false
    none k low high =
        let sum : k + (since + gone + upto - k) ≡ since + gone + upto = omega (arith, high) in
        before_tick every k (since + gone + upto - k) (ap (λ m. m % every) sum ∙ ends) (omega (arith, high)) (omega (arith, low, most))

    last_ticks : suc n ≡ upto → is_ticked every (since + 1 + gone + n) ≡ true
    last_ticks all =
        let sum : since + 1 + gone + n ≡ since + gone + upto = omega (arith, all) in
        ap (λ b. not b && ((since + 1 + gone + n) % every == 0)) (ne_eqb every 0 (λ e. omega (arith, e, more)))
        ∙ eq-eqb ((since + 1 + gone + n) % every) 0 (ap (λ m. m % every) sum ∙ ends)

    by : (b : Bool) → (suc n == upto) ≡ b → stretch (suc n) b ≡ flat_map (slot_numbered every) (range_with_len (since + 1 + gone) (suc n))
    by true is =
        let all : suc n ≡ upto = eqb-true (suc n) upto is in
        sym (until_tick every (since + 1 + gone) n (λ k low high. none k low (omega (arith, high, all))) (last_ticks all))
    by false is =
        let other : suc n ≢ upto = eqb-false (suc n) upto is in
        append-nil (replicate (suc n) Slot)
        ∙ sym (untimed every (since + 1 + gone) (suc n) (λ k low high. none k low (omega (arith, high, less, other))))

-- the slots so far with a stretch more
pub stretch_more : (every since count left upto n : ℕ) → left ≤ count → n ≤ left → (since + (count - left) + upto) % every ≡ 0 → upto ≤ every → 0 < n
    → n ≤ upto → 0 < every
    → flat_map (slot_numbered every) (range_with_len (since + 1) (count - (left - n)))
    ≡ flat_map (slot_numbered every) (range_with_len (since + 1) (count - left)) ++ stretch n (n == upto)
stretch_more every since count left upto n inside few ends most some less more =
    let all : count - (left - n) ≡ count - left + n = omega (arith, inside, few) in
    ap (λ m. flat_map (slot_numbered every) (range_with_len (since + 1) m)) all
    ∙ flat_split (slot_numbered every) (since + 1) (count - left) n
    ∙ ap (λ l. flat_map (slot_numbered every) (range_with_len (since + 1) (count - left)) ++ l)
    (sym (stretch_is every since (count - left) upto n ends most some less more))

-- and then all others
pub stretch_part : (every since count left upto n : ℕ) → left ≤ count → n ≤ left → (since + (count - left) + upto) % every ≡ 0 → upto ≤ every → 0 < n
    → n ≤ upto → 0 < every
    → flat_map (slot_numbered every) (range_with_len (since + 1) count)
    ≡ (flat_map (slot_numbered every) (range_with_len (since + 1) (count - left)) ++ stretch n (n == upto))
    ++ flat_map (slot_numbered every) (range_with_len (since + 1 + (count - (left - n))) (left - n))
stretch_part every since count left upto n inside few ends most some less more =
    let all : count ≡ count - (left - n) + (left - n) = omega (arith, inside, few) in
    ap (λ m. flat_map (slot_numbered every) (range_with_len (since + 1) m)) all
    ∙ flat_split (slot_numbered every) (since + 1) (count - (left - n)) (left - n)
    ∙ ap (λ l. l ++ flat_map (slot_numbered every) (range_with_len (since + 1 + (count - (left - n))) (left - n)))
    (stretch_more every since count left upto n inside few ends most some less more)

-- the next tick after a stretch
pub next_upto : (every since count left upto n next : ℕ) → left ≤ count → n ≤ left → (since + (count - left) + upto) % every ≡ 0 → n ≤ upto
    → next ≡ (if n == upto then every else upto - n) → (since + (count - (left - n)) + next) % every ≡ 0
next_upto every since count left upto n next inside few ends less is = by (n == upto) refl is
  where
    by : (b : Bool) → (n == upto) ≡ b → next ≡ (if b then every else upto - n) → (since + (count - (left - n)) + next) % every ≡ 0
    by true same its =
        let all : n ≡ upto = eqb-true n upto same in
        let sum : since + (count - (left - n)) + next ≡ since + (count - left) + upto + 1 * every = omega (arith, inside, few, its, all) in
        ap (λ m. m % every) sum ∙ add-mul-mod_self_right (since + (count - left) + upto) 1 every ∙ ends
    by false same its =
        let sum : since + (count - (left - n)) + next ≡ since + (count - left) + upto = omega (arith, inside, few, its, less) in
        ap (λ m. m % every) sum ∙ ends

pub next_ahead : (every upto n next : ℕ) → n ≤ upto → 0 < every → next ≡ (if n == upto then every else upto - n) → 0 < next
next_ahead every upto n next less more is = by (n == upto) refl is
  where
    by : (b : Bool) → (n == upto) ≡ b → next ≡ (if b then every else upto - n) → 0 < next
    by true same its = omega (arith, its, more)
    by false same its = let other : n ≢ upto = eqb-false n upto same in omega (arith, its, less, other)

pub next_most : (every upto n next : ℕ) → upto ≤ every → next ≡ (if n == upto then every else upto - n) → next ≤ every
next_most every upto n next most is = by (n == upto) is
  where
    by : (b : Bool) → next ≡ (if b then every else upto - n) → next ≤ every
    by true its = omega (arith, its)
    by false its = omega (arith, its, most)
