-- What the rule of freeing makes of the blocks from one on up to 3999.
use Rattle.std.proofs.Common.{◌≡◌, ◌+◌, ◌-◌, ◌*◌, ◌/◌, ◌%◌, ◌<◌, ◌≤◌, inl, inr, ℕ, zero, suc, List, [], ◌∷◌, ◌++◌, length, slice_index, slice_set, refl, sym, ap, ◌∙◌, subst, arith, append_assoc}
use Rattle.std.specs.Prelude.{◌≢◌, ◌==◌, false}
use Rattle.std.proofs.lemmas.Bool.{cases_lt}
use Rattle.std.proofs.lemmas.Bool.Decides.{nat_tests}
use Rattle.std.proofs.lemmas.Grind.{get_or-set_at, same_number_lists}
use Rattle.std.proofs.lemmas.List.{get_or-set_other, length-set}
use Rattle.std.proofs.Math.Nat.{eq-or-lt_of_le}
use Rattle.fs_codec.specs.Bytes.{bytes_of}
use Rattle.make_image.specs.Padded.{padded}
use Rattle.make_image.specs.FreeList.{FreeList, pushed, freed, freed_down}
use Rattle.make_image.specs.FreeBlocks.{words_freed, free_block, number}
use Rattle.make_image.proofs.PaddedLemmas.{length-padded, get_or-padded}

pub number_low : (lowest top i : ℕ) → lowest + i ≤ top → top - i < 4000 → number lowest top i ≡ top - i
unfolding number
number_low lowest top i h f = grind (arith, nat_tests)

pub number_high : (lowest top i : ℕ) → top < lowest + i → top + 100 - i < 4000 → number lowest top i ≡ top + 100 - i
unfolding number
number_high lowest top i h f = grind (arith, nat_tests)

pub number_none_low : (lowest top i : ℕ) → lowest + i ≤ top → 4000 ≤ top - i → number lowest top i ≡ 0
unfolding number
number_none_low lowest top i h f = grind (arith, nat_tests)

pub number_none_high : (lowest top i : ℕ) → top < lowest + i → 4000 ≤ top + 100 - i → number lowest top i ≡ 0
unfolding number
number_none_high lowest top i h f = grind (arith, nat_tests)

-- a number stays where it is on the same side
number_same_low : (lowest more top i : ℕ) → lowest + i ≤ top → more + i ≤ top → number lowest top i ≡ number more top i
number_same_low lowest more top i h g = elim (cases_lt (top - i) 4000) [
  | inl f ↦ number_low lowest top i h f ∙ sym (number_low more top i g f)
  | inr f ↦ number_none_low lowest top i h f ∙ sym (number_none_low more top i g f)
]

number_same_high : (lowest more top i : ℕ) → top < lowest + i → top < more + i → number lowest top i ≡ number more top i
number_same_high lowest more top i h g = elim (cases_lt (top + 100 - i) 4000) [
  | inl f ↦ number_high lowest top i h f ∙ sym (number_high more top i g f)
  | inr f ↦ number_none_high lowest top i h f ∙ sym (number_none_high more top i g f)
]

-- a number of the hundred above, as it was when that hundred was the list
number_above : (lowest i : ℕ) → 0 < i → i < 100 → number (lowest + 1) (lowest + 100) i ≡ number lowest lowest i
number_above lowest i some few = elim (cases_lt (lowest + 100 - i) 4000) [
  | inl f ↦ number_low (lowest + 1) (lowest + 100) i (omega arith) f ∙ sym (number_high lowest lowest i (omega arith) f)
  | inr f ↦ number_none_low (lowest + 1) (lowest + 100) i (omega arith) f ∙ sym (number_none_high lowest lowest i (omega arith) f)
]

-- the list holds the blocks from the lowest to the top, and after them those of the hundred above
pub record Lists (lowest top : ℕ) (list : FreeList) : Type 0 where
  pub count : list.nfree + lowest ≡ top + 1
  pub long : length list.free ≡ 100
  pub each : (i : ℕ) → i < 100 → slice_index list.free i ≡ number lowest top i

freed_first : (list : FreeList) (b : ℕ) → list.nfree ≡ 0 → freed list b ≡ pushed 1 (slice_set list.free 0 0) b [] list.blocks
unfolding freed
freed_first list b h = rw h refl

freed_full : (list : FreeList) (b : ℕ) → list.nfree ≡ 100 → freed list b ≡ pushed 0 list.free b (100 ∷ list.free) list.blocks
unfolding freed
freed_full list b h = rw h refl

unequal : (m n : ℕ) → m ≢ n → (m == n) ≡ false
unequal m n h = grind (arith, nat_tests)

freed_more : (list : FreeList) (b : ℕ) → list.nfree ≢ 0 → list.nfree ≢ 100 → freed list b ≡ pushed list.nfree list.free b [] list.blocks
unfolding freed
freed_more list b some few = rw (unequal list.nfree 0 some, unequal list.nfree 100 few) refl

-- the list grows by its next block
lists_more : (list : FreeList) (lowest top : ℕ) (words : List ℕ) → lowest < top → lowest < 4000 → top < lowest + 100 → Lists (lowest + 1) top list → Lists lowest top (pushed list.nfree list.free lowest words list.blocks)
lists_more list lowest top words under below near h =
    let place : list.nfree + lowest ≡ top = omega (arith, h.count) in
    record {
      count = omega arith;
      long = length-set list.free list.nfree lowest ∙ h.long;
      each = λ i few. elim (cases_lt i list.nfree) [
        | inl low ↦ get_or-set_other list.free list.nfree i lowest 0 (λ e. omega arith) ∙ h.each i few ∙ number_same_low (lowest + 1) lowest top i (omega arith) (omega arith)
        | inr up ↦ elim (eq-or-lt_of_le up) [
          | inl here ↦ get_or-set_at list.free list.nfree i lowest 0 (sym here) (omega (arith, h.long)) ∙ at_place lowest top i below (omega arith)
          | inr high ↦ get_or-set_other list.free list.nfree i lowest 0 (λ e. omega arith) ∙ h.each i few ∙ number_same_high (lowest + 1) lowest top i (omega arith) (omega arith)
        ]
      ];
    }
  where
    at_place : (lowest top i : ℕ) → lowest < 4000 → i + lowest ≡ top → lowest ≡ number lowest top i
    at_place lowest top i below is =
        let value : top - i ≡ lowest = omega arith in
        sym (number_low lowest top i (omega arith) (omega arith) ∙ value)

-- a full list begins anew with the block that holds it
lists_full : (list : FreeList) (lowest : ℕ) (words : List ℕ) → lowest < 3999 → Lists (lowest + 1) (lowest + 100) list → Lists lowest lowest (pushed 0 list.free lowest words list.blocks)
lists_full list lowest words below h = record {
  count = omega arith;
  long = length-set list.free 0 lowest ∙ h.long;
  each = λ i few. elim (cases_lt 0 i) [
    | inr none ↦ get_or-set_at list.free 0 i lowest 0 (omega arith) (omega (arith, h.long)) ∙ at_top lowest i below (omega arith)
    | inl some ↦ get_or-set_other list.free 0 i lowest 0 (λ e. omega arith) ∙ h.each i few ∙ number_above lowest i some few
  ];
}
  where
    at_top : (lowest i : ℕ) → lowest < 3999 → i ≡ 0 → lowest ≡ number lowest lowest i
    at_top lowest i below is =
        let value : lowest - i ≡ lowest = omega arith in
        sym (number_low lowest lowest i (omega arith) (omega arith) ∙ value)

-- before the first block an empty list has the number 0
lists_none : Lists 4000 4000 (record { nfree = 1; free = slice_set (padded 100 []) 0 0; blocks = [] })
lists_none =
    let long : length (padded 100 []) ≡ 100 = length-padded 100 [] (omega arith) in
    record {
      count = refl;
      long = length-set (padded 100 []) 0 0 ∙ long;
      each = λ i few. elim (cases_lt 0 i) [
        | inr none ↦ get_or-set_at (padded 100 []) 0 i 0 0 (omega arith) (omega arith) ∙ sym (number_none_low 4000 4000 i (omega arith) (omega arith))
        | inl some ↦ get_or-set_other (padded 100 []) 0 i 0 0 (λ e. omega arith) ∙ get_or-padded 100 [] i ∙ sym (number_none_high 4000 4000 i (omega arith) (omega arith))
      ];
    }

-- the list after so many blocks
pub listed : (count lowest top hundreds : ℕ) → lowest + count ≡ 4000 → 0 < lowest → 0 < count → top ≡ 100 * hundreds → lowest ≤ top → top < lowest + 100 → Lists lowest top (freed_down count)
unfolding freed_down
listed zero lowest top hundreds sum some any is under near = absurd (omega arith)
listed (suc zero) lowest top hundreds sum some any is under near =
    let low : 3999 ≡ lowest = omega arith in
    let high : 4000 ≡ top = omega arith in
    let first : Lists 3999 4000 (pushed 1 (slice_set (padded 100 []) 0 0) 3999 [] []) = lists_more (record { nfree = 1; free = slice_set (padded 100 []) 0 0; blocks = [] }) 3999 4000 [] (omega arith) (omega arith) (omega arith) lists_none in
    subst (λ t. Lists lowest t (freed_down 1)) high (subst (λ l. Lists l 4000 (freed_down 1)) low (subst (Lists 3999 4000) (sym (freed_first (record { nfree = 0; free = padded 100 []; blocks = [] }) 3999 refl)) first))
listed (suc (suc count)) lowest top hundreds sum some any is under near =
    let place : lowest ≡ 3999 - suc count = omega arith in
    elim (eq-or-lt_of_le under) [
      | inl same ↦
          let prior : Lists (lowest + 1) (lowest + 100) (freed_down (suc count)) = listed (suc count) (lowest + 1) (lowest + 100) (hundreds + 1) (omega arith) (omega arith) (omega arith) (omega arith) (omega arith) (omega arith) in
          let full : (freed_down (suc count)).nfree ≡ 100 = omega (arith, prior.count) in
          let more : Lists lowest lowest (freed (freed_down (suc count)) lowest) = subst (Lists lowest lowest) (sym (freed_full (freed_down (suc count)) lowest full)) (lists_full (freed_down (suc count)) lowest _ (omega arith) prior) in
          subst (λ t. Lists lowest t (freed (freed_down (suc count)) (3999 - suc count))) same (subst (λ b. Lists lowest lowest (freed (freed_down (suc count)) b)) place more)
      | inr less ↦
          let prior : Lists (lowest + 1) top (freed_down (suc count)) = listed (suc count) (lowest + 1) top hundreds (omega arith) (omega arith) (omega arith) is (omega arith) (omega arith) in
          let more : Lists lowest top (freed (freed_down (suc count)) lowest) = subst (Lists lowest top) (sym (freed_more (freed_down (suc count)) lowest (λ e. omega (arith, prior.count)) (λ e. omega (arith, prior.count)))) (lists_more (freed_down (suc count)) lowest top [] less (omega arith) near prior) in
          subst (λ b. Lists lowest top (freed (freed_down (suc count)) b)) place more
    ]

-- the list whose lowest block is this
pub listed_from : (lowest : ℕ) → 0 < lowest → lowest < 4000 → Lists lowest ((lowest + 99) / 100 * 100) (freed_down (4000 - lowest))
listed_from lowest some below = listed (4000 - lowest) lowest ((lowest + 99) / 100 * 100) ((lowest + 99) / 100) (omega arith) some (omega arith) (omega arith) (omega arith) (omega arith)

-- the numbers of the list, by their places
pub numbers_are : (lowest : ℕ) (numbers : List ℕ) → 0 < lowest → lowest < 4000 → length numbers ≡ 100 → ((i : ℕ) → i < 100 → slice_index numbers i ≡ number lowest ((lowest + 99) / 100 * 100) i) → numbers ≡ (freed_down (4000 - lowest)).free
numbers_are lowest numbers some below long each =
    let list : Lists lowest ((lowest + 99) / 100 * 100) (freed_down (4000 - lowest)) = listed_from lowest some below in
    same_number_lists numbers (freed_down (4000 - lowest)).free (long ∙ sym list.long) (λ i h. each i (omega arith) ∙ sym (list.each i (omega arith)))

words_of_full : (list : FreeList) → list.nfree ≡ 100 → words_freed list ≡ 100 ∷ list.free
words_of_full list h = rw h refl

words_of_part : (list : FreeList) → list.nfree ≢ 100 → words_freed list ≡ []
words_of_part list h = rw (unequal list.nfree 100 h) refl

blocks_freed : (list : FreeList) (b : ℕ) → (freed list b).blocks ≡ padded 512 (bytes_of (words_freed list)) ++ list.blocks
blocks_freed list b = elim (eq-or-lt_of_le {n = 0} {m = list.nfree} (omega arith)) [
  | inl none ↦ ap (λ l. l.blocks) (freed_first list b (sym none)) ∙ ap (λ w. padded 512 (bytes_of w) ++ list.blocks) (sym (words_of_part list (λ e. omega arith)))
  | inr some ↦ elim (cases_lt list.nfree 100) [
    | inl few ↦ other some (λ e. omega arith)
    | inr many ↦ elim (eq-or-lt_of_le many) [
      | inl full ↦ ap (λ l. l.blocks) (freed_full list b (sym full)) ∙ ap (λ w. padded 512 (bytes_of w) ++ list.blocks) (sym (words_of_full list (sym full)))
      | inr over ↦ other some (λ e. omega arith)
    ]
  ]
]
  where
    other : 0 < list.nfree → list.nfree ≢ 100 → (freed list b).blocks ≡ padded 512 (bytes_of (words_freed list)) ++ list.blocks
    other some few = ap (λ l. l.blocks) (freed_more list b (λ e. omega arith) few) ∙ ap (λ w. padded 512 (bytes_of w) ++ list.blocks) (sym (words_of_part list few))

-- the free blocks from one on are that block and those after it
pub blocks_from : (b : ℕ) → b < 4000 → (freed_down (4000 - b)).blocks ≡ free_block b ++ (freed_down (4000 - (b + 1))).blocks
unfolding free_block freed_down
blocks_from b below =
    let count : suc (3999 - b) ≡ 4000 - b = omega arith in
    let rest : 3999 - b ≡ 4000 - (b + 1) = omega arith in
    ap (λ n. (freed_down n).blocks) (sym count) ∙ blocks_freed (freed_down (3999 - b)) (3999 - (3999 - b)) ∙ ap (λ n. padded 512 (bytes_of (words_freed (freed_down (3999 - b)))) ++ (freed_down n).blocks) rest

-- the first of each hundred holds the list of the hundred above
pub full_block : (b : ℕ) (numbers : List ℕ) → b < 4000 → b % 100 ≡ 0 → numbers ≡ (freed_down (4000 - (b + 1))).free → padded 512 (bytes_of (100 ∷ numbers)) ≡ free_block b
unfolding free_block
full_block b numbers below first is =
    let count : 4000 - (b + 1) ≡ 3999 - b = omega arith in
    let list : Lists (b + 1) ((b + 1 + 99) / 100 * 100) (freed_down (4000 - (b + 1))) = listed_from (b + 1) (omega arith) (omega arith) in
    let full : (freed_down (4000 - (b + 1))).nfree ≡ 100 = omega (arith, list.count) in
    let spelled : words_freed (freed_down (4000 - (b + 1))) ≡ 100 ∷ numbers = words_of_full (freed_down (4000 - (b + 1))) full ∙ ap (λ l. 100 ∷ l) (sym is) in
    ap (λ w. padded 512 (bytes_of w)) (sym spelled) ∙ ap (λ n. padded 512 (bytes_of (words_freed (freed_down n)))) count

none_listed : (freed_down 0).nfree ≡ 0
unfolding freed_down
none_listed = refl

pub blank_block : (b : ℕ) → b < 4000 → b % 100 ≢ 0 → padded 512 [] ≡ free_block b
unfolding free_block bytes_of
blank_block b below other = ap (λ w. padded 512 (bytes_of w)) (sym (words_of_part (freed_down (3999 - b)) (part b below other)))
  where
    part : (b : ℕ) → b < 4000 → b % 100 ≢ 0 → (freed_down (3999 - b)).nfree ≢ 100
    part b below other = elim (eq-or-lt_of_le {n = b} {m = 3999} (omega arith)) [
      | inl last ↦ (λ e.
          let none : 3999 - b ≡ 0 = omega arith in
          let same : (freed_down (3999 - b)).nfree ≡ 0 = ap (λ n. (freed_down n).nfree) none ∙ none_listed in
          omega arith)
      | inr more ↦ (λ e.
          let count : 4000 - (b + 1) ≡ 3999 - b = omega arith in
          let list : Lists (b + 1) ((b + 1 + 99) / 100 * 100) (freed_down (4000 - (b + 1))) = listed_from (b + 1) (omega arith) (omega arith) in
          let same : (freed_down (4000 - (b + 1))).nfree ≡ 100 = ap (λ n. (freed_down n).nfree) count ∙ e in
          omega (arith, list.count))
    ]

pub no_blocks : (count : ℕ) → count ≡ 0 → (freed_down count).blocks ≡ []
unfolding freed_down
no_blocks count none = ap (λ n. (freed_down n).blocks) none

-- blocks that are put after others come off the front of those that are still to be put
pub blocks_after : (old new block rest whole all : List ℕ) → new ≡ old ++ block → whole ≡ block ++ rest → old ++ whole ≡ all → new ++ rest ≡ all
blocks_after old new block rest whole all put front is = ap (λ l. l ++ rest) put ∙ append_assoc old block rest ∙ ap (λ l. old ++ l) (sym front) ∙ is
