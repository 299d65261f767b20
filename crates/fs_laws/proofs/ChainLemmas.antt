-- The chain of free blocks: what it rests on, and that the walk finds it.
use Rattle.std.proofs.Common.{◌≡◌, ◌≢◌, ◌+◌, ◌-◌, ◌*◌, ◌<◌, ◌≤◌, ◌==◌, inl, inr, ℕ, zero, suc, Bool, true, false, cond, List, [], ◌∷◌, length, nat_eq, nat_lt, None, refl, sym, ap, ◌∙◌, subst, arith, eq-eqb}
use Rattle.std.proofs.lemmas.Bool.{eqb-true, eqb-false, ne_eqb, le-ltb, ltb-true, cases_lt}
use Rattle.std.proofs.lemmas.Bool.Decides.{eqb_tells, nat_tests}
use Rattle.std.specs.List.{count_by, list_any, AllByRecursion}
use Rattle.fs_codec.specs.Words.{word}
use Rattle.fs_codec.specs.Disk.{Disk, is_data}
use Rattle.fs_codec.specs.Free.{Group, Walk, walk, top, after, group_in, listing}
use Rattle.fs_codec.proofs.CountLemmas.{any_count, count-cons}
use Rattle.fs_codec.proofs.FreeLemmas.{walk_none, walk_outside, walk_again, walk_count, walk_on}
use Rattle.fs_laws.specs.Chain.{IsChain, SameGroup}

-- a group's parts, by its count
pub top_none : (disk : Disk) (g : Group) → g.left ≡ 0 → top disk g ≡ 0
top_none disk g none = ap (λ n. cond (n == 0) 0 (word (disk g.block) (g.place + 2 * n))) none

pub top_some : (disk : Disk) (g : Group) → 0 < g.left → top disk g ≡ word (disk g.block) (g.place + 2 * g.left)
top_some disk g some = ap (λ t. cond t 0 (word (disk g.block) (g.place + 2 * g.left))) (ne_eqb g.left 0 (omega arith))

pub after_one : (disk : Disk) (g : Group) → g.left ≡ 1 → after disk g ≡ group_in disk (top disk g)
after_one disk g one = ap (λ n. cond (n == 1) (group_in disk (top disk g)) (record { left = g.left - 1; block = g.block; place = g.place })) one

pub after_more : (disk : Disk) (g : Group) → g.left ≢ 1 → after disk g ≡ record { left = g.left - 1; block = g.block; place = g.place }
after_more disk g more = ap (λ t. cond t (group_in disk (top disk g)) (record { left = g.left - 1; block = g.block; place = g.place })) (ne_eqb g.left 1 more)

pub same_top : (old new : Disk) (g h : Group) → SameGroup old g new h → top new h ≡ top old g
same_top old new g h same = elim (cases_lt 0 g.left) [
  | inl some ↦ top_some new h (omega (arith, same.left)) ∙ ap (λ n. word (new h.block) (h.place + 2 * n)) same.left ∙ same.numbers g.left some (omega arith) ∙ sym (top_some old g some)
  | inr none ↦ top_none new h (omega (arith, same.left)) ∙ sym (top_none old g (omega arith))
]

-- the group in a block, on two disks that have the same there
same_linked : (old new : Disk) (b c : ℕ) → c ≡ b → new b ≡ old b → SameGroup old (group_in old b) new (group_in new c)
same_linked old new b c is same =
    let at : new c ≡ old b = ap new is ∙ same in
    record { left = ap (λ x. word x 0) at; numbers = λ k some few. ap (λ x. word x (0 + 2 * k)) at }

same_less : (old new : Disk) (g h : Group) → SameGroup old g new h → SameGroup old (record { left = g.left - 1; block = g.block; place = g.place }) new (record { left = h.left - 1; block = h.block; place = h.place })
same_less old new g h same = record { left = ap (λ n. n - 1) same.left; numbers = λ k some few. same.numbers k some (omega arith) }

pub same_after : (old new : Disk) (g h : Group) → SameGroup old g new h → new (top old g) ≡ old (top old g) → SameGroup old (after old g) new (after new h)
same_after old new g h same block =
    let P : Group → Group → Type 0 = λ x y. SameGroup old x new y in
    elim (eqb_tells g.left 1) [
      | inl e ↦ subst (λ x. P x (after new h)) (sym (after_one old g e.1)) (subst (λ y. P (group_in old (top old g)) y) (sym (after_one new h (same.left ∙ e.1)))
          (same_linked old new (top old g) (top new h) (same_top old new g h same) block))
      | inr e ↦ subst (λ x. P x (after new h)) (sym (after_more old g e.1))
          (subst (λ y. P (record { left = g.left - 1; block = g.block; place = g.place }) y) (sym (after_more new h (λ is. e.1 (sym same.left ∙ is)))) (same_less old new g h same))
    ]

-- A chain rests on its group's numbers, on where data are, and on its own blocks.
pub chain_same : (old new : Disk) (g h : Group) (bs : List ℕ) → ((b : ℕ) → is_data new b ≡ is_data old b) → AllByRecursion (λ b. new b ≡ old b) bs → SameGroup old g new h → IsChain old g bs → IsChain new h bs
chain_same old new g h [] zone blocks same c = same_top old new g h same ∙ c
chain_same old new g h (b ∷ bs) zone blocks same c =
    let there : new (top old g) ≡ old (top old g) = ap new c.0 ∙ blocks.0 ∙ ap old (sym c.0) in
    let next : SameGroup old (after old g) new (after new h) = same_after old new g h same there in (
      same_top old new g h same ∙ c.0,
      c.1,
      zone b ∙ c.2,
      (let few = c.3 in omega (arith, next.left)),
      chain_same old new (after old g) (after new h) bs zone blocks.1 next c.4,
    )

-- what is not counted is not met
pub not_met : (k : ℕ) (xs : List ℕ) → count_by (nat_eq k) xs ≡ 0 → list_any (nat_eq k) xs ≡ false
not_met k xs none = any_count k xs ∙ le-ltb 0 (count_by (nat_eq k) xs) (omega arith)

met_again : (k : ℕ) (xs : List ℕ) → list_any (nat_eq k) xs ≡ true → 0 < count_by (nat_eq k) xs
met_again k xs met = ltb-true 0 (count_by (nat_eq k) xs) (sym (any_count k xs) ∙ met)

pub count_first : (b : ℕ) (bs : List ℕ) → count_by (nat_eq b) (b ∷ bs) ≡ 1 + count_by (nat_eq b) bs
count_first b bs = let one : cond {A = ℕ} (nat_eq b b) 1 0 ≡ 1 = ap (λ t. cond t 1 0) (eq-eqb b b refl) in omega (arith, count-cons b b bs)

moved : (k b : ℕ) (met bs : List ℕ) → count_by (nat_eq k) met + count_by (nat_eq k) (b ∷ bs) ≡ count_by (nat_eq k) (b ∷ met) + count_by (nat_eq k) bs
moved k b met bs = omega (arith, count-cons k b bs, count-cons k b met)

-- the walk of a chain lists the chain
pub walk_lists : (most : ℕ) (disk : Disk) (group : Group) (met bs : List ℕ) → IsChain disk group bs → length bs ≤ most → ((k : ℕ) → count_by (nat_eq k) met + count_by (nat_eq k) bs ≤ 1) → walk most disk group met ≡ record { blocks = bs; fault = None }
walk_lists most disk group met [] c few once = walk_none most disk group met 0 (sym c) refl
walk_lists zero disk group met (b ∷ bs) c few once = absurd (omega arith)
walk_lists (suc most) disk group met (b ∷ bs) c few once =
    let rest : walk most disk (after disk group) (b ∷ met) ≡ record { blocks = bs; fault = None } =
    walk_lists most disk (after disk group) (b ∷ met) bs c.4 (omega arith) (λ k. let o = once k in omega (arith, o, moved k b met bs)) in
    walk_on most disk group met b (sym c.0) (ne_eqb b 0 c.1) c.2 (not_met b met (let o = once b in omega (arith, o, count_first b bs))) (le-ltb 100 (after disk group).left c.3)
    ∙ ap (listing b) rest

-- a walk without a fault that meets no block again, and has steps left, lists a chain
abbrev Lists : Disk → Group → List ℕ → ℕ → Walk → Type 0
Lists disk group met most w = w.fault ≡ None → ((k : ℕ) → count_by (nat_eq k) met + count_by (nat_eq k) w.blocks ≤ 1) → length w.blocks < most → IsChain disk group w.blocks

chain_step : (most : ℕ) (disk : Disk) (group : Group) (met : List ℕ) → Lists disk (after disk group) (top disk group ∷ met) most (walk most disk (after disk group) (top disk group ∷ met)) → Lists disk group met (suc most) (walk (suc most) disk group met)
chain_step most disk group met rest = by_zero (top disk group == 0) refl where
  b : ℕ
  b = top disk group

  P : Walk → Type 0
  P = Lists disk group met (suc most)

  by_count : (t : Bool) → nat_lt 100 (after disk group).left ≡ t → (b == 0) ≡ false → is_data disk b ≡ true → list_any (nat_eq b) met ≡ false → P (walk (suc most) disk group met)
  by_count true e some inside new = subst P (sym (walk_count most disk group met b refl some inside new e)) (λ fault. absurd (cc))
  by_count false e some inside new = subst P (sym (walk_on most disk group met b refl some inside new e))
      (λ fault once few. (
        refl,
        eqb-false b 0 some,
        inside,
        grind (arith, nat_tests),
        rest fault (λ k. let o = once k in omega (arith, o, moved k b met (walk most disk (after disk group) (b ∷ met)).blocks)) (omega arith),
      ))

  by_met : (t : Bool) → list_any (nat_eq b) met ≡ t → (b == 0) ≡ false → is_data disk b ≡ true → P (walk (suc most) disk group met)
  by_met true e some inside = subst P (sym (walk_again most disk group met b refl some inside e)) (λ fault once. let o = once b in let twice = met_again b met e in absurd (omega (arith, o, twice, count_first b [])))
  by_met false e some inside = by_count (nat_lt 100 (after disk group).left) refl some inside e

  by_data : (t : Bool) → is_data disk b ≡ t → (b == 0) ≡ false → P (walk (suc most) disk group met)
  by_data true e some = by_met (list_any (nat_eq b) met) refl some e
  by_data false e some = subst P (sym (walk_outside most disk group met b refl some e)) (λ fault. absurd (cc))

  by_zero : (t : Bool) → (b == 0) ≡ t → P (walk (suc most) disk group met)
  by_zero true e = subst P (sym (walk_none (suc most) disk group met b refl e)) (λ fault once few. eqb-true b 0 e)
  by_zero false e = by_data (is_data disk b) refl e

pub walk_chain : (most : ℕ) (disk : Disk) (group : Group) (met : List ℕ) → Lists disk group met most (walk most disk group met)
walk_chain zero disk group met = λ sound once few. absurd (omega arith)
walk_chain (suc most) disk group met = chain_step most disk group met (walk_chain most disk (after disk group) (top disk group ∷ met))
