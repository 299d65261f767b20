-- Bytes that are put into a text, as the call knows it.
use Rattle.std.proofs.Common.{◌≡◌, ℕ, ◌+◌, ◌*◌, ◌≤◌, List, length, set, Some, IsSome, refl, sym, ap, subst, ◌∙◌, arith}
use Rattle.core_mem.specs.Bytes.{over}
use Rattle.text_tab.specs.declared.row.TextRow.{TextRow}
use Rattle.text_tab.specs.Table.{text_at, row_at as text_row, row_of as text_row_of, IsUsed}
use Rattle.image_keep.specs.Kept.{bytes_in, Kept, Shared, keeping, shared, text_of}
use Rattle.image_keep.specs.Memory.{Stock, swap_at, kept_of, IsSound}
use Rattle.image_keep.specs.SharedTexts.{filled, retexted}
use Rattle.image_keep.proofs.Places.{shared_at}
use Rattle.image_keep.proofs.Holding.{entry_of}
use Rattle.image_keep.proofs.SwapIn.{text_of_row}
use Rattle.image_keep.proofs.SharedTexts.{Filled, fills}

-- the entry of a text
pub entry_there : (v : Stock) (k : Kept) (t : ℕ) (x : Shared) → kept_of v ≡ k → shared k t ≡ Some x → (text_at v.texts t ≡ Some x.row) × (text_row v.texts t ≡ x.row)
entry_there v k t x view e =
    let f = entry_of v.line v.core (text_at v.texts t) x (sym (shared_at v t) ∙ ap (λ j. shared j t) view ∙ e) in
    (f.0, ap text_row_of f.0)

pub used_there : (v : Stock) (k : Kept) (t : ℕ) (x : Shared) → kept_of v ≡ k → shared k t ≡ Some x → IsUsed v.texts t
used_there v k t x view e = subst IsSome (sym (entry_there v k t x view e).0) (some_is x.row)
  where
    some_is : (r : TextRow) → IsSome (Some r)
    some_is r = refl

-- where the bytes go
pub fill_inside : (v : Stock) (k : Kept) (t at n first a w : ℕ) (x : Shared) → kept_of v ≡ k → IsSound v → shared k t ≡ Some x → at + n ≤ 64 * x.row.clicks → 64 * first ≡ swap_at v.core (text_row v.texts t).block → a ≡ 64 * v.core → w ≡ 64 * v.core + 446464
    → (a ≤ 64 * first + at) × (64 * first + at + n ≤ w)
fill_inside v k t at n first a w x view h e fits f g i =
    let there = entry_there v k t x view e in
    let o = (h.texts t x.row there.0).out in
    let low = o.0 in
    let high = o.1 in
    let place : 64 * first ≡ swap_at v.core x.row.block = f ∙ ap (λ (r : TextRow). swap_at v.core r.block) there.1 in
    (omega (arith, place, g), omega (arith, place, i, low, high, fits))

pub block_low : (v : Stock) (k : Kept) (t : ℕ) (x : Shared) → kept_of v ≡ k → IsSound v → shared k t ≡ Some x → 4000 ≤ (text_row v.texts t).block
block_low v k t x view h e =
    let there = entry_there v k t x view e in
    let low = (h.texts t x.row there.0).out.0 in
    subst (λ (r : TextRow). 4000 ≤ r.block) (sym there.1) low

pub record TextFilled (v : Stock) (k : Kept) (t at : ℕ) (bytes line : List ℕ) : Type 0 where
  pub sound : IsSound (record v { line = line })
  pub texts : (kept_of (record v { line = line })).texts ≡ set k.texts t (filled at bytes (shared k t))
  pub slots : (s : ℕ) → keeping (kept_of (record v { line = line })) s ≡ retexted t (bytes_in (filled at bytes (shared k t))) (text_of k s) (keeping k s)
  pub users : (kept_of (record v { line = line })).users ≡ k.users
  pub core : (kept_of (record v { line = line })).core ≡ k.core

pub text_filled : (v : Stock) (k : Kept) (t at first : ℕ) (bytes line : List ℕ) (x : Shared) → kept_of v ≡ k → IsSound v → shared k t ≡ Some x → x.row.loaded ≡ 0 → at + length bytes ≤ 64 * x.row.clicks
    → 64 * first ≡ swap_at v.core (text_row v.texts t).block → line ≡ over v.line (64 * first + at) bytes → TextFilled v k t at bytes line
unfolding kept_of
text_filled v k t at first bytes line x view h e out fits f is =
    let there = entry_there v k t x view e in
    let g : Filled v t x.row at bytes = fills v t x.row at bytes h there.0 out fits in
    let place : 64 * first ≡ swap_at v.core x.row.block = f ∙ ap (λ (r : TextRow). swap_at v.core r.block) there.1 in
    let same : line ≡ over v.line (swap_at v.core x.row.block + at) bytes = is ∙ ap (λ i. over v.line (i + at) bytes) place in
    let good : TextFilled v k t at bytes (over v.line (swap_at v.core x.row.block + at) bytes) = record {
      sound = g.sound;
      texts = g.texts ∙ ap (λ j. set j.texts t (filled at bytes (shared j t))) view;
      slots = λ s. g.slots s ∙ ap (λ u. retexted t (bytes_in (filled at bytes (shared (kept_of v) t))) u (keeping (kept_of v) s)) (sym (text_of_row v s))
          ∙ ap (λ j. retexted t (bytes_in (filled at bytes (shared j t))) (text_of j s) (keeping j s)) view;
      users = g.users ∙ ap (λ (j : Kept). j.users) view;
      core = g.core ∙ ap (λ (j : Kept). j.core) view;
    } in
    subst (TextFilled v k t at bytes) (sym same) good
