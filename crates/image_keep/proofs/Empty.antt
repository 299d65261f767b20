-- Fifty slots that have nothing, and no text: all of core and of the swap area is free.
use Rattle.std.proofs.Common.{◌≡◌, ℕ, zero, suc, ◌+◌, ◌*◌, ◌≤◌, List, ◌∷◌, length, map, get_or, true, Option, None, refl, sym, ap, subst, ◌∙◌, arith}
use Rattle.std.specs.Prelude.{replicate}
use Rattle.std.proofs.lemmas.List.{length-replicate, length-append}
use Rattle.std.proofs.lemmas.Option.{none-some}
use Rattle.text_tab.specs.declared.row.TextRow.{TextRow}
use Rattle.text_tab.specs.Table.{text_at, no_texts as no_entries}
use Rattle.map_fit.specs.declared.holes.Hole.{Hole}
use Rattle.map_fit.specs.Free.{is_free, is_within}
use Rattle.map_fit.proofs.Units.{in_low, in_high, in_true}
use Rattle.image_keep.specs.declared.row.Row.{Row}
use Rattle.image_keep.specs.Line.{Lists, line_of}
use Rattle.image_keep.specs.Kept.{Keeping, Nothing, Shared, Kept, first_kept, no_texts, no_users}
use Rattle.image_keep.specs.Memory.{Stock, no_row, row_at, Spot, no_spot, row_spot, out_spot, in_spot, Owner, RowOf, OutOf, InOf, spot, AreApart, keeping_by, keeping_in, shared_in, kept_of, Holds}
use Rattle.image_keep.specs.Maps.{click, block}
use Rattle.image_keep.specs.Told.{IsTold}
use Rattle.image_keep.proofs.Writes.{apart_none, turned}
use Rattle.image_keep.proofs.Places.{slot_at}
use Rattle.image_keep.proofs.Forking.{Stands}
use Rattle.image_keep.proofs.Told.{told_nothing}

pub same_at : {X : Type 0} (n s : ℕ) (x : X) → get_or (replicate n x) s x ≡ x
same_at zero s x = refl
same_at (suc n) zero x = refl
same_at (suc n) (suc s) x = same_at n s x

map_same : {X Y : Type 0} (f : X → Y) (n : ℕ) (x : X) → map f (replicate n x) ≡ replicate n (f x)
map_same f zero x = refl
map_same f (suc n) x = ap (λ l. f x ∷ l) (map_same f n x)

abbrev pub empty : ℕ → List ℕ → Stock
empty core line = record { line = line; core = core; rows = replicate 50 no_row; texts = no_entries }

module _ (core : ℕ) (line : List ℕ) where
  bare_row : (s : ℕ) → row_at (empty core line).rows s ≡ no_row
  bare_row s = same_at 50 s no_row

  bare_entry : (t : ℕ) → text_at (empty core line).texts t ≡ None
  bare_entry t = same_at 40 t None

  pub no_spots : (o : Owner) → spot (empty core line) o ≡ no_spot
  no_spots (RowOf s) = ap (row_spot core) (bare_row s)
  no_spots (OutOf t) = ap (out_spot core) (bare_entry t)
  no_spots (InOf t) = ap in_spot (bare_entry t)

  apart_all : (q : Spot) (o : Owner) → AreApart q (spot (empty core line) o)
  apart_all q o = subst (AreApart q) (sym (no_spots o)) (turned no_spot q (apart_none q))

  nothing_there : (texts : List (Option TextRow)) → keeping_in line core texts no_row ≡ Nothing
  unfolding keeping_by
  nothing_there texts = refl

  pub empty_kept : kept_of (empty core line) ≡ first_kept core
  unfolding kept_of no_texts no_users
  empty_kept = made _ _ _ _ _ _
      (map_same (keeping_in line core no_entries) 50 no_row ∙ ap (replicate 50) (nothing_there no_entries))
      (map_same (shared_in line core) 40 None)
      (map_same (λ (r : Row). r.text) 50 no_row)
    where
      made : (a a' : List Keeping) (b b' : List (Option Shared)) (c c' : List (Option ℕ)) → a ≡ a' → b ≡ b' → c ≡ c' → (let x : Kept = record { slots = a; texts = b; users = c; core = core } in x) ≡ record { slots = a'; texts = b'; users = c'; core = core }
      made a a' b b' c c' e f g = cc

  pub begins : (core_map swap_map : List Hole) → 64 ≤ core → core ≤ 3968 → length line ≡ 64 * core + 446464 → ((x : ℕ) → is_free core_map x ≡ is_within 1 core x) → ((x : ℕ) → is_free swap_map x ≡ is_within 4000 872 x)
      → Stands (empty core line) core_map swap_map (first_kept core)
  begins core_map swap_map least most size cores swaps = record {
    sound = record {
      slots = length-replicate 50 no_row;
      size = size;
      least = least;
      most = most;
      rows = λ s. subst (Holds line core) (sym (bare_row s)) tt;
      texts = λ t row e. absurd (none-some row (sym (bare_entry t) ∙ e));
      apart = λ o p ne. apart_all (spot (empty core line) o) p;
    };
    maps = record {
      core = λ x. (
        (λ e. (let w : is_within 1 core x ≡ true = sym (cores x) ∙ e in let a = in_low 1 core x w in let b = in_high 1 core x w in (a, omega (arith, b), λ p. apart_all (click x) p))),
        (λ f. cores x ∙ in_true 1 core x f.0 (let b = f.1 in omega (arith, b))),
      );
      swap = λ x. (
        (λ e. (let w : is_within 4000 872 x ≡ true = sym (swaps x) ∙ e in let a = in_low 4000 872 x w in let b = in_high 4000 872 x w in (a, omega (arith, b), λ p. apart_all (block core x) p))),
        (λ f. swaps x ∙ in_true 4000 872 x f.0 (let b = f.1 in omega (arith, b))),
      );
    };
    counted = record {
      used = λ s t e. absurd (none-some t (sym (ap (λ (r : Row). r.text) (bare_row s)) ∙ e));
      users = λ t row e. absurd (none-some row (sym (bare_entry t) ∙ e));
      loaded = λ t row e. absurd (none-some row (sym (bare_entry t) ∙ e));
    };
    kept = empty_kept;
    told = λ s. subst (IsTold _ _) (sym (slot_at (empty core line) s ∙ ap (keeping_in line core no_entries) (bare_row s) ∙ nothing_there no_entries)) (told_nothing _ _);
  }

-- the same, of rows and texts that are these
pub begun : (core : ℕ) (line : List ℕ) (rows : List Row) (texts : List (Option TextRow)) (core_map swap_map : List Hole) → 64 ≤ core → core ≤ 3968 → length line ≡ 64 * core + 446464 → rows ≡ replicate 50 no_row → texts ≡ no_entries
    → ((x : ℕ) → is_free core_map x ≡ is_within 1 core x) → ((x : ℕ) → is_free swap_map x ≡ is_within 4000 872 x) → Stands (record { line = line; core = core; rows = rows; texts = texts }) core_map swap_map (first_kept core)
begun core line rows texts core_map swap_map least most size rows_are texts_are cores swaps =
    let same : (let x : Stock = record { line = line; core = core; rows = rows; texts = texts } in x) ≡ empty core line = cc in
    subst (λ x. Stands x core_map swap_map (first_kept core)) (sym same) (begins core line core_map swap_map least most size cores swaps)

pub first_long : (m : Lists) (core : ℕ) (swap : List ℕ) → m.core ≡ replicate (64 * core) 0 → m.swap ≡ swap → length swap ≡ 446464 → (length (line_of m) ≡ 64 * core + 446464) × (length m.core ≡ 64 * core)
first_long m core swap c s l =
    let a : length m.core ≡ 64 * core = ap length c ∙ length-replicate {A = ℕ} (64 * core) 0 in
    let b : length m.swap ≡ 446464 = ap length s ∙ l in
    let d = length-append m.core m.swap in
    (omega (arith, a, b, d), a)
