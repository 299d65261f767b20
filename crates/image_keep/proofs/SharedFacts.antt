-- What holds of the texts that are kept.
use Rattle.std.proofs.Common.{◌≡◌, ◌∙◌, ℕ, ◌<◌, ◌≤◌, ◌&&◌, inl, inr, true, List, length, count_by, Option, Some, None, IsSome, refl, sym, ap, subst, arith}
use Rattle.std.proofs.lemmas.Bool.{cases_lt, eq-eqb}
use Rattle.std.proofs.lemmas.List.{get_or_past}
use Rattle.v6_base.specs.declared.entry.Place.TheVariants.{Core, Swap}
use Rattle.text_tab.specs.declared.row.TextRow.{TextRow}
use Rattle.text_tab.specs.Table.{AreTexts, text_at}
use Rattle.image_keep.specs.declared.row.State.{State}
use Rattle.image_keep.specs.declared.row.State.TheVariants as state
use Rattle.image_keep.specs.declared.row.Row.{Row}
use Rattle.image_keep.specs.Kept.{Kept, Shared, shared}
use Rattle.image_keep.specs.Memory.{Stock, no_row, row_at, text_in, text_for, keeping_by, shared_in, kept_of}
use Rattle.image_keep.specs.Counts.{IsCounted, is_text, is_in_core, has_text, has_loaded}
use Rattle.image_keep.specs.SharedTexts.{is_loaded, IsTextOfSlot, AreShared}
use Rattle.image_keep.proofs.Counting.{one, count_at}
use Rattle.image_keep.proofs.Places.{slot_at, shared_at}
use Rattle.image_keep.proofs.SwapIn.{text_of_row}

-- a text that is kept has its row
row_of_shared : (line : List ℕ) (core : ℕ) (o : Option TextRow) (x : Shared) → shared_in line core o ≡ Some x → o ≡ Some x.row
row_of_shared line core None x e = absurd (cc e)
row_of_shared line core (Some row) x e = let same : record { row = row; bytes = text_in line core (Some row) } ≡ x = cc e in ap (λ (y : Shared). Some y.row) same

in_core : (line : List ℕ) (core : ℕ) (text : List ℕ) (st : State) (d k : ℕ) → is_loaded (keeping_by line core text st d k) ≡ is_in_core st
unfolding keeping_by
in_core line core text state.Nothing d k = refl
in_core line core text (state.Alive (Core c)) d k = refl
in_core line core text (state.Alive (Swap b)) d k = refl
in_core line core text (state.Grave b) d k = refl

module _ (v : Stock) (table : AreTexts v.texts) (counted : IsCounted v.rows v.texts) where
  row_there : (t : ℕ) (x : Shared) → shared (kept_of v) t ≡ Some x → text_at v.texts t ≡ Some x.row
  row_there t x e = row_of_shared v.line v.core (text_at v.texts t) x (sym (shared_at v t) ∙ e)

  -- a row with a text is one of the table
  low : (s t : ℕ) → (row_at v.rows s).text ≡ Some t → s < length v.rows
  low s t e = elim (cases_lt s (length v.rows)) [
    | inl l ↦ l
    | inr m ↦ absurd (let f : (row_at v.rows s).text ≡ None = ap (λ (r : Row). r.text) (get_or_past v.rows s no_row m) in cc (e, f))
  ]

  slot_text : (s t : ℕ) → (row_at v.rows s).text ≡ Some t → IsTextOfSlot (kept_of v) s t
  slot_text s t e = by (text_at v.texts t) refl (counted.used s t e)
    where
      by : (o : Option TextRow) → text_at v.texts t ≡ o → IsSome o → IsTextOfSlot (kept_of v) s t
      by None f some = absurd (cc some)
      by (Some row) f some = record {
        text = record { row = row; bytes = text_in v.line v.core (Some row) };
        there = shared_at v t ∙ ap (shared_in v.line v.core) f;
        users =
            let has : has_text t (row_at v.rows s) ≡ true = ap (is_text t) e ∙ eq-eqb t t refl in
            let least : one true ≤ count_by (has_text t) v.rows = subst (λ b. one b ≤ count_by (has_text t) v.rows) has (count_at (has_text t) v.rows s (low s t e)) in
            let users = counted.users t row f in omega (arith, least, users);
        loaded = λ is.
            let r : Row = row_at v.rows s in
            let here : is_in_core r.state ≡ true = sym (in_core v.line v.core (text_for v.line v.core v.texts r.text) r.state r.data_size r.stack_size) ∙ ap is_loaded (sym (slot_at v s)) ∙ is in
            let has : has_loaded t r ≡ true = ap (λ b. b && is_text t r.text) here ∙ ap (is_text t) e ∙ eq-eqb t t refl in
            let least : one true ≤ count_by (has_loaded t) v.rows = subst (λ b. one b ≤ count_by (has_loaded t) v.rows) has (count_at (has_loaded t) v.rows s (low s t e)) in
            let loaded = counted.loaded t row f in omega (arith, least, loaded);
      }

  are_shared : AreShared (kept_of v)
  are_shared = record {
    apart = λ t u x y e f same. table.apart t u x.row y.row (row_there t x e) (row_there u y f) same;
    used = λ s t e. slot_text s t (sym (text_of_row v s) ∙ e);
  }

pub shared_holds : (v : Stock) (k : Kept) → kept_of v ≡ k → AreTexts v.texts → IsCounted v.rows v.texts → AreShared k
shared_holds v k view table counted = subst AreShared view (are_shared v table counted)
