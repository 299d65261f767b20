-- What searches of the table find, in words, and that no two texts are of one inode after a change either.
use Rattle.std.proofs.Common.{◌≡◌, ◌∙◌, ℕ, zero, suc, ◌<◌, ◌≤◌, Bool, true, false, List, [], ◌∷◌, length, get_or, set, replicate, Option, Some, None, is_none, IsSome, refl, sym, ap, subst, inl, inr, arith}
use Rattle.std.specs.List.{position, position_or_len}
use Rattle.std.proofs.lemmas.Grind.{common_steps}
use Rattle.std.proofs.lemmas.Bool.{false≢true, eqb-true, eq-eqb, cases_lt}
use Rattle.std.proofs.lemmas.Option.{none-some, same_Some}
use Rattle.std.proofs.lemmas.List.{length-set, get_or_past}
use Rattle.std.proofs.lemmas.List.Quantifiers.{position-Some}
use Rattle.std.proofs.lemmas.List.Sums.{fails_before_first}
use Rattle.text_tab.specs.declared.row.TextRow.{TextRow}
use Rattle.text_tab.specs.declared.left.Left.{Left}
use Rattle.text_tab.specs.declared.left.Left.TheVariants.{Used, Kept, Gone}
use Rattle.text_tab.specs.Table.{AreTexts, IsFree, IsFull, HasNone, Finds, no_texts, is_of, found, free_entry, text_at, row_of, new_text, remaining}

-- A search that finds nothing has seen each one fail.
none_passes : {X : Type 0} (p : X → Bool) (xs : List X) (d : X) → position p xs ≡ None → (k : ℕ) → k < length xs → p (get_or xs k d) ≡ false
none_passes p xs d e k low =
    let past : length xs ≤ position_or_len p xs = grind (arith, common_steps) in
    fails_before_first p xs k d (omega arith)

-- an entry past the last is free
used_low : (texts : List (Option TextRow)) (t : ℕ) (row : TextRow) → text_at texts t ≡ Some row → t < length texts
used_low texts t row here = elim (cases_lt t (length texts)) [
  | inl low ↦ low
  | inr past ↦ absurd (none-some row (sym (get_or_past texts t None past) ∙ here))
]

text_of : (ino : ℕ) (o : Option TextRow) → is_of ino o ≡ true → IsSome o × ((row_of o).ino ≡ ino)
text_of ino None e = absurd (false≢true e)
text_of ino (Some row) e = (refl, eqb-true row.ino ino e)

pub finds : (texts : List (Option TextRow)) (ino : ℕ) → AreTexts texts → Finds texts ino (found texts ino)
finds texts ino good = by (found texts ino) refl
  where
    by : (o : Option ℕ) → found texts ino ≡ o → Finds texts ino o
    by None e = λ t row here same. false≢true (
        sym (none_passes (is_of ino) texts None e t (used_low texts t row here)) ∙ (ap (is_of ino) here ∙ eq-eqb row.ino ino same))
    by (Some t) e =
        let one = position-Some (is_of ino) texts t None e in
        let text = text_of ino (text_at texts t) one.1 in
        record { low = omega (arith, one.0, good.long); used = text.0; is = text.1 }

pub finds_by : (now texts : List (Option TextRow)) (ino : ℕ) (o : Option ℕ) → texts ≡ now → AreTexts texts → o ≡ found texts ino → Finds now ino o
finds_by now texts ino o is good e =
    let here : Finds texts ino o = subst (λ (p : Option ℕ). Finds texts ino p) (sym e) (finds texts ino good) in
    subst (λ (l : List (Option TextRow)). Finds l ino o) is here

used_of : (o : Option TextRow) → is_none o ≡ false → IsSome o
used_of None e = absurd (false≢true (sym e))
used_of (Some row) e = refl

free_of : (o : Option TextRow) → is_none o ≡ true → o ≡ None
free_of None e = refl
free_of (Some row) e = absurd (false≢true e)

-- The lowest free entry.
pub is_free : (texts : List (Option TextRow)) (t : ℕ) → AreTexts texts → free_entry texts ≡ Some t → IsFree texts t
is_free texts t good e =
    let one = position-Some is_none texts t None e in
    record { low = omega (arith, one.0, good.long); free = free_of (text_at texts t) one.1; first = λ s l. used_of (text_at texts s) (one.2 s l) }

pub is_full : (texts : List (Option TextRow)) → AreTexts texts → free_entry texts ≡ None → IsFull texts
is_full texts good e t low = used_of (text_at texts t) (none_passes is_none texts None e t (omega (arith, low, good.long)))

-- A fact of each entry stays where it holds of what is put into one.
set_each : (P : ℕ → Option TextRow → Type 0) (texts : List (Option TextRow)) (t : ℕ) (o : Option TextRow)
    → ((r : ℕ) → P r (text_at texts r)) → P t o → (r : ℕ) → P r (text_at (set texts t o) r)
set_each P [] t o h p r = h r
set_each P (x ∷ texts) zero o h p zero = p
set_each P (x ∷ texts) zero o h p (suc r) = h (suc r)
set_each P (x ∷ texts) (suc t) o h p zero = h zero
set_each P (x ∷ texts) (suc t) o h p (suc r) = set_each (λ q. P (suc q)) texts t o (λ q. h (suc q)) p r

-- What may be put into an entry: nothing, or a text whose inode no other entry has.
abbrev pub MayBe : List (Option TextRow) → ℕ → Option TextRow → Type 0
MayBe texts t o = (row : TextRow) → o ≡ Some row → (r : ℕ) (q : TextRow) → text_at texts r ≡ Some q → row.ino ≡ q.ino → t ≡ r

abbrev Apart : ℕ → Option TextRow → ℕ → Option TextRow → Type 0
Apart s x t y = (p q : TextRow) → x ≡ Some p → y ≡ Some q → p.ino ≡ q.ino → s ≡ t

all_apart : (texts : List (Option TextRow)) (t : ℕ) (o : Option TextRow) → AreTexts texts → MayBe texts t o
    → (r s : ℕ) → Apart r (text_at (set texts t o) r) s (text_at (set texts t o) s)
all_apart texts t o good may r =
    set_each (λ k x. (s : ℕ) → Apart k x s (text_at (set texts t o) s)) texts t o
    (λ k. set_each (λ s y. Apart k (text_at texts k) s y) texts t o (λ s p q e f same. good.apart k s p q e f same) (λ p q e f same. sym (may q f k p e (sym same))))
    (set_each (λ s y. Apart t o s y) texts t o (λ s p q e f same. may p e s q f same) (λ p q e f same. refl))
    r

is_set : (texts : List (Option TextRow)) (t : ℕ) (o : Option TextRow) → AreTexts texts → MayBe texts t o → AreTexts (set texts t o)
is_set texts t o good may = record { long = length-set texts t o ∙ good.long; apart = λ r s p q. all_apart texts t o good may r s p q }

-- a new text, of an inode that has none
pub attached : (texts : List (Option TextRow)) (t ino clicks block : ℕ) → AreTexts texts → found texts ino ≡ None → AreTexts (set texts t (Some (new_text ino clicks block)))
attached texts t ino clicks block good none = is_set texts t (Some (new_text ino clicks block)) good (λ row e r q there same.
    let no : HasNone texts ino = subst (λ (o : Option ℕ). Finds texts ino o) none (finds texts ino good) in
    absurd (no r q there (sym same ∙ sym (ap (λ (x : TextRow). x.ino) (same_Some (new_text ino clicks block) row e)))))

-- the text that is there, with the same inode
pub changed_there : (texts : List (Option TextRow)) (t : ℕ) (old new : TextRow) → AreTexts texts → text_at texts t ≡ Some old → new.ino ≡ old.ino → AreTexts (set texts t (Some new))
changed_there texts t old new good here is = is_set texts t (Some new) good (λ row e r q there same.
    good.apart t r old q here there (sym is ∙ (ap (λ (x : TextRow). x.ino) (same_Some new row e) ∙ same)))

-- what one user fewer leaves
pub remains : (texts : List (Option TextRow)) (t : ℕ) (row : TextRow) (l : Left) → AreTexts texts → text_at texts t ≡ Some row → AreTexts (set texts t (remaining l row))
remains texts t row Used good here = changed_there texts t row _ good here refl
remains texts t row Kept good here = changed_there texts t row _ good here refl
remains texts t row Gone good here = is_set texts t None good (λ other e. absurd (none-some other e))

-- No text is there at first.
none_at : (n s : ℕ) → text_at (replicate n None) s ≡ None
none_at zero s = refl
none_at (suc n) zero = refl
none_at (suc n) (suc s) = none_at n s

pub are_none : AreTexts no_texts
are_none = record { long = refl; apart = λ s t p q e f same. absurd (none-some p (sym (none_at 40 s) ∙ e)) }
