-- The marks of inodes, by the texts that are shared: which mark is whose, and what becomes of them when a text comes or goes.
use Rattle.std.proofs.Common.{◌≡◌, ◌≢◌, ◌∙◌, ◌||◌, ◌<◌, ℕ, zero, suc, Bool, true, false, List, [], ◌∷◌, length, map, get_or, set, Option, Some, None, refl, sym, ap, inl, inr, arith}
use Rattle.std.specs.List.{list_any, range_with_len}
use Rattle.std.proofs.lemmas.Bool.{cases_eq, eq-eqb, ne_eqb}
use Rattle.std.proofs.lemmas.List.{same_lists, length-set, get_or-set_same, get_or-set_other, get_or_default}
use Rattle.std.proofs.lemmas.List.Folds.{list_any_at}
use Rattle.std.proofs.lemmas.List.FromFn.{get_or-map-range_with_len, length-map-range_with_len}
use Rattle.fs_tree.specs.declared.marks.TheConstants.{INODE_NUMBERS}
use Rattle.sys_procs.specs.TextTable.{Text, is_text_of, marks_of}

-- a list has an element for which a test is what it was
pub any_same : {A : Type 0} (p : A → Bool) (xs : List A) (i : ℕ) (y d : A) → p y ≡ p (get_or xs i d)
    → list_any p (set xs i y) ≡ list_any p xs
any_same p [] i y d e = refl
any_same p (x ∷ xs) zero y d e = ap (λ b. b || list_any p xs) e
any_same p (x ∷ xs) (suc i) y d e = ap (λ b. p x || b) (any_same p xs i y d e)

-- or none passes
pub any_none : {A : Type 0} (p : A → Bool) (xs : List A) (d : A) → ((i : ℕ) → p (get_or xs i d) ≡ false) → list_any p xs ≡ false
any_none p [] d none = refl
any_none p (x ∷ xs) d none = ap (λ b. b || list_any p xs) (none 0) ∙ any_none p xs d (λ i. none (suc i))

-- the mark of an inode
pub mark_at : (texts : List (Option Text)) (ino : ℕ) → ino < 65536
    → get_or (marks_of texts) ino false ≡ list_any (is_text_of ino) texts
unfolding marks_of
mark_at texts ino low =
    get_or-map-range_with_len (λ i. list_any (is_text_of i) texts) 0 INODE_NUMBERS ino ino false low (omega arith)

length_marks : (texts : List (Option Text)) → length (marks_of texts) ≡ 65536
unfolding marks_of
length_marks texts = length-map-range_with_len (λ i. list_any (is_text_of i) texts) 0 INODE_NUMBERS

-- the marks are those of other texts, but for the mark of one inode
pub marks_set : (texts new : List (Option Text)) (ino : ℕ) (mark : Bool) → list_any (is_text_of ino) new ≡ mark
    → ((i : ℕ) → i ≢ ino → list_any (is_text_of i) new ≡ list_any (is_text_of i) texts)
    → marks_of new ≡ set (marks_of texts) ino mark
marks_set texts new ino mark is others =
    same_lists (marks_of new) (set (marks_of texts) ino mark)
    (length_marks new ∙ sym (length-set (marks_of texts) ino mark ∙ length_marks texts)) same
  where
    same : (i : ℕ) (d : Bool) → i < length (marks_of new) → get_or (marks_of new) i d ≡ get_or (set (marks_of texts) ino mark) i d
    same i d l =
        let low : i < 65536 = omega (arith, l, length_marks new) in
        get_or_default (marks_of new) i d false l
        ∙ (mark_at new i low
        ∙ (by low
        ∙ get_or_default (set (marks_of texts) ino mark) i false d
        (omega (arith, low, length-set (marks_of texts) ino mark, length_marks texts))))
      where
        by : i < 65536 → list_any (is_text_of i) new ≡ get_or (set (marks_of texts) ino mark) i false
        by low = elim (cases_eq i ino) [
          | inl here ↦
              ap (λ n. list_any (is_text_of n) new) here
              ∙ (is ∙ sym (ap (λ n. get_or (set (marks_of texts) ino mark) n false) here
              ∙ get_or-set_same (marks_of texts) ino mark false (omega (arith, low, here, length_marks texts))))
          | inr other ↦
              others i other ∙ (sym (mark_at texts i low) ∙ sym (get_or-set_other (marks_of texts) ino i mark false other))
        ]

-- or all are
pub marks_same : (texts : List (Option Text)) (t : ℕ) (o : Option Text)
    → ((ino : ℕ) → is_text_of ino o ≡ is_text_of ino (get_or texts t None))
    → marks_of (set texts t o) ≡ marks_of texts
unfolding marks_of
marks_same texts t o same =
    λ i. map (λ ino. any_same (is_text_of ino) texts t o None (same ino) i) (range_with_len 0 INODE_NUMBERS)

-- A text comes into an entry that is free, or goes from an entry.
module _ (texts : List (Option Text)) (t : ℕ) (text : Text) where
  other_ino : (i : ℕ) → i ≢ text.ino → is_text_of i (Some text) ≡ false
  other_ino i other = ne_eqb text.ino i (λ e. other (sym e))

  pub marks_come : t < length texts → get_or texts t None ≡ None
      → marks_of (set texts t (Some text)) ≡ set (marks_of texts) text.ino true
  marks_come low free =
      marks_set texts (set texts t (Some text)) text.ino true
      (list_any_at (is_text_of text.ino) (set texts t (Some text)) t None (omega (arith, low, length-set texts t (Some text)))
      (ap (is_text_of text.ino) (get_or-set_same texts t (Some text) None low) ∙ eq-eqb text.ino text.ino refl))
      (λ i other. any_same (is_text_of i) texts t (Some text) None (other_ino i other ∙ sym (ap (is_text_of i) free)))

  pub marks_go : t < length texts → get_or texts t None ≡ Some text
      → ((r : ℕ) → is_text_of text.ino (get_or texts r None) ≡ true → r ≡ t)
      → marks_of (set texts t None) ≡ set (marks_of texts) text.ino false
  marks_go low here alone =
      marks_set texts (set texts t None) text.ino false
      (any_none (is_text_of text.ino) (set texts t None) None gone)
      (λ i other. any_same (is_text_of i) texts t None None (sym (ap (is_text_of i) here ∙ other_ino i other)))
    where
      gone : (r : ℕ) → is_text_of text.ino (get_or (set texts t None) r None) ≡ false
      gone r = elim (cases_eq r t) [
        | inl is ↦ ap (λ n. is_text_of text.ino (get_or (set texts t None) n None)) is
            ∙ ap (is_text_of text.ino) (get_or-set_same texts t None None low)
        | inr other ↦ ap (is_text_of text.ino) (get_or-set_other texts t r None None other)
            ∙ by (is_text_of text.ino (get_or texts r None)) refl other
      ]
        where
          by : (b : Bool) → is_text_of text.ino (get_or texts r None) ≡ b → r ≢ t → b ≡ false
          by true e other = absurd (other (alone r e))
          by false e other = refl

  -- no other text has the mark
  pub is_marked_there : t < length texts → get_or texts t None ≡ Some text → text.ino < 65536
      → get_or (marks_of texts) text.ino false ≡ true
  is_marked_there low here number =
      mark_at texts text.ino number
      ∙ list_any_at (is_text_of text.ino) texts t None low (ap (is_text_of text.ino) here ∙ eq-eqb text.ino text.ino refl)
