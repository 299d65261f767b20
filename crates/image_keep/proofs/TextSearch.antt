-- What is kept finds the texts that the table finds.
use Rattle.std.proofs.Common.{◌≡◌, ◌∙◌, ℕ, ◌<◌, Bool, true, not, List, [], ◌∷◌, length, map, cond, nat_lt, Option, Some, None, is_none, IsSome, refl, sym, ap, subst}
use Rattle.std.specs.List.{position, position_or_len, prefix_len}
use Rattle.std.proofs.lemmas.Bool.{false≢true}
use Rattle.std.proofs.lemmas.List.{length-map}
use Rattle.std.proofs.lemmas.List.Quantifiers.{position-Some}
use Rattle.text_tab.specs.declared.row.TextRow.{TextRow}
use Rattle.text_tab.specs.Table.{text_at, row_of as text_row_of, is_of, found, free_entry, Finds}
use Rattle.image_keep.specs.Kept.{Kept, Shared, shared}
use Rattle.image_keep.specs.Memory.{Stock, text_in, shared_in, kept_of}
use Rattle.image_keep.specs.SharedTexts.{is_of_inode, found_text, FindsText, free_text, row_in}
use Rattle.image_keep.proofs.Places.{shared_at}

prefix_same : {X Y : Type 0} (f : X → Y) (p : X → Bool) (q : Y → Bool) → ((x : X) → q (f x) ≡ p x) → (xs : List X) → prefix_len q (map f xs) ≡ prefix_len p xs
prefix_same f p q h [] = refl
prefix_same f p q h (x ∷ xs) = rw (h x, prefix_same f p q h xs) refl

-- a search of a list that a function made
pub position_map : {X Y : Type 0} (f : X → Y) (p : X → Bool) (q : Y → Bool) → ((x : X) → q (f x) ≡ p x) → (xs : List X) → position q (map f xs) ≡ position p xs
position_map f p q h xs =
    let same : position_or_len q (map f xs) ≡ position_or_len p xs = prefix_same f (λ x. not (p x)) (λ y. not (q y)) (λ x. ap not (h x)) xs in
    ap (λ n. cond (nat_lt n (length (map f xs))) (Some n) None) same ∙ ap (λ m. cond (nat_lt (position_or_len p xs) m) (Some (position_or_len p xs)) None) (length-map xs f)

of_inode : (line : List ℕ) (core ino : ℕ) (o : Option TextRow) → is_of_inode ino (shared_in line core o) ≡ is_of ino o
of_inode line core ino None = refl
of_inode line core ino (Some row) = refl

none_in : (line : List ℕ) (core : ℕ) (o : Option TextRow) → is_none (shared_in line core o) ≡ is_none o
none_in line core None = refl
none_in line core (Some row) = refl

pub found_is : (v : Stock) (k : Kept) (ino : ℕ) → kept_of v ≡ k → found v.texts ino ≡ found_text k ino
unfolding kept_of
found_is v k ino view = sym (position_map (shared_in v.line v.core) (is_of ino) (is_of_inode ino) (of_inode v.line v.core ino) v.texts) ∙ ap (λ j. found_text j ino) view

pub free_is : (v : Stock) (k : Kept) → kept_of v ≡ k → free_entry v.texts ≡ free_text k
unfolding kept_of
free_is v k view = sym (position_map (shared_in v.line v.core) is_none is_none (none_in v.line v.core) v.texts) ∙ ap free_text view

-- the lowest free entry is free
pub record IsEntry (texts : List (Option TextRow)) (t : ℕ) : Type 0 where
  pub low : t < length texts
  pub free : text_at texts t ≡ None

pub entry_free : (texts : List (Option TextRow)) (t : ℕ) → free_entry texts ≡ Some t → IsEntry texts t
entry_free texts t e = let one = position-Some is_none texts t None e in record { low = one.0; free = free_of (text_at texts t) one.1 }
  where
    free_of : (o : Option TextRow) → is_none o ≡ true → o ≡ None
    free_of None d = refl
    free_of (Some row) d = absurd (false≢true d)

-- what the table knows of a text
pub row_is : (v : Stock) (k : Kept) (t : ℕ) → kept_of v ≡ k → text_row_of (text_at v.texts t) ≡ row_in (shared k t)
row_is v k t view = by (text_at v.texts t) ∙ sym (ap row_in (shared_at v t)) ∙ ap (λ j. row_in (shared j t)) view
  where
    by : (o : Option TextRow) → text_row_of o ≡ row_in (shared_in v.line v.core o)
    by None = refl
    by (Some row) = refl

pub used_is : (v : Stock) (k : Kept) (t : ℕ) → kept_of v ≡ k → IsSome (shared k t) → IsSome (text_at v.texts t)
used_is v k t view e = by (text_at v.texts t) (subst IsSome (ap (λ j. shared j t) (sym view) ∙ shared_at v t) e)
  where
    by : (o : Option TextRow) → IsSome (shared_in v.line v.core o) → IsSome o
    by None d = d
    by (Some row) d = refl

-- what the table finds, in words
entry_shared : (line : List ℕ) (core : ℕ) (o : Option TextRow) (x : Shared) → shared_in line core o ≡ Some x → o ≡ Some x.row
entry_shared line core None x e = absurd (cc e)
entry_shared line core (Some row) x e = cc

entry_is : (o : Option TextRow) → IsSome o → o ≡ Some (text_row_of o)
entry_is None e = absurd (cc e)
entry_is (Some row) e = refl

pub finds_text : (v : Stock) (k : Kept) (ino : ℕ) (o : Option ℕ) → kept_of v ≡ k → Finds v.texts ino o → FindsText k ino o
finds_text v k ino None view h = λ t x here. h t x.row (entry_shared v.line v.core (text_at v.texts t) x (sym (shared_at v t) ∙ ap (λ j. shared j t) view ∙ here))
finds_text v k ino (Some t) view h = (
  record { row = text_row_of (text_at v.texts t); bytes = text_in v.line v.core (Some (text_row_of (text_at v.texts t))) },
  sym (ap (λ j. shared j t) view) ∙ shared_at v t ∙ ap (shared_in v.line v.core) (entry_is (text_at v.texts t) h.used),
  h.is,
)
