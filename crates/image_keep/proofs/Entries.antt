-- What becomes of the memory when the entry of a text changes.
use Rattle.std.proofs.Common.{◌≡◌, ◌≢◌, ℕ, ◌<◌, ◌==◌, inl, inr, List, length, set, Option, Some, None, refl, sym, ap, subst, ◌∙◌, arith}
use Rattle.std.proofs.lemmas.Bool.{cases_lt, cases_eq, eqb-true, eq-eqb}
use Rattle.std.proofs.lemmas.List.{get_or-set_same, get_or-set_other, get_or_past}
use Rattle.std.proofs.lemmas.Option.{none-some, same_Some}
use Rattle.text_tab.specs.declared.row.TextRow.{TextRow}
use Rattle.text_tab.specs.Table.{text_at}
use Rattle.image_keep.specs.declared.row.Row.{Row}
use Rattle.image_keep.specs.Kept.{with_shared}
use Rattle.image_keep.specs.Memory.{Stock, no_row, row_at, Spot, no_spot, out_spot, in_spot, Owner, RowOf, OutOf, InOf, spot, AreApart, text_in, text_for, keeping_by, keeping_in, shared_in, kept_of, IsText, IsSound}
use Rattle.image_keep.proofs.Writes.{Wrote, IsOff, wrote_none, keeping_off, text_off, shared_off, holds_off, is_text_off, same_map, map_set_but, out_numbers, in_numbers, same_owner, turned, apart_none, four}

abbrev pub put_text : Stock → ℕ → Option TextRow → List ℕ → Stock
put_text v t o new = record v { line = new; texts = set v.texts t o }

-- The same text for each row, as its entry keeps its bytes, or as no row has it.
pub text_for_same : (v : Stock) (t : ℕ) (o : Option TextRow) (new : List ℕ) (a e : ℕ) (x : Option ℕ) → t < length v.texts → Wrote v.line new a e
    → ((u : ℕ) → u ≢ t → IsOff (spot v (OutOf u)) a e) → (x ≡ Some t → text_in new v.core o ≡ text_in v.line v.core (text_at v.texts t))
    → text_for new v.core (set v.texts t o) x ≡ text_for v.line v.core v.texts x
unfolding text_for
text_for_same v t o new a e None l w off same = refl
text_for_same v t o new a e (Some k) l w off same = elim (cases_eq k t) [
  | inl is ↦
      ap (λ j. text_in new v.core (text_at (set v.texts t o) j)) is
      ∙ ap (text_in new v.core) (get_or-set_same v.texts t o None l)
      ∙ same (ap Some is)
      ∙ ap (λ j. text_in v.line v.core (text_at v.texts j)) (sym is)
  | inr ne ↦
      ap (text_in new v.core) (get_or-set_other v.texts t k o None ne)
      ∙ text_off v.line new v.core a e (text_at v.texts k) w (off k ne)
]

pub text_kept : (v : Stock) (t : ℕ) (o : Option TextRow) (new : List ℕ) (a e : ℕ) → t < length v.texts → Wrote v.line new a e
    → ((s : ℕ) → IsOff (spot v (RowOf s)) a e) → ((u : ℕ) → u ≢ t → IsOff (spot v (OutOf u)) a e)
    → ((s : ℕ) → (row_at v.rows s).text ≡ Some t → text_in new v.core o ≡ text_in v.line v.core (text_at v.texts t))
    → kept_of (put_text v t o new) ≡ with_shared (kept_of v) t (shared_in new v.core o)
unfolding kept_of
text_kept v t o new a e l w rows outs same =
    four _ _ _ _ _ _ v.core
    (same_map (keeping_in v.line v.core v.texts) (keeping_in new v.core (set v.texts t o)) v.rows no_row (λ s.
    let r : Row = row_at v.rows s in
    ap (λ text. keeping_by new v.core text r.state r.data_size r.stack_size) (text_for_same v t o new a e r.text l w outs (same s))
    ∙ keeping_off v.line new v.core a e (text_for v.line v.core v.texts r.text) r.state r.data_size r.stack_size w (rows s)))
    (map_set_but (shared_in v.line v.core) (shared_in new v.core) v.texts None t o (λ u ne. shared_off v.line new v.core a e (text_at v.texts u) w (outs u ne)))
    refl

-- two owners get other ranges
pub data Which (o p q : Owner) : Type 0 where
  First : q ≡ o → Which o p q
  Second : q ≡ p → Which o p q
  Other : q ≢ o → q ≢ p → Which o p q

which : (o p q : Owner) → Which o p q
which o p q = elim (same_owner q o) [
  | inl e ↦ First e
  | inr n ↦ elim (same_owner q p) [ inl e ↦ Second e | inr m ↦ Other n m ]
]

pub apart_two : (f g : Owner → Spot) (o p : Owner) → ((q : Owner) → q ≢ o → q ≢ p → g q ≡ f q)
    → ((q : Owner) → q ≢ o → q ≢ p → AreApart (g o) (f q)) → ((q : Owner) → q ≢ o → q ≢ p → AreApart (g p) (f q)) → AreApart (g o) (g p)
    → ((q r : Owner) → q ≢ r → AreApart (f q) (f r)) → (q r : Owner) → q ≢ r → AreApart (g q) (g r)
apart_two f g o p same first second both all q r ne = by (which o p q) (which o p r)
  where
    at : (x y z w : Owner) → x ≡ z → y ≡ w → AreApart (g z) (g w) → AreApart (g x) (g y)
    at x y z w e d h = subst (λ a. AreApart (g a) (g y)) (sym e) (subst (λ a. AreApart (g z) (g a)) (sym d) h)

    by : Which o p q → Which o p r → AreApart (g q) (g r)
    by (First e) (First d) = absurd (ne (e ∙ sym d))
    by (First e) (Second d) = at q r o p e d both
    by (First e) (Other n m) = at q r o r e refl (subst (AreApart (g o)) (sym (same r n m)) (first r n m))
    by (Second e) (First d) = at q r p o e d (turned (g o) (g p) both)
    by (Second e) (Second d) = absurd (ne (e ∙ sym d))
    by (Second e) (Other n m) = at q r p r e refl (subst (AreApart (g p)) (sym (same r n m)) (second r n m))
    by (Other n m) (First d) = at q r q o refl d (subst (λ x. AreApart x (g o)) (sym (same q n m)) (turned (g o) (f q) (first q n m)))
    by (Other n m) (Second d) = at q r q p refl d (subst (λ x. AreApart x (g p)) (sym (same q n m)) (turned (g p) (f q) (second q n m)))
    by (Other n m) (Other i j) = subst (λ x. AreApart x (g r)) (sym (same q n m)) (subst (AreApart (f q)) (sym (same r i j)) (all q r ne))

text_spot : (v : Stock) (t : ℕ) (o : Option TextRow) (new : List ℕ) (p : Owner) → p ≢ OutOf t → p ≢ InOf t → spot (put_text v t o new) p ≡ spot v p
text_spot v t o new (RowOf u) n m = refl
text_spot v t o new (OutOf u) n m = ap (out_spot v.core) (get_or-set_other v.texts t u o None (λ e. n (ap OutOf e)))
text_spot v t o new (InOf u) n m = ap in_spot (get_or-set_other v.texts t u o None (λ e. m (ap InOf e)))

pub record IsTextFree (v : Stock) (t : ℕ) (o : Option TextRow) : Type 0 where
  pub out : (p : Owner) → p ≢ OutOf t → p ≢ InOf t → AreApart (out_spot v.core o) (spot v p)
  pub inner : (p : Owner) → p ≢ OutOf t → p ≢ InOf t → AreApart (in_spot o) (spot v p)
  pub both : AreApart (out_spot v.core o) (in_spot o)

pub text_sound : (v : Stock) (t : ℕ) (o : Option TextRow) (new : List ℕ) (a e : ℕ) → IsSound v → t < length v.texts → Wrote v.line new a e
    → ((p : Owner) → p ≢ OutOf t → p ≢ InOf t → IsOff (spot v p) a e) → ((row : TextRow) → o ≡ Some row → IsText new v.core row) → IsTextFree v t o
    → IsSound (put_text v t o new)
text_sound v t o new a e h l w off is free = record {
  slots = h.slots;
  size = w.size ∙ h.size;
  least = h.least;
  most = h.most;
  rows = λ s. holds_off v.line new v.core a e (row_at v.rows s).state (row_at v.rows s).data_size (row_at v.rows s).stack_size w (off (RowOf s) (λ x. cc x) (λ x. cc x)) (h.rows s);
  texts = λ u row there. elim (cases_eq u t) [
    | inl here ↦ is row (sym (ap (λ j. text_at (set v.texts t o) j) here ∙ get_or-set_same v.texts t o None l) ∙ there)
    | inr ne ↦
        (let old : text_at v.texts u ≡ Some row = sym (get_or-set_other v.texts t u o None ne) ∙ there in
        is_text_off v.line new v.core a e row w
        (subst (λ x. IsOff (out_spot v.core x) a e) old (off (OutOf u) (λ x. ne (out_numbers u t x)) (λ x. cc x)))
        (subst (λ x. IsOff (in_spot x) a e) old (off (InOf u) (λ x. cc x) (λ x. ne (in_numbers u t x))))
        (h.texts u row old))
  ];
  apart = apart_two (spot v) (spot (put_text v t o new)) (OutOf t) (InOf t) (text_spot v t o new)
      (λ p n m. subst (λ x. AreApart (out_spot v.core x) (spot v p)) (sym (get_or-set_same v.texts t o None l)) (free.out p n m))
      (λ p n m. subst (λ x. AreApart (in_spot x) (spot v p)) (sym (get_or-set_same v.texts t o None l)) (free.inner p n m))
      (subst (λ x. AreApart (out_spot v.core x) (in_spot x)) (sym (get_or-set_same v.texts t o None l)) free.both)
      h.apart;
}

-- An entry that goes, or whose text leaves core: nothing is written.
pub text_low : (texts : List (Option TextRow)) (t : ℕ) (row : TextRow) → text_at texts t ≡ Some row → t < length texts
text_low texts t row here = elim (cases_lt t (length texts)) [
  | inl low ↦ low
  | inr past ↦ absurd (none-some row (sym (get_or_past texts t None past) ∙ here))
]

-- the ranges of a text whose users change, but for the first in core and the last
pub same_in : (row new : TextRow) → new.clicks ≡ row.clicks → new.at ≡ row.at → (new.loaded == 0) ≡ (row.loaded == 0) → in_spot (Some new) ≡ in_spot (Some row)
same_in row new c a l = rw (l, c, a) refl

pub none_in : (row : TextRow) → row.loaded ≡ 0 → in_spot (Some row) ≡ no_spot
none_in row e = rw (eq-eqb row.loaded 0 e) refl

-- The spot of a text, by its row.
pub spot_out : (v : Stock) (t : ℕ) (row : TextRow) → text_at v.texts t ≡ Some row → spot v (OutOf t) ≡ out_spot v.core (Some row)
spot_out v t row here = ap (out_spot v.core) here

pub spot_in : (v : Stock) (t : ℕ) (row : TextRow) → text_at v.texts t ≡ Some row → spot v (InOf t) ≡ in_spot (Some row)
spot_in v t row here = ap in_spot here

-- one user more or fewer, with the same ranges
pub text_counted : (v : Stock) (t : ℕ) (row new : TextRow) → IsSound v → text_at v.texts t ≡ Some row → new.clicks ≡ row.clicks → new.block ≡ row.block → new.at ≡ row.at → (new.loaded == 0) ≡ (row.loaded == 0)
    → IsSound (put_text v t (Some new) v.line)
text_counted v t row new h here c b a l =
    let w = wrote_none v.line 0 0 in
    let outs : out_spot v.core (Some new) ≡ spot v (OutOf t) = rw (b, c) (sym (spot_out v t row here)) in
    let ins : in_spot (Some new) ≡ spot v (InOf t) = same_in row new c a l ∙ sym (spot_in v t row here) in
    text_sound v t (Some new) v.line 0 0 h (text_low v.texts t row here) w (λ p n m. inr (omega arith))
    (λ r e.
    let is : r ≡ new = sym (same_Some new r e) in
    let old = h.texts t row here in
    subst (IsText v.line v.core) (sym is) (record {
      some = rw c old.some;
      out = rw (b, c) old.out;
      within = λ ne. rw (a, c) (old.within (λ z. ne (nonzero l z)));
      copy = λ ne. rw (a, b, c) (old.copy (λ z. ne (nonzero l z)));
    }))
    (record {
      out = λ p n m. subst (λ x. AreApart x (spot v p)) (sym outs) (h.apart (OutOf t) p (λ x. n (sym x)));
      inner = λ p n m. subst (λ x. AreApart x (spot v p)) (sym ins) (h.apart (InOf t) p (λ x. m (sym x)));
      both = subst (λ x. AreApart x (in_spot (Some new))) (sym outs) (subst (AreApart (spot v (OutOf t))) (sym ins) (h.apart (OutOf t) (InOf t) (λ x. cc x)));
    })
  where
    nonzero : (new.loaded == 0) ≡ (row.loaded == 0) → row.loaded ≡ 0 → new.loaded ≡ 0
    nonzero same z = eqb-true new.loaded 0 (same ∙ eq-eqb row.loaded 0 z)

-- the last user in core leaves it, or the entry goes
pub text_out : (v : Stock) (t : ℕ) (row new : TextRow) → IsSound v → text_at v.texts t ≡ Some row → new.clicks ≡ row.clicks → new.block ≡ row.block → new.loaded ≡ 0
    → IsSound (put_text v t (Some new) v.line)
text_out v t row new h here c b z =
    let w = wrote_none v.line 0 0 in
    let outs : out_spot v.core (Some new) ≡ spot v (OutOf t) = rw (b, c) (sym (spot_out v t row here)) in
    let ins : in_spot (Some new) ≡ no_spot = none_in new z in
    text_sound v t (Some new) v.line 0 0 h (text_low v.texts t row here) w (λ p n m. inr (omega arith))
    (λ r e.
    let is : r ≡ new = sym (same_Some new r e) in
    let old = h.texts t row here in
    subst (IsText v.line v.core) (sym is) (record {
      some = rw c old.some;
      out = rw (b, c) old.out;
      within = λ ne. absurd (ne z);
      copy = λ ne. absurd (ne z);
    }))
    (record {
      out = λ p n m. subst (λ x. AreApart x (spot v p)) (sym outs) (h.apart (OutOf t) p (λ x. n (sym x)));
      inner = λ p n m. subst (λ x. AreApart x (spot v p)) (sym ins) (apart_none (spot v p));
      both = subst (AreApart (out_spot v.core (Some new))) (sym ins) (turned no_spot (out_spot v.core (Some new)) (apart_none (out_spot v.core (Some new))));
    })

pub text_gone : (v : Stock) (t : ℕ) → IsSound v → t < length v.texts → IsSound (put_text v t None v.line)
text_gone v t h l =
    text_sound v t None v.line 0 0 h l (wrote_none v.line 0 0) (λ p n m. inr (omega arith)) (λ r e. absurd (none-some r e))
    (record { out = λ p n m. apart_none (spot v p); inner = λ p n m. apart_none (spot v p); both = apart_none no_spot })

pub ruleset texts = (text_kept, text_sound, text_counted, text_out, text_gone)
