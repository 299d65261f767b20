-- U areas tell the sizes of texts, also when a text is made, joined, left, or comes into core or leaves it.
use Rattle.std.proofs.Common.{◌≡◌, ◌≢◌, ℕ, ◌<◌, ◌≤◌, ◌⊎◌, inl, inr, List, [], length, get_or, set, Bool, true, false, Option, Some, None, refl, sym, ap, subst, ◌∙◌, arith}
use Rattle.std.proofs.lemmas.Bool.{cases_eq, cases_lt}
use Rattle.std.proofs.lemmas.List.{get_or-set_same, get_or-set_other, set_past}
use Rattle.text_tab.specs.declared.left.Left.{Left}
use Rattle.text_tab.specs.declared.left.Left.TheVariants as left_is
use Rattle.text_tab.specs.Table.{joined, left, remaining}
use Rattle.image_keep.specs.Kept.{Keeping, Nothing, Alive, Grave, Shared, Kept, keeping, with_keeping, shared, with_shared, text_of, with_text_of, text_clicks, shared_clicks, changed}
use Rattle.image_keep.specs.SharedTexts.{with_new_text, with_joined_text, with_left_text, zeros_text, textless, with_row, shared_left, left_core, is_loaded}
use Rattle.image_keep.specs.Told.{IsTold, AreTold}
use Rattle.image_keep.proofs.Frames.{keeping_same, keeping_other}
use Rattle.image_keep.proofs.Told.{told_nothing, told_alive, told_shared, clicks_changed}

-- One text is known otherwise. Who has it sees as many clicks.
pub told_entry : (k : Kept) (t : ℕ) (x : Option Shared) → ((s : ℕ) → text_of k s ≡ Some t → shared_clicks x ≡ shared_clicks (shared k t)) → AreTold k → AreTold (with_shared k t x)
told_entry k t x same h s = subst (λ n. IsTold n (text_of k s) (keeping k s)) (sym (by (text_of k s) refl)) (h s)
  where
    here : (t < length k.texts) ⊎ (length k.texts ≤ t) → shared_clicks x ≡ shared_clicks (shared k t) → shared_clicks (shared (with_shared k t x) t) ≡ shared_clicks (shared k t)
    here (inl low) e = ap shared_clicks (get_or-set_same k.texts t x None low) ∙ e
    here (inr past) e = ap (λ (l : List (Option Shared)). shared_clicks (get_or l t None)) (set_past k.texts t x past)

    by : (o : Option ℕ) → text_of k s ≡ o → text_clicks (with_shared k t x) o ≡ text_clicks k o
    by None e = refl
    by (Some u) e = elim (cases_eq u t) [
      | inl d ↦ ap (λ j. shared_clicks (shared (with_shared k t x) j)) d ∙ here (cases_lt t (length k.texts)) (same s (e ∙ ap Some d)) ∙ ap (λ j. shared_clicks (shared k j)) (sym d)
      | inr ne ↦ ap shared_clicks (get_or-set_other k.texts t u x None ne)
    ]

-- one slot has another text
pub told_seat : (k : Kept) (s : ℕ) (t : Option ℕ) → AreTold k → IsTold (text_clicks k t) t (keeping k s) → AreTold (with_text_of k s t)
told_seat k s t h own u = elim (cases_eq u s) [
  | inl e ↦ subst (λ j. IsTold (text_clicks k (text_of (with_text_of k s t) j)) (text_of (with_text_of k s t) j) (keeping k j)) (sym e) (here (cases_lt s (length k.users)))
  | inr ne ↦ subst (λ o. IsTold (text_clicks k o) o (keeping k u)) (sym (get_or-set_other k.users s u t None ne)) (h u)
]
  where
    here : (s < length k.users) ⊎ (length k.users ≤ s) → IsTold (text_clicks k (text_of (with_text_of k s t) s)) (text_of (with_text_of k s t) s) (keeping k s)
    here (inl low) = subst (λ o. IsTold (text_clicks k o) o (keeping k s)) (sym (get_or-set_same k.users s t None low)) own
    here (inr past) = subst (λ (l : List (Option ℕ)). IsTold (text_clicks k (get_or l s None)) (get_or l s None) (keeping k s)) (sym (set_past k.users s t past)) (h s)

seat_nothing : (k : Kept) (s : ℕ) (t : Option ℕ) → keeping k s ≡ Nothing → AreTold k → AreTold (with_text_of k s t)
seat_nothing k s t e h = told_seat k s t h (subst (IsTold (text_clicks k t) t) (sym e) (told_nothing (text_clicks k t) t))

pub told_new : (k : Kept) (s t ino clicks b : ℕ) → AreTold k → keeping k s ≡ Nothing → ((u : ℕ) → text_of k u ≢ Some t) → AreTold (with_new_text k s t ino clicks b)
unfolding with_new_text
told_new k s t ino clicks b h e nobody =
    seat_nothing (with_shared k t (Some (zeros_text ino clicks b))) s (Some t) e (told_entry k t (Some (zeros_text ino clicks b)) (λ u d. absurd (nobody u d)) h)

pub told_joined : (k : Kept) (s t : ℕ) → AreTold k → keeping k s ≡ Nothing → AreTold (with_joined_text k s t)
unfolding with_joined_text
told_joined k s t h e =
    seat_nothing (with_shared k t (changed joined (shared k t))) s (Some t) e (told_shared k t (changed joined (shared k t)) (clicks_changed joined (λ r. refl) (shared k t)) h)

-- without a text an image takes no more segments
told_textless : (clicks : ℕ) (text : Option ℕ) (x : Keeping) → IsTold clicks text x → IsTold 0 None (textless x)
told_textless clicks text Nothing h = told_nothing 0 None
told_textless clicks text (Alive held) h =
    told_alive 0 None (record held { u = record held.u { text_size = 0 }; image = record held.image { text = [] } }) refl (let a = h.segments held refl in omega (arith, a))
told_textless clicks text (Grave u b) h = record { text_size = λ held e. absurd (cc e); segments = λ held e. absurd (cc e); none = λ v c e. refl }

left_clicks : (is_in sticky : Bool) (x : Option Shared) → ((y : Shared) → x ≡ Some y → left y.row sticky ≢ left_is.Gone) → shared_clicks (shared_left is_in sticky x) ≡ shared_clicks x
left_clicks is_in sticky None stays = refl
left_clicks is_in sticky (Some y) stays = by (left y.row sticky) refl is_in
  where
    by : (l : Left) → left y.row sticky ≡ l → (b : Bool) → shared_clicks (with_row y.bytes (remaining l (left_core b y.row))) ≡ y.row.clicks
    by left_is.Used e true = refl
    by left_is.Used e false = refl
    by left_is.Kept e true = refl
    by left_is.Kept e false = refl
    by left_is.Gone e b = absurd (stays y refl e)

-- A slot leaves its text: the others see as many clicks, since an entry that others use doesn't go.
told_other : (k : Kept) (s : ℕ) (x : Keeping) → s < length k.slots → s < length k.users → AreTold k → IsTold 0 None x → AreTold (with_text_of (with_keeping k s x) s None)
told_other k s x low seat h own u = elim (cases_eq u s) [
  | inl e ↦
      (let here : IsTold (text_clicks k (get_or (set k.users s None) s None)) (get_or (set k.users s None) s None) (keeping (with_keeping k s x) s) =
      subst (λ o. IsTold (text_clicks k o) o (keeping (with_keeping k s x) s)) (sym (get_or-set_same k.users s None None seat)) (subst (IsTold 0 None) (sym (keeping_same k s x low)) own) in
      subst (λ j. IsTold (text_clicks k (get_or (set k.users s None) j None)) (get_or (set k.users s None) j None) (keeping (with_keeping k s x) j)) (sym e) here)
  | inr ne ↦
      subst (λ o. IsTold (text_clicks k o) o (keeping (with_keeping k s x) u)) (sym (get_or-set_other k.users s u None None ne))
      (subst (IsTold (text_clicks k (text_of k u)) (text_of k u)) (sym (keeping_other k s u x ne)) (h u))
]

pub told_left : (k : Kept) (s t : ℕ) (sticky : Bool) → s < length k.slots → s < length k.users → AreTold k
    → ((u : ℕ) → text_of (with_text_of k s None) u ≡ Some t → (y : Shared) → shared k t ≡ Some y → left y.row sticky ≢ left_is.Gone)
    → AreTold (with_left_text k s sticky (Some t))
unfolding with_left_text
told_left k s t sticky low seat h stays =
    let x : Keeping = textless (keeping k s) in
    let now : Kept = with_text_of (with_keeping k s x) s None in
    told_entry now t (shared_left (is_loaded (keeping k s)) sticky (shared k t))
    (λ u e. left_clicks (is_loaded (keeping k s)) sticky (shared k t) (stays u e))
    (told_other k s x low seat h (told_textless (text_clicks k (text_of k s)) (text_of k s) (keeping k s) (h s)))
