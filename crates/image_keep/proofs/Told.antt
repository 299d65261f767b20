-- U areas tell the sizes of texts, also after a change of one slot or of one text.
use Rattle.std.proofs.Common.{◌≡◌, ◌⊎◌, ℕ, ◌+◌, ◌<◌, ◌≤◌, inl, inr, List, length, get_or, set, cond, Bool, true, false, Option, Some, None, refl, sym, ap, subst, ◌∙◌, arith}
use Rattle.std.proofs.lemmas.Bool.{cases_eq, cases_lt}
use Rattle.std.proofs.lemmas.List.{get_or-set_same, get_or-set_other, set_past}
use Rattle.v6_base.specs.declared.entry.Place.{Place}
use Rattle.v6_base.specs.declared.entry.Place.TheVariants.{Core, Swap}
use Rattle.v6_base.specs.Image.{nseg}
use Rattle.u_area.specs.declared.area.UArea.{UArea}
use Rattle.text_tab.specs.declared.row.TextRow.{TextRow}
use Rattle.text_tab.specs.Table.{loaded_at, unloaded}
use Rattle.image_keep.specs.Kept.{Keeping, Nothing, Alive, Grave, Held, Shared, Kept, keeping, with_keeping, shared, with_shared, text_of, with_text_of, text_clicks, shared_clicks, bytes_in, changed, at_place, described, with_area, area_in, area_of, image_of, HasSizes, HasImage, HasGrave, IsKept}
use Rattle.image_keep.specs.SharedTexts.{with_text, filled, retexted}
use Rattle.image_keep.specs.Counts.{is_text}
use Rattle.image_keep.specs.Moves.{come_shared, leave_shared, text_need, swapped_in, swapped_out}
use Rattle.image_keep.specs.Told.{IsTold, AreTold}
use Rattle.image_keep.proofs.Frames.{keeping_same, keeping_other}

-- one slot keeps something else
pub told_slot : (k : Kept) (s : ℕ) (x : Keeping) → AreTold k → IsTold (text_clicks k (text_of k s)) (text_of k s) x → AreTold (with_keeping k s x)
told_slot k s x h own u = elim (cases_eq u s) [
  | inl e ↦ subst (λ j. IsTold (text_clicks k (text_of k j)) (text_of k j) (keeping (with_keeping k s x) j)) (sym e) (here (cases_lt s (length k.slots)))
  | inr ne ↦ subst (λ y. IsTold (text_clicks k (text_of k u)) (text_of k u) y) (sym (keeping_other k s u x ne)) (h u)
]
  where
    here : (s < length k.slots) ⊎ (length k.slots ≤ s) → IsTold (text_clicks k (text_of k s)) (text_of k s) (keeping (with_keeping k s x) s)
    here (inl low) = subst (λ y. IsTold (text_clicks k (text_of k s)) (text_of k s) y) (sym (keeping_same k s x low)) own
    here (inr past) = subst (λ (l : List Keeping). IsTold (text_clicks k (text_of k s)) (text_of k s) (get_or l s Nothing)) (sym (set_past k.slots s x past)) (h s)

pub told_nothing : (clicks : ℕ) (text : Option ℕ) → IsTold clicks text Nothing
told_nothing clicks text = record { text_size = λ held e. absurd (cc e); segments = λ held e. absurd (cc e); none = λ u b e. absurd (cc e) }

pub told_grave : (clicks : ℕ) (text : Option ℕ) (v : UArea) (b : ℕ) → text ≡ None → IsTold clicks text (Grave v b)
told_grave clicks text v b none = record { text_size = λ held e. absurd (cc e); segments = λ held e. absurd (cc e); none = λ u c e. none }

pub told_alive : (clicks : ℕ) (text : Option ℕ) (h : Held) → h.u.text_size ≡ clicks → nseg h.u.text_size + nseg h.u.data_size + nseg h.u.stack_size ≤ 8 → IsTold clicks text (Alive h)
told_alive clicks text h t n = record {
  text_size = λ held e. (let same : h ≡ held = cc e in subst (λ (i : Held). i.u.text_size ≡ clicks) same t);
  segments = λ held e. (let same : h ≡ held = cc e in subst (λ (i : Held). nseg i.u.text_size + nseg i.u.data_size + nseg i.u.stack_size ≤ 8) same n);
  none = λ u b e. absurd (cc e);
}

-- another place, or another text of as many clicks
pub told_place : (clicks : ℕ) (text : Option ℕ) (x : Keeping) (p : Place) → IsTold clicks text x → IsTold clicks text (at_place p x)
told_place clicks text Nothing p h = h
told_place clicks text (Alive held) p h = told_alive clicks text (record held { place = p }) (h.text_size held refl) (h.segments held refl)
told_place clicks text (Grave u b) p h = h

pub told_text : (clicks : ℕ) (text : Option ℕ) (x : Keeping) (bytes : List ℕ) → IsTold clicks text x → IsTold clicks text (with_text bytes x)
told_text clicks text Nothing bytes h = h
told_text clicks text (Alive held) bytes h = told_alive clicks text (record held { image = record held.image { text = bytes } }) (h.text_size held refl) (h.segments held refl)
told_text clicks text (Grave u b) bytes h = h

-- another u area with the same sizes
pub told_area : (clicks : ℕ) (text : Option ℕ) (x : Keeping) (u : UArea) → ((held : Held) → x ≡ Alive held → (u.text_size ≡ held.u.text_size) × (u.data_size ≡ held.u.data_size) × (u.stack_size ≡ held.u.stack_size))
    → IsTold clicks text x → IsTold clicks text (described u x)
told_area clicks text Nothing u same h = h
told_area clicks text (Alive held) u same h =
    let e = same held refl in
    told_alive clicks text (record held { u = u }) (e.0 ∙ h.text_size held refl)
    (subst (λ n. nseg n + nseg u.data_size + nseg u.stack_size ≤ 8) (sym e.0)
    (subst (λ n. nseg held.u.text_size + nseg n + nseg u.stack_size ≤ 8) (sym e.1)
    (subst (λ n. nseg held.u.text_size + nseg held.u.data_size + nseg n ≤ 8) (sym e.2) (h.segments held refl))))
told_area clicks text (Grave v b) u same h = h

-- one text is known otherwise, with as many clicks
pub clicks_same : (k : Kept) (t : ℕ) (x : Option Shared) (o : Option ℕ) → shared_clicks x ≡ shared_clicks (shared k t) → text_clicks (with_shared k t x) o ≡ text_clicks k o
clicks_same k t x None e = refl
clicks_same k t x (Some u) e = elim (cases_eq u t) [
  | inl d ↦ ap (λ j. shared_clicks (shared (with_shared k t x) j)) d ∙ here (cases_lt t (length k.texts)) ∙ ap (λ j. shared_clicks (shared k j)) (sym d)
  | inr ne ↦ ap shared_clicks (get_or-set_other k.texts t u x None ne)
]
  where
    here : (t < length k.texts) ⊎ (length k.texts ≤ t) → shared_clicks (shared (with_shared k t x) t) ≡ shared_clicks (shared k t)
    here (inl low) = ap shared_clicks (get_or-set_same k.texts t x None low) ∙ e
    here (inr past) = ap (λ (l : List (Option Shared)). shared_clicks (get_or l t None)) (set_past k.texts t x past)

pub told_shared : (k : Kept) (t : ℕ) (x : Option Shared) → shared_clicks x ≡ shared_clicks (shared k t) → AreTold k → AreTold (with_shared k t x)
told_shared k t x e h s = subst (λ n. IsTold n (text_of k s) (keeping k s)) (sym (clicks_same k t x (text_of k s) e)) (h s)

pub clicks_changed : (rule : TextRow → TextRow) → ((row : TextRow) → (rule row).clicks ≡ row.clicks) → (x : Option Shared) → shared_clicks (changed rule x) ≡ shared_clicks x
clicks_changed rule same None = refl
clicks_changed rule same (Some x) = same x.row

-- a slot has another text, and keeps something else
pub told_user : (k : Kept) (s : ℕ) (x : Keeping) (t : Option ℕ) → s < length k.slots → s < length k.users → AreTold k → IsTold (text_clicks k t) t x → AreTold (with_text_of (with_keeping k s x) s t)
told_user k s x t low seat h own u = elim (cases_eq u s) [
  | inl e ↦
      (let here : IsTold (text_clicks k (get_or (set k.users s t) s None)) (get_or (set k.users s t) s None) (keeping (with_keeping k s x) s) =
      subst (λ o. IsTold (text_clicks k o) o (keeping (with_keeping k s x) s)) (sym (get_or-set_same k.users s t None seat)) (subst (IsTold (text_clicks k t) t) (sym (keeping_same k s x low)) own) in
      subst (λ j. IsTold (text_clicks k (get_or (set k.users s t) j None)) (get_or (set k.users s t) j None) (keeping (with_keeping k s x) j)) (sym e) here)
  | inr ne ↦
      subst (λ o. IsTold (text_clicks k o) o (keeping (with_keeping k s x) u)) (sym (get_or-set_other k.users s u t None ne))
      (subst (IsTold (text_clicks k (text_of k u)) (text_of k u)) (sym (keeping_other k s u x ne)) (h u))
]

-- what a slot keeps no more, or keeps of one who has ended
pub bare_told : (i j k : Kept) (s : ℕ) → i ≡ k → j ≡ with_keeping k s Nothing → AreTold i → AreTold j
bare_told i j k s view is told = subst AreTold (sym is) (told_slot k s Nothing (subst AreTold view told) (told_nothing (text_clicks k (text_of k s)) (text_of k s)))

pub grave_told : (i j k : Kept) (s : ℕ) (u : UArea) (b : ℕ) → i ≡ k → j ≡ with_keeping k s (Grave u b) → text_of k s ≡ None → AreTold i → AreTold j
grave_told i j k s u b view is none told = subst AreTold (sym is) (told_slot k s (Grave u b) (subst AreTold view told) (told_grave (text_clicks k (text_of k s)) (text_of k s) u b none))

-- a u area with the sizes of an image has those that the image's own tells
pub area_sizes : (k : Kept) (s : ℕ) (u : UArea) → IsKept k → HasImage k s → HasSizes u (image_of k s)
    → (u.text_size ≡ (area_of k s).text_size) × (u.data_size ≡ (area_of k s).data_size) × (u.stack_size ≡ (area_of k s).stack_size)
area_sizes k s u holds has a =
    let b = holds.sizes s has in
    let x = a.text_size in let y = b.text_size in let d = a.data_size in let e = b.data_size in let p = a.stack_size in let q = b.stack_size in
    (omega (arith, x, y), omega (arith, d, e), omega (arith, p, q))

pub area_told : (i j k : Kept) (s : ℕ) (u : UArea) → i ≡ k → j ≡ with_area k s u → (u.text_size ≡ (area_of k s).text_size) × (u.data_size ≡ (area_of k s).data_size) × (u.stack_size ≡ (area_of k s).stack_size) → AreTold i → AreTold j
unfolding with_area
area_told i j k s u view is same told =
    let t : AreTold k = subst AreTold view told in
    subst AreTold (sym is) (told_slot k s (described u (keeping k s)) t
    (told_area (text_clicks k (text_of k s)) (text_of k s) (keeping k s) u
    (λ held e. subst (λ (v : UArea). (u.text_size ≡ v.text_size) × (u.data_size ≡ v.data_size) × (u.stack_size ≡ v.stack_size)) (ap area_in e) same) (t s)))

-- an image comes into core, or goes out
loaded_clicks : (at : ℕ) (row : TextRow) → (loaded_at at row).clicks ≡ row.clicks
loaded_clicks at row = refl

unloaded_clicks : (row : TextRow) → (unloaded row).clicks ≡ row.clicks
unloaded_clicks row = refl

told_placed : (j k : Kept) (s : ℕ) (place : Place) → j.slots ≡ k.slots → j.users ≡ k.users → AreTold j → AreTold (with_keeping j s (at_place place (keeping k s)))
told_placed j k s place slots users told = told_slot j s (at_place place (keeping k s)) told
    (subst (λ (l : List Keeping). IsTold (text_clicks j (text_of j s)) (text_of j s) (at_place place (get_or l s Nothing))) slots
    (told_place (text_clicks j (text_of j s)) (text_of j s) (keeping j s) place (told s)))

told_come : (k : Kept) (x : Option ℕ) (at s : ℕ) (place : Place) → AreTold k → AreTold (with_keeping (come_shared k x at) s (at_place place (keeping k s)))
told_come k None at s place told = told_placed k k s place refl refl told
told_come k (Some t) at s place told = told_placed (come_shared k (Some t) at) k s place refl refl (told_shared k t (changed (loaded_at at) (shared k t)) (clicks_changed (loaded_at at) (loaded_clicks at) (shared k t)) told)

told_leave : (k : Kept) (x : Option ℕ) (s : ℕ) (place : Place) → AreTold k → AreTold (with_keeping (leave_shared k x) s (at_place place (keeping k s)))
told_leave k None s place told = told_placed k k s place refl refl told
told_leave k (Some t) s place told = told_placed (leave_shared k (Some t)) k s place refl refl (told_shared k t (changed unloaded (shared k t)) (clicks_changed unloaded unloaded_clicks (shared k t)) told)

pub in_told : (i j k : Kept) (s at : ℕ) → i ≡ k → j ≡ swapped_in k s (Some at) → AreTold i → AreTold j
unfolding swapped_in
in_told i j k s at view is told = subst AreTold (sym is) (told_come k (text_of k s) at s (Core (at + text_need k (text_of k s))) (subst AreTold view told))

pub out_told : (i j k : Kept) (s b : ℕ) → i ≡ k → j ≡ swapped_out k s (Some b) → AreTold i → AreTold j
unfolding swapped_out
out_told i j k s b view is told = subst AreTold (sym is) (told_leave k (text_of k s) s (Swap b) (subst AreTold view told))

-- bytes are put into a text
told_retexted : (clicks t : ℕ) (text user : Option ℕ) (bytes : List ℕ) (x : Keeping) → IsTold clicks text x → IsTold clicks text (retexted t bytes user x)
told_retexted clicks t text user bytes x h = by (is_text t user)
  where
    by : (b : Bool) → IsTold clicks text (cond b (with_text bytes x) x)
    by true = told_text clicks text x bytes h
    by false = h

filled_clicks : (at : ℕ) (bytes : List ℕ) (x : Option Shared) → shared_clicks (filled at bytes x) ≡ shared_clicks x
filled_clicks at bytes None = refl
filled_clicks at bytes (Some x) = refl

pub filled_told : (i j k : Kept) (t at : ℕ) (bytes : List ℕ) → i ≡ k → j.texts ≡ set k.texts t (filled at bytes (shared k t)) → j.users ≡ k.users
    → ((s : ℕ) → keeping j s ≡ retexted t (bytes_in (filled at bytes (shared k t))) (text_of k s) (keeping k s)) → AreTold i → AreTold j
filled_told i j k t at bytes view texts users slots told s =
    let x : Option Shared = filled at bytes (shared k t) in
    let one : AreTold (with_shared k t x) = told_shared k t x (filled_clicks at bytes (shared k t)) (subst AreTold view told) in
    let user : text_of j s ≡ text_of k s = ap (λ (l : List (Option ℕ)). get_or l s None) users in
    let clicks : text_clicks j (text_of j s) ≡ text_clicks (with_shared k t x) (text_of k s) = ap (text_clicks j) user ∙ same (text_of k s) in
    subst (λ o. IsTold (text_clicks j (text_of j s)) o (keeping j s)) (sym user)
    (subst (λ n. IsTold n (text_of k s) (keeping j s)) (sym clicks)
    (subst (IsTold (text_clicks (with_shared k t x) (text_of k s)) (text_of k s)) (sym (slots s))
    (told_retexted (text_clicks (with_shared k t x) (text_of k s)) t (text_of k s) (text_of k s) (bytes_in x) (keeping k s) (one s))))
  where
    same : (o : Option ℕ) → text_clicks j o ≡ text_clicks (with_shared k t (filled at bytes (shared k t))) o
    same None = refl
    same (Some u) = ap (λ (l : List (Option Shared)). shared_clicks (get_or l u None)) texts

-- one who has ended has no text
pub grave_text : (i k : Kept) (s : ℕ) → i ≡ k → AreTold i → HasGrave k s → text_of k s ≡ None
grave_text i k s view told has = (subst AreTold view told s).none has.0 has.1 has.2
