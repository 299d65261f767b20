-- What a change of one slot comes to, and what it leaves.
use Rattle.std.proofs.Common.{◌≡◌, ◌≢◌, ◌<◌, ℕ, true, List, length, get_or, refl, sym, ap, ◌∙◌, inl, inr}
use Rattle.std.proofs.lemmas.Bool.{cases_lt, cases_eq, false≢true}
use Rattle.std.proofs.lemmas.List.{get_or-set_same, get_or-set_other, get_or_past, set-get_or, set-set, set_past}
use Rattle.v6_base.specs.Image.{Image}
use Rattle.u_area.specs.declared.area.UArea.{UArea}
use Rattle.image_keep.specs.Kept.{Held, Keeping, Nothing, Alive, Grave, Kept, keeping, with_keeping, is_alive, image_in, area_in, image_of, area_of, imaged, described, with_image, with_area, no_image, HasImage}
use Rattle.image_keep.specs.Lent.{left_of}

-- a slot after a change of it, and of another one
pub keeping_same : (k : Kept) (s : ℕ) (x : Keeping) → s < length k.slots → keeping (with_keeping k s x) s ≡ x
keeping_same k s x low = get_or-set_same k.slots s x Nothing low

pub keeping_other : (k : Kept) (s t : ℕ) (x : Keeping) → t ≢ s → keeping (with_keeping k s x) t ≡ keeping k t
keeping_other k s t x other = get_or-set_other k.slots s t x Nothing other

pub keeping_twice : (k : Kept) (s : ℕ) (x y : Keeping) → with_keeping (with_keeping k s x) s y ≡ with_keeping k s y
keeping_twice k s x y = ap (λ (l : List Keeping). record k { slots = l }) (set-set k.slots s x y)

pub keeping_back : (k : Kept) (s : ℕ) → with_keeping k s (keeping k s) ≡ k
keeping_back k s = ap (λ (l : List Keeping). record k { slots = l }) (set-get_or k.slots s Nothing)

-- a slot that keeps something is one of the slots
pub alive_low : (slots : List Keeping) (s : ℕ) → is_alive (get_or slots s Nothing) ≡ true → s < length slots
alive_low slots s is = elim (cases_lt s (length slots)) [
  | inl low ↦ low
  | inr past ↦ absurd (false≢true (sym (ap is_alive (get_or_past slots s Nothing past)) ∙ is))
]

pub image_alive : (k : Kept) (s : ℕ) → HasImage k s → is_alive (keeping k s) ≡ true
image_alive k s has = ap is_alive has.1

alive_by : (x : Keeping) → is_alive x ≡ true → (held : Held) × (x ≡ Alive held)
alive_by Nothing is = absurd (false≢true is)
alive_by (Alive held) is = (held, refl)
alive_by (Grave u block) is = absurd (false≢true is)

pub alive_image : (k : Kept) (s : ℕ) → is_alive (keeping k s) ≡ true → HasImage k s
alive_image k s is = alive_by (keeping k s) is

-- a slot's image is another one
pub slot_imaged : (k : Kept) (s : ℕ) (m : Image) → keeping (with_image k s m) s ≡ imaged m (keeping k s)
unfolding with_image
slot_imaged k s m = elim (cases_lt s (length k.slots)) [
  | inl low ↦ keeping_same k s (imaged m (keeping k s)) low
  | inr past ↦
      ap (λ (l : List Keeping). get_or l s Nothing) (set_past k.slots s (imaged m (keeping k s)) past)
      ∙ (get_or_past k.slots s Nothing past ∙ sym (ap (imaged m) (get_or_past k.slots s Nothing past)))
]

imaged_twice : (m n : Image) (x : Keeping) → imaged n (imaged m x) ≡ imaged n x
imaged_twice m n Nothing = refl
imaged_twice m n (Alive held) = refl
imaged_twice m n (Grave u block) = refl

imaged_back : (x : Keeping) → imaged (image_in x) x ≡ x
imaged_back Nothing = refl
imaged_back (Alive held) = refl
imaged_back (Grave u block) = refl

pub image_twice : (k : Kept) (s : ℕ) (m n : Image) → with_image (with_image k s m) s n ≡ with_image k s n
unfolding with_image
image_twice k s m n =
    ap (λ x. with_keeping (with_image k s m) s (imaged n x)) (slot_imaged k s m)
    ∙ ap (with_keeping (with_image k s m) s) (imaged_twice m n (keeping k s))
    ∙ keeping_twice k s (imaged m (keeping k s)) (imaged n (keeping k s))

pub image_back : (k : Kept) (s : ℕ) → with_image k s (image_of k s) ≡ k
unfolding with_image
image_back k s = ap (with_keeping k s) (imaged_back (keeping k s)) ∙ keeping_back k s

-- After a loan of a slot's image all is as it was, but for that image.
pub after : (k w : Kept) (s : ℕ) → left_of w s ≡ left_of k s → w ≡ with_image k s (image_of w s)
unfolding left_of
after k w s same =
    let m : Image = image_of w s in
    sym (image_twice w s no_image m ∙ image_back w s) ∙ (ap (λ l. with_image l s m) same ∙ image_twice k s no_image m)

pub left_image : (k : Kept) (s : ℕ) (m : Image) → left_of (with_image k s m) s ≡ left_of k s
unfolding left_of
left_image k s m = image_twice k s m no_image

-- what a slot with another image has, and what the other slots have
alive_imaged : (m : Image) (x : Keeping) → is_alive (imaged m x) ≡ is_alive x
alive_imaged m Nothing = refl
alive_imaged m (Alive held) = refl
alive_imaged m (Grave u block) = refl

image_imaged : (m : Image) (x : Keeping) → is_alive x ≡ true → image_in (imaged m x) ≡ m
image_imaged m Nothing is = absurd (false≢true is)
image_imaged m (Alive held) is = refl
image_imaged m (Grave u block) is = absurd (false≢true is)

area_imaged : (m : Image) (x : Keeping) → area_in (imaged m x) ≡ area_in x
area_imaged m Nothing = refl
area_imaged m (Alive held) = refl
area_imaged m (Grave u block) = refl

pub with_image_same : (k : Kept) (s : ℕ) (m : Image) → is_alive (keeping k s) ≡ true → image_of (with_image k s m) s ≡ m
with_image_same k s m is = ap image_in (slot_imaged k s m) ∙ image_imaged m (keeping k s) is

pub with_image_other : (k : Kept) (s t : ℕ) (m : Image) → t ≢ s → keeping (with_image k s m) t ≡ keeping k t
unfolding with_image
with_image_other k s t m other = keeping_other k s t (imaged m (keeping k s)) other

kept_by_image : {X : Type 0} (f : Keeping → X) (k : Kept) (s t : ℕ) (m : Image) → (f (imaged m (keeping k s)) ≡ f (keeping k s)) → f (keeping (with_image k s m) t) ≡ f (keeping k t)
kept_by_image f k s t m same = elim (cases_eq t s) [
  | inl here ↦ ap (λ r. f (keeping (with_image k s m) r)) here ∙ (ap f (slot_imaged k s m) ∙ (same ∙ ap (λ r. f (keeping k r)) (sym here)))
  | inr other ↦ ap f (with_image_other k s t m other)
]

pub with_image_alive : (k : Kept) (s t : ℕ) (m : Image) → is_alive (keeping (with_image k s m) t) ≡ is_alive (keeping k t)
with_image_alive k s t m = kept_by_image is_alive k s t m (alive_imaged m (keeping k s))

pub with_image_area : (k : Kept) (s t : ℕ) (m : Image) → area_of (with_image k s m) t ≡ area_of k t
with_image_area k s t m = kept_by_image area_in k s t m (area_imaged m (keeping k s))

pub with_image_has : (k : Kept) (s t : ℕ) (m : Image) → HasImage k t → HasImage (with_image k s m) t
with_image_has k s t m has = alive_image (with_image k s m) t (with_image_alive k s t m ∙ image_alive k t has)

-- the texts, and who has which, are the same
pub record SameTexts (old new : Kept) : Type 0 where
  pub texts : new.texts ≡ old.texts
  pub users : new.users ≡ old.users

pub with_image_texts : (k : Kept) (s : ℕ) (m : Image) → SameTexts k (with_image k s m)
unfolding with_image
with_image_texts k s m = record { texts = refl; users = refl }

pub with_area_texts : (k : Kept) (s : ℕ) (u : UArea) → SameTexts k (with_area k s u)
unfolding with_area
with_area_texts k s u = record { texts = refl; users = refl }

pub ruleset stores = (with_image_same, left_image, with_image_alive)

-- a slot's u area is another one
pub slot_described : (k : Kept) (s : ℕ) (u : UArea) → keeping (with_area k s u) s ≡ described u (keeping k s)
unfolding with_area
slot_described k s u = elim (cases_lt s (length k.slots)) [
  | inl low ↦ keeping_same k s (described u (keeping k s)) low
  | inr past ↦
      ap (λ (l : List Keeping). get_or l s Nothing) (set_past k.slots s (described u (keeping k s)) past)
      ∙ (get_or_past k.slots s Nothing past ∙ sym (ap (described u) (get_or_past k.slots s Nothing past)))
]

alive_described : (u : UArea) (x : Keeping) → is_alive (described u x) ≡ is_alive x
alive_described u Nothing = refl
alive_described u (Alive held) = refl
alive_described u (Grave v block) = refl

image_described : (u : UArea) (x : Keeping) → image_in (described u x) ≡ image_in x
image_described u Nothing = refl
image_described u (Alive held) = refl
image_described u (Grave v block) = refl

pub with_area_other : (k : Kept) (s t : ℕ) (u : UArea) → t ≢ s → keeping (with_area k s u) t ≡ keeping k t
unfolding with_area
with_area_other k s t u other = keeping_other k s t (described u (keeping k s)) other

kept_by_area : {X : Type 0} (f : Keeping → X) (k : Kept) (s t : ℕ) (u : UArea) → (f (described u (keeping k s)) ≡ f (keeping k s)) → f (keeping (with_area k s u) t) ≡ f (keeping k t)
kept_by_area f k s t u same = elim (cases_eq t s) [
  | inl here ↦ ap (λ r. f (keeping (with_area k s u) r)) here ∙ (ap f (slot_described k s u) ∙ (same ∙ ap (λ r. f (keeping k r)) (sym here)))
  | inr other ↦ ap f (with_area_other k s t u other)
]

pub with_area_alive : (k : Kept) (s t : ℕ) (u : UArea) → is_alive (keeping (with_area k s u) t) ≡ is_alive (keeping k t)
with_area_alive k s t u = kept_by_area is_alive k s t u (alive_described u (keeping k s))

pub with_area_image : (k : Kept) (s t : ℕ) (u : UArea) → image_of (with_area k s u) t ≡ image_of k t
with_area_image k s t u = kept_by_area image_in k s t u (image_described u (keeping k s))

described_back : (x : Keeping) → described (area_in x) x ≡ x
described_back Nothing = refl
described_back (Alive held) = refl
described_back (Grave u block) = refl

pub area_back : (k : Kept) (s : ℕ) → with_area k s (area_of k s) ≡ k
unfolding with_area
area_back k s = ap (with_keeping k s) (described_back (keeping k s)) ∙ keeping_back k s

described_twice : (u v : UArea) (x : Keeping) → described v (described u x) ≡ described v x
described_twice u v Nothing = refl
described_twice u v (Alive held) = refl
described_twice u v (Grave w block) = refl

pub area_twice : (k : Kept) (s : ℕ) (u v : UArea) → with_area (with_area k s u) s v ≡ with_area k s v
unfolding with_area
area_twice k s u v =
    ap (λ x. with_keeping (with_area k s u) s (described v x)) (slot_described k s u)
    ∙ ap (with_keeping (with_area k s u) s) (described_twice u v (keeping k s))
    ∙ keeping_twice k s (described u (keeping k s)) (described v (keeping k s))

-- what the slot's u area is then
pub with_area_same : (k : Kept) (s : ℕ) (u : UArea) → HasImage k s → area_of (with_area k s u) s ≡ u
with_area_same k s u has = ap area_in (slot_described k s u) ∙ ap (λ x. area_in (described u x)) has.1

pub with_area_has : (k : Kept) (s t : ℕ) (u : UArea) → HasImage k t → HasImage (with_area k s u) t
with_area_has k s t u has = alive_image (with_area k s u) t (with_area_alive k s t u ∙ image_alive k t has)
