-- What a slot keeps when its u area and its memory have changed.
use Rattle.std.proofs.Common.{◌≡◌, ◌≢◌, ◌∙◌, ℕ, ◌<◌, length, Option, Some, None, set, List, refl, sym, ap, inl, inr}
use Rattle.std.proofs.lemmas.Bool.{cases_lt}
use Rattle.std.proofs.lemmas.List.{get_or-set_same, get_or-set_other, get_or_past, set-get_or}
use Rattle.v6_base.specs.Image.{Image}
use Rattle.u_area.specs.declared.area.UArea.{UArea}
use Rattle.proc_tab.specs.declared.row.Row.{Row}
use Rattle.proc_tab.specs.declared.member.Member.{Member}
use Rattle.proc_tab.specs.Processes.{Processes, member_at, row_of, row_at, changed, with_change, with_row}
use Rattle.image_keep.specs.Kept.{Held, Keeping, Nothing, Alive, Grave, Kept, Has, HasImage, keeping, with_keeping, imaged, described, with_image, with_area, area_in, area_of, image_of}
use Rattle.image_keep.specs.State.{ImagesState}
use Rattle.image_keep.proofs.Frames.{keeping_same, keeping_other, keeping_back, alive_low, image_alive, image_back}

-- what is kept is a part of the images
pub same_kept : {a b : ImagesState} → a ≡ b → a.kept ≡ b.kept
same_kept e = ap (λ (x : ImagesState). x.kept) e

pub area_now : (k : Kept) (s : ℕ) (u : UArea) (held : Held) → Has k s held → Has (with_area k s u) s (record held { u = u })
unfolding with_area
area_now k s u held has = keeping_same k s (described u (keeping k s)) (alive_low k.slots s (image_alive k s (held, has))) ∙ ap (described u) has

pub area_other : (k : Kept) (s : ℕ) (u : UArea) (r : ℕ) → r ≢ s → keeping (with_area k s u) r ≡ keeping k r
unfolding with_area
area_other k s u r other = keeping_other k s r (described u (keeping k s)) other

pub area_core : (k : Kept) (s : ℕ) (u : UArea) → (with_area k s u).core ≡ k.core
unfolding with_area
area_core k s u = refl

pub image_now : (k : Kept) (s : ℕ) (m : Image) (held : Held) → Has k s held → Has (with_image k s m) s (record held { image = m })
unfolding with_image
image_now k s m held has = keeping_same k s (imaged m (keeping k s)) (alive_low k.slots s (image_alive k s (held, has))) ∙ ap (imaged m) has

pub image_other : (k : Kept) (s : ℕ) (m : Image) (r : ℕ) → r ≢ s → keeping (with_image k s m) r ≡ keeping k r
unfolding with_image
image_other k s m r other = keeping_other k s r (imaged m (keeping k s)) other

pub image_core : (k : Kept) (s : ℕ) (m : Image) → (with_image k s m).core ≡ k.core
unfolding with_image
image_core k s m = refl

-- Who is in a slot is within the list.
pub member_low : (slots : List (Option Member)) (s : ℕ) (m : Member) → member_at slots s ≡ Some m → s < length slots
member_low slots s m is = elim (cases_lt s (length slots)) [
  | inl low ↦ low
  | inr high ↦ absurd (let none = get_or_past slots s None high in cc)
]

-- Who is in a slot, when its row is another one, or the same.
pub row_now : (v : Processes) (s : ℕ) (row : Row) (m : Member) → member_at v.slots s ≡ Some m
    → member_at (with_change v s (with_row row)).slots s ≡ Some (record m { row = row })
row_now v s row m is = get_or-set_same v.slots s (changed (with_row row) (member_at v.slots s)) None (member_low v.slots s m is) ∙ ap (changed (with_row row)) is

pub row_other : (v : Processes) (s : ℕ) (row : Row) (r : ℕ) → r ≢ s → member_at (with_change v s (with_row row)).slots r ≡ member_at v.slots r
row_other v s row r other = get_or-set_other v.slots s r (changed (with_row row) (member_at v.slots s)) None other

same_member : (o : Option Member) → changed (with_row (row_of o)) o ≡ o
same_member None = refl
same_member (Some m) = refl

pub row_back : (v : Processes) (s : ℕ) → with_change v s (with_row (row_at v s)) ≡ v
row_back v s =
    ap (λ o. record v { slots = set v.slots s o }) (same_member (member_at v.slots s))
    ∙ ap (λ (l : List (Option Member)). record v { slots = l }) (set-get_or v.slots s None)

-- A u area that is put as it was.
pub area_back : (k : Kept) (s : ℕ) → HasImage k s → with_area k s (area_of k s) ≡ k
unfolding with_area
area_back k s has = ap (with_keeping k s) (by (keeping k s) has.1) ∙ keeping_back k s
  where
    by : (x : Keeping) → x ≡ Alive has.0 → described (area_in x) x ≡ x
    by Nothing is = refl
    by (Alive held) is = refl
    by (Grave u block) is = absurd (cc is)

-- A u area that is put where nothing else has changed.
pub area_alone : (k : Kept) (s : ℕ) (u : UArea) → with_area k s u ≡ with_area (with_image k s (image_of k s)) s u
area_alone k s u = ap (λ x. with_area x s u) (sym (image_back k s))
