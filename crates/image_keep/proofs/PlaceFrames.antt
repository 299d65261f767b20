-- An image that has no text: the place that is found for it, and what becomes of it when it is moved or copied.
use Rattle.std.proofs.Common.{◌≡◌, ℕ, cond, List, set, Option, Some, None, refl, sym, ap, ◌∙◌}
use Rattle.std.specs.Option.{option_map, option_or}
use Rattle.std.proofs.lemmas.List.{set-get_or}
use Rattle.v6_base.specs.declared.entry.Place.{Place}
use Rattle.v6_base.specs.declared.entry.Place.TheVariants.{Core, Swap}
use Rattle.v6_base.specs.Image.{Image}
use Rattle.u_area.specs.declared.area.UArea.{UArea}
use Rattle.image_keep.specs.Kept.{Keeping, Alive, Kept, with_keeping, text_of, with_text_of, place_of, area_of, image_of}
use Rattle.image_keep.specs.Places.{core_fit, swap_fit, may_load, placed, blocks, with_image_at}
use Rattle.image_keep.specs.Moves.{moved_texts, with_image_moved, forked_texts, forked_at}

-- the place of an image that has no text
pub bare_placed : (k : Kept) (s n : ℕ) → text_of k s ≡ None → placed k s n ≡ option_or (option_map Core (core_fit k n)) (option_map Swap (swap_fit k (blocks n)))
unfolding placed
bare_placed k s n none = ap (λ t. option_or (cond (may_load k t) (option_map Core (core_fit k n)) None) (option_map Swap (swap_fit k (blocks n)))) none

-- an image that has no text goes to another place alone, and so is it copied
pub bare_moved : (k : Kept) (s : ℕ) (u : UArea) (m : Image) (o : Option Place) → text_of k s ≡ None → with_image_moved k s u m o ≡ with_image_at k s u m o
bare_moved k s u m None none = refl
bare_moved k s u m (Some place) none = ap (λ x. with_image_at (moved_texts k x (place_of k s) place) s u m (Some place)) none

same_users : (k : Kept) (s : ℕ) (x : Keeping) → text_of k s ≡ None → with_text_of (with_keeping k s x) s None ≡ with_keeping k s x
same_users k s x none = ap (λ (l : List (Option ℕ)). record (with_keeping k s x) { users = l }) (ap (set k.users s) (sym none) ∙ set-get_or k.users s None)

pub bare_forked : (k : Kept) (from to : ℕ) (o : Option Place) → text_of k from ≡ None → text_of k to ≡ None → forked_at k from to o ≡ with_image_at k to (area_of k from) (image_of k from) o
bare_forked k from to None none free = refl
bare_forked k from to (Some place) none free =
    ap (λ x. with_text_of (with_image_at (forked_texts k x place) to (area_of k from) (image_of k from) (Some place)) to x) none
    ∙ same_users k to (Alive (record { u = area_of k from; image = image_of k from; place = place })) free
