-- Where nothing is kept, an image is placed at the front of core.
use Rattle.std.proofs.Common.{◌≡◌, ◌<◌, ◌≤◌, ◌+◌, ◌-◌, ℕ, zero, suc, List, [], ◌∷◌, ◌++◌, replicate, get_or, Option, Some, None, refl, ap, ◌∙◌, arith}
use Rattle.std.specs.Prelude.{find, flat_map}
use Rattle.std.specs.List.{range_with_len}
use Rattle.std.specs.Option.{option_map, option_or}
use Rattle.v6_base.specs.declared.entry.Place.TheVariants.{Core, Swap}
use Rattle.map_fit.specs.Fit.{is_clear, first_fit}
use Rattle.image_keep.specs.Kept.{Keeping, Nothing, Kept, no_texts, no_users, keeping, text_of}
use Rattle.image_keep.proofs.PlaceFrames.{bare_placed}
use Rattle.image_keep.specs.Places.{blocks, core_of, core_of_text, core_fit, swap_fit, placed}

-- no text is there, and nobody has one
pub record HasNoText (k : Kept) : Type 0 where
  pub texts : k.texts ≡ no_texts
  pub users : k.users ≡ no_users

none_at : (n s : ℕ) → get_or {A = Option ℕ} (replicate n None) s None ≡ None
none_at zero s = refl
none_at (suc n) zero = refl
none_at (suc n) (suc s) = none_at n s

pub no_text_of : (k : Kept) (s : ℕ) → HasNoText k → text_of k s ≡ None
unfolding no_users
no_text_of k s none = ap (λ users. get_or users s None) none.users ∙ none_at 50 s

none_taken : (l : List Keeping) → ((s : ℕ) → get_or l s Nothing ≡ Nothing) → flat_map core_of l ≡ []
none_taken [] each = refl
none_taken (x ∷ xs) each = ap (λ y. core_of y ++ flat_map core_of xs) (each 0) ∙ none_taken xs (λ s. each (suc s))

pub empty_fit : (n core : ℕ) → 0 < n → n ≤ core → first_fit [] 1 core n ≡ Some 1
unfolding first_fit is_clear
empty_fit n core some low =
    let more : core + 2 - (1 + n) ≡ suc (core - n) = omega arith in
    ap (λ m. find (is_clear [] n) (range_with_len 1 m)) more

none_shared : flat_map core_of_text no_texts ≡ []
unfolding no_texts
none_shared = refl

pub placed_first : (k : Kept) (s n : ℕ) → HasNoText k → ((s : ℕ) → keeping k s ≡ Nothing) → 0 < n → n ≤ k.core → placed k s n ≡ Some (Core 1)
unfolding core_fit
placed_first k s n none each some low =
    bare_placed k s n (no_text_of k s none)
    ∙ ap (λ o. option_or (option_map Core o) (option_map Swap (swap_fit k (blocks n))))
    ((λ i. first_fit (none_taken k.slots each i ++ flat_map core_of_text (none.texts i)) 1 k.core n)
    ∙ (ap (λ l. first_fit l 1 k.core n) none_shared ∙ empty_fit n k.core some low))
