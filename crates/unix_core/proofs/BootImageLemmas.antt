-- The first image of process 1 stands at the front of a core in which nothing stands.
use Rattle.std.proofs.Common.{◌≡◌, ◌<◌, ◌≤◌, ◌+◌, ℕ, length, replicate, get_or, Some, None, refl, sym, ap, ◌∙◌, inl, inr, arith, []}
use Rattle.std.proofs.lemmas.Bool.{cases_lt}
use Rattle.std.proofs.lemmas.List.{get_or-replicate, get_or_past, length-replicate}
use Rattle.v6_base.specs.declared.entry.Place.TheVariants.{Core}
use Rattle.v6_base.specs.Image.{Image}
use Rattle.u_area.specs.declared.area.UArea.{UArea}
use Rattle.u_area.proofs.AreaLemmas.{one_area}
use Rattle.image_keep.specs.Area.{sized_area, made_area}
use Rattle.image_keep.specs.Kept.{Held, Nothing, Alive, Kept, HasImage, keeping, first_kept, with_keeping, with_area, with_image, described, imaged, area_in, area_of, image_in, image_of, text_of}
use Rattle.image_keep.specs.Moves.{with_image_moved}
use Rattle.image_keep.specs.Places.{placed, with_image_at, cleared}
use Rattle.image_keep.specs.Places as places
use Rattle.image_keep.proofs.Frames.{keeping_same, keeping_twice}
use Rattle.image_keep.proofs.PlaceFrames.{bare_moved}
use Rattle.abstract_unix.specs.Init.{init_data}
use Rattle.unix_core.specs.Parts.{first_held}
use Rattle.unix_core.proofs.PlaceLemmas.{placed_first, HasNoText, no_text_of}

empty_slots : (s : ℕ) → get_or (replicate 50 Nothing) s Nothing ≡ Nothing
empty_slots s = elim (cases_lt s 50) [
  | inl low ↦ get_or-replicate 50 s Nothing Nothing low
  | inr past ↦ get_or_past (replicate 50 Nothing) s Nothing (let long = length-replicate 50 Nothing in omega (arith, long, past))
]

-- the image as it is made, before its directory is set
abbrev pub made_held : Held
made_held = record { u = sized_area 1 0; image = cleared 1 0; place = Core 1 }

-- the image with the program
abbrev pub filled_held : Held
filled_held = record made_held { image = record (cleared 1 0) { «data» = init_data } }

module _ (k : Kept) (empty : k ≡ first_kept k.core) (least : 64 ≤ k.core) where
  pub keeps_nothing : (s : ℕ) → keeping k s ≡ Nothing
  keeps_nothing s = ap (λ l. keeping l s) empty ∙ empty_slots s

  no_text : HasNoText k
  no_text = record { texts = ap (λ (l : Kept). l.texts) empty; users = ap (λ (l : Kept). l.users) empty }

  slot_within : 1 < length k.slots
  slot_within = let long = ap (λ (l : Kept). length l.slots) empty in let fifty = length-replicate 50 Nothing in omega (arith, long, fifty)

  pub first_place : (d stack : ℕ) → d ≡ 1 → stack ≡ 0 → placed k 1 (16 + d + stack) ≡ Some (Core 1)
  first_place d stack one none =
      (λ i. placed k 1 (16 + one i + none i)) ∙ placed_first k 1 17 no_text keeps_nothing (omega arith) (omega (arith, least))

  -- the slot has no text, and none moves with its image
  pub made_at : (made : Kept) → made ≡ with_image_moved k 1 (made_area 0 1 0) (places.made_image [] 1 0) (placed k 1 17)
      → made ≡ with_image_at k 1 (sized_area 1 0) (cleared 1 0) (placed k 1 17)
  made_at made is = is ∙ bare_moved k 1 (made_area 0 1 0) (places.made_image [] 1 0) (placed k 1 17) (no_text_of k 1 no_text)

  pub text_at : None ≡ text_of k 1
  text_at = sym (no_text_of k 1 no_text)

  module _ (made : Kept) (d stack : ℕ) (one : d ≡ 1) (none : stack ≡ 0)
      (is : made ≡ with_image_at k 1 (sized_area d stack) (cleared d stack) (placed k 1 (16 + d + stack))) where
    made_is : made ≡ with_keeping k 1 (Alive made_held)
    made_is =
        is ∙ ap (with_image_at k 1 (sized_area d stack) (cleared d stack)) (first_place d stack one none)
        ∙ (λ i. with_keeping k 1 (Alive (record { u = sized_area (one i) (none i); image = cleared (one i) (none i); place = Core 1 })))

    pub made_keeping : keeping made 1 ≡ Alive made_held
    made_keeping = ap (λ l. keeping l 1) made_is ∙ keeping_same k 1 (Alive made_held) slot_within

    pub made_image : HasImage made 1
    made_image = (made_held, made_keeping)

    made_memory : image_of made 1 ≡ cleared 1 0
    made_memory = ap image_in made_keeping

    -- the data are cleared
    pub made_cleared : (image_of made 1).data ≡ replicate 64 0
    made_cleared = ap (λ (m : Image). m.data) made_memory

    pub made_bare : (image_of made 1).text ≡ []
    made_bare = ap (λ (m : Image). m.text) made_memory

    -- The program is put there.
    module _ (filled : Kept) (put : filled ≡ with_image made 1 (record (image_of made 1) { «data» = init_data })) where
      filled_is : filled ≡ with_keeping k 1 (Alive filled_held)
      unfolding with_image
      filled_is =
          put ∙ (λ i. with_keeping (made_is i) 1 (imaged (record (made_memory i) { «data» = init_data }) (made_keeping i)))
          ∙ keeping_twice k 1 (Alive made_held) (Alive filled_held)

      pub filled_keeping : keeping filled 1 ≡ Alive filled_held
      filled_keeping = ap (λ l. keeping l 1) filled_is ∙ keeping_same k 1 (Alive filled_held) slot_within

      pub filled_image : HasImage filled 1
      filled_image = (filled_held, filled_keeping)

      -- its directory is the root
      pub first_made : (u : UArea) (codes : u.cc < 16) (now : Kept) → u ≡ area_of filled 1 → now ≡ with_area filled 1 (record u { dir = 1; codes = codes })
          → now ≡ with_keeping k 1 (Alive first_held)
      unfolding with_area
      first_made u codes now area set =
          let own : u ≡ sized_area 1 0 = area ∙ ap area_in filled_keeping in
          let same : ◌≡◌ {A = UArea} (record u { dir = 1; codes = codes }) (record u { dir = 1 }) =
          one_area (record u { dir = 1; codes = codes }) (record u { dir = 1 }) refl refl refl refl refl refl refl refl refl refl refl refl refl refl refl refl refl refl refl in
          set ∙ ap (λ (v : UArea). with_keeping filled 1 (described v (keeping filled 1))) same
          ∙ (λ i. with_keeping (filled_is i) 1 (described (record (own i) { dir = 1 }) (filled_keeping i)))
          ∙ keeping_twice k 1 (Alive filled_held) (Alive first_held)
