-- While the first image is made, each byte of core and of the swap area after it stays.
use Rattle.std.proofs.Common.{◌≡◌, ◌∙◌, ℕ, ◌+◌, ◌*◌, ◌-◌, ◌≤◌, List, ◌++◌, length, take, drop, replicate, Option, Some, None, Result, Ok, Err, MatchResult, IfOk, sym, ap, subst, refl, arith, length-append, length-drop}
use Rattle.std.proofs.lemmas.List.{length-take, drop_at, drop-append-le, take-append-drop}
use Rattle.std.proofs.lemmas.Option.{same_Some}
use Rattle.v6_base.specs.declared.entry.Place.{Place}
use Rattle.v6_base.specs.declared.entry.Place.TheVariants.{Core}
use Rattle.core_mem.specs.Bytes.{part, over}
use Rattle.core_mem.proofs.Parts.{drop-over}
use Rattle.u_area.specs.declared.area.UArea.{UArea}
use Rattle.u_area.specs.Area.{area_bytes, front_bytes}
use Rattle.u_area.proofs.FieldLemmas.{length-area}
use Rattle.image_keep.specs.State.{ImagesState}
use Rattle.image_keep.specs.Area.{made_area}
use Rattle.image_keep.specs.Kept.{Held, Kept, Has, keeping, image_in}
use Rattle.image_keep.specs.Memory.{place_at}
use Rattle.image_keep.specs.Starts.{data_start}
use Rattle.image_keep.specs.Resized.{cleared_bytes}
use Rattle.image_keep.specs.Holds.{CoreHolds}
use Rattle.image_keep.specs.Lent.{Outside, around, outside_of}
use Rattle.image_keep.proofs.ByteSet.{same_first, same_second}
use Rattle.image_keep.proofs.Overwriting.{drop_zeros}
use Rattle.unix_core.specs.Parts.{first_held, first_size}
use Rattle.unix_core.specs.Boots.{core_on}

pub record StayAfter (x y : ImagesState) : Type 0 where
  pub core : length y.core ≡ length x.core
  pub line : drop first_size (y.core ++ y.swap) ≡ drop first_size (x.core ++ x.swap)

pub stay_then : {x y z : ImagesState} → StayAfter x y → StayAfter y z → StayAfter x z
stay_then a b = record { core = b.core ∙ a.core; line = b.line ∙ a.line }

-- bytes that are laid at the front of core
pub laid_stay : (x y : ImagesState) (bytes : List ℕ) → first_size ≤ length x.core → length bytes ≤ first_size
    → (length y.core ≡ length x.core) × (y.core ++ y.swap ≡ over (x.core ++ x.swap) 0 bytes) → StayAfter x y
laid_stay x y bytes long few laid =
    let both = length-append x.core x.swap in
    record {
      core = laid.0;
      line = ap (drop first_size) laid.1 ∙ drop-over (x.core ++ x.swap) 0 bytes first_size (omega (arith, few)) (omega (arith, few, long, both));
    }

-- a place that is found is where an image is laid
pub found_there : {E : Type 0} (r : Result Place E) (found : Option Place) (place : Place) (P : Place → Type 0)
    → MatchResult r (λ p. found ≡ Some p) (λ _. found ≡ None) → found ≡ Some place → IfOk r P → P place
found_there (Ok p) found place P is there holds = subst P (same_Some p place (sym is ∙ there)) holds
found_there (Err e) found place P is there holds = absurd (cc (sym is ∙ there))

-- the image as it is made, and its u area
pub made_long : length (cleared_bytes 1 0 (area_bytes (made_area 0 1 0))) ≤ first_size
made_long =
    let area : length (area_bytes (made_area 0 1 0)) ≡ 1024 =
    length-area (made_area 0 1 0) (record { r = refl; call = refl; handlers = refl; files = refl }) in
    let both = length-append (area_bytes (made_area 0 1 0)) (replicate {A = ℕ} 64 0 ++ replicate {A = ℕ} 0 0) in
    let rest : length (replicate {A = ℕ} 64 0 ++ replicate {A = ℕ} 0 0) ≡ 64 = refl in
    omega (arith, area, both, rest)

pub front_long : (u : UArea) → length (front_bytes u) ≤ first_size
front_long u = let taken = length-take 120 (area_bytes u) in omega (arith, taken)

-- what is lent of an image of one click of data at the front of core
after_around : (line : List ℕ) → first_size ≤ length line → drop 1024 (around line 1024 64) ≡ drop first_size line
after_around line long =
    let taken = length-take 1024 line in
    drop_at (take 1024 line) (drop (1024 + 64) line) 1024 (omega (arith, taken, long))

module _ (x y : ImagesState) (h g : Held) (has : Has x.kept 1 h) (now : Has y.kept 1 g) (at : h.place ≡ Core 1) (stays : g.place ≡ Core 1)
    (size : length h.image.data + length h.image.stack ≡ 64) (same_size : length g.image.data + length g.image.stack ≡ 64) where
  start_is : (z : ImagesState) (f : Held) → Has z.kept 1 f → f.place ≡ Core 1 → data_start z.kept.core (keeping z.kept 1) ≡ 1024
  start_is z f has at = ap (data_start z.kept.core) has ∙ ap (λ p. place_at z.kept.core p + 1024) at

  pub lent_stay : first_size ≤ length x.core → outside_of y 1 ≡ outside_of x 1 → StayAfter x y
  unfolding outside_of
  lent_stay long same =
      let core : length y.core ≡ length x.core = ap (λ (o : Outside). o.core) same in
      let bytes = ap (λ (o : Outside). o.bytes) same in
      let one = length-append x.core x.swap in
      let two = length-append y.core y.swap in
      let around_is : around (y.core ++ y.swap) 1024 64 ≡ around (x.core ++ x.swap) 1024 64 =
      (λ i. around (y.core ++ y.swap) (sym (start_is y g now stays) i) (sym (ap (λ k. length (image_in k).data + length (image_in k).stack) now ∙ same_size) i))
      ∙ bytes
      ∙ (λ i. around (x.core ++ x.swap) (start_is x h has at i) ((ap (λ k. length (image_in k).data + length (image_in k).stack) has ∙ size) i)) in
      record {
        core = core;
        line = sym (after_around (y.core ++ y.swap) (omega (arith, two, core, long)))
            ∙ ap (drop 1024) around_is
            ∙ after_around (x.core ++ x.swap) (omega (arith, one, long));
      }

-- what that comes to for both lists
module _ (x y : ImagesState) (long : first_size ≤ length x.core) (stay : StayAfter x y) where
  apart : drop first_size y.core ++ y.swap ≡ drop first_size x.core ++ x.swap
  apart =
      let same = stay.core in
      sym (drop-append-le first_size y.core y.swap (omega (arith, same, long))) ∙ stay.line ∙ drop-append-le first_size x.core x.swap long

  as_long : length (drop first_size y.core) ≡ length (drop first_size x.core)
  as_long =
      let one = length-drop first_size y.core in
      let two = length-drop first_size x.core in
      let same = stay.core in
      omega (arith, one, two, same)

  pub core_stays : drop first_size y.core ≡ drop first_size x.core
  core_stays = same_first (drop first_size y.core) y.swap (drop first_size x.core) x.swap as_long apart

  pub swap_stays : y.swap ≡ x.swap
  swap_stays = same_second (drop first_size y.core) y.swap (drop first_size x.core) x.swap as_long apart

-- core as it is at first
pub first_core : (n : ℕ) (core was : List ℕ) (k : Kept) → 64 ≤ n → CoreHolds core k → Has k 1 first_held → was ≡ replicate (64 * n) 0
    → drop first_size core ≡ drop first_size was → core ≡ core_on n
unfolding part
first_core n core was k least holds has zeros same =
    let rest : 64 * n ≡ 1088 + 64 * (n - 17) = omega (arith, least) in
    sym (take-append-drop first_size core)
    ∙ (λ i. holds.images 1 first_held 1 has refl i
    ++ (same ∙ ap (drop first_size) zeros ∙ ap (λ m. drop first_size (replicate {A = ℕ} m 0)) rest ∙ drop_zeros 1088 (64 * (n - 17))) i)
