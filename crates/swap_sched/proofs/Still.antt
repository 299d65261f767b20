-- Where nobody is out of core a pass moves no image, and no byte of core or of the swap area.
use Rattle.std.proofs.Common.{◌≡◌, ◌∙◌, ◌⊎◌, inl, inr, true, false, None, is_none, refl, sym, ap}
use Rattle.std.proofs.lemmas.Bool.{false≢true}
use Rattle.pick_rules.specs.declared.table.Table.{Table}
use Rattle.pick_rules.specs.Swapper.{candidate}
use Rattle.image_keep.specs.State.{ImagesState}

-- nobody was out of core: nothing has moved, and process 0 sleeps, or no move has been made
abbrev pub IsStill : Table → Table → ImagesState → ImagesState → Type 0
IsStill t u x y = candidate t ≡ None → (y ≡ x) × ((u.running ≡ None) ⊎ (u ≡ t))

pub still_first : (t : Table) (x : ImagesState) → IsStill t t x x
still_first t x none = (refl, inr refl)

pub still_next : {t u v : Table} {x y z : ImagesState} → IsStill t u x y → is_none u.running ≡ false
    → (candidate u ≡ None → z ≡ y) → (candidate u ≡ None → v.running ≡ None) → IsStill t v x z
still_next {t} {u} {v} {x} {y} {z} still runs moves sleeps none = elim (still none).1 [
  | inl asleep ↦ absurd (false≢true (sym runs ∙ ap is_none asleep))
  | inr same ↦
      let nobody : candidate u ≡ None = ap candidate same ∙ none in
      (moves nobody ∙ (still none).0, inl (sleeps nobody))
]
