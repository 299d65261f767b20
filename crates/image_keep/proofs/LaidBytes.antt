-- An image that gets other sizes, and one whose text goes: the bytes that are written, by the one that was there.
use Rattle.std.proofs.Common.{◌≡◌, ◌∙◌, ℕ, ◌*◌, List, sym, ap}
use Rattle.v6_base.specs.declared.entry.Place.{Place}
use Rattle.v6_base.specs.Image.{Image}
use Rattle.core_mem.specs.Bytes.{over}
use Rattle.u_area.specs.declared.area.UArea.{UArea}
use Rattle.u_area.specs.Area.{area_bytes}
use Rattle.image_keep.specs.declared.row.State.TheVariants as state
use Rattle.image_keep.specs.declared.row.Row.{Row}
use Rattle.image_keep.specs.Kept.{Kept, Held, Has, area_of, image_of}
use Rattle.image_keep.specs.Memory.{Stock, row_at, place_at, kept_of, IsSound}
use Rattle.image_keep.specs.Counts.{IsCounted}
use Rattle.image_keep.specs.Leaves.{textless_line}
use Rattle.image_keep.specs.Growth.{area_resized, image_resized}
use Rattle.image_keep.specs.Resized.{resized_bytes}
use Rattle.image_keep.specs.Fields.{laid_bytes}
use Rattle.image_keep.proofs.AreaSet.{known}
use Rattle.image_keep.proofs.InPlan.{core_kept}
use Rattle.image_keep.proofs.Own.{area_read}
use Rattle.image_keep.proofs.Growing.{image_parts}

pub resized_is : (v : Stock) (k : Kept) (s : ℕ) (p : Place) (u : UArea) (d n at : ℕ) (row : Row) (area : List ℕ)
    → kept_of v ≡ k → row ≡ row_at v.rows s → row.state ≡ state.Alive p → u ≡ area_of k s
    → area ≡ area_bytes (area_resized u d n) → 64 * at ≡ place_at v.core p
    → resized_bytes v.line (64 * at) row d n area
    ≡ laid_bytes (area_resized (area_of k s) d n) (image_resized (image_of k s) d n)
resized_is v k s p u d n at row area view here is own written place =
    let r : Row = row_at v.rows s in
    (λ i. resized_bytes v.line (place i) (here i) d n (written i))
    ∙ ap (λ (w : UArea). resized_bytes v.line (place_at v.core p) r d n (area_bytes (area_resized w d n))) own
    ∙ ap (λ (m : Image). laid_bytes (area_resized (area_of k s) d n) (image_resized m d n))
    (sym (image_parts v s p (sym (ap (λ (x : Row). x.state) here) ∙ is)) ∙ ap (λ (j : Kept). image_of j s) view)

pub textless_is : (v : Stock) (k : Kept) (s : ℕ) (row : Row) (held : Held) → kept_of v ≡ k → IsSound v → IsCounted v.rows v.texts
    → row ≡ row_at v.rows s → Has k s held
    → textless_line v.line v.core row.state
    ≡ over v.line (place_at k.core held.place) (area_bytes (record (area_of k s) { text_size = 0 }))
textless_is v k s row held view h c here has =
    let is : (row_at v.rows s).state ≡ state.Alive held.place = (known v k s view h c (held, has)).is in
    let u = sym (area_read v s held.place h is).1 ∙ ap (λ (j : Kept). area_of j s) view in
    let core : v.core ≡ k.core = sym (core_kept v) ∙ ap (λ (j : Kept). j.core) view in
    ap (textless_line v.line v.core) (ap (λ (x : Row). x.state) here ∙ is)
    ∙ (λ i. over v.line (place_at (core i) held.place) (area_bytes (record (u i) { text_size = 0 })))
