-- Where a child's image stands: where one of its parent's size finds a place.
use Rattle.std.proofs.Common.{◌≡◌, ◌∙◌, ℕ, length, ap}
use Rattle.pick_rules.specs.Table.{row_at}
use Rattle.pick_rules.specs.Board.{placed}
use Rattle.image_keep.specs.Kept.{area_of, clicks_of}
use Rattle.image_keep.specs.Places as images_of
use Rattle.sys_procs.specs.declared.procs.Procs.{Procs}
use Rattle.sys_procs.specs.Handed.{IsAlive, board}
use Rattle.sys_procs.proofs.Places.{same_placed}
use Rattle.sys_procs.proofs.PlacingRows.{size_is}

pub fork_place : (p : Procs) (s : ℕ) → IsAlive p s → length p.images.kept.slots ≡ 50
    → placed (board p) s (row_at p.table s).size ≡ images_of.placed p.images.kept s (clicks_of (area_of p.images.kept s))
fork_place p s alive long =
    same_placed p.rows p.table p.images.kept alive.agree long s (row_at p.table s).size alive.above alive.below
    ∙ ap (images_of.placed p.images.kept s) (size_is p s alive)
