-- What u areas tell of the texts that images share: their sizes, with which an image takes eight segments at most. Those
-- who have ended share none.
use Rattle.std.specs.Prelude.{◌≡◌, ℕ, ◌+◌, ◌≤◌, Option, None}
use Rattle.v6_base.specs.Image.{nseg}
use Rattle.u_area.specs.declared.area.UArea.{UArea}
use Rattle.image_keep.specs.Kept.{Keeping, Alive, Grave, Held, Kept, keeping, text_of, text_clicks}

pub record IsTold (clicks : ℕ) (text : Option ℕ) (x : Keeping) : Type 0 where
  pub text_size : (held : Held) → x ≡ Alive held → held.u.text_size ≡ clicks
  pub segments : (held : Held) → x ≡ Alive held → nseg held.u.text_size + nseg held.u.data_size + nseg held.u.stack_size ≤ 8
  pub none : (u : UArea) (block : ℕ) → x ≡ Grave u block → text ≡ None

abbrev pub AreTold : Kept → Type 0
AreTold k = (s : ℕ) → IsTold (text_clicks k (text_of k s)) (text_of k s) (keeping k s)
