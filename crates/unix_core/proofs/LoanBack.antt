-- What comes back from a call on files: the memory and the u area with their sizes, and the row with its pid and its
-- parent.
use Rattle.std.proofs.Common.{◌≡◌, ◌∙◌, ◌*◌, ℕ, sym, ap, subst}
use Rattle.v6_base.specs.Image.{Image}
use Rattle.v6_base.proofs.Copies.{SameLengths}
use Rattle.u_area.specs.declared.area.UArea.{UArea}
use Rattle.proc_tab.specs.declared.row.Row.{Row}
use Rattle.proc_tab.specs.Processes.{row_at}
use Rattle.image_keep.specs.Kept.{Kept, HasSizes, HasImage, image_of, with_image}
use Rattle.image_keep.proofs.Frames.{image_alive, with_image_has, with_image_same}
use Rattle.sys_files.specs.declared.files.Files.{Files}
use Rattle.sys_files.specs.Handed.{Handed, handed}
use Rattle.sys_files.specs.Did.{Did}
use Rattle.sys_files.proofs.Steady.{SameRow, Steady}
use Rattle.sys_procs.proofs.Alive.{SameSizes}
use Rattle.unix_core.specs.declared.world.World.{World}
use Rattle.unix_core.proofs.LeavingLemmas.{given, IsLent, lent_parts}

pub sizes_kept : (u v : UArea) (m n : Image) → HasSizes u m → SameSizes v u → SameLengths m n → HasSizes v n
sizes_kept u v m n has same long = record {
  text_size = long.text ∙ (has.text_size ∙ sym (ap (λ k. 64 * k) same.text));
  data_size = long.data ∙ (has.data_size ∙ sym (ap (λ k. 64 * k) same.data));
  stack_size = long.stack ∙ (has.stack_size ∙ sym (ap (λ k. 64 * k) same.stack));
}

-- What a call on files of the process has left of its u area and of its memory.
module _ (w : World) (s : ℕ) {u : UArea} {r : Row} {m : Image} (lent : IsLent w s u r m) (does : Handed → Did)
    (steadily : Steady (given w s) (does (given w s)).state) (f : Files) (v : UArea) (row : Row) (image : Image)
    (state : handed f v row image ≡ (does (handed w.files u r m)).state) where
  steady : Steady (handed w.files u r m) (handed f v row image)
  steady =
      let was : handed w.files u r m ≡ given w s = lent_parts w s lent in
      let is : handed f v row image ≡ (does (given w s)).state = state ∙ ap (λ x. (does x).state) was in
      let P : Handed → Type 0 = λ h. Steady h (handed f v row image) in
      let Q : Handed → Type 0 = λ h. Steady (given w s) h in
      subst P (sym was) (subst Q (sym is) steadily)

  pub sizes_put : HasSizes v image
  sizes_put =
      let P : Image → Type 0 = λ x. HasSizes u x in
      sizes_kept u v m image (subst P (sym lent.image) lent.sizes)
      (record { text = steady.area.text_size; «data» = steady.area.data_size; stack = steady.area.stack_size }) steady.image

  -- The slot has its image when the memory has come back.
  pub area_put : (now : Kept) → now ≡ with_image w.procs.images.kept s image → HasImage now s × HasSizes v (image_of now s)
  area_put now back =
      let has : HasImage w.procs.images.kept s = lent.ready.good.running s lent.ready.runs lent.ready.user in
      let P : Kept → Type 0 = λ k. HasImage k s × HasSizes v (image_of k s) in
      let Q : Image → Type 0 = λ x. HasSizes v x in
      subst P (sym back) (with_image_has w.procs.images.kept s s image has, subst Q (sym (with_image_same w.procs.images.kept s image (image_alive w.procs.images.kept s has))) sizes_put)

  pub row_put : SameRow (row_at w.procs.rows s) row
  row_put = let P : Row → Type 0 = λ x. SameRow x row in subst P lent.row steady.row
