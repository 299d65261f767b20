use Rattle.std.proofs.Common.{◌≡◌, ◌∙◌, ℕ, true, Some, List, sym, ap, subst, arith}
use Rattle.v6_base.specs.Image.{Image, IsImage}
use Rattle.v6_base.specs.Copy.{store_bytes, image_or}
use Rattle.v6_base.proofs.Copies.{put_done, put_refused, put_same}
use Rattle.v6_base.proofs.Formed.{formed_after_bytes}
use Rattle.image_keep.specs.Kept.{Kept, keeping, is_alive, image_of, with_image}
use Rattle.image_keep.proofs.Frames.{with_image_same}
use Rattle.image_keep.proofs.loan.SpaceOfSpace.copy_out.Goals as goal

-- the image of a slot with bytes in it
abbrev with_bytes : Kept → ℕ → ℕ → List ℕ → Image
with_bytes k s at bytes = image_or (image_of k s) (store_bytes (image_of k s) at bytes)

has : (old new : Kept) (s at : ℕ) (bytes : List ℕ) → is_alive (keeping old s) ≡ true → new ≡ with_image old s (with_bytes old s at bytes) → image_of new s ≡ with_bytes old s at bytes
has old new s at bytes alive kept = ap (λ k. image_of k s) kept ∙ with_image_same old s (with_bytes old s at bytes) alive

pub invariant_of-self : goal.invariant_of-self
invariant_of-self c =
    let old : Kept = c.args.self.now.images.now.kept in
    let s : ℕ = c.args.self.now.slot in
    let at : ℕ = c.args.at in
    let bytes : List ℕ = c.args.bytes.now in
    record {
      are = c.copy_out.ensures.starts;
      formed =
          subst IsImage (sym (has old c.copy_out.new.self.kept s at bytes c.args.self.now.are.alive c.copy_out.ensures.kept))
          (formed_after_bytes (image_of old s) at bytes (λ k. let h = c.type_inv.bytes k in omega (arith, h)) c.args.self.now.formed);
    }

pub returns-clause-done : goal.returns-clause-done
returns-clause-done c is =
    let old : Kept = c.args.self.now.images.now.kept in
    let s : ℕ = c.args.self.now.slot in
    put_done (image_of old s) (store_bytes (image_of old s) c.args.at c.args.bytes.now) (sym c.copy_out.ensures.done ∙ is)
    ∙ ap Some (sym (has old c.copy_out.new.self.kept s c.args.at c.args.bytes.now c.args.self.now.are.alive c.copy_out.ensures.kept))

pub returns-clause-refused : goal.returns-clause-refused
returns-clause-refused c is = put_refused _ (sym c.copy_out.ensures.done ∙ is)

pub returns-clause-same : goal.returns-clause-same
returns-clause-same c is =
    let old : Kept = c.args.self.now.images.now.kept in
    let s : ℕ = c.args.self.now.slot in
    has old c.copy_out.new.self.kept s c.args.at c.args.bytes.now c.args.self.now.are.alive c.copy_out.ensures.kept
    ∙ put_same (image_of old s) (store_bytes (image_of old s) c.args.at c.args.bytes.now) (sym c.copy_out.ensures.done ∙ is)
