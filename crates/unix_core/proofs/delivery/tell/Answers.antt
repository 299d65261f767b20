use Rattle.std.proofs.Common.{◌≡◌, ◌∙◌, ℕ, get_or, sym, ap, subst}
use Rattle.std.specs.Borrow.{GName}
use Rattle.u_area.specs.declared.area.UArea.{UArea}
use Rattle.u_area.specs.Fields.{with_handler}
use Rattle.image_keep.specs.Kept.{Kept, HasImage, area_of, image_of, with_area, with_image}
use Rattle.image_keep.specs.Lent.{Lent, Outside, left_of}
use Rattle.image_keep.specs.Running.{with_state}
use Rattle.image_keep.proofs.Frames.{with_image_area, with_image_has, area_twice, with_area_same, with_area_has}
use Rattle.sig_core.specs.Delivery.{Delivery, delivery}
use Rattle.unix_core.proofs.LoanLemmas.{same_kept}
use Rattle.image_keep.proofs.Loans.{lent_back}
use Rattle.unix_core.proofs.DeliveryLemmas.{told_area}
use Rattle.unix_core.proofs.delivery.tell.Goals as goal

-- What comes back: the memory with what was pushed, and the u area, of which the registers and one handler are put back.
module _ (k before now : Kept) (s was is sig : ℕ) (a b : GName) {x y : Outside} (u v : UArea) (has : HasImage k s) (area : u ≡ area_of k s)
    (begins : before ≡ k) (slot : was ≡ s)
    (same : ◌≡◌ {A = Lent} (record { loan = a; slot = is; left = left_of now is; outside = x }) (record { loan = b; slot = was; left = left_of before was; outside = y }))
    (told : v ≡ (delivery u sig (image_of before was)).area) (memory : image_of now is ≡ (delivery u sig (image_of before was)).image) where
  abbrev d : Delivery
  d = delivery (area_of k s) sig (image_of k s)

  is_d : delivery u sig (image_of before was) ≡ d
  is_d = (λ i. delivery (area i) sig (image_of (begins i) (slot i)))

  back : now ≡ with_image k s d.image
  back = lent_back k before now s was is a b begins slot same ∙ ap (with_image k s) (memory ∙ ap (λ (x : Delivery). x.image) is_d)

  v_is : v ≡ d.area
  v_is = told ∙ ap (λ (x : Delivery). x.area) is_d

  has_back : HasImage now s
  has_back = subst (λ x. HasImage x s) (sym back) (with_image_has k s s d.image has)

  area_back : area_of now s ≡ area_of k s
  area_back = ap (λ x. area_of x s) back ∙ with_image_area k s s d.image

  module _ (then_kept : Kept) (stated : then_kept ≡ with_area now s (with_state (area_of now s) v.r v.cc)) where
    has_stated : HasImage then_kept s
    has_stated = subst (λ x. HasImage x s) (sym stated) (with_area_has now s s (with_state (area_of now s) v.r v.cc) has_back)

    told_kept : (last : Kept) (n : ℕ) → n ≡ sig → last ≡ with_area then_kept s (with_handler (area_of then_kept s) n (get_or v.handlers n 0)) → last ≡ with_area (with_image k s d.image) s d.area
    told_kept last n number put =
        let state : UArea = with_state (area_of now s) v.r v.cc in
        let h : ℕ = get_or v.handlers n 0 in
        put
        ∙ (ap (λ x. with_area x s (with_handler (area_of x s) n h)) stated
        ∙ (ap (λ (x : UArea). with_area (with_area now s state) s (with_handler x n h)) (with_area_same now s state has_back)
        ∙ (area_twice now s state (with_handler state n h)
        ∙ ((λ i. with_area (back i) s (with_handler (with_state (area_back i) (v_is i).r (v_is i).cc) (number i) (get_or (v_is i).handlers (number i) 0)))
        ∙ ap (with_area (with_image k s d.image) s) (told_area (area_of k s) sig (image_of k s))))))

pub set_registers-requires : goal.set_registers-requires
set_registers-requires c = record {
  image = has_back c.args.world.now.procs.images.kept c.space-space.result.images.now.kept c.deliver-told.new.space.images.now.kept c.args.s c.space-space.result.slot c.deliver-told.new.space.slot c.args.sig
      _ _ c.area-u.result c.deliver-told.new.u c.requires.image c.area-u.ensures.u (same_kept c.space-space.ensures.images) c.space-space.ensures.slot
      c.deliver-told.ensures.rest c.deliver-told.ensures.area c.deliver-told.ensures.image;
  codes = c.deliver-told.new.u.codes;
}

pub set_handler-requires-clause-image : goal.set_handler-requires-clause-image
set_handler-requires-clause-image c =
    has_stated c.args.world.now.procs.images.kept c.space-space.result.images.now.kept c.deliver-told.new.space.images.now.kept c.args.s c.space-space.result.slot c.deliver-told.new.space.slot c.args.sig
    _ _ c.area-u.result c.deliver-told.new.u c.requires.image c.area-u.ensures.u (same_kept c.space-space.ensures.images) c.space-space.ensures.slot
    c.deliver-told.ensures.rest c.deliver-told.ensures.area c.deliver-told.ensures.image c.set_registers.new.self.kept c.set_registers.ensures.kept

pub returns-clause-images : goal.returns-clause-images
returns-clause-images c =
    told_kept c.args.world.now.procs.images.kept c.space-space.result.images.now.kept c.deliver-told.new.space.images.now.kept c.args.s c.space-space.result.slot c.deliver-told.new.space.slot c.args.sig
    _ _ c.area-u.result c.deliver-told.new.u c.requires.image c.area-u.ensures.u (same_kept c.space-space.ensures.images) c.space-space.ensures.slot
    c.deliver-told.ensures.rest c.deliver-told.ensures.area c.deliver-told.ensures.image c.set_registers.new.self.kept c.set_registers.ensures.kept
    c.set_handler.new.self.kept c.from-sig.result c.from-sig.ensures c.set_handler.ensures.kept
