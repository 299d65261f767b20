-- The process that executes instructions does one: its memory was lent and has come back, and its registers are put back.
use Rattle.std.proofs.Common.{◌≡◌, ◌∙◌, ◌-◌, ℕ, length, List, sym, ap, subst}
use Rattle.std.specs.Borrow.{GName}
use Rattle.v6_base.specs.Image.{Image}
use Rattle.u_area.specs.declared.area.UArea.{UArea}
use Rattle.pdp_step.specs.declared.outcome.Outcome.{Outcome}
use Rattle.pdp_step.specs.declared.regs.Regs.{Regs}
use Rattle.pdp_step.specs.Machine as pdp
use Rattle.pdp_step.specs.Form.{KeepsForm}
use Rattle.pdp_step.specs.Instruction.{Stepped, stepped, instr}
use Rattle.image_keep.specs.declared.running.Fixed.{Fixed}
use Rattle.image_keep.specs.Kept.{Kept, image_of, area_of, with_image, with_area}
use Rattle.image_keep.specs.State.{ImagesState}
use Rattle.image_keep.specs.Stepped.{over_outside, IsSteppedAt}
use Rattle.image_keep.specs.Lent.{Lent, Outside, left_of, outside_of}
use Rattle.image_keep.specs.Running.{IsFixed, machine_in, with_machine_in, with_state, state_bytes}
use Rattle.image_keep.proofs.StateOf.{kept_is}
use Rattle.image_keep.proofs.Frames.{with_image_area}
use Rattle.image_keep.proofs.Reading.{starts_after}
use Rattle.image_keep.proofs.Loans.{lent_back}

module _ (k lent now : ImagesState) (f : Fixed) (was is : ℕ) (a b : GName) (fixed : IsFixed k.kept f) (begins : lent ≡ k) (slot : was ≡ f.slot)
    (same : ◌≡◌ {A = Lent} (record { loan = a; slot = is; left = left_of now.kept is; outside = outside_of now is }) (record { loan = b; slot = was; left = left_of lent.kept was; outside = outside_of lent was })) where
  abbrev image : Image
  image = image_of now.kept is

  begun : image_of lent.kept was ≡ image_of k.kept f.slot
  begun = ap (λ (x : ImagesState). image_of x.kept was) begins ∙ ap (image_of k.kept) slot

  -- what is kept when the loan has ended
  module _ (left : Kept) (ended : left ≡ now.kept) where
    back : left ≡ with_image k.kept f.slot image
    back = ended ∙ lent_back k.kept lent.kept now.kept f.slot was is a b (kept_is begins) slot same

    -- what is fixed stays so
    pub fixed_after : KeepsForm (image_of lent.kept was) image → IsFixed left f
    fixed_after form =
        let own : KeepsForm (image_of k.kept f.slot) image = subst (λ m. KeepsForm m image) begun form in
        subst (λ x. IsFixed x f) (sym back)
        (starts_after k.kept f.slot f.starts image fixed (record { text = ap length own.text; «data» = own.data; stack = own.stack }))

  -- and all bytes but those of the data and of the stack
  outside_after : (left : ImagesState) → left ≡ now → outside_of left f.slot ≡ outside_of k f.slot
  outside_after left ended =
      let at : is ≡ f.slot = ap (λ (l : Lent). l.slot) same ∙ slot in
      ap (λ (x : ImagesState). outside_of x f.slot) ended
      ∙ (ap (outside_of now) (sym at)
      ∙ (ap (λ (l : Lent). l.outside) same ∙ ((λ i. outside_of (begins i) (slot i)))))

  module _ (r : List ℕ) (cc : ℕ) (regs' : Regs) (o : Outcome) (r_is : r ≡ (area_of k.kept f.slot).r) (cc_is : cc ≡ (area_of k.kept f.slot).cc)
      (step : stepped o (pdp.machine_of regs' image) ≡ instr (record { r = r; cc = cc; image = image_of lent.kept was })) where
    instr_is : stepped o (pdp.machine_of regs' image) ≡ instr (machine_in k.kept f.slot)
    instr_is = step ∙ (λ i. instr (record { r = r_is i; cc = cc_is i; image = begun i }))

    pub outcome_is : o ≡ (instr (machine_in k.kept f.slot)).outcome
    outcome_is = ap (λ (x : Stepped). x.outcome) instr_is

    pub kept_after : (left new : Kept) → left ≡ now.kept → new ≡ with_area left f.slot (with_state (area_of left f.slot) regs'.r regs'.cc) → new ≡ with_machine_in k.kept f.slot (instr (machine_in k.kept f.slot)).machine
    kept_after left new ended put =
        put
        ∙ ap (λ x. with_area x f.slot (with_state (area_of x f.slot) regs'.r regs'.cc)) (back left ended)
        ∙ ap (λ (u : UArea). with_area (with_image k.kept f.slot image) f.slot (with_state u regs'.r regs'.cc)) (with_image_area k.kept f.slot f.slot image)
        ∙ ap (λ (x : Stepped). with_machine_in k.kept f.slot x.machine) instr_is

    -- which bytes are written
    pub written_after : (left new : ImagesState) → left ≡ now
        → outside_of new f.slot ≡ over_outside (outside_of left f.slot) (f.starts.image - 1024) (state_bytes regs'.r regs'.cc)
        → IsSteppedAt k new f.slot (f.starts.image - 1024) (instr (machine_in k.kept f.slot)).machine
    written_after left new ended put =
        put
        ∙ ap (λ (o : Outside). over_outside o (f.starts.image - 1024) (state_bytes regs'.r regs'.cc)) (outside_after left ended)
        ∙ ap (λ (x : Stepped). over_outside (outside_of k f.slot) (f.starts.image - 1024) (state_bytes x.machine.r x.machine.cc)) instr_is

-- What is kept has not changed, and the instruction is the same.
module _ (k now : Kept) (f : Fixed) (same : now ≡ k) where
  pub outcome_same : (instr (machine_in now f.slot)).outcome ≡ (instr (machine_in k f.slot)).outcome
  outcome_same = ap (λ (x : Kept). (instr (machine_in x f.slot)).outcome) same

  pub kept_same : with_machine_in now f.slot (instr (machine_in now f.slot)).machine ≡ with_machine_in k f.slot (instr (machine_in k f.slot)).machine
  kept_same = ap (λ (x : Kept). with_machine_in x f.slot (instr (machine_in x f.slot)).machine) same
