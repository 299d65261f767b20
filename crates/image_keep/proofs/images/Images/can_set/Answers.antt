use Rattle.std.proofs.Common.{inl, inr, subst, sym, ◌∙◌, arith}
use Rattle.std.proofs.lemmas.Bool.{cases_lt, false≢true}
use Rattle.v6_base.specs.Words.{IsStorable}
use Rattle.v6_base.proofs.Copies.{none_stored}
use Rattle.v6_base.proofs.RunLemmas.{image_fits, run_writable, not_writable, writes_some}
use Rattle.image_keep.specs.Kept.{image_of}
use Rattle.image_keep.proofs.images.Images.can_set.Goals as goal

pub loop-done-preserved : goal.loop-done-preserved
loop-done-preserved c =
    let storable = subst IsStorable c.find-to.ensures.named (c.is_storable.ensures.0 (c.if-not-is_storable.false)) in
    let size = rw c.find-to.ensures.named at c.room-done.ensures in
    record {
      each = λ k low. elim (cases_lt k c.loop-done.done) [
        | inl before ↦ c.loop-done.invariant.each k before
        | inr from ↦ run_writable (image_of c.args.self.now.kept c.args.s) c.args.at c.loop-done.done k (image_fits _ c.requires.formed) storable from (omega (arith, low, size))
      ];
    }

pub loop-done-smaller : goal.loop-done-smaller
loop-done-smaller c =
    let some = writes_some (image_of c.args.self.now.kept c.args.s) c.find-to.result c.find-to.ensures.within (c.is_storable.ensures.0 (c.if-not-is_storable.false)) in
    omega (arith, some, c.room-done.ensures)

pub returns-then-not-is_storable-clause-refused : goal.returns-then-not-is_storable-clause-refused
returns-then-not-is_storable-clause-refused c f bytes long =
    none_stored (image_of c.args.self.now.kept c.args.s) c.args.at bytes c.loop-done.done (omega (arith, long)) (not_writable (image_of c.args.self.now.kept c.args.s) _ (λ s. false≢true (sym c.if-not-is_storable.true ∙ c.is_storable.ensures.1 (subst IsStorable (sym c.find-to.ensures.named) s))))
