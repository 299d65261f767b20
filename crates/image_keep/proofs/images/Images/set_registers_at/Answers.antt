use Rattle.std.proofs.Common.{rules, sym, subst}
use Rattle.image_keep.specs.Starts.{AreStarts}
use Rattle.image_keep.proofs.Registers.{starts_described, state_long}
use Rattle.image_keep.specs.Running.{state_bytes}
use Rattle.image_keep.proofs.FieldPut.{state_law}
use Rattle.image_keep.proofs.SteppedNear.{front_outside}
use Rattle.image_keep.proofs.images.Images.set_registers_at.Goals as goal

pub put_field-requires-clause-law : goal.put_field-requires-clause-law
put_field-requires-clause-law c = rw c.state_bytes.ensures (_, state_law _ c.args.r.now c.args.cc (search rules) c.requires.codes)

pub returns-clause-kept : goal.returns-clause-kept
returns-clause-kept c = (rw c.state_bytes.ensures at c.put_field.ensures.kept) _ (state_law _ c.args.r.now c.args.cc (search rules) c.requires.codes)

pub returns-clause-fixed : goal.returns-clause-fixed
returns-clause-fixed c = subst (λ j. AreStarts j c.args.fixed.now.slot c.args.fixed.now.starts) (sym (returns-clause-kept c)) (starts_described c.args.self.now.kept c.args.fixed.now.slot c.args.fixed.now.starts _ c.requires.fixed)

pub returns-clause-outside : goal.returns-clause-outside
returns-clause-outside c =
    front_outside c.args.self.now c.put_field.new.self c.args.fixed.now.slot c.fixed_start-at.result c.args.fixed.now.starts
    (state_bytes c.args.r.now c.args.cc) c.requires.fixed (returns-clause-fixed c) (rw c.state_bytes.ensures at c.put_field.ensures.written)
    (state_long c.args.r.now c.args.cc (search rules)) c.fixed_start-at.ensures.at c.put_field.ensures.room
