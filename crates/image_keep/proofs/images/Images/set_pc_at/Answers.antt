use Rattle.std.proofs.Common.{sym, subst}
use Rattle.image_keep.specs.Starts.{AreStarts}
use Rattle.image_keep.proofs.Registers.{starts_described}
use Rattle.image_keep.proofs.FieldPut.{pc_law}
use Rattle.image_keep.proofs.images.Images.set_pc_at.Goals as goal

pub put_field-requires-clause-law : goal.put_field-requires-clause-law
put_field-requires-clause-law c = rw (c.two_words.ensures, c.from.ensures) (_, pc_law _ _ _ c.requires.codes)

pub returns-clause-kept : goal.returns-clause-kept
returns-clause-kept c = (rw (c.two_words.ensures, c.from.ensures) at c.put_field.ensures.kept) _ (pc_law _ _ _ c.requires.codes)

pub returns-clause-written : goal.returns-clause-written
returns-clause-written c = rw (c.two_words.ensures, c.from.ensures) at c.put_field.ensures.written

pub returns-clause-fixed : goal.returns-clause-fixed
returns-clause-fixed c = subst (λ j. AreStarts j c.args.fixed.now.slot c.args.fixed.now.starts) (sym (returns-clause-kept c)) (starts_described c.args.self.now.kept c.args.fixed.now.slot c.args.fixed.now.starts _ c.requires.fixed)
