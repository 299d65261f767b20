use Rattle.std.proofs.Common.{rules}
use Rattle.image_keep.proofs.FieldPut.{state_law}
use Rattle.image_keep.proofs.images.Images.set_registers.Goals as goal

pub put_field-requires-clause-law : goal.put_field-requires-clause-law
put_field-requires-clause-law c = rw c.state_bytes.ensures (_, state_law _ c.args.r.now c.args.cc (search rules) c.requires.codes)

pub returns-clause-kept : goal.returns-clause-kept
returns-clause-kept c = (rw c.state_bytes.ensures at c.put_field.ensures.kept) _ (state_law _ c.args.r.now c.args.cc (search rules) c.requires.codes)

pub returns-clause-written : goal.returns-clause-written
returns-clause-written c = rw c.state_bytes.ensures at c.put_field.ensures.written
