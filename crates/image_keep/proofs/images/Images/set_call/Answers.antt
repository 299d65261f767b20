use Rattle.std.proofs.Common.{◌+◌, [], ◌∷◌, rules}
use Rattle.core_mem.specs.Bytes.{over}
use Rattle.fs_codec.specs.Bytes.{bytes_of}
use Rattle.u_area.specs.declared.area.UArea.{UArea}
use Rattle.image_keep.specs.Kept.{area_of}
use Rattle.image_keep.proofs.FieldPut.{pending_law, call_law, put_then, written_then}
use Rattle.image_keep.proofs.images.Images.set_call.Goals as goal

pub put_field-requires-clause-law : goal.put_field-requires-clause-law
put_field-requires-clause-law c = (_, pending_law _ _)

pub put_field-requires-2-clause-law : goal.put_field-requires-2-clause-law
put_field-requires-2-clause-law c = rw c.eight_words.ensures (_, call_law _ c.args.call.now (search rules))

pub returns-clause-kept : goal.returns-clause-kept
returns-clause-kept c =
    put_then _ _ _ c.args.s (record (area_of c.args.self.now.kept c.args.s) { pending = c.args.pending }) (λ (u : UArea). record u { call = c.args.call.now }) c.requires (c.put_field.ensures.kept _ (pending_law _ _))
    ((rw c.eight_words.ensures at c.put_field-2.ensures.kept) _ (call_law _ c.args.call.now (search rules)))

pub returns-clause-written : goal.returns-clause-written
returns-clause-written c =
    written_then c.args.self.now c.put_field.new.self c.put_field-2.new.self c.args.s c.area_start-at.result 32 (λ at line. over line (at + 30) (c.args.pending ∷ [])) (bytes_of c.args.call.now) c.area_start-at.ensures c.put_field.ensures.image c.put_field.ensures.place
    c.put_field.ensures.written (rw c.eight_words.ensures at c.put_field-2.ensures.written)
