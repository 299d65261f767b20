use Rattle.std.proofs.Common.{◌+◌, [], ◌∷◌, rules}
use Rattle.core_mem.specs.Bytes.{over}
use Rattle.fs_codec.specs.Bytes.{bytes_of}
use Rattle.u_area.specs.declared.area.UArea.{UArea}
use Rattle.image_keep.specs.Kept.{area_of}
use Rattle.image_keep.proofs.FieldPut.{directory_law, status_law, handlers_law, put_then, written_then}
use Rattle.image_keep.proofs.images.Images.set_ended.Goals as goal

pub put_field-requires-clause-law : goal.put_field-requires-clause-law
put_field-requires-clause-law c = rw c.one_word.ensures (_, directory_law _ _)

pub put_field-requires-2-clause-law : goal.put_field-requires-2-clause-law
put_field-requires-2-clause-law c = rw c.one_word-2.ensures (_, status_law _ _)

pub put_field-requires-3-clause-law : goal.put_field-requires-3-clause-law
put_field-requires-3-clause-law c = rw c.twenty_words.ensures (_, handlers_law _ c.args.handlers.now (search rules))

pub returns-clause-kept : goal.returns-clause-kept
returns-clause-kept c =
    let own : UArea = area_of c.args.self.now.kept c.args.s in
    let first = (rw c.one_word.ensures at c.put_field.ensures.kept) _ (directory_law own 0) in
    let second = put_then _ _ _ c.args.s (record own { dir = 0 }) (λ (u : UArea). record u { status = c.args.status }) c.requires first ((rw c.one_word-2.ensures at c.put_field-2.ensures.kept) _ (status_law _ _)) in
    put_then _ _ _ c.args.s (record own { dir = 0; status = c.args.status }) (λ (u : UArea). record u { handlers = c.args.handlers.now }) c.requires second ((rw c.twenty_words.ensures at c.put_field-3.ensures.kept) _ (handlers_law _ c.args.handlers.now (search rules)))

pub returns-clause-written : goal.returns-clause-written
returns-clause-written c =
    let first = rw c.one_word.ensures at c.put_field.ensures.written in
    let second =
    written_then c.args.self.now c.put_field.new.self c.put_field-2.new.self c.args.s c.area_start-at.result 60 (λ at line. over line (at + 22) (bytes_of (0 ∷ []))) (bytes_of (c.args.status ∷ [])) c.area_start-at.ensures c.put_field.ensures.image c.put_field.ensures.place
    first (rw c.one_word-2.ensures at c.put_field-2.ensures.written) in
    written_then c.args.self.now c.put_field-2.new.self c.put_field-3.new.self c.args.s c.area_start-at.result 64 (λ at line. over (over line (at + 22) (bytes_of (0 ∷ []))) (at + 60) (bytes_of (c.args.status ∷ []))) (bytes_of c.args.handlers.now)
    c.area_start-at.ensures c.put_field-2.ensures.image c.put_field-2.ensures.place second (rw c.twenty_words.ensures at c.put_field-3.ensures.written)
