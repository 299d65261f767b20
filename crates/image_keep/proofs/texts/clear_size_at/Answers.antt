use Rattle.std.proofs.Common.{◌∙◌, sym, ap, subst, length}
use Rattle.std.proofs.Common.{rules}
use Rattle.core_mem.specs.Bytes.{part, over}
use Rattle.u_area.specs.declared.area.UArea.{UArea}
use Rattle.u_area.specs.Area.{fetched, area_bytes, IsStored}
use Rattle.image_keep.specs.Line.{line_of}
use Rattle.image_keep.specs.Memory.{place_at}
use Rattle.image_keep.proofs.texts.clear_size_at.Goals as goal

pub fetch-u-requires : goal.fetch-u-requires
fetch-u-requires c = subst IsStored (sym (c.area.ensures ∙ ap (λ i. part (line_of c.args.memory.now) i 1024) c.place_click-at.ensures)) c.requires.stored

pub returns-clause-line : goal.returns-clause-line
unfolding area_bytes
returns-clause-line c = c.put.ensures.bytes ∙ ap (λ i. over (line_of c.args.memory.now) i c.store.new.b) c.place_click-at.ensures ∙ ap (over (line_of c.args.memory.now) (place_at c.args.core c.args.place)) (c.store.ensures.written ∙ ap (λ (u : UArea). area_bytes (record u { text_size = 0 })) (c.fetch-u.ensures.read ∙ ap fetched (c.area.ensures ∙ ap (λ i. part (line_of c.args.memory.now) i 1024) c.place_click-at.ensures)))

pub returns-clause-long : goal.returns-clause-long
unfolding area_bytes
returns-clause-long c = ap length (sym (c.store.ensures.written ∙ ap (λ (u : UArea). area_bytes (record u { text_size = 0 })) (c.fetch-u.ensures.read ∙ ap fetched (c.area.ensures ∙ ap (λ i. part (line_of c.args.memory.now) i 1024) c.place_click-at.ensures)))) ∙ (search rules)
