use Rattle.std.proofs.Common.{◌≡◌, ◌+◌, ◌-◌, ◌*◌, ◌%◌, ◌∙◌, slice_index, ap, arith}
use Rattle.u_area.specs.declared.area.UArea.{UArea}
use Rattle.u_area.specs.Area.{fetched}
use Rattle.image_keep.specs.Kept.{area_of, with_area}
use Rattle.image_keep.specs.Running.{with_pc}
use Rattle.unix_core.proofs.process.enter.Goals as goal

pub set_pc_at-requires-clause-codes : goal.set_pc_at-requires-clause-codes
set_pc_at-requires-clause-codes c =
    let u : UArea = fetched c.area_bytes_at-area.result.now in
    let low = u.codes in
    let same = c.codes-cc.ensures in
    omega (arith, low, same)

pub returns-clause-kept : goal.returns-clause-kept
returns-clause-kept c =
    let own : UArea = area_of c.args.images.now.kept c.args.fixed.now.slot in
    let pc : c.register.result ≡ slice_index own.r 7 = c.register.ensures ∙ ap (λ (u : UArea). slice_index u.r 7) c.area_bytes_at-area.ensures.read in
    let was : c.codes-cc.result ≡ own.cc = c.codes-cc.ensures ∙ ap (λ (u : UArea). u.cc) c.area_bytes_at-area.ensures.read in
    c.set_pc_at.ensures.kept
    ∙ (λ i. with_area c.args.images.now.kept c.args.fixed.now.slot (with_pc own ((pc i + 2 * c.from.ensures i) % 65536) (was i - was i % 2)))
