use Rattle.std.proofs.Common.{◌≡◌, ◌+◌, ◌-◌, ◌%◌, ◌∙◌, ℕ, slice_set, sym, ap, subst, arith}
use Rattle.u_area.specs.declared.area.UArea.{UArea}
use Rattle.u_area.specs.Area.{fetched}
use Rattle.u_area.specs.Fields.{with_register, with_codes}
use Rattle.image_keep.specs.Kept.{Kept, HasImage, area_of, with_area}
use Rattle.image_keep.specs.Running.{with_state}
use Rattle.image_keep.proofs.Frames.{area_twice, with_area_same, with_area_has}
use Rattle.unix_core.proofs.process.refuse.Goals as goal

pub set_codes-requires-clause-image : goal.set_codes-requires-clause-image
set_codes-requires-clause-image c =
    let k : Kept = c.args.images.now.kept in
    subst (λ x. HasImage x c.args.s) (sym c.set_register.ensures.kept) (with_area_has k c.args.s c.args.s (with_register (area_of k c.args.s) 0 c.args.number) c.requires)

pub set_codes-requires-clause-codes : goal.set_codes-requires-clause-codes
set_codes-requires-clause-codes c =
    let u : UArea = fetched c.area_bytes.result.now in
    let low = u.codes in
    let same = c.codes-cc.ensures in
    omega (arith, low, same)

pub returns : goal.returns
returns c =
    let k : Kept = c.args.images.now.kept in
    let s = c.args.s in
    let own : UArea = area_of k s in
    let first : UArea = with_register own 0 c.args.number in
    let cc : ℕ = c.codes-cc.result - c.codes-cc.result % 2 + 1 in
    let was : c.codes-cc.result ≡ own.cc = c.codes-cc.ensures ∙ ap (λ (u : UArea). u.cc) c.area_bytes.ensures.read in
    c.set_codes.ensures.kept
    ∙ (ap (λ (x : Kept). with_area x s (with_codes (area_of x s) cc)) c.set_register.ensures.kept
    ∙ (ap (λ (u : UArea). with_area (with_area k s first) s (with_codes u cc)) (with_area_same k s first c.requires)
    ∙ (area_twice k s first (with_codes first cc)
    ∙ ap (λ n. with_area k s (with_state own (slice_set own.r 0 c.args.number) (n - n % 2 + 1))) was)))
