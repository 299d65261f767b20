use Rattle.std.proofs.Common.{slice_index, refl, sym, ◌∙◌}
use Rattle.sys_files.specs.Handed.{Handed, handed}
use Rattle.sys_files.specs.Modes.{tells_modes}
use Rattle.sys_files.proofs.DoesLemmas.{does_refused, does_as}
use Rattle.sys_files.proofs.KeptLemmas.{kept_same}
use Rattle.sys_files.proofs.modes.gtty_get.Goals as goal

pub returns-in-Err-clause-does : goal.returns-in-Err-clause-does
returns-in-Err-clause-does g c =
    let image = g.S.Space.image c.args.space.now in
    let h : Handed = handed c.args.f.now c.args.u.now c.args.row.now image in
    does_refused (sym (c.in-Err.ensures.line c.args.row.now image (λ l. tells_modes h l (slice_index c.args.args 0)))) c.requires.sound

pub returns-clause-does : goal.returns-clause-does
returns-clause-does g c =
    let image = g.S.Space.image c.args.space.now in
    let h : Handed = handed c.args.f.now c.args.u.now c.args.row.now image in
    does_as (c.in-Ok.ensures.line c.args.row.now image (λ l. tells_modes h l (slice_index c.args.args 0)) ∙ c.put_modes.ensures.did h refl refl refl)
    (kept_same h _ c.requires.sound refl refl refl refl refl refl refl)
