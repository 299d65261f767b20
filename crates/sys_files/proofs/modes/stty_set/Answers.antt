use Rattle.std.proofs.Common.{slice_index, refl, sym, ap, ◌∙◌}
use Rattle.v6_base.specs.declared.errno.Errno.TheVariants.{EFAULT}
use Rattle.sys_files.specs.Handed.{Handed, handed}
use Rattle.sys_files.specs.Did.{check, need}
use Rattle.sys_files.specs.Modes.{words_at, sets_modes}
use Rattle.sys_files.proofs.DoesLemmas.{does_refused}
use Rattle.sys_files.proofs.modes.stty_set.Goals as goal

pub returns-in-Err-clause-does : goal.returns-in-Err-clause-does
returns-in-Err-clause-does g c =
    let image = g.S.Space.image c.args.space.now in
    let h : Handed = handed c.args.f.now c.args.u.now c.args.row.now image in
    does_refused (sym (c.in-Err.ensures.line c.args.row.now image (λ l. check h (need EFAULT (words_at h (slice_index c.args.args 0))) (sets_modes h l)))) c.requires.sound

pub returns-in_default-clause-does : goal.returns-in_default-clause-does
returns-in_default-clause-does g c =
    let image = g.S.Space.image c.args.space.now in
    let h : Handed = handed c.args.f.now c.args.u.now c.args.row.now image in
    does_refused (ap (λ o. check h (need EFAULT o) (sets_modes h c.in-Ok.line)) (c.in_default.ensures h refl)
    ∙ sym (c.in-Ok.ensures.line c.args.row.now image (λ l. check h (need EFAULT (words_at h (slice_index c.args.args 0))) (sets_modes h l)))) c.requires.sound
