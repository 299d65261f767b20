use Rattle.std.proofs.Common.{◌≡◌, ◌==◌, false, rules, refl, sym, ap, ◌∙◌, arith}
use Rattle.sys_files.specs.Handed.{Handed, handed}
use Rattle.sys_files.specs.Did.{Did, unnamed}
use Rattle.sys_files.specs.Core.{is_written}
use Rattle.sys_files.proofs.AnyLemmas.{any_row}
use Rattle.sys_files.proofs.OwedLemmas.{directory_referred}
use Rattle.sys_files.proofs.KeptLemmas.{kept_references}
use Rattle.sys_files.proofs.CoreWalk.{core_left_other}
use Rattle.sys_files.proofs.CoreLemmas.{core_goes, core_refused, told_whole, told_state, core_kept}
use Rattle.sys_files.proofs.core_file.write_core.Goals as goal

pub write_named-requires-clause-directory : goal.write_named-requires-clause-directory
write_named-requires-clause-directory g c =
    directory_referred (handed c.args.f.now c.args.u.now any_row (g.S.Space.image c.args.space.now)) (c.requires.sound any_row)

pub write_named-requires-clause-few : goal.write_named-requires-clause-few
write_named-requires-clause-few g c = λ i. let few = (c.requires.sound any_row).few i in omega (arith, few)

pub write_named-requires-clause-mounts : goal.write_named-requires-clause-mounts
write_named-requires-clause-mounts g c = (c.requires.sound any_row).mounts

pub returns-then-u-clause-whole : goal.returns-then-u-clause-whole
returns-then-u-clause-whole g c = λ row.
    let image = g.S.Space.image c.args.space.now in
    let h : Handed = handed c.args.f.now c.args.u.now row image in
    let after : Handed = handed c.write_named.new.f c.args.u.now row image in
    c.is_ok.ensures.value ∙ told_whole after c.write_named.result
    ∙ ap (λ (d : Did). is_written d.answer) (sym (ap unnamed (core_goes h c.args.now c.if-u.true)
    ∙ c.write_named.ensures.did row))

pub returns-then-u-clause-state : goal.returns-then-u-clause-state
returns-then-u-clause-state g c = λ row.
    let image = g.S.Space.image c.args.space.now in
    let h : Handed = handed c.args.f.now c.args.u.now row image in
    let after : Handed = handed c.write_named.new.f c.args.u.now row image in
    told_state after c.write_named.result ∙ ap (λ (d : Did). d.state)
    (sym (ap unnamed (core_goes h c.args.now c.if-u.true) ∙ c.write_named.ensures.did row))

pub returns-then-u-clause-kept : goal.returns-then-u-clause-kept
returns-then-u-clause-kept g c = λ row.
    let image = g.S.Space.image c.args.space.now in
    let h : Handed = handed c.args.f.now c.args.u.now row image in
    let after : Handed = handed c.write_named.new.f c.args.u.now row image in
    core_kept h after c.args.now (c.requires.sound row)
    (told_state after c.write_named.result ∙ ap (λ (d : Did). d.state)
    (sym (ap unnamed (core_goes h c.args.now c.if-u.true) ∙ c.write_named.ensures.did row)))
    c.write_named.ensures.kept.references c.write_named.ensures.kept.counts

pub returns-then-u-clause-apart : goal.returns-then-u-clause-apart
returns-then-u-clause-apart g c = λ row.
    let image = g.S.Space.image c.args.space.now in
    let h : Handed = handed c.args.f.now c.args.u.now row image in
    let after : Handed = handed c.write_named.new.f c.args.u.now row image in
    core_left_other h after c.args.now (c.requires.sound row)
    (told_state after c.write_named.result ∙ ap (λ (d : Did). d.state)
    (sym (ap unnamed (core_goes h c.args.now c.if-u.true) ∙ c.write_named.ensures.did row)))

pub returns-else-u-clause-whole : goal.returns-else-u-clause-whole
returns-else-u-clause-whole g c = λ row.
    let h : Handed = handed c.args.f.now c.args.u.now row (g.S.Space.image c.args.space.now) in
    let other : (c.args.u.now.uid == c.args.u.now.ruid) ≡ false = search rules in
    other ∙ ap (λ (d : Did). is_written d.answer) (sym (core_refused h c.args.now other))

pub returns-else-u-clause-state : goal.returns-else-u-clause-state
returns-else-u-clause-state g c = λ row.
    let h : Handed = handed c.args.f.now c.args.u.now row (g.S.Space.image c.args.space.now) in
    let other : (c.args.u.now.uid == c.args.u.now.ruid) ≡ false = search rules in
    ap (λ (d : Did). d.state) (sym (core_refused h c.args.now other))

pub returns-else-u-clause-kept : goal.returns-else-u-clause-kept
returns-else-u-clause-kept g c = λ row.
    let h : Handed = handed c.args.f.now c.args.u.now row (g.S.Space.image c.args.space.now) in
    kept_references h h (c.requires.sound row) refl refl refl refl refl (λ i. refl) refl

pub returns-else-u-clause-apart : goal.returns-else-u-clause-apart
returns-else-u-clause-apart g c = λ row.
    let h : Handed = handed c.args.f.now c.args.u.now row (g.S.Space.image c.args.space.now) in
    let other : (c.args.u.now.uid == c.args.u.now.ruid) ≡ false = search rules in
    core_left_other h h c.args.now (c.requires.sound row) (ap (λ (d : Did). d.state) (sym (core_refused h c.args.now other)))
