use Rattle.std.proofs.Common.{rules, slice_index, refl}
use Rattle.sys_files.specs.Handed.{Handed, handed}
use Rattle.sys_files.proofs.DoesLemmas.{does_named}
use Rattle.sys_files.proofs.StatusLemmas.{stat_kept}
use Rattle.sys_files.proofs.status.stat_file.Goals as goal

pub returns-in-Err-clause-does : goal.returns-in-Err-clause-does
returns-in-Err-clause-does g c =
    let h : Handed = handed c.args.f.now c.args.u.now c.args.row.now (g.S.Space.image c.args.space.now) in
    does_named c.args.f.now.tree.nodes h (slice_index c.args.args 0) refl c.find_name.ensures.form c.requires.sound
    (stat_kept h (slice_index c.args.args 0) (slice_index c.args.args 1)) (search rules) (search rules) (search rules)

pub returns-clause-does : goal.returns-clause-does
returns-clause-does g c =
    let h : Handed = handed c.args.f.now c.args.u.now c.args.row.now (g.S.Space.image c.args.space.now) in
    does_named c.args.f.now.tree.nodes h (slice_index c.args.args 0) refl c.find_name.ensures.form c.requires.sound
    (stat_kept h (slice_index c.args.args 0) (slice_index c.args.args 1)) (search rules) (search rules) (search rules)
