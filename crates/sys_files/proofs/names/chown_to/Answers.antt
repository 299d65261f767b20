use Rattle.std.proofs.Common.{rules, slice_index, refl}
use Rattle.sys_files.specs.Handed.{Handed, handed}
use Rattle.sys_files.proofs.DoesLemmas.{does_named}
use Rattle.sys_files.proofs.EnteringLemmas.{rest_after}
use Rattle.sys_files.proofs.NamesLemmas.{chown_kept}
use Rattle.sys_files.proofs.names.chown_to.Goals as goal

pub returns-in-Err-clause-does : goal.returns-in-Err-clause-does
returns-in-Err-clause-does g c =
    let h : Handed = handed c.args.f.now c.args.u.now c.args.row.now (g.S.Space.image c.args.space.now) in
    does_named c.args.f.now.tree.nodes h (slice_index c.args.args 0) refl c.find_name.ensures.form c.requires.sound
    (chown_kept h (slice_index c.args.args 0) (slice_index c.args.args 1) c.args.now) (search rules) (search rules) (search rules)

pub returns-clause-does : goal.returns-clause-does
returns-clause-does g c =
    let h : Handed = handed c.args.f.now c.args.u.now c.args.row.now (g.S.Space.image c.args.space.now) in
    does_named c.args.f.now.tree.nodes h (slice_index c.args.args 0) refl c.find_name.ensures.form c.requires.sound
    (chown_kept h (slice_index c.args.args 0) (slice_index c.args.args 1) c.args.now) (search rules) (search rules) (search rules)

pub returns-clause-blocks : goal.returns-clause-blocks
returns-clause-blocks g c =
    rest_after c.args.f.now.tree.nodes c.find_name.new.tree.nodes c.set_owner.new.nodes c.let_go.new.nodes
    c.find_name.ensures.blocks c.set_owner.ensures.rest c.let_go.ensures.rest
