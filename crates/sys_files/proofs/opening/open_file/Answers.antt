use Rattle.std.proofs.Common.{rules, slice_index, refl, sym, ◌∙◌}
use Rattle.fs_tree.specs.Finding.{inodes_of}
use Rattle.fs_tree.specs.Name.{name_at}
use Rattle.sys_files.specs.Handed.{Handed, handed, user_of}
use Rattle.sys_files.proofs.DoesLemmas.{does_named}
use Rattle.sys_files.proofs.OpeningLemmas.{open_kept, open_quiet, few_found}
use Rattle.sys_files.proofs.opening.open_file.Goals as goal

pub returns-in-Err-clause-does : goal.returns-in-Err-clause-does
returns-in-Err-clause-does g c =
    let h : Handed = handed c.args.f.now c.args.u.now c.args.row.now (g.S.Space.image c.args.space.now) in
    does_named c.args.f.now.tree.nodes h (slice_index c.args.args 0) refl c.find_name.ensures.form c.requires.sound
    (open_kept h (slice_index c.args.args 0) (slice_index c.args.args 1)) (search rules) (search rules) (open_quiet h (slice_index c.args.args 0) (slice_index c.args.args 1))

pub open_named-answer-requires-clause-few : goal.open_named-answer-requires-clause-few
open_named-answer-requires-clause-few g c =
    few_found (inodes_of c.args.f.now.tree.nodes) (inodes_of c.find_name.new.tree.nodes) c.args.f.now.tree.mounts
    (user_of c.args.u.now) c.args.u.now.dir (name_at (g.S.Space.image c.args.space.now) (slice_index c.args.args 0)) c.in-Ok.ino
    (c.requires.sound.few c.in-Ok.ino) (sym c.find_name.ensures.found ∙ c.in-Ok.is) c.find_name.ensures.inodes

pub returns-clause-does : goal.returns-clause-does
returns-clause-does g c =
    let h : Handed = handed c.args.f.now c.args.u.now c.args.row.now (g.S.Space.image c.args.space.now) in
    does_named c.args.f.now.tree.nodes h (slice_index c.args.args 0) refl c.find_name.ensures.form c.requires.sound
    (open_kept h (slice_index c.args.args 0) (slice_index c.args.args 1)) (search rules) (search rules) (open_quiet h (slice_index c.args.args 0) (slice_index c.args.args 1))
