use Rattle.std.proofs.Common.{rules, slice_index, refl, arith}
use Rattle.fs_tree.specs.Name.{name_at}
use Rattle.fs_tree.specs.Finding.{inodes_of}
use Rattle.sys_files.specs.Handed.{Handed, handed, user_of}
use Rattle.sys_files.proofs.DoesLemmas.{does_named}
use Rattle.sys_files.proofs.EnteringLemmas.{rest_after}
use Rattle.sys_files.proofs.GivingLemmas.{found_takes}
use Rattle.sys_files.proofs.NamesLemmas.{can_be_more, chdir_kept}
use Rattle.sys_files.proofs.OwedLemmas.{directory_referred}
use Rattle.sys_files.proofs.names.chdir_to.Goals as goal

pub enter_directory-answer-requires-clause-directory : goal.enter_directory-answer-requires-clause-directory
enter_directory-answer-requires-clause-directory g c =
    let h : Handed = handed c.args.f.now c.args.u.now c.args.row.now (g.S.Space.image c.args.space.now) in
    let some = directory_referred h c.requires.sound in
    let more = (found_takes c.args.f.now.tree.nodes c.find_name.new.tree.nodes c.args.f.now.tree.mounts (user_of c.args.u.now)
    c.args.u.now.dir (name_at (g.S.Space.image c.args.space.now) (slice_index c.args.args 0)) c.in-Ok.ino c.find_name.ensures.form
    c.requires.sound.mounts some c.in-Ok.ensures.found c.find_name.ensures.inodes c.find_name.ensures.blocks).references
    c.args.u.now.dir in
    omega (arith, more, some)

pub enter_directory-answer-requires-clause-few : goal.enter_directory-answer-requires-clause-few
enter_directory-answer-requires-clause-few g c =
    can_be_more (inodes_of c.args.f.now.tree.nodes) (inodes_of c.find_name.new.tree.nodes) c.args.f.now.tree.mounts
    (user_of c.args.u.now) c.args.u.now.dir (name_at (g.S.Space.image c.args.space.now)
    (slice_index c.args.args 0)) c.in-Ok.ino c.requires.sound.few c.find_name.ensures.inodes

pub returns-in-Err-clause-does : goal.returns-in-Err-clause-does
returns-in-Err-clause-does g c =
    let h : Handed = handed c.args.f.now c.args.u.now c.args.row.now (g.S.Space.image c.args.space.now) in
    does_named c.args.f.now.tree.nodes h (slice_index c.args.args 0) refl c.find_name.ensures.form c.requires.sound
    (chdir_kept h (slice_index c.args.args 0)) (search rules) (search rules) (search rules)

pub returns-clause-does : goal.returns-clause-does
returns-clause-does g c =
    let h : Handed = handed c.args.f.now c.args.u.now c.args.row.now (g.S.Space.image c.args.space.now) in
    does_named c.args.f.now.tree.nodes h (slice_index c.args.args 0) refl c.find_name.ensures.form c.requires.sound
    (chdir_kept h (slice_index c.args.args 0)) (search rules) (search rules) (search rules)

pub returns-clause-blocks : goal.returns-clause-blocks
returns-clause-blocks g c =
    rest_after c.args.f.now.tree.nodes c.find_name.new.tree.nodes c.enter_directory-answer.new.f.tree.nodes c.let_go.new.nodes
    c.find_name.ensures.blocks c.enter_directory-answer.ensures.rest c.let_go.ensures.rest
