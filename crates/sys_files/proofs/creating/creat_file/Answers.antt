use Rattle.std.proofs.Common.{slice_index, ap, refl, subst}
use Rattle.fs_nodes.specs.Keys.{counts}
use Rattle.fs_nodes.proofs.RestLemmas.{rest_then}
use Rattle.fs_tree.specs.declared.made.Made.{Made}
use Rattle.fs_tree.specs.Finding.{inodes_of, named_by_made}
use Rattle.sys_files.specs.Handed.{Handed, handed}
use Rattle.sys_files.specs.Did.{unnamed}
use Rattle.sys_files.specs.Entering.{OneReferenceMore}
use Rattle.sys_files.proofs.DoesLemmas.{does_as, does_unnamed}
use Rattle.sys_files.proofs.KeptLemmas.{still_mounts, kept_references}
use Rattle.sys_files.proofs.CreatingLemmas.{creat_refused, creat_found, creat_new, between_kept}
use Rattle.sys_files.proofs.creating.creat_file.Goals as goal

pub returns-in-Err-clause-does : goal.returns-in-Err-clause-does
returns-in-Err-clause-does g c =
    let h : Handed = handed c.args.f.now c.args.u.now c.args.row.now (g.S.Space.image c.args.space.now) in
    does_as (creat_refused h _ (slice_index c.args.args 0) (slice_index c.args.args 1) c.args.now
    (λ i. record h {
      inodes = c.find_to_make.ensures.inodes i;
      marks = c.find_to_make.ensures.marks i;
      mounts = c.find_to_make.ensures.mounts i;
    }) c.in-Err.e c.in-Err.ensures.answer)
    (kept_references h _ c.requires.sound refl refl refl refl c.find_to_make.ensures.mounts c.in-Err.ensures.none.references
    c.in-Err.ensures.none.counts)

pub returns-in-Found-clause-does : goal.returns-in-Found-clause-does
returns-in-Found-clause-does g c =
    let image = g.S.Space.image c.args.space.now in
    let h : Handed = handed c.args.f.now c.args.u.now c.args.row.now image in
    let after : Handed = handed (record c.args.f.now { tree = c.find_to_make.new.tree }) c.args.u.now c.args.row.now image in
    let end : Handed = handed c.open_again-answer.new.f c.open_again-answer.new.u c.open_again-answer.new.row image in
    let P : Made → Type 0 = λ m. OneReferenceMore c.args.f.now.tree.nodes (named_by_made m) c.find_to_make.new.tree.nodes in
    does_unnamed (creat_found h after (slice_index c.args.args 0) (slice_index c.args.args 1) c.args.now
    (λ i. record h {
      inodes = c.find_to_make.ensures.inodes i;
      marks = c.find_to_make.ensures.marks i;
      mounts = c.find_to_make.ensures.mounts i;
    }) c.in-Ok.made c.open_again-answer.result end
    (inodes_of c.let_go.new.nodes) c.in-Ok.ensures.answer c.in-Found.ino c.in-Found.is
    (ap unnamed (c.open_again-answer.ensures.did image)) c.let_go.ensures.inodes)
    (between_kept h after end c.args.f.now.tree.nodes c.find_to_make.new.tree.nodes c.open_again-answer.new.f.tree.nodes c.let_go.new.nodes
    c.in-Found.ino (subst P c.in-Found.is c.in-Ok.ensures.found) (c.open_again-answer.ensures.kept image) refl refl
    c.find_to_make.ensures.mounts c.open_again-answer.ensures.more
    c.let_go.ensures.inodes c.let_go.ensures.rest)

pub returns-in-Room-clause-does : goal.returns-in-Room-clause-does
returns-in-Room-clause-does g c =
    let image = g.S.Space.image c.args.space.now in
    let h : Handed = handed c.args.f.now c.args.u.now c.args.row.now image in
    let after : Handed = handed (record c.args.f.now { tree = c.find_to_make.new.tree }) c.args.u.now c.args.row.now image in
    let end : Handed = handed c.make_file-answer.new.f c.make_file-answer.new.u c.make_file-answer.new.row image in
    let P : Made → Type 0 = λ m. OneReferenceMore c.args.f.now.tree.nodes (named_by_made m) c.find_to_make.new.tree.nodes in
    does_unnamed (creat_new h after (slice_index c.args.args 0) (slice_index c.args.args 1) c.args.now
    (λ i. record h {
      inodes = c.find_to_make.ensures.inodes i;
      marks = c.find_to_make.ensures.marks i;
      mounts = c.find_to_make.ensures.mounts i;
    }) c.in-Ok.made c.make_file-answer.result end
    (inodes_of c.let_go-in-Room.new.nodes) c.in-Ok.ensures.answer c.in-Room.dir c.in-Room.offset c.in-Room.name c.in-Room.is
    (c.make_file-answer.ensures.did image) c.let_go-in-Room.ensures.inodes)
    (between_kept h after end c.args.f.now.tree.nodes c.find_to_make.new.tree.nodes c.make_file-answer.new.f.tree.nodes c.let_go-in-Room.new.nodes
    c.in-Room.dir (subst P c.in-Room.is c.in-Ok.ensures.found) (c.make_file-answer.ensures.kept image) refl refl
    c.find_to_make.ensures.mounts c.make_file-answer.ensures.more
    c.let_go-in-Room.ensures.inodes c.let_go-in-Room.ensures.rest)

pub open_again-answer-requires-clause-mounts : goal.open_again-answer-requires-clause-mounts
open_again-answer-requires-clause-mounts g c =
    still_mounts c.args.f.now.tree.mounts c.find_to_make.new.tree.mounts c.args.f.now.tree.nodes.store
    c.find_to_make.new.tree.nodes.store
    c.find_to_make.ensures.mounts (ap counts c.find_to_make.ensures.same) c.requires.sound.mounts

pub make_file-answer-requires-clause-mounts : goal.make_file-answer-requires-clause-mounts
make_file-answer-requires-clause-mounts g c =
    still_mounts c.args.f.now.tree.mounts c.find_to_make.new.tree.mounts c.args.f.now.tree.nodes.store
    c.find_to_make.new.tree.nodes.store
    c.find_to_make.ensures.mounts (ap counts c.find_to_make.ensures.same) c.requires.sound.mounts

pub returns-in-Found-clause-blocks : goal.returns-in-Found-clause-blocks
returns-in-Found-clause-blocks g c =
    let P : Made → Type 0 = λ m. OneReferenceMore c.args.f.now.tree.nodes (named_by_made m) c.find_to_make.new.tree.nodes in
    rest_then c.args.f.now.tree.nodes.blocks c.find_to_make.new.tree.nodes.blocks c.let_go.new.nodes.blocks
    (subst P c.in-Found.is c.in-Ok.ensures.found).blocks
    (rest_then c.find_to_make.new.tree.nodes.blocks c.open_again-answer.new.f.tree.nodes.blocks c.let_go.new.nodes.blocks
    c.open_again-answer.ensures.blocks c.let_go.ensures.rest)

pub returns-in-Room-clause-blocks : goal.returns-in-Room-clause-blocks
returns-in-Room-clause-blocks g c =
    let P : Made → Type 0 = λ m. OneReferenceMore c.args.f.now.tree.nodes (named_by_made m) c.find_to_make.new.tree.nodes in
    rest_then c.args.f.now.tree.nodes.blocks c.find_to_make.new.tree.nodes.blocks c.let_go-in-Room.new.nodes.blocks
    (subst P c.in-Room.is c.in-Ok.ensures.found).blocks
    (rest_then c.find_to_make.new.tree.nodes.blocks c.make_file-answer.new.f.tree.nodes.blocks c.let_go-in-Room.new.nodes.blocks
    c.make_file-answer.ensures.blocks c.let_go-in-Room.ensures.rest)
