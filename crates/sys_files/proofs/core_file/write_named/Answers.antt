use Rattle.std.proofs.Common.{◌≡◌, Err, rules, ap, ◌∙◌, subst}
use Rattle.v6_base.specs.Image.{text_alone}
use Rattle.fs_tree.specs.declared.made.Made.{Made}
use Rattle.fs_tree.specs.Name.{name_at}
use Rattle.fs_tree.specs.Finding.{inodes_of, named_by_made}
use Rattle.fs_nodes.specs.Keys.{counts}
use Rattle.sys_files.specs.Handed.{Handed, handed}
use Rattle.sys_files.specs.Entering.{OneReferenceMore, did_of}
use Rattle.sys_files.proofs.GivingLemmas.{takes_keeps_gives}
use Rattle.sys_files.proofs.KeptLemmas.{still_mounts}
use Rattle.sys_files.proofs.CoreLemmas.{named_new, named_over, not_named}
use Rattle.sys_files.proofs.core_file.write_named.Goals as goal

pub returns-in_err-ino-clause-did : goal.returns-in_err-ino-clause-did
returns-in_err-ino-clause-did g c = λ row.
    let image = g.S.Space.image c.args.space.now in
    let h : Handed = handed c.args.f.now c.args.u.now row image in
    let after : Handed = handed (record c.args.f.now { tree = c.find_to_make.new.tree }) c.args.u.now row image in
    let is : Err c.in_err-ino.field-0.0 ≡ c.from_residual.result = search rules in
    not_named h after c.args.now (name_at (text_alone c.core_name.result.bytes) 0) c.core_name.ensures
    (λ i. record h {
      inodes = c.find_to_make.ensures.inodes i;
      marks = c.find_to_make.ensures.marks i;
      mounts = c.find_to_make.ensures.mounts i;
    })
    c.in_err-ino.field-0.0 c.in_err-ino.ensures.answer
    ∙ ap (did_of after) is

pub returns-in-Found-clause-did : goal.returns-in-Found-clause-did
returns-in-Found-clause-did g c = λ row.
    let image = g.S.Space.image c.args.space.now in
    let h : Handed = handed c.args.f.now c.args.u.now row image in
    let after : Handed = handed (record c.args.f.now { tree = c.find_to_make.new.tree }) c.args.u.now row image in
    named_over h after c.args.now (name_at (text_alone c.core_name.result.bytes) 0) c.core_name.ensures
    (λ i. record h {
      inodes = c.find_to_make.ensures.inodes i;
      marks = c.find_to_make.ensures.marks i;
      mounts = c.find_to_make.ensures.mounts i;
    })
    c.in_ok-ino.field-0 c.in-Found.ino (handed c.write_over-result.new.f c.args.u.now row image) c.write_over-result.result
    (inodes_of c.let_go.new.nodes) c.in_ok-ino.ensures.answer c.in-Found.is (c.write_over-result.ensures.did row)
    c.let_go.ensures.inodes

pub write_new-result-requires-clause-mounts : goal.write_new-result-requires-clause-mounts
write_new-result-requires-clause-mounts g c =
    still_mounts c.args.f.now.tree.mounts c.find_to_make.new.tree.mounts c.args.f.now.tree.nodes.store
    c.find_to_make.new.tree.nodes.store
    c.find_to_make.ensures.mounts (ap counts c.find_to_make.ensures.same) c.requires.mounts

pub returns-in-Found-clause-kept : goal.returns-in-Found-clause-kept
returns-in-Found-clause-kept g c =
    let P : Made → Type 0 = λ m. OneReferenceMore c.args.f.now.tree.nodes (named_by_made m) c.find_to_make.new.tree.nodes in
    takes_keeps_gives c.args.f.now.tree.nodes c.find_to_make.new.tree.nodes c.write_over-result.new.f.tree.nodes c.let_go.new.nodes c.in-Found.ino
    (subst P c.in-Found.is c.in_ok-ino.ensures.found) c.write_over-result.ensures.kept c.let_go.ensures.inodes c.let_go.ensures.rest

pub returns-in-Room-clause-did : goal.returns-in-Room-clause-did
returns-in-Room-clause-did g c = λ row.
    let image = g.S.Space.image c.args.space.now in
    let h : Handed = handed c.args.f.now c.args.u.now row image in
    let after : Handed = handed (record c.args.f.now { tree = c.find_to_make.new.tree }) c.args.u.now row image in
    named_new h after c.args.now (name_at (text_alone c.core_name.result.bytes) 0) c.core_name.ensures
    (λ i. record h {
      inodes = c.find_to_make.ensures.inodes i;
      marks = c.find_to_make.ensures.marks i;
      mounts = c.find_to_make.ensures.mounts i;
    })
    c.in_ok-ino.field-0 c.in-Room.dir c.in-Room.offset c.in-Room.name (handed c.write_new-result.new.f c.args.u.now row image)
    c.write_new-result.result (inodes_of c.let_go-in-Room.new.nodes) c.in_ok-ino.ensures.answer c.in-Room.is
    (c.write_new-result.ensures.did row) c.let_go-in-Room.ensures.inodes

pub returns-in-Room-clause-kept : goal.returns-in-Room-clause-kept
returns-in-Room-clause-kept g c =
    let P : Made → Type 0 = λ m. OneReferenceMore c.args.f.now.tree.nodes (named_by_made m) c.find_to_make.new.tree.nodes in
    takes_keeps_gives c.args.f.now.tree.nodes c.find_to_make.new.tree.nodes c.write_new-result.new.f.tree.nodes c.let_go-in-Room.new.nodes c.in-Room.dir
    (subst P c.in-Room.is c.in_ok-ino.ensures.found) c.write_new-result.ensures.kept c.let_go-in-Room.ensures.inodes c.let_go-in-Room.ensures.rest
