use Rattle.std.proofs.Common.{◌≡◌, Result, Err, rules, ap, ◌∙◌, subst}
use Rattle.v6_base.specs.declared.errno.Errno.{Errno}
use Rattle.fs_tree.specs.declared.made.Made.{Made}
use Rattle.fs_tree.specs.Finding.{inodes_of, named_by_made}
use Rattle.sys_files.specs.declared.entering.Room.{Room}
use Rattle.sys_files.specs.Handed.{Handed, handed}
use Rattle.sys_files.specs.Did.{unnamed, check, until_end}
use Rattle.sys_files.specs.Entering.{OneReferenceMore}
use Rattle.sys_files.proofs.EnteringLemmas.{taken}
use Rattle.sys_files.proofs.GivingLemmas.{gives, takes_gives}
use Rattle.sys_files.proofs.MakingLemmas.{name_refused, name_taken, name_free}
use Rattle.sys_files.proofs.entering.find_room.Goals as goal

pub returns-in_err-ino-clause-did : goal.returns-in_err-ino-clause-did
returns-in_err-ino-clause-did g c = λ row next.
    let image = g.S.Space.image c.args.space.now in
    let h : Handed = handed c.args.f.now c.args.u.now row image in
    let after : Handed = handed (record c.args.f.now { tree = c.find_to_make.new.tree }) c.args.u.now row image in
    let is : Err c.in_err-ino.field-0.0 ≡ c.from_residual.result = search rules in
    name_refused h after c.args.name next
    (λ i. record h {
      inodes = c.find_to_make.ensures.inodes i;
      marks = c.find_to_make.ensures.marks i;
      mounts = c.find_to_make.ensures.mounts i;
    })
    c.in_err-ino.field-0.0 c.in_err-ino.ensures.answer
    ∙ ap (λ (r : Result Room Errno). unnamed
    (check after r (λ room. until_end room.dir (next after room.dir room.offset room.name)))) is

pub returns-in-Found-clause-did : goal.returns-in-Found-clause-did
returns-in-Found-clause-did g c = λ row next.
    let image = g.S.Space.image c.args.space.now in
    let h : Handed = handed c.args.f.now c.args.u.now row image in
    let after : Handed = handed (record c.args.f.now { tree = c.find_to_make.new.tree }) c.args.u.now row image in
    name_taken h after c.args.name next
    (λ i. record h {
      inodes = c.find_to_make.ensures.inodes i;
      marks = c.find_to_make.ensures.marks i;
      mounts = c.find_to_make.ensures.mounts i;
    })
    c.in_ok-ino.field-0 c.in_ok-ino.ensures.answer c.in-Found.ino (inodes_of c.let_go.new.nodes) c.in-Found.is
    c.let_go.ensures.inodes

pub returns-in-Room-clause-did : goal.returns-in-Room-clause-did
returns-in-Room-clause-did g c = λ row next.
    let image = g.S.Space.image c.args.space.now in
    let h : Handed = handed c.args.f.now c.args.u.now row image in
    let after : Handed = handed (record c.args.f.now { tree = c.find_to_make.new.tree }) c.args.u.now row image in
    name_free h after c.args.name next
    (λ i. record h {
      inodes = c.find_to_make.ensures.inodes i;
      marks = c.find_to_make.ensures.marks i;
      mounts = c.find_to_make.ensures.mounts i;
    })
    c.in_ok-ino.field-0 c.in_ok-ino.ensures.answer c.in-Room.dir c.in-Room.offset c.in-Room.name c.in-Room.is

pub returns-in-Found-clause-none : goal.returns-in-Found-clause-none
returns-in-Found-clause-none g c =
    let a = c.args.f.now.tree.nodes in
    let b = c.find_to_make.new.tree.nodes in
    let takes = subst (λ (m : Made).
    OneReferenceMore c.args.f.now.tree.nodes (named_by_made m) c.find_to_make.new.tree.nodes) c.in-Found.is
    c.in_ok-ino.ensures.found in
    takes_gives a b c.let_go.new.nodes c.in-Found.ino takes
    (gives b c.let_go.new.nodes c.in-Found.ino (taken a b c.in-Found.ino takes) c.let_go.ensures.inodes
    c.let_go.ensures.rest)
