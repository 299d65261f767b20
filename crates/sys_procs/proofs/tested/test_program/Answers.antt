use Rattle.std.proofs.Common.{◌∙◌, Err, sym, ap, subst}
use Rattle.std.proofs.lemmas.Result.{err_from_is_err_and}
use Rattle.fs_nodes.specs.FileSystem.{FileSystem}
use Rattle.sys_procs.specs.declared.procs.Procs.{Procs}
use Rattle.sys_procs.specs.Handed.{IsAlive, handed}
use Rattle.sys_procs.specs.ExecFile.{Tested, tests_file}
use Rattle.sys_procs.proofs.Alive.{calls_alive}
use Rattle.sys_procs.proofs.TestsLemmas.{program_tested}
use Rattle.sys_procs.proofs.tested.test_program.Goals as goal

pub returns-in_err-ino-clause-answer : goal.returns-in_err-ino-clause-answer
returns-in_err-ino-clause-answer c =
    let given = err_from_is_err_and c.from_residual.result c.from_residual.ensures.1 in
    given.1
    ∙ (ap (λ e. Err e) given.2
    ∙ ap (λ (t : Tested). t.answer)
    (program_tested c.args.tree.now.mounts c.args.p.now c.args.tree.now.nodes c.args.s c.args.name c.args.list
    (Err c.in_err-ino.field-0.0) _
    c.in_err-ino.ensures.answer c.find_program.ensures.inodes))

pub returns-in_err-ino-clause-state : goal.returns-in_err-ino-clause-state
returns-in_err-ino-clause-state c =
    ap (λ (p : Procs). handed p c.find_program.new.tree.nodes) c.find_program.ensures.procs
    ∙ ap (λ (t : Tested). t.world)
    (program_tested c.args.tree.now.mounts c.args.p.now c.args.tree.now.nodes c.args.s c.args.name c.args.list
    (Err c.in_err-ino.field-0.0) _
    c.in_err-ino.ensures.answer c.find_program.ensures.inodes)

pub test_file-requires-clause-alive : goal.test_file-requires-clause-alive
test_file-requires-clause-alive c =
    subst (λ (p : Procs). IsAlive p c.args.s) (sym c.find_program.ensures.procs)
    (calls_alive c.args.p.now c.args.tree.now.nodes c.args.s c.requires.calls)

pub returns-clause-answer : goal.returns-clause-answer
returns-clause-answer c =
    let found : FileSystem = c.find_program.new.tree.nodes in
    c.test_file.ensures.answer
    ∙ (ap (λ (p : Procs). (tests_file (handed p found) c.args.s c.in_ok-ino.ino c.args.list).answer)
    c.find_program.ensures.procs
    ∙ ap (λ (t : Tested). t.answer)
    (program_tested c.args.tree.now.mounts c.args.p.now c.args.tree.now.nodes c.args.s c.args.name c.args.list _ _
    c.in_ok-ino.ensures.answer c.find_program.ensures.inodes))

pub returns-clause-state : goal.returns-clause-state
returns-clause-state c =
    let found : FileSystem = c.find_program.new.tree.nodes in
    c.test_file.ensures.state
    ∙ (ap (λ (p : Procs). (tests_file (handed p found) c.args.s c.in_ok-ino.ino c.args.list).world)
    c.find_program.ensures.procs
    ∙ ap (λ (t : Tested). t.world)
    (program_tested c.args.tree.now.mounts c.args.p.now c.args.tree.now.nodes c.args.s c.args.name c.args.list _ _
    c.in_ok-ino.ensures.answer c.find_program.ensures.inodes))
