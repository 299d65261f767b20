use Rattle.std.proofs.Common.{◌∙◌, ap}
use Rattle.fs_nodes.specs.FileSystem.{FileSystem}
use Rattle.fs_tree.specs.Finding.{Inodes}
use Rattle.sys_procs.specs.declared.procs.Procs.{Procs}
use Rattle.sys_procs.specs.World.{World}
use Rattle.sys_procs.specs.Handed.{handed}
use Rattle.sys_procs.specs.ExecFile.{Tested}
use Rattle.sys_procs.proofs.TestsLemmas.{file_tested, reads_header}
use Rattle.sys_procs.proofs.tested.test_file.Goals as goal

pub returns-in-Ok-clause-answer : goal.returns-in-Ok-clause-answer
returns-in-Ok-clause-answer c =
    let fs : FileSystem = c.args.tree.now.nodes in
    c.read_header.ensures.answer
    ∙ (ap (λ (p : Procs). (reads_header (handed p fs) c.args.ino c.in-Ok.args).answer) c.test_call.ensures.procs
    ∙ ap (λ (t : Tested). t.answer)
    (file_tested c.args.p.now fs c.args.s c.args.ino c.args.list _ c.in-Ok.ensures.answer))

pub returns-in-Ok-clause-state : goal.returns-in-Ok-clause-state
returns-in-Ok-clause-state c =
    let fs : FileSystem = c.args.tree.now.nodes in
    c.read_header.ensures.state
    ∙ (ap (λ (p : Procs). (reads_header (handed p fs) c.args.ino c.in-Ok.args).world) c.test_call.ensures.procs
    ∙ ap (λ (t : Tested). t.world)
    (file_tested c.args.p.now fs c.args.s c.args.ino c.args.list _ c.in-Ok.ensures.answer))

pub returns-in-Err-clause-answer : goal.returns-in-Err-clause-answer
returns-in-Err-clause-answer c =
    let fs : FileSystem = c.args.tree.now.nodes in
    ap (λ (t : Tested). t.answer)
    (file_tested c.args.p.now fs c.args.s c.args.ino c.args.list _ c.in-Err.ensures.answer)

pub returns-in-Err-clause-state : goal.returns-in-Err-clause-state
returns-in-Err-clause-state c =
    let fs : FileSystem = c.args.tree.now.nodes in
    let w : World = handed c.args.p.now fs in
    ap (λ (p : Procs). handed p c.let_go.new.nodes) c.test_call.ensures.procs
    ∙ (ap (λ (n : Inodes). record w { inodes = n }) c.let_go.ensures.inodes
    ∙ ap (λ (t : Tested). t.world)
    (file_tested c.args.p.now fs c.args.s c.args.ino c.args.list _ c.in-Err.ensures.answer))
