use Rattle.std.proofs.Common.{◌≡◌, ◌∙◌, List, ℕ, sym, ap}
use Rattle.fs_laws.specs.Pieces.{Moving}
use Rattle.fs_nodes.specs.Keys.{Stores}
use Rattle.sys_procs.specs.World.{World}
use Rattle.sys_procs.specs.Tests.{node_in}
use Rattle.sys_procs.specs.Handed.{handed}
use Rattle.sys_procs.specs.ExecFile.{with_moved, header_read, tests_header}
use Rattle.sys_procs.proofs.TestsLemmas.{node_there}
use Rattle.sys_procs.proofs.tested.read_header.Goals as goal

pub returns-clause-answer : goal.returns-clause-answer
returns-clause-answer c =
    let w : World = handed c.args.p.now c.args.tree.now.nodes in
    let store : Stores = c.args.tree.now.nodes.store in
    let m : Moving (List ℕ) = header_read w c.args.ino in
    let moves = c.read_kernel-read.ensures.moved (node_in store c.args.ino)
    (node_there store c.args.ino (c.see.ensures.used c.args.ino c.requires.referenced)) in
    let moved : handed c.args.p.now c.read_kernel-read.new.self ≡ with_moved w c.args.ino m =
    λ i. record w { inodes = record { store = moves.store i; references = c.read_kernel-read.ensures.references i } } in
    c.test_header.ensures.answer m (sym moves.memory) (sym moves.done) (sym moves.error)
    ∙ ap (λ (v : World). (tests_header v c.args.ino c.args.args m).answer) moved
