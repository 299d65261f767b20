use Rattle.std.proofs.Common.{◌∙◌, ◌<◌, slice_index, refl, sym, ap, subst}
use Rattle.image_keep.specs.Growth.{most_clicks}
use Rattle.fs_tree.specs.Finding.{Inodes}
use Rattle.sys_procs.specs.World.{World, texts_in}
use Rattle.sys_procs.specs.Handed.{handed}
use Rattle.sys_procs.specs.ExecFile.{Tested}
use Rattle.sys_procs.specs.inside.Tested.{AreSized}
use Rattle.sys_procs.proofs.TestsLemmas.{header_tested}
use Rattle.sys_procs.proofs.tested.test_header.Goals as goal

pub returns-in-Ok-clause-answer : goal.returns-in-Ok-clause-answer
returns-in-Ok-clause-answer c = λ m memory done error.
    let w : World = handed c.args.p.now c.args.tree.now.nodes in
    ap (λ (t : Tested). t.answer)
    (header_tested w c.args.ino c.args.args m c.args.head.now c.args.read.done c.args.read.error
    (most_clicks c.args.p.now.images.kept) _
    memory done error refl (c.in-Ok.ensures.answer))

pub returns-in-Ok-clause-state : goal.returns-in-Ok-clause-state
returns-in-Ok-clause-state c = λ m memory done error.
    let w : World = handed c.args.p.now c.args.tree.now.nodes in
    ap (λ (t : Tested). t.world)
    (header_tested w c.args.ino c.args.args m c.args.head.now c.args.read.done c.args.read.error
    (most_clicks c.args.p.now.images.kept) _
    memory done error refl (c.in-Ok.ensures.answer))

pub returns-in-Err-clause-answer : goal.returns-in-Err-clause-answer
returns-in-Err-clause-answer c = λ m memory done error.
    let w : World = handed c.args.p.now c.args.tree.now.nodes in
    ap (λ (t : Tested). t.answer)
    (header_tested w c.args.ino c.args.args m c.args.head.now c.args.read.done c.args.read.error
    (most_clicks c.args.p.now.images.kept) _
    memory done error refl (c.in-Err.ensures.answer))

pub returns-in-Err-clause-state : goal.returns-in-Err-clause-state
returns-in-Err-clause-state c = λ m memory done error.
    let w : World = handed c.args.p.now c.args.tree.now.nodes in
    ap (λ (n : Inodes). record w { inodes = n }) c.let_go.ensures.inodes
    ∙ ap (λ (t : Tested). t.world)
    (header_tested w c.args.ino c.args.args m c.args.head.now c.args.read.done c.args.read.error
    (most_clicks c.args.p.now.images.kept) _
    memory done error refl (c.in-Err.ensures.answer))

pub returns-in-Ok-clause-tested : goal.returns-in-Ok-clause-tested
returns-in-Ok-clause-tested c =
    let is = c.in-Ok.ensures.ino in
    record {
      referenced = subst (λ i. 0 < slice_index c.args.tree.now.nodes.references i) (sym is) c.requires.referenced;
      sizes = c.in-Ok.ensures.fits;
      init = c.in-Ok.ensures.most;
      shared = subst (λ i. 0 < c.in-Ok.program.text_clicks
          → AreSized (texts_in c.args.p.now.images.kept) i c.in-Ok.program.text_clicks) (sym is) c.in-Ok.ensures.shared;
    }
