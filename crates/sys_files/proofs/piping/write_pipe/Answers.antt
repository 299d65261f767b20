use Rattle.std.proofs.Common.{◌≡◌, ◌<◌, List, length, slice_index, refl, sym, ap, ◌∙◌, subst}
use Rattle.v6_base.specs.Trace.{Item, Took}
use Rattle.v6_base.proofs.Took.{took_more}
use Rattle.fs_tree.specs.Finding.{inodes_of}
use Rattle.sys_files.specs.Did.{Did}
use Rattle.sys_files.specs.Handed.{Handed, handed}
use Rattle.sys_files.specs.Pipes.{place_of}
use Rattle.sys_files.specs.Piping.{after, woken_by_write, ends_write, writes_pipe}
use Rattle.sys_files.proofs.PipeMovingLemmas.{file_there, write_comes, written_ino}
use Rattle.sys_files.proofs.piping.write_pipe.Given.{Over}
use Rattle.sys_files.proofs.piping.write_pipe.Goals as goal
use Rattle.sys_files.proofs.piping.write_pipe.Goals.{After-end_write}

pub write-piped-requires : goal.write-piped-requires
write-piped-requires g c =
    let one = file_there _ c.requires.used in
    record {
      referenced = subst (λ i. 0 < slice_index c.args.f.now.tree.nodes.references i)
          (sym (c.pipe_at-old.ensures.file one.0 one.1)) (c.requires.referred one.0 one.1);
    }

pub set-requires : goal.set-requires
set-requires g c =
    let pipes = c.args.f.now.pipes in
    let same : c.write-piped.new.p.ino ≡ c.pipe_at-old.result.ino =
    written_ino c.args.f.now.tree.nodes.store _ c.pipe_at-old.result c.write-piped.new.p _ _ c.args.transfer.left
    c.args.now c.write-piped.ensures.pipe in
    subst (λ i. place_of pipes i < length pipes) (sym same) c.pipe_at-old.ensures.there

-- the parts before, and where the call ends
abbrev before : (g : Over) → After-end_write g → Handed
before g c = handed c.args.f.now c.args.u.now c.args.row.now (g.S.Space.image c.args.space.now)

abbrev written : (g : Over) → After-end_write g → Handed
written g c = record (before g c) { inodes = inodes_of c.write-piped.new.n; pipes = c.set.new.self }

abbrev ends : (g : Over) → After-end_write g → Did
ends g c =
    let t = c.args.transfer in
    ends_write (written g c) c.args.slot c.pipe_at-old.result.ino t.entry t.at t.count c.write-piped.result

comes : (g : Over) (c : After-end_write g)
    → writes_pipe (before g c) c.args.slot c.args.transfer.entry c.args.transfer.at c.args.transfer.count c.args.transfer.left
    c.args.now
    ≡ after (woken_by_write c.pipe_at-old.result c.write-piped.new.p) (ends g c)
comes g c =
    let t = c.args.transfer in
    let e = c.write-piped.ensures in
    write_comes (before g c) c.args.slot t.entry t.at t.count t.left c.args.now c.pipe_at-old.result c.write-piped.new.p
    c.write-piped.new.n c.set.new.self c.write-piped.result
    (c.pipe_at-old.ensures.pipe c.args.u.now c.args.row.now (g.S.Space.image c.args.space.now))
    e.store e.references e.pipe c.set.ensures e.answer

pub returns-clause-answer : goal.returns-clause-answer
returns-clause-answer g c = c.end_write.ensures.answer (written g c) refl refl ∙ sym (ap (λ (d : Did). d.answer) (comes g c))

pub returns-clause-state : goal.returns-clause-state
returns-clause-state g c = c.end_write.ensures.state (written g c) refl refl ∙ sym (ap (λ (d : Did). d.state) (comes g c))

pub returns-clause-items : goal.returns-clause-items
returns-clause-items g c =
    let start = g.T.Trace.taken c.args.trace.now in
    let end = g.T.Trace.taken c.end_write.new.trace in
    let P : List Item → Type 0 = λ items. Took start items end in
    subst P (sym (ap (λ (d : Did). d.items) (comes g c)))
    (took_more start (g.T.Trace.taken c.wake_readers.new.trace) end
    (woken_by_write c.pipe_at-old.result c.write-piped.new.p) (ends g c).items c.wake_readers.ensures.items
    (c.end_write.ensures.items (written g c)))
