use Rattle.std.proofs.Common.{[], ◌≡◌, ◌<◌, List, length, slice_index, sym, ap, subst}
use Rattle.v6_base.specs.Trace.{Item, Took}
use Rattle.fs_tree.specs.Finding.{inodes_of}
use Rattle.sys_files.specs.Did.{Did}
use Rattle.sys_files.specs.Handed.{Handed, handed}
use Rattle.sys_files.specs.Pipes.{place_of}
use Rattle.sys_files.specs.Piping.{woken_by_read, reads_pipe}
use Rattle.sys_files.proofs.PipeMovingLemmas.{file_there, read_comes, read_ino}
use Rattle.sys_files.proofs.piping.read_pipe.Given.{Over}
use Rattle.sys_files.proofs.piping.read_pipe.Goals as goal
use Rattle.sys_files.proofs.piping.read_pipe.Goals.{After-end_read}

pub read-piped-requires : goal.read-piped-requires
read-piped-requires g c =
    let one = file_there _ c.requires.used in
    record {
      referenced = subst (λ i. 0 < slice_index c.args.f.now.tree.nodes.references i)
          (sym (c.pipe_at-old.ensures.file one.0 one.1)) (c.requires.referred one.0 one.1);
    }

pub set-requires : goal.set-requires
set-requires g c =
    let pipes = c.args.f.now.pipes in
    let same : c.read-piped.new.p.ino ≡ c.pipe_at-old.result.ino =
    read_ino c.args.f.now.tree.nodes.store _ c.pipe_at-old.result c.read-piped.new.p _ c.args.transfer.at c.args.transfer.count
    c.args.now c.read-piped.ensures.pipe in
    subst (λ i. place_of pipes i < length pipes) (sym same) c.pipe_at-old.ensures.there

-- the parts before and after
abbrev before : (g : Over) → After-end_read g → Handed
before g c = handed c.args.f.now c.args.u.now c.args.row.now (g.S.Space.image c.args.space.now)

abbrev left : (g : Over) → After-end_read g → Handed
left g c = record (before g c) {
  inodes = inodes_of c.read-piped.new.n;
  image = g.S.Space.image c.read-piped.new.space;
  pipes = c.set.new.self;
  u = c.end_read.new.u;
}

abbrev did : (g : Over) → After-end_read g → Did
did g c = record {
  answer = c.end_read.result;
  state = left g c;
  items = woken_by_read c.pipe_at-old.result c.read-piped.new.p;
  named = [];
}

comes : (g : Over) (c : After-end_read g)
    → reads_pipe (before g c) c.args.transfer.entry c.args.transfer.at c.args.transfer.count c.args.now ≡ did g c
comes g c =
    let t = c.args.transfer in
    let e = c.read-piped.ensures in
    read_comes (before g c) t.entry t.at t.count c.args.now c.pipe_at-old.result c.read-piped.new.p c.read-piped.new.n
    (g.S.Space.image c.read-piped.new.space) c.set.new.self c.read-piped.result c.end_read.new.u c.end_read.result
    (c.pipe_at-old.ensures.pipe c.args.u.now c.args.row.now (g.S.Space.image c.args.space.now))
    e.store e.references e.image e.pipe c.set.ensures e.answer c.end_read.ensures

pub returns-clause-answer : goal.returns-clause-answer
returns-clause-answer g c = sym (ap (λ (d : Did). d.answer) (comes g c))

pub returns-clause-state : goal.returns-clause-state
returns-clause-state g c = sym (ap (λ (d : Did). d.state) (comes g c))

pub returns-clause-items : goal.returns-clause-items
returns-clause-items g c =
    let P : List Item → Type 0 =
    λ items. Took (g.T.Trace.taken c.args.trace.now) items (g.T.Trace.taken c.wake_writers.new.trace) in
    subst P (sym (ap (λ (d : Did). d.items) (comes g c))) c.wake_writers.ensures.items
