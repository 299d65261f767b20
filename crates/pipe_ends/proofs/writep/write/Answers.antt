use Rattle.std.proofs.Common.{◌≡◌, ◌↔◌, ◌<◌, ◌≤◌, ℕ, true, sym, ◌∙◌, subst}
use Rattle.v6_base.specs.Image.{Image}
use Rattle.fs_nodes.specs.Keys.{Stores}
use Rattle.pipe_ends.specs.declared.ends.Pipe.{Pipe}
use Rattle.pipe_ends.specs.declared.ends.TheConstants.{PIPSIZ}
use Rattle.pipe_ends.specs.Pipes.{pipe_file, ends_of}
use Rattle.pipe_ends.specs.Writes.{PipeWrite, writes}
use Rattle.pipe_ends.specs.declared.ends.Piped.{Piped}
use Rattle.pipe_ends.specs.declared.ends.Piped.TheVariants.{Broken}
use Rattle.pipe_ends.proofs.QueueLemmas.{writes_queue, same_write}
use Rattle.pipe_ends.proofs.RoundLemmas.{broken_where, waits_where}
use Rattle.pipe_ends.proofs.writep.write.Goals as goal

pub returns-clause-broken : goal.returns-clause-broken
returns-clause-broken g c =
    let P : Piped → Type 0 = λ a. (a ≡ Broken) ↔ ((0 < c.args.count) × (ends_of c.args.n.now.references c.args.p.now < 2)) in
    subst P (sym c.repeat_tests.ensures.answer) (broken_where _ _ _ _ _ _ _)

pub returns-clause-waits : goal.returns-clause-waits
returns-clause-waits g c = λ left is.
    let ends : ℕ = ends_of c.args.n.now.references c.args.p.now in
    let image : Image = g.S.Space.image c.args.space.now in
    let w : PipeWrite = writes c.args.n.now.store ends c.args.p.now image c.args.at c.args.count c.args.time in
    let e = c.repeat_tests.ensures in
    let Q : Stores → Pipe → Type 0 = λ s p.
    (0 < left) × (2 ≤ ends) × (PIPSIZ ≤ (pipe_file s p).size) × (p.writer_waits ≡ true) in
    let of_store : Stores → Type 0 = λ s. Q s c.repeat_tests.new.p in
    let of_pipe : Pipe → Type 0 = λ p. Q w.store p in
    let full = waits_where c.args.n.now.store ends c.args.p.now image c.args.at c.args.count c.args.time left (sym e.answer ∙ is) in
    subst of_store (sym e.store) (subst of_pipe (sym e.pipe) (full.some, full.both, full.full, full.marked))

pub returns-clause-queue : goal.returns-clause-queue
returns-clause-queue g c = λ is.
    let e = c.repeat_tests.ensures in
    same_write _ _ _ _ _ _ _ _ _ e.store e.pipe e.answer
    (writes_queue _ (ends_of c.args.n.now.references c.args.p.now) _ (g.S.Space.image c.args.space.now) c.args.at c.args.count
    c.args.time is)
