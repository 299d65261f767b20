use Rattle.std.proofs.Common.{◌≡◌, ◌≤◌, ℕ}
use Rattle.v6_base.specs.Image.{Image}
use Rattle.fs_nodes.specs.FileSystem.{SameRest}
use Rattle.pipe_ends.specs.Pipes.{ends_of}
use Rattle.pipe_ends.specs.Writes.{write_call, writes}
use Rattle.pipe_ends.proofs.RoundLemmas.{ComesTo, so_far}
use Rattle.pipe_ends.proofs.writep.repeat_tests.Given as goal

-- what is left comes to what all comes to
abbrev pub invariant-loop-left : goal.invariant-loop-left
invariant-loop-left g l =
    let ends : ℕ = ends_of l.fn.n.references l.fn.p in
    let image : Image = g.S.Space.image l.space in
    record {
      comes : ComesTo (write_call ends image l.count l.time) (so_far l.n.store l.p l.at l.count l.left)
          (writes l.fn.n.store ends l.fn.p image l.at l.count l.time);
      few : l.left ≤ l.count;
      ino : l.p.ino ≡ l.fn.p.ino;
      references : l.n.references ≡ l.fn.n.references;
      rest : SameRest l.fn.n l.n;
    }

abbrev pub decreases-loop-left : goal.decreases-loop-left
decreases-loop-left g l = l.left
