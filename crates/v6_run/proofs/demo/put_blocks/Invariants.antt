use Rattle.std.proofs.Common.{◌≡◌, ◌*◌, length}
use Rattle.core_mem.specs.Bytes.{over}
use Rattle.v6_run.proofs.FinalLemmas.{so_far}
use Rattle.v6_run.proofs.demo.put_blocks.Given as goal

abbrev pub invariant-numbers : goal.invariant-numbers
invariant-numbers l = record {
  put : l.image ≡ over l.initial.image 0 (so_far l.kernel.stored.root l.n);
  so_long : length (so_far l.kernel.stored.root l.n) ≡ 512 * l.n;
  long : length l.image ≡ length l.initial.image;
}
