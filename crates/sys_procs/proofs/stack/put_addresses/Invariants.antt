use Rattle.std.proofs.Common.{◌≡◌, ◌≤◌, ◌+◌, length}
use Rattle.v6_base.specs.Sizes.{cut_front}
use Rattle.sys_procs.proofs.StackBytesLemmas.{bytes_from}
use Rattle.sys_procs.proofs.stack.put_addresses.Given as goal

-- the addresses of the arguments that begin here and after are put
abbrev pub invariant-loop-i : goal.invariant-loop-i
invariant-loop-i g l = record {
  within : l.i ≤ length l.bytes;
  place : l.at + length (bytes_from l.bytes l.i) ≡ 65536;
  image : g.S.Space.image l.space ≡ record (g.S.Space.image l.fn.space) { stack = cut_front 1280 (bytes_from l.bytes l.i) };
  rest : g.S.Space.rest l.space ≡ g.S.Space.rest l.fn.space;
}

abbrev pub decreases-loop-i : goal.decreases-loop-i
decreases-loop-i g l = l.i
