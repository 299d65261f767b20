use Rattle.std.proofs.Common.{◌≡◌, drop, length}
use Rattle.buf_cache.specs.Cached.{written}
use Rattle.buf_cache.proofs.SlotLemmas.{buffers_in}
use Rattle.buf_cache.proofs.cache.write_blocks.Given as goal

abbrev pub invariant-loop-k : goal.invariant-loop-k
invariant-loop-k l = record {
  rest : written (drop l.k (buffers_in l.slots l.heads)) l.disk.items ≡ written (buffers_in l.slots l.heads) l.initial.disk.items;
  long : length l.disk.items ≡ length l.initial.disk.items;
}
