use Rattle.std.proofs.Common.{◌≡◌, get_or}
use Rattle.std.specs.List.{insert, remove}
use Rattle.buf_cache.specs.declared.cache.Head.{Head}
use Rattle.buf_cache.proofs.cache.to_front.Given as goal

-- the head has come forward to place k
abbrev pub invariant-loop-k : goal.invariant-loop-k
invariant-loop-k l = (d : Head) → l.heads ≡ insert (remove l.initial.heads l.place) l.k (get_or l.initial.heads l.place d)
