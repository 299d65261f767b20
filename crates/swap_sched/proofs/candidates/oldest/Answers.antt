use Rattle.std.proofs.Common.{◌+◌, ◌-◌, rules, arith}
use Rattle.swap_sched.proofs.SearchLemmas.{scan_none, scan_on}
use Rattle.swap_sched.specs.inside.Searches.{oldest_of}
use Rattle.swap_sched.proofs.candidates.oldest.Goals as goal

pub loop-k-init : goal.loop-k-init
loop-k-init c = record {
  slot = search rules;
  found = λ first n e f. scan_none c.args.loaded c.args.table.now first n (omega (arith, f));
}

pub loop-k-preserved : goal.loop-k-preserved
loop-k-preserved c = record {
  slot = c.better-best.ensures.slot;
  found = λ first n e f.
      scan_on c.args.loaded c.args.table.now c.loop-k.k (50 - c.loop-k.k) first n c.loop-k.best _ (omega arith) (omega arith) e f
      (c.loop-k.invariant.found (50 - c.loop-k.k + 1) (c.loop-k.k - 1) (omega arith) (omega arith)) c.better-best.ensures.best;
}

pub returns-clause-oldest : goal.returns-clause-oldest
unfolding oldest_of
returns-clause-oldest c = c.loop-k.invariant.found 1 49 (omega arith) (omega arith)
