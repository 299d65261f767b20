use Rattle.std.proofs.Common.{◌+◌, ◌∙◌, arith}
use Rattle.file_rows.proofs.file_system.names_disk.takes_others.Goals as goal

pub returns-then-not-takes : goal.returns-then-not-takes
returns-then-not-takes c = record {
  few = λ i.
      let h = c.takes.ensures.few (c.loop-k.k + 1) c.loop-k.invariant.few i in
      omega (arith, h, c.loop-k-test.true, c.requires.some);
  store = c.takes.ensures.store ∙ c.loop-k.invariant.store;
}

pub loop-k-preserved : goal.loop-k-preserved
loop-k-preserved c = record {
  few = c.takes.ensures.few (c.loop-k.k + 1) c.loop-k.invariant.few;
  store = c.takes.ensures.store ∙ c.loop-k.invariant.store;
}
