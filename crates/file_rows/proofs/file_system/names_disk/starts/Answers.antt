use Rattle.std.proofs.Common.{refl, arith}
use Rattle.file_rows.proofs.file_system.names_disk.starts.Goals as goal

pub returns-then-others-gt100 : goal.returns-then-others-gt100
returns-then-others-gt100 c = record {
  few = λ i. let h = c.requires.quiet i in omega (arith, h);
  store = refl;
}

pub returns-then-not-takes : goal.returns-then-not-takes
returns-then-not-takes c = record {
  few = λ i.
      let h = c.takes.ensures.few 0 (λ k. let q = c.requires.quiet k in omega (arith, q)) i in
      omega (arith, h);
  store = c.takes.ensures.store;
}

pub takes_others-requires-clause-few : goal.takes_others-requires-clause-few
takes_others-requires-clause-few c = c.takes.ensures.few 0 (λ k. let q = c.requires.quiet k in omega (arith, q))
