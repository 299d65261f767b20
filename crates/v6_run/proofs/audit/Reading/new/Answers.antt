use Rattle.std.proofs.Common.{refl, sym, ap, [], length, arith}
use Rattle.pick_rules.specs.Lawful.{FitAll}
use Rattle.v6_run.proofs.audit.Reading.new.Goals as goal

pub returns : goal.returns
unfolding FitAll
returns c = record {
  log = [];
  spelt = refl;
  fit = tt;
  seen = c.new.ensures;
  count = refl;
  rest = sym c.new-2.ensures;
  short = let a = ap length c.new-2.ensures in omega (arith, a);
  few = omega arith;
}
