use Rattle.std.proofs.Common.{◌≡◌, ◌+◌, ◌-◌, ◌*◌, ◌%◌, ◌∙◌, [], flat_map, ap, arith}
use Rattle.std.specs.List.{range_with_len}
use Rattle.std.proofs.Math.Nat.{mod-eq_of_lt, add-mul-mod_self_right}
use Rattle.abstract_unix.specs.declared.ends.Ends.TheVariants.{AtEnd}
use Rattle.abstract_unix.specs.Endings.{phase_after}
use Rattle.fs_nodes.proofs.RestLemmas.{rest_stays, rest_then}
use Rattle.take_script.specs.Events.{slot_numbered}
use Rattle.take_script.proofs.SlotLemmas.{run_none, run_more, run_last, run_as, ends_as}
use Rattle.take_script.proofs.TickLemmas.{stretch_more, stretch_part, next_upto, next_ahead, next_most}
use Rattle.take_script.proofs.slots.run_clocked.Goals as goal

pub ticks-init : goal.ticks-init
ticks-init g c =
    let every = c.args.every in
    let since = c.args.since in
    let count = c.args.count in
    let less = c.requires.within in
    let none : 0 ≡ count - count = omega arith in
    let whole : since + (count - count) + (every - since) ≡ 0 + 1 * every = omega (arith, less) in
    record {
      run = run_as _ _ _ _ _ [] _ (ap (λ n. flat_map (slot_numbered every) (range_with_len (since + 1) n)) none) (run_none _ _);
      some = omega arith;
      ahead = omega (arith, less);
      upto = ap (λ n. n % every) whole ∙ add-mul-mod_self_right 0 1 every ∙ mod-eq_of_lt (omega (arith, less));
      most = omega arith;
      passed = omega arith;
      phase = c.requires.started;
      rest = rest_stays _;
      frame = g.met.T.Trace.stays _;
    }

pub run_stretch-requires-clause-fresh : goal.run_stretch-requires-clause-fresh
run_stretch-requires-clause-fresh g c =
    let was = c.ticks.invariant in
    omega (arith, c.requires.fresh, was.passed, was.some, c.stretch_len-slots.ensures.few)

pub upto_next-upto-requires : goal.upto_next-upto-requires
upto_next-upto-requires g c = c.stretch_len-slots.ensures.less

pub returns-in_default : goal.returns-in_default
returns-in_default g c =
    let was = c.ticks.invariant in
    let len = c.stretch_len-slots.ensures in
    let more = c.run_stretch.ensures in
    record {
      phase = more.phase;
      run = run_last _ _ _ _ _ _ _ _ _ _ _ was.run c.in_default.not-AtEnd more.run
          (stretch_part c.args.every c.args.since c.args.count c.ticks.left c.ticks.upto c.stretch_len-slots.result was.some len.few was.upto was.most
          (len.some c.ticks-test.true was.ahead) len.less (omega (arith, c.requires.within)));
      passed = λ is. absurd (c.in_default.not-AtEnd is);
      rest = rest_then _ _ _ was.rest more.rest;
      frame = g.met.T.Trace.goes_on _ _ _ was.frame more.frame;
    }

pub ticks-preserved : goal.ticks-preserved
ticks-preserved g c =
    let was = c.ticks.invariant in
    let len = c.stretch_len-slots.ensures in
    let more = c.run_stretch.ensures in
    let goes = ends_as _ _ _ AtEnd _ _ _ c.in-AtEnd.is more.run in
    let passed = more.passed c.in-AtEnd.is in
    record {
      run = run_more _ _ _ _ _ _ _ _ _ _ was.run goes
          (stretch_more c.args.every c.args.since c.args.count c.ticks.left c.ticks.upto c.stretch_len-slots.result was.some len.few was.upto was.most
          (len.some c.ticks-test.true was.ahead) len.less (omega (arith, c.requires.within)));
      some = omega (arith, was.some);
      ahead = next_ahead c.args.every c.ticks.upto c.stretch_len-slots.result c.upto_next-upto.result len.less (omega (arith, c.requires.within)) c.upto_next-upto.ensures;
      upto = next_upto c.args.every c.args.since c.args.count c.ticks.left c.ticks.upto c.stretch_len-slots.result c.upto_next-upto.result was.some len.few was.upto
          len.less c.upto_next-upto.ensures;
      most = next_most c.args.every c.ticks.upto c.stretch_len-slots.result c.upto_next-upto.result was.most c.upto_next-upto.ensures;
      passed = omega (arith, passed, was.passed, was.some, len.few);
      phase = more.phase ∙ ap phase_after c.in-AtEnd.is;
      rest = rest_then _ _ _ was.rest more.rest;
      frame = g.met.T.Trace.goes_on _ _ _ was.frame more.frame;
    }

pub returns : goal.returns
returns g c =
    let was = c.ticks.invariant in
    let all : c.args.count - c.ticks.left ≡ c.args.count = omega (arith, c.ticks-test.false) in
    record {
      phase = was.phase;
      run = run_as _ _ _ _ _ _ _ (ap (λ n. flat_map (slot_numbered c.args.every) (range_with_len (c.args.since + 1) n)) all) was.run;
      passed = λ is. omega (arith, was.passed, all);
      rest = was.rest;
      frame = was.frame;
    }
