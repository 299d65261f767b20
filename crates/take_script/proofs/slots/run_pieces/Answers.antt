use Rattle.std.proofs.Common.{◌≡◌, ◌-◌, ◌++◌, ◌∙◌, refl, ap, sym, arith}
use Rattle.abstract_unix.specs.declared.ends.Ends.TheVariants.{AtEnd}
use Rattle.abstract_unix.specs.Endings.{phase_after}
use Rattle.fs_nodes.proofs.RestLemmas.{rest_stays, rest_then}
use Rattle.script_text.specs.declared.script.Event.TheVariants as ask
use Rattle.take_script.specs.Clocks.{clock_value}
use Rattle.take_script.specs.Events.{happens, clock_after}
use Rattle.take_script.proofs.SlotLemmas.{run_none, run_more, run_last, run_as, ends_as, run_whole, run_cut}
use Rattle.take_script.proofs.ClockLemmas.{no_piece, none_after, piece_is, piece_after, pieces_left, all_pieces, after_pieces}
use Rattle.take_script.proofs.slots.run_pieces.Goals as goal

pub pieces-init : goal.pieces-init
pieces-init g c =
    let clock = clock_value c.args.clock.now in record {
      run = run_as _ _ _ _ _ _ _ (no_piece clock c.args.count) (run_none _ _);
      some = omega arith;
      clock = none_after clock c.args.count;
      passed = omega arith;
      phase = c.requires.started;
      rest = rest_stays _;
      frame = g.met.T.Trace.stays _;
    }

pub run_line-requires-clause-fresh : goal.run_line-requires-clause-fresh
run_line-requires-clause-fresh g c =
    let was = c.pieces.invariant in
    omega (arith, c.requires.fresh, was.passed, was.some, c.stretch_len-slots.ensures.few)

pub returns-in_default : goal.returns-in_default
returns-in_default g c =
    let was = c.pieces.invariant in
    let first = clock_value c.args.clock.now in
    let now = clock_value c.pieces.clock in
    let more = c.run_line.ensures in
    record {
      phase = more.phase;
      run = run_whole _ _ _ _ _ _ (run_last _ _ _ _ _ _ _ _ _ _ _ was.run c.in_default.not-AtEnd more.run
          (pieces_left first now c.args.count c.pieces.left c.stretch_len-slots.result was.some c.stretch_len-slots.ensures.few was.clock));
      passed = λ is. absurd (c.in_default.not-AtEnd is);
      rest = rest_then _ _ _ was.rest more.rest;
      frame = g.met.T.Trace.goes_on _ _ _ was.frame more.frame;
      clock = λ is. absurd (c.in_default.not-AtEnd is);
    }

pub returns-then-is_cut : goal.returns-then-is_cut
returns-then-is_cut g c =
    let was = c.pieces.invariant in
    let first = clock_value c.args.clock.now in
    let now = clock_value c.pieces.clock in
    let more = c.run_line.ensures in
    let count = c.args.count in
    let left = c.pieces.left in
    let slots = c.stretch_len-slots.result in
    let before = happens first (ask.Run (count - left)) in
    let these = happens now (ask.Run slots) in
    let rest = happens (clock_after first (ask.Run (count - (left - slots)))) (ask.Run (left - slots)) in
    let is_cut = sym c.is_cut.ensures ∙ c.if-is_cut.true in
    let goes = ends_as _ _ _ AtEnd _ _ _ c.in-AtEnd.is more.run in
    record {
      phase = more.phase ∙ ap phase_after c.in-AtEnd.is;
      run = run_cut _ _ _ _ _ (before ++ these) rest _ (run_more _ _ _ _ _ _ _ before these (before ++ these) was.run goes refl).items is_cut
          (pieces_left first now count left slots was.some c.stretch_len-slots.ensures.few was.clock);
      passed = λ is goes_on. absurd (cc);
      rest = rest_then _ _ _ was.rest more.rest;
      frame = g.met.T.Trace.goes_on _ _ _ was.frame more.frame;
      clock = λ is goes_on. absurd (cc);
    }

pub pieces-preserved : goal.pieces-preserved
pieces-preserved g c =
    let was = c.pieces.invariant in
    let few = c.stretch_len-slots.ensures.few in
    let first = clock_value c.args.clock.now in
    let now = clock_value c.pieces.clock in
    let slots = c.stretch_len-slots.result in
    let more = c.run_line.ensures in
    let goes = ends_as _ _ _ AtEnd _ _ _ c.in-AtEnd.is more.run in
    let passed = more.passed c.in-AtEnd.is in
    record {
      run = run_more _ _ _ _ _ _ _ _ _ _ was.run goes (piece_is first now c.args.count c.pieces.left slots was.some few was.clock);
      some = omega (arith, was.some);
      clock = piece_after first now c.args.count c.pieces.left slots was.some few was.clock _ more.clock;
      passed = omega (arith, passed, was.passed, was.some, few);
      phase = more.phase ∙ ap phase_after c.in-AtEnd.is;
      rest = rest_then _ _ _ was.rest more.rest;
      frame = g.met.T.Trace.goes_on _ _ _ was.frame more.frame;
    }

pub returns : goal.returns
returns g c =
    let was = c.pieces.invariant in
    let first = clock_value c.args.clock.now in
    let none : c.pieces.left ≡ 0 = omega (arith, c.pieces-test.false) in
    record {
      phase = was.phase;
      run = run_whole _ _ _ _ _ _ (run_as _ _ _ _ _ _ _ (all_pieces first c.args.count c.pieces.left none) was.run);
      passed = λ is goes. omega (arith, was.passed, none);
      rest = was.rest;
      frame = was.frame;
      clock = λ is goes. after_pieces first _ c.args.count c.pieces.left none was.clock;
    }
