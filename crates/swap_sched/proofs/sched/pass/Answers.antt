use Rattle.std.proofs.Common.{◌∙◌, Err, sym, ap, arith}
use Rattle.std.proofs.lemmas.Result.{err_from_is_err_and}
use Rattle.swap_sched.proofs.PassLemmas.{begins, goes_on, panic_does, panic_answer, sleep_does, sleep_answer, end_does, end_answer}
use Rattle.swap_sched.proofs.Ending.{final_asleep}
use Rattle.swap_sched.proofs.Staying.{final_same}
use Rattle.swap_sched.proofs.Fitting.{pass_fits}
use Rattle.swap_sched.proofs.Still.{still_first, still_next}
use Rattle.swap_sched.proofs.sched.pass.Goals as goal

pub loop-n-init : goal.loop-n-init
loop-n-init g c = record {
  moves = begins c.args.table.now c.args.images.now.kept (g.T.Trace.taken c.args.trace.now) c.requires.matches c.requires.runs;
  frame = g.met.T.Trace.stays _;
  still = still_first _ _;
}

pub make_move-requires : goal.make_move-requires
make_move-requires g c = c.loop-n.invariant.moves.moved.matching

pub loop-n-preserved : goal.loop-n-preserved
loop-n-preserved g c = record {
  moves = goes_on c.args.table.now c.loop-n.table c.make_move.new.table c.args.images.now.kept c.loop-n.images.kept c.make_move.new.images.kept _ _ _
      c.loop-n.n _ c.loop-n.invariant.moves (sym c.is_asleep.ensures ∙ c.if-is_asleep.false) c.make_move.ensures.does c.in_ok-make_move.was;
  frame = g.met.T.Trace.goes_on _ _ _ c.loop-n.invariant.frame c.make_move.ensures.frame;
  still = still_next c.loop-n.invariant.still (sym c.is_asleep.ensures ∙ c.if-is_asleep.false) c.make_move.ensures.still c.make_move.ensures.asleep;
}

pub returns-then-is_asleep-clause-does : goal.returns-then-is_asleep-clause-does
returns-then-is_asleep-clause-does g c =
    let l = c.loop-n-test.true in
    sleep_does c.args.table.now c.loop-n.table c.args.images.now.kept c.loop-n.images.kept _ _ c.loop-n.n c.loop-n.invariant.moves
    (sym c.is_asleep.ensures ∙ c.if-is_asleep.true) (omega (arith, l))

pub returns-then-is_asleep-clause-answer : goal.returns-then-is_asleep-clause-answer
returns-then-is_asleep-clause-answer g c =
    let l = c.loop-n-test.true in
    sleep_answer c.args.table.now c.loop-n.table c.args.images.now.kept c.loop-n.images.kept _ _ c.loop-n.n c.loop-n.invariant.moves
    (sym c.is_asleep.ensures ∙ c.if-is_asleep.true) (omega (arith, l))

pub returns-in_err-make_move-clause-does : goal.returns-in_err-make_move-clause-does
returns-in_err-make_move-clause-does g c =
    let l = c.loop-n-test.true in
    panic_does c.args.table.now c.loop-n.table c.make_move.new.table c.args.images.now.kept c.loop-n.images.kept c.make_move.new.images.kept _ _ _ c.loop-n.n _
    c.loop-n.invariant.moves (sym c.is_asleep.ensures ∙ c.if-is_asleep.false) c.make_move.ensures.does _ c.in_err-make_move.was (omega (arith, l))

pub returns-in_err-make_move-clause-answer : goal.returns-in_err-make_move-clause-answer
returns-in_err-make_move-clause-answer g c =
    let l = c.loop-n-test.true in
    let given = err_from_is_err_and c.from_residual.result c.from_residual.ensures.1 in
    given.1 ∙ ap (λ e. Err e) given.2
    ∙ panic_answer c.args.table.now c.loop-n.table c.make_move.new.table c.args.images.now.kept c.loop-n.images.kept c.make_move.new.images.kept _ _ _ c.loop-n.n _
    c.loop-n.invariant.moves (sym c.is_asleep.ensures ∙ c.if-is_asleep.false) c.make_move.ensures.does _ c.in_err-make_move.was (omega (arith, l))

pub returns-clause-does : goal.returns-clause-does
returns-clause-does g c =
    let l = c.loop-n-test.false in
    let m = c.loop-n.auto.n-end in
    end_does c.args.table.now c.loop-n.table c.args.images.now.kept c.loop-n.images.kept _ _ c.loop-n.n c.loop-n.invariant.moves (omega arith)

pub returns-clause-answer : goal.returns-clause-answer
returns-clause-answer g c =
    let l = c.loop-n-test.false in
    let m = c.loop-n.auto.n-end in
    end_answer c.args.table.now c.loop-n.table c.args.images.now.kept c.loop-n.images.kept _ _ c.loop-n.n c.loop-n.invariant.moves (omega arith)

pub returns-then-is_asleep-clause-sleeps : goal.returns-then-is_asleep-clause-sleeps
returns-then-is_asleep-clause-sleeps g c =
    let l = c.loop-n-test.true in
    final_asleep c.args.table.now c.loop-n.table c.args.images.now.kept c.loop-n.images.kept _ _ c.requires.matches c.requires.runs
    (sleep_does c.args.table.now c.loop-n.table c.args.images.now.kept c.loop-n.images.kept _ _ c.loop-n.n c.loop-n.invariant.moves
    (sym c.is_asleep.ensures ∙ c.if-is_asleep.true) (omega (arith, l)))
    (sleep_answer c.args.table.now c.loop-n.table c.args.images.now.kept c.loop-n.images.kept _ _ c.loop-n.n c.loop-n.invariant.moves
    (sym c.is_asleep.ensures ∙ c.if-is_asleep.true) (omega (arith, l)))

pub returns-clause-sleeps : goal.returns-clause-sleeps
returns-clause-sleeps g c =
    let l = c.loop-n-test.false in
    let m = c.loop-n.auto.n-end in
    final_asleep c.args.table.now c.loop-n.table c.args.images.now.kept c.loop-n.images.kept _ _ c.requires.matches c.requires.runs
    (end_does c.args.table.now c.loop-n.table c.args.images.now.kept c.loop-n.images.kept _ _ c.loop-n.n c.loop-n.invariant.moves (omega arith))
    (end_answer c.args.table.now c.loop-n.table c.args.images.now.kept c.loop-n.images.kept _ _ c.loop-n.n c.loop-n.invariant.moves (omega arith))

pub returns-then-is_asleep-clause-same : goal.returns-then-is_asleep-clause-same
returns-then-is_asleep-clause-same g c = final_same _ _ _ _ _ _ _ c.loop-n.invariant.moves.moved

pub returns-in_err-make_move-clause-same : goal.returns-in_err-make_move-clause-same
returns-in_err-make_move-clause-same g c =
    let l = c.loop-n-test.true in
    final_same _ _ _ _ _ _ _
    (panic_does c.args.table.now c.loop-n.table c.make_move.new.table c.args.images.now.kept c.loop-n.images.kept c.make_move.new.images.kept _ _ _ c.loop-n.n _
    c.loop-n.invariant.moves (sym c.is_asleep.ensures ∙ c.if-is_asleep.false) c.make_move.ensures.does _ c.in_err-make_move.was (omega (arith, l)))

pub returns-clause-same : goal.returns-clause-same
returns-clause-same g c = final_same _ _ _ _ _ _ _ c.loop-n.invariant.moves.moved

pub returns-then-is_asleep-clause-fits : goal.returns-then-is_asleep-clause-fits
returns-then-is_asleep-clause-fits g c = pass_fits c.args.table.now c.args.images.now.kept c.requires.matches c.requires.runs

pub returns-in_err-make_move-clause-fits : goal.returns-in_err-make_move-clause-fits
returns-in_err-make_move-clause-fits g c = pass_fits c.args.table.now c.args.images.now.kept c.requires.matches c.requires.runs

pub returns-clause-fits : goal.returns-clause-fits
returns-clause-fits g c = pass_fits c.args.table.now c.args.images.now.kept c.requires.matches c.requires.runs

pub returns-then-is_asleep-clause-still : goal.returns-then-is_asleep-clause-still
returns-then-is_asleep-clause-still g c = λ none. (c.loop-n.invariant.still none).0

pub returns-in_err-make_move-clause-still : goal.returns-in_err-make_move-clause-still
returns-in_err-make_move-clause-still g c = λ none.
    (still_next {v = c.make_move.new.table} c.loop-n.invariant.still (sym c.is_asleep.ensures ∙ c.if-is_asleep.false) c.make_move.ensures.still c.make_move.ensures.asleep none).0

pub returns-clause-still : goal.returns-clause-still
returns-clause-still g c = λ none. (c.loop-n.invariant.still none).0

pub returns-in_err-make_move-clause-frame : goal.returns-in_err-make_move-clause-frame
returns-in_err-make_move-clause-frame g c = g.met.T.Trace.goes_on _ _ _ c.loop-n.invariant.frame c.make_move.ensures.frame
