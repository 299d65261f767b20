use Rattle.std.proofs.Common.{◌<◌, length, arith}
use Rattle.abstract_unix.specs.Outside.{turned_to}
use Rattle.unix_core.proofs.EachLine.{called_first, called_next, called_length, called_all}
use Rattle.unix_core.proofs.SendLines.{turned_keys}
use Rattle.unix_core.proofs.slots.turn_lines.Goals as goal

pub loop-l-init : goal.loop-l-init
loop-l-init g c = record {
  called = called_first (turned_to c.args.on) c.args.lines.now c.args.table.now _ c.requires.table;
  low = omega arith;
  frame = g.met.T.Trace.stays _;
}

pub set_pace-show-requires : goal.set_pace-show-requires
set_pace-show-requires g c =
    let long = called_length c.loop-l.invariant.called c.loop-l.invariant.low in
    omega (arith, long, c.loop-l-test.true, c.count-l-end.ensures.count)

pub wake-requires : goal.wake-requires
wake-requires g c = c.loop-l.invariant.called.good

pub loop-l-preserved : goal.loop-l-preserved
loop-l-preserved g c =
    let low : c.loop-l.l < length c.args.lines.now = omega (arith, c.loop-l-test.true, c.count-l-end.ensures.count) in
    record {
      called = called_next (turned_keys c.args.on) c.loop-l.invariant.called low c.set_pace-show.new.self c.set_pace-show.ensures.line
          c.set_pace-show.result c.set_pace-show.ensures.show c.show_of.result c.show_of.ensures c.wake.new.table c.wake.ensures.table c.wake.ensures.good _ _
          c.set_pace-show.ensures.items c.wake.ensures.items c.either-any.result c.either-any.ensures;
      low = omega (arith, low);
      frame = g.met.T.Trace.goes_on _ _ _ c.loop-l.invariant.frame (g.met.T.Trace.goes_on _ _ _ c.set_pace-show.ensures.frame c.wake.ensures.frame);
    }

pub returns : goal.returns
returns g c =
    let was = c.loop-l.invariant.called in
    let all = called_all was (omega (arith, c.loop-l-test.false, c.count-l-end.ensures.count)) in
    record {
      lines = all.0;
      any = all.2;
      good = was.good;
      table = all.1;
      same = was.same;
      items = all.3;
      frame = c.loop-l.invariant.frame;
    }
