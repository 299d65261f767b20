use Rattle.std.proofs.Common.{◌<◌, ◌==◌, not, length, map, false, refl, sym, ap}
use Rattle.v6_base.proofs.Took.{took_nothing}
use Rattle.pick_rules.specs.Effects.{Show}
use Rattle.pick_rules.specs.Logged.{logged}
use Rattle.abstract_unix.specs.Unix.{Unix}
use Rattle.unix_core.specs.declared.world.World.{World}
use Rattle.unix_core.specs.Parts.{board_in}
use Rattle.unix_core.proofs.SlotWorlds.{none_woken_now, due_later, reach_good, reach_passed, reach_timed, sent_unix, sent_board, sent_any, sent_took, reach_others}
use Rattle.unix_core.proofs.slots.reach.Goals as goal

-- The next wake is later.
pub send_after-requires : goal.send_after-requires
send_after-requires g c =
    let w : World = c.args.world.now in
    let r = c.requires in
    let later : w.slots.due < w.slots.wake = c.if-passed-wake.true in
    record {
      good = reach_good w r.left r.good r.counted w.procs refl r.good.agree refl refl w.slots.wake later;
      timed = reach_timed w r.left r.good r.counted w.procs refl r.good.agree refl refl w.slots.wake later (due_later w r.counted later);
      passed = reach_passed w r.left r.good r.counted w.procs refl r.good.agree refl refl w.slots.wake later;
    }

pub returns-then-passed-wake : goal.returns-then-passed-wake
returns-then-passed-wake g c =
    let w : World = c.args.world.now in
    let r = c.requires in
    let later : w.slots.due < w.slots.wake = c.if-passed-wake.true in
    let none = none_woken_now w r.counted later in
    let now : World = c.send_after.new.world in
    let e = c.send_after.ensures in
    record {
      ended = record {
        unix = sent_unix w r.left r.good r.counted w.procs refl r.good.agree refl refl w.slots.wake later now e.unix;
        board = sent_board w r.left r.good r.counted w.procs refl r.good.agree refl refl w.slots.wake later now e.unix
            (ap (λ items. (logged {W = Unix} (board_in w) (map Show items)).board) (sym none)) e.board;
        any = sent_any w r.left r.good r.counted w.procs refl r.good.agree refl refl w.slots.wake later now e.unix false c.send_after.result
            (ap (λ items. not (length items == 0)) (sym none)) e.any;
        good = e.good;
        counted = e.counted;
        running = e.running;
        tree = ap (λ (x : World). x.files.tree) e.others;
        others = reach_others w now w.procs e.others;
        same = e.same;
      };
      items = sent_took w r.left r.good r.counted w.procs refl r.good.agree refl refl w.slots.wake later now e.unix _ _ _ (took_nothing _ _ none) e.items;
      frame = e.frame;
    }
