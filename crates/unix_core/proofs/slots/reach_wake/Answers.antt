use Rattle.std.proofs.Common.{◌∙◌, sym, ap}
use Rattle.unix_core.specs.declared.world.World.{World}
use Rattle.sys_procs.specs.declared.procs.Procs.{Procs}
use Rattle.unix_core.proofs.SlotWorlds.{reach_others, reach_good, reach_passed, reach_timed, sent_unix, sent_board, sent_any, sent_took, none_woken}
use Rattle.unix_core.proofs.slots.reach_wake.Goals as goal

pub wake_disks-woken-requires-clause-agree : goal.wake_disks-woken-requires-clause-agree
wake_disks-woken-requires-clause-agree g c = c.requires.good.agree

pub wake_disks-woken-requires-clause-graves : goal.wake_disks-woken-requires-clause-graves
wake_disks-woken-requires-clause-graves g c = c.requires.counted.timed.graves

pub send_after-sent-requires : goal.send_after-sent-requires
send_after-sent-requires g c =
    let w : World = c.args.world.now in
    let r = c.requires in
    let ps : Procs = c.wake_disks-woken.new.procs in
    let e = c.wake_disks-woken.ensures in
    record {
      good = reach_good w r.left r.good r.counted ps e.others e.agree e.running e.clock c.wake_disks-woken.result.next e.next;
      timed = reach_timed w r.left r.good r.counted ps e.others e.agree e.running e.clock c.wake_disks-woken.result.next e.next e.due;
      passed = reach_passed w r.left r.good r.counted ps e.others e.agree e.running e.clock c.wake_disks-woken.result.next e.next;
    }

pub returns : goal.returns
returns g c =
    let w : World = c.args.world.now in
    let r = c.requires in
    let ps : Procs = c.wake_disks-woken.new.procs in
    let e = c.wake_disks-woken.ensures in
    let next = c.wake_disks-woken.result.next in
    let now : World = c.send_after-sent.new.world in
    let s = c.send_after-sent.ensures in
    record {
      ended = record {
        unix = sent_unix w r.left r.good r.counted ps e.others e.agree e.running e.clock next e.next now s.unix;
        board = sent_board w r.left r.good r.counted ps e.others e.agree e.running e.clock next e.next now s.unix e.board s.board;
        any = c.either.ensures ∙ sent_any w r.left r.good r.counted ps e.others e.agree e.running e.clock next e.next now s.unix _ _ e.any s.any;
        good = s.good;
        counted = s.counted;
        running = s.running ∙ e.running;
        tree = ap (λ (x : World). x.files.tree) s.others;
        others = reach_others w now ps s.others;
        same = λ none. (let both = none_woken c.wake_disks-woken.result.any c.send_after-sent.result (sym c.either.ensures ∙ none) in s.same both.1 ∙ e.same both.0);
      };
      items = sent_took w r.left r.good r.counted ps e.others e.agree e.running e.clock next e.next now s.unix _ _ _ e.items s.items;
      frame = g.met.T.Trace.goes_on _ _ _ e.frame s.frame;
    }
