use Rattle.std.proofs.Common.{◌≡◌, sym, ap, subst, arith}
use Rattle.sys_procs.specs.declared.procs.Procs.{Procs}
use Rattle.unix_core.specs.Slots.{processes_of, NoneInGraves}
use Rattle.unix_core.proofs.DiskWakes.{IsWoken, kernel_none, woken_first, woken_next, all_due}
use Rattle.unix_core.proofs.slots.wake_disks.Goals as goal

pub loop-s-init : goal.loop-s-init
loop-s-init g c =
    let p : Procs = c.args.procs.now in
    record {
      woken = woken_first c.args.passed p _ c.requires.agree c.requires.fresh (kernel_none p c.in_use-kernel.ensures.table.kernel);
      frame = g.met.T.Trace.stays _;
    }

pub disk_end-end-requires-clause-agree : goal.disk_end-end-requires-clause-agree
disk_end-end-requires-clause-agree g c = c.loop-s.invariant.woken.agree

pub disk_end-end-requires-clause-graves : goal.disk_end-end-requires-clause-graves
disk_end-end-requires-clause-graves g c = subst NoneInGraves (sym (ap processes_of c.loop-s.invariant.woken.others)) c.requires.graves

pub wake-requires : goal.wake-requires
wake-requires g c = c.loop-s.invariant.woken.agree.table

pub with-woken-requires : goal.with-woken-requires
with-woken-requires g c = c.loop-s.invariant.woken.next

pub loop-s-preserved : goal.loop-s-preserved
loop-s-preserved g c =
    let mid : Procs = c.loop-s.procs in
    record {
      woken = woken_next c.loop-s.invariant.woken (omega (arith, c.loop-s.auto)) (omega (arith, c.loop-s-test.true)) c.disk_end-end.result
          c.disk_end-end.ensures c.requires.fresh c.wake.new.table c.wake.ensures.table c.wake.ensures.good (c.wake.ensures.board mid.images.kept) _
          c.with-woken.result (c.wake.ensures.items _) c.with-woken.ensures.any c.with-woken.ensures.next c.with-woken.ensures.sooner c.with-woken.ensures.due;
      frame = g.met.T.Trace.goes_on _ _ _ c.loop-s.invariant.frame c.wake.ensures.frame;
    }

pub returns : goal.returns
returns g c =
    let old : Procs = c.args.procs.now in
    let end : c.loop-s.s ≡ 50 = omega (arith, c.loop-s-test.false, c.loop-s.auto) in
    let was : IsWoken c.args.passed 50 old c.loop-s.procs c.loop-s.woken (g.T.Trace.taken c.args.trace.now) (g.T.Trace.taken c.loop-s.trace) =
    subst (λ k. IsWoken c.args.passed k old c.loop-s.procs c.loop-s.woken (g.T.Trace.taken c.args.trace.now) (g.T.Trace.taken c.loop-s.trace)) end
    c.loop-s.invariant.woken in
    record {
      agree = was.agree;
      others = was.others;
      same = was.same;
      running = was.running;
      clock = was.clock;
      board = was.board;
      any = was.any;
      next = was.next;
      due = all_due was;
      items = was.items;
      frame = c.loop-s.invariant.frame;
    }
