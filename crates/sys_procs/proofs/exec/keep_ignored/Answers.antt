use Rattle.std.proofs.Common.{arith}
use Rattle.sys_procs.proofs.LoadLemmas.{one_more_kept}
use Rattle.sys_procs.proofs.exec.keep_ignored.Goals as goal

pub loop-handler-preserved : goal.loop-handler-preserved
loop-handler-preserved c =
    one_more_kept c.args.handlers.now c.loop-handler.handlers c.loop-handler.handler-index _
    (omega (arith, c.told-handlers)) c.loop-handler.invariant c.kept_handler.ensures
