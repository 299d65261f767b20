use Rattle.std.proofs.Common.{◌≡◌, ◌++◌, map, take, drop}
use Rattle.sys_procs.specs.ExecFile.{kept_handler}
use Rattle.sys_procs.proofs.exec.keep_ignored.Given as goal

abbrev pub invariant-loop-handler : goal.invariant-loop-handler
invariant-loop-handler l =
    l.handlers ≡ map kept_handler (take l.handler-index l.fn.handlers) ++ drop l.handler-index l.fn.handlers
