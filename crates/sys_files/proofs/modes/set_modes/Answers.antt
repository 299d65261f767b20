use Rattle.std.proofs.Common.{true, ◌++◌, ap}
use Rattle.v6_base.specs.Trace.{sent}
use Rattle.v6_base.proofs.Took.{took_then}
use Rattle.lines_eight.specs.Lines.{terminal_at}
use Rattle.lines_eight.specs.Told.{keys_of, show_of, wakes_if}
use Rattle.sys_files.proofs.modes.set_modes.Goals as goal

pub returns-clause-items : goal.returns-clause-items
returns-clause-items g c =
    let l = c.args.l in
    took_then _ _ _ _ _ _ c.set_modes-show.ensures.items c.tell_flushed.ensures.items
    (ap (λ show. sent l (terminal_at c.args.lines.now l).output ++ (wakes_if true (keys_of l) ++ wakes_if show (show_of l)))
    c.set_modes-show.ensures.show)
