use Rattle.std.proofs.Common.{◌≡◌, ◌≤◌, ◌-◌}
use Rattle.v6_base.specs.Trace.{Took, sent}
use Rattle.fs_tree.specs.Name.{readable}
use Rattle.tty_line.specs.Output.{shows, after_shown}
use Rattle.lines_eight.specs.Lines.{terminal_at, with_terminal}
use Rattle.sys_files.proofs.ShowingLemmas.{AreTaken}
use Rattle.sys_files.proofs.moving.show_all.Given as goal

abbrev pub invariant-loop-shown : goal.invariant-loop-shown
invariant-loop-shown g l =
    let t = terminal_at l.initial.lines l.l in
    let read = readable (g.S.Space.image l.space) l.at l.shown in
    record {
      few : l.shown ≤ l.count;
      are : AreTaken t (g.S.Space.image l.space) l.at l.shown;
      line : l.lines ≡ with_terminal l.initial.lines l.l (after_shown t read);
      items : Took (g.T.Trace.taken l.initial.trace) (sent l.l (shows t read)) (g.T.Trace.taken l.trace);
      frame : g.T.Trace.leads_to l.initial.trace l.trace;
    }

abbrev pub decreases-loop-shown : goal.decreases-loop-shown
decreases-loop-shown g l = l.count - l.shown
