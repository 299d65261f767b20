use Rattle.std.proofs.Common.{◌≡◌, ◌≤◌, ◌-◌}
use Rattle.sys_procs.specs.Handed.{handed}
use Rattle.sys_procs.specs.inside.Parts.{with_part, IsUnread, KeepsOthers}
use Rattle.sys_procs.proofs.exec.read_text.Given as goal

-- what is read so far, and what is still to be read, are the text of the file
abbrev pub invariant-loop-at : goal.invariant-loop-at
invariant-loop-at l = record {
  within : l.at ≤ l.end;
  unread : IsUnread l.p.images.kept l.t l.program.text_clicks l.at;
  state : with_part (handed l.p l.tree.nodes) l.t l.program l.at (l.end - l.at)
      ≡ with_part (handed l.fn.p l.fn.tree.nodes) l.t l.program 0 l.end;
  others : KeepsOthers l.fn.p l.p l.fn.tree l.tree;
}

abbrev pub decreases-loop-at : goal.decreases-loop-at
decreases-loop-at l = l.end - l.at
