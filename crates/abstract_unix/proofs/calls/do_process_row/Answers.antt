use Rattle.abstract_unix.proofs.CallLemmas.{marks_stay}
use Rattle.abstract_unix.proofs.calls.do_process_row.Goals as goal

-- A call that isn't exec leaves the texts, and which inodes are marked.
pub returns-in_default-clause-marks : goal.returns-in_default-clause-marks
returns-in_default-clause-marks g c =
    marks_stay c.args.call c.in_default.not-Exec c.args.tree.now.mounts _ _ c.args.tree.now.nodes c.do_other_call.new.tree.nodes _ c.args.args _ _
    c.do_other_call.ensures.does c.requires.marks c.do_other_call.ensures.marks
