use Rattle.abstract_unix.proofs.OtherCalls.{process_left_other}
use Rattle.abstract_unix.proofs.RootNames.{process_stayed}
use Rattle.abstract_unix.proofs.calls.do_process_call.Goals as goal

pub returns-clause-apart : goal.returns-clause-apart
returns-clause-apart g c =
    process_left_other c.args.call c.args.tree.now.mounts c.args.p.now c.do_process_row.new.p c.args.tree.now.nodes c.do_process_row.new.tree.nodes c.args.s c.args.args
    c.do_process_row.result _ _ c.do_process_row.ensures.does

pub returns-clause-unmounted : goal.returns-clause-unmounted
returns-clause-unmounted g c =
    process_stayed c.args.call c.args.tree.now.mounts c.args.p.now c.do_process_row.new.p c.args.tree.now.nodes c.do_process_row.new.tree.nodes c.args.s c.args.args
    c.do_process_row.result _ _ c.requires.mounts c.do_process_row.ensures.does
