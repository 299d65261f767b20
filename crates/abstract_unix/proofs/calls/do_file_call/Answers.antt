use Rattle.std.proofs.Common.{ap, ◌∙◌}
use Rattle.sys_files.specs.Handed.{Handed, handed}
use Rattle.abstract_unix.proofs.OtherCalls.{call_left_other}
use Rattle.abstract_unix.proofs.RootNames.{file_stays}
use Rattle.abstract_unix.proofs.calls.do_file_call.Goals as goal

pub returns-clause-apart : goal.returns-clause-apart
returns-clause-apart g c = λ sync pipe.
    call_left_other c.args.call _ _ c.args.slot c.args.args c.args.now _ _ _ c.requires.sound c.do_file_row.ensures.does sync pipe

pub returns-clause-unmounted : goal.returns-clause-unmounted
returns-clause-unmounted g c = λ on.
    let h : Handed = handed c.args.files.now c.args.u.now c.args.row.now (g.S.Space.image c.args.space.now) in
    ap (λ (x : Handed). x.inodes.store.second) c.do_file_row.ensures.does.state
    ∙ file_stays c.args.call h c.args.slot c.args.args c.args.now c.requires.sound on
