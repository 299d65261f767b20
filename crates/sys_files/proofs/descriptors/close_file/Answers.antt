use Rattle.sys_files.specs.Handed.{Handed, handed}
use Rattle.sys_files.proofs.ClosingLemmas.{sound_any, closed_open, closed_not}
use Rattle.sys_files.proofs.descriptors.close_file.Goals as goal

pub close_number-requires : goal.close_number-requires
close_number-requires g c = λ row image. sound_any c.args.f.now c.args.u.now _ row _ image c.requires.sound

pub returns-in-Ok-clause-does : goal.returns-in-Ok-clause-does
returns-in-Ok-clause-does g c =
    let h : Handed = handed c.args.f.now c.args.u.now c.args.row.now (g.S.Space.image c.args.space.now) in
    closed_open h c.requires.sound (c.close_number.ensures.state _ _) (c.close_number.ensures.items _ _) c.in-Ok.ensures.done

pub returns-in-Err-clause-does : goal.returns-in-Err-clause-does
returns-in-Err-clause-does g c =
    let h : Handed = handed c.args.f.now c.args.u.now c.args.row.now (g.S.Space.image c.args.space.now) in
    closed_not h c.requires.sound (c.close_number.ensures.state _ _) (c.close_number.ensures.items _ _) c.in-Err.e c.in-Err.ensures.error.0
    c.in-Err.ensures.error.1
