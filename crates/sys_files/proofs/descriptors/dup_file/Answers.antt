use Rattle.std.proofs.Common.{refl}
use Rattle.sys_files.specs.Handed.{Handed, handed}
use Rattle.sys_files.proofs.DoesLemmas.{does_quietly}
use Rattle.sys_files.proofs.ClosedLemmas.{dup_kept, dup_quiet}
use Rattle.sys_files.proofs.descriptors.dup_file.Goals as goal

pub returns-clause-does : goal.returns-clause-does
returns-clause-does g c =
    let h : Handed = handed c.args.f.now c.args.u.now c.args.row.now (g.S.Space.image c.args.space.now) in
    does_quietly _ refl (c.dup_number.ensures.answer _ _) (c.dup_number.ensures.state _ _) (dup_quiet h) (dup_kept h c.requires.sound)
