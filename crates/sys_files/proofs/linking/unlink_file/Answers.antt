use Rattle.std.proofs.Common.{refl}
use Rattle.sys_files.proofs.DoesLemmas.{does_part}
use Rattle.sys_files.proofs.linking.unlink_file.Goals as goal

pub returns-clause-does : goal.returns-clause-does
returns-clause-does g c =
    does_part c.args.f.now c.unlink-result.new.f c.args.u.now c.args.row.now (g.S.Space.image c.args.space.now) c.unlink-result.result c.requires.sound
    c.unlink-result.ensures.kept c.unlink-result.ensures.table c.unlink-result.ensures.pipes c.unlink-result.ensures.mounts
    (c.unlink-result.ensures.did c.args.row.now) (c.answer_of.ensures _ refl)
