use Rattle.std.proofs.Common.{refl}
use Rattle.sys_files.proofs.DoesLemmas.{does_part}
use Rattle.sys_files.proofs.making.mknod_at.Goals as goal

pub returns-clause-does : goal.returns-clause-does
returns-clause-does g c =
    does_part c.args.f.now c.mknod-result.new.f c.args.u.now c.args.row.now (g.S.Space.image c.args.space.now) c.mknod-result.result c.requires.sound
    c.mknod-result.ensures.kept c.mknod-result.ensures.table c.mknod-result.ensures.pipes c.mknod-result.ensures.mounts
    (c.mknod-result.ensures.did c.args.row.now) (c.answer_of.ensures _ refl)
