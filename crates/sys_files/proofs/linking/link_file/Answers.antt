use Rattle.std.proofs.Common.{refl}
use Rattle.sys_files.proofs.DoesLemmas.{does_part}
use Rattle.sys_files.proofs.linking.link_file.Goals as goal

pub returns-clause-does : goal.returns-clause-does
returns-clause-does g c =
    does_part c.args.f.now c.link-result.new.f c.args.u.now c.args.row.now (g.S.Space.image c.args.space.now) c.link-result.result c.requires.sound
    c.link-result.ensures.kept c.link-result.ensures.table c.link-result.ensures.pipes c.link-result.ensures.mounts
    (c.link-result.ensures.did c.args.row.now)
    (c.answer_of.ensures _ refl)
