use Rattle.std.proofs.Common.{refl}
use Rattle.sys_files.specs.Handed.{handed}
use Rattle.sys_files.proofs.ClosingLemmas.{sound_any}
use Rattle.sys_files.proofs.DoesLemmas.{does_whole}
use Rattle.sys_files.proofs.mounting.mount_on.Goals as goal

pub mount-result-requires : goal.mount-result-requires
mount-result-requires g c = record {
  sound = λ row. sound_any c.args.f.now c.args.u.now _ row _ (g.S.Space.image c.args.space.now) c.requires.sound;
}

pub returns-clause-does : goal.returns-clause-does
returns-clause-does g c =
    let image = g.S.Space.image c.args.space.now in
    does_whole (handed c.args.f.now c.args.u.now c.args.row.now image)
    (handed c.mount-result.new.f c.args.u.now c.args.row.now image) c.mount-result.result
    (c.mount-result.ensures.did c.args.row.now) (c.answer_of.ensures _ refl) (c.mount-result.ensures.kept c.args.row.now)
