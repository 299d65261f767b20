use Rattle.std.proofs.Common.{refl, sym, ap, ◌∙◌, slice_index}
use Rattle.sys_files.specs.Handed.{Handed, handed}
use Rattle.sys_files.specs.Did.{Did}
use Rattle.sys_files.proofs.ClosingLemmas.{sound_any}
use Rattle.sys_files.proofs.CoreLemmas.{told_state}
use Rattle.sys_files.proofs.DoesLemmas.{does_whole}
use Rattle.sys_files.proofs.MountingLemmas.{umount_uncovers}
use Rattle.sys_files.proofs.mounting.umount_off.Goals as goal

pub unmount-result-requires : goal.unmount-result-requires
unmount-result-requires g c = record {
  sound = λ row. sound_any c.args.f.now c.args.u.now _ row _ (g.S.Space.image c.args.space.now) c.requires.sound;
}

pub returns-clause-does : goal.returns-clause-does
returns-clause-does g c =
    let image = g.S.Space.image c.args.space.now in
    does_whole (handed c.args.f.now c.args.u.now c.args.row.now image)
    (handed c.unmount-result.new.f c.args.u.now c.args.row.now image) c.unmount-result.result
    (c.unmount-result.ensures.did c.args.row.now) (c.answer_of.ensures _ refl) (c.unmount-result.ensures.kept c.args.row.now)

pub returns-clause-uncovered : goal.returns-clause-uncovered
returns-clause-uncovered g c = λ a b is.
    let image = g.S.Space.image c.args.space.now in
    let h : Handed = handed c.args.f.now c.args.u.now c.args.row.now image in
    let after : Handed = handed c.unmount-result.new.f c.args.u.now c.args.row.now image in
    let did = c.unmount-result.ensures.did c.args.row.now in
    ap (λ (x : Handed). x.mounts.covered) (told_state after c.unmount-result.result)
    ∙ ap (λ (d : Did). d.state.mounts.covered) (sym did)
    ∙ umount_uncovers h (slice_index c.args.args 0) a b (ap (λ (d : Did). d.answer) did ∙ sym (c.answer_of.ensures after refl) ∙ is)
