use Rattle.std.proofs.Common.{ℕ, slice_index, refl, ap, ◌∙◌}
use Rattle.v6_base.specs.Image.{Image}
use Rattle.open_files.specs.declared.file.OpenFile.{OpenFile}
use Rattle.open_files.specs.Files.{with_change, with_offset}
use Rattle.sys_files.specs.Handed.{Handed, handed, node_at}
use Rattle.sys_files.specs.Moving.{seek_mode, sought}
use Rattle.sys_files.proofs.DoesLemmas.{does_refused, does_quietly}
use Rattle.sys_files.proofs.OffsetLemmas.{referred_there}
use Rattle.sys_files.proofs.SeekLemmas.{seek_refused, seek_of_pipe, seek_done, seek_kept}
use Rattle.sys_files.proofs.moving.seek_to.Goals as goal

pub returns-in-Err-clause-does : goal.returns-in-Err-clause-does
returns-in-Err-clause-does g c =
    let image : Image = g.S.Space.image c.args.space.now in
    let h : Handed = handed c.args.f.now c.args.u.now c.args.row.now image in
    does_refused (seek_refused h (slice_index c.args.args 0) (slice_index c.args.args 1) c.in-Err.e (c.in-Err.ensures.entry c.args.row.now image))
    c.requires.sound

pub returns-then-file-clause-does : goal.returns-then-file-clause-does
returns-then-file-clause-does g c =
    let image : Image = g.S.Space.image c.args.space.now in
    let h : Handed = handed c.args.f.now c.args.u.now c.args.row.now image in
    does_refused (seek_of_pipe h (slice_index c.args.args 0) (slice_index c.args.args 1) c.in-Ok.entry c.file_of-file.result
    (c.in-Ok.ensures.entry c.args.row.now image) (c.file_of-file.ensures c.args.u.now c.args.row.now image) c.if-file.true) c.requires.sound

pub sought-offset-requires : goal.sought-offset-requires
sought-offset-requires g c =
    let image : Image = g.S.Space.image c.args.space.now in
    let h : Handed = handed c.args.f.now c.args.u.now c.args.row.now image in
    record { referenced = referred_there h c.in-Ok.entry c.file_of-file.result c.requires.sound (c.in-Ok.ensures.used c.requires.sound.is_open) (c.file_of-file.ensures c.args.u.now c.args.row.now image) }

pub returns-clause-does : goal.returns-clause-does
returns-clause-does g c =
    let image : Image = g.S.Space.image c.args.space.now in
    let h : Handed = handed c.args.f.now c.args.u.now c.args.row.now image in
    let offset : ℕ = slice_index c.args.args 0 in
    let mode : ℕ = slice_index c.args.args 1 in
    let place : OpenFile → ℕ → ℕ = λ file mode. sought file (node_at h file.ino) offset mode in
    let is = c.sought-offset.ensures ∙ ap (place c.file_of-file.result) c.seek_mode.ensures
    ∙ ap (λ (x : OpenFile). place x (seek_mode mode)) (c.file_of-file.ensures c.args.u.now c.args.row.now image) in
    does_quietly _ (seek_done h offset mode c.in-Ok.entry c.file_of-file.result
    (c.in-Ok.ensures.entry c.args.row.now image) (c.file_of-file.ensures c.args.u.now c.args.row.now image) c.if-file.false) refl
    (ap (λ files. record h { files = files }) (c.set_offset.ensures ∙ ap (λ n. with_change h.files c.in-Ok.entry (with_offset n)) is)) refl
    (seek_kept h offset mode c.requires.sound)
