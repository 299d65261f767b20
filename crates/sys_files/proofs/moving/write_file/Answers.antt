use Rattle.std.proofs.Common.{◌≡◌, ℕ, Some, slice_index, ap, ◌∙◌, subst}
use Rattle.v6_base.specs.Image.{Image}
use Rattle.open_files.specs.declared.file.OpenFile.{OpenFile}
use Rattle.open_files.specs.Files.{file_at}
use Rattle.sys_files.specs.declared.piping.Transfer.{Transfer}
use Rattle.sys_files.specs.Handed.{Handed, handed}
use Rattle.sys_files.specs.Piping.{writes_pipe}
use Rattle.sys_files.proofs.DoesLemmas.{does_refused, does_by}
use Rattle.sys_files.proofs.OffsetLemmas.{is_file_of, file_there}
use Rattle.sys_files.proofs.WriteLemmas.{write_refused, write_not_open, write_done, write_piped, write_kept}
use Rattle.sys_files.proofs.OwedLemmas.{file_referred}
use Rattle.sys_files.proofs.moving.write_file.Goals as goal

pub returns-in-Err-clause-does : goal.returns-in-Err-clause-does
returns-in-Err-clause-does g c =
    let image : Image = g.S.Space.image c.args.space.now in
    let h : Handed = handed c.args.f.now c.args.u.now c.args.row.now image in
    does_refused (write_refused h c.args.slot (slice_index c.args.args 0) (slice_index c.args.args 1) c.args.now c.in-Err.e
    (c.in-Err.ensures.entry c.args.row.now image)) c.requires.sound

pub returns-then-not-file-clause-does : goal.returns-then-not-file-clause-does
returns-then-not-file-clause-does g c =
    let image : Image = g.S.Space.image c.args.space.now in
    let h : Handed = handed c.args.f.now c.args.u.now c.args.row.now image in
    does_refused (write_not_open h c.args.slot (slice_index c.args.args 0)
    (slice_index c.args.args 1) c.args.now c.in-Ok.entry c.file_of-file.result
    (c.in-Ok.ensures.entry c.args.row.now image) (c.file_of-file.ensures c.args.u.now c.args.row.now image) c.if-not-file.true) c.requires.sound

pub write_to-requires : goal.write_to-requires
write_to-requires g c =
    let image : Image = g.S.Space.image c.args.space.now in
    record {
      file = is_file_of c.args.f.now c.args.u.now c.args.row.now image c.in-Ok.entry c.file_of-file.result c.requires.sound (c.in-Ok.ensures.used c.requires.sound.is_open)
          (c.file_of-file.ensures c.args.u.now c.args.row.now image);
    }

pub returns-clause-does : goal.returns-clause-does
returns-clause-does g c =
    let image : Image = g.S.Space.image c.args.space.now in
    let h : Handed = handed c.args.f.now c.args.u.now c.args.row.now image in
    does_by _ (write_done h c.args.slot (slice_index c.args.args 0)
    (slice_index c.args.args 1) c.args.now c.in-Ok.entry c.file_of-file.result
    (c.in-Ok.ensures.entry c.args.row.now image)
    (c.file_of-file.ensures c.args.u.now c.args.row.now image) c.if-not-file.false c.if-file.false)
    c.write_to.ensures.answer c.write_to.ensures.state c.write_to.ensures.items
    (write_kept h c.args.slot (slice_index c.args.args 0) (slice_index c.args.args 1) c.args.now c.requires.sound)

pub write_pipe-requires-clause-pipe : goal.write_pipe-requires-clause-pipe
write_pipe-requires-clause-pipe g c file is =
    let image : Image = g.S.Space.image c.args.space.now in
    let h : Handed = handed c.args.f.now c.args.u.now c.args.row.now image in
    let P : ℕ → Type 0 = λ entry. file_at h.files entry ≡ Some file in
    ap (λ (x : OpenFile). x.kind.pipe) (file_there h c.in-Ok.entry file c.file_of-file.result
    (subst P (ap (λ t. t.entry) c.transfer_of-transfer.ensures) is)
    (c.file_of-file.ensures c.args.u.now c.args.row.now image)) ∙ c.if-file.true

pub write_pipe-requires-clause-referred : goal.write_pipe-requires-clause-referred
write_pipe-requires-clause-referred g c file is =
    let image : Image = g.S.Space.image c.args.space.now in
    let h : Handed = handed c.args.f.now c.args.u.now c.args.row.now image in
    file_referred h _ file c.requires.sound is

pub returns-then-file-clause-does : goal.returns-then-file-clause-does
returns-then-file-clause-does g c =
    let image : Image = g.S.Space.image c.args.space.now in
    let h : Handed = handed c.args.f.now c.args.u.now c.args.row.now image in
    let row = write_piped h c.args.slot (slice_index c.args.args 0)
    (slice_index c.args.args 1) c.args.now c.in-Ok.entry c.file_of-file.result
    (c.in-Ok.ensures.entry c.args.row.now image)
    (c.file_of-file.ensures c.args.u.now c.args.row.now image) c.if-not-file.false c.if-file.true in
    does_by _ (ap (λ
    (t : Transfer). writes_pipe h c.args.slot t.entry t.at t.count t.left c.args.now) c.transfer_of-transfer.ensures ∙ row)
    c.write_pipe.ensures.answer c.write_pipe.ensures.state c.write_pipe.ensures.items
    (write_kept h c.args.slot (slice_index c.args.args 0) (slice_index c.args.args 1) c.args.now c.requires.sound)
