use Rattle.std.proofs.Common.{slice_index, ap, ◌∙◌}
use Rattle.open_files.specs.declared.file.OpenFile.{OpenFile}
use Rattle.sys_files.specs.Handed.{Handed, handed, file_of}
use Rattle.sys_files.specs.Did.{check}
use Rattle.sys_files.specs.Status.{tells_status}
use Rattle.sys_files.proofs.DoesLemmas.{does_refused, does_quietly}
use Rattle.sys_files.proofs.OffsetLemmas.{referred_there}
use Rattle.sys_files.proofs.StatusLemmas.{stat_open_kept}
use Rattle.sys_files.proofs.status.stat_open.Goals as goal

pub returns-in-Err-clause-does : goal.returns-in-Err-clause-does
returns-in-Err-clause-does g c =
    let h : Handed = handed c.args.f.now c.args.u.now c.args.row.now (g.S.Space.image c.args.space.now) in
    does_refused (ap (λ found. check h found (λ entry. tells_status h (file_of h entry).ino (slice_index c.args.args 0)))
    (c.in-Err.ensures.entry c.args.row.now (g.S.Space.image c.args.space.now))) c.requires.sound

pub tell_status-requires : goal.tell_status-requires
tell_status-requires g c =
    let h : Handed = handed c.args.f.now c.args.u.now c.args.row.now (g.S.Space.image c.args.space.now) in
    record {
      referenced = referred_there h c.in-Ok.entry c.file_of-ino.result c.requires.sound
          (c.in-Ok.ensures.used c.requires.sound.is_open)
          (c.file_of-ino.ensures c.args.u.now c.args.row.now (g.S.Space.image c.args.space.now));
    }

pub returns-clause-does : goal.returns-clause-does
returns-clause-does g c =
    let image = g.S.Space.image c.args.space.now in
    let h : Handed = handed c.args.f.now c.args.u.now c.args.row.now image in
    let at = slice_index c.args.args 0 in
    does_quietly _ (ap (λ (x : OpenFile). tells_status h x.ino at) (c.file_of-ino.ensures c.args.u.now c.args.row.now image)
    ∙ ap (λ found. check h found (λ entry. tells_status h (file_of h entry).ino at)) (c.in-Ok.ensures.entry c.args.row.now image))
    (c.tell_status.ensures.answer c.args.row.now) (c.tell_status.ensures.state c.args.row.now) (c.tell_status.ensures.items c.args.row.now)
    (stat_open_kept h at c.requires.sound)
