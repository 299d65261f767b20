use Rattle.std.proofs.Common.{◌≡◌, ℕ, Bool, if◌then◌else◌, refl, sym, ap, ◌∙◌, subst}
use Rattle.v6_base.specs.Image.{Image}
use Rattle.v6_base.specs.Trace.{Took}
use Rattle.fs_codec.specs.Modes.{is_device}
use Rattle.fs_laws.specs.Pieces.{Moving}
use Rattle.open_files.specs.declared.file.OpenFile.{OpenFile}
use Rattle.sys_files.specs.Handed.{Handed, handed, node_at, file_of}
use Rattle.sys_files.specs.Did.{Did}
use Rattle.sys_files.specs.Moving.{with_moved, gives_count, write_of, writes_line, writes_to}
use Rattle.sys_files.proofs.MovingLemmas.{file_is}
use Rattle.sys_files.proofs.ReadLemmas.{gives_state}
use Rattle.sys_files.proofs.WriteLemmas.{write_shows, write_gives, took_given}
use Rattle.sys_files.proofs.moving.write_to.Goals as goal

pub returns-in-Some-clause-answer : goal.returns-in-Some-clause-answer
returns-in-Some-clause-answer g c =
    let image : Image = g.S.Space.image c.args.space.now in
    let h : Handed = handed c.args.f.now c.args.u.now c.args.row.now image in
    let parts : Handed = handed c.write_bytes-moved.new.f c.args.u.now c.args.row.now image in
    let same : writes_line parts c.in-Some.l c.from-entry.result c.args.at c.args.count 0 ≡ writes_to h c.args.entry c.args.at c.args.count c.args.now =
    ap (λ (e : ℕ). writes_line parts c.in-Some.l e c.args.at c.args.count 0) c.from-entry.ensures
    ∙ ap (λ (k : Handed). writes_line k c.in-Some.l c.args.entry c.args.at c.args.count 0) (c.write_bytes-moved.ensures.state c.args.u.now c.args.row.now)
    ∙ write_shows h c.args.entry c.args.at c.args.count c.args.now c.in-Some.l c.args.file.now
    (file_is c.args.f.now c.args.entry c.args.file.now c.requires.file c.args.u.now c.args.row.now image) (sym c.in-Some.is ∙ c.line_at-line.ensures.line h refl) in
    c.write_line.ensures.answer parts refl refl refl refl ∙ ap (λ (d : Did). d.answer) same

pub returns-in-Some-clause-state : goal.returns-in-Some-clause-state
returns-in-Some-clause-state g c =
    let image : Image = g.S.Space.image c.args.space.now in
    let h : Handed = handed c.args.f.now c.args.u.now c.args.row.now image in
    let parts : Handed = handed c.write_bytes-moved.new.f c.args.u.now c.args.row.now image in
    let same : writes_line parts c.in-Some.l c.from-entry.result c.args.at c.args.count 0 ≡ writes_to h c.args.entry c.args.at c.args.count c.args.now =
    ap (λ (e : ℕ). writes_line parts c.in-Some.l e c.args.at c.args.count 0) c.from-entry.ensures
    ∙ ap (λ (k : Handed). writes_line k c.in-Some.l c.args.entry c.args.at c.args.count 0) (c.write_bytes-moved.ensures.state c.args.u.now c.args.row.now)
    ∙ write_shows h c.args.entry c.args.at c.args.count c.args.now c.in-Some.l c.args.file.now
    (file_is c.args.f.now c.args.entry c.args.file.now c.requires.file c.args.u.now c.args.row.now image) (sym c.in-Some.is ∙ c.line_at-line.ensures.line h refl) in
    c.write_line.ensures.state parts refl refl refl refl ∙ ap (λ (d : Did). d.state) same

pub returns-in-Some-clause-items : goal.returns-in-Some-clause-items
returns-in-Some-clause-items g c =
    let image : Image = g.S.Space.image c.args.space.now in
    let h : Handed = handed c.args.f.now c.args.u.now c.args.row.now image in
    let parts : Handed = handed c.write_bytes-moved.new.f c.args.u.now c.args.row.now image in
    let same : writes_line parts c.in-Some.l c.from-entry.result c.args.at c.args.count 0 ≡ writes_to h c.args.entry c.args.at c.args.count c.args.now =
    ap (λ (e : ℕ). writes_line parts c.in-Some.l e c.args.at c.args.count 0) c.from-entry.ensures
    ∙ ap (λ (k : Handed). writes_line k c.in-Some.l c.args.entry c.args.at c.args.count 0) (c.write_bytes-moved.ensures.state c.args.u.now c.args.row.now)
    ∙ write_shows h c.args.entry c.args.at c.args.count c.args.now c.in-Some.l c.args.file.now
    (file_is c.args.f.now c.args.entry c.args.file.now c.requires.file c.args.u.now c.args.row.now image) (sym c.in-Some.is ∙ c.line_at-line.ensures.line h refl) in
    subst (λ (d : Did). Took (g.T.Trace.taken c.args.trace.now) d.items (g.T.Trace.taken c.write_line.new.trace)) same
    (c.write_line.ensures.items parts refl refl)

pub returns-in-None-clause-answer : goal.returns-in-None-clause-answer
returns-in-None-clause-answer g c =
    let image : Image = g.S.Space.image c.args.space.now in
    let row = c.args.row.now in
    let h : Handed = handed c.args.f.now c.args.u.now row image in
    let m : Moving (Unit {0}) = write_of h c.args.entry c.args.at c.args.count c.args.now in
    let after : Handed = with_moved h c.args.entry m in
    let file = file_is c.args.f.now c.args.entry c.args.file.now c.requires.file c.args.u.now row image in
    let device = c.is_device_at-device.ensures ∙ ap (λ (x : OpenFile). is_device (node_at h x.ino).mode) file in
    let given : Bool → ℕ → ℕ = λ is_device done. if is_device then c.args.count else done in
    let taken = c.taken.ensures ∙ ap (given c.is_device_at-device.result) (c.write_bytes-moved.ensures.done c.args.u.now row) ∙ ap (λ d. given d m.done) device in
    c.give_count.ensures after refl
    ∙ ap (λ n. (gives_count after n c.write_bytes-moved.result.error).answer) taken
    ∙ ap (λ e. (gives_count after (given (is_device (node_at h (file_of h c.args.entry).ino).mode) m.done) e).answer) (c.write_bytes-moved.ensures.error c.args.u.now row)
    ∙ ap (λ (d : Did). d.answer) (write_gives h c.args.entry c.args.at c.args.count c.args.now c.args.file.now
    (file_is c.args.f.now c.args.entry c.args.file.now c.requires.file c.args.u.now row image) (sym c.in-None.is ∙ c.line_at-line.ensures.line h refl))

pub returns-in-None-clause-state : goal.returns-in-None-clause-state
returns-in-None-clause-state g c =
    let image : Image = g.S.Space.image c.args.space.now in
    let row = c.args.row.now in
    let h : Handed = handed c.args.f.now c.args.u.now row image in
    c.write_bytes-moved.ensures.state c.args.u.now row ∙ sym (gives_state _ _ _)
    ∙ ap (λ (d : Did). d.state) (write_gives h c.args.entry c.args.at c.args.count c.args.now c.args.file.now
    (file_is c.args.f.now c.args.entry c.args.file.now c.requires.file c.args.u.now row image) (sym c.in-None.is ∙ c.line_at-line.ensures.line h refl))

pub returns-in-None-clause-items : goal.returns-in-None-clause-items
returns-in-None-clause-items g c =
    let image : Image = g.S.Space.image c.args.space.now in
    let row = c.args.row.now in
    let h : Handed = handed c.args.f.now c.args.u.now row image in
    took_given _ h c.args.entry c.args.at c.args.count c.args.now c.args.file.now (file_is c.args.f.now c.args.entry c.args.file.now c.requires.file c.args.u.now row image) (sym c.in-None.is ∙ c.line_at-line.ensures.line h refl)
