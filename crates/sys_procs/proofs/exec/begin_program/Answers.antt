use Rattle.std.proofs.Common.{◌≡◌, ◌∙◌, ℕ, Result, Err, sym, ap, subst}
use Rattle.v6_base.specs.Trace.{Taken}
use Rattle.std.proofs.lemmas.Result.{err_from_is_err_and}
use Rattle.proc_tab.specs.declared.row.Row.{Row}
use Rattle.v6_base.specs.declared.entry.PanicKind.{PanicKind}
use Rattle.fs_nodes.specs.FileSystem.{FileSystem}
use Rattle.sys_procs.specs.declared.procs.Procs.{Procs}
use Rattle.sys_procs.specs.Process.{Process}
use Rattle.sys_procs.specs.TextTable.{marks_of}
use Rattle.sys_procs.specs.ExecFile.{data_clicks, begins_anew}
use Rattle.sys_procs.specs.inside.Begun.{takes_image}
use Rattle.sys_procs.specs.Handed.{handed}
use Rattle.sys_procs.specs.Done.{HasDone, HasEnded}
use Rattle.sys_procs.proofs.BegunProgram.{stopped_first, referenced_still, clicks_are, stopped_second, image_here, row_still, program_begins, texts_still, unread_still}
use Rattle.sys_procs.proofs.TakenText.{stopped_by}
use Rattle.sys_procs.proofs.exec.begin_program.Goals as goal

pub returns-in_err-new-clause-does : goal.returns-in_err-new-clause-does
returns-in_err-new-clause-does g c = λ v row area.
    let p : Procs = c.args.p.now in
    let given = err_from_is_err_and c.from_residual.result c.from_residual.ensures.1 in
    subst (λ r. HasDone p c.take_text.new.p c.take_text.new.tree.nodes r (g.T.Trace.taken c.args.trace.now)
    (g.T.Trace.taken c.take_text.new.trace) (begins_anew (handed p c.args.tree.now.nodes) c.args.s v c.args.program.now))
    (sym (given.1 ∙ ap (λ (k : PanicKind). Err k) given.2))
    (stopped_first p c.take_text.new.p c.args.tree.now.nodes c.take_text.new.tree.nodes c.args.s c.args.program.now
    c.requires.bare v
    c.in_err-new.field-0.0 (stopped_by _ _ c.in_err-new.field-0.0 c.in_err-new.ensures.answer) c.in_err-new.ensures.left)

pub place_image-requires-clause-clicks : goal.place_image-requires-clause-clicks
place_image-requires-clause-clicks g c =
    clicks_are c.args.p.now c.take_text.new.p c.args.tree.now.nodes c.take_text.new.tree.nodes c.args.s c.args.program.now
    c.requires.bare
    c.in_ok-new.new c.in_ok-new.ensures.answer c.in_ok-new.ensures.left c.see_texts.ensures.long c.in_ok-new.ensures.bare
    c.requires.none
    c.requires.tested.shared c.in_ok-new.ensures.new c.in_ok-new.ensures.unread

-- what the placing of the image comes to, for the clicks of the program's data
ended_is : {q r : Procs} {result : Result (Unit {0}) PanicKind} {start end : Taken} (fs : FileSystem) (s size : ℕ) {n m : ℕ} → n
    ≡ m
    → ((fs : FileSystem) → HasEnded q r fs result start end (takes_image (handed q fs) s size n))
    → HasEnded q r fs result start end (takes_image (handed q fs) s size m)
ended_is {q} {r} {result} {start} {end} fs s size {n} {m} same does =
    subst (λ k. HasEnded q r fs result start end (takes_image (handed q fs) s size k)) same (does fs)

pub returns-in_err-place_image-clause-does : goal.returns-in_err-place_image-clause-does
returns-in_err-place_image-clause-does g c = λ v row area.
    let p : Procs = c.args.p.now in
    let given = err_from_is_err_and c.from_residual-in_err-place_image.result c.from_residual-in_err-place_image.ensures.1 in
    subst (λ r. HasDone p c.place_image.new.p c.take_text.new.tree.nodes r (g.T.Trace.taken c.args.trace.now)
    (g.T.Trace.taken c.place_image.new.trace) (begins_anew (handed p c.args.tree.now.nodes) c.args.s v c.args.program.now))
    (sym (given.1 ∙ ap (λ (k : PanicKind). Err k) given.2))
    (stopped_second c.args.p.now c.take_text.new.p c.args.tree.now.nodes c.take_text.new.tree.nodes c.args.s c.args.program.now
    c.requires.bare c.in_ok-new.new c.in_ok-new.ensures.answer c.in_ok-new.ensures.left
    c.place_image.new.p v c.in_err-place_image.field-0.0
    (ended_is c.take_text.new.tree.nodes c.args.s c.args.program.now.text_clicks c.data_clicks.ensures.clicks
    c.in_err-place_image.ensures.does))

pub returns-in_err-place_image-clause-frame : goal.returns-in_err-place_image-clause-frame
returns-in_err-place_image-clause-frame g c =
    g.met.T.Trace.goes_on c.args.trace.now c.take_text.new.trace c.place_image.new.trace c.take_text.ensures.frame
    c.place_image.ensures.frame

pub returns-in_err-place_image-clause-marks : goal.returns-in_err-place_image-clause-marks
returns-in_err-place_image-clause-marks g c =
    c.take_text.ensures.marks
    ∙ sym (ap (λ texts. marks_of texts)
    (texts_still (handed c.take_text.new.p c.take_text.new.tree.nodes) c.args.s c.args.program.now.text_clicks
    (data_clicks c.args.program.now.plan)
    (ended_is c.take_text.new.tree.nodes c.args.s c.args.program.now.text_clicks c.data_clicks.ensures.clicks
    c.in_err-place_image.ensures.does)))

pub fill_program-requires-clause-unread : goal.fill_program-requires-clause-unread
fill_program-requires-clause-unread g c =
    unread_still c.take_text.new.p.images.kept c.place_image.new.p.images.kept c.args.program.now.text_clicks c.in_ok-new.new
    c.place_image.ensures.stays
    c.in_ok-new.ensures.unread

pub fill_program-requires-clause-referenced : goal.fill_program-requires-clause-referenced
fill_program-requires-clause-referenced g c =
    referenced_still c.args.p.now c.take_text.new.p c.args.tree.now.nodes c.take_text.new.tree.nodes c.args.s c.args.program.now
    c.requires.bare c.in_ok-new.new c.in_ok-new.ensures.answer c.in_ok-new.ensures.left
    c.requires.tested.referenced

pub fill_program-requires-clause-zeros : goal.fill_program-requires-clause-zeros
fill_program-requires-clause-zeros g c =
    ap (λ (q : Process). q.data)
    (image_here c.args.p.now c.take_text.new.p c.args.tree.now.nodes c.take_text.new.tree.nodes c.args.s c.args.program.now
    c.requires.bare c.in_ok-new.new c.in_ok-new.ensures.answer c.in_ok-new.ensures.left
    c.place_image.new.p tt
    (ended_is c.take_text.new.tree.nodes c.args.s c.args.program.now.text_clicks c.data_clicks.ensures.clicks
    c.in_ok-place_image.ensures.does))

pub fill_program-requires-clause-stack : goal.fill_program-requires-clause-stack
fill_program-requires-clause-stack g c =
    ap (λ (q : Process). q.stack)
    (image_here c.args.p.now c.take_text.new.p c.args.tree.now.nodes c.take_text.new.tree.nodes c.args.s c.args.program.now
    c.requires.bare c.in_ok-new.new c.in_ok-new.ensures.answer c.in_ok-new.ensures.left
    c.place_image.new.p tt
    (ended_is c.take_text.new.tree.nodes c.args.s c.args.program.now.text_clicks c.data_clicks.ensures.clicks
    c.in_ok-place_image.ensures.does))

pub fill_program-requires-clause-here : goal.fill_program-requires-clause-here
fill_program-requires-clause-here g c =
    ap (λ (q : Process). q.u.text_size)
    (image_here c.args.p.now c.take_text.new.p c.args.tree.now.nodes c.take_text.new.tree.nodes c.args.s c.args.program.now
    c.requires.bare c.in_ok-new.new c.in_ok-new.ensures.answer c.in_ok-new.ensures.left
    c.place_image.new.p tt
    (ended_is c.take_text.new.tree.nodes c.args.s c.args.program.now.text_clicks c.data_clicks.ensures.clicks
    c.in_ok-place_image.ensures.does))

pub fill_program-requires-clause-pid : goal.fill_program-requires-clause-pid
fill_program-requires-clause-pid g c =
    c.requires.pid ∙ ap (λ (row : Row). row.pid)
    (row_still c.args.p.now c.take_text.new.p c.args.tree.now.nodes c.take_text.new.tree.nodes c.args.s c.args.program.now
    c.requires.bare c.in_ok-new.new c.in_ok-new.ensures.answer c.in_ok-new.ensures.left
    c.place_image.new.p tt
    (ended_is c.take_text.new.tree.nodes c.args.s c.args.program.now.text_clicks c.data_clicks.ensures.clicks
    c.in_ok-place_image.ensures.does))

pub fill_program-requires-clause-ppid : goal.fill_program-requires-clause-ppid
fill_program-requires-clause-ppid g c =
    c.requires.ppid ∙ ap (λ (row : Row). row.ppid)
    (row_still c.args.p.now c.take_text.new.p c.args.tree.now.nodes c.take_text.new.tree.nodes c.args.s c.args.program.now
    c.requires.bare c.in_ok-new.new c.in_ok-new.ensures.answer c.in_ok-new.ensures.left
    c.place_image.new.p tt
    (ended_is c.take_text.new.tree.nodes c.args.s c.args.program.now.text_clicks c.data_clicks.ensures.clicks
    c.in_ok-place_image.ensures.does))

pub fill_program-requires-clause-text_size : goal.fill_program-requires-clause-text_size
fill_program-requires-clause-text_size g c =
    c.requires.text_size ∙ sym (ap (λ (q : Process). q.u.text_size)
    (image_here c.args.p.now c.take_text.new.p c.args.tree.now.nodes c.take_text.new.tree.nodes c.args.s c.args.program.now
    c.requires.bare c.in_ok-new.new c.in_ok-new.ensures.answer c.in_ok-new.ensures.left
    c.place_image.new.p tt
    (ended_is c.take_text.new.tree.nodes c.args.s c.args.program.now.text_clicks c.data_clicks.ensures.clicks
    c.in_ok-place_image.ensures.does)))

pub fill_program-requires-clause-data_size : goal.fill_program-requires-clause-data_size
fill_program-requires-clause-data_size g c =
    c.requires.data_size ∙ sym (ap (λ (q : Process). q.u.data_size)
    (image_here c.args.p.now c.take_text.new.p c.args.tree.now.nodes c.take_text.new.tree.nodes c.args.s c.args.program.now
    c.requires.bare c.in_ok-new.new c.in_ok-new.ensures.answer c.in_ok-new.ensures.left
    c.place_image.new.p tt
    (ended_is c.take_text.new.tree.nodes c.args.s c.args.program.now.text_clicks c.data_clicks.ensures.clicks
    c.in_ok-place_image.ensures.does)))

pub fill_program-requires-clause-stack_size : goal.fill_program-requires-clause-stack_size
fill_program-requires-clause-stack_size g c =
    c.requires.stack_size ∙ sym (ap (λ (q : Process). q.u.stack_size)
    (image_here c.args.p.now c.take_text.new.p c.args.tree.now.nodes c.take_text.new.tree.nodes c.args.s c.args.program.now
    c.requires.bare c.in_ok-new.new c.in_ok-new.ensures.answer c.in_ok-new.ensures.left
    c.place_image.new.p tt
    (ended_is c.take_text.new.tree.nodes c.args.s c.args.program.now.text_clicks c.data_clicks.ensures.clicks
    c.in_ok-place_image.ensures.does)))

pub returns-clause-does : goal.returns-clause-does
returns-clause-does g c = λ v row area.
    program_begins c.args.p.now c.take_text.new.p c.args.tree.now.nodes c.take_text.new.tree.nodes c.args.s c.args.program.now
    c.requires.bare c.in_ok-new.new c.in_ok-new.ensures.answer c.in_ok-new.ensures.left
    c.place_image.new.p tt
    (ended_is c.take_text.new.tree.nodes c.args.s c.args.program.now.text_clicks c.data_clicks.ensures.clicks
    c.in_ok-place_image.ensures.does)
    c.fill_program.new.p c.fill_program.new.tree.nodes c.args.row c.args.u.now v
    (c.see.ensures.used c.args.program.now.ino c.requires.tested.referenced) row area c.fill_program.ensures.state
    c.fill_program.ensures.board

pub returns-clause-frame : goal.returns-clause-frame
returns-clause-frame g c =
    g.met.T.Trace.goes_on c.args.trace.now c.take_text.new.trace c.place_image.new.trace c.take_text.ensures.frame
    c.place_image.ensures.frame

pub returns-clause-marks : goal.returns-clause-marks
returns-clause-marks g c =
    c.fill_program.ensures.marks
    ∙ (c.take_text.ensures.marks
    ∙ (sym (ap (λ texts. marks_of texts)
    (texts_still (handed c.take_text.new.p c.take_text.new.tree.nodes) c.args.s c.args.program.now.text_clicks
    (data_clicks c.args.program.now.plan)
    (ended_is c.take_text.new.tree.nodes c.args.s c.args.program.now.text_clicks c.data_clicks.ensures.clicks
    c.in_ok-place_image.ensures.does)))
    ∙ sym c.fill_program.ensures.marked))
