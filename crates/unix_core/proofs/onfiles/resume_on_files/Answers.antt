use Rattle.std.proofs.Common.{rules, ◌≡◌, ◌≤◌, ◌∙◌, ℕ, true, slice_index, refl, sym, ap, subst, arith}
use Rattle.std.specs.List.{All}
use Rattle.u_area.specs.declared.area.UArea.{UArea}
use Rattle.u_area.specs.Pending.{is_on_files}
use Rattle.image_keep.specs.Kept.{Kept, area_of, image_of, with_area}
use Rattle.lines_eight.specs.Lines.{HasRoom}
use Rattle.sys_files.specs.Handed.{Handed, handed}
use Rattle.sys_files.specs.Moving.{resumes}
use Rattle.sys_files.specs.Sound.{CanGoOn}
use Rattle.sys_files.proofs.Steady.{Confined, resume_confined}
use Rattle.sys_files.proofs.Walks.{CanResume}
use Rattle.unix_core.specs.declared.world.World.{World}
use Rattle.abstract_unix.specs.Unix.{process_of}
use Rattle.abstract_unix.proofs.PendingRows.{Pends, can_resume, resume_pends}
use Rattle.abstract_unix.proofs.GoingOnLemmas.{handed_goes_on, handed_pends}
use Rattle.unix_core.specs.Parts.{unix_of, IsReady}
use Rattle.unix_core.proofs.AreaLemmas.{own_area}
use Rattle.unix_core.proofs.WorldLemmas.{slot_is, is_living, sound_parts}
use Rattle.unix_core.proofs.LoanLemmas.{same_kept}
use Rattle.image_keep.proofs.Loans.{lent_back}
use Rattle.unix_core.proofs.LoanBack.{area_put, row_put}
use Rattle.unix_core.proofs.LeavingLemmas.{given, area_is, lends, lent_parts, call_done}
use Rattle.unix_core.proofs.onfiles.resume_on_files.Goals as goal

-- what is pending, of the process
pends_on : (w : World) (s : ℕ) → IsReady w s → is_on_files (area_of w.procs.images.kept s).pending ≡ true → is_on_files (process_of (unix_of w) s).u.pending ≡ true
pends_on w s ready is = ap (λ (u : UArea). is_on_files u.pending) (sym (own_area w s ready)) ∙ is

module _ (w : World) (s : ℕ) (ready : IsReady w s) (pending : is_on_files (area_of w.procs.images.kept s).pending ≡ true) where
  its_pends : Pends (given w s)
  its_pends = handed_pends (unix_of w) s ready.good.pending (slot_is w s ready) (is_living w s ready)

  -- its numbers of bytes are words
  module _ (room : All HasRoom w.files.lines) (u : UArea) (is : u ≡ area_of w.procs.images.kept s) (few : slice_index u.call 2 ≤ 65535) where
    can : CanResume (λ count. count ≤ 65535) (given w s)
    can =
        let any = can_resume (given w s) (pends_on w s ready pending) its_pends in
        let less : slice_index (given w s).u.call 2 ≤ 65535 = subst (λ (v : UArea). slice_index v.call 2 ≤ 65535) (area_is w s u ready is) few in
        record { calling = any.calling; pipe = any.pipe; few = omega (arith, less) }

    confined : Confined s (given w s) (resumes (given w s) s w.procs.table.now)
    confined = resume_confined (given w s) s w.procs.table.now room can

pub area-u-requires : goal.area-u-requires
area-u-requires c = c.requires.ready.good.running c.args.s c.requires.ready.runs c.requires.ready.user

pub space-space-requires : goal.space-space-requires
space-space-requires c = c.requires.ready.good.running c.args.s c.requires.ready.runs c.requires.ready.user

pub resume_file-answer-requires-clause-sound : goal.resume_file-answer-requires-clause-sound
resume_file-answer-requires-clause-sound c =
    let w : World = c.args.world.now in
    let parts : Handed = handed w.files c.area-u.result c.row.result.now (image_of c.space-space.result.images.now.kept c.space-space.result.slot) in
    let area = area_is w c.args.s c.area-u.result c.requires.ready c.area-u.ensures.u in
    sound_parts w c.args.s parts c.requires.ready c.see_table.ensures c.area-u.ensures.holds refl refl area refl refl refl

pub resume_file-answer-requires-clause-pending : goal.resume_file-answer-requires-clause-pending
resume_file-answer-requires-clause-pending c =
    let w : World = c.args.world.now in
    let ready = c.requires.ready in
    let lent = lends w c.args.s _ _ ready c.see.ensures c.area-u.ensures.sizes c.area-u.ensures.holds c.area-u.ensures.u c.row.ensures
    (same_kept c.space-space.ensures.images) c.space-space.ensures.slot in
    subst CanGoOn (sym (lent_parts w c.args.s lent))
    (handed_goes_on (unix_of w) c.args.s ready.good.pending (slot_is w c.args.s ready) (is_living w c.args.s ready) (pends_on w c.args.s ready c.requires.pending))

-- These follow from the images alone, whatever the loan says of itself.
pub set_area-requires : goal.set_area-requires
set_area-requires c =
    let w : World = c.args.world.now in
    let now : Kept = c.resume_file-answer.new.space.images.now.kept in
    let lent = lends w c.args.s _ _ c.requires.ready c.see.ensures c.area-u.ensures.sizes c.area-u.ensures.holds c.area-u.ensures.u c.row.ensures
    (same_kept c.space-space.ensures.images) c.space-space.ensures.slot in
    let back = lent_back w.procs.images.kept c.space-space.result.images.now.kept now c.args.s c.space-space.result.slot c.resume_file-answer.new.space.slot _ _
    (same_kept c.space-space.ensures.images) c.space-space.ensures.slot c.resume_file-answer.ensures.memory in
    let put = area_put w c.args.s lent (λ h. resumes h c.args.s w.procs.table.now) (confined w c.args.s c.requires.ready c.requires.pending c.see_lines.ensures c.area-u.result c.area-u.ensures.u c.see_words.ensures).steady
    c.resume_file-answer.new.f c.resume_file-answer.new.u c.resume_file-answer.new.row _ c.resume_file-answer.ensures.does.state now back in
    record { image = put.0; sizes = put.1 }

pub set_row-requires-clause-pid : goal.set_row-requires-clause-pid
set_row-requires-clause-pid c =
    let w : World = c.args.world.now in
    let lent = lends w c.args.s _ _ c.requires.ready c.see.ensures c.area-u.ensures.sizes c.area-u.ensures.holds c.area-u.ensures.u c.row.ensures
    (same_kept c.space-space.ensures.images) c.space-space.ensures.slot in
    (row_put w c.args.s lent (λ h. resumes h c.args.s w.procs.table.now) (confined w c.args.s c.requires.ready c.requires.pending c.see_lines.ensures c.area-u.result c.area-u.ensures.u c.see_words.ensures).steady
    c.resume_file-answer.new.f c.resume_file-answer.new.u c.resume_file-answer.new.row _ c.resume_file-answer.ensures.does.state).pid

pub set_row-requires-clause-ppid : goal.set_row-requires-clause-ppid
set_row-requires-clause-ppid c =
    let w : World = c.args.world.now in
    let lent = lends w c.args.s _ _ c.requires.ready c.see.ensures c.area-u.ensures.sizes c.area-u.ensures.holds c.area-u.ensures.u c.row.ensures
    (same_kept c.space-space.ensures.images) c.space-space.ensures.slot in
    (row_put w c.args.s lent (λ h. resumes h c.args.s w.procs.table.now) (confined w c.args.s c.requires.ready c.requires.pending c.see_lines.ensures c.area-u.result c.area-u.ensures.u c.see_words.ensures).steady
    c.resume_file-answer.new.f c.resume_file-answer.new.u c.resume_file-answer.new.row _ c.resume_file-answer.ensures.does.state).ppid

pub returns : goal.returns
returns c =
    let w : World = c.args.world.now in
    let now : Kept = c.resume_file-answer.new.space.images.now.kept in
    let lent = lends w c.args.s _ _ c.requires.ready c.see.ensures c.area-u.ensures.sizes c.area-u.ensures.holds c.area-u.ensures.u c.row.ensures
    (same_kept c.space-space.ensures.images) c.space-space.ensures.slot in
    let back = lent_back w.procs.images.kept c.space-space.result.images.now.kept now c.args.s c.space-space.result.slot c.resume_file-answer.new.space.slot _ _
    (same_kept c.space-space.ensures.images) c.space-space.ensures.slot c.resume_file-answer.ensures.memory in
    let done = call_done w c.args.s lent (λ h. resumes h c.args.s w.procs.table.now) (confined w c.args.s c.requires.ready c.requires.pending c.see_lines.ensures c.area-u.result c.area-u.ensures.u c.see_words.ensures)
    (resume_pends (given w c.args.s) c.args.s w.procs.table.now (pends_on w c.args.s c.requires.ready c.requires.pending)
    (handed_pends (unix_of w) c.args.s c.requires.ready.good.pending (slot_is w c.args.s c.requires.ready) (is_living w c.args.s c.requires.ready)))
    c.clear.new.self c.resume_file-answer.new.trace c.resume_file-answer.new.f c.resume_file-answer.new.u c.resume_file-answer.new.row _ c.resume_file-answer.ensures.does
    c.set_row.new.self c.set_area.new.self c.clear.ensures c.resume_file-answer.ensures.frame c.see_numbers.ensures c.set_row.ensures
    (c.set_area.ensures.kept ∙ ap (λ k. with_area k c.args.s c.resume_file-answer.new.u) back) in
    record { answer = done.answer; unix = done.unix; shown = done.shown; rest = search rules; slots = search rules }
