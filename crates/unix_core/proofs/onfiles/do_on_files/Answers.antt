use Rattle.std.proofs.Common.{rules, ◌∙◌, ℕ, refl, sym, ap}
use Rattle.image_keep.specs.Kept.{Kept, area_of, image_of, with_area}
use Rattle.image_keep.proofs.Frames.{with_image_area}
use Rattle.sys_files.specs.Handed.{Handed, handed}
use Rattle.abstract_unix.specs.Calls.{file_row}
use Rattle.abstract_unix.specs.Unix.{process_of}
use Rattle.abstract_unix.proofs.FileRows.{row_confined}
use Rattle.abstract_unix.proofs.PendingRows.{row_pends}
use Rattle.unix_core.specs.declared.world.World.{World}
use Rattle.unix_core.specs.Parts.{unix_of}
use Rattle.unix_core.proofs.AreaLemmas.{none_pending}
use Rattle.unix_core.proofs.WorldLemmas.{sound_parts}
use Rattle.unix_core.proofs.LoanLemmas.{same_kept}
use Rattle.image_keep.proofs.Loans.{lent_back}
use Rattle.unix_core.proofs.LoanBack.{area_put, row_put}
use Rattle.unix_core.proofs.LeavingLemmas.{given, area_is, lends, call_done}
use Rattle.unix_core.proofs.onfiles.do_on_files.Goals as goal

pub do_file_call-answer-requires : goal.do_file_call-answer-requires
do_file_call-answer-requires c =
    let w : World = c.args.world.now in
    let s : ℕ = c.args.fixed.now.slot in
    let parts : Handed = handed w.files c.area_at-u.result c.row.result.now (image_of c.space_at-space.result.images.now.kept c.space_at-space.result.slot) in
    let area = area_is w s c.area_at-u.result c.requires.ready c.area_at-u.ensures.u in
    record { sound = sound_parts w s parts c.requires.ready c.see_table.ensures c.area_at-u.ensures.holds refl refl area refl refl refl }

-- These follow from the images alone, whatever the loan says of itself.
pub put_back-requires : goal.put_back-requires
put_back-requires c =
    let w : World = c.args.world.now in
    let s : ℕ = c.args.fixed.now.slot in
    let now : Kept = c.do_file_call-answer.new.space.images.now.kept in
    let lent = lends w s _ _ c.requires.ready c.see.ensures c.area_at-u.ensures.sizes c.area_at-u.ensures.holds c.area_at-u.ensures.u c.row.ensures
    (same_kept c.space_at-space.ensures.images) c.space_at-space.ensures.slot in
    let back = lent_back w.procs.images.kept c.space_at-space.result.images.now.kept now s c.space_at-space.result.slot c.do_file_call-answer.new.space.slot _ _
    (same_kept c.space_at-space.ensures.images) c.space_at-space.ensures.slot c.do_file_call-answer.ensures.memory in
    let put = area_put w s lent (λ h. file_row c.args.call h s c.args.args w.procs.table.now) (row_confined c.args.call (given w s) s c.args.args w.procs.table.now c.see_count.ensures c.see_lines.ensures).steady
    c.do_file_call-answer.new.files c.do_file_call-answer.new.u c.do_file_call-answer.new.row _ c.do_file_call-answer.ensures.does.state now back in
    let parts : Handed = handed w.files c.area_at-u.result c.row.result.now (image_of c.space_at-space.result.images.now.kept c.space_at-space.result.slot) in
    let did = c.do_file_call-answer.ensures.does in
    record {
      image = put.0;
      sizes = put.1;
      still = λ none. ap (λ (h : Handed). h.u) did.state
          ∙ (c.changes_area.ensures none parts s c.args.args w.procs.table.now (sym did.answer)
          ∙ (c.area_at-u.ensures.u ∙ sym (ap (λ (k : Kept). area_of k s) back ∙ with_image_area w.procs.images.kept s s (image_of now c.do_file_call-answer.new.space.slot))));
    }

pub set_row-requires-clause-pid : goal.set_row-requires-clause-pid
set_row-requires-clause-pid c =
    let w : World = c.args.world.now in
    let s : ℕ = c.args.fixed.now.slot in
    let lent = lends w s _ _ c.requires.ready c.see.ensures c.area_at-u.ensures.sizes c.area_at-u.ensures.holds c.area_at-u.ensures.u c.row.ensures
    (same_kept c.space_at-space.ensures.images) c.space_at-space.ensures.slot in
    (row_put w s lent (λ h. file_row c.args.call h s c.args.args w.procs.table.now) (row_confined c.args.call (given w s) s c.args.args w.procs.table.now c.see_count.ensures c.see_lines.ensures).steady
    c.do_file_call-answer.new.files c.do_file_call-answer.new.u c.do_file_call-answer.new.row _ c.do_file_call-answer.ensures.does.state).pid

pub set_row-requires-clause-ppid : goal.set_row-requires-clause-ppid
set_row-requires-clause-ppid c =
    let w : World = c.args.world.now in
    let s : ℕ = c.args.fixed.now.slot in
    let lent = lends w s _ _ c.requires.ready c.see.ensures c.area_at-u.ensures.sizes c.area_at-u.ensures.holds c.area_at-u.ensures.u c.row.ensures
    (same_kept c.space_at-space.ensures.images) c.space_at-space.ensures.slot in
    (row_put w s lent (λ h. file_row c.args.call h s c.args.args w.procs.table.now) (row_confined c.args.call (given w s) s c.args.args w.procs.table.now c.see_count.ensures c.see_lines.ensures).steady
    c.do_file_call-answer.new.files c.do_file_call-answer.new.u c.do_file_call-answer.new.row _ c.do_file_call-answer.ensures.does.state).ppid

pub returns : goal.returns
returns c =
    let w : World = c.args.world.now in
    let s : ℕ = c.args.fixed.now.slot in
    let now : Kept = c.do_file_call-answer.new.space.images.now.kept in
    let lent = lends w s _ _ c.requires.ready c.see.ensures c.area_at-u.ensures.sizes c.area_at-u.ensures.holds c.area_at-u.ensures.u c.row.ensures
    (same_kept c.space_at-space.ensures.images) c.space_at-space.ensures.slot in
    let back = lent_back w.procs.images.kept c.space_at-space.result.images.now.kept now s c.space_at-space.result.slot c.do_file_call-answer.new.space.slot _ _
    (same_kept c.space_at-space.ensures.images) c.space_at-space.ensures.slot c.do_file_call-answer.ensures.memory in
    let done = call_done w s lent (λ h. file_row c.args.call h s c.args.args w.procs.table.now) (row_confined c.args.call (given w s) s c.args.args w.procs.table.now c.see_count.ensures c.see_lines.ensures)
    (row_pends c.args.call (given w s) s c.args.args w.procs.table.now (none_pending (process_of (unix_of w) s) c.requires.user))
    c.clear.new.self c.do_file_call-answer.new.trace c.do_file_call-answer.new.files c.do_file_call-answer.new.u c.do_file_call-answer.new.row _ c.do_file_call-answer.ensures.does
    c.set_row.new.self c.put_back.new.images c.clear.ensures c.do_file_call-answer.ensures.frame c.see_numbers.ensures c.set_row.ensures
    (c.put_back.ensures ∙ ap (λ k. with_area k s c.do_file_call-answer.new.u) back) in
    record { answer = done.answer; unix = done.unix; shown = done.shown; rest = search rules; slots = search rules }
