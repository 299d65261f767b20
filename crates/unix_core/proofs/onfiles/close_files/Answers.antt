use Rattle.std.proofs.Common.{rules, ◌∙◌, refl, sym}
use Rattle.v6_base.specs.Image.{Image}
use Rattle.v6_base.specs.declared.answer.Answer.TheVariants.{Ret}
use Rattle.proc_tab.specs.declared.row.Row.{Row}
use Rattle.proc_tab.specs.Processes.{row_at}
use Rattle.image_keep.specs.Kept.{image_of}
use Rattle.sys_files.specs.Handed.{handed}
use Rattle.unix_core.specs.declared.world.World.{World}
use Rattle.abstract_unix.specs.Unix.{process_of}
use Rattle.abstract_unix.proofs.PendingRows.{close_pends}
use Rattle.unix_core.specs.Parts.{unix_of}
use Rattle.unix_core.proofs.AreaLemmas.{none_pending}
use Rattle.unix_core.proofs.WorldLemmas.{sound_parts}
use Rattle.unix_core.proofs.LoanLemmas.{row_back, area_alone}
use Rattle.unix_core.proofs.LoanBack.{sizes_put}
use Rattle.unix_core.proofs.LeavingLemmas.{given, area_is, lends, call_done, closing, closing_confined}
use Rattle.unix_core.proofs.onfiles.close_files.Goals as goal

pub area-u-requires : goal.area-u-requires
area-u-requires c = c.requires.ready.good.running c.args.s c.requires.ready.runs c.requires.ready.user

pub close_all-requires : goal.close_all-requires
close_all-requires c =
    let w : World = c.args.world.now in
    let area = area_is w c.args.s c.area-u.result c.requires.ready c.area-u.ensures.u in
    record {
      sound = λ row image.
          sound_parts w c.args.s (handed w.files c.area-u.result row image) c.requires.ready c.see_table.ensures
          c.area-u.ensures.holds refl refl area refl refl refl;
    }

pub set_area-requires : goal.set_area-requires
set_area-requires c =
    let w : World = c.args.world.now in
    let row : Row = row_at w.procs.rows c.args.s in
    let image : Image = image_of w.procs.images.kept c.args.s in
    let lent = lends w c.args.s {r = row} w.procs.images.kept c.args.s c.requires.ready c.see.ensures c.area-u.ensures.sizes c.area-u.ensures.holds c.area-u.ensures.u refl refl refl in
    record {
      image = c.requires.ready.good.running c.args.s c.requires.ready.runs c.requires.ready.user;
      sizes = sizes_put w c.args.s lent closing (closing_confined c.args.s (given w c.args.s) c.see_lines.ensures).steady c.close_all.new.f c.close_all.new.u row image (c.close_all.ensures.state row image);
    }

pub returns : goal.returns
returns c =
    let w : World = c.args.world.now in
    let row : Row = row_at w.procs.rows c.args.s in
    let image : Image = image_of w.procs.images.kept c.args.s in
    let lent = lends w c.args.s {r = row} w.procs.images.kept c.args.s c.requires.ready c.see.ensures c.area-u.ensures.sizes c.area-u.ensures.holds c.area-u.ensures.u refl refl refl in
    let done = call_done w c.args.s lent closing (closing_confined c.args.s (given w c.args.s) c.see_lines.ensures)
    (close_pends (given w c.args.s) (none_pending (process_of (unix_of w) c.args.s) c.requires.user)) c.clear.new.self c.close_all.new.trace c.close_all.new.f c.close_all.new.u row image
    {a = Ret 0 0}
    (record {
      answer = refl;
      state = c.close_all.ensures.state row image;
      items = c.close_all.ensures.items row image;
      kept = c.close_all.ensures.kept row image;
    }) w.procs.rows c.set_area.new.self c.clear.ensures c.close_all.ensures.frame c.see_numbers.ensures
    (sym (row_back w.procs.rows c.args.s)) (c.set_area.ensures.kept ∙ area_alone w.procs.images.kept c.args.s c.close_all.new.u) in
    record { unix = done.unix; shown = done.shown; rest = search rules; slots = search rules }
