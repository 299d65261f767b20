use Rattle.std.proofs.Common.{◌+◌, ℕ, List, Option, Some, slice_set, refl, ap, ◌∙◌}
use Rattle.open_files.specs.declared.file.OpenFile.{OpenFile}
use Rattle.open_files.specs.Files.{opened}
use Rattle.sys_files.specs.Handed.{handed}
use Rattle.sys_files.specs.Piping.{reading_end, writing_end}
use Rattle.sys_files.proofs.AreaLemmas.{numbers_changed}
use Rattle.sys_files.proofs.PipeOpeningLemmas.{ends_opened, second_refused, first_undone}
use Rattle.sys_files.proofs.piping.add_ends.Goals as goal

pub returns-in-Ok-clause-outcome : goal.returns-in-Ok-clause-outcome
returns-in-Ok-clause-outcome c =
    let a = c.in_ok-reading.ensures in
    let b = c.in-Ok.ensures in
    let numbers = b.4 ∙ ap (λ l. slice_set l c.in-Ok.writing (b.1 + 1)) a.4 in (
      a.1,
      b.1,
      b.3 ∙ ap (λ (l : List (Option OpenFile)). slice_set l b.1 (Some (opened c.args.ino writing_end))) a.3,
      numbers_changed c.args.u.now _ _ ∙ ap (λ (l : List ℕ). record c.args.u.now { files = l }) numbers,
      λ row image. ends_opened (handed c.args.f.now c.args.u.now row image) c.args.ino c.in_ok-reading.reading a.1
          c.add.new.self c.add.new.mine
          a.0 a.2 a.3 a.4 c.in-Ok.writing b.1 b.0 b.2,
    )

pub returns-in-Err-clause-outcome : goal.returns-in-Err-clause-outcome
returns-in-Err-clause-outcome c =
    let a = c.in_ok-reading.ensures in
    let none = c.in-Err.ensures in
    let back = first_undone c.args.f.now.table c.add.new.self c.add-2.new.self c.drop_one.new.self c.args.u.now.files
    c.add.new.mine c.add-2.new.mine c.drop_one.new.mine (opened c.args.ino reading_end) c.in_ok-reading.reading
    c.from.result c.drop_one.result refl a none.1 none.2 c.from.ensures c.drop_one.ensures in (
      back.0,
      numbers_changed c.args.u.now _ _ ∙ ap (λ (l : List ℕ). record c.args.u.now { files = l }) back.1,
      λ row image. second_refused (handed c.args.f.now c.args.u.now row image) c.args.ino c.in_ok-reading.reading a.1
          c.add.new.self c.add.new.mine a.0 a.2 a.3 a.4 c.in-Err.e none.0,
    )
