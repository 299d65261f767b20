use Rattle.std.proofs.Common.{◌||◌, Bool, List, Option, None, sym, ap, ◌∙◌, arith}
use Rattle.std.specs.List.{list_any}
use Rattle.std.proofs.lemmas.List.{take_all}
use Rattle.std.proofs.lemmas.List.Folds.{list_any_more}
use Rattle.open_files.specs.declared.file.OpenFile.{OpenFile}
use Rattle.open_files.specs.Files.{file_at}
use Rattle.sys_files.specs.Handed.{handed}
use Rattle.sys_files.specs.Descriptors.{is_of_line}
use Rattle.sys_files.proofs.descriptors.is_line_open.Goals as goal

pub loop-entry-preserved : goal.loop-entry-preserved
loop-entry-preserved c = λ u row image.
    let files : List (Option OpenFile) = c.args.f.now.table in
    let is : Option OpenFile → Bool = is_of_line (handed c.args.f.now u row image) c.args.line in
    list_any_more is files c.loop-entry.entry None (omega (arith, c.see_entries.ensures, c.loop-entry-test.true))
    ∙ ap (λ b. b || is (file_at files c.loop-entry.entry)) (c.loop-entry.invariant u row image)
    ∙ sym (c.is_of_line.ensures u row image) ∙ c.if-is_of_line.false

pub returns : goal.returns
returns c = λ u row image.
    let files : List (Option OpenFile) = c.args.f.now.table in
    let is : Option OpenFile → Bool = is_of_line (handed c.args.f.now u row image) c.args.line in
    sym (c.loop-entry.invariant u row image)
    ∙ ap (list_any is) (take_all c.loop-entry.entry files (omega (arith, c.see_entries.ensures, c.loop-entry-test.false)))
