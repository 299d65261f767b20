use Rattle.std.proofs.Common.{◌||◌, Bool, List, Option, None, sym, ap, ◌∙◌, arith}
use Rattle.std.specs.List.{list_any}
use Rattle.std.proofs.lemmas.List.{take_all}
use Rattle.std.proofs.lemmas.List.Folds.{list_any_more}
use Rattle.open_files.specs.declared.file.OpenFile.{OpenFile}
use Rattle.open_files.specs.Files.{file_at}
use Rattle.sys_files.specs.Pipes.{is_end_of}
use Rattle.sys_files.proofs.descriptors.has_end.Goals as goal

pub loop-entry-preserved : goal.loop-entry-preserved
loop-entry-preserved c =
    let files : List (Option OpenFile) = c.args.table.now in
    let is : Option OpenFile → Bool = is_end_of c.args.ino in
    list_any_more is files c.loop-entry.entry None (omega (arith, c.see_entries.ensures, c.loop-entry-test.true))
    ∙ ap (λ b. b || is (file_at files c.loop-entry.entry)) c.loop-entry.invariant
    ∙ sym c.is_end_of.ensures ∙ c.if-is_end_of.false

pub returns : goal.returns
returns c =
    let files : List (Option OpenFile) = c.args.table.now in
    let is : Option OpenFile → Bool = is_end_of c.args.ino in
    sym c.loop-entry.invariant
    ∙ ap (list_any is) (take_all c.loop-entry.entry files (omega (arith, c.see_entries.ensures, c.loop-entry-test.false)))
