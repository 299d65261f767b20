use Rattle.std.proofs.Common.{refl, sym, ap, ◌∙◌}
use Rattle.sys_files.specs.Handed.{Handed, handed}
use Rattle.sys_files.specs.Descriptors.{is_number, is_of_line}
use Rattle.sys_files.proofs.descriptors.is_of_line.Goals as goal

pub returns-in-Some : goal.returns-in-Some
returns-in-Some c = λ u row image.
    let h : Handed = handed c.args.f.now u row image in
    ap (is_number c.args.line) (sym c.in-Some.is ∙ c.line_at.ensures.line h refl) ∙ ap (is_of_line h c.args.line) (sym c.file.ensures)

pub returns-in-None : goal.returns-in-None
returns-in-None c = λ u row image.
    let h : Handed = handed c.args.f.now u row image in
    ap (is_number c.args.line) (sym c.in-None.is ∙ c.line_at.ensures.line h refl) ∙ ap (is_of_line h c.args.line) (sym c.file.ensures)
