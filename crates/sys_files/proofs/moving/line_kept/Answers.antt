use Rattle.std.proofs.Common.{◌<◌, ◌≤◌, ℕ, Option, Some, None, IfSome, length, unwrap_or, sym, ap, ◌∙◌, subst, arith}
use Rattle.open_files.specs.declared.file.OpenFile.{OpenFile}
use Rattle.open_files.specs.Files.{file_at}
use Rattle.sys_files.specs.Handed.{line_of, node_in, no_file}
use Rattle.sys_files.proofs.moving.line_kept.Goals as goal

low_by : (o : Option ℕ) (n : ℕ) → IfSome o (λ l. l < n) → 1 ≤ n → unwrap_or o 0 < n
low_by (Some l) n low some = low
low_by None n low some = omega (arith, some)

pub line_at-requires : goal.line_at-requires
line_at-requires c = record { referenced = c.requires.referred c.file.result.now c.file.ensures }

pub returns-clause-line : goal.returns-clause-line
returns-clause-line c h files_same lines_same store_same =
    c.unwrap_or.ensures
    ∙ ap (λ o. unwrap_or o 0) (c.line_at.ensures.line h lines_same
    ∙ ap (λ (o : Option OpenFile). line_of h (node_in c.args.f.now.tree.nodes.store (unwrap_or o no_file).ino)) (sym c.file.ensures)
    ∙ sym (λ i. line_of h (node_in (store_same i) (unwrap_or (file_at (files_same i) c.args.entry) no_file).ino)))

pub returns-clause-there : goal.returns-clause-there
returns-clause-there c =
    let count : ℕ = length c.args.f.now.lines in
    subst (λ l. l < count) (sym c.unwrap_or.ensures) (low_by c.line_at.result count c.line_at.ensures.there c.line_at.ensures.some)
