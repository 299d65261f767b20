use Rattle.std.proofs.Common.{◌∙◌, ◌+◌, ◌==◌, ℕ, ap, sym}
use Rattle.proc_tab.specs.declared.row.Row.{Row}
use Rattle.sys_procs.specs.declared.procs.Procs.{Procs}
use Rattle.sys_procs.specs.Signals.{has_line}
use Rattle.sys_procs.proofs.Slots.{own_row}
use Rattle.sys_procs.proofs.Signalled.{meant_not, meant_there}
use Rattle.sys_procs.proofs.signals.has_line.Goals as goal

pub returns-then-not-in_use-clause-meant : goal.returns-then-not-in_use-clause-meant
returns-then-not-in_use-clause-meant c = λ fs.
    sym (meant_not c.args.p.now fs c.args.s (has_line c.args.line) c.requires (sym c.in_use.ensures.used ∙ c.if-not-in_use.true))

pub returns-clause-meant : goal.returns-clause-meant
returns-clause-meant c = λ fs.
    let p : Procs = c.args.p.now in
    ap (λ (n : ℕ). n == c.from-2.result + 1) c.from.ensures
    ∙ ap (λ (n : ℕ). c.row.result.now.tty == n + 1) c.from-2.ensures
    ∙ ap (λ (r : Row). r.tty == c.args.line + 1) (c.row.ensures ∙ sym (own_row p.rows.slots p.images.kept c.args.s c.requires))
    ∙ sym (meant_there p fs c.args.s (has_line c.args.line) c.requires (sym c.in_use.ensures.used ∙ c.if-not-in_use.false))
