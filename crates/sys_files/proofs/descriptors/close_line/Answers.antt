use Rattle.std.proofs.Common.{List, true, ◌++◌, refl, sym, ap, ◌∙◌, subst}
use Rattle.v6_base.specs.Trace.{Took, sent}
use Rattle.v6_base.proofs.Took.{took_none, took_then}
use Rattle.tty_line.specs.Terminal.{Terminal}
use Rattle.tty_line.specs.Said as said
use Rattle.lines_eight.specs.Lines.{terminal_at}
use Rattle.lines_eight.specs.Told.{keys_of, show_of, wakes_if}
use Rattle.sys_files.specs.Handed.{Handed, handed}
use Rattle.sys_files.specs.Descriptors.{Closing, closes_line}
use Rattle.sys_files.proofs.ReleasedLemmas.{line_shut, line_stays}
use Rattle.sys_files.proofs.descriptors.close_line.Goals as goal

pub returns-in-None-clause-state : goal.returns-in-None-clause-state
returns-in-None-clause-state g c = λ u row image.
    let h : Handed = handed c.args.f.now u row image in
    ap (λ o. (closes_line h o).state) (sym c.in-None.is ∙ c.line_at.ensures.line h refl)

pub returns-in-None-clause-items : goal.returns-in-None-clause-items
returns-in-None-clause-items g c = λ u row image.
    let h : Handed = handed c.args.f.now u row image in
    subst (λ o. Took (g.T.Trace.taken c.args.trace.now) (closes_line h o).items (g.T.Trace.taken c.args.trace.now))
    (sym c.in-None.is ∙ c.line_at.ensures.line h refl) (took_none _)

pub returns-then-not-is_line_open-clause-state : goal.returns-then-not-is_line_open-clause-state
returns-then-not-is_line_open-clause-state g c = λ u row image.
    let h : Handed = handed c.args.f.now u row image in
    ap (λ (ts : List Terminal). record h { lines = ts }) c.closed-show.ensures.line
    ∙ ap (λ (k : Closing). k.state) (sym (line_shut h c.in-Some.line (sym (c.is_line_open.ensures u row image) ∙ c.if-not-is_line_open.true))
    ∙ ap (closes_line h) (sym c.in-Some.is ∙ c.line_at.ensures.line h refl))

pub returns-then-not-is_line_open-clause-items : goal.returns-then-not-is_line_open-clause-items
returns-then-not-is_line_open-clause-items g c = λ u row image.
    let h : Handed = handed c.args.f.now u row image in
    let l = c.in-Some.line in
    took_then _ _ _ _ _ _ c.closed-show.ensures.items c.tell_flushed.ensures.items
    (ap (λ show. sent l (said.closed (terminal_at c.args.f.now.lines l)).shown ++ (wakes_if true (keys_of l) ++ wakes_if show (show_of l))) c.closed-show.ensures.show
    ∙ ap (λ (k : Closing). k.items) (sym (line_shut h l (sym (c.is_line_open.ensures u row image) ∙ c.if-not-is_line_open.true))
    ∙ ap (closes_line h) (sym c.in-Some.is ∙ c.line_at.ensures.line h refl)))

pub returns-else-not-is_line_open-clause-state : goal.returns-else-not-is_line_open-clause-state
returns-else-not-is_line_open-clause-state g c = λ u row image.
    let h : Handed = handed c.args.f.now u row image in
    ap (λ (k : Closing). k.state) (sym (line_stays h c.in-Some.line (sym (c.is_line_open.ensures u row image) ∙ c.if-not-is_line_open.false))
    ∙ ap (closes_line h) (sym c.in-Some.is ∙ c.line_at.ensures.line h refl))

pub returns-else-not-is_line_open-clause-items : goal.returns-else-not-is_line_open-clause-items
returns-else-not-is_line_open-clause-items g c = λ u row image.
    let h : Handed = handed c.args.f.now u row image in
    subst (λ (k : Closing). Took (g.T.Trace.taken c.args.trace.now) k.items (g.T.Trace.taken c.args.trace.now))
    (sym (line_stays h c.in-Some.line (sym (c.is_line_open.ensures u row image) ∙ c.if-not-is_line_open.false))
    ∙ ap (closes_line h) (sym c.in-Some.is ∙ c.line_at.ensures.line h refl)) (took_none _)
