use Rattle.std.proofs.Common.{◌∙◌, ◌++◌, ◌∷◌, [], length-append, sym, arith}
use Rattle.std.proofs.lemmas.Bool.{eqb-true}
use Rattle.v6_run.specs.Audit.{Closes}
use Rattle.v6_run.specs.Logs.{ended_lines}
use Rattle.v6_run.proofs.ReadLines.{closed, unclosed, no_items}
use Rattle.v6_run.proofs.FaultLemmas.{sums_close, fault_closes}
use Rattle.v6_run.proofs.ResultLemmas.{error_where_err, result_passed}
use Rattle.v6_run.proofs.AuditLemmas.{not_none}
use Rattle.v6_run.proofs.audit.Reading.close.Goals as goal

pub returns-then-is_empty : goal.returns-then-is_empty
returns-then-is_empty c front h =
    sums_close front (ended_lines front) c.sum.result (closed front c.args.self.now h (no_items c.args.self.now.line.items (eqb-true _ _ (sym c.is_empty.ensures ∙ c.if-is_empty.true)))) (c.sum.ensures front h)

pub sum-requires-2 : goal.sum-requires-2
sum-requires-2 c =
    let front = c.requires.0 in
    let l = c.requires.2 in
    let a = length-append front (10 ∷ []) in
    (front ++ 10 ∷ [], c.in_ok-end_line.ensures.read front c.requires.1, omega (arith, a, l))

pub returns-in_err-end_line : goal.returns-in_err-end_line
returns-in_err-end_line c front h =
    result_passed (Closes front) _ _ c.from_residual.ensures.1
    (fault_closes front _ (unclosed front c.args.self.now h (not_none c.args.self.now.line.items (sym c.is_empty.ensures ∙ c.if-is_empty.false)))
    (error_where_err _ _ _ c.in_err-end_line.was c.end_line.ensures.fault front h))

pub returns : goal.returns
returns c front h =
    sums_close front (ended_lines (front ++ 10 ∷ [])) c.sum-2.result (unclosed front c.args.self.now h (not_none c.args.self.now.line.items (sym c.is_empty.ensures ∙ c.if-is_empty.false)))
    (c.sum-2.ensures (front ++ 10 ∷ []) (c.in_ok-end_line.ensures.read front h))
