use Rattle.std.proofs.Common.{◌≡◌, ◌==◌, ℕ, false, List, slice_index, sym, ap, ◌∙◌, subst}
use Rattle.std.proofs.lemmas.Bool.{eq-eqb, ne_eqb}
use Rattle.v6_base.specs.Trace.{Took}
use Rattle.v6_base.proofs.Took.{took_none}
use Rattle.u_area.specs.declared.layout.TheConstants.{LINE_READ}
use Rattle.sys_files.specs.Handed.{Handed}
use Rattle.sys_files.specs.Did.{Did}
use Rattle.sys_files.specs.Moving.{reads_line, writes_line, line_kept, goes_on_line}
use Rattle.sys_files.proofs.WriteLemmas.{lined_on}
use Rattle.sys_files.proofs.moving.resume_line.Goals as goal

-- the call that goes on, by its number and by its line
read_on : (h : Handed) (pending l : ℕ) (call : List ℕ) → pending ≡ LINE_READ → l ≡ line_kept h (slice_index call 0)
    → reads_line h l (slice_index call 0) (slice_index call 1) (slice_index call 2) ≡ goes_on_line h pending call
read_on h pending l call is kept =
    ap (λ n. reads_line h n (slice_index call 0) (slice_index call 1) (slice_index call 2)) kept
    ∙ sym (ap (lined_on h (line_kept h (slice_index call 0)) call) (eq-eqb pending LINE_READ is))

write_on : (h : Handed) (pending l : ℕ) (call : List ℕ) → (pending == LINE_READ) ≡ false → l ≡ line_kept h (slice_index call 0)
    → writes_line h l (slice_index call 0) (slice_index call 1) (slice_index call 2) (slice_index call 3) ≡ goes_on_line h pending call
write_on h pending l call other kept =
    ap (λ n. writes_line h n (slice_index call 0) (slice_index call 1) (slice_index call 2) (slice_index call 3)) kept
    ∙ sym (ap (lined_on h (line_kept h (slice_index call 0)) call) other)

pub returns-then-pending-eq-LINE_READ-clause-answer : goal.returns-then-pending-eq-LINE_READ-clause-answer
returns-then-pending-eq-LINE_READ-clause-answer g c h u_same row_same files_same lines_same store_same image_same =
    sym (ap (λ (d : Did). d.answer) (sym (read_on h c.args.pending c.line_kept-l.result c.args.call c.if-pending-eq-LINE_READ.true
    (c.line_kept-l.ensures.line h files_same lines_same store_same)) ∙ c.read_line.ensures.did h lines_same u_same row_same image_same))

pub returns-then-pending-eq-LINE_READ-clause-state : goal.returns-then-pending-eq-LINE_READ-clause-state
returns-then-pending-eq-LINE_READ-clause-state g c h u_same row_same files_same lines_same store_same image_same =
    sym (ap (λ (d : Did). d.state) (sym (read_on h c.args.pending c.line_kept-l.result c.args.call c.if-pending-eq-LINE_READ.true
    (c.line_kept-l.ensures.line h files_same lines_same store_same)) ∙ c.read_line.ensures.did h lines_same u_same row_same image_same))

pub returns-then-pending-eq-LINE_READ-clause-items : goal.returns-then-pending-eq-LINE_READ-clause-items
returns-then-pending-eq-LINE_READ-clause-items g c h u_same row_same files_same lines_same store_same image_same =
    subst (λ (d : Did). Took (g.T.Trace.taken c.args.trace.now) d.items (g.T.Trace.taken c.args.trace.now))
    (sym (sym (read_on h c.args.pending c.line_kept-l.result c.args.call c.if-pending-eq-LINE_READ.true
    (c.line_kept-l.ensures.line h files_same lines_same store_same)) ∙ c.read_line.ensures.did h lines_same u_same row_same image_same))
    (took_none _)

pub returns-clause-answer : goal.returns-clause-answer
returns-clause-answer g c h u_same row_same files_same lines_same store_same image_same =
    c.write_line.ensures.answer h lines_same u_same row_same image_same
    ∙ ap (λ (d : Did). d.answer) (write_on h c.args.pending c.line_kept-l.result c.args.call (ne_eqb c.args.pending LINE_READ c.if-pending-eq-LINE_READ.false)
    (c.line_kept-l.ensures.line h files_same lines_same store_same))

pub returns-clause-state : goal.returns-clause-state
returns-clause-state g c h u_same row_same files_same lines_same store_same image_same =
    ap (λ image. record h { lines = c.write_line.new.lines; u = c.write_line.new.u; image = image }) (sym image_same)
    ∙ c.write_line.ensures.state h lines_same u_same row_same image_same
    ∙ ap (λ (d : Did). d.state) (write_on h c.args.pending c.line_kept-l.result c.args.call (ne_eqb c.args.pending LINE_READ c.if-pending-eq-LINE_READ.false)
    (c.line_kept-l.ensures.line h files_same lines_same store_same))

pub returns-clause-items : goal.returns-clause-items
returns-clause-items g c h u_same row_same files_same lines_same store_same image_same =
    subst (λ (d : Did). Took (g.T.Trace.taken c.args.trace.now) d.items (g.T.Trace.taken c.write_line.new.trace))
    (write_on h c.args.pending c.line_kept-l.result c.args.call (ne_eqb c.args.pending LINE_READ c.if-pending-eq-LINE_READ.false)
    (c.line_kept-l.ensures.line h files_same lines_same store_same))
    (c.write_line.ensures.items h lines_same image_same)
