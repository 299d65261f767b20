use Rattle.std.proofs.Common.{◌≡◌, ◌∙◌, ℕ, refl, sym, ap, subst}
use Rattle.v6_base.proofs.Took.{took_none}
use Rattle.pick_rules.specs.Table.{row_at}
use Rattle.sys_procs.specs.declared.procs.Procs.{Procs}
use Rattle.sys_procs.specs.Process.{Process}
use Rattle.sys_procs.specs.Texts.{xfree}
use Rattle.sys_procs.specs.inside.Begun.{nothing}
use Rattle.sys_procs.specs.Handed.{IsAlive, handed, process_here}
use Rattle.sys_procs.specs.Done.{HasLeft}
use Rattle.sys_procs.proofs.Alive.{is_here}
use Rattle.sys_procs.proofs.PlacingRows.{text_row}
use Rattle.sys_procs.proofs.texts.leave_text.Goals as goal

-- the text of a process is that of its row
text_here : (p : Procs) (s : ℕ) → IsAlive p s → (row_at p.table s).text ≡ (process_here p s).text
text_here p s alive = text_row p s alive ∙ sym (ap (λ (q : Process). q.text) (is_here p s alive).process_is)

pub returns-in-Some-clause-left : goal.returns-in-Some-clause-left
returns-in-Some-clause-left g c =
    subst (λ o. HasLeft c.args.p.now c.leave_entry.new.p c.leave_entry.new.tree.nodes (g.T.Trace.taken c.args.trace.now)
    (g.T.Trace.taken c.leave_entry.new.trace) (xfree (handed c.args.p.now c.args.tree.now.nodes) c.args.s o nothing))
    (sym c.in-Some.is ∙ text_here c.args.p.now c.args.s c.requires.alive) c.leave_entry.ensures.left

pub returns-in_default-clause-left : goal.returns-in_default-clause-left
returns-in_default-clause-left g c =
    subst (λ o. HasLeft c.args.p.now c.args.p.now c.args.tree.now.nodes (g.T.Trace.taken c.args.trace.now)
    (g.T.Trace.taken c.args.trace.now) (xfree (handed c.args.p.now c.args.tree.now.nodes) c.args.s o nothing))
    (sym c.in_default.is ∙ text_here c.args.p.now c.args.s c.requires.alive)
    (record { state = refl; shown = refl; items = took_none (g.T.Trace.taken c.args.trace.now) })
