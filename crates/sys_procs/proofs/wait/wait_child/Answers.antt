use Rattle.std.proofs.Common.{◌∙◌, Result, Ok, refl, ap, sym}
use Rattle.v6_base.specs.declared.answer.Answer.{Answer}
use Rattle.v6_base.specs.declared.answer.Answer.TheVariants.{Fail, Sleep}
use Rattle.v6_base.specs.declared.entry.Chan.TheVariants.{Wait}
use Rattle.v6_base.specs.declared.entry.Entry.TheVariants as line
use Rattle.v6_base.specs.declared.entry.PanicKind.{PanicKind}
use Rattle.v6_base.specs.declared.errno.Errno.TheVariants.{ECHILD, EINTR}
use Rattle.pick_rules.specs.Priority.{pwait}
use Rattle.proc_tab.specs.declared.row.Row.{Row}
use Rattle.proc_tab.specs.declared.child.Child.TheVariants as child
use Rattle.sys_procs.specs.World.{World}
use Rattle.sys_procs.specs.Handed.{board, handed}
use Rattle.sys_procs.proofs.Tables.{logged_line}
use Rattle.sys_procs.proofs.Alive.{calls_alive}
use Rattle.sys_procs.proofs.Dones.{done_none, done_as, done_logged}
use Rattle.sys_procs.proofs.Graves.{has_grave, wait_row, wait_broken_off, wait_begins}
use Rattle.sys_procs.proofs.wait.wait_child.Goals as goal

pub bury-requires : goal.bury-requires
bury-requires g c =
    let words = c.in-Dead.ensures.words in
    record {
      alive = calls_alive c.args.p.now c.args.tree.now.nodes c.args.s c.requires;
      above = words.above;
      low = words.low;
      grave = has_grave c.args.p.now.rows c.args.p.now.table c.args.p.now.images.kept c.in-Dead.dead c.row-pid.result.pid c.requires.agree words.above words.low words.passes;
    }

-- There is no child.
pub returns-in-NoChild-clause-does : goal.returns-in-NoChild-clause-does
returns-in-NoChild-clause-does g c =
    done_none _ (Fail ECHILD) (wait_row c.args.p.now c.args.s c.args.tree.now.nodes c.row-pid.result.pid c.child.result child.NoChild
    c.see.ensures.rows.long (ap (λ (row : Row). row.pid) c.row-pid.ensures) c.child.ensures.child c.in-NoChild.is) refl refl refl

-- No child has ended, and a signal is due.
pub returns-then-is_due-clause-does : goal.returns-then-is_due-clause-does
returns-then-is_due-clause-does g c =
    let w : World = handed c.args.p.now c.args.tree.now.nodes in
    done_none w (Fail EINTR)
    (wait_broken_off w c.args.s (sym c.is_due.ensures ∙ c.if-is_due.true)
    ∙ wait_row c.args.p.now c.args.s c.args.tree.now.nodes c.row-pid.result.pid c.child.result child.Living
    c.see.ensures.rows.long (ap (λ (row : Row). row.pid) c.row-pid.ensures) c.child.ensures.child c.in-Living.is) refl refl refl

-- No child has ended, and none is due.
pub returns-else-is_due-clause-does : goal.returns-else-is_due-clause-does
returns-else-is_due-clause-does g c =
    done_none _ (Sleep pwait (Wait c.args.s))
    (wait_begins (handed c.args.p.now c.args.tree.now.nodes) c.args.s (sym c.is_due.ensures ∙ c.if-is_due.false)
    ∙ wait_row c.args.p.now c.args.s c.args.tree.now.nodes c.row-pid.result.pid c.child.result child.Living
    c.see.ensures.rows.long (ap (λ (row : Row). row.pid) c.row-pid.ensures) c.child.ensures.child c.in-Living.is) refl
    (c.put_call.ensures.state c.args.tree.now.nodes) c.put_call.ensures.board

-- A child has ended.
pub returns-in-Dead-clause-does : goal.returns-in-Dead-clause-does
returns-in-Dead-clause-does g c =
    let done : Answer → Result Answer PanicKind = λ a. Ok a in
    done_as (wait_row c.args.p.now c.args.s c.args.tree.now.nodes c.row-pid.result.pid c.child.result (child.Dead c.in-Dead.dead)
    c.see.ensures.rows.long (ap (λ (row : Row). row.pid) c.row-pid.ensures) c.child.ensures.child c.in-Dead.is)
    (done_logged (logged_line (board c.args.p.now) (line.Reap c.in-Dead.dead)) (ap done (c.bury.ensures.answer c.args.tree.now.nodes))
    (c.bury.ensures.state c.args.tree.now.nodes) c.bury.ensures.board c.bury.ensures.items)
