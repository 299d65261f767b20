use Rattle.std.proofs.Common.{◌<◌, ℕ, length, Option, subst, arith}
use Rattle.fs_nodes.specs.FileSystem.{FileSystem}
use Rattle.fs_nodes.proofs.RestLemmas.{rest_then}
use Rattle.sys_procs.specs.declared.procs.Procs.{Procs}
use Rattle.sys_procs.specs.World.{World, process_of}
use Rattle.sys_procs.specs.Exit.{leaves, dies}
use Rattle.sys_procs.specs.Texts.{xfree}
use Rattle.sys_procs.specs.inside.Begun.{nothing}
use Rattle.sys_procs.specs.Handed.{handed}
use Rattle.sys_procs.specs.Done.{HasLeft}
use Rattle.sys_procs.proofs.Alive.{calls_alive}
use Rattle.sys_procs.proofs.Slots.{fifty_processes}
use Rattle.sys_procs.proofs.Dones.{ended_as}
use Rattle.sys_procs.proofs.LeavesFirst.{ended_behind, ended_from}
use Rattle.sys_procs.proofs.Ends.{text_left, end_row}
use Rattle.sys_procs.proofs.exit.end_proc.Goals as goal

-- The directory is left, then the text, and then the process ends.
pub returns-clause-does : goal.returns-clause-does
returns-clause-does g c =
    let p : Procs = c.args.p.now in
    let fs : FileSystem = c.args.tree.now.nodes in
    let s : ℕ = c.args.s in
    let w : World = handed p fs in
    let v : World = leaves w s c.args.status in
    let below = (calls_alive p fs s c.requires.calls).below in
    let low : s < length w.processes = omega (arith, below, fifty_processes p.rows.slots p.images.kept) in
    let text : Option ℕ = (process_of v s).text in
    let left : HasLeft c.leave.new.p c.leave_text.new.p c.leave_text.new.tree.nodes (g.T.Trace.taken c.args.trace.now) (g.T.Trace.taken c.leave_text.new.trace) (xfree v s text nothing) =
    subst (λ (x : World). HasLeft c.leave.new.p c.leave_text.new.p c.leave_text.new.tree.nodes (g.T.Trace.taken c.args.trace.now) (g.T.Trace.taken c.leave_text.new.trace)
    (xfree x s (process_of x s).text nothing)) c.leave.ensures.state c.leave_text.ensures.left in
    ended_as (end_row w s c.args.status text (text_left w s c.args.status low))
    (ended_from c.leave.ensures.board
    (ended_behind v s text (λ x. dies x s) left (c.die.ensures.does c.leave_text.new.tree.nodes)))

pub returns-clause-blocks : goal.returns-clause-blocks
returns-clause-blocks g c =
    rest_then c.args.tree.now.nodes.blocks c.leave.new.tree.nodes.blocks c.leave_text.new.tree.nodes.blocks
    c.leave.ensures.blocks c.leave_text.ensures.blocks
