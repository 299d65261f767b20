use Rattle.std.proofs.Common.{◌≡◌, ◌∙◌, ap, sym}
use Rattle.v6_base.specs.declared.answer.Answer.TheVariants.{Ret}
use Rattle.proc_tab.specs.declared.row.Row.{Row}
use Rattle.sys_procs.specs.Process.{Process}
use Rattle.sys_procs.specs.World.{World, change}
use Rattle.sys_procs.specs.Wait.{with_times_of}
use Rattle.sys_procs.specs.Handed.{process_here}
use Rattle.sys_procs.proofs.Slots.{own_row}
use Rattle.sys_procs.proofs.Graves.{used, still_alive}
use Rattle.sys_procs.proofs.wait.bury.Goals as goal

pub row-requires : goal.row-requires
row-requires g c = used c.args.p.now.rows c.args.p.now.table c.args.p.now.images.kept c.args.dead c.requires.alive.agree c.requires.above c.requires.low c.requires.grave

pub add_times-requires : goal.add_times-requires
add_times-requires g c = still_alive c.args.p.now c.clear-half.new.p c.args.s c.args.dead c.requires.alive c.requires.grave c.clear-half.ensures.images c.clear-half.ensures.agree

pub returns-clause-answer : goal.returns-clause-answer
returns-clause-answer g c = λ fs.
    let gone : Process = process_here c.args.p.now c.args.dead in
    let pid : c.row.result.now.pid ≡ gone.row.pid =
    ap (λ (row : Row). row.pid) (c.row.ensures ∙ sym (own_row c.args.p.now.rows.slots c.args.p.now.images.kept c.args.dead c.requires.low)) in
    let status : c.status_of.result ≡ gone.u.status = c.status_of.ensures gone.u c.clear-half.ensures.sized c.clear-half.ensures.half in
    λ i. Ret (pid i) (status i)

pub returns-clause-state : goal.returns-clause-state
returns-clause-state g c = λ fs.
    let gone : Process = process_here c.args.p.now c.args.dead in
    c.add_times.ensures.state gone.u c.clear-half.ensures.sized c.clear-half.ensures.half fs
    ∙ ap (λ (w : World). change w c.args.s (λ p. record p { u = with_times_of p.u gone.u })) (c.clear-half.ensures.state fs)

pub returns-clause-board : goal.returns-clause-board
returns-clause-board g c = c.add_times.ensures.board ∙ c.clear-half.ensures.board

pub returns-clause-agree : goal.returns-clause-agree
returns-clause-agree g c = c.add_times.ensures.alive.agree
