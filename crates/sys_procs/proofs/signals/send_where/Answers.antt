use Rattle.std.proofs.Common.{◌∙◌, cond, sym, ap}
use Rattle.sys_procs.specs.World.{World, change}
use Rattle.sys_procs.specs.Signals as rule
use Rattle.sys_procs.specs.Handed.{handed}
use Rattle.sys_procs.proofs.signals.send_where.Goals as goal

pub returns-then-means-clause-state : goal.returns-then-means-clause-state
returns-then-means-clause-state g c = λ fs.
    let w : World = handed c.args.p.now fs in
    c.send_signal.ensures.state fs ∙ sym (ap (λ b. cond b (change w c.args.s (rule.signalled c.args.sig)) w) c.if-means.true)
