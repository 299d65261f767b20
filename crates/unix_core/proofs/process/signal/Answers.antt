use Rattle.std.proofs.Common.{subst}
use Rattle.v6_base.specs.Trace.{Took}
use Rattle.pick_rules.specs.Logged.{logged}
use Rattle.abstract_unix.specs.Steps.{signals}
use Rattle.abstract_unix.specs.declared.ending.Ending.TheVariants.{Trapped}
use Rattle.unix_core.specs.declared.world.World.{World}
use Rattle.unix_core.specs.Parts.{unix_of, board_in, HasCome}
use Rattle.unix_core.proofs.SignalLemmas.{sent_come, sent_ready, sent_took}
use Rattle.unix_core.proofs.process.signal.Goals as goal

pub returns-clause-come : goal.returns-clause-come
returns-clause-come g c =
    let w : World = c.args.world.now in
    let e = c.send_signal.ensures in
    subst (λ n. HasCome (board_in w) (signals (unix_of w) c.args.s n) Trapped (record w { procs = c.send_signal.new.p })) c.from.ensures
    (sent_come w c.args.s c.from.result c.requires c.send_signal.new.p e.agree e.state e.board)

pub returns-clause-ready : goal.returns-clause-ready
returns-clause-ready g c =
    let e = c.send_signal.ensures in
    sent_ready c.args.world.now c.args.s c.from.result c.requires c.send_signal.new.p e.agree e.state e.board

pub returns-clause-items : goal.returns-clause-items
returns-clause-items g c =
    let w : World = c.args.world.now in
    let e = c.send_signal.ensures in
    subst (λ n. Took (g.T.Trace.taken c.args.trace.now) (logged (board_in w) (signals (unix_of w) c.args.s n).effects).items (g.T.Trace.taken c.send_signal.new.trace))
    c.from.ensures
    (sent_took w c.args.s c.from.result c.requires c.send_signal.new.p e.agree e.state e.board _ _ e.items)
