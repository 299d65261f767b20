-- One entry more, and the last.
use Rattle.std.proofs.Common.{◌≡◌, ◌∷◌, [], arith}
use Rattle.std.proofs.lemmas.List.{length-append}
use Rattle.pdp_decode.proofs.Handled.{pushed, filled}
use Rattle.pdp_decode.proofs.dispatch.all.Goals as goal

pub loop-n-preserved : goal.loop-n-preserved
loop-n-preserved c =
    let seats = c.loop-n.invariant.0 in
    let more = length-append c.loop-n.handlers.items (c.handler_of.result ∷ []) in
    rw c.in_ok-push.ensures.items (omega (arith, more, seats), pushed c.loop-n.handlers.items c.handler_of.result c.loop-n.n seats c.loop-n.invariant.1 c.handler_of.ensures)

pub returns : goal.returns
returns c =
    let last : c.loop-n.n ≡ 65535 = omega (arith, c.loop-n-test.false, c.loop-n.auto.n-end) in
    rw c.in_ok-push-2.ensures.items (filled c.loop-n.handlers.items c.handler_of-2.result c.loop-n.n last c.loop-n.invariant.0 c.loop-n.invariant.1 c.handler_of-2.ensures)
