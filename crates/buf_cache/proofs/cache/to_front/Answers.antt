use Rattle.buf_cache.proofs.FrontLemmas.{at_its_place, comes_forward}
use Rattle.buf_cache.proofs.cache.to_front.Goals as goal

pub loop-k-init : goal.loop-k-init
loop-k-init c = λ d. at_its_place c.args.heads.now c.args.place d c.requires

pub loop-k-preserved : goal.loop-k-preserved
loop-k-preserved c = λ d.
    comes_forward c.args.heads.now c.loop-k.heads c.swap.new.self c.args.place c.loop-k.k d c.loop-k-test.true c.loop-k.auto.k c.requires (c.loop-k.invariant d) c.swap.ensures.after
