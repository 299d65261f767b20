use Rattle.std.proofs.Common.{◌∙◌, ◌-◌, ◌%◌, ap, arith}
use Rattle.unix_core.specs.declared.slots.Slots.{Slots}
use Rattle.unix_core.proofs.slots.renew_paced.Goals as goal

pub passed-passed-requires : goal.passed-passed-requires
passed-passed-requires c = c.requires.timed.within

pub behind-behind-requires-clause-set : goal.behind-behind-requires-clause-set
behind-behind-requires-clause-set c = let set = c.requires.timed.set in let passed = c.passed-passed.ensures in omega (arith, set, passed)

pub renew_by-requires-clause-behind : goal.renew_by-requires-clause-behind
renew_by-requires-clause-behind c =
    let slots : Slots = c.args.world.now.slots in
    c.behind-behind.ensures.behind ∙ ap (λ p. (p - slots.set_at) % slots.pace) c.passed-passed.ensures
