use Rattle.unix_core.proofs.machine.Machine.stays.Goals as goal

pub is_fixed-requires : goal.is_fixed-requires
is_fixed-requires c = c.requires

pub returns-in-Running : goal.returns-in-Running
returns-in-Running c same =
    let is = c.is_fixed.ensures.0 same in
    record { fixed = c.in-Running.fixed; stage = c.in-Running.is; slot = is.0; is = is.1 }
