use Rattle.sys_procs.proofs.times.keep_sleep.Goals as goal

pub returns-clause-state : goal.returns-clause-state
returns-clause-state c = λ fs. c.put_call.ensures.state fs
