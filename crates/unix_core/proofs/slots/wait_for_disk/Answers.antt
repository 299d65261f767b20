use Rattle.std.proofs.Common.{◌-◌, arith}
use Rattle.unix_core.specs.declared.world.World.{World}
use Rattle.unix_core.proofs.WorldLemmas.{ready_alive}
use Rattle.unix_core.proofs.WaitLemmas.{wait_unix, wait_board, wait_ready, has_waited}
use Rattle.unix_core.proofs.slots.wait_for_disk.Goals as goal

pub wait_end-end-requires-clause-within : goal.wait_end-end-requires-clause-within
wait_end-end-requires-clause-within c = c.requires.waits.within

pub wait_end-end-requires-clause-fresh : goal.wait_end-end-requires-clause-fresh
wait_end-end-requires-clause-fresh c = c.requires.waits.fresh

pub wait_end-end-requires-clause-few : goal.wait_end-end-requires-clause-few
wait_end-end-requires-clause-few c = c.requires.waits.disk

pub set_call-requires : goal.set_call-requires
set_call-requires c = (ready_alive c.args.world.now c.args.s c.requires.ready).image

pub add_wait-requires-clause-within : goal.add_wait-requires-clause-within
add_wait-requires-clause-within c = c.requires.waits.within

pub add_wait-requires-clause-low : goal.add_wait-requires-clause-low
add_wait-requires-clause-low c = c.requires.waits.low

pub add_wait-requires-clause-ahead : goal.add_wait-requires-clause-ahead
add_wait-requires-clause-ahead c = let end = c.wait_end-end.ensures in omega (arith, end)

pub add_wait-requires-clause-before : goal.add_wait-requires-clause-before
add_wait-requires-clause-before c = let ahead = c.requires.waits.ahead in let within = c.requires.waits.within in omega (arith, ahead, within)

pub returns-clause-unix : goal.returns-clause-unix
returns-clause-unix c =
    let w : World = c.args.world.now in
    let e = c.add_wait.ensures in
    wait_unix w c.args.s c.requires.ready c.wait_end-end.result c.wait_end-end.ensures c.set_call.new.self c.set_call.ensures.kept c.add_wait.new.self
    (λ i. record { passed = e.passed i; disk = e.disk i; pace = e.pace i; since = e.passed i - e.set i })

pub returns-clause-board : goal.returns-clause-board
returns-clause-board c =
    let w : World = c.args.world.now in
    let e = c.add_wait.ensures in
    wait_board w c.args.s c.requires.ready c.wait_end-end.result c.wait_end-end.ensures c.set_call.new.self c.set_call.ensures.kept c.add_wait.new.self
    (λ i. record { passed = e.passed i; disk = e.disk i; pace = e.pace i; since = e.passed i - e.set i })

pub returns-clause-ready : goal.returns-clause-ready
returns-clause-ready c =
    let w : World = c.args.world.now in
    let e = c.add_wait.ensures in
    wait_ready w c.args.s c.requires.ready c.wait_end-end.result c.wait_end-end.ensures c.set_call.new.self c.set_call.ensures.kept c.add_wait.new.self
    (λ i. record { passed = e.passed i; disk = e.disk i; pace = e.pace i; since = e.passed i - e.set i })

pub returns-clause-slots : goal.returns-clause-slots
returns-clause-slots c =
    let e = c.add_wait.ensures in
    has_waited _ c.args.world.now.slots c.add_wait.new.self c.wait_end-end.result c.requires.waits c.wait_end-end.ensures e.ends e.sooner e.low e.later e.passed
    e.within e.disk e.pace e.set
