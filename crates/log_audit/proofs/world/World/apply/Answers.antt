use Rattle.std.proofs.Common.{rules, ◌∙◌, ℤ, FitsSigned, w8, sym, ap, subst}
use Rattle.std.proofs.lemmas.Int.{to_z-of_z}
use Rattle.v6_base.specs.declared.entry.Entry.TheVariants as line
use Rattle.pick_rules.specs.Apply.{applied}
use Rattle.log_audit.specs.World.{board_of}
use Rattle.log_audit.specs.Sound.{IsAfter}
use Rattle.log_audit.proofs.Owed.{OfBare, OfExit, OfFork, OfIn, OfKeep, OfLeave, OfOut, OfSize, Owed, owes}
use Rattle.log_audit.proofs.world.World.apply.Goals as goal

pub go-requires-clause-chosen : goal.go-requires-clause-chosen
go-requires-clause-chosen c = subst (Owed c.args.self.now) c.in-Go.is (owes c.args.self.now c.args.e c.requires.whole c.requires.fits)

pub idle-requires-clause-chosen : goal.idle-requires-clause-chosen
idle-requires-clause-chosen c = subst (Owed c.args.self.now) c.in-Idle.is (owes c.args.self.now c.args.e c.requires.whole c.requires.fits)

pub sleep-requires-clause-runs : goal.sleep-requires-clause-runs
sleep-requires-clause-runs c = subst (Owed c.args.self.now) c.in-Sleep.is (owes c.args.self.now c.args.e c.requires.whole c.requires.fits)

pub grow-requires-clause-user : goal.grow-requires-clause-user
grow-requires-clause-user c = let o : OfSize c.args.self.now c.in-Size.slot c.in-Size.clicks c.in-Size.place = subst (Owed c.args.self.now) c.in-Size.is (owes c.args.self.now c.args.e c.requires.whole c.requires.fits) in o.user

pub grow-requires-clause-placed : goal.grow-requires-clause-placed
grow-requires-clause-placed c = let o : OfSize c.args.self.now c.in-Size.slot c.in-Size.clicks c.in-Size.place = subst (Owed c.args.self.now) c.in-Size.is (owes c.args.self.now c.args.e c.requires.whole c.requires.fits) in o.runs.placed

pub grow-requires-clause-used : goal.grow-requires-clause-used
grow-requires-clause-used c = let o : OfSize c.args.self.now c.in-Size.slot c.in-Size.clicks c.in-Size.place = subst (Owed c.args.self.now) c.in-Size.is (owes c.args.self.now c.args.e c.requires.whole c.requires.fits) in o.runs.used

pub grow-requires-clause-alive : goal.grow-requires-clause-alive
grow-requires-clause-alive c = let o : OfSize c.args.self.now c.in-Size.slot c.in-Size.clicks c.in-Size.place = subst (Owed c.args.self.now) c.in-Size.is (owes c.args.self.now c.args.e c.requires.whole c.requires.fits) in o.runs.alive

pub grow-requires-clause-some : goal.grow-requires-clause-some
grow-requires-clause-some c = let o : OfSize c.args.self.now c.in-Size.slot c.in-Size.clicks c.in-Size.place = subst (Owed c.args.self.now) c.in-Size.is (owes c.args.self.now c.args.e c.requires.whole c.requires.fits) in o.some

pub grow-requires-clause-most : goal.grow-requires-clause-most
grow-requires-clause-most c = let o : OfSize c.args.self.now c.in-Size.slot c.in-Size.clicks c.in-Size.place = subst (Owed c.args.self.now) c.in-Size.is (owes c.args.self.now c.args.e c.requires.whole c.requires.fits) in o.most

pub grow-requires-clause-found : goal.grow-requires-clause-found
grow-requires-clause-found c = let o : OfSize c.args.self.now c.in-Size.slot c.in-Size.clicks c.in-Size.place = subst (Owed c.args.self.now) c.in-Size.is (owes c.args.self.now c.args.e c.requires.whole c.requires.fits) in o.found

pub keep-requires-clause-alive : goal.keep-requires-clause-alive
keep-requires-clause-alive c = let o : OfKeep c.args.self.now c.in-SizeKeep.slot c.in-SizeKeep.clicks = subst (Owed c.args.self.now) c.in-SizeKeep.is (owes c.args.self.now c.args.e c.requires.whole c.requires.fits) in o.runs.alive

pub keep-requires-clause-some : goal.keep-requires-clause-some
keep-requires-clause-some c = let o : OfKeep c.args.self.now c.in-SizeKeep.slot c.in-SizeKeep.clicks = subst (Owed c.args.self.now) c.in-SizeKeep.is (owes c.args.self.now c.args.e c.requires.whole c.requires.fits) in o.some

pub keep-requires-clause-less : goal.keep-requires-clause-less
keep-requires-clause-less c = let o : OfKeep c.args.self.now c.in-SizeKeep.slot c.in-SizeKeep.clicks = subst (Owed c.args.self.now) c.in-SizeKeep.is (owes c.args.self.now c.args.e c.requires.whole c.requires.fits) in o.less

pub keep-requires-clause-placed : goal.keep-requires-clause-placed
keep-requires-clause-placed c = let o : OfKeep c.args.self.now c.in-SizeKeep.slot c.in-SizeKeep.clicks = subst (Owed c.args.self.now) c.in-SizeKeep.is (owes c.args.self.now c.args.e c.requires.whole c.requires.fits) in o.runs.placed

pub fork-requires-clause-user : goal.fork-requires-clause-user
fork-requires-clause-user c = let o : OfFork c.args.self.now c.in-Fork.slot c.in-Fork.child c.in-Fork.place = subst (Owed c.args.self.now) c.in-Fork.is (owes c.args.self.now c.args.e c.requires.whole c.requires.fits) in o.user

pub fork-requires-clause-free : goal.fork-requires-clause-free
fork-requires-clause-free c = let o : OfFork c.args.self.now c.in-Fork.slot c.in-Fork.child c.in-Fork.place = subst (Owed c.args.self.now) c.in-Fork.is (owes c.args.self.now c.args.e c.requires.whole c.requires.fits) in o.free

pub fork-requires-clause-some : goal.fork-requires-clause-some
fork-requires-clause-some c = let o : OfFork c.args.self.now c.in-Fork.slot c.in-Fork.child c.in-Fork.place = subst (Owed c.args.self.now) c.in-Fork.is (owes c.args.self.now c.args.e c.requires.whole c.requires.fits) in o.some

pub fork-requires-clause-found : goal.fork-requires-clause-found
fork-requires-clause-found c = let o : OfFork c.args.self.now c.in-Fork.slot c.in-Fork.child c.in-Fork.place = subst (Owed c.args.self.now) c.in-Fork.is (owes c.args.self.now c.args.e c.requires.whole c.requires.fits) in o.found

pub leave-requires-clause-user : goal.leave-requires-clause-user
leave-requires-clause-user c = let o : OfLeave c.args.self.now c.in-Leave.slot c.in-Leave.text = subst (Owed c.args.self.now) c.in-Leave.is (owes c.args.self.now c.args.e c.requires.whole c.requires.fits) in o.user

pub leave-requires-clause-shared : goal.leave-requires-clause-shared
leave-requires-clause-shared c = let o : OfLeave c.args.self.now c.in-Leave.slot c.in-Leave.text = subst (Owed c.args.self.now) c.in-Leave.is (owes c.args.self.now c.args.e c.requires.whole c.requires.fits) in o.shared

pub bare-requires-clause-runs : goal.bare-requires-clause-runs
bare-requires-clause-runs c = let o : OfBare c.args.self.now c.in-Bare.s = subst (Owed c.args.self.now) c.in-Bare.is (owes c.args.self.now c.args.e c.requires.whole c.requires.fits) in o.runs

pub bare-requires-clause-user : goal.bare-requires-clause-user
bare-requires-clause-user c = let o : OfBare c.args.self.now c.in-Bare.s = subst (Owed c.args.self.now) c.in-Bare.is (owes c.args.self.now c.args.e c.requires.whole c.requires.fits) in o.user

pub bare-requires-clause-placed : goal.bare-requires-clause-placed
bare-requires-clause-placed c = let o : OfBare c.args.self.now c.in-Bare.s = subst (Owed c.args.self.now) c.in-Bare.is (owes c.args.self.now c.args.e c.requires.whole c.requires.fits) in o.placed

pub swap_in-requires-clause-user : goal.swap_in-requires-clause-user
swap_in-requires-clause-user c = let o : OfIn c.args.self.now c.in-SwapIn.slot c.in-SwapIn.at = subst (Owed c.args.self.now) c.in-SwapIn.is (owes c.args.self.now c.args.e c.requires.whole c.requires.fits) in o.user

pub swap_in-requires-clause-out : goal.swap_in-requires-clause-out
swap_in-requires-clause-out c = let o : OfIn c.args.self.now c.in-SwapIn.slot c.in-SwapIn.at = subst (Owed c.args.self.now) c.in-SwapIn.is (owes c.args.self.now c.args.e c.requires.whole c.requires.fits) in o.out

pub swap_in-requires-clause-used : goal.swap_in-requires-clause-used
swap_in-requires-clause-used c = let o : OfIn c.args.self.now c.in-SwapIn.slot c.in-SwapIn.at = subst (Owed c.args.self.now) c.in-SwapIn.is (owes c.args.self.now c.args.e c.requires.whole c.requires.fits) in o.runs.used

pub swap_in-requires-clause-alive : goal.swap_in-requires-clause-alive
swap_in-requires-clause-alive c = let o : OfIn c.args.self.now c.in-SwapIn.slot c.in-SwapIn.at = subst (Owed c.args.self.now) c.in-SwapIn.is (owes c.args.self.now c.args.e c.requires.whole c.requires.fits) in o.runs.alive

pub swap_in-requires-clause-found : goal.swap_in-requires-clause-found
swap_in-requires-clause-found c = let o : OfIn c.args.self.now c.in-SwapIn.slot c.in-SwapIn.at = subst (Owed c.args.self.now) c.in-SwapIn.is (owes c.args.self.now c.args.e c.requires.whole c.requires.fits) in o.found

pub swap_out-requires-clause-user : goal.swap_out-requires-clause-user
swap_out-requires-clause-user c = let o : OfOut c.args.self.now c.in-SwapOut.slot c.in-SwapOut.block = subst (Owed c.args.self.now) c.in-SwapOut.is (owes c.args.self.now c.args.e c.requires.whole c.requires.fits) in o.user

pub swap_out-requires-clause-used : goal.swap_out-requires-clause-used
swap_out-requires-clause-used c = let o : OfOut c.args.self.now c.in-SwapOut.slot c.in-SwapOut.block = subst (Owed c.args.self.now) c.in-SwapOut.is (owes c.args.self.now c.args.e c.requires.whole c.requires.fits) in o.runs.used

pub swap_out-requires-clause-alive : goal.swap_out-requires-clause-alive
swap_out-requires-clause-alive c = let o : OfOut c.args.self.now c.in-SwapOut.slot c.in-SwapOut.block = subst (Owed c.args.self.now) c.in-SwapOut.is (owes c.args.self.now c.args.e c.requires.whole c.requires.fits) in o.runs.alive

pub swap_out-requires-clause-placed : goal.swap_out-requires-clause-placed
swap_out-requires-clause-placed c = let o : OfOut c.args.self.now c.in-SwapOut.slot c.in-SwapOut.block = subst (Owed c.args.self.now) c.in-SwapOut.is (owes c.args.self.now c.args.e c.requires.whole c.requires.fits) in o.runs.placed

pub swap_out-requires-clause-found : goal.swap_out-requires-clause-found
swap_out-requires-clause-found c = let o : OfOut c.args.self.now c.in-SwapOut.slot c.in-SwapOut.block = subst (Owed c.args.self.now) c.in-SwapOut.is (owes c.args.self.now c.args.e c.requires.whole c.requires.fits) in o.found

pub exit-requires-clause-user : goal.exit-requires-clause-user
exit-requires-clause-user c = let o : OfExit c.args.self.now c.in-Exit.slot c.in-Exit.block = subst (Owed c.args.self.now) c.in-Exit.is (owes c.args.self.now c.args.e c.requires.whole c.requires.fits) in o.user

pub exit-requires-clause-alive : goal.exit-requires-clause-alive
exit-requires-clause-alive c = let o : OfExit c.args.self.now c.in-Exit.slot c.in-Exit.block = subst (Owed c.args.self.now) c.in-Exit.is (owes c.args.self.now c.args.e c.requires.whole c.requires.fits) in o.runs.alive

pub exit-requires-clause-placed : goal.exit-requires-clause-placed
exit-requires-clause-placed c = let o : OfExit c.args.self.now c.in-Exit.slot c.in-Exit.block = subst (Owed c.args.self.now) c.in-Exit.is (owes c.args.self.now c.args.e c.requires.whole c.requires.fits) in o.runs.placed

pub exit-requires-clause-plain : goal.exit-requires-clause-plain
exit-requires-clause-plain c = let o : OfExit c.args.self.now c.in-Exit.slot c.in-Exit.block = subst (Owed c.args.self.now) c.in-Exit.is (owes c.args.self.now c.args.e c.requires.whole c.requires.fits) in o.plain

pub exit-requires-clause-found : goal.exit-requires-clause-found
exit-requires-clause-found c = let o : OfExit c.args.self.now c.in-Exit.slot c.in-Exit.block = subst (Owed c.args.self.now) c.in-Exit.is (owes c.args.self.now c.args.e c.requires.whole c.requires.fits) in o.found

pub reap-requires-clause-zombie : goal.reap-requires-clause-zombie
reap-requires-clause-zombie c = subst (Owed c.args.self.now) c.in-Reap.is (owes c.args.self.now c.args.e c.requires.whole c.requires.fits)

pub returns-in-Go-clause-after : goal.returns-in-Go-clause-after
returns-in-Go-clause-after c = subst (λ x. IsAfter x c.go.new.self) (sym c.in-Go.is) c.go.ensures.whole

pub returns-in-Go-clause-board : goal.returns-in-Go-clause-board
returns-in-Go-clause-board c = c.go.ensures.board ∙ ap (applied (board_of c.args.self.now)) (sym c.in-Go.is)

pub returns-in-Idle-clause-after : goal.returns-in-Idle-clause-after
returns-in-Idle-clause-after c = subst (λ x. IsAfter x c.idle.new.self) (sym c.in-Idle.is) c.idle.ensures.whole

pub returns-in-Idle-clause-board : goal.returns-in-Idle-clause-board
returns-in-Idle-clause-board c = c.idle.ensures.board ∙ ap (applied (board_of c.args.self.now)) (sym c.in-Idle.is)

pub returns-in-Trap-clause-after : goal.returns-in-Trap-clause-after
returns-in-Trap-clause-after c = subst (λ x. IsAfter x c.trap.new.self) (sym c.in-Trap.is) c.trap.ensures.whole

pub returns-in-Trap-clause-board : goal.returns-in-Trap-clause-board
returns-in-Trap-clause-board c = c.trap.ensures.board ∙ ap (applied (board_of c.args.self.now)) (sym c.in-Trap.is)

pub returns-in-TickUser-clause-after : goal.returns-in-TickUser-clause-after
returns-in-TickUser-clause-after c = subst (λ x. IsAfter x c.tick_user.new.self) (sym c.in-TickUser.is) c.tick_user.ensures.whole

pub returns-in-TickUser-clause-board : goal.returns-in-TickUser-clause-board
returns-in-TickUser-clause-board c = c.tick_user.ensures.board ∙ ap (applied (board_of c.args.self.now)) (sym c.in-TickUser.is)

pub returns-in-TickKernel-clause-after : goal.returns-in-TickKernel-clause-after
returns-in-TickKernel-clause-after c = subst (λ x. IsAfter x c.tick_kernel.new.self) (sym c.in-TickKernel.is) c.tick_kernel.ensures.whole

pub returns-in-TickKernel-clause-board : goal.returns-in-TickKernel-clause-board
returns-in-TickKernel-clause-board c = c.tick_kernel.ensures.board ∙ ap (applied (board_of c.args.self.now)) (sym c.in-TickKernel.is)

pub returns-in-TickIdle-clause-after : goal.returns-in-TickIdle-clause-after
returns-in-TickIdle-clause-after c = subst (λ x. IsAfter x c.tick_idle.new.self) (sym c.in-TickIdle.is) c.tick_idle.ensures.whole

pub returns-in-TickIdle-clause-board : goal.returns-in-TickIdle-clause-board
returns-in-TickIdle-clause-board c = c.tick_idle.ensures.board ∙ ap (applied (board_of c.args.self.now)) (sym c.in-TickIdle.is)

pub returns-in-Sleep-clause-after : goal.returns-in-Sleep-clause-after
returns-in-Sleep-clause-after c = subst (λ x. IsAfter x c.sleep.new.self) (sym c.in-Sleep.is) c.sleep.ensures.whole

pub returns-in-Sleep-clause-board : goal.returns-in-Sleep-clause-board
returns-in-Sleep-clause-board c =
    let fits : FitsSigned w8 c.in-Sleep.pri = search rules in
    c.sleep.ensures.board ∙ ap (λ (n : ℤ). applied (board_of c.args.self.now) (line.Sleep c.in-Sleep.slot n c.in-Sleep.chan)) (to_z-of_z w8 c.in-Sleep.pri fits)
    ∙ ap (applied (board_of c.args.self.now)) (sym c.in-Sleep.is)

pub returns-in-Wake-clause-after : goal.returns-in-Wake-clause-after
returns-in-Wake-clause-after c = subst (λ x. IsAfter x c.wake.new.self) (sym c.in-Wake.is) c.wake.ensures.whole

pub returns-in-Wake-clause-board : goal.returns-in-Wake-clause-board
returns-in-Wake-clause-board c = c.wake.ensures.board ∙ ap (applied (board_of c.args.self.now)) (sym c.in-Wake.is)

pub returns-in-Signal-clause-after : goal.returns-in-Signal-clause-after
returns-in-Signal-clause-after c = subst (λ x. IsAfter x c.signal.new.self) (sym c.in-Signal.is) c.signal.ensures.whole

pub returns-in-Signal-clause-board : goal.returns-in-Signal-clause-board
returns-in-Signal-clause-board c = c.signal.ensures.board ∙ ap (applied (board_of c.args.self.now)) (sym c.in-Signal.is)

pub returns-in-Nice-clause-after : goal.returns-in-Nice-clause-after
returns-in-Nice-clause-after c = subst (λ x. IsAfter x c.nice.new.self) (sym c.in-Nice.is) c.nice.ensures.whole

pub returns-in-Nice-clause-board : goal.returns-in-Nice-clause-board
returns-in-Nice-clause-board c =
    let fits : FitsSigned w8 c.in-Nice.nice = search rules in
    c.nice.ensures.board ∙ ap (λ (n : ℤ). applied (board_of c.args.self.now) (line.Nice c.in-Nice.slot n)) (to_z-of_z w8 c.in-Nice.nice fits)
    ∙ ap (applied (board_of c.args.self.now)) (sym c.in-Nice.is)

pub returns-in-Time-clause-after : goal.returns-in-Time-clause-after
returns-in-Time-clause-after c = subst (λ x. IsAfter x c.time.new.self) (sym c.in-Time.is) c.time.ensures.whole

pub returns-in-Time-clause-board : goal.returns-in-Time-clause-board
returns-in-Time-clause-board c = c.time.ensures.board ∙ ap (applied (board_of c.args.self.now)) (sym c.in-Time.is)

pub returns-in-Size-clause-after : goal.returns-in-Size-clause-after
returns-in-Size-clause-after c = subst (λ x. IsAfter x c.grow.new.self) (sym c.in-Size.is) c.grow.ensures.whole

pub returns-in-Size-clause-board : goal.returns-in-Size-clause-board
returns-in-Size-clause-board c = c.grow.ensures.board ∙ ap (applied (board_of c.args.self.now)) (sym c.in-Size.is)

pub returns-in-SizeKeep-clause-after : goal.returns-in-SizeKeep-clause-after
returns-in-SizeKeep-clause-after c = subst (λ x. IsAfter x c.keep.new.self) (sym c.in-SizeKeep.is) c.keep.ensures.whole

pub returns-in-SizeKeep-clause-board : goal.returns-in-SizeKeep-clause-board
returns-in-SizeKeep-clause-board c = c.keep.ensures.board ∙ ap (applied (board_of c.args.self.now)) (sym c.in-SizeKeep.is)

pub returns-in-Fork-clause-after : goal.returns-in-Fork-clause-after
returns-in-Fork-clause-after c = subst (λ x. IsAfter x c.fork.new.self) (sym c.in-Fork.is) c.fork.ensures.whole

pub returns-in-Fork-clause-board : goal.returns-in-Fork-clause-board
returns-in-Fork-clause-board c = c.fork.ensures.board ∙ ap (applied (board_of c.args.self.now)) (sym c.in-Fork.is)

pub returns-in-Leave-clause-after : goal.returns-in-Leave-clause-after
returns-in-Leave-clause-after c = subst (λ x. IsAfter x c.leave.new.self) (sym c.in-Leave.is) c.leave.ensures.whole

pub returns-in-Leave-clause-board : goal.returns-in-Leave-clause-board
returns-in-Leave-clause-board c = c.leave.ensures.board ∙ ap (applied (board_of c.args.self.now)) (sym c.in-Leave.is)

pub returns-in-Bare-clause-after : goal.returns-in-Bare-clause-after
returns-in-Bare-clause-after c = subst (λ x. IsAfter x c.bare.new.self) (sym c.in-Bare.is) c.bare.ensures.stripped

pub returns-in-Bare-clause-board : goal.returns-in-Bare-clause-board
returns-in-Bare-clause-board c = c.bare.ensures.board ∙ ap (applied (board_of c.args.self.now)) (sym c.in-Bare.is)

pub returns-in-SwapIn-clause-after : goal.returns-in-SwapIn-clause-after
returns-in-SwapIn-clause-after c = subst (λ x. IsAfter x c.swap_in.new.self) (sym c.in-SwapIn.is) c.swap_in.ensures.whole

pub returns-in-SwapIn-clause-board : goal.returns-in-SwapIn-clause-board
returns-in-SwapIn-clause-board c = c.swap_in.ensures.board ∙ ap (applied (board_of c.args.self.now)) (sym c.in-SwapIn.is)

pub returns-in-SwapOut-clause-after : goal.returns-in-SwapOut-clause-after
returns-in-SwapOut-clause-after c = subst (λ x. IsAfter x c.swap_out.new.self) (sym c.in-SwapOut.is) c.swap_out.ensures.whole

pub returns-in-SwapOut-clause-board : goal.returns-in-SwapOut-clause-board
returns-in-SwapOut-clause-board c = c.swap_out.ensures.board ∙ ap (applied (board_of c.args.self.now)) (sym c.in-SwapOut.is)

pub returns-in-Exit-clause-after : goal.returns-in-Exit-clause-after
returns-in-Exit-clause-after c = subst (λ x. IsAfter x c.exit.new.self) (sym c.in-Exit.is) c.exit.ensures.whole

pub returns-in-Exit-clause-board : goal.returns-in-Exit-clause-board
returns-in-Exit-clause-board c = c.exit.ensures.board ∙ ap (applied (board_of c.args.self.now)) (sym c.in-Exit.is)

pub returns-in-Reap-clause-after : goal.returns-in-Reap-clause-after
returns-in-Reap-clause-after c = subst (λ x. IsAfter x c.reap.new.self) (sym c.in-Reap.is) c.reap.ensures.whole

pub returns-in-Reap-clause-board : goal.returns-in-Reap-clause-board
returns-in-Reap-clause-board c = c.reap.ensures.board ∙ ap (applied (board_of c.args.self.now)) (sym c.in-Reap.is)

pub returns-in-Panic-clause-board : goal.returns-in-Panic-clause-board
unfolding applied
returns-in-Panic-clause-board c = ap (applied (board_of c.args.self.now)) (sym c.in-Panic.is)

pub returns-in-End-clause-board : goal.returns-in-End-clause-board
unfolding applied
returns-in-End-clause-board c = ap (applied (board_of c.args.self.now)) (sym c.in-End.is)

pub returns-in-Panic-clause-after : goal.returns-in-Panic-clause-after
returns-in-Panic-clause-after c = subst (λ x. IsAfter x c.args.self.now) (sym c.in-Panic.is) c.requires.whole

pub returns-in-End-clause-after : goal.returns-in-End-clause-after
returns-in-End-clause-after c = subst (λ x. IsAfter x c.args.self.now) (sym c.in-End.is) c.requires.whole
