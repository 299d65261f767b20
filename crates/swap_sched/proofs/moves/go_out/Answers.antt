use Rattle.swap_sched.proofs.MoveLemmas.{to_leave, leaves, panics}
use Rattle.swap_sched.proofs.moves.go_out.Goals as goal

pub swap_out-requires : goal.swap_out-requires
swap_out-requires g c = to_leave c.args.table.now c.args.images.now.kept c.args.s c.requires.matches c.requires.comes

pub returns-in-Ok-clause-does : goal.returns-in-Ok-clause-does
returns-in-Ok-clause-does g c =
    leaves c.args.table.now c.args.images.now.kept c.args.s c.requires.matches c.place.ensures.holds c.requires.comes c.put_out.new.table
    c.swap_out.new.self.kept c.in-Ok.block _ _ c.in-Ok.ensures.block c.swap_out.ensures.kept c.put_out.ensures.good c.put_out.ensures.table
    c.entry.ensures.took

pub returns-in-Err-clause-does : goal.returns-in-Err-clause-does
returns-in-Err-clause-does g c =
    panics c.args.table.now c.args.images.now.kept c.args.s c.requires.matches c.place.ensures.holds c.requires.comes c.swap_out.new.self.kept _ _
    c.in-Err.ensures.block c.swap_out.ensures.kept c.entry-in-Err.ensures.took
