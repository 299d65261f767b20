use Rattle.std.proofs.Common.{sym, subst}
use Rattle.swap_sched.specs.Match.{Matches}
use Rattle.swap_sched.proofs.MoveLemmas.{to_load, enters, no_entry, not_in, same_start}
use Rattle.swap_sched.proofs.moves.serve.Goals as goal

pub swap_in-requires : goal.swap_in-requires
swap_in-requires g c = to_load c.args.table.now c.args.images.now.kept c.args.s c.requires.matches c.requires.next

pub returns-in-Ok-clause-does : goal.returns-in-Ok-clause-does
returns-in-Ok-clause-does g c =
    enters c.args.table.now c.enter.new.table c.args.images.now.kept c.swap_in.new.self.kept c.args.s c.in-Ok.at _ _ c.requires.matches
    c.place.ensures.holds c.requires.next c.in-Ok.ensures.place c.swap_in.ensures.kept c.enter.ensures.table c.enter.ensures.items

pub make_room-requires-clause-matches : goal.make_room-requires-clause-matches
make_room-requires-clause-matches g c =
    subst (Matches c.args.table.now) (sym (not_in c.args.images.now.kept c.swap_in.new.self.kept c.args.s c.in-Err.ensures.place c.swap_in.ensures.kept)) c.requires.matches

pub make_room-requires-clause-comes : goal.make_room-requires-clause-comes
make_room-requires-clause-comes g c =
    no_entry c.args.table.now c.args.images.now.kept c.swap_in.new.self.kept c.args.s c.requires.matches c.place.ensures.holds c.requires.next
    c.in-Err.ensures.place (not_in c.args.images.now.kept c.swap_in.new.self.kept c.args.s c.in-Err.ensures.place c.swap_in.ensures.kept)

pub returns-in-Err-clause-does : goal.returns-in-Err-clause-does
returns-in-Err-clause-does g c =
    same_start c.args.table.now _ c.args.images.now.kept c.swap_in.new.self.kept _ _ _ _
    (not_in c.args.images.now.kept c.swap_in.new.self.kept c.args.s c.in-Err.ensures.place c.swap_in.ensures.kept) c.make_room.ensures.does
