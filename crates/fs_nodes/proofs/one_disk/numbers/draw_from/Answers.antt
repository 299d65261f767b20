use Rattle.std.proofs.Common.{arith, ◌∙◌}
use Rattle.fs_nodes.proofs.NumbersLemmas.{words_stay}
use Rattle.fs_nodes.proofs.ReadLemmas.{late_still}
use Rattle.fs_nodes.proofs.one_disk.numbers.draw_from.Goals as goal

pub returns-in-Some-clause-words : goal.returns-in-Some-clause-words
returns-in-Some-clause-words c =
    let low = c.in-Some.ensures.last.0 in
    words_stay c.set_list.new.volume.state.head.inode c.set_list-in-Some.new.volume.state.head.inode c.args.list.now c.in-Some.place (omega (arith, low))
    c.set_list.ensures.words c.set_list-in-Some.ensures.words c.set_list-in-Some.ensures.behind

pub returns-in-Some-clause-stored : goal.returns-in-Some-clause-stored
returns-in-Some-clause-stored c =
    late_still c.args.volume.now c.last_free.new.volume c.set_list-in-Some.new.volume (c.set_list-in-Some.ensures.stored ∙ c.set_list.ensures.stored) c.last_free.ensures.stored
