use Rattle.std.proofs.Common.{◌∙◌, refl}
use Rattle.v6_base.proofs.Took.{took_nothing}
use Rattle.unix_core.specs.declared.world.World.{World}
use Rattle.unix_core.specs.Parts.{unix_of, board_in}
use Rattle.unix_core.proofs.CountLemmas.{timed_same}
use Rattle.unix_core.proofs.TableLemmas.{with_table}
use Rattle.unix_core.proofs.EndLemmas.{not_over, ended_good, ended_takes, ended_items, stopped_takes, stopped_items, end_answer}
use Rattle.unix_core.proofs.machine.Machine.end.Goals as goal

pub end_turn-requires-clause-table : goal.end_turn-requires-clause-table
end_turn-requires-clause-table g c = (c.requires.good (not_over c.args.ending (c.in-Ran.ensures.goes refl))).agree.table

pub count_turn-requires-clause-good : goal.count_turn-requires-clause-good
count_turn-requires-clause-good g c =
    let w : World = c.args.self.now.world in
    let on = not_over c.args.ending (c.in-Ran.ensures.goes refl) in
    ended_good w (c.requires.good on) c.args.s c.requires.user c.requires.slot c.args.ending (c.requires.runs on) c.end_turn.new.table c.end_turn.ensures.table c.end_turn.ensures.good

pub count_turn-requires-clause-timed : goal.count_turn-requires-clause-timed
count_turn-requires-clause-timed g c =
    let w : World = c.args.self.now.world in
    let on = not_over c.args.ending (c.in-Ran.ensures.goes refl) in
    timed_same w.slots (unix_of w) (unix_of (with_table w c.end_turn.new.table)) refl refl (c.requires.timed on)

pub count_turn-requires-clause-fresh : goal.count_turn-requires-clause-fresh
count_turn-requires-clause-fresh g c = c.requires.fresh (not_over c.args.ending (c.in-Ran.ensures.goes refl))

pub returns-in-Ran-clause-answer : goal.returns-in-Ran-clause-answer
returns-in-Ran-clause-answer g c = c.in-Ran.ensures.answer ∙ end_answer c.args.self.now.world c.args.s c.args.ending

pub returns-in-Ran-clause-takes : goal.returns-in-Ran-clause-takes
returns-in-Ran-clause-takes g c =
    let w : World = c.args.self.now.world in
    let goes = c.in-Ran.ensures.goes refl in
    let on = not_over c.args.ending goes in
    ended_takes w (c.requires.good on) c.args.s c.requires.user c.requires.slot c.args.ending (c.requires.runs on) c.end_turn.new.table c.end_turn.ensures.table c.end_turn.ensures.good
    goes c.count_turn.new.world c.count_turn.ensures.ended.unix c.count_turn.ensures.ended.board (c.end_turn.ensures.board w.procs.images.kept)
    _ _ c.settle.ensures.kernel c.settle.ensures.started c.settle.ensures.system

pub returns-in-Ran-clause-items : goal.returns-in-Ran-clause-items
returns-in-Ran-clause-items g c =
    let w : World = c.args.self.now.world in
    let goes = c.in-Ran.ensures.goes refl in
    let on = not_over c.args.ending goes in
    ended_items w (c.requires.good on) c.args.s c.requires.user c.requires.slot c.args.ending (c.requires.runs on) c.end_turn.new.table c.end_turn.ensures.table c.end_turn.ensures.good
    goes c.count_turn.new.world c.count_turn.ensures.ended.unix c.count_turn.ensures.ended.board (c.end_turn.ensures.board w.procs.images.kept)
    _ _ _ _ (c.end_turn.ensures.items (board_in w)) c.count_turn.ensures.items c.settle.ensures.items

pub returns-in-Ran-clause-frame : goal.returns-in-Ran-clause-frame
returns-in-Ran-clause-frame g c =
    g.met.T.Trace.goes_on _ _ _ c.end_turn.ensures.frame (g.met.T.Trace.goes_on _ _ _ c.count_turn.ensures.frame c.settle.ensures.frame)

pub returns-in_default-clause-answer : goal.returns-in_default-clause-answer
returns-in_default-clause-answer g c = c.turned.ensures.answer ∙ end_answer c.args.self.now.world c.args.s c.args.ending

pub returns-in_default-clause-takes : goal.returns-in_default-clause-takes
returns-in_default-clause-takes g c =
    let m = c.args.self.now in
    stopped_takes m.world c.args.s c.args.ending (c.turned.ensures.stops c.in_default.not-Ran) c.requires.covered c.requires.within

pub returns-in_default-clause-items : goal.returns-in_default-clause-items
returns-in_default-clause-items g c =
    let m = c.args.self.now in
    took_nothing _ _ (stopped_items m.world c.args.s c.args.ending (c.turned.ensures.stops c.in_default.not-Ran))
