use Rattle.std.proofs.Common.{sym, subst}
use Rattle.abstract_unix.specs.Turn.{Turn}
use Rattle.unix_core.specs.declared.world.World.{World}
use Rattle.unix_core.specs.declared.machine.Stage.TheVariants as stage
use Rattle.unix_core.specs.Parts.{Takes}
use Rattle.sys_procs.proofs.Places.{agree_matches}
use Rattle.unix_core.proofs.SwapLemmas.{after_good, after_counted, slot_takes, slot_took, slot_answer, with_moved, not_counted, stopped_answer, stopped_items, panic_takes}
use Rattle.unix_core.proofs.machine.Machine.swap_slot.Goals as goal

pub pass-passed-requires-clause-matches : goal.pass-passed-requires-clause-matches
pass-passed-requires-clause-matches g c =
    let w : World = c.args.self.now.world in agree_matches w.procs.rows w.procs.table w.procs.images.kept c.requires.good.agree

pub count-woken-requires-clause-good : goal.count-woken-requires-clause-good
count-woken-requires-clause-good g c =
    let w : World = c.args.self.now.world in
    let passed = c.pass-passed in
    after_good w passed.new.table passed.new.images _ _ c.requires.good passed.ensures.does passed.ensures.same c.see_procs.ensures.images
    (c.in-Ok.ensures.sleeps)

pub count-woken-requires-clause-counted : goal.count-woken-requires-clause-counted
count-woken-requires-clause-counted g c =
    let w : World = c.args.self.now.world in
    let passed = c.pass-passed in
    after_counted w passed.new.table passed.new.images _ _ c.requires.good passed.ensures.does passed.ensures.same c.see_procs.ensures.images
    c.requires.counted

pub returns-in-Ok-clause-answer : goal.returns-in-Ok-clause-answer
returns-in-Ok-clause-answer g c =
    let w : World = c.args.self.now.world in
    let passed = c.pass-passed in
    slot_answer w passed.new.table passed.new.images _ _ c.requires.good passed.ensures.does passed.ensures.same c.see_procs.ensures.images
    c.in-Ok.ensures.answer c.count-woken.new.world c.count-woken.ensures.ended.unix c.count-woken.ensures.ended.board

pub returns-in-Ok-clause-takes : goal.returns-in-Ok-clause-takes
returns-in-Ok-clause-takes g c =
    let w : World = c.args.self.now.world in
    let passed = c.pass-passed in
    let last = c.settle.new.self in
    slot_takes w passed.new.table passed.new.images _ _ c.requires.good passed.ensures.does passed.ensures.same c.see_procs.ensures.images
    c.in-Ok.ensures.answer c.count-woken.new.world c.count-woken.ensures.ended.unix c.count-woken.ensures.ended.board
    last.stage last.world c.settle.ensures.kernel c.settle.ensures.started c.settle.ensures.system

pub returns-in-Ok-clause-items : goal.returns-in-Ok-clause-items
returns-in-Ok-clause-items g c =
    let w : World = c.args.self.now.world in
    let passed = c.pass-passed in
    slot_took w passed.new.table passed.new.images _ _ c.requires.good passed.ensures.does passed.ensures.same c.see_procs.ensures.images
    c.in-Ok.ensures.answer c.count-woken.new.world c.count-woken.ensures.ended.unix c.count-woken.ensures.ended.board _ _ _
    passed.ensures.does.items c.count-woken.ensures.items c.settle.ensures.items

pub returns-in-Err-clause-answer : goal.returns-in-Err-clause-answer
returns-in-Err-clause-answer g c =
    let w : World = c.args.self.now.world in
    let passed = c.pass-passed in
    stopped_answer w passed.new.table passed.new.images _ _ c.requires.good passed.ensures.does passed.ensures.same c.see_procs.ensures.images
    c.in-Err.kind c.in-Err.ensures.answer

pub returns-in-Err-clause-items : goal.returns-in-Err-clause-items
returns-in-Err-clause-items g c =
    let w : World = c.args.self.now.world in
    let passed = c.pass-passed in
    stopped_items w passed.new.table passed.new.images _ _ c.requires.good passed.ensures.does passed.ensures.same c.see_procs.ensures.images
    c.in-Err.kind c.in-Err.ensures.answer passed.ensures.does.items

pub returns-in-Err-clause-takes : goal.returns-in-Err-clause-takes
returns-in-Err-clause-takes g c =
    let w : World = c.args.self.now.world in
    let passed = c.pass-passed in
    subst (λ (t : Turn). Takes t stage.Stopped (with_moved w passed.new.table passed.new.images))
    (sym (not_counted w passed.new.table passed.new.images _ _ c.requires.good passed.ensures.does passed.ensures.same c.see_procs.ensures.images
    c.in-Err.kind c.in-Err.ensures.answer))
    (panic_takes w passed.new.table passed.new.images _ _ c.requires.good passed.ensures.does passed.ensures.same c.see_procs.ensures.images
    c.in-Err.kind c.in-Err.ensures.answer c.see_procs.ensures.rows c.requires.counted.timed.within)

pub returns-in-Ok-clause-frame : goal.returns-in-Ok-clause-frame
returns-in-Ok-clause-frame g c =
    g.met.T.Trace.goes_on _ _ _ c.pass-passed.ensures.frame (g.met.T.Trace.goes_on _ _ _ c.count-woken.ensures.frame c.settle.ensures.frame)
