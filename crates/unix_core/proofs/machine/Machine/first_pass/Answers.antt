use Rattle.std.proofs.Common.{◌∙◌}
use Rattle.unix_core.specs.declared.world.World.{World}
use Rattle.sys_procs.proofs.Places.{agree_matches}
use Rattle.unix_core.proofs.SwapLemmas.{after_good, after_counted, goes_answer, after_takes, after_items, over_answer, over_items, panic_takes}
use Rattle.unix_core.proofs.machine.Machine.first_pass.Goals as goal

pub pass-first-requires-clause-matches : goal.pass-first-requires-clause-matches
pass-first-requires-clause-matches g c =
    let w : World = c.args.self.now.world in agree_matches w.procs.rows w.procs.table w.procs.images.kept c.requires.good.agree

pub settle-requires-clause-good : goal.settle-requires-clause-good
settle-requires-clause-good g c =
    let w : World = c.args.self.now.world in
    let first = c.pass-first in
    after_good w first.new.table first.new.images _ _ c.requires.good first.ensures.does first.ensures.same c.see_procs.ensures.images
    (c.in-Ok.ensures.sleeps)

pub settle-requires-clause-counted : goal.settle-requires-clause-counted
settle-requires-clause-counted g c =
    let w : World = c.args.self.now.world in
    let first = c.pass-first in
    after_counted w first.new.table first.new.images _ _ c.requires.good first.ensures.does first.ensures.same c.see_procs.ensures.images
    c.requires.counted

pub returns-in-Ok-clause-takes : goal.returns-in-Ok-clause-takes
returns-in-Ok-clause-takes g c =
    let w : World = c.args.self.now.world in
    let first = c.pass-first in
    let last = c.settle.new.self in
    after_takes w first.new.table first.new.images _ _ c.requires.good first.ensures.does first.ensures.same c.see_procs.ensures.images
    c.in-Ok.ensures.answer last.stage last.world c.settle.ensures.kernel c.settle.ensures.started c.settle.ensures.system

pub returns-in-Ok-clause-items : goal.returns-in-Ok-clause-items
returns-in-Ok-clause-items g c =
    let w : World = c.args.self.now.world in
    let first = c.pass-first in
    after_items w first.new.table first.new.images _ _ c.requires.good first.ensures.does first.ensures.same c.see_procs.ensures.images
    c.in-Ok.ensures.answer _ _ first.ensures.does.items c.settle.ensures.items

pub returns-in-Err-clause-takes : goal.returns-in-Err-clause-takes
returns-in-Err-clause-takes g c =
    let w : World = c.args.self.now.world in
    let first = c.pass-first in
    panic_takes w first.new.table first.new.images _ _ c.requires.good first.ensures.does first.ensures.same c.see_procs.ensures.images
    c.in-Err.kind c.in-Err.ensures.answer c.see_procs.ensures.rows c.requires.counted.timed.within

pub returns-in-Ok-clause-files : goal.returns-in-Ok-clause-files
returns-in-Ok-clause-files g c = c.settle.ensures.files

pub returns-in-Ok-clause-images : goal.returns-in-Ok-clause-images
returns-in-Ok-clause-images g c = λ none. c.settle.ensures.images ∙ c.pass-first.ensures.still none

pub returns-in-Err-clause-images : goal.returns-in-Err-clause-images
returns-in-Err-clause-images g c = c.pass-first.ensures.still

pub returns-in-Ok-clause-answer : goal.returns-in-Ok-clause-answer
returns-in-Ok-clause-answer g c =
    let w : World = c.args.self.now.world in
    let first = c.pass-first in
    goes_answer w first.new.table first.new.images _ _ c.requires.good first.ensures.does first.ensures.same c.see_procs.ensures.images
    c.in-Ok.ensures.answer

pub returns-in-Ok-clause-frame : goal.returns-in-Ok-clause-frame
returns-in-Ok-clause-frame g c = g.met.T.Trace.goes_on _ _ _ c.pass-first.ensures.frame c.settle.ensures.frame

pub returns-in-Err-clause-answer : goal.returns-in-Err-clause-answer
returns-in-Err-clause-answer g c =
    let w : World = c.args.self.now.world in
    let first = c.pass-first in
    over_answer w first.new.table first.new.images _ _ c.requires.good first.ensures.does first.ensures.same c.see_procs.ensures.images
    c.in-Err.kind c.in-Err.ensures.answer

pub returns-in-Err-clause-items : goal.returns-in-Err-clause-items
returns-in-Err-clause-items g c =
    let w : World = c.args.self.now.world in
    let first = c.pass-first in
    over_items w first.new.table first.new.images _ _ c.requires.good first.ensures.does first.ensures.same c.see_procs.ensures.images
    c.in-Err.kind c.in-Err.ensures.answer first.ensures.does.items
