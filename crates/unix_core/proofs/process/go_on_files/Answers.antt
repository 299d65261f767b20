use Rattle.std.proofs.Common.{◌∙◌, sym, subst}
use Rattle.v6_base.specs.Trace.{Took}
use Rattle.v6_base.specs.declared.answer.Answer.{Answer}
use Rattle.fs_nodes.specs.FileSystem.{SameAroundEach}
use Rattle.pick_rules.specs.Logged.{logged}
use Rattle.sys_files.specs.Did.{Did}
use Rattle.sys_files.specs.Moving.{resumes}
use Rattle.unix_core.specs.declared.world.World.{World}
use Rattle.abstract_unix.specs.Unix.{process_of}
use Rattle.abstract_unix.specs.Calls.{answers, handed_of}
use Rattle.unix_core.specs.Parts.{unix_of, board_in, HasCome}
use Rattle.unix_core.proofs.ShowingLemmas.{with_table, passed_ready, passed_come, passed_items}
use Rattle.unix_core.proofs.process.go_on_files.Goals as goal

pub pass_on-requires-clause-table : goal.pass_on-requires-clause-table
pass_on-requires-clause-table g c = c.resume_on_files-answer.ensures.shown.ready.good.agree.table

pub pass_on-requires-clause-slots : goal.pass_on-requires-clause-slots
pass_on-requires-clause-slots g c = c.resume_on_files-answer.ensures.shown.slots

pub conclude-requires : goal.conclude-requires
conclude-requires g c =
    let w : World = c.args.world.now in
    let s = c.args.s in
    let e = c.resume_on_files-answer.ensures in
    let did : Did = resumes (handed_of (unix_of w) (process_of (unix_of w) s)) s w.procs.table.now in
    passed_ready w c.resume_on_files-answer.new.world s did.state did.items e.shown e.unix c.pass_on.new.table c.pass_on.ensures.table

pub returns-clause-come : goal.returns-clause-come
returns-clause-come g c =
    let w : World = c.args.world.now in
    let s = c.args.s in
    let new : World = c.resume_on_files-answer.new.world in
    let e = c.resume_on_files-answer.ensures in
    let did : Did = resumes (handed_of (unix_of w) (process_of (unix_of w) s)) s w.procs.table.now in
    passed_come w new s did.state did.items e.shown e.unix c.pass_on.new.table c.pass_on.ensures.table (λ u. answers u s did.answer)
    c.conclude.result c.conclude.new.world
    (subst (λ (a : Answer). HasCome (board_in (with_table new c.pass_on.new.table)) (answers (unix_of (with_table new c.pass_on.new.table)) s a)
    c.conclude.result c.conclude.new.world) e.answer c.conclude.ensures.come)

pub returns-clause-items : goal.returns-clause-items
returns-clause-items g c =
    let w : World = c.args.world.now in
    let s = c.args.s in
    let new : World = c.resume_on_files-answer.new.world in
    let e = c.resume_on_files-answer.ensures in
    let did : Did = resumes (handed_of (unix_of w) (process_of (unix_of w) s)) s w.procs.table.now in
    passed_items w new s did.state did.items e.shown e.unix c.pass_on.new.table c.pass_on.ensures.table (λ u. answers u s did.answer)
    _ _ _ c.pass_on.ensures.items
    (subst (λ (a : Answer). Took (g.T.Trace.taken c.pass_on.new.trace)
    (logged (board_in (with_table new c.pass_on.new.table)) (answers (unix_of (with_table new c.pass_on.new.table)) s a).effects).items
    (g.T.Trace.taken c.conclude.new.trace)) e.answer c.conclude.ensures.items)

pub returns-clause-covered : goal.returns-clause-covered
returns-clause-covered g c ends = absurd (let never = sym c.conclude.ensures.goes ∙ ends in cc never)

pub returns-clause-rest : goal.returns-clause-rest
returns-clause-rest g c =
    subst (λ b. SameAroundEach c.args.world.now.files.tree.nodes.blocks b) (sym c.conclude.ensures.blocks) c.resume_on_files-answer.ensures.rest

pub returns-clause-frame : goal.returns-clause-frame
returns-clause-frame g c = g.met.T.Trace.goes_on _ _ _ c.pass_on.ensures.frame c.conclude.ensures.frame
