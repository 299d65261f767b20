use Rattle.std.proofs.Common.{◌≡◌, ◌∙◌, ℕ, refl, sym, ap, subst}
use Rattle.std.specs.Prelude.{Result, Err}
use Rattle.v6_base.specs.Trace.{Took}
use Rattle.v6_base.specs.declared.answer.Answer.{Answer}
use Rattle.v6_base.specs.declared.entry.PanicKind.{PanicKind}
use Rattle.fs_nodes.specs.FileSystem.{SameAroundEach}
use Rattle.pick_rules.specs.Logged.{logged}
use Rattle.sys_procs.specs.Comes.{Comes}
use Rattle.sys_procs.specs.Agree.{answered}
use Rattle.sys_procs.specs.Handed.{came}
use Rattle.sys_procs.specs.World.{change}
use Rattle.sys_procs.specs.Resume.{awake, resume_proc}
use Rattle.sys_procs.specs.TextTable.{marks_of}
use Rattle.unix_core.specs.declared.world.World.{World}
use Rattle.abstract_unix.specs.Calls.{came_by}
use Rattle.unix_core.specs.Parts.{unix_of, board_in, HasCome, IsReady}
use Rattle.abstract_unix.proofs.GoingOnLemmas.{world_goes_on}
use Rattle.abstract_unix.proofs.WaitingRows.{resume_waited}
use Rattle.abstract_unix.proofs.ProcessRows.{resume_plain}
use Rattle.abstract_unix.proofs.Mild.{IsMild, mild_plain, near_change}
use Rattle.abstract_unix.proofs.StillWorlds as worlds
use Rattle.unix_core.proofs.CameLemmas.{given, still_given, IsTame, mild_tame, mild_goes, near_here, after, beside, world_is, ready_calls, stops, call_took, call_ready, call_marked, call_come}
use Rattle.unix_core.proofs.process.go_on_waiting.Goals as goal

abbrev row : World → ℕ → Comes
row w s = resume_proc (given w) s

mild : (w : World) (s : ℕ) → IsReady w s → IsMild (given w) (row w s)
mild w s ready =
    mild_plain (given w) s (change (given w) s awake) (row w s) (resume_plain s (given w))
    (near_change (given w) s (given w) awake (near_here w s ready) (record { dead = refl; size = refl; text = refl; files = refl; dir = refl }))

tame : (w : World) (s : ℕ) → IsReady w s → IsTame w (row w s)
tame w s ready = mild_tame w (row w s) (mild w s ready)

pub resume_proc-requires : goal.resume_proc-requires
resume_proc-requires g c = ready_calls c.args.world.now c.args.s c.requires c.see_table.ensures c.see_kept.ensures

pub conclude-requires : goal.conclude-requires
conclude-requires g c =
    let w : World = c.args.world.now in
    let e = c.resume_proc.ensures in
    call_ready w (after w c.resume_proc.new.tree c.resume_proc.new.p) c.args.s (row w c.args.s)
    (tame w c.args.s c.requires) (beside w c.resume_proc.new.tree c.resume_proc.new.p c.resume_proc.ensures.mounts) e.does
    c.in-Ok.answer c.in-Ok.is c.requires
    e.agree
    (world_goes_on (unix_of w) (row w c.args.s).state c.requires.good.pending (resume_waited (given w) c.args.s))
    (call_marked w (after w c.resume_proc.new.tree c.resume_proc.new.p) c.args.s (row w c.args.s)
    (tame w c.args.s c.requires) (beside w c.resume_proc.new.tree c.resume_proc.new.p c.resume_proc.ensures.mounts) e.does
    c.in-Ok.answer c.in-Ok.is e.marks c.requires.good.marks (ap marks_of (mild w c.args.s c.requires).texts))
    (worlds.still_resume (given w) c.args.s (given w) (still_given w c.args.s c.requires)).count

pub returns-in-Ok-clause-come : goal.returns-in-Ok-clause-come
returns-in-Ok-clause-come g c =
    let w : World = c.args.world.now in
    let s = c.args.s in
    let e = c.resume_proc.ensures in
    subst (λ x. HasCome (board_in w) (came_by (unix_of w) s (resume_proc x s)) c.conclude.result c.conclude.new.world)
    (world_is w s c.requires c.see.ensures)
    (call_come w (after w c.resume_proc.new.tree c.resume_proc.new.p) s (row w s)
    (tame w s c.requires) (beside w c.resume_proc.new.tree c.resume_proc.new.p c.resume_proc.ensures.mounts) e.does
    c.in-Ok.answer c.in-Ok.is c.conclude.result c.conclude.new.world c.conclude.ensures.come)

pub returns-in-Ok-clause-items : goal.returns-in-Ok-clause-items
returns-in-Ok-clause-items g c =
    let w : World = c.args.world.now in
    let s = c.args.s in
    let e = c.resume_proc.ensures in
    subst (λ x. Took (g.T.Trace.taken c.args.trace.now) (logged (board_in w) (came_by (unix_of w) s (resume_proc x s)).effects).items
    (g.T.Trace.taken c.conclude.new.trace))
    (world_is w s c.requires c.see.ensures)
    (call_took w (after w c.resume_proc.new.tree c.resume_proc.new.p) s (row w s)
    (tame w s c.requires) (beside w c.resume_proc.new.tree c.resume_proc.new.p c.resume_proc.ensures.mounts) e.does
    c.in-Ok.answer c.in-Ok.is _ c.conclude.ensures.items)

pub returns-in-Ok-clause-covered : goal.returns-in-Ok-clause-covered
returns-in-Ok-clause-covered g c ends = absurd (let never = sym c.conclude.ensures.goes ∙ ends in cc never)

pub returns-in-Ok-clause-frame : goal.returns-in-Ok-clause-frame
returns-in-Ok-clause-frame g c = g.met.T.Trace.goes_on _ _ _ c.resume_proc.ensures.frame c.conclude.ensures.frame

pub returns-in-Ok-clause-rest : goal.returns-in-Ok-clause-rest
returns-in-Ok-clause-rest g c =
    subst (λ b. SameAroundEach c.args.world.now.files.tree.nodes.blocks b) (sym c.conclude.ensures.blocks) c.resume_proc.ensures.blocks

-- it never stops
never : (w : World) (s : ℕ) (kind : PanicKind) (r : Result Answer PanicKind) → IsReady w s
    → r ≡ answered (came w.procs (row w s)).stop (row w s).answer → r ≡ Err kind → ⊥
never w s kind r ready answer err =
    let halt = stops (came w.procs (row w s)).stop (row w s).answer kind r answer err in
    mild_goes w (row w s) (mild w s ready) halt.0 halt.1.0

pub returns-in-Err-clause-come : goal.returns-in-Err-clause-come
returns-in-Err-clause-come g c =
    absurd (never c.args.world.now c.args.s c.in-Err.kind _ c.requires c.resume_proc.ensures.does.answer c.in-Err.is)

pub returns-in-Err-clause-ready : goal.returns-in-Err-clause-ready
returns-in-Err-clause-ready g c =
    absurd (never c.args.world.now c.args.s c.in-Err.kind _ c.requires c.resume_proc.ensures.does.answer c.in-Err.is)

pub returns-in-Err-clause-items : goal.returns-in-Err-clause-items
returns-in-Err-clause-items g c =
    absurd (never c.args.world.now c.args.s c.in-Err.kind _ c.requires c.resume_proc.ensures.does.answer c.in-Err.is)

pub returns-in-Err-clause-covered : goal.returns-in-Err-clause-covered
returns-in-Err-clause-covered g c ends =
    absurd (never c.args.world.now c.args.s c.in-Err.kind _ c.requires c.resume_proc.ensures.does.answer c.in-Err.is)
