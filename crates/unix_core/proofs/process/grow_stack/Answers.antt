use Rattle.std.proofs.Common.{◌≡◌, ◌∙◌, Bool, true, false, ap}
use Rattle.std.specs.Prelude.{Result, Ok}
use Rattle.v6_base.specs.declared.entry.PanicKind.{PanicKind}
use Rattle.unix_core.specs.declared.world.World.{World}
use Rattle.unix_core.proofs.CameLemmas.{after, beside, ready_calls, over_then}
use Rattle.unix_core.proofs.GrowthLemmas.{grows_ready, grown_come, grown_took, not_grown_come, not_grown_took, growth_stops, growth_cut}
use Rattle.unix_core.proofs.process.grow_stack.Goals as goal

pub grow-grown-requires : goal.grow-grown-requires
grow-grown-requires g c = ready_calls c.args.world.now c.args.s c.requires c.see_table.ensures c.see_kept.ensures

pub returns-in-Ok-true-clause-come : goal.returns-in-Ok-true-clause-come
returns-in-Ok-true-clause-come g c =
    let w : World = c.args.world.now in
    let is : ◌≡◌ {A = Result Bool PanicKind} c.grow-grown.result (Ok true) = c.in-Ok-true.is ∙ ap (λ (x : Bool). Ok x) c.in-Ok-true.field-0-test in
    grown_come w (after w c.grow-grown.new.tree c.grow-grown.new.p) c.args.s c.args.sp c.requires c.see.ensures
    (beside w c.grow-grown.new.tree c.grow-grown.new.p c.grow-grown.ensures.mounts) c.grow-grown.ensures.does is

pub returns-in-Ok-true-clause-ready : goal.returns-in-Ok-true-clause-ready
returns-in-Ok-true-clause-ready g c goes =
    let w : World = c.args.world.now in
    let e = c.grow-grown.ensures in
    let is : ◌≡◌ {A = Result Bool PanicKind} c.grow-grown.result (Ok true) = c.in-Ok-true.is ∙ ap (λ (x : Bool). Ok x) c.in-Ok-true.field-0-test in
    grows_ready w (after w c.grow-grown.new.tree c.grow-grown.new.p) c.args.s c.args.sp c.requires c.see.ensures
    (beside w c.grow-grown.new.tree c.grow-grown.new.p c.grow-grown.ensures.mounts) e.does true is e.agree e.marks

pub returns-in-Ok-true-clause-items : goal.returns-in-Ok-true-clause-items
returns-in-Ok-true-clause-items g c =
    let w : World = c.args.world.now in
    let is : ◌≡◌ {A = Result Bool PanicKind} c.grow-grown.result (Ok true) = c.in-Ok-true.is ∙ ap (λ (x : Bool). Ok x) c.in-Ok-true.field-0-test in
    grown_took w (after w c.grow-grown.new.tree c.grow-grown.new.p) c.args.s c.args.sp c.requires c.see.ensures
    (beside w c.grow-grown.new.tree c.grow-grown.new.p c.grow-grown.ensures.mounts) c.grow-grown.ensures.does is

pub signal-requires : goal.signal-requires
signal-requires g c =
    let w : World = c.args.world.now in
    let e = c.grow-grown.ensures in
    let is : ◌≡◌ {A = Result Bool PanicKind} c.grow-grown.result (Ok false) = c.in-Ok-false.is ∙ ap (λ (x : Bool). Ok x) c.in-Ok-false.field-0-test in
    grows_ready w (after w c.grow-grown.new.tree c.grow-grown.new.p) c.args.s c.args.sp c.requires c.see.ensures
    (beside w c.grow-grown.new.tree c.grow-grown.new.p c.grow-grown.ensures.mounts) e.does false is e.agree e.marks

pub returns-in-Ok-false-clause-come : goal.returns-in-Ok-false-clause-come
returns-in-Ok-false-clause-come g c =
    let w : World = c.args.world.now in
    let is : ◌≡◌ {A = Result Bool PanicKind} c.grow-grown.result (Ok false) = c.in-Ok-false.is ∙ ap (λ (x : Bool). Ok x) c.in-Ok-false.field-0-test in
    not_grown_come w (after w c.grow-grown.new.tree c.grow-grown.new.p) c.args.s c.args.sp c.requires c.see.ensures
    (beside w c.grow-grown.new.tree c.grow-grown.new.p c.grow-grown.ensures.mounts) c.grow-grown.ensures.does is c.signal.result c.signal.new.world c.signal.ensures.come

pub returns-in-Ok-false-clause-items : goal.returns-in-Ok-false-clause-items
returns-in-Ok-false-clause-items g c =
    let w : World = c.args.world.now in
    let is : ◌≡◌ {A = Result Bool PanicKind} c.grow-grown.result (Ok false) = c.in-Ok-false.is ∙ ap (λ (x : Bool). Ok x) c.in-Ok-false.field-0-test in
    not_grown_took w (after w c.grow-grown.new.tree c.grow-grown.new.p) c.args.s c.args.sp c.requires c.see.ensures
    (beside w c.grow-grown.new.tree c.grow-grown.new.p c.grow-grown.ensures.mounts) c.grow-grown.ensures.does is _ c.signal.ensures.items

pub returns-in-Err-clause-come : goal.returns-in-Err-clause-come
returns-in-Err-clause-come g c =
    let w : World = c.args.world.now in
    growth_stops w (after w c.grow-grown.new.tree c.grow-grown.new.p) c.args.s c.args.sp c.requires c.see.ensures
    (beside w c.grow-grown.new.tree c.grow-grown.new.p c.grow-grown.ensures.mounts) c.grow-grown.ensures.does c.in-Err.kind c.in-Err.is

pub returns-in-Err-clause-ready : goal.returns-in-Err-clause-ready
returns-in-Err-clause-ready g c goes = over_then c.in-Err.kind goes

pub returns-in-Err-clause-call : goal.returns-in-Err-clause-call
returns-in-Err-clause-call g c next = absurd (cc next)

pub returns-in-Err-clause-items : goal.returns-in-Err-clause-items
returns-in-Err-clause-items g c =
    let w : World = c.args.world.now in
    growth_cut w (after w c.grow-grown.new.tree c.grow-grown.new.p) c.args.s c.args.sp c.requires c.see.ensures
    (beside w c.grow-grown.new.tree c.grow-grown.new.p c.grow-grown.ensures.mounts) c.grow-grown.ensures.does c.in-Err.kind c.in-Err.is

pub see_covered-requires : goal.see_covered-requires
see_covered-requires g c = c.grow-grown.ensures.agree

pub returns-in-Ok-false-clause-frame : goal.returns-in-Ok-false-clause-frame
returns-in-Ok-false-clause-frame g c = g.met.T.Trace.goes_on _ _ _ c.grow-grown.ensures.frame c.signal.ensures.frame
