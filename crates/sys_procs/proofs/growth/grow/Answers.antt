use Rattle.std.proofs.Common.{◌≡◌, ◌∙◌, ℕ, List, slice_index, Option, None, Some, false, sym, ap, refl}
use Rattle.seg_regs.specs.Sizes.{is_refused}
use Rattle.u_area.specs.declared.area.UArea.{UArea}
use Rattle.u_area.specs.Area.{fetched}
use Rattle.sys_procs.specs.Break.{expands, grown_stack}
use Rattle.sys_procs.specs.Handed.{handed}
use Rattle.sys_procs.proofs.Dones.{ended_as, grown_none, grown_on, grown_no_further}
use Rattle.sys_procs.proofs.GrowCalls.{grow_row, grown_allowed}
use Rattle.sys_procs.proofs.growth.grow.Goals as goal

-- by the three sizes
abbrev grown_by : List ℕ → ℕ → ℕ → Option ℕ
grown_by l most sp = grown_stack (slice_index l 0) (slice_index l 1) (slice_index l 2) most sp

pub expand-requires-clause-sizes : goal.expand-requires-clause-sizes
expand-requires-clause-sizes g c =
    let u : UArea = fetched c.area_bytes.result.now in
    let grows : grown_stack u.text_size u.data_size u.stack_size c.limit.result c.args.sp ≡ Some c.in-Some.stack =
    ap (λ (l : List ℕ). grown_by l c.limit.result c.args.sp) (sym c.sizes.ensures) ∙ (sym c.grown_stack.ensures ∙ c.in-Some.is) in
    let allowed : is_refused u.text_size u.data_size c.in-Some.stack c.limit.result ≡ false =
    grown_allowed u.text_size u.data_size u.stack_size c.limit.result c.args.sp c.in-Some.stack grows in
    (λ i. is_refused (sym c.area_bytes.ensures.read i).text_size (slice_index (c.sizes.ensures i) 1) c.in-Some.stack (sym c.limit.ensures i)) ∙ allowed

-- It doesn't grow.
pub returns-in_default-clause-does : goal.returns-in_default-clause-does
returns-in_default-clause-does g c =
    let u : UArea = fetched c.area_bytes.result.now in
    grown_none _ _
    (grow_row (handed c.args.p.now c.args.tree.now.nodes) c.args.s c.args.sp u c.limit.result None
    c.area_bytes.ensures.read c.limit.ensures
    (sym c.in_default.is ∙ (c.grown_stack.ensures ∙ ap (λ (l : List ℕ). grown_by l c.limit.result c.args.sp) c.sizes.ensures)))
    refl refl

-- It grows, and the image finds a place.
pub returns-in-Ok-clause-does : goal.returns-in-Ok-clause-does
returns-in-Ok-clause-does g c =
    let u : UArea = fetched c.area_bytes.result.now in
    grown_on _ _ tt c.in-Ok.is
    (grow_row (handed c.args.p.now c.args.tree.now.nodes) c.args.s c.args.sp u c.limit.result
    (Some c.in-Some.stack) c.area_bytes.ensures.read c.limit.ensures
    (sym c.in-Some.is ∙ (c.grown_stack.ensures ∙ ap (λ (l : List ℕ). grown_by l c.limit.result c.args.sp) c.sizes.ensures)))
    (ended_as (ap (λ (l : List ℕ). expands (handed c.args.p.now c.args.tree.now.nodes) c.args.s (slice_index l 1) c.in-Some.stack) c.sizes.ensures)
    (c.expand.ensures.does c.args.tree.now.nodes))

-- It grows, and the image finds none.
pub returns-in-Err-clause-does : goal.returns-in-Err-clause-does
returns-in-Err-clause-does g c =
    let u : UArea = fetched c.area_bytes.result.now in
    grown_no_further _ _ c.in-Err.kind c.in-Err.is
    (grow_row (handed c.args.p.now c.args.tree.now.nodes) c.args.s c.args.sp u c.limit.result
    (Some c.in-Some.stack) c.area_bytes.ensures.read c.limit.ensures
    (sym c.in-Some.is ∙ (c.grown_stack.ensures ∙ ap (λ (l : List ℕ). grown_by l c.limit.result c.args.sp) c.sizes.ensures)))
    (ended_as (ap (λ (l : List ℕ). expands (handed c.args.p.now c.args.tree.now.nodes) c.args.s (slice_index l 1) c.in-Some.stack) c.sizes.ensures)
    (c.expand.ensures.does c.args.tree.now.nodes))
