use Rattle.std.proofs.Common.{◌≡◌, ◌∙◌, ℕ, List, Bool, true, false, slice_index, Result, Ok, sym, ap, refl}
use Rattle.v6_base.specs.declared.answer.Answer.{Answer}
use Rattle.v6_base.specs.declared.answer.Answer.TheVariants.{Ret, Fail}
use Rattle.v6_base.specs.declared.entry.PanicKind.{PanicKind}
use Rattle.v6_base.specs.declared.errno.Errno.TheVariants.{ENOMEM}
use Rattle.seg_regs.specs.Sizes.{is_refused}
use Rattle.u_area.specs.declared.area.UArea.{UArea}
use Rattle.u_area.specs.Area.{fetched}
use Rattle.fs_nodes.specs.FileSystem.{FileSystem}
use Rattle.sys_procs.specs.declared.procs.Procs.{Procs}
use Rattle.sys_procs.specs.Break.{sized, expands, clicks_up_to}
use Rattle.sys_procs.specs.World.{World}
use Rattle.sys_procs.specs.Handed.{handed}
use Rattle.sys_procs.proofs.Alive.{calls_alive}
use Rattle.sys_procs.proofs.Dones.{answer_stays, done_none, done_as, done_on, done_stopped, ended_as}
use Rattle.sys_procs.proofs.GrowCalls.{as_error, as_made, break_row}
use Rattle.sys_procs.proofs.growth.break_at.Goals as goal

-- whether sizes are refused, by all three
abbrev refused_by : List ℕ → ℕ → ℕ → Bool
refused_by l d most = is_refused (slice_index l 0) d (slice_index l 2) most

-- The sizes are refused.
pub returns-then-is_err-clause-does : goal.returns-then-is_err-clause-does
returns-then-is_err-clause-does g c =
    let w : World = handed c.args.p.now c.args.tree.now.nodes in
    let u : UArea = fetched c.area_bytes-area.result.now in
    let refused : refused_by c.sizes.result c.clicks_up_to-d.result c.limit.result ≡ true = as_error _ _ c.make.result (sym c.if-is_err.ensures.value) c.make.ensures in
    done_none w (Fail ENOMEM)
    (break_row w c.args.s (slice_index c.args.args 0) u c.clicks_up_to-d.result c.limit.result true c.area_bytes-area.ensures.read
    (c.clicks_up_to-d.ensures ∙ ap (λ (l : List ℕ). clicks_up_to (slice_index l 0) (slice_index c.args.args 0)) c.sizes.ensures) c.limit.ensures
    (ap (λ (l : List ℕ). refused_by l c.clicks_up_to-d.result c.limit.result) (sym c.sizes.ensures) ∙ refused))
    refl refl refl

-- They are allowed, and the image finds a place.
pub returns-in-Ok-clause-does : goal.returns-in-Ok-clause-does
returns-in-Ok-clause-does g c =
    let p : Procs = c.args.p.now in
    let fs : FileSystem = c.args.tree.now.nodes in
    let u : UArea = fetched c.area_bytes-area.result.now in
    let done : Answer → Result Answer PanicKind = λ a. Ok a in
    let allowed : refused_by c.sizes.result c.clicks_up_to-d.result c.limit.result ≡ false =
    as_made _ _ _ c.make.result (sym c.if-is_err.ensures.value) c.make.ensures (λ proto made. made.0) in
    done_as (break_row (handed p fs) c.args.s (slice_index c.args.args 0) u c.clicks_up_to-d.result c.limit.result false c.area_bytes-area.ensures.read
    (c.clicks_up_to-d.ensures ∙ ap (λ (l : List ℕ). clicks_up_to (slice_index l 0) (slice_index c.args.args 0)) c.sizes.ensures) c.limit.ensures
    (ap (λ (l : List ℕ). refused_by l c.clicks_up_to-d.result c.limit.result) (sym c.sizes.ensures) ∙ allowed))
    (done_on tt c.in-Ok.is
    (ap done ((λ i. Ret (c.register-r0.ensures i) (c.register-r1.ensures i)) ∙ answer_stays p fs c.args.s (sized c.clicks_up_to-d.result u.stack_size) u
    (calls_alive p fs c.args.s c.requires) c.area_bytes-area.ensures.read (λ q. refl)))
    (ended_as (ap (λ (l : List ℕ). expands (handed p fs) c.args.s c.clicks_up_to-d.result (slice_index l 2)) c.sizes.ensures)
    (c.expand.ensures.does c.args.tree.now.nodes)))

-- They are allowed, and it finds none.
pub returns-in-Err-clause-does : goal.returns-in-Err-clause-does
returns-in-Err-clause-does g c =
    let p : Procs = c.args.p.now in
    let fs : FileSystem = c.args.tree.now.nodes in
    let u : UArea = fetched c.area_bytes-area.result.now in
    let allowed : refused_by c.sizes.result c.clicks_up_to-d.result c.limit.result ≡ false =
    as_made _ _ _ c.make.result (sym c.if-is_err.ensures.value) c.make.ensures (λ proto made. made.0) in
    done_as (break_row (handed p fs) c.args.s (slice_index c.args.args 0) u c.clicks_up_to-d.result c.limit.result false c.area_bytes-area.ensures.read
    (c.clicks_up_to-d.ensures ∙ ap (λ (l : List ℕ). clicks_up_to (slice_index l 0) (slice_index c.args.args 0)) c.sizes.ensures) c.limit.ensures
    (ap (λ (l : List ℕ). refused_by l c.clicks_up_to-d.result c.limit.result) (sym c.sizes.ensures) ∙ allowed))
    (done_stopped c.in-Err.kind c.in-Err.is
    (ended_as (ap (λ (l : List ℕ). expands (handed p fs) c.args.s c.clicks_up_to-d.result (slice_index l 2)) c.sizes.ensures)
    (c.expand.ensures.does c.args.tree.now.nodes)))
