use Rattle.std.proofs.Common.{◌≡◌, ◌∙◌, ◌+◌, ◌-◌, ◌%◌, ℕ, List, slice_index, sym, ap, subst}
use Rattle.fs_nodes.specs.FileSystem.{SameRest}
use Rattle.u_area.specs.declared.area.UArea.{UArea}
use Rattle.u_area.specs.Area.{fetched}
use Rattle.image_keep.specs.Kept.{area_of}
use Rattle.image_keep.specs.State.{ImagesState}
use Rattle.abstract_unix.specs.declared.ending.Ending.TheVariants.{Trapped}
use Rattle.abstract_unix.specs.Delivery.{catches}
use Rattle.sig_core.specs.Delivery.{signal_stack}
use Rattle.abstract_unix.specs.Unix.{process_of}
use Rattle.unix_core.specs.declared.world.World.{World}
use Rattle.unix_core.specs.Parts.{unix_of, board_in, HasCome, IsReady}
use Rattle.unix_core.proofs.PutLemmas.{with_images}
use Rattle.unix_core.proofs.AreaLemmas.{own_area}
use Rattle.unix_core.proofs.CameLemmas.{after, beside, ready_calls, over_then}
use Rattle.unix_core.proofs.GrowthLemmas.{grows_ready, grows_handlers, grows_runs}
use Rattle.abstract_unix.specs.Steps.{returns}
use Rattle.unix_core.proofs.CatchLemmas.{caught_come, caught_took, catch_stops, catch_cut}
use Rattle.unix_core.proofs.DeliveryLemmas.{told_ready, told_unix, told_board}
use Rattle.unix_core.proofs.delivery.catch.Goals as goal

-- where the stack has to reach
address : (w : World) (s : ℕ) (u : UArea) (r6 : ℕ) → IsReady w s → u ≡ area_of w.procs.images.kept s → r6 ≡ slice_index u.r 6 → (r6 + (65536 - 4)) % 65536 ≡ signal_stack (process_of (unix_of w) s).u
address w s u r6 ready is read = ap (λ n. (n + (65536 - 4)) % 65536) (read ∙ ap (λ (v : UArea). slice_index v.r 6) (is ∙ own_area w s ready))

pub area_bytes-requires : goal.area_bytes-requires
area_bytes-requires g c = c.requires.ready.good.running c.args.s c.requires.ready.runs c.requires.ready.user

pub grow-requires : goal.grow-requires
grow-requires g c = ready_calls c.args.world.now c.args.s c.requires.ready c.see_table.ensures c.see_kept.ensures

pub tell-caught-requires-clause-image : goal.tell-caught-requires-clause-image
tell-caught-requires-clause-image g c =
    let w : World = c.args.world.now in
    let e = c.grow.ensures in
    let then_ready = grows_ready w (after w c.grow.new.tree c.grow.new.p) c.args.s _ c.requires.ready c.see.ensures (beside w c.grow.new.tree c.grow.new.p c.grow.ensures.mounts)
    e.does c.in-Ok.field-0 c.in-Ok.is e.agree e.marks in
    then_ready.good.running c.args.s then_ready.runs then_ready.user

pub tell-caught-requires-clause-heeded : goal.tell-caught-requires-clause-heeded
tell-caught-requires-clause-heeded g c =
    let w : World = c.args.world.now in
    let now : World = after w c.grow.new.tree c.grow.new.p in
    let e = c.grow.ensures in
    let grown = grows_ready w now c.args.s _ c.requires.ready c.see.ensures (beside w c.grow.new.tree c.grow.new.p c.grow.ensures.mounts) e.does c.in-Ok.field-0 c.in-Ok.is e.agree e.marks in
    let same = ap (λ (u : UArea). u.handlers) (own_area now c.args.s grown)
    ∙ grows_handlers w now c.args.s _ c.requires.ready c.see.ensures (beside w c.grow.new.tree c.grow.new.p c.grow.ensures.mounts) e.does c.in-Ok.field-0 c.in-Ok.is
    ∙ ap (λ (u : UArea). u.handlers) (sym (own_area w c.args.s c.requires.ready)) in
    ap (λ (l : List ℕ). slice_index l c.args.sig % 2) same ∙ c.requires.heeded

pub returns-in-Ok-clause-come : goal.returns-in-Ok-clause-come
returns-in-Ok-clause-come g c =
    let w : World = c.args.world.now in
    let s = c.args.s in
    let sig = c.args.sig in
    let now : World = after w c.grow.new.tree c.grow.new.p in
    let stays = beside w c.grow.new.tree c.grow.new.p c.grow.ensures.mounts in
    let e = c.grow.ensures in
    let t = c.tell-caught.ensures in
    let k : ImagesState = c.tell-caught.new.world.procs.images in
    let grown = grows_ready w now s _ c.requires.ready c.see.ensures stays e.does c.in-Ok.field-0 c.in-Ok.is e.agree e.marks in
    subst (λ x. HasCome (board_in w) (catches (unix_of w) s sig) Trapped x) (sym t.others)
    (caught_come w now s _ sig c.requires.ready c.see.ensures stays (address w s (fetched c.area_bytes.result.now) c.register-sp.result c.requires.ready c.area_bytes.ensures.read c.register-sp.ensures) e.does c.in-Ok.field-0 c.in-Ok.is
    (with_images now k) (told_unix now s grown t.holds sig k t.images) (told_board now s grown t.holds sig k t.images))

pub returns-in-Ok-clause-ready : goal.returns-in-Ok-clause-ready
returns-in-Ok-clause-ready g c goes =
    let w : World = c.args.world.now in
    let s = c.args.s in
    let now : World = after w c.grow.new.tree c.grow.new.p in
    let e = c.grow.ensures in
    let t = c.tell-caught.ensures in
    let grown = grows_ready w now s _ c.requires.ready c.see.ensures (beside w c.grow.new.tree c.grow.new.p c.grow.ensures.mounts) e.does c.in-Ok.field-0 c.in-Ok.is e.agree e.marks in
    subst (λ x. IsReady x s) (sym t.others) (told_ready now s grown t.holds c.args.sig c.tell-caught.new.world.procs.images t.images)

pub returns-in-Ok-clause-items : goal.returns-in-Ok-clause-items
returns-in-Ok-clause-items g c =
    let w : World = c.args.world.now in
    caught_took w (after w c.grow.new.tree c.grow.new.p) c.args.s _ c.args.sig c.requires.ready c.see.ensures (beside w c.grow.new.tree c.grow.new.p c.grow.ensures.mounts)
    (address w c.args.s (fetched c.area_bytes.result.now) c.register-sp.result c.requires.ready c.area_bytes.ensures.read c.register-sp.ensures) c.grow.ensures.does c.in-Ok.field-0 c.in-Ok.is

pub returns-in-Ok-clause-rest : goal.returns-in-Ok-clause-rest
returns-in-Ok-clause-rest g c =
    subst (λ (x : World). SameRest c.args.world.now.files.tree.nodes x.files.tree.nodes) (sym c.tell-caught.ensures.others) c.grow.ensures.blocks

pub returns-in-Err-clause-come : goal.returns-in-Err-clause-come
returns-in-Err-clause-come g c =
    let w : World = c.args.world.now in
    catch_stops w (after w c.grow.new.tree c.grow.new.p) c.args.s _ c.args.sig c.requires.ready c.see.ensures (beside w c.grow.new.tree c.grow.new.p c.grow.ensures.mounts)
    (address w c.args.s (fetched c.area_bytes.result.now) c.register-sp.result c.requires.ready c.area_bytes.ensures.read c.register-sp.ensures) c.grow.ensures.does c.in-Err.kind c.in-Err.is

pub returns-in-Err-clause-ready : goal.returns-in-Err-clause-ready
returns-in-Err-clause-ready g c goes = over_then c.in-Err.kind goes

pub returns-in-Err-clause-items : goal.returns-in-Err-clause-items
returns-in-Err-clause-items g c =
    let w : World = c.args.world.now in
    catch_cut w (after w c.grow.new.tree c.grow.new.p) c.args.s _ c.args.sig c.requires.ready c.see.ensures (beside w c.grow.new.tree c.grow.new.p c.grow.ensures.mounts)
    (address w c.args.s (fetched c.area_bytes.result.now) c.register-sp.result c.requires.ready c.area_bytes.ensures.read c.register-sp.ensures) c.grow.ensures.does c.in-Err.kind c.in-Err.is

pub see_covered-requires : goal.see_covered-requires
see_covered-requires g c = c.grow.ensures.agree

pub returns-in-Ok-clause-runs : goal.returns-in-Ok-clause-runs
returns-in-Ok-clause-runs g c =
    let w : World = c.args.world.now in
    let e = c.grow.ensures in
    let grown = grows_ready w (after w c.grow.new.tree c.grow.new.p) c.args.s _ c.requires.ready c.see.ensures (beside w c.grow.new.tree c.grow.new.p c.grow.ensures.mounts)
    e.does c.in-Ok.field-0 c.in-Ok.is e.agree e.marks in
    ap (λ (x : World). x.procs.table.running) c.tell-caught.ensures.others ∙ grown.runs

pub returns-in-Err-clause-runs : goal.returns-in-Err-clause-runs
returns-in-Err-clause-runs g c =
    let w : World = c.args.world.now in
    grows_runs w (after w c.grow.new.tree c.grow.new.p) c.args.s _ c.requires.ready c.see.ensures (beside w c.grow.new.tree c.grow.new.p c.grow.ensures.mounts)
    c.grow.ensures.does c.in-Err.kind c.in-Err.is (returns (unix_of w))
