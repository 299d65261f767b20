use Rattle.std.proofs.Common.{◌≡◌, ◌∙◌, ℕ, ◌*◌, ◌%◌, slice_index, ap, subst}
use Rattle.v6_base.specs.Trace.{Took}
use Rattle.pick_rules.specs.Logged.{logged}
use Rattle.u_area.specs.declared.area.UArea.{UArea}
use Rattle.u_area.specs.Area.{fetched}
use Rattle.image_keep.specs.Kept.{area_of}
use Rattle.sys_procs.specs.Exit.{exit_status}
use Rattle.unix_core.specs.declared.world.World.{World}
use Rattle.abstract_unix.specs.Unix.{process_of}
use Rattle.abstract_unix.specs.Calls.{exits_with}
use Rattle.unix_core.specs.Parts.{unix_of, board_in, HasCome, IsReady}
use Rattle.unix_core.proofs.AreaLemmas.{own_area}
use Rattle.unix_core.proofs.process.exit.Goals as goal

-- the status that stands in R0
status : (w : World) (s : ℕ) (u : UArea) (r0 : ℕ) → IsReady w s → u ≡ area_of w.procs.images.kept s → r0 ≡ slice_index u.r 0 → 256 * (r0 % 256) ≡ exit_status (process_of (unix_of w) s)
status w s u r0 ready is read = ap (λ n. 256 * (n % 256)) (read ∙ ap (λ (v : UArea). slice_index v.r 0) (is ∙ own_area w s ready))

pub area_bytes-requires : goal.area_bytes-requires
area_bytes-requires g c = c.requires.ready.good.running c.args.s c.requires.ready.runs c.requires.ready.user

pub returns-clause-come : goal.returns-clause-come
returns-clause-come g c =
    let w : World = c.args.world.now in
    subst (λ n. HasCome (board_in w) (exits_with (unix_of w) c.args.s n) c.end_with.result c.end_with.new.world)
    (status w c.args.s (fetched c.area_bytes.result.now) c.register-r0.result c.requires.ready c.area_bytes.ensures.read c.register-r0.ensures) c.end_with.ensures.come

pub returns-clause-items : goal.returns-clause-items
returns-clause-items g c =
    let w : World = c.args.world.now in
    subst (λ n. Took (g.T.Trace.taken c.args.trace.now) (logged (board_in w) (exits_with (unix_of w) c.args.s n).effects).items (g.T.Trace.taken c.end_with.new.trace))
    (status w c.args.s (fetched c.area_bytes.result.now) c.register-r0.result c.requires.ready c.area_bytes.ensures.read c.register-r0.ensures) c.end_with.ensures.items
