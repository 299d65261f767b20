-- A process goes on with its routine for a signal, after its stack has grown.
use Rattle.std.proofs.Common.{◌≡◌, ◌∙◌, ℕ, Bool, [], refl, ap, subst}
use Rattle.std.specs.Prelude.{Result, Ok, Err}
use Rattle.v6_base.specs.Trace.{Taken, Took}
use Rattle.v6_base.proofs.Took.{took_nothing}
use Rattle.v6_base.specs.declared.entry.PanicKind.{PanicKind}
use Rattle.pick_rules.specs.Logged.{logged}
use Rattle.fs_nodes.specs.FileSystem.{IsFileSystem}
use Rattle.sig_core.specs.Delivery.{signal_stack}
use Rattle.sys_procs.specs.World as its
use Rattle.sys_procs.specs.Comes.{Comes}
use Rattle.sys_procs.specs.Break.{grow, grown_or_not}
use Rattle.sys_procs.specs.Done.{HasGrown}
use Rattle.abstract_unix.specs.declared.ending.Ending.TheVariants.{Trapped, Panic}
use Rattle.abstract_unix.specs.Unix.{Unix, process_of}
use Rattle.abstract_unix.specs.Steps.{Steps, returns, after_effects}
use Rattle.abstract_unix.specs.Calls.{with_world, world_of, grows}
use Rattle.abstract_unix.specs.Delivery.{interrupted, calls_routine, catches}
use Rattle.unix_core.specs.declared.world.World.{World}
use Rattle.unix_core.specs.Parts.{unix_of, board_in, IsReady, HasCome}
use Rattle.unix_core.proofs.CameLemmas.{given, StaysBeside, world_is}
use Rattle.unix_core.proofs.GrowthLemmas.{growth, its_row, shown, bare, grows_unix, grows_come, grows_took, grows_stop, grows_cut}

module _ (w now : World) (s sp sig : ℕ) (ready : IsReady w s) (form : IsFileSystem w.files.tree.nodes) (stays : StaysBeside w now)
    (address : sp ≡ signal_stack (process_of (unix_of w) s).u) {r : Result Bool PanicKind} {start end : Taken}
    (does : HasGrown w.procs now.procs now.files.tree.nodes (given w) s r start end (growth w s sp)) where
  abbrev c : Comes
  c = its_row w now s sp ready form stays does

  abbrev rest : Steps
  rest = returns (interrupted (with_world (unix_of w) c.state) s sig)

  abbrev by_world : its.World → ℕ → Steps
  by_world x at = calls_routine s sig (grows (unix_of w) (grown_or_not x s (grow x s at)))

  whole : after_effects (shown w now s sp ready form stays does) rest ≡ catches (unix_of w) s sig
  whole =
      bare (shown w now s sp ready form stays does) (interrupted (with_world (unix_of w) c.state) s sig) Trapped
      ∙ ap (λ x. by_world x sp) (world_is w s ready form)
      ∙ ap (λ at. by_world (world_of (unix_of w)) at) address

  -- The stack has grown, or it needn't or can't, and the process has been told.
  module _ (grown : Bool) (ok : r ≡ Ok grown) where
    pub caught_come : (fin : World) → unix_of fin ≡ interrupted (unix_of now) s sig → board_in fin ≡ board_in now → HasCome (board_in w) (catches (unix_of w) s sig) Trapped fin
    caught_come fin unix board =
        subst (λ x. HasCome (board_in w) x Trapped fin) whole
        (grows_come w now s sp ready form stays does grown ok rest Trapped fin
        (record { ending = refl; unix = unix ∙ ap (λ (u : Unix). interrupted u s sig) (grows_unix w now s sp ready form stays does grown ok); board = board }))

    pub caught_took : Took start (logged (board_in w) (catches (unix_of w) s sig).effects).items end
    caught_took =
        subst (λ (x : Steps). Took start (logged (board_in w) x.effects).items end) whole
        (grows_took w now s sp ready form stays does grown ok rest end (took_nothing end [] refl))

  -- Neither core nor the swap area has room.
  module _ (kind : PanicKind) (err : r ≡ Err kind) where
    pub catch_stops : HasCome (board_in w) (catches (unix_of w) s sig) (Panic kind) now
    catch_stops = subst (λ x. HasCome (board_in w) x (Panic kind) now) whole (grows_stop w now s sp ready form stays does kind err rest)

    pub catch_cut : Took start (logged (board_in w) (catches (unix_of w) s sig).effects).items end
    catch_cut =
        subst (λ (x : Steps). Took start (logged (board_in w) x.effects).items end) whole (grows_cut w now s sp ready form stays does kind err rest)
