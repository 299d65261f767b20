-- The u area of the process that runs is another one, which names the same files and the same directory.
use Rattle.std.proofs.Common.{◌≡◌, ◌∙◌, ◌==◌, ℕ, get_or, Some, None, true, refl, sym, ap, subst}
use Rattle.std.specs.Prelude.{unwrap_or}
use Rattle.std.proofs.lemmas.List.{get_or-set_same}
use Rattle.std.proofs.lemmas.Bool.{eqb-true}
use Rattle.u_area.specs.declared.layout.TheConstants.{NOTHING_PENDING}
use Rattle.u_area.specs.declared.area.UArea.{UArea}
use Rattle.image_keep.specs.Kept.{Kept, with_area, area_of}
use Rattle.image_keep.specs.State.{ImagesState}
use Rattle.sys_procs.proofs.Alive.{area_here}
use Rattle.unix_core.specs.declared.world.World.{World}
use Rattle.sys_procs.specs.Process.{Process, no_process}
use Rattle.abstract_unix.proofs.Owing.{some_within}
use Rattle.abstract_unix.specs.Unix.{Unix, process_of, with_process}
use Rattle.abstract_unix.specs.Turn.{is_user}
use Rattle.abstract_unix.specs.declared.ending.Ending.TheVariants.{Trapped}
use Rattle.abstract_unix.specs.Steps.{returns}
use Rattle.abstract_unix.specs.Calls as calls
use Rattle.unix_core.specs.Parts.{unix_of, board_in, IsReady, HasCome}
use Rattle.unix_core.proofs.WorldLemmas.{ready_alive, slot_is}
use Rattle.unix_core.proofs.PutLemmas.{IsLikeArea, with_images, with_kept, unix_put, board_put, good_put}

-- the u area of who runs
pub own_area : (w : World) (s : ℕ) → IsReady w s → area_of w.procs.images.kept s ≡ (process_of (unix_of w) s).u
own_area w s ready = area_here w.procs s (ready_alive w s ready)

module _ (w : World) (x : ImagesState) (s : ℕ) (ready : IsReady w s) (u : UArea) where
  abbrev pub with_its_area : World
  with_its_area = with_kept w x (with_area w.procs.images.kept s u)

  pub area_unix : unix_of with_its_area ≡ with_process (unix_of w) s (record (process_of (unix_of w) s) { u = u })
  area_unix = unix_put w x s u (ready_alive w s ready)

  pub area_board : board_in with_its_area ≡ board_in w
  area_board = board_put w x s u (ready_alive w s ready)

  pub area_ready : IsLikeArea u (process_of (unix_of w) s).u → IsReady with_its_area s
  area_ready like = record { good = good_put w x s u (ready_alive w s ready) like ready.good; runs = ready.runs; user = ready.user }

-- who is in user mode goes on with no call
pub none_pending : (p : Process) → is_user p ≡ true → p.u.pending ≡ NOTHING_PENDING
none_pending p user = eqb-true p.u.pending NOTHING_PENDING user

-- a process that is put in a slot is there
pub own_put : (u : Unix) (s : ℕ) (p q : Process) → get_or u.processes s None ≡ Some p → process_of (with_process u s q) s ≡ q
own_put u s p q is = ap (λ o. unwrap_or o no_process) (get_or-set_same u.processes s (Some q) None (some_within u.processes s p is))

-- The u area of who runs has become another one by a rule: the process comes out of a trap with it.
module _ (w : World) (s : ℕ) (ready : IsReady w s) (rule : UArea → UArea) (x : ImagesState)
    (is : x.kept ≡ with_area w.procs.images.kept s (rule (area_of w.procs.images.kept s))) where
  abbrev ruled : World
  ruled = with_images w x

  own_is : x.kept ≡ with_area w.procs.images.kept s (rule (process_of (unix_of w) s).u)
  own_is = is ∙ ap (λ u. with_area w.procs.images.kept s (rule u)) (own_area w s ready)

  pub ruled_unix : unix_of ruled ≡ calls.with_area (unix_of w) s rule
  ruled_unix = ap (λ (k : Kept). unix_of (with_kept w x k)) own_is ∙ area_unix w x s ready (rule (process_of (unix_of w) s).u)

  pub ruled_board : board_in ruled ≡ board_in w
  ruled_board = ap (λ (k : Kept). board_in (with_kept w x k)) own_is ∙ area_board w x s ready (rule (process_of (unix_of w) s).u)

  pub ruled_ready : IsLikeArea (rule (process_of (unix_of w) s).u) (process_of (unix_of w) s).u → IsReady ruled s
  ruled_ready like = subst (λ (k : Kept). IsReady (with_kept w x k) s) (sym own_is) (area_ready w x s ready (rule (process_of (unix_of w) s).u) like)

  pub ruled_come : HasCome (board_in w) (returns (calls.with_area (unix_of w) s rule)) Trapped ruled
  ruled_come = record { ending = refl; unix = ruled_unix; board = ruled_board }

  pub ruled_user : (rule (process_of (unix_of w) s).u).pending ≡ (process_of (unix_of w) s).u.pending → is_user (process_of (unix_of w) s) ≡ true
      → is_user (process_of (unix_of ruled) s) ≡ true
  ruled_user same user =
      ap (λ (u : Unix). is_user (process_of u s)) ruled_unix
      ∙ ap is_user (own_put (unix_of w) s (process_of (unix_of w) s) (record (process_of (unix_of w) s) { u = rule (process_of (unix_of w) s).u }) (slot_is w s ready))
      ∙ ap (λ n. n == 0) same ∙ user
