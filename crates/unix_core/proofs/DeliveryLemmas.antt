-- A process has been told of a signal, and goes on with its routine, where it has one.
use Rattle.std.proofs.Common.{◌≡◌, ◌∙◌, ◌%◌, ◌==◌, ℕ, Bool, true, false, cond, if◌then◌else◌, List, length, get_or, set, Option, Some, inl, inr, refl, sym, ap, subst, arith}
use Rattle.std.proofs.lemmas.Bool.{eq-eqb, cases_lt}
use Rattle.std.proofs.lemmas.List.{set-set, set-get_or, set_past, get_or_past, get_or-set_same}
use Rattle.v6_base.specs.Image.{Image}
use Rattle.u_area.specs.declared.area.UArea.{UArea}
use Rattle.u_area.specs.Fields.{with_handler}
use Rattle.u_area.proofs.AreaLemmas.{one_area}
use Rattle.image_keep.specs.Kept.{Kept, area_of, image_of, with_area, with_image}
use Rattle.image_keep.specs.Kept as kept
use Rattle.image_keep.specs.Running.{with_state}
use Rattle.image_keep.specs.State.{ImagesState}
use Rattle.sig_core.specs.declared.psig.Delivered.TheVariants.{Caught, Ends}
use Rattle.sig_core.specs.Signals.{handler_of}
use Rattle.sig_core.specs.Delivery.{Delivery, makes_core, stays_set, handlers_after, caught, pushed, delivery}
use Rattle.sys_procs.specs.Process as one
use Rattle.sys_procs.specs.Process.{Process}
use Rattle.sys_procs.proofs.MemoryLemmas.{image_here}
use Rattle.abstract_unix.specs.Unix.{process_of, with_process}
use Rattle.abstract_unix.specs.Delivery.{interrupted}
use Rattle.unix_core.specs.declared.world.World.{World}
use Rattle.unix_core.specs.Parts.{unix_of, board_in, IsReady}
use Rattle.unix_core.proofs.WorldLemmas.{ready_alive}
use Rattle.unix_core.proofs.AreaLemmas.{own_area, area_unix, area_board, area_ready}
use Rattle.unix_core.proofs.PutLemmas.{IsLikeArea, with_images, with_kept}
use Rattle.unix_core.proofs.LoanLemmas.{area_back, area_alone}
use Rattle.unix_core.proofs.TurnSteps.{memory_ready}
use Rattle.unix_core.proofs.MemoryPut.{with_memory, memory_unix, memory_board, memory_process}

-- What a delivery leaves as it is.
module _ (u : UArea) (sig : ℕ) (m : Image) where
  abbrev by_handler : Bool → Delivery
  by_handler b =
      if b then record { area = u; image = m; answer = Ends (makes_core sig) } else record { area = caught u sig; image = pushed u m; answer = Caught }

  pub delivered_area : IsLikeArea (delivery u sig m).area u
  delivered_area = by (handler_of u sig == 0)
    where
      by : (b : Bool) → IsLikeArea (by_handler b).area u
      by true = record { clicks = refl; files = refl; dir = refl; pending = refl; call = refl }
      by false = record { clicks = refl; files = refl; dir = refl; pending = refl; call = refl }

  -- without a routine the process ends, and nothing has changed
  pub delivered_none : handler_of u sig ≡ 0 → delivery u sig m ≡ record { area = u; image = m; answer = Ends (makes_core sig) }
  delivered_none zero = ap by_handler (eq-eqb (handler_of u sig) 0 zero)

-- Of a u area that was told of a signal the registers and what that signal does are other ones at most.
zero_put : (l : List ℕ) (i : ℕ) → get_or (set l i 0) i 0 ≡ 0
zero_put l i = elim (cases_lt i (length l)) [
  | inl low ↦ get_or-set_same l i 0 0 low
  | inr past ↦ ap (λ (xs : List ℕ). get_or xs i 0) (set_past l i 0 past) ∙ get_or_past l i 0 past
]

told_handlers : (u : UArea) (sig : ℕ) → set u.handlers sig (get_or (handlers_after u sig) sig 0) ≡ handlers_after u sig
told_handlers u sig = by (stays_set sig)
  where
    by : (b : Bool) → let l : List ℕ = cond b u.handlers (set u.handlers sig 0) in set u.handlers sig (get_or l sig 0) ≡ l
    by true = set-get_or u.handlers sig 0
    by false = ap (set u.handlers sig) (zero_put u.handlers sig)

pub told_area : (u : UArea) (sig : ℕ) (m : Image) → let v : UArea = (delivery u sig m).area in with_handler (with_state u v.r v.cc) sig (get_or v.handlers sig 0) ≡ v
told_area u sig m = by (handler_of u sig == 0)
  where
    same : u.cc % 16 ≡ u.cc
    same = let c = u.codes in omega (arith, c)

    by : (b : Bool) → let v : UArea = (by_handler u sig m b).area in with_handler (with_state u v.r v.cc) sig (get_or v.handlers sig 0) ≡ v
    by true = one_area (with_handler (with_state u u.r u.cc) sig (get_or u.handlers sig 0)) u refl same
        refl refl refl refl refl refl refl refl refl refl refl refl refl refl refl (set-get_or u.handlers sig 0) refl
    by false = one_area (with_handler (with_state u (caught u sig).r u.cc) sig (get_or (handlers_after u sig) sig 0)) (caught u sig) refl same
        refl refl refl refl refl refl refl refl refl refl refl refl refl refl refl (told_handlers u sig) refl

module _ (w : World) (s : ℕ) (ready : IsReady w s) (holds : kept.IsKept w.procs.images.kept) (sig : ℕ) (x : ImagesState)
    (is : x.kept ≡ with_area (with_image w.procs.images.kept s (delivery (area_of w.procs.images.kept s) sig (image_of w.procs.images.kept s)).image) s
    (delivery (area_of w.procs.images.kept s) sig (image_of w.procs.images.kept s)).area) where
  abbrev told : World
  told = with_images w x

  abbrev p : Process
  p = process_of (unix_of w) s

  abbrev d : Delivery
  d = delivery p.u sig (one.image_of (unix_of w).texts p)

  abbrev mem : World
  mem = with_memory w x s (ready_alive w s ready) d.image

  mem_ready : IsReady mem s
  mem_ready = memory_ready w x s ready d.image

  its : x.kept ≡ with_area (with_image w.procs.images.kept s d.image) s d.area
  its =
      let own = own_area w s ready in
      let image : image_of w.procs.images.kept s ≡ one.image_of (unix_of w).texts p = sym (image_here w.procs s (ready_alive w s ready) holds) in
      is ∙ (λ i. with_area (with_image w.procs.images.kept s (delivery (own i) sig (image i)).image) s (delivery (own i) sig (image i)).area)

  like : IsLikeArea d.area (process_of (unix_of mem) s).u
  like =
      subst (λ (q : Process). IsLikeArea d.area q.u) (sym (memory_process w x s (ready_alive w s ready) d.image))
      (delivered_area p.u sig (one.image_of (unix_of w).texts p))

  pub told_ready : IsReady told s
  told_ready = subst (λ (k : Kept). IsReady (with_kept w x k) s) (sym its) (area_ready mem x s mem_ready d.area like)

  pub told_unix : unix_of told ≡ interrupted (unix_of w) s sig
  told_unix =
      let ps : List (Option Process) = (unix_of w).processes in
      let q : Process = record p { «data» = d.image.data; stack = d.image.stack } in
      ap (λ (k : Kept). unix_of (with_kept w x k)) its
      ∙ area_unix mem x s mem_ready d.area
      ∙ (λ i. with_process (memory_unix w x s (ready_alive w s ready) d.image i) s (record (memory_process w x s (ready_alive w s ready) d.image i) { u = d.area }))
      ∙ ap (λ l. record (unix_of w) { processes = l }) (set-set ps s (Some q) (Some (record q { u = d.area })))

  pub told_board : board_in told ≡ board_in w
  told_board = ap (λ (k : Kept). board_in (with_kept w x k)) its ∙ area_board mem x s mem_ready d.area ∙ memory_board w x s (ready_alive w s ready) d.image

  -- without a routine nothing has changed
  pub told_none : handler_of (area_of w.procs.images.kept s) sig ≡ 0 → x.kept ≡ w.procs.images.kept
  told_none zero =
      let none = delivered_none (area_of w.procs.images.kept s) sig (image_of w.procs.images.kept s) zero in
      is ∙ ap (λ (x : Delivery). with_area (with_image w.procs.images.kept s x.image) s x.area) none
      ∙ sym (area_alone w.procs.images.kept s (area_of w.procs.images.kept s))
      ∙ area_back w.procs.images.kept s (ready.good.running s ready.runs ready.user)
