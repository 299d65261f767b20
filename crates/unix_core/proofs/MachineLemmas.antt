-- What the next slot finds, and what a tick does to the process that runs.
use Rattle.std.proofs.Common.{◌≡◌, ◌<◌, ◌==◌, if◌then◌else◌, ℕ, Bool, true, false, map, Option, Some, None, refl, sym, ap, ◌∙◌, subst, arith}
use Rattle.std.proofs.lemmas.Bool.{ne_eqb}
use Rattle.u_area.specs.declared.layout.TheConstants.{NOTHING_PENDING}
use Rattle.u_area.specs.declared.area.UArea.{UArea}
use Rattle.pick_rules.specs.declared.row.Mode.{Mode}
use Rattle.pick_rules.specs.declared.row.Mode.TheVariants.{User, Kernel, Idle}
use Rattle.pick_rules.specs.Choice.{settle}
use Rattle.image_keep.specs.declared.running.Fixed.{Fixed}
use Rattle.image_keep.specs.Kept.{Kept, with_area, area_of}
use Rattle.image_keep.specs.State.{ImagesState}
use Rattle.sys_procs.specs.Process.{Process}
use Rattle.sys_procs.specs.Handed.{IsAlive}
use Rattle.sys_procs.proofs.Alive.{area_here}
use Rattle.image_keep.proofs.Frames.{with_area_texts}
use Rattle.sys_procs.specs.Agree.{text_place}
use Rattle.unix_core.specs.declared.world.World.{World}
use Rattle.unix_core.specs.declared.machine.Stage.{Stage}
use Rattle.unix_core.specs.declared.machine.Stage.TheVariants as stage
use Rattle.abstract_unix.specs.Unix.{process_of, with_process}
use Rattle.abstract_unix.specs.Turn.{is_user}
use Rattle.abstract_unix.specs.Outside.{mode_by, mode_of, timed_area, timed, charged}
use Rattle.unix_core.specs.Slots.{IsCounted}
use Rattle.unix_core.specs.Parts.{unix_of, board_in, system_at, IsGood, IsReady, IsUser, IsRunning, IsKernel, IsKnown}
use Rattle.unix_core.proofs.LoanLemmas.{area_core}
use Rattle.unix_core.proofs.PutLemmas.{good_alive, IsLikeArea, with_images, with_kept, unix_put, good_put}

-- what is fixed in a stage, and else this
abbrev pub fixed_or : Fixed → Stage → Fixed
fixed_or f (stage.Running g) = g
fixed_or f at = f

pub runs_kernel : (w : World) (f : Fixed) → IsRunning f w → IsCounted w.slots (unix_of w) → IsKernel (stage.Running f) w
runs_kernel w f running counted = record {
  new = λ e. absurd (cc e);
  stopped = λ e. absurd (cc e);
  finished = λ e. absurd (cc e);
  running = λ g e. subst (λ x. IsRunning x w) (ap (fixed_or f) e) running;
  resting = λ e. absurd (cc e);
  counted = λ goes. counted;
  within = counted.timed.within;
}

-- a process executes instructions, of which it is known what stays fixed
pub known_kernel : (at : Stage) (w : World) (s : ℕ) → IsKnown at w s → IsReady w s → settle w.procs.table ≡ None → is_user (process_of (unix_of w) s) ≡ true
    → IsCounted w.slots (unix_of w) → IsKernel at w
known_kernel at w s known ready settled user counted =
    subst (λ (x : Stage). IsKernel x w) (sym known.stage) (runs_kernel w known.fixed (record {
      user = subst (λ t. IsUser t w) (sym known.slot) (record { ready = ready; user = user; settled = settled });
      fixed = known.is;
    }) counted)

pub user_is : (w : World) (s : ℕ) (b : Bool) → IsAlive w.procs s → ((area_of w.procs.images.kept s).pending == NOTHING_PENDING) ≡ b → is_user (process_of (unix_of w) s) ≡ b
user_is w s b alive is = ap (λ (v : UArea). v.pending == NOTHING_PENDING) (sym (area_here w.procs s alive)) ∙ is

abbrev one_of : Option ℕ → ℕ
one_of None = 0
one_of (Some s) = s

pub calls_kernel : (w : World) (s : ℕ) → IsReady w s → settle w.procs.table ≡ None → is_user (process_of (unix_of w) s) ≡ false
    → IsCounted w.slots (unix_of w) → IsKernel stage.Resting w
calls_kernel w s ready settled calls counted = record {
  new = λ e. absurd (cc e);
  stopped = λ e. absurd (cc e);
  finished = λ e. absurd (cc e);
  running = λ f e. absurd (cc e);
  resting = λ e. record {
    good = ready.good;
    settled = λ r e. settled;
    idle = λ none. let runs = ready.runs in absurd (cc (none, runs));
    calls = λ r runs above. subst (λ x. is_user (process_of (unix_of w) x) ≡ false) (ap one_of (sym ready.runs ∙ runs)) calls;
  };
  counted = λ goes. counted;
  within = counted.timed.within;
}

-- where a tick comes
abbrev mode_if : Bool → Mode
mode_if b = if b then User else Kernel

pub mode_is : (w : World) (s : ℕ) (b : Bool) → IsGood w → w.procs.table.running ≡ Some s → 0 < s
    → ((area_of w.procs.images.kept s).pending == NOTHING_PENDING) ≡ b → mode_of (system_at w) ≡ (if b then User else Kernel)
mode_is w s b good runs above is =
    let alive = good_alive w s good runs above in
    ap (mode_by (unix_of w)) runs
    ∙ ap (λ c. if c then Kernel else (mode_if (is_user (process_of (unix_of w) s)))) (ne_eqb s 0 (λ e. omega (arith, e, above)))
    ∙ ap mode_if (user_is w s b alive is)

-- The process that runs is charged with a tick.
like_timed : (mode : Mode) (u : UArea) → IsLikeArea (timed_area mode u) u
like_timed User u = record { clicks = refl; files = refl; dir = refl; pending = refl; call = refl }
like_timed Kernel u = record { clicks = refl; files = refl; dir = refl; pending = refl; call = refl }
like_timed Idle u = record { clicks = refl; files = refl; dir = refl; pending = refl; call = refl }

-- what it leaves
pub record IsCharged (mode : Mode) (w now : World) : Type 0 where
  pub good : IsGood now
  pub unix : unix_of now ≡ charged (unix_of w) mode w.procs.table.running
  pub board : board_in now ≡ board_in w

module _ (mode : Mode) (w : World) (s : ℕ) (good : IsGood w) (runs : w.procs.table.running ≡ Some s) (above : 0 < s)
    (x : ImagesState) (kept : x.kept ≡ with_area w.procs.images.kept s (timed_area mode (area_of w.procs.images.kept s))) where
  abbrev who : Process
  who = process_of (unix_of w) s

  abbrev u : UArea
  u = timed_area mode (area_of w.procs.images.kept s)

  lives : IsAlive w.procs s
  lives = good_alive w s good runs above

  charge_is : u ≡ timed_area mode who.u
  charge_is = ap (timed_area mode) (area_here w.procs s lives)

  charge_like : IsLikeArea u who.u
  charge_like = subst (λ v. IsLikeArea v who.u) (sym charge_is) (like_timed mode who.u)

  charge_unix : unix_of (with_images w x) ≡ charged (unix_of w) mode w.procs.table.running
  charge_unix =
      ap (λ (l : Kept). unix_of (with_kept w x l)) kept
      ∙ unix_put w x s u lives
      ∙ ap (λ (v : UArea). with_process (unix_of w) s (record who { u = v })) charge_is
      ∙ sym (ap (charged (unix_of w) mode) runs
      ∙ ap (λ c. if c then unix_of w else with_process (unix_of w) s (timed mode who)) (ne_eqb s 0 (λ e. omega (arith, e, above))))

  pub is_charged : (m : Mode) → m ≡ mode → IsCharged m w (with_images w x)
  is_charged m is =
      let done : IsCharged mode w (with_images w x) = record {
        good = subst (λ (l : Kept). IsGood (with_kept w x l)) (sym kept) (good_put w x s u lives charge_like good);
        unix = charge_unix;
        board = ap (λ (l : Kept). board_in (with_kept w x l)) kept
            ∙ (λ i. record (board_in w) { texts = map text_place ((with_area_texts w.procs.images.kept s u).texts i); core = area_core w.procs.images.kept s u i });
      } in
      subst (λ n. IsCharged n w (with_images w x)) (sym is) done
