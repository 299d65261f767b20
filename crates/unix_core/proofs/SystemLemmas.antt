-- What a call asks for, and how it goes on.
use Rattle.std.proofs.Common.{◌≡◌, ◌∙◌, ◌==◌, ℕ, true, false, if◌then◌else◌, slice_index, refl, sym, ap, subst}
use Rattle.u_area.specs.declared.layout.TheConstants.{DISK_WAIT}
use Rattle.u_area.specs.declared.area.UArea.{UArea}
use Rattle.u_area.specs.Pending.{is_on_files}
use Rattle.pdp_step.specs.declared.outcome.Outcome.TheVariants.{Call}
use Rattle.image_keep.specs.Kept.{Held, Has, Kept, image_in}
use Rattle.image_keep.specs.Kept as kept
use Rattle.image_keep.specs.State.{ImagesState}
use Rattle.sys_procs.specs.Process.{Process, register, image_of}
use Rattle.sys_files.specs.Moving.{resumes}
use Rattle.sys_procs.specs.Resume.{awake, resume_proc}
use Rattle.sys_procs.proofs.Alive.{is_here}
use Rattle.sys_procs.proofs.MemoryLemmas.{image_here}
use Rattle.unix_core.specs.declared.world.World.{World}
use Rattle.abstract_unix.specs.declared.asked.Asked.{Asked}
use Rattle.abstract_unix.specs.declared.calls.Sysent.{Sysent}
use Rattle.abstract_unix.specs.Unix.{Unix, process_of, with_process}
use Rattle.abstract_unix.specs.Steps.{Steps, returns}
use Rattle.abstract_unix.specs.Turn.{is_user, waits_in}
use Rattle.abstract_unix.specs.Calls.{handed_of, world_of, with_area, entered_area, words_passed, asked, did_by, came_by, sysent_of, waits_in_call, does_call, does_asked, resumed, system_call}
use Rattle.unix_core.specs.Parts.{unix_of, board_in, IsReady}
use Rattle.unix_core.proofs.WorldLemmas.{ready_alive}
use Rattle.unix_core.proofs.AreaLemmas.{own_area, area_unix, area_board, area_ready, ruled_user}
use Rattle.unix_core.proofs.PutLemmas.{with_images, with_kept}

-- what who runs asks for
pub asked_here : (w : World) (s : ℕ) → IsReady w s → kept.IsKept w.procs.images.kept → (number : ℕ) (a : Asked)
    → ((held : Held) → Has w.procs.images.kept s held → a ≡ asked held.image (slice_index held.u.r 7) number)
    → a ≡ asked (image_of (unix_of w).texts (process_of (unix_of w) s)) (register (process_of (unix_of w) s) 7) number
asked_here w s ready holds number a each =
    let here = is_here w.procs s (ready_alive w s ready) in
    let area : here.held.u ≡ (process_of (unix_of w) s).u = sym (ap (λ (q : Process). q.u) here.process_is) in
    let image : here.held.image ≡ image_of (unix_of w).texts (process_of (unix_of w) s) =
    sym (ap image_in here.image_is) ∙ sym (image_here w.procs s (ready_alive w s ready) holds) in
    each here.held here.image_is ∙ (λ i. asked (image i) (slice_index (area i).r 7) number)

-- How a call goes on, by what is pending.
module _ (u : Unix) (s : ℕ) where
  abbrev pub on_files : Steps
  on_files = did_by u s (resumes (handed_of u (process_of u s)) s u.clock.time)

  abbrev pub on_wait : Steps
  on_wait = came_by u s (resume_proc (world_of u) s)

  abbrev pub rested : Steps
  rested = returns (with_process u s (awake (process_of u s)))

  pub resumes_disk : ((process_of u s).u.pending == DISK_WAIT) ≡ true → rested ≡ resumed u s
  resumes_disk is = ap (λ b. if b then rested else (if is_on_files (process_of u s).u.pending then on_files else on_wait)) (sym is)

  pub resumes_files : ((process_of u s).u.pending == DISK_WAIT) ≡ false → is_on_files (process_of u s).u.pending ≡ true
      → on_files ≡ resumed u s
  resumes_files other is = ap (λ b. if b then on_files else on_wait) (sym is)
      ∙ ap (λ b. if b then rested else (if is_on_files (process_of u s).u.pending then on_files else on_wait)) (sym other)

  pub resumes_wait : ((process_of u s).u.pending == DISK_WAIT) ≡ false → is_on_files (process_of u s).u.pending ≡ false
      → on_wait ≡ resumed u s
  resumes_wait other is = ap (λ b. if b then on_files else on_wait) (sym is)
      ∙ ap (λ b. if b then rested else (if is_on_files (process_of u s).u.pending then on_files else on_wait)) (sym other)

-- A call has been entered, after it has been asked for.
module _ (w : World) (s : ℕ) (ready : IsReady w s) (a : Asked) (entry : Sysent) (words : ℕ) (k : Kept) (l : ImagesState) (same : k ≡ w.procs.images.kept)
    (passed : words ≡ words_passed a entry.count) (enters : l.kept ≡ kept.with_area k s (entered_area words (kept.area_of k s))) where
  abbrev area : UArea
  area = entered_area (words_passed a entry.count) (process_of (unix_of w) s).u

  abbrev done : World
  done = with_images w l

  images : l.kept ≡ kept.with_area w.procs.images.kept s area
  images =
      enters
      ∙ ap (λ n. kept.with_area k s (entered_area n (kept.area_of k s))) passed
      ∙ ap (λ x. kept.with_area x s (entered_area (words_passed a entry.count) (kept.area_of x s))) same
      ∙ ap (λ u. kept.with_area w.procs.images.kept s (entered_area (words_passed a entry.count) u)) (own_area w s ready)

  pub entered_ready : IsReady done s
  entered_ready =
      subst (λ (x : Kept). IsReady (with_kept w l x) s) (sym images)
      (area_ready w l s ready area (record { clicks = refl; files = refl; dir = refl; pending = refl; call = refl }))

  pub entered_board : board_in done ≡ board_in w
  entered_board = ap (λ (x : Kept). board_in (with_kept w l x)) images ∙ area_board w l s ready area

  entered_unix : unix_of done ≡ with_area (unix_of w) s (entered_area (words_passed a entry.count))
  entered_unix = ap (λ (x : Kept). unix_of (with_kept w l x)) images ∙ area_unix w l s ready area

  pub entered_user : is_user (process_of (unix_of w) s) ≡ true → is_user (process_of (unix_of done) s) ≡ true
  entered_user user =
      ruled_user w s ready (entered_area (words_passed a entry.count)) l
      (images ∙ ap (λ u. kept.with_area w.procs.images.kept s (entered_area (words_passed a entry.count) u)) (sym (own_area w s ready))) refl user

  pub entered_call : (number : ℕ) → a ≡ asked (image_of (unix_of w).texts (process_of (unix_of w) s)) (register (process_of (unix_of w) s) 7) number
      → entry ≡ sysent_of a.number → does_call (unix_of done) s entry.call a.args ≡ system_call number (unix_of w) s
  entered_call number is here =
      ap (λ u. does_call u s entry.call a.args) entered_unix
      ∙ ap (does_asked (unix_of w) s a) here
      ∙ ap (λ (x : Asked). does_asked (unix_of w) s x (sysent_of x.number)) is

  pub entered_waits : (number : ℕ) → a ≡ asked (image_of (unix_of w).texts (process_of (unix_of w) s)) (register (process_of (unix_of w) s) 7) number
      → entry ≡ sysent_of a.number → waits_in_call (unix_of done) s entry.call a.args ≡ waits_in (unix_of w) s (Call number)
  entered_waits number is here =
      ap (λ u. waits_in_call u s entry.call a.args) entered_unix
      ∙ ap (λ (e : Sysent). waits_in_call (with_area (unix_of w) s (entered_area (words_passed a e.count))) s e.call a.args) here
      ∙ ap (λ (x : Asked). waits_in_call (with_area (unix_of w) s (entered_area (words_passed x (sysent_of x.number).count))) s
      (sysent_of x.number).call x.args) is
