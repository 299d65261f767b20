-- A call that goes on, by which call it is.
use Rattle.std.proofs.Common.{◌≡◌, ◌≢◌, ◌∙◌, ℕ, ◌+◌, ◌*◌, ◌==◌, Bool, true, false, cond, get_or, refl, sym, ap}
use Rattle.std.proofs.lemmas.Bool.{eq-eqb, ne_eqb}
use Rattle.v6_base.specs.declared.errno.Errno.TheVariants.{EINTR}
use Rattle.u_area.specs.declared.layout.TheConstants.{SLEEP_CALL}
use Rattle.u_area.specs.declared.area.UArea.{UArea}
use Rattle.sys_procs.specs.World.{World, process_of, change}
use Rattle.sys_procs.specs.Comes.{Comes, fails}
use Rattle.sys_procs.specs.Times.{sleep_until}
use Rattle.sys_procs.specs.Wait.{wait_child}
use Rattle.sys_procs.specs.Resume.{awake, resume_proc}
use Rattle.sys_procs.proofs.TimesLemmas.{is_due}

-- the process with no pending call, and what it goes on with
abbrev goes_on : World → ℕ → UArea → Bool → Comes
goes_on w s u b = cond b (sleep_until (change w s awake) s (65536 * get_or u.call 4 0 + get_or u.call 5 0))
    (wait_child (change w s awake) s)

abbrev resumed_by : World → ℕ → UArea → Bool → Bool → Comes
resumed_by w s u is_due b = cond is_due (fails (change w s awake) EINTR) (goes_on w s u b)

resume_is : (w : World) (s : ℕ) (u : UArea) → u ≡ (process_of w s).u
    → resume_proc w s ≡ resumed_by w s u (is_due (change w s awake) s) (u.pending == SLEEP_CALL)
unfolding resume_proc
resume_is w s u is = ap (λ (v : UArea). resumed_by w s v (is_due (change w s awake) s) (v.pending == SLEEP_CALL)) (sym is)

pub resume_broken_off : (w : World) (s : ℕ) → is_due (change w s awake) s ≡ true
    → resume_proc w s ≡ fails (change w s awake) EINTR
resume_broken_off w s due =
    let u : UArea = (process_of w s).u in
    resume_is w s u refl ∙ ap (λ b. resumed_by w s u b (u.pending == SLEEP_CALL)) due

resume_on : (w : World) (s : ℕ) (u : UArea) (b : Bool) → u ≡ (process_of w s).u → is_due (change w s awake) s ≡ false
    → (u.pending == SLEEP_CALL) ≡ b
    → resume_proc w s ≡ goes_on w s u b
resume_on w s u b is due test = resume_is w s u is
    ∙ (ap (λ d. resumed_by w s u d (u.pending == SLEEP_CALL)) due ∙ ap (goes_on w s u) test)

pub resume_sleep : (w : World) (s : ℕ) (u : UArea) → u ≡ (process_of w s).u → is_due (change w s awake) s ≡ false
    → u.pending ≡ SLEEP_CALL
    → resume_proc w s ≡ sleep_until (change w s awake) s (65536 * get_or u.call 4 0 + get_or u.call 5 0)
resume_sleep w s u is due e = resume_on w s u true is due (eq-eqb u.pending SLEEP_CALL e)

pub resume_wait : (w : World) (s : ℕ) (u : UArea) → u ≡ (process_of w s).u → is_due (change w s awake) s ≡ false
    → u.pending ≢ SLEEP_CALL
    → resume_proc w s ≡ wait_child (change w s awake) s
resume_wait w s u is due n = resume_on w s u false is due (ne_eqb u.pending SLEEP_CALL n)
