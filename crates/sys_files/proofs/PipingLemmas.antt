-- What a call on a pipe comes to, by the parts of its row.
use Rattle.std.proofs.Common.{◌≡◌, ℕ, pos, Bool, true, false, List, [], is_some, if◌then◌else◌, refl, sym, ap, ◌∙◌, subst}
use Rattle.u_area.specs.declared.area.UArea.{UArea}
use Rattle.proc_tab.specs.declared.row.Row.{Row}
use Rattle.sig_core.specs.Signals.{due}
use Rattle.v6_base.specs.declared.answer.Answer.TheVariants.{Sleep}
use Rattle.v6_base.specs.declared.entry.Chan.{Chan}
use Rattle.v6_base.specs.declared.errno.Errno.TheVariants.{EINTR}
use Rattle.pipe_ends.specs.declared.ends.Piped.{Piped}
use Rattle.sys_files.specs.Handed.{Handed}
use Rattle.sys_files.specs.Did.{Did, fails, unless_due}
use Rattle.sys_files.specs.Entering.{did_with}
use Rattle.sys_files.specs.Piping.{waits_in_pipe, ends_write}

-- A process of which no signal is due sleeps.
pub sleeps_on : (h : Handed) (u : UArea) (row : Row) (sleep : Did) → h.u ≡ u → h.row ≡ row → is_some (due row u) ≡ false
    → unless_due h sleep ≡ sleep
sleeps_on h u row sleep area own none =
    ap (λ (t : Bool). if t then fails h EINTR else sleep) ((λ i. is_some (due (own i) (area i))) ∙ none)

-- It waits in a pipe, and its area keeps what it needs to go on.
pub waits_by : (h : Handed) (u new : UArea) (row : Row) (chan : Chan) (pending : ℕ) (words : List ℕ) → h.u ≡ u → h.row ≡ row
    → is_some (due row u) ≡ false → record u { pending = pending; call = words } ≡ new
    → waits_in_pipe h chan pending words ≡ did_with (record h { u = new }) (Sleep (pos 1) chan)
waits_by h u new row chan pending words area own none kept =
    sleeps_on h u row _ area own none
    ∙ ap (λ (x : UArea). did_with (record h { u = x }) (Sleep (pos 1) chan))
    (ap (λ (x : UArea). record x { pending = pending; call = words }) area ∙ kept)

-- It shows nothing.
sleeps_quiet : (h : Handed) (t : Bool) (sleep : Did) → sleep.items ≡ [] → (if t then fails h EINTR else sleep).items ≡ []
sleeps_quiet h true sleep quiet = refl
sleeps_quiet h false sleep quiet = quiet

pub waits_quiet : (h : Handed) (chan : Chan) (pending : ℕ) (words : List ℕ) → (waits_in_pipe h chan pending words).items ≡ []
waits_quiet h chan pending words = sleeps_quiet h (is_some (due h.row h.u)) _ refl

-- A write ends as its answer says.
pub ended_write : (P : Did → Type 0) (h : Handed) (slot ino entry at count : ℕ) (piped same : Piped) → piped ≡ same
    → P (ends_write h slot ino entry at count same) → P (ends_write h slot ino entry at count piped)
ended_write P h slot ino entry at count piped same is holds =
    subst (λ (p : Piped). P (ends_write h slot ino entry at count p)) (sym is) holds
