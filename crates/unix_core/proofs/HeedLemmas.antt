-- A signal has come to the process that runs, and waits no longer; and which signal is due to it.
use Rattle.std.proofs.Common.{◌≡◌, ◌∙◌, ◌%◌, ◌==◌, ◌&&◌, ◌<◌, ℕ, Bool, true, false, cond, if◌then◌else◌, List, length, set, Option, Some, None, refl, sym, ap, subst}
use Rattle.std.proofs.lemmas.Bool.{eqb-true}
use Rattle.proc_tab.specs.declared.row.Row.{Row}
use Rattle.proc_tab.specs.Processes.{Processes, row_at, with_change, with_row}
use Rattle.u_area.specs.declared.area.UArea.{UArea}
use Rattle.sig_core.specs.Signals.{due, is_signal, handler_of}
use Rattle.sys_procs.specs.Process.{Process}
use Rattle.sys_procs.proofs.Alive.{is_here}
use Rattle.sys_procs.proofs.Slots.{own_row}
use Rattle.sys_procs.proofs.Signalled.{used_row, agree_row}
use Rattle.abstract_unix.specs.Unix.{Unix, process_of}
use Rattle.abstract_unix.specs.Delivery.{heeding, heeds}
use Rattle.abstract_unix.specs.Turn.{is_user}
use Rattle.abstract_unix.specs.Whole.{told_in, Owes, CanGoOn}
use Rattle.abstract_unix.proofs.Owing.{told_change}
use Rattle.unix_core.specs.declared.world.World.{World}
use Rattle.unix_core.specs.Parts.{unix_of, IsReady}
use Rattle.unix_core.proofs.GoingLemmas.{going_put}
use Rattle.unix_core.proofs.LoanLemmas.{member_low}
use Rattle.unix_core.proofs.WorldLemmas.{ready_alive, slot_is}
use Rattle.unix_core.proofs.AreaLemmas.{own_put}

-- Nothing is due where nothing waits.
pub none_due : (row : Row) (u : UArea) → row.sig ≡ 0 → due row u ≡ None
none_due row u zero = ap (λ n. if is_signal n && (handler_of u n % 2 == 0) then Some n else None) zero

-- What is due is a signal, and isn't ignored.
pub due_some : (row : Row) (u : UArea) (sig : ℕ) → due row u ≡ Some sig → (is_signal sig ≡ true) × (handler_of u sig % 2 ≡ 0)
due_some row u sig is = by (is_signal row.sig) (handler_of u row.sig % 2 == 0) refl refl is
  where
    by : (a b : Bool) → is_signal row.sig ≡ a → (handler_of u row.sig % 2 == 0) ≡ b → cond (a && b) (Some row.sig) None ≡ Some sig
        → (is_signal sig ≡ true) × (handler_of u sig % 2 ≡ 0)
    by true true e f there =
        let same : row.sig ≡ sig = cc there in
        (subst (λ n. is_signal n ≡ true) same e, subst (λ n. handler_of u n % 2 ≡ 0) same (eqb-true (handler_of u row.sig % 2) 0 f))
    by true false e f there = absurd (cc there)
    by false b e f there = absurd (cc there)

module _ (w : World) (s : ℕ) (ready : IsReady w s) (v : Processes) (is : v ≡ with_change w.procs.rows s (with_row (record (row_at w.procs.rows s) { sig = 0 }))) where
  abbrev heeded : World
  heeded = record w { procs = record w.procs { rows = v } }

  abbrev p : Process
  p = process_of (unix_of w) s

  abbrev row : Row
  row = record (row_at w.procs.rows s) { sig = 0 }

  abbrev changed : World
  changed = record w { procs = record w.procs { rows = with_change w.procs.rows s (with_row row) } }

  low : s < length w.procs.rows.slots
  low = let here = is_here w.procs s (ready_alive w s ready) in member_low w.procs.rows.slots s here.member here.member_is

  its_row : row_at w.procs.rows s ≡ p.row
  its_row = sym (own_row w.procs.rows.slots w.procs.images.kept s (ready_alive w s ready).below)

  changed_unix : unix_of changed ≡ heeds (unix_of w) s
  changed_unix =
      let alive = ready_alive w s ready in
      let here = is_here w.procs s alive in
      ap (λ (l : List (Option Process)). record (unix_of w) { processes = l })
      (used_row w.procs.rows.slots w.procs.images.kept s here.member alive.below here.member_is row low
      ∙ ap (λ (r : Row). set (unix_of w).processes s (Some (record p { row = record r { sig = 0 } }))) its_row)

  changed_ready : IsReady changed s
  changed_ready =
      let alive = ready_alive w s ready in
      let here = is_here w.procs s alive in
      let refs : List ℕ = w.files.tree.nodes.references in
      record {
        good = record {
          agree = agree_row w.procs.rows w.procs.table w.procs.images.kept s here.member row ready.good.agree alive.above alive.below low here.member_is;
          running = ready.good.running;
          owed = subst (Owes w.files.tree.mounts.covered refs w.files.table w.files.pipes (unix_of w).texts)
              (sym (ap (λ (x : Unix). told_in x.processes) changed_unix ∙ told_change (unix_of w).processes s p (heeding p) (slot_is w s ready) refl))
              ready.good.owed;
          pending = subst CanGoOn (sym changed_unix)
              (going_put (unix_of w) s p (heeding p) (slot_is w s ready) (record { pending = refl; call = refl; files = refl; lives = refl }) ready.good.pending);
          marks = ready.good.marks;
          mounts = ready.good.mounts;
          rooms = ready.good.rooms;
          core = ready.good.core;
        };
        runs = ready.runs;
        user = ready.user;
      }

  pub heeded_unix : unix_of heeded ≡ heeds (unix_of w) s
  heeded_unix = ap (λ x. unix_of (record w { procs = record w.procs { rows = x } })) is ∙ changed_unix

  pub heeded_ready : IsReady heeded s
  heeded_ready = subst (λ x. IsReady (record w { procs = record w.procs { rows = x } }) s) (sym is) changed_ready

-- who has heeded a signal is in the mode in which it was
pub heeds_user : (w : World) (s : ℕ) → IsReady w s → is_user (process_of (heeds (unix_of w) s) s) ≡ is_user (process_of (unix_of w) s)
heeds_user w s ready = ap is_user (own_put (unix_of w) s (process_of (unix_of w) s) (heeding (process_of (unix_of w) s)) (slot_is w s ready))
