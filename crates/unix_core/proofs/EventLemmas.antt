-- What comes from outside: what it leaves of the table, and of the log.
use Rattle.std.proofs.Common.{◌≡◌, ◌&&◌, not, cond, ℕ, Bool, true, false, List, [], ◌∷◌, ◌++◌, fold, None, refl, sym, ap, ◌∙◌, subst}
use Rattle.v6_base.specs.Trace.{sent, Took, Taken}
use Rattle.v6_base.proofs.Took.{took_then}
use Rattle.v6_base.specs.declared.entry.Chan.{Chan}
use Rattle.v6_base.specs.declared.entry.Entry.TheVariants as line
use Rattle.pick_rules.specs.declared.table.Table.{Table}
use Rattle.pick_rules.specs.Table.{IsTable}
use Rattle.pick_rules.specs.Board.{Board}
use Rattle.pick_rules.specs.Logged.{Logged, logged, board_after}
use Rattle.pick_rules.proofs.Laws.{wakeup_kept}
use Rattle.image_keep.specs.Kept.{Kept}
use Rattle.proc_tab.specs.Processes.{Processes}
use Rattle.sys_procs.specs.World.{clock_of}
use Rattle.sys_procs.specs.Agree.{Agree}
use Rattle.sys_procs.proofs.Agreement.{AreLike, agree_like, tables_same, wakeup_like}
use Rattle.abstract_unix.specs.declared.ends.Ends.TheVariants.{AtEnd}
use Rattle.abstract_unix.specs.Endings.{is_early, phase_after}
use Rattle.abstract_unix.specs.Unix.{Unix, Started}
use Rattle.unix_core.specs.declared.world.World.{World}
use Rattle.unix_core.specs.declared.machine.Stage.{Stage}
use Rattle.unix_core.specs.Passing.{called_table}
use Rattle.abstract_unix.specs.Turn.{Happened, Turn, stays, settling, settled, settled_after}
use Rattle.abstract_unix.specs.Outside.{wakes}
use Rattle.unix_core.specs.Parts.{unix_of, board_in, system_at, phase_of, IsKernel, Takes}
use Rattle.unix_core.proofs.BoardLemmas.{logged_line}
use Rattle.unix_core.proofs.TableLemmas.{RunsImage}

-- An event has come to this, and the kernel has settled, as the event calls for it.
module _ (h : Happened) (goes : h.ending ≡ AtEnd) (calls : h.settles ≡ true) (w : World) (unix : unix_of w ≡ h.unix) (board : board_in w ≡ h.log.board) where
  event_is : settled_after h ≡ settling h
  event_is = ap (λ b. cond b (settling h) (stays h)) (λ i. not (is_early (goes i)) && calls i)

  pub event_takes : (at : Stage) (v : World) → IsKernel at v → phase_of at ≡ Started
      → system_at v ≡ record (system_at w) { board = (settled (board_in w)).board } → Takes (settled_after h) at v
  event_takes at v kernel started final = subst (λ (t : Turn). Takes t at v) (sym event_is) (record {
    kernel = kernel;
    system = final ∙ (λ i. record { unix = unix i; board = (settled (board i)).board });
    phase = started ∙ ap phase_after (sym goes);
  })

  pub event_items : (a b c : Taken) → Took a h.log.items b → Took b (settled (board_in w)).items c → Took a (settled_after h).items c
  event_items a b c first second =
      took_then a b c h.log.items (settled (board_in w)).items (settled_after h).items first second
      ((λ i. h.log.items ++ (settled (board i)).items) ∙ ap (λ (t : Turn). t.items) (sym event_is))

-- And one that doesn't call for it.
module _ (h : Happened) (goes : h.ending ≡ AtEnd) (calls : h.settles ≡ false) (w : World) (unix : unix_of w ≡ h.unix) (board : board_in w ≡ h.log.board) where
  stays_is : settled_after h ≡ stays h
  stays_is = ap (λ b. cond b (settling h) (stays h)) (λ i. not (is_early (goes i)) && calls i)

  pub stays_takes : (at : Stage) → IsKernel at w → phase_of at ≡ Started → Takes (settled_after h) at w
  stays_takes at kernel started = subst (λ (t : Turn). Takes t at w) (sym stays_is) (record {
    kernel = kernel;
    system = λ i. record { unix = unix i; board = board i };
    phase = started ∙ ap phase_after (sym goes);
  })

  pub stays_items : (settled_after h).items ≡ h.log.items
  stays_items = ap (λ (t : Turn). t.items) stays_is

-- Sleepers are woken.
pub wakes_stop : (b : Board) (called : Bool) (chan : Chan) → (logged {W = Unix} b (wakes called chan)).stop ≡ None
wakes_stop b true chan = ap (λ (l : Logged Unix). l.stop) (logged_line b (line.Wake chan))
wakes_stop b false chan = refl

called_like : (t : Table) (called : Bool) (chan : Chan) → AreLike t (called_table called chan t)
called_like t true chan = wakeup_like t chan
called_like t false chan = tables_same t t refl

pub called_agree : (v : Processes) (k : Kept) (t u : Table) (called : Bool) (chan : Chan) → u ≡ called_table called chan t → IsTable u → Agree v t k → Agree v u k
called_agree v k t u called chan is good a = agree_like v t u k a good (subst (AreLike t) (sym is) (called_like t called chan))

pub called_running : (t : Table) (called : Bool) (chan : Chan) → (called_table called chan t).running ≡ t.running
called_running t true chan = (wakeup_kept t chan).running
called_running t false chan = refl

pub called_clock : (t : Table) (called : Bool) (chan : Chan) → clock_of (called_table called chan t) ≡ clock_of t
called_clock t true chan = λ i. record { time = (wakeup_kept t chan).now i; ticks = (wakeup_kept t chan).ticks i; tout = (wakeup_kept t chan).tout i }
called_clock t false chan = refl

pub called_image : (k : Kept) (t u : Table) (called : Bool) (chan : Chan) → u ≡ called_table called chan t → RunsImage t k → RunsImage u k
called_image k t u called chan is runs s e above = runs s (sym (called_running t called chan) ∙ (ap (λ (x : Table). x.running) (sym is) ∙ e)) above

-- Bytes say nothing of the board.
pub bytes_board : (b : Board) (l : ℕ) (bytes : List ℕ) → fold board_after b (sent l bytes) ≡ b
bytes_board b l [] = refl
bytes_board b l (byte ∷ bytes) = bytes_board b l bytes
