-- A line hangs up: those who have it get a signal, it is flushed, and who waits for it is woken.
use Rattle.std.proofs.Common.{◌≡◌, ◌∙◌, Bool, true, false, List, ◌++◌, length, map, None, refl, sym, ap, ◌≤◌, ℕ, cond}
use Rattle.std.proofs.lemmas.List.{get_or_past, map-append}
use Rattle.v6_base.specs.Trace.{Item, Took, Taken}
use Rattle.v6_base.proofs.Took.{took_then}
use Rattle.v6_base.specs.declared.entry.Chan.{Chan}
use Rattle.tty_line.specs.Terminal.{Terminal, first_terminal}
use Rattle.tty_line.specs.Said.{Said, flush}
use Rattle.lines_eight.specs.Lines as terminals
use Rattle.lines_eight.specs.Told.{keys_of, show_of, wakes_if, told}
use Rattle.pick_rules.specs.Board.{Board}
use Rattle.pick_rules.specs.Effects.{Effect, Show}
use Rattle.pick_rules.specs.Logged.{Logged, nothing_logged, logged, left_by}
use Rattle.sig_core.specs.declared.numbers.TheConstants.{SIGHUP}
use Rattle.sys_procs.specs.Signals.{has_line, meant_in, all_signalled, signal_lines}
use Rattle.abstract_unix.specs.declared.ends.Ends.TheVariants.{AtEnd}
use Rattle.abstract_unix.specs.Unix.{Unix, System, terminal_at, with_terminal}
use Rattle.abstract_unix.specs.Turn.{Happened, happens}
use Rattle.abstract_unix.specs.Outside.{wakes, hangs_up, hangup_of}
use Rattle.unix_core.specs.declared.world.World.{World}
use Rattle.unix_core.specs.Parts.{unix_of, board_in, system_at}
use Rattle.unix_core.proofs.DiskWakes.{board_more}
use Rattle.unix_core.proofs.LoggedLemmas.{logged_shown}
use Rattle.unix_core.proofs.TypedLemmas.{with_lines, both}

wakes_shown : (b : Bool) (chan : Chan) → wakes b chan ≡ map {B = Effect Unix} Show (wakes_if b chan)
wakes_shown true chan = refl
wakes_shown false chan = refl

-- who is woken by a line that is flushed
flushed_is : (l : ℕ) (s : Bool) → both (keys_of l) (show_of l) true s ≡ map {B = Effect Unix} Show (wakes_if true (keys_of l) ++ wakes_if s (show_of l))
flushed_is l s =
    (λ i. wakes_shown true (keys_of l) i ++ wakes_shown s (show_of l) i)
    ∙ sym (map-append {B = Effect Unix} Show (wakes_if true (keys_of l)) (wakes_if s (show_of l)))

-- The line is open: those who have it have their signal, and the line is flushed.
module _ (w : World) (l : ℕ) (sent : World) (unix : unix_of sent ≡ record (unix_of w) { processes = all_signalled (has_line l) SIGHUP (unix_of w).processes })
    (board : board_in sent ≡ (logged {W = Unix} (board_in w) (map Show (signal_lines SIGHUP (meant_in (has_line l) (unix_of w).processes)))).board)
    (lines_ : List Terminal) (lines_is : lines_ ≡ terminals.with_terminal w.files.lines l (flush (terminals.terminal_at w.files.lines l)).terminal)
    (keys : Chan) (keys_is : keys ≡ keys_of l) (room : Chan) (room_is : room ≡ show_of l) (show : Bool) (show_is : show ≡ (flush (terminals.terminal_at w.files.lines l)).show)
    (open_is : (terminals.terminal_at w.files.lines l).is_open ≡ true) where
  abbrev m : System
  m = system_at w

  abbrev said : Said
  said = flush (terminal_at m.unix l)

  abbrev lines : List Item
  lines = signal_lines SIGHUP (meant_in (has_line l) m.unix.processes)

  abbrev woken : List Item
  woken = told l said

  abbrev now : Unix
  now = record (with_terminal m.unix l said.terminal) { processes = all_signalled (has_line l) SIGHUP m.unix.processes }

  hangs : hangup_of m l ≡ hangs_up m l
  hangs = ap (λ b. cond b (hangs_up m l) (happens m.unix (nothing_logged m.board))) open_is

  hang_log : (hangs_up m l).log ≡ record (hangs_up m l).log { items = lines ++ woken; stop = None }
  hang_log = let e = logged_shown {W = Unix} m.board (lines ++ woken) in
      λ i. record (hangs_up m l).log { items = (e i).items; stop = (e i).stop }

  told_is : both keys room true show ≡ map {B = Effect Unix} Show woken
  told_is = (λ i. both (keys_is i) (room_is i) true show) ∙ flushed_is l show ∙ ap (λ s. map {B = Effect Unix} Show (wakes_if true (keys_of l) ++ wakes_if s (show_of l))) show_is

  pub hung_unix : unix_of (with_lines sent lines_) ≡ (hangup_of m l).unix
  hung_unix =
      ap (λ (u : Unix). record u { lines = lines_ }) unix
      ∙ (λ i. record (unix_of w) { processes = all_signalled (has_line l) SIGHUP m.unix.processes; lines = lines_is i })
      ∙ ap (λ (x : Logged Unix). left_by x.stop now) (sym hang_log)
      ∙ ap (λ (h : Happened). h.unix) (sym hangs)

  pub hung_board : (logged {W = Unix} (board_in sent) (both keys room true show)).board ≡ (hangup_of m l).log.board
  hung_board =
      ap (λ es. (logged {W = Unix} (board_in sent) es).board) told_is
      ∙ ap (λ (b : Board). (logged {W = Unix} b (map Show woken)).board) board
      ∙ board_more m.board lines woken
      ∙ ap (λ (h : Happened). h.log.board) (sym hangs)

  pub hung_took : (a b c : Taken) → Took a lines b → Took b (logged {W = Unix} (board_in sent) (both keys room true show)).items c
      → Took a (hangup_of m l).log.items c
  hung_took a b c one two =
      took_then a b c lines (logged {W = Unix} (board_in sent) (both keys room true show)).items (hangup_of m l).log.items one two
      (ap (λ es. lines ++ (logged {W = Unix} (board_in sent) es).items) told_is
      ∙ ap (λ (x : Logged Unix). lines ++ x.items) (logged_shown (board_in sent) woken)
      ∙ ap (λ (x : Logged Unix). x.items) (sym hang_log)
      ∙ ap (λ (h : Happened). h.log.items) (sym hangs))

-- A line that isn't open, as one that isn't there, ignores it.
pub hung_shut : (m : System) (l : ℕ) → (terminal_at m.unix l).is_open ≡ false → hangup_of m l ≡ happens m.unix (nothing_logged m.board)
hung_shut m l shut = ap (λ b. cond b (hangs_up m l) (happens m.unix (nothing_logged m.board))) shut

pub hung_nowhere : (m : System) (l : ℕ) → length m.unix.lines ≤ l → hangup_of m l ≡ happens m.unix (nothing_logged m.board)
hung_nowhere m l past = hung_shut m l (ap (λ (t : Terminal). t.is_open) (get_or_past m.unix.lines l first_terminal past))

-- Either way the event ends as all that come from outside, and the kernel settles.
pub hangup_goes : (m : System) (l : ℕ) → (hangup_of m l).ending ≡ AtEnd
hangup_goes m l = by (terminal_at m.unix l).is_open
  where
    by : (b : Bool) → (cond b (hangs_up m l) (happens m.unix (nothing_logged m.board))).ending ≡ AtEnd
    by true = refl
    by false = refl

pub hangup_settles : (m : System) (l : ℕ) → (hangup_of m l).settles ≡ true
hangup_settles m l = by (terminal_at m.unix l).is_open
  where
    by : (b : Bool) → (cond b (hangs_up m l) (happens m.unix (nothing_logged m.board))).settles ≡ true
    by true = refl
    by false = refl
