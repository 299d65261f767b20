-- A signal has been sent to the process that runs: what the world is then.
use Rattle.std.proofs.Common.{◌≡◌, ◌∙◌, ℕ, Bool, true, false, cond, List, [], ◌∷◌, map, refl, sym, ap, subst}
use Rattle.v6_base.specs.Trace.{Item, Log, Taken, Took}
use Rattle.v6_base.specs.declared.entry.Entry.TheVariants as line
use Rattle.pick_rules.specs.Effects.{Show}
use Rattle.pick_rules.specs.Logged.{Logged, logged, left_by}
use Rattle.fs_nodes.specs.FileSystem.{FileSystem}
use Rattle.sig_core.specs.Signals.{is_signal}
use Rattle.sys_procs.specs.declared.procs.Procs.{Procs}
use Rattle.sys_procs.specs.World as its
use Rattle.sys_procs.specs.World.{change}
use Rattle.sys_procs.specs.Signals.{signalled, signal_lines}
use Rattle.sys_procs.specs.Handed.{AreProcs, handed, board}
use Rattle.abstract_unix.specs.declared.ending.Ending.TheVariants.{Trapped}
use Rattle.abstract_unix.specs.Unix.{Unix, process_of, with_process}
use Rattle.abstract_unix.specs.Steps.{signals}
use Rattle.abstract_unix.proofs.Moved.{MovedBoard, AreTamed, tamed_moves, mild_signal}
use Rattle.abstract_unix.proofs.Owing.{told_change}
use Rattle.unix_core.specs.declared.world.World.{World}
use Rattle.unix_core.specs.Parts.{unix_of, board_in, IsReady, HasCome, ended_as}
use Rattle.unix_core.proofs.GoingLemmas.{going_put}
use Rattle.unix_core.proofs.GoodLemmas.{moved_unix}
use Rattle.unix_core.proofs.LoggedLemmas.{logged_shown}
use Rattle.unix_core.proofs.WorldLemmas.{slot_is}
use Rattle.unix_core.proofs.CameLemmas.{given, StaysBeside, moved_ready, still_marked}

abbrev lines : ℕ → ℕ → List Item
lines s n = signal_lines n (s ∷ [])

tamed_line : (s n : ℕ) (b : Bool) → AreTamed (λ (x : its.World). ⊥) (map Show (cond b (Log (line.Signal s n) ∷ []) []))
tamed_line s n true = (mild_signal s n, tt)
tamed_line s n false = tt

module _ (w : World) (s n : ℕ) (ready : IsReady w s) (p : Procs) (agree : AreProcs p)
    (state : (fs : FileSystem) → handed p fs ≡ change (handed w.procs fs) s (signalled n))
    (shown : board p ≡ (logged {W = its.World} (board w.procs) (map Show (lines s n))).board) where
  abbrev sent : World
  sent = record w { procs = p }

  abbrev x : its.World
  x = change (given w) s (signalled n)

  stays : StaysBeside w sent
  stays = record { table = refl; rests = record { mounts = refl; pipes = refl; lines = refl; tape = refl; core = refl; slots = refl } }

  moved : MovedBoard (board w.procs) (board p)
  moved =
      let moves = tamed_moves (λ (y : its.World). ⊥) (board w.procs) (map Show (lines s n)) (tamed_line s n (is_signal n)) in
      subst (MovedBoard (board w.procs)) (sym shown)
      (moves.goes (ap (λ (l : Logged its.World). l.stop) (logged_shown {W = its.World} (board w.procs) (lines s n))))

  pub sent_unix : unix_of sent ≡ with_process (unix_of w) s (signalled n (process_of (unix_of w) s))
  sent_unix = moved_unix w sent stays.rests moved.core x w.files.table (state w.files.tree.nodes) refl refl

  pub sent_ready : IsReady sent s
  sent_ready =
      moved_ready w sent s ready x agree (state w.files.tree.nodes)
      (record {
        refs = λ ino. refl;
        told = told_change (unix_of w).processes s (process_of (unix_of w) s) (signalled n (process_of (unix_of w) s)) (slot_is w s ready) refl;
      }) moved stays
      (going_put (unix_of w) s (process_of (unix_of w) s) (signalled n (process_of (unix_of w) s)) (slot_is w s ready)
      (record { pending = refl; call = refl; files = refl; lives = refl }) ready.good.pending)
      (still_marked w sent x ready.good.marks refl (state w.files.tree.nodes) refl) refl

  pub sent_come : HasCome (board_in w) (signals (unix_of w) s n) Trapped sent
  sent_come =
      let logs = logged_shown {W = Unix} (board_in w) (lines s n) in
      record {
        ending = ap (λ (l : Logged Unix). ended_as l.stop Trapped) (sym logs);
        unix = sent_unix ∙ ap (λ (l : Logged Unix). left_by l.stop (signals (unix_of w) s n).unix) (sym logs);
        board = shown ∙ ap (λ (l : Logged its.World). l.board) (logged_shown {W = its.World} (board w.procs) (lines s n))
            ∙ ap (λ (l : Logged Unix). l.board) (sym logs);
      }

  pub sent_took : (a b : Taken) → Took a (lines s n) b → Took a (logged (board_in w) (signals (unix_of w) s n).effects).items b
  sent_took a b took = subst (λ (l : Logged Unix). Took a l.items b) (sym (logged_shown {W = Unix} (board_in w) (lines s n))) took
