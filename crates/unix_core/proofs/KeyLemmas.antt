-- A signal goes to all that have a line, as a key or a hang-up makes it, and what belongs together still does.
use Rattle.std.proofs.Common.{◌≡◌, ◌<◌, ◌∙◌, ℕ, Bool, true, false, cond, List, [], ◌∷◌, length, map, fold, get_or, pos, Option, Some, None, refl, sym, ap, subst, arith}
use Rattle.std.specs.Int.{int_min}
use Rattle.std.proofs.lemmas.List.{same_lists, get_or_default, length-map}
use Rattle.std.proofs.lemmas.List.FromFn.{get_or-map-range_with_len, length-map-range_with_len}
use Rattle.std.proofs.Math.ListN.{get_or-map}
use Rattle.v6_base.specs.Trace.{Item, Log}
use Rattle.v6_base.specs.declared.entry.Entry.TheVariants as line
use Rattle.pick_rules.specs.declared.table.Table.{Table}
use Rattle.pick_rules.specs.Table.{row_at, with_row, is_waiting}
use Rattle.pick_rules.specs.Sleepers.{setrun}
use Rattle.pick_rules.specs.Sleepers as sleepers
use Rattle.pick_rules.specs.Board.{Board}
use Rattle.pick_rules.specs.Apply.{applied}
use Rattle.pick_rules.specs.Effects.{Show}
use Rattle.pick_rules.specs.Logged.{Logged, logged, board_after}
use Rattle.pick_rules.proofs.Laws.{setrun_kept}
use Rattle.sig_core.specs.Signals.{is_signal}
use Rattle.fs_nodes.specs.FileSystem.{FileSystem}
use Rattle.sys_procs.specs.declared.procs.Procs.{Procs}
use Rattle.sys_procs.specs.Process.{Process}
use Rattle.sys_procs.specs.TextTable.{marks_of}
use Rattle.sys_procs.specs.World as its
use Rattle.sys_procs.specs.Signals.{signalled, signal_lines, meant_in, signalled_if, all_signalled, has_line}
use Rattle.sys_procs.specs.Handed.{AreProcs, handed, board}
use Rattle.sys_procs.proofs.Slots.{fifty_processes}
use Rattle.unix_core.specs.declared.world.World.{World}
use Rattle.abstract_unix.specs.Unix.{Unix}
use Rattle.abstract_unix.specs.Whole.{Told, told_by, told_in, Owes, CanGoOn}
use Rattle.abstract_unix.proofs.GoingOnSteps.{line_goes_on}
use Rattle.unix_core.specs.Parts.{unix_of, board_in, IsGood}
use Rattle.unix_core.proofs.GoodLemmas.{still_runs}
use Rattle.unix_core.proofs.LoggedLemmas.{logged_shown}

-- Lines of signals leave who runs, and core.
pub record SignalsKeep (old new : Board) : Type 0 where
  pub running : new.table.running ≡ old.table.running
  pub core : new.core ≡ old.core

abbrev lowered : Table → ℕ → Table
lowered t s = with_row t s (record (row_at t s) { pri = int_min (row_at t s).pri (pos 100) })

signalled_running : (t : Table) (s : ℕ) → (sleepers.signalled t s).running ≡ t.running
unfolding sleepers.signalled
signalled_running t s = by (is_waiting (row_at t s).stat)
  where
    by : (b : Bool) → (cond b (setrun (lowered t s) s) (lowered t s)).running ≡ t.running
    by true = (setrun_kept (lowered t s) s).running
    by false = refl

line_keeps : (b : Board) (s n : ℕ) → SignalsKeep b (applied b (line.Signal s n))
unfolding applied
line_keeps b s n = record { running = signalled_running b.table s; core = refl }

lines_keep : (b : Board) (n : ℕ) (slots : List ℕ) → SignalsKeep b (fold board_after b (map (λ s. Log (line.Signal s n)) slots))
lines_keep b n [] = record { running = refl; core = refl }
lines_keep b n (s ∷ slots) =
    let one = line_keeps b s n in
    let rest = lines_keep (applied b (line.Signal s n)) n slots in
    record { running = rest.running ∙ one.running; core = rest.core ∙ one.core }

signals_keep : (b : Board) (n : ℕ) (slots : List ℕ) → SignalsKeep b (fold board_after b (signal_lines n slots))
signals_keep b n slots = by (is_signal n)
  where
    by : (x : Bool) → SignalsKeep b (fold board_after b (cond x (map (λ s. Log (line.Signal s n)) slots) []))
    by true = lines_keep b n slots
    by false = record { running = refl; core = refl }

-- A signal that is sent leaves what the counts see of a process.
told_one : (who : ℕ → Process → Bool) (n s : ℕ) (o : Option Process) → told_by (signalled_if who n s o) ≡ told_by o
told_one who n s None = refl
told_one who n s (Some p) = by (who s p)
  where
    by : (b : Bool) → told_by (Some (cond b (signalled n p) p)) ≡ told_by (Some p)
    by true = refl
    by false = refl

pub told_signalled : (who : ℕ → Process → Bool) (n : ℕ) (ps : List (Option Process)) → length ps ≡ 50 → told_in (all_signalled who n ps) ≡ told_in ps
told_signalled who n ps fifty = same_lists (told_in now) (told_in ps) (size ∙ sym (length-map ps told_by ∙ fifty)) each
  where
    now : List (Option Process)
    now = all_signalled who n ps

    size : length (told_in now) ≡ 50
    size = length-map now told_by ∙ length-map-range_with_len (λ s. signalled_if who n s (get_or ps s None)) 0 50

    each : (s : ℕ) (d : Option Told) → s < length (told_in now) → get_or (told_in now) s d ≡ get_or (told_in ps) s d
    each s d low =
        let under : s < 50 = omega (arith, low, size) in
        let within : s < length (told_in ps) = (let long = length-map ps told_by in omega (arith, under, long, fifty)) in
        get_or_default (told_in now) s d None low
        ∙ (get_or-map told_by now s None
        ∙ ap told_by (get_or-map-range_with_len (λ r. signalled_if who n r (get_or ps r None)) 0 50 s s None under (omega arith))
        ∙ told_one who n s (get_or ps s None)
        ∙ sym (get_or-map told_by ps s None))
        ∙ get_or_default (told_in ps) s None d within

-- A signal has been sent to all that have a line.
module _ (w : World) (good : IsGood w) (procs : Procs) (l n : ℕ) (agree : AreProcs procs)
    (state : (fs : FileSystem) → handed procs fs ≡ record (handed w.procs fs) { processes = all_signalled (has_line l) n (handed w.procs fs).processes })
    (shown : (fs : FileSystem) → board procs ≡ (logged {W = its.World} (board w.procs)
    (map Show (signal_lines n (meant_in (has_line l) (handed w.procs fs).processes)))).board) where
  abbrev now : World
  now = record w { procs = procs }

  abbrev fs : FileSystem
  fs = w.files.tree.nodes

  abbrev lines : List Item
  lines = signal_lines n (meant_in (has_line l) (unix_of w).processes)

  pub key_unix : unix_of now ≡ record (unix_of w) { processes = all_signalled (has_line l) n (unix_of w).processes }
  key_unix = λ i. record (unix_of w) {
    processes = (state fs i).processes;
    texts = (state fs i).texts;
    clock = (state fs i).clock;
    switches = (state fs i).switches;
    last_pid = (state fs i).last_pid;
    limit = (state fs i).limit;
  }

  board_lines : board_in now ≡ fold board_after (board_in w) lines
  board_lines = shown fs ∙ ap (λ (done : Logged its.World). done.board) (logged_shown (board_in w) lines)

  pub key_board : board_in now ≡ (logged {W = Unix} (board_in w) (map Show lines)).board
  key_board = board_lines ∙ sym (ap (λ (done : Logged Unix). done.board) (logged_shown (board_in w) lines))

  kept : SignalsKeep (board_in w) (board_in now)
  kept = subst (SignalsKeep (board_in w)) (sym board_lines) (signals_keep (board_in w) n (meant_in (has_line l) (unix_of w).processes))

  told_same : told_in (unix_of now).processes ≡ told_in (unix_of w).processes
  told_same =
      ap (λ (u : Unix). told_in u.processes) key_unix
      ∙ told_signalled (has_line l) n (unix_of w).processes (fifty_processes w.procs.rows.slots w.procs.images.kept)

  pub key_good : IsGood now
  key_good = record {
    agree = agree;
    running = still_runs w now good agree (λ s runs. sym kept.running ∙ runs)
        (λ s t runs is. ap (λ (ts : List (Option Told)). get_or ts s None) told_same ∙ is);
    owed =
        let refs : List ℕ = w.files.tree.nodes.references in
        subst (λ texts. Owes w.files.tree.mounts.covered refs w.files.table w.files.pipes texts (told_in (unix_of now).processes)) (sym (ap (λ (x : its.World). x.texts) (state fs)))
        (subst (Owes w.files.tree.mounts.covered refs w.files.table w.files.pipes (unix_of w).texts) (sym told_same) good.owed);
    pending = subst CanGoOn (sym key_unix) (line_goes_on l n (unix_of w) good.pending);
    marks = good.marks ∙ sym (ap (λ (x : its.World). marks_of x.texts) (state fs));
    mounts = good.mounts;
    rooms = good.rooms;
    core = good.core ∙ sym kept.core;
  }
