-- The world after the end of a process: the Unix then, and that it is good; and where the run stops in it.
use Rattle.std.proofs.Common.{◌≡◌, ◌<◌, ◌∙◌, ℕ, Bool, true, false, cond, List, length, get_or, Option, Some, None, slice_index, refl, sym, ap, subst, set, inl, inr, arith}
use Rattle.std.proofs.lemmas.Bool.{cases_lt}
use Rattle.std.proofs.lemmas.List.{get_or-set_same, map-set, set-set}
use Rattle.std.specs.Prelude.{unwrap_or}
use Rattle.v6_base.specs.declared.entry.Chan.TheVariants.{Wait}
use Rattle.v6_base.specs.declared.entry.Place.TheVariants.{Swap}
use Rattle.pick_rules.proofs.Laws.{wakeup_kept}
use Rattle.pick_rules.specs.Apply.{applied}
use Rattle.pick_rules.specs.Board.{Board}
use Rattle.pick_rules.specs.Logged.{Logged, Stop, left_by}
use Rattle.v6_base.specs.declared.entry.PanicKind.TheVariants as panic
use Rattle.pick_rules.specs.Sleepers.{wakeup}
use Rattle.pick_rules.specs.Table.{row_at}
use Rattle.pick_rules.specs.declared.row.Stat.TheVariants.{Zombie}
use Rattle.pick_rules.specs.declared.row.TableRow.{TableRow}
use Rattle.pick_rules.specs.declared.table.Table.{Table}
use Rattle.open_files.specs.Files.{times}
use Rattle.open_files.specs.declared.file.OpenFile.{OpenFile}
use Rattle.u_area.specs.declared.layout.TheConstants.{NOTHING_PENDING}
use Rattle.pipe_ends.specs.declared.ends.Pipe.{Pipe}
use Rattle.mount_tab.specs.Mounted.{MountTable}
use Rattle.fs_nodes.specs.Keys.{counts}
use Rattle.sys_files.specs.Handed.{Handed}
use Rattle.fs_nodes.specs.FileSystem.{IsFileSystem}
use Rattle.sys_procs.specs.TextTable.{Text, text_of}
use Rattle.sys_procs.specs.Texts.{goes, remaining, without_text, is_sticky}
use Rattle.sys_procs.specs.Exit.{ended, dead}
use Rattle.sys_procs.specs.Handed.{AreProcs, IsMarked, handed, board, came}
use Rattle.sys_procs.specs.Process.{Process, no_process}
use Rattle.sys_procs.specs.World as its
use Rattle.sys_procs.specs.World.{change, let_go}
use Rattle.abstract_unix.proofs.Dying.{closed_none, told_dead, end_owes, put_refs}
use Rattle.abstract_unix.proofs.Moved.{MovedBoard, mild_leave}
use Rattle.abstract_unix.proofs.Owing.{dir_referred}
use Rattle.abstract_unix.specs.Calls.{closes_all, handed_of, with_handed, with_world}
use Rattle.abstract_unix.specs.Unix.{Unix, process_of}
use Rattle.abstract_unix.specs.Whole.{Told, told_of, told_by, told_in, Owes, Owed, CanGoOn}
use Rattle.abstract_unix.proofs.GoingOnLemmas.{world_goes_on}
use Rattle.abstract_unix.proofs.WaitingRows.{end_waited}
use Rattle.unix_core.specs.Parts.{unix_of, board_in, IsGood, IsReady}
use Rattle.unix_core.specs.declared.world.World.{World}
use Rattle.unix_core.proofs.ExitLemmas.{of_end, of_its_panic, ends, ends_state, away, its_text, left_world, text_board, has_left, end_goes, end_stops}
use Rattle.unix_core.proofs.GoodLemmas.{Rests, moved_unix, good_then}
use Rattle.unix_core.proofs.TextRefs.{left_refs, others_owe}
use Rattle.unix_core.proofs.WorldLemmas.{slot_is, is_living, told_here}

-- What a process has whose files are closed.
pub all_closed : (u : Unix) (s : ℕ) (entry : ℕ) → s < length u.processes
    → length (process_of (with_handed u s (closes_all u s).state) s).u.files ≡ 15
    → times (process_of (with_handed u s (closes_all u s).state) s).u.files entry ≡ 0
all_closed u s entry low long =
    let h : Handed = (closes_all u s).state in
    let q : Process = record (process_of u s) { u = h.u; row = h.row; «data» = h.image.data; stack = h.image.stack } in
    let here : (process_of (with_handed u s h) s).u.files ≡ h.u.files =
    ap (λ o. (unwrap_or o no_process).u.files) (get_or-set_same u.processes s (Some q) None low) in
    ap (λ l. times l entry) here ∙ closed_none (handed_of u (process_of u s)) entry (sym (ap length here) ∙ long)

-- The board when a process has ended.
pub end_running : (b : Board) (s block parent : ℕ) → (of_end {W = its.World} b s block parent).board.table.running ≡ None
unfolding applied
end_running b s block parent =
    let grave : TableRow = record (row_at b.table s) { stat = Zombie; channel = None; place = Some (Swap block) } in
    let t : Table = record b.table { rows = set b.table.rows s grave; running = None } in
    (wakeup_kept (wakeup t (Wait 1)) (Wait parent)).running ∙ (wakeup_kept t (Wait 1)).running

pub end_core : (b : Board) (s block parent : ℕ) → (of_end {W = its.World} b s block parent).board.core ≡ b.core
unfolding applied
end_core b s block parent = refl

-- The text of the process has been left, if it had one: the board keeps who runs, and core.
module _ (w1 : World) (s : ℕ) (ready : IsReady w1 s) (status : ℕ) where
  abbrev x : its.World
  x = handed w1.procs w1.files.tree.nodes

  abbrev p : Process
  p = process_of (unix_of w1) s

  abbrev its_own : Option ℕ
  its_own = its_text w1 s ready status

  text_moved : (o : Option ℕ) → MovedBoard (board_in w1) (text_board w1 s ready status o)
  text_moved None = record { core = refl; running = refl }
  text_moved (Some k) = mild_leave s k (is_sticky (away w1 s ready status) k) (board_in w1)

  -- what it changes of the slot
  gone_if : (b : Bool) (ino : ℕ) (y : its.World)
      → ((cond b (let_go y ino) y).processes ≡ y.processes) × ((cond b (let_go y ino) y).switches ≡ y.switches)
  gone_if true ino y = (refl, refl)
  gone_if false ino y = (refl, refl)

  abbrev parted : ℕ → its.World
  parted k =
      let y : its.World = away w1 s ready status in
      change (record y { texts = set y.texts k (remaining (is_sticky y k) (get_or y.texts k None)) }) s without_text

  abbrev leaving : Process
  leaving = ended status p

  slots_left : (o : Option ℕ) → (q : Process) × ((left_world w1 s ready status o).processes ≡ set x.processes s (Some q))
  slots_left None = (leaving, refl)
  slots_left (Some k) =
      let y : its.World = away w1 s ready status in
      let text : Text = text_of y.texts k in
      let q : Process = without_text (its.process_of y s) in
      (q, (gone_if (goes text (is_sticky y k)) text.ino (parted k)).0 ∙ set-set x.processes s (Some leaving) (Some q))

  same_switches : (o : Option ℕ) → (left_world w1 s ready status o).switches ≡ w1.procs.switches
  same_switches None = refl
  same_switches (Some k) =
      let y : its.World = away w1 s ready status in let text : Text = text_of y.texts k in
      (gone_if (goes text (is_sticky y k)) text.ino (parted k)).1

  pub told_gone : told_in (dead (has_left w1 s ready status) s).processes ≡ set (told_in x.processes) s None
  told_gone =
      let left = slots_left its_own in
      told_dead (has_left w1 s ready status) s
      ∙ ap (λ l. set l s None) (ap told_in left.1 ∙ map-set told_by x.processes s (Some left.0))
      ∙ set-set (told_in x.processes) s (told_by (Some left.0)) None

  -- What is owed then: the directory is left first, and then the text.
  module _ (form : IsFileSystem w1.files.tree.nodes) (closed : (entry : ℕ) → times p.u.files entry ≡ 0) where
    abbrev others : List (Option Told)
    others = set (told_in x.processes) s None

    abbrev references : List ℕ
    references = w1.files.tree.nodes.references

    away_owes : Owes w1.files.tree.mounts.covered (away w1 s ready status).inodes.references w1.files.table w1.files.pipes x.texts others
    away_owes = end_owes x s w1.files.table w1.files.pipes (slot_is w1 s ready) (is_living w1 s ready) closed ready.good.owed

    none_zero : slice_index (away w1 s ready status).inodes.references 0 ≡ 0
    none_zero = elim (cases_lt 0 (slice_index references 0)) [
      | inl some ↦ absurd (let used = form.used 0 some in let none = form.none in cc (used, none))
      | inr zero ↦
          let put = put_refs references p.u.dir 0
          (dir_referred references w1.files.table w1.files.pipes x.texts (told_in x.processes) ready.good.owed s (told_of p)
          (told_here w1 s ready)) in
          omega (arith, zero, put)
    ]

    owes_by : (o : Option ℕ)
        → Owes w1.files.tree.mounts.covered (left_world w1 s ready status o).inodes.references w1.files.table w1.files.pipes (left_world w1 s ready status o).texts others
    owes_by None = away_owes
    owes_by (Some k) =
        let y : its.World = away w1 s ready status in
        others_owe y (left_world w1 s ready status (Some k))
        (left_refs y s k (is_sticky y k)
        (λ ino. let all = away_owes.referred ino in omega (arith, all)) none_zero) w1.files.table w1.files.pipes others away_owes

    pub gone_owes : Owes w1.files.tree.mounts.covered (has_left w1 s ready status).inodes.references w1.files.table w1.files.pipes (has_left w1 s ready status).texts others
    gone_owes = owes_by its_own

module _ (w1 now : World) (s : ℕ) (ready : IsReady w1 s) (status : ℕ) (agree : AreProcs now.procs)
    (goes : (came w1.procs (ends w1 s ready status)).stop ≡ None)
    (state : handed now.procs now.files.tree.nodes ≡ (ends w1 s ready status).state)
    (shown : board now.procs ≡ (came w1.procs (ends w1 s ready status)).board)
    (table : now.files.table ≡ w1.files.table) (rests : Rests w1 now) where
  abbrev left_board : Board
  left_board = text_board w1 s ready status (its_text w1 s ready status)

  its_board : (block : ℕ) × ((parent : ℕ) × (board now.procs ≡ (of_end {W = its.World} left_board s block parent).board))
  its_board = let log = end_goes w1 s ready status goes in (log.0, (log.1.0, shown ∙ ap (λ l. l.board) log.1.1))

  clicks : now.procs.images.kept.core ≡ w1.procs.images.kept.core
  clicks =
      let b = its_board in
      ap (λ (x : Board). x.core) b.1.1 ∙ end_core left_board s b.0 b.1.0 ∙ (text_moved w1 s ready status (its_text w1 s ready status)).core

  gone_state : handed now.procs now.files.tree.nodes ≡ dead (has_left w1 s ready status) s
  gone_state = state ∙ ends_state w1 s ready status

  pub ended_unix : unix_of now ≡ with_world (unix_of w1) (ends w1 s ready status).state
  ended_unix =
      moved_unix w1 now rests clicks (ends w1 s ready status).state w1.files.table state
      (ap (λ (v : its.World). v.switches) (ends_state w1 s ready status) ∙ same_switches w1 s ready status (its_text w1 s ready status)) table

  module _ (form : IsFileSystem w1.files.tree.nodes)
      (closed : (entry : ℕ) → times (process_of (unix_of w1) s).u.files entry ≡ 0) (free : (process_of (unix_of w1) s).u.pending ≡ NOTHING_PENDING) where
    owed : Owed now.files.tree.nodes.references (unix_of now)
    owed =
        let P : its.World → List (Option OpenFile) → List Pipe → Type 0 =
        λ v files pipes. Owes w1.files.tree.mounts.covered v.inodes.references files pipes v.texts (told_in v.processes) in
        let left : its.World = has_left w1 s ready status in
        let x : its.World = handed now.procs now.files.tree.nodes in
        subst (λ (m : MountTable). Owes m.covered x.inodes.references now.files.table now.files.pipes x.texts (told_in x.processes)) (sym rests.mounts)
        (subst (P x now.files.table) (sym rests.pipes)
        (subst (λ files. P x files w1.files.pipes) (sym table)
        (subst (λ v. P v w1.files.table w1.files.pipes) (sym gone_state)
        (subst (Owes w1.files.tree.mounts.covered left.inodes.references w1.files.table w1.files.pipes left.texts) (sym (told_gone w1 s ready status))
        (gone_owes w1 s ready status form closed)))))

    -- who waits in a pipe can go on
    waits : CanGoOn (unix_of now)
    waits =
        subst CanGoOn (sym ended_unix)
        (world_goes_on (unix_of w1) (ends w1 s ready status).state ready.good.pending (end_waited (handed w1.procs w1.files.tree.nodes) s free status))

    pub ended_good : IsMarked now.procs now.files.tree.marks → counts now.files.tree.nodes.store ≡ counts w1.files.tree.nodes.store → IsGood now
    ended_good marks same = good_then w1 now rests clicks ready.good agree (λ r is up. absurd (
        let b = its_board in
        let none : now.procs.table.running ≡ None =
        ap (λ (x : Board). x.table.running) b.1.1 ∙ end_running left_board s b.0 b.1.0 in
        let never : ◌≡◌ {A = Option ℕ} None (Some r) = sym none ∙ is in
        cc never)) owed waits marks same

-- The world where the run stops, since the swap area has no block: the process has left its directory and its text, and still runs.
module _ (w1 now : World) (s : ℕ) (ready : IsReady w1 s) (status : ℕ) (stop : Stop its.World)
    (some : (came w1.procs (ends w1 s ready status)).stop ≡ Some stop)
    (state : handed now.procs now.files.tree.nodes ≡ left_by (came w1.procs (ends w1 s ready status)).stop (ends w1 s ready status).state)
    (shown : board now.procs ≡ (came w1.procs (ends w1 s ready status)).board) (table : now.files.table ≡ w1.files.table)
    (rests : Rests w1 now) where
  log : came w1.procs (ends w1 s ready status) ≡ of_its_panic w1 s ready status
  log = end_stops w1 s ready status stop some

  board_left : board now.procs ≡ text_board w1 s ready status (its_text w1 s ready status)
  board_left = shown ∙ ap (λ (l : Logged its.World). l.board) log

  moved : MovedBoard (board_in w1) (text_board w1 s ready status (its_text w1 s ready status))
  moved = text_moved w1 s ready status (its_text w1 s ready status)

  before_is : has_left w1 s ready status ≡ stop.before
  before_is =
      let same : ◌≡◌ {A = Option (Stop its.World)} (Some (record { why = panic.Zombie; before = has_left w1 s ready status }))
      (Some stop) =
      sym (ap (λ (l : Logged its.World). l.stop) log) ∙ some in
      ap (λ (o : Option (Stop its.World)). left_by o (has_left w1 s ready status)) same

  pub stopped_unix : unix_of now ≡ with_world (unix_of w1) stop.before
  stopped_unix =
      moved_unix w1 now rests (ap (λ (b : Board). b.core) board_left ∙ moved.core) stop.before w1.files.table
      (state ∙ ap (λ o. left_by o (ends w1 s ready status).state) some)
      (ap (λ (x : its.World). x.switches) (sym before_is) ∙ same_switches w1 s ready status (its_text w1 s ready status)) table

  pub stopped_runs : now.procs.table.running ≡ Some s
  stopped_runs = ap (λ (b : Board). b.table.running) board_left ∙ moved.running ∙ ready.runs
