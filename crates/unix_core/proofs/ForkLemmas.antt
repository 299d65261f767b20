-- fork(II): the slot of the child, the world then, and that the call has come to its row.
use Rattle.std.proofs.Common.{◌≡◌, ◌≢◌, ◌∙◌, ◌<◌, ◌+◌, ℕ, Bool, true, false, nat_lt, cond, if◌then◌else◌, List, get_or, set, map, Option, Some, None, slice_index, is_none, refl, sym, ap, subst, arith}
use Rattle.std.specs.Prelude.{Result, Ok, Err, unwrap_or}
use Rattle.std.proofs.lemmas.List.{get_or-set_other, map-set}
use Rattle.std.proofs.Math.ListN.{get_or-map}
use Rattle.v6_base.specs.Trace.{Taken, Took}
use Rattle.v6_base.specs.declared.answer.Answer.{Answer}
use Rattle.v6_base.specs.declared.answer.Answer.TheVariants.{Ret, Fail, Sleep}
use Rattle.v6_base.specs.declared.entry.PanicKind.{PanicKind}
use Rattle.pick_rules.specs.Logged.{Stop, logged, left_by}
use Rattle.proc_tab.specs.Processes.{Finds, IsLowest, lowest}
use Rattle.proc_tab.proofs.SearchLemmas.{lowest_finds}
use Rattle.open_files.specs.declared.file.OpenFile.{OpenFile}
use Rattle.pipe_ends.specs.declared.ends.Pipe.{Pipe}
use Rattle.mount_tab.specs.Mounted.{MountTable}
use Rattle.fs_nodes.specs.FileSystem.{IsFileSystem}
use Rattle.fs_nodes.specs.Keys.{counts}
use Rattle.fs_tree.specs.declared.tree.Tree.{Tree}
use Rattle.sys_procs.specs.Process.{Process, no_process, member_of}
use Rattle.sys_procs.specs.World as its
use Rattle.sys_procs.specs.World.{members}
use Rattle.sys_procs.specs.Comes.{Comes}
use Rattle.sys_procs.specs.Fork.{copied, past_word, next_pid, fork_into, fork_one}
use Rattle.sys_procs.specs.Handed.{AreProcs, handed, board, came}
use Rattle.sys_procs.specs.Done.{HasDone, HasLeft}
use Rattle.abstract_unix.specs.declared.ending.Ending.{Ending}
use Rattle.sys_procs.specs.TextTable.{Text, marks_of}
use Rattle.sys_procs.specs.Texts.{joined_by_child}
use Rattle.abstract_unix.specs.declared.ending.Ending.TheVariants.{Panic}
use Rattle.abstract_unix.specs.Unix.{Unix, process_of}
use Rattle.abstract_unix.specs.Whole.{Told, told_of, told_by, told_in, Owes, CanGoOn}
use Rattle.abstract_unix.proofs.GoingOnLemmas.{shares_goes_on, world_goes_on}
use Rattle.abstract_unix.proofs.WaitingRows.{fork_waited}
use Rattle.unix_core.proofs.AreaLemmas.{none_pending}
use Rattle.abstract_unix.specs.Errors.{error_number}
use Rattle.abstract_unix.specs.Steps.{Steps, returns, signals}
use Rattle.abstract_unix.specs.Turn.{is_user}
use Rattle.sig_core.specs.declared.numbers.TheConstants.{SIGSYS}
use Rattle.abstract_unix.specs.Calls.{with_world, with_area, refused_area, answers, came_by, shares, forks}
use Rattle.abstract_unix.proofs.Owing.{told_none, told_change}
use Rattle.abstract_unix.proofs.Sharing.{child_owes}
use Rattle.abstract_unix.proofs.Moved.{MovedBoard}
use Rattle.unix_core.specs.declared.world.World.{World}
use Rattle.unix_core.specs.Parts.{unix_of, board_in, IsReady, HasCome}
use Rattle.unix_core.proofs.GoodLemmas.{told_of_slot, fifty_told, still_runs, Rests, moved_unix, good_then}
use Rattle.unix_core.proofs.WorldLemmas.{slot_is, is_living, told_here}
use Rattle.unix_core.proofs.ShareLemmas.{files_of_child, same_marks, same_owes}
use Rattle.unix_core.proofs.CameLemmas.{IsStill, StaysBeside, given, world_is, goes_on, stops, gone_moved, gone_come, gone_took, stopped_come, stopped_took, still_marked}

abbrev call : World → ℕ → Comes
call w s = fork_one (given w) s

-- Whatever comes of it, the switches stay.
still_by : (w : World) (s : ℕ) (o : Option ℕ) → IsStill w (fork_into (given w) s o)
still_by w s None = record { effects = tt; switches = λ none. refl }
still_by w s (Some child) = record { effects = (refl, tt); switches = λ none. refl }

fork_still : (w : World) (s : ℕ) → IsStill w (call w s)
unfolding fork_one
fork_still w s = still_by w s (lowest is_none (members (given w)))

-- The slot of a child is free.
nobody : (o : Option Process) → is_none (member_of o) ≡ true → o ≡ None
nobody None e = refl
nobody (Some p) e = absurd (cc e)

record IsFree (w : World) (child : ℕ) : Type 0 where
  low : child < 50
  empty : get_or (unix_of w).processes child None ≡ None

free_slot : (w : World) (child : ℕ) → lowest is_none (members (given w)) ≡ Some child → IsFree w child
free_slot w child free =
    let ps : List (Option Process) = (unix_of w).processes in
    let found : IsLowest is_none (map member_of ps) child = subst (λ o. Finds is_none (map member_of ps) o) free (lowest_finds is_none (map member_of ps)) in
    let none : get_or ps child None ≡ None = nobody (get_or ps child None) (ap is_none (sym (get_or-map member_of ps child None)) ∙ found.passes) in
    record {
      low = found.low;
      empty = none;
    }

-- Who is told of then, and what is owed when the files are shared.
record ForkOwes (w : World) (s : ℕ) (c : Comes) : Type 0 where
  stays : (t : Told) → told_of_slot w s ≡ Some t → get_or (told_in c.state.processes) s None ≡ Some t
  owed : Owes w.files.tree.mounts.covered c.state.inodes.references (shares w.files.table (process_of (unix_of w) s).u.files c.answer) w.files.pipes c.state.texts (told_in c.state.processes)
  marks : marks_of c.state.texts ≡ marks_of (unix_of w).texts
  same : counts c.state.inodes.store ≡ counts w.files.tree.nodes.store

module _ (w : World) (s : ℕ) (ready : IsReady w s) where
  abbrev ps : List (Option Process)
  ps = (unix_of w).processes

  abbrev ts : List (Option Told)
  ts = told_in ps

  abbrev p : Process
  p = process_of (unix_of w) s

  abbrev refs : List ℕ
  refs = w.files.tree.nodes.references

  fork_by : (o : Option ℕ) → lowest is_none (members (given w)) ≡ o → ForkOwes w s (fork_into (given w) s o)
  fork_by None full =
      let same : told_in (set ps s (Some (past_word p))) ≡ ts = told_change ps s p (past_word p) (slot_is w s ready) refl in
      record {
        stays = λ t is. ap (λ l. get_or l s None) same ∙ is;
        owed = subst (Owes w.files.tree.mounts.covered refs w.files.table w.files.pipes (unix_of w).texts) (sym same) ready.good.owed;
        marks = refl;
        same = refl;
      }
  fork_by (Some child) found =
      let free = free_slot w child found in
      let texts : List (Option Text) = (unix_of w).texts in
      let joins : List (Option Text) = joined_by_child texts p.text in
      let q : Process = copied p (next_pid (given w)) in
      let born : List (Option Process) = set ps child (Some q) in
      let apart : s ≢ child = λ same.
      (let never : ◌≡◌ {A = Option Process} None (Some p) = sym free.empty ∙ ap (λ n. get_or ps n None) (sym same) ∙ slot_is w s ready in cc never) in
      let parent : get_or born s None ≡ Some p = get_or-set_other ps child s (Some q) None apart ∙ slot_is w s ready in
      let put : set ts child (Some (told_of p)) ≡ told_in (set born s (Some (past_word (unwrap_or (get_or born s None) no_process)))) =
      sym (ap (λ o. told_in (set born s (Some (past_word (unwrap_or o no_process))))) parent ∙ told_change born s p (past_word p) parent refl
      ∙ map-set told_by ps child (Some q) ∙ ap (λ b. set ts child (cond b None (Some (told_of p)))) (is_living w s ready)) in
      let Q : List (Option Told) → Type 0 = λ l. (t : Told) → told_of_slot w s ≡ Some t → get_or l s None ≡ Some t in
      record {
        stays = subst Q put (λ t is. get_or-set_other ts child s (Some (told_of p)) None apart ∙ is);
        owed = subst (Owes w.files.tree.mounts.covered (set refs p.u.dir (slice_index refs p.u.dir + 1)) (shares w.files.table p.u.files (fork_into (given w) s (Some child)).answer) w.files.pipes joins) put
            (child_owes refs w.files.table w.files.pipes joins ts s child (told_of p)
            (same_owes texts joins (files_of_child texts p.text) refs w.files.table w.files.pipes ts ready.good.owed) (told_here w s ready) (told_none ps child free.empty)
            (let low = free.low in let long = fifty_told w in omega (arith, low, long)));
        marks = same_marks texts joins (files_of_child texts p.text);
        same = refl;
      }

  fork_owes : ForkOwes w s (call w s)
  unfolding fork_one
  fork_owes = fork_by (lowest is_none (members (given w))) refl

-- The world then, when the files are shared.
module _ (w now : World) (s : ℕ) (ready : IsReady w s) (agree : AreProcs now.procs) (state : handed now.procs now.files.tree.nodes ≡ (call w s).state)
    (switches : (call w s).state.switches ≡ w.procs.switches) (moved : MovedBoard (board w.procs) (board now.procs))
    (table : now.files.table ≡ shares w.files.table (process_of (unix_of w) s).u.files (call w s).answer) (rests : Rests w now) where
  forked_unix : unix_of now ≡ record (with_world (unix_of w) (call w s).state) { files = shares w.files.table (process_of (unix_of w) s).u.files (call w s).answer }
  forked_unix = moved_unix w now rests moved.core (call w s).state (shares w.files.table (process_of (unix_of w) s).u.files (call w s).answer) state switches table

  told : (r : ℕ) → told_of_slot now r ≡ get_or (told_in (call w s).state.processes) r None
  told r = ap (λ (x : its.World). get_or (told_in x.processes) r None) state

  -- who waits in a pipe can go on: who calls doesn't, and the files that are shared are the same but for their counts
  forked_waits : is_user (process_of (unix_of w) s) ≡ true → CanGoOn (unix_of now)
  forked_waits user =
      subst CanGoOn (sym forked_unix)
      (shares_goes_on (with_world (unix_of w) (call w s).state) (process_of (unix_of w) s).u.files (call w s).answer
      (world_goes_on (unix_of w) (call w s).state ready.good.pending (fork_waited (given w) s (none_pending (process_of (unix_of w) s) user))))

  forked_ready : is_user (process_of (unix_of w) s) ≡ true → now.files.tree.marks ≡ w.files.tree.marks → IsReady now s
  forked_ready user marks =
      let owes = fork_owes w s ready in
      let mine : List (Option OpenFile) = shares w.files.table (process_of (unix_of w) s).u.files (call w s).answer in
      let P : MountTable → its.World → List (Option OpenFile) → List Pipe → Type 0 = λ m x files pipes. Owes m.covered x.inodes.references files pipes x.texts (told_in x.processes) in
      let before : MountTable = w.files.tree.mounts in
      record {
        good = good_then w now rests moved.core ready.good agree
            (still_runs w now ready.good agree (λ r is. sym moved.running ∙ is) (λ r t was is.
            let same : s ≡ r = ap (λ o. unwrap_or o 0) (sym ready.runs ∙ was) in
            subst (λ n. told_of_slot now n ≡ Some t) same (told s ∙ owes.stays t (subst (λ n. told_of_slot w n ≡ Some t) (sym same) is))))
            (subst (λ m. P m (given now) now.files.table now.files.pipes) (sym rests.mounts)
            (subst (P before (given now) now.files.table) (sym rests.pipes) (subst (λ files. P before (given now) files w.files.pipes) (sym table)
            (subst (λ x. P before x mine w.files.pipes) (sym state) owes.owed))))
            (forked_waits user)
            (still_marked w now (call w s).state ready.good.marks marks state owes.marks)
            (ap (λ (x : its.World). counts x.inodes.store) state ∙ owes.same);
        runs = moved.running ∙ ready.runs;
        user = ready.user;
      }

-- The files are shared by what the call on processes has answered.
abbrev shared_by : Unix → ℕ → Comes → Steps
shared_by u s c = record (came_by u s c) { unix = record (came_by u s c).unix { files = shares u.files (process_of u s).u.files c.answer } }

whole_is : (w : World) (s : ℕ) → IsReady w s → IsFileSystem w.files.tree.nodes → forks (unix_of w) s ≡ shared_by (unix_of w) s (call w s)
whole_is w s ready form = ap (λ x. shared_by (unix_of w) s (fork_one x s)) (sym (world_is w s ready form))

-- what is answered with other files
abbrev with_them : List (Option OpenFile) → Steps → Steps
with_them files x = record x { unix = record x.unix { files = files } }

with_files : (u : Unix) (files : List (Option OpenFile)) (s : ℕ) (a : Answer) → answers (record u { files = files }) s a ≡ with_them files (answers u s a)
with_files u files s (Ret r0 r1) = refl
with_files u files s (Fail e) = by (nat_lt (error_number e) 100)
  where
    by : (b : Bool) → (if b then returns (with_area (record u { files = files }) s (refused_area (error_number e))) else signals (record u { files = files }) s SIGSYS)
        ≡ with_them files (if b then returns (with_area u s (refused_area (error_number e))) else signals u s SIGSYS)
    by true = refl
    by false = refl
with_files u files s (Sleep pri chan) = refl

-- What it has come to, of which this is the world before the files are shared.
module _ (w done : World) (s : ℕ) (ready : IsReady w s) (form : IsFileSystem w.files.tree.nodes) (stays : StaysBeside w done)
    {r : Result Answer PanicKind} {start end : Taken}
    (does : HasDone w.procs done.procs done.files.tree.nodes r start end (call w s)) where
  left : HasLeft w.procs done.procs done.files.tree.nodes start end (call w s)
  left = record { state = does.state; shown = does.shown; items = does.items }

  abbrev mine : Answer → List (Option OpenFile)
  mine a = shares w.files.table (process_of (unix_of w) s).u.files a

  -- what follows its effects
  abbrev next : Steps
  next = with_them (mine (call w s).answer) (answers (with_world (unix_of w) (call w s).state) s (call w s).answer)

  module _ (kind : PanicKind) (err : r ≡ Err kind) where
    halt : (stop : Stop its.World) × (((came w.procs (call w s)).stop ≡ Some stop) × (kind ≡ stop.why))
    halt = stops (came w.procs (call w s)).stop (call w s).answer kind r does.answer err

    pub fork_stops : HasCome (board_in w) (forks (unix_of w) s) (Panic kind) done
    fork_stops =
        subst (λ (x : Steps). HasCome (board_in w) x (Panic kind) done) (sym (whole_is w s ready form))
        (stopped_come w done (call w s) (fork_still w s) stays left halt.0 halt.1.0 next (Panic kind) (ap Panic halt.1.1))

    pub fork_cut : Took start (logged (board_in w) (forks (unix_of w) s).effects).items end
    fork_cut =
        subst (λ (x : Steps). Took start (logged (board_in w) x.effects).items end) (sym (whole_is w s ready form))
        (stopped_took w done (call w s) (fork_still w s) stays left halt.0 halt.1.0 next)

  -- It has answered, and the files are shared.
  module _ (answer : Answer) (ok : r ≡ Ok answer) (now : World) (procs : now.procs ≡ done.procs) (tree : now.files.tree ≡ done.files.tree)
      (table : now.files.table ≡ shares w.files.table (process_of (unix_of w) s).u.files answer)
      (pipes : now.files.pipes ≡ w.files.pipes) (lines : now.files.lines ≡ w.files.lines) (tape : now.tape ≡ w.tape) (core : now.core ≡ w.core)
      (slots : now.slots ≡ w.slots) (agree : AreProcs now.procs) where
    went : ((came w.procs (call w s)).stop ≡ None) × (answer ≡ (call w s).answer)
    went = goes_on (came w.procs (call w s)).stop (call w s).answer answer r does.answer ok

    state : handed now.procs now.files.tree.nodes ≡ (call w s).state
    state = (λ i. handed (procs i) (tree i).nodes) ∙ does.state ∙ ap (λ o. left_by o (call w s).state) went.0

    moved : MovedBoard (board w.procs) (board now.procs)
    moved = subst (MovedBoard (board w.procs)) (sym (ap board procs)) (gone_moved w done (call w s) (fork_still w s) stays left went.0)

    its_table : now.files.table ≡ shares w.files.table (process_of (unix_of w) s).u.files (call w s).answer
    its_table = table ∙ ap (shares w.files.table (process_of (unix_of w) s).u.files) went.1

    switches : (call w s).state.switches ≡ w.procs.switches
    switches = (fork_still w s).switches went.0

    rests : Rests w now
    rests = record { mounts = ap (λ (t : Tree). t.mounts) tree ∙ stays.rests.mounts; pipes = pipes; lines = lines; tape = tape; core = core; slots = slots }

    pub fork_ready : is_user (process_of (unix_of w) s) ≡ true → done.files.tree.marks ≡ w.files.tree.marks → IsReady now s
    fork_ready user marks = forked_ready w now s ready agree state switches moved its_table rests user (ap (λ t. t.marks) tree ∙ marks)

    -- when the answer has been concluded
    next_is : answers (unix_of now) s answer ≡ next
    next_is =
        let now_is = forked_unix w now s ready agree state switches moved its_table rests in
        let its_answer = went.1 in
        (λ i. answers (now_is i) s (its_answer i)) ∙ with_files (with_world (unix_of w) (call w s).state) (mine (call w s).answer) s (call w s).answer

    same_board : board_in now ≡ board_in done
    same_board = ap board procs

    pub fork_come : (e : Ending) (fin : World) → HasCome (board_in now) (answers (unix_of now) s answer) e fin → HasCome (board_in w) (forks (unix_of w) s) e fin
    fork_come e fin come =
        subst (λ (x : Steps). HasCome (board_in w) x e fin) (sym (whole_is w s ready form))
        (gone_come w done (call w s) (fork_still w s) stays left went.0 next e fin
        (subst (λ b. HasCome b next e fin) same_board (subst (λ (x : Steps). HasCome (board_in now) x e fin) next_is come)))

    pub fork_took : (last : Taken) → Took end (logged (board_in now) (answers (unix_of now) s answer).effects).items last
        → Took start (logged (board_in w) (forks (unix_of w) s).effects).items last
    fork_took last took =
        subst (λ (x : Steps). Took start (logged (board_in w) x.effects).items last) (sym (whole_is w s ready form))
        (gone_took w done (call w s) (fork_still w s) stays left went.0 next last
        (subst (λ b. Took end (logged b next.effects).items last) same_board
        (subst (λ (x : Steps). Took end (logged (board_in now) x.effects).items last) next_is took)))
