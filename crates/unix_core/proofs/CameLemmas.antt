-- A call on processes: what the process that calls has for it, what it has come to, and what the world is then.
use Rattle.std.proofs.Common.{◌≡◌, ◌∙◌, ◌+◌, ◌==◌, ℕ, Bool, true, false, cond, if◌then◌else◌, List, length, count_by, get_or, map, Option, Some, None, slice_index, refl, sym, ap, subst, arith}
use Rattle.std.specs.Prelude.{Result, Ok, Err}
use Rattle.v6_base.specs.Trace.{Taken, Took}
use Rattle.v6_base.specs.declared.answer.Answer.{Answer}
use Rattle.v6_base.specs.declared.entry.PanicKind.{PanicKind}
use Rattle.pick_rules.specs.Board.{Board}
use Rattle.pick_rules.specs.Effects.{Effect, lifted}
use Rattle.pick_rules.specs.Logged.{Logged, Stop, logged, left_by}
use Rattle.open_files.specs.declared.file.OpenFile.{OpenFile}
use Rattle.pipe_ends.specs.declared.ends.Pipe.{Pipe}
use Rattle.mount_tab.specs.Mounted.{MountTable}
use Rattle.fs_nodes.specs.FileSystem.{IsFileSystem}
use Rattle.fs_tree.specs.declared.tree.Tree.{Tree}
use Rattle.fs_nodes.specs.Keys.{counts}
use Rattle.image_keep.specs.Kept.{IsKept, area_of, area_in}
use Rattle.sys_procs.specs.declared.procs.Procs.{Procs}
use Rattle.sys_procs.specs.World as its
use Rattle.sys_procs.specs.Comes.{Comes, comes}
use Rattle.sys_procs.specs.Agree.{answered}
use Rattle.sys_procs.specs.TextTable.{is_text_of, marks_of}
use Rattle.sys_procs.specs.Handed.{AreProcs, Calls, IsMarked, handed, board, came}
use Rattle.sys_procs.specs.Done.{HasDone, HasLeft}
use Rattle.unix_core.specs.declared.world.World.{World}
use Rattle.abstract_unix.specs.declared.ending.Ending.{Ending}
use Rattle.abstract_unix.specs.declared.ending.Ending.TheVariants.{Panic}
use Rattle.abstract_unix.specs.Unix.{Text, Unix}
use Rattle.abstract_unix.specs.Steps.{Steps, after_effects}
use Rattle.abstract_unix.specs.Calls.{answers, came_by, with_world, world_of}
use Rattle.unix_core.specs.Parts.{unix_of, board_in, IsGood, IsReady, HasCome, is_over}
use Rattle.abstract_unix.specs.Whole.{told_in, Owes, Owed, CanGoOn}
use Rattle.abstract_unix.proofs.Owing.{few_references, stands_within}
use Rattle.abstract_unix.proofs.StillWorlds as worlds
use Rattle.sys_procs.proofs.Slots.{fifty_processes}
use Rattle.unix_core.proofs.GoingLemmas.{going_same}
use Rattle.unix_core.proofs.GoodLemmas.{told_of_slot, forty, fifty_told, told_of_image, still_runs, Rests, moved_unix, good_then}
use Rattle.unix_core.proofs.WorldLemmas.{ready_alive, slot_is, is_living, references_in}
use Rattle.unix_core.proofs.LoggedLemmas.{over, stop_of, logged_over}
use Rattle.unix_core.proofs.ThenLemmas.{come_then, items_then, come_cut, items_cut}
use Rattle.abstract_unix.proofs.Moved.{MovedBoard, AreTamed, Moves, tamed_moves, tamed_mild}
use Rattle.abstract_unix.proofs.Mild.{IsMild, IsNear}

-- The process that runs can call.
pub ready_calls : (w : World) (s : ℕ) → IsReady w s → length w.files.table ≡ 100 → IsKept w.procs.images.kept → Calls w.procs w.files.tree.nodes s
ready_calls w s ready long holds =
    let alive = ready_alive w s ready in
    let u : Unix = unix_of w in
    let refs : List ℕ = w.files.tree.nodes.references in
    let held = alive.image.0 in
    let told = told_of_image w alive.agree s alive.above alive.below held alive.image.1 in
    record {
      agree = alive.agree;
      runs = ready.runs;
      user = ready.user;
      image = alive.image;
      referred = λ ino.
          let dir = stands_within (told_in u.processes) s (record { files = held.u.files; dir = held.u.dir }) told ino in
          let own : ◌≡◌ {A = ℕ} (if (area_of w.procs.images.kept s).dir == ino then 1 else 0) (if held.u.dir == ino then 1 else 0) =
          ap (λ x. cond {A = ℕ} ((area_in x).dir == ino) 1 0) alive.image.1 in
          let all = ready.good.owed.referred ino in
          omega (arith, dir, own, all);
      few = λ ino.
          let most = few_references refs w.files.table w.files.pipes u.texts (told_in u.processes) ready.good.owed (fifty_told w) ino long (forty w.procs.images.kept holds) in
          omega (arith, most);
    }

-- the parts that the call is handed
abbrev pub given : World → its.World
given w = handed w.procs w.files.tree.nodes

-- before it they are what they are
pub still_given : (w : World) (s : ℕ) → IsReady w s → worlds.IsStill (given w) s (given w)
still_given w s ready = record {
  count = refl;
  told = refl;
  there = slot_is w s ready;
  lives = is_living w s ready;
  fifty = fifty_processes w.procs.rows.slots w.procs.images.kept;
}

-- what the call is handed is what the Unix says
pub near_here : (w : World) (s : ℕ) → IsReady w s → IsNear (given w) (given w) s
near_here w s ready = record {
  inodes = refl;
  switches = refl;
  texts = refl;
  told = refl;
  here = slot_is w s ready;
  lives = is_living w s ready;
}

pub world_is : (w : World) (s : ℕ) → IsReady w s → IsFileSystem w.files.tree.nodes → handed w.procs w.files.tree.nodes ≡ world_of (unix_of w)
world_is w s ready form =
    let references = references_in w s ready form in
    λ i. record (handed w.procs w.files.tree.nodes) { inodes = record { store = w.files.tree.nodes.store; references = references i } }

-- A world after a call on processes: what the call isn't handed is as it was.
pub record StaysBeside (w now : World) : Type 0 where
  pub table : now.files.table ≡ w.files.table
  pub rests : Rests w now

-- with another tree and other processes
abbrev pub after : World → Tree → Procs → World
after w tree procs = record w { files = record w.files { tree = tree }; procs = procs }

pub beside : (w : World) (tree : Tree) (procs : Procs) → tree.mounts ≡ w.files.tree.mounts → StaysBeside w (after w tree procs)
beside w tree procs same = record { table = refl; rests = record { mounts = same; pipes = refl; lines = refl; tape = refl; core = refl; slots = refl } }

-- how often the texts refer to an inode
abbrev pub shared : List (Option Text) → ℕ → ℕ
shared texts ino = count_by (is_text_of ino) texts

-- The parts of a world in which each has its files and its directory, and beside these the texts alone refer to inodes anew.
pub record IsLike (w : World) (x : its.World) : Type 0 where
  pub refs : (ino : ℕ) → slice_index x.inodes.references ino + shared (unix_of w).texts ino ≡ slice_index w.files.tree.nodes.references ino + shared x.texts ino
  pub told : told_in x.processes ≡ told_in (unix_of w).processes

-- What is owed then.
like_owes : (w : World) (x : its.World) → IsLike w x → IsGood w → Owes w.files.tree.mounts.covered x.inodes.references w.files.table w.files.pipes x.texts (told_in x.processes)
like_owes w x like good =
    subst (Owes w.files.tree.mounts.covered x.inodes.references w.files.table w.files.pipes x.texts) (sym like.told) (record {
      numbers = good.owed.numbers;
      referred = λ ino. let before = good.owed.referred ino in let same = like.refs ino in omega (arith, before, same);
      piped = good.owed.piped;
      fifteen = good.owed.fifteen;
    })

-- The world after a call that leaves to each its files and its directory.
module _ (w now : World) (s : ℕ) (ready : IsReady w s) (x : its.World) (agree : AreProcs now.procs)
    (state : handed now.procs now.files.tree.nodes ≡ x) (like : IsLike w x) (after : MovedBoard (board w.procs) (board now.procs)) (stays : StaysBeside w now) where
  told : (r : ℕ) → told_of_slot now r ≡ told_of_slot w r
  told r = ap (λ (v : its.World). get_or (told_in v.processes) r None) state ∙ ap (λ l. get_or l r None) like.told

  moved_owed : Owed now.files.tree.nodes.references (unix_of now)
  moved_owed =
      let P : MountTable → its.World → List (Option OpenFile) → List Pipe → Type 0 = λ m v files pipes. Owes m.covered v.inodes.references files pipes v.texts (told_in v.processes) in
      let before : MountTable = w.files.tree.mounts in
      subst (λ m. P m (given now) now.files.table now.files.pipes) (sym stays.rests.mounts) (subst (P before (given now) now.files.table) (sym stays.rests.pipes)
      (subst (λ files. P before (given now) files w.files.pipes) (sym stays.table) (subst (λ v. P before v w.files.table w.files.pipes) (sym state) (like_owes w x like ready.good))))

  pub moved_ready : CanGoOn (with_world (unix_of w) x) → IsMarked now.procs now.files.tree.marks
      → counts now.files.tree.nodes.store ≡ counts w.files.tree.nodes.store → IsReady now s
  moved_ready pending marks same = record {
    good = good_then w now stays.rests after.core ready.good agree
        (still_runs w now ready.good agree (λ r is. sym after.running ∙ is) (λ r t was is. told r ∙ is))
        moved_owed (going_same (with_world (unix_of w) x) (unix_of now) (ap (λ (v : its.World). v.processes) state) stays.table pending) marks same;
    runs = after.running ∙ ready.runs;
    user = ready.user;
  }

-- Marks that stay are those of the texts, where these are of the same inodes.
pub still_marked : (w now : World) (x : its.World) → IsMarked w.procs w.files.tree.marks → now.files.tree.marks ≡ w.files.tree.marks → given now ≡ x
    → marks_of x.texts ≡ marks_of (unix_of w).texts → IsMarked now.procs now.files.tree.marks
still_marked w now x good marks state texts = marks ∙ good ∙ sym texts ∙ ap (λ (v : its.World). marks_of v.texts) (sym state)

-- What a call on processes comes to that keeps the switches, and by which nobody ends.
pub record IsStill (w : World) (c : Comes) : Type 0 where
  pub effects : AreTamed (λ (x : its.World). x.switches ≡ w.procs.switches) c.effects
  pub switches : (came w.procs c).stop ≡ None → c.state.switches ≡ w.procs.switches

-- One that leaves, unless it is stopped, to each process its files and its directory.
pub record IsTame (w : World) (c : Comes) : Type 0 where
  pub still : IsStill w c
  pub like : (came w.procs c).stop ≡ None → IsLike w c.state

-- one that shows nothing
pub tame_comes : (w : World) (x : its.World) (a : Answer) → x.switches ≡ w.procs.switches → IsLike w x → IsTame w (comes x a)
tame_comes w x a switches like = record { still = record { effects = tt; switches = λ none. switches }; like = λ none. like }

pub tame_if : (w : World) (b : Bool) (x y : Comes) → IsTame w x → IsTame w y → IsTame w (if b then x else y)
tame_if w true x y f g = f
tame_if w false x y f g = g

-- one that only shows
pub mild_tame : (w : World) (c : Comes) → IsMild (given w) c → IsTame w c
mild_tame w c mild = record {
  still = record { effects = tamed_mild _ c.effects mild.effects; switches = λ none. mild.switches };
  like = λ none. record { refs = λ ino. (λ i. slice_index (mild.inodes i).references ino + shared (sym mild.texts i) ino); told = mild.told };
}

-- which never stops
pub mild_goes : (w : World) (c : Comes) → IsMild (given w) c → (stop : Stop its.World) → (came w.procs c).stop ≡ Some stop → ⊥
mild_goes w c mild stop is = (tamed_moves (λ (x : its.World). ⊥) (board w.procs) c.effects mild.effects).before stop is

-- What is answered of it.
pub goes_on : (o : Option (Stop its.World)) (x a : Answer) (r : Result Answer PanicKind) → r ≡ answered o x → r ≡ Ok a → (o ≡ None) × (a ≡ x)
goes_on None x a r e is = let same : ◌≡◌ {A = Result Answer PanicKind} (Ok a) (Ok x) = sym is ∙ e in (refl, cc same)
goes_on (Some stop) x a r e is =
    absurd (let never : ◌≡◌ {A = Result Answer PanicKind} (Ok a) (Err stop.why) = sym is ∙ e in cc never)

pub stops : (o : Option (Stop its.World)) (x : Answer) (kind : PanicKind) (r : Result Answer PanicKind) → r ≡ answered o x → r ≡ Err kind
    → (stop : Stop its.World) × ((o ≡ Some stop) × (kind ≡ stop.why))
stops None x kind r e is = absurd (let never : ◌≡◌ {A = Result Answer PanicKind} (Err kind) (Ok x) = sym is ∙ e in cc never)
stops (Some stop) x kind r e is =
    let same : ◌≡◌ {A = Result Answer PanicKind} (Err kind) (Err stop.why) = sym is ∙ e in (stop, (refl, cc same))

-- a run that is stopped is over
pub over_then : {P : Type 0} (kind : PanicKind) → is_over (Panic kind) ≡ false → P
over_then kind goes = absurd (cc goes)

-- A call on processes has left the parts as its row says.
module _ (w now : World) (c : Comes) (still : IsStill w c) (stays : StaysBeside w now) {start end : Taken}
    (left : HasLeft w.procs now.procs now.files.tree.nodes start end c) where
  moves : Moves (λ (x : its.World). x.switches ≡ w.procs.switches) (board w.procs) (came w.procs c)
  moves = tamed_moves (λ (x : its.World). x.switches ≡ w.procs.switches) (board w.procs) c.effects still.effects

  same_switches : (left_by (came w.procs c).stop c.state).switches ≡ w.procs.switches
  same_switches = by (came w.procs c).stop refl
    where
      by : (o : Option (Stop its.World)) → (came w.procs c).stop ≡ o → (left_by o c.state).switches ≡ w.procs.switches
      by None none = still.switches none
      by (Some stop) some = moves.before stop some

  pub gone_moved : (came w.procs c).stop ≡ None → MovedBoard (board w.procs) (board now.procs)
  gone_moved none = subst (MovedBoard (board w.procs)) (sym left.shown) (moves.goes none)

  left_unix : unix_of now ≡ with_world (unix_of w) (left_by (came w.procs c).stop c.state)
  left_unix = moved_unix w now stays.rests (ap (λ (b : Board). b.core) left.shown ∙ moves.core) (left_by (came w.procs c).stop c.state) w.files.table left.state same_switches stays.table

  pub gone_unix : (came w.procs c).stop ≡ None → unix_of now ≡ with_world (unix_of w) c.state
  gone_unix none = left_unix ∙ ap (λ o. with_world (unix_of w) (left_by o c.state)) none

  abbrev pub its_effects : List (Effect Unix)
  its_effects = map (lifted (with_world (unix_of w))) c.effects

  log : logged (board_in w) its_effects ≡ over (with_world (unix_of w)) (came w.procs c)
  log = logged_over (with_world (unix_of w)) (board_in w) c.effects

  board_is : board_in now ≡ (logged (board_in w) its_effects).board
  board_is = left.shown ∙ ap (λ (l : Logged Unix). l.board) (sym log)

  items_are : Took start (logged (board_in w) its_effects).items end
  items_are = subst (λ (l : Logged Unix). Took start l.items end) (sym log) left.items

  -- It doesn't stop: the rest of the turn comes over what it has left.
  module _ (none : (came w.procs c).stop ≡ None) (next : Steps) where
    quiet : (logged (board_in w) its_effects).stop ≡ None
    quiet = ap (λ (l : Logged Unix). l.stop) log ∙ ap (λ o. stop_of (with_world (unix_of w)) o) none

    pub gone_come : (e : Ending) (fin : World) → HasCome (board_in now) next e fin → HasCome (board_in w) (after_effects its_effects next) e fin
    gone_come e fin come =
        come_then (board_in w) its_effects next quiet e fin (subst (λ (b : Board). HasCome b next e fin) board_is come)

    pub gone_took : (last : Taken) → Took end (logged (board_in now) next.effects).items last
        → Took start (logged (board_in w) (after_effects its_effects next).effects).items last
    gone_took last took =
        items_then (board_in w) its_effects next quiet start end last items_are
        (subst (λ (b : Board). Took end (logged b next.effects).items last) board_is took)

  -- It stops, and the rest doesn't come.
  module _ (stop : Stop its.World) (some : (came w.procs c).stop ≡ Some stop) (next : Steps) where
    halts : (logged (board_in w) its_effects).stop ≡ stop_of (with_world (unix_of w)) (Some stop)
    halts = ap (λ (l : Logged Unix). l.stop) log ∙ ap (λ o. stop_of (with_world (unix_of w)) o) some

    pub stopped_come : (e : Ending) → e ≡ Panic stop.why → HasCome (board_in w) (after_effects its_effects next) e now
    stopped_come e ends =
        come_cut (board_in w) its_effects next (record { why = stop.why; before = with_world (unix_of w) stop.before }) halts e now ends
        (left_unix ∙ ap (λ o. with_world (unix_of w) (left_by o c.state)) some) board_is

    pub stopped_took : Took start (logged (board_in w) (after_effects its_effects next).effects).items end
    stopped_took =
        items_cut (board_in w) its_effects next (record { why = stop.why; before = with_world (unix_of w) stop.before }) halts start end items_are

pub gone_ready : (w now : World) (s : ℕ) (c : Comes) → IsTame w c → StaysBeside w now → {start end : Taken} → HasLeft w.procs now.procs now.files.tree.nodes start end c
    → (came w.procs c).stop ≡ None → IsReady w s → AreProcs now.procs
    → CanGoOn (with_world (unix_of w) c.state) → IsMarked now.procs now.files.tree.marks → counts c.state.inodes.store ≡ counts w.files.tree.nodes.store
    → IsReady now s
gone_ready w now s c is stays left none ready agree waits marks same =
    let state = left.state ∙ ap (λ o. left_by o c.state) none in
    moved_ready w now s ready c.state agree state (is.like none) (gone_moved w now c is.still stays left none) stays
    waits marks (ap (λ (v : its.World). counts v.inodes.store) state ∙ same)

-- The same of a call of the table, by its answer.
module _ (w now : World) (s : ℕ) (c : Comes) (is : IsTame w c) (stays : StaysBeside w now) {r : Result Answer PanicKind} {start end : Taken}
    (does : HasDone w.procs now.procs now.files.tree.nodes r start end c) where
  left : HasLeft w.procs now.procs now.files.tree.nodes start end c
  left = record { state = does.state; shown = does.shown; items = does.items }

  abbrev rest : Steps
  rest = answers (with_world (unix_of w) c.state) s c.answer

  module _ (kind : PanicKind) (err : r ≡ Err kind) where
    pub call_stops : (e : Ending) → e ≡ Panic kind → HasCome (board_in w) (came_by (unix_of w) s c) e now
    call_stops e ends =
        let halt = stops (came w.procs c).stop c.answer kind r does.answer err in
        stopped_come w now c is.still stays left halt.0 halt.1.0 rest e (ends ∙ ap Panic halt.1.1)

    pub call_cut : Took start (logged (board_in w) (came_by (unix_of w) s c).effects).items end
    call_cut =
        let halt = stops (came w.procs c).stop c.answer kind r does.answer err in
        stopped_took w now c is.still stays left halt.0 halt.1.0 rest

  module _ (a : Answer) (ok : r ≡ Ok a) where
    went : ((came w.procs c).stop ≡ None) × (a ≡ c.answer)
    went = goes_on (came w.procs c).stop c.answer a r does.answer ok

    pub call_unix : unix_of now ≡ with_world (unix_of w) c.state
    call_unix = gone_unix w now c is.still stays left went.0

    pub call_ready : IsReady w s → AreProcs now.procs → CanGoOn (with_world (unix_of w) c.state) → IsMarked now.procs now.files.tree.marks
        → counts c.state.inodes.store ≡ counts w.files.tree.nodes.store → IsReady now s
    call_ready ready agree waits marks same = gone_ready w now s c is stays left went.0 ready agree waits marks same

    -- the marks, where it has left them and the texts' files
    pub call_marked : now.files.tree.marks ≡ w.files.tree.marks → IsMarked w.procs w.files.tree.marks → marks_of c.state.texts ≡ marks_of (unix_of w).texts
        → IsMarked now.procs now.files.tree.marks
    call_marked marks good texts = still_marked w now c.state good marks (left.state ∙ ap (λ o. left_by o c.state) went.0) texts

    answers_are : answers (unix_of now) s a ≡ rest
    answers_are = λ i. answers (call_unix i) s (went.1 i)

    -- when its answer has been concluded
    pub call_come : (e : Ending) (fin : World) → HasCome (board_in now) (answers (unix_of now) s a) e fin → HasCome (board_in w) (came_by (unix_of w) s c) e fin
    call_come e fin come =
        gone_come w now c is.still stays left went.0 rest e fin (subst (λ (x : Steps). HasCome (board_in now) x e fin) answers_are come)

    pub call_took : (last : Taken) → Took end (logged (board_in now) (answers (unix_of now) s a).effects).items last
        → Took start (logged (board_in w) (came_by (unix_of w) s c).effects).items last
    call_took last took =
        gone_took w now c is.still stays left went.0 rest last (subst (λ (x : Steps). Took end (logged (board_in now) x.effects).items last) answers_are took)
