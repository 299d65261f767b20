-- The pass of the swapper: the parts belong together before and after it, and it changes nothing of the Unix.
use Rattle.std.specs.List.{range_with_len}
use Rattle.std.proofs.Common.{◌≡◌, ◌≤◌, ◌∙◌, ◌<◌, ◌++◌, ℕ, zero, suc, Bool, true, false, cond, List, [], ◌∷◌, length, map, min, get_or, Option, Some, None, Result, Ok, Err, refl, sym, ap, subst, arith}
use Rattle.std.proofs.lemmas.List.{same_lists, get_or_default, length-map, length-set}
use Rattle.std.proofs.Math.ListN.{get_or-map}
use Rattle.v6_base.specs.Trace.{Item, Byte, Log, Taken, Took}
use Rattle.v6_base.proofs.Took.{took_then}
use Rattle.v6_base.specs.declared.entry.Chan.{Chan}
use Rattle.v6_base.specs.declared.entry.Chan.TheVariants.{RunIn, RunOut}
use Rattle.v6_base.specs.declared.entry.PanicKind.{PanicKind}
use Rattle.v6_base.specs.declared.entry.PanicKind.TheVariants as panic
use Rattle.v6_base.specs.declared.entry.Entry.{Entry}
use Rattle.v6_base.specs.declared.entry.Entry.TheVariants as line
use Rattle.pick_rules.specs.declared.row.Stat.{Stat}
use Rattle.pick_rules.specs.declared.row.Stat.TheVariants.{Ready}
use Rattle.pick_rules.specs.declared.row.TableRow.{TableRow}
use Rattle.pick_rules.specs.declared.table.Table.{Table}
use Rattle.pick_rules.specs.Priority.{pswp}
use Rattle.pick_rules.specs.Table.{row_at, with_row, is_empty, is_zombie, same_chan}
use Rattle.pick_rules.specs.Sleepers.{made_ready, sleeps_on, sleep_stat, runout_told, asleep, fall_asleep}
use Rattle.pick_rules.specs.Board.{Board, blocks, swap_fit}
use Rattle.pick_rules.specs.Apply.{applied}
use Rattle.pick_rules.specs.Effects.{Show, at_fit}
use Rattle.pick_rules.specs.Logged.{Logged, Stop, nothing_logged, logged, with_what_came}
use Rattle.pick_rules.specs.Swapper.{SwapMove, In, Out, Waits, swap_move}
use Rattle.pick_rules.proofs.Laws.{set_each}
use Rattle.pick_rules.proofs.Movers.{Lives, IsMover, mover}
use Rattle.pick_rules.proofs.Placing.{row_out, loaded_row, HasCome, comes_in, goes_out}
use Rattle.proc_tab.specs.declared.member.Member.{Member}
use Rattle.proc_tab.specs.Processes.{Processes, AreProcesses, member_at}
use Rattle.image_keep.specs.Kept.{Kept, IsKept, Keeping, Nothing, Alive, Grave, Shared, keeping, shared, text_of, changed}
use Rattle.image_keep.specs.State.{ImagesState}
use Rattle.image_keep.specs.Moves.{come_shared, leave_shared, swapped_in, swapped_out}
use Rattle.text_tab.specs.Table as text_tab
use Rattle.text_tab.specs.Table.{loaded_at}
use Rattle.swap_sched.specs.Match.{is_nothing, is_grave}
use Rattle.swap_sched.specs.Moved.{HasMoved, SameImages, unplaced, unloaded, answered, kept_by_line, kept_by_item, kept_after}
use Rattle.swap_sched.specs.Pass.{over, moved, moves_after, pass}
use Rattle.swap_sched.specs.inside.Does.{logged_move, next_logged}
use Rattle.swap_sched.proofs.PassLemmas.{next_move, rests_asleep, rests_stopped, none_stopped, some_stopped}
use Rattle.sys_procs.specs.Process.{process_in}
use Rattle.sys_procs.specs.World.{clock_of, processes_in, text_in, texts_in}
use Rattle.sys_procs.specs.TextTable.{marks_of}
use Rattle.sys_procs.specs.Agree as kind
use Rattle.sys_procs.specs.Agree.{Kind, kind_of_stat, kind_of_keeping, Agree, board_of}
use Rattle.sys_procs.proofs.Places.{is_free, has_died, free_stat, died_stat, free_keeping, died_keeping}
use Rattle.abstract_unix.specs.Unix.{Unix, System, Started}
use Rattle.abstract_unix.specs.declared.ends.Ends.TheVariants as ends
use Rattle.abstract_unix.specs.declared.ends.Ends.TheVariants.{AtEnd}
use Rattle.abstract_unix.specs.Whole.{Owed, CanGoOn}
use Rattle.abstract_unix.specs.declared.turned.Turned.TheVariants as told
use Rattle.abstract_unix.specs.declared.turned.Turned.TheVariants.{Ran}
use Rattle.abstract_unix.specs.Turn.{Happened, Turn, settled, settled_after, turned, passes, pass_of, with_slot, after_slot}
use Rattle.abstract_unix.proofs.RunsLemmas.{whole_answer}
use Rattle.abstract_unix.proofs.Passing.{pass_sleeps}
use Rattle.unix_core.specs.declared.world.World.{World}
use Rattle.unix_core.specs.declared.machine.Stage.{Stage}
use Rattle.unix_core.specs.declared.machine.Stage.TheVariants as stage
use Rattle.unix_core.specs.Slots.{with_sent, slot_items, IsCounted}
use Rattle.unix_core.specs.Parts.{unix_of, board_in, system_at, phase_of, IsGood, IsNew, IsKernel, Takes}
use Rattle.unix_core.proofs.BootKernelLemmas.{stopped_kernel}
use Rattle.unix_core.proofs.CoverLemmas.{agree_covered}
use Rattle.unix_core.proofs.SlotEnds.{woken_log, settled_takes, settled_items}

-- What moves leave of the table: the clock, and who of the processes sleeps for nothing.
pub record Rested (t u : Table) : Type 0 where
  pub now : u.now ≡ t.now
  pub ticks : u.ticks ≡ t.ticks
  pub quiet : (s : ℕ) → 0 < s → (row_at t s).channel ≡ None → (row_at u s).channel ≡ None

rested_none : (t : Table) → Rested t t
rested_none t = record { now = refl; ticks = refl; quiet = λ s above e. e }

rested_trans : (t u v : Table) → Rested t u → Rested u v → Rested t v
rested_trans t u v k l = record { now = l.now ∙ k.now; ticks = l.ticks ∙ k.ticks; quiet = λ s above e. l.quiet s above (k.quiet s above e) }

rested_row : (t u : Table) (s : ℕ) (row : TableRow) → Rested t u → (0 < s → (row_at t s).channel ≡ None → row.channel ≡ None) → Rested t (with_row u s row)
rested_row t u s row k q = record {
  now = k.now;
  ticks = k.ticks;
  quiet = set_each (λ r x. 0 < r → (row_at t r).channel ≡ None → x.channel ≡ None) u.rows s row k.quiet q;
}

rested_told : (t u : Table) → Rested t u → Rested t (runout_told u)
unfolding runout_told made_ready
rested_told t u k = by u.runout (sleeps_on u 0 RunOut)
  where
    by : (x y : Bool) → Rested t (cond x (cond y (made_ready (record u { runout = false }) 0) (record u { runout = false })) u)
    by true true =
        let woken = rested_row t u 0 (record (row_at u 0) { stat = Ready; channel = None }) k (λ above e. refl) in
        record { now = woken.now; ticks = woken.ticks; quiet = woken.quiet }
    by true false = record { now = k.now; ticks = k.ticks; quiet = k.quiet }
    by false y = k

rested_asleep : (t : Table) (w : Chan) → Rested t (fall_asleep t 0 pswp w)
unfolding fall_asleep
rested_asleep t w = by (same_chan w RunIn)
  where
    lain : Rested t (asleep t 0 pswp w)
    lain =
        let row : TableRow = record (row_at t 0) { stat = sleep_stat pswp; pri = pswp; channel = Some w; calling = true } in
        let set = rested_row t t 0 row (rested_none t) (λ above e. absurd (omega (arith, above))) in
        record { now = set.now; ticks = set.ticks; quiet = set.quiet }

    by : (x : Bool) → Rested t (cond x (record (asleep t 0 pswp w) { runin = true }) (record (asleep t 0 pswp w) { runout = true }))
    by true = record { now = lain.now; ticks = lain.ticks; quiet = lain.quiet }
    by false = record { now = lain.now; ticks = lain.ticks; quiet = lain.quiet }

rested_sleep : (b : Board) (w : Chan) → Rested b.table (applied b (line.Sleep 0 pswp w)).table
unfolding applied
rested_sleep b w = rested_asleep b.table w

rested_panic : (b : Board) → Rested b.table (applied b (line.Panic panic.Swap)).table
unfolding applied
rested_panic b = rested_none b.table

rested_move : (b : Board) → Rested b.table (next_logged b).board.table
rested_move b = by (swap_move b) (mover b)
  where
    out : (s : ℕ) → Lives b.table s → (o : Option ℕ) → Rested b.table
        (with_what_came {W = Unit {0}} (nothing_logged b) (at_fit panic.Swap tt o (λ block. line.SwapOut s block))).board.table
    out s l None = rested_panic b
    out s l (Some block) =
        let row : TableRow = row_out (row_at b.table s) (row_at b.table s).size block in
        subst (Rested b.table) (sym (goes_out b s block l.small))
        (rested_told b.table (with_row b.table s row) (rested_row b.table b.table s row (rested_none b.table) (λ above e. e)))

    by : (m : SwapMove) → IsMover b.table m → Rested b.table (logged_move b m).board.table
    by (In s c) l =
        let came : HasCome b s (applied b (line.SwapIn s c)) = comes_in b s c l.small in
        subst (Rested b.table) (sym came.table)
        (rested_row b.table b.table s (loaded_row (row_at b.table s) came.click) (rested_none b.table) (λ above e. e))
    by (Out s) l = out s l (swap_fit b (blocks (row_at b.table s).size))
    by (Waits w) l = rested_sleep b w

rested_moved : (l : Logged (Unit {0})) → Rested l.board.table (moved l).board.table
rested_moved l = by l.stop l.board.table.running refl refl
  where
    rests : moved l ≡ l → Rested l.board.table (moved l).board.table
    rests e = subst (λ (x : Logged (Unit {0})). Rested l.board.table x.board.table) (sym e) (rested_none l.board.table)

    by : (o : Option (Stop (Unit {0}))) (r : Option ℕ) → l.stop ≡ o → l.board.table.running ≡ r → Rested l.board.table (moved l).board.table
    by None None e f = rests (rests_asleep l f)
    by None (Some s) e f = subst (λ (x : Logged (Unit {0})). Rested l.board.table x.board.table) (sym (next_move l s e f)) (rested_move l.board)
    by (Some stop) r e f = rests (rests_stopped l stop e)

rested_moves : (b : Board) (n : ℕ) → Rested b.table (moves_after b n).board.table
rested_moves b zero = rested_none b.table
rested_moves b (suc n) = rested_trans b.table (moves_after b n).board.table (moves_after b (suc n)).board.table (rested_moves b n) (rested_moved (moves_after b n))

rested_pass : (b : Board) → Rested b.table (pass b).board.table
unfolding pass
rested_pass b = rested_moves b 150

-- The kind of a slot, told by its row.
kind_told : (a b : Kind) → is_free a ≡ is_free b → has_died a ≡ has_died b → a ≡ b
kind_told kind.Free kind.Free e f = refl
kind_told kind.Free kind.Lives e f = absurd (cc e)
kind_told kind.Free kind.Died e f = absurd (cc e)
kind_told kind.Lives kind.Free e f = absurd (cc e)
kind_told kind.Lives kind.Lives e f = refl
kind_told kind.Lives kind.Died e f = absurd (cc f)
kind_told kind.Died kind.Free e f = absurd (cc e)
kind_told kind.Died kind.Lives e f = absurd (cc f)
kind_told kind.Died kind.Died e f = refl

kind_by_row : (stat : Stat) (x : Keeping) → is_empty stat ≡ is_nothing x → is_zombie stat ≡ is_grave x → kind_of_stat stat ≡ kind_of_keeping x
kind_by_row stat x e f =
    kind_told (kind_of_stat stat) (kind_of_keeping x) (sym (free_stat stat) ∙ e ∙ free_keeping x) (sym (died_stat stat) ∙ f ∙ died_keeping x)

kind_unplaced : (x : Keeping) → kind_of_keeping (unplaced x) ≡ kind_of_keeping x
kind_unplaced Nothing = refl
kind_unplaced (Alive held) = refl
kind_unplaced (Grave u block) = refl

process_unplaced : (m : Option Member) (x : Keeping) (text : Option ℕ) → process_in m (unplaced x) text ≡ process_in m x text
process_unplaced None x text = refl
process_unplaced (Some m) Nothing text = refl
process_unplaced (Some m) (Alive held) text = refl
process_unplaced (Some m) (Grave u block) text = refl

-- The table of texts keeps its length.
come_long : (k : Kept) (o : Option ℕ) (at : ℕ) → length (come_shared k o at).texts ≡ length k.texts
come_long k None at = refl
come_long k (Some t) at = length-set k.texts t (changed (loaded_at at) (shared k t))

leave_long : (k : Kept) (o : Option ℕ) → length (leave_shared k o).texts ≡ length k.texts
leave_long k None = refl
leave_long k (Some t) = length-set k.texts t (changed text_tab.unloaded (shared k t))

line_long : (k : Kept) (e : Entry) → length (kept_by_line k e).texts ≡ length k.texts
unfolding swapped_in swapped_out
line_long k (line.SwapIn s c) = come_long k (text_of k s) c
line_long k (line.SwapOut s block) = leave_long k (text_of k s)
line_long k e = refl

item_long : (k : Kept) (item : Item) → length (kept_by_item k item).texts ≡ length k.texts
item_long k (Log e) = line_long k e
item_long k (Byte l byte) = refl

all_long : (k : Kept) (items : List Item) → length (kept_after k items).texts ≡ length k.texts
all_long k [] = refl
all_long k (item ∷ items) = all_long (kept_by_item k item) items ∙ item_long k item

-- A text is told by what a move leaves of it.
told_text : (x : Option Shared) → text_in (unloaded x) ≡ text_in x
told_text None = refl
told_text (Some x) = refl

same_texts : (k n : Kept) → length n.texts ≡ length k.texts → SameImages k n → texts_in n ≡ texts_in k
same_texts k n long same =
    let size : length (texts_in n) ≡ length (texts_in k) = length-map n.texts text_in ∙ long ∙ sym (length-map k.texts text_in) in
    same_lists (texts_in n) (texts_in k) size (λ t d low.
    get_or_default (texts_in n) t d None low
    ∙ get_or-map text_in n.texts t None ∙ sym (told_text (shared n t)) ∙ ap text_in (same.texts t) ∙ told_text (shared k t) ∙ sym (get_or-map text_in k.texts t None)
    ∙ get_or_default (texts_in k) t None d (subst (λ m. t < m) size low))

-- The swapper has moved images.
module _ (v : Processes) (t u : Table) (k n : Kept) (a z : Taken) (agree : Agree v t k) (moved : HasMoved t k a (pass (board_of t k)) u n z)
    (same : SameImages k n) (holds : IsKept n) where
  rested : Rested t u
  rested =
      let all = subst (λ (b : Board). Rested (record t { tout = 0 }) b.table) (sym moved.board) (rested_pass (board_of t k)) in
      record { now = all.now; ticks = all.ticks; quiet = all.quiet }

  pub moved_clock : clock_of u ≡ clock_of t
  moved_clock = λ i. record { time = rested.now i; ticks = rested.ticks i; tout = moved.tout i }

  kind_moved : (s : ℕ) → kind_of_keeping (keeping n s) ≡ kind_of_keeping (keeping k s)
  kind_moved s = sym (kind_unplaced (keeping n s)) ∙ ap kind_of_keeping (same.slots s) ∙ kind_unplaced (keeping k s)

  -- who has which text
  same_user : (s : ℕ) → text_of n s ≡ text_of k s
  same_user s = ap (λ (users : List (Option ℕ)). get_or users s None) same.users

  pub moved_agree : Agree v u n
  moved_agree = record {
    table = moved.matching.table;
    rows = moved.matching.rows;
    kernel = moved.matching.kernel;
    images = moved.matching.images;
    each = λ s above low.
        let row = moved.matching.each s above low in
        let old = agree.each s above low in
        let member = kind_moved s ∙ old.image in record {
          stat = kind_by_row (row_at u s).stat (keeping n s) row.empty row.zombie ∙ member;
          image = member;
          place = row.place;
          size = row.size;
          quiet = λ f. rested.quiet s above (old.quiet f);
          textless = λ f. row.text ∙ same_user s ∙ sym (agree.text s above low) ∙ old.textless (λ l. f l);
        };
    text = λ s above low. (moved.matching.each s above low).text;
    textless = same_user 0 ∙ agree.textless;
  }

  one_moved : (s : ℕ) → process_in (member_at v.slots s) (keeping n s) (text_of n s) ≡ process_in (member_at v.slots s) (keeping k s) (text_of k s)
  one_moved s =
      ap (λ (users : List (Option ℕ)). process_in (member_at v.slots s) (keeping n s) (get_or users s None)) same.users
      ∙ sym (process_unplaced (member_at v.slots s) (keeping n s) (text_of k s))
      ∙ ap (λ x. process_in (member_at v.slots s) x (text_of k s)) (same.slots s)
      ∙ process_unplaced (member_at v.slots s) (keeping k s) (text_of k s)

  pub moved_processes : processes_in v.slots n ≡ processes_in v.slots k
  unfolding processes_in
  moved_processes = λ i. map (λ s. one_moved s i) (range_with_len 0 50)

-- How a pass goes that doesn't panic, and one that does.
module _ (m : System) where
  abbrev own : Logged (Unit {0})
  own = pass m.board

  abbrev gone : Turn
  gone = record { items = own.items ++ (settled own.board).items; next = record { unix = m.unix; board = (settled own.board).board }; is_idle = false; ending = AtEnd }

  pub pass_goes : own.stop ≡ None → settled_after (pass_of m) ≡ gone
  pass_goes none = ap (λ o. settled_after (passes m.unix (over m.unix (record own { stop = o })))) none

  abbrev moves : Happened
  moves = record { unix = m.unix; log = record { items = own.items; board = own.board; stop = None }; is_idle = false; settles = true; ending = AtEnd }

  pub pass_happens : own.stop ≡ None → pass_of m ≡ moves
  pass_happens none = ap (λ o. passes m.unix (over m.unix (record own { stop = o }))) none

  abbrev broken : PanicKind → Turn
  broken kind = record { items = own.items; next = record { unix = m.unix; board = own.board }; is_idle = false; ending = ends.Panic kind }

  pub pass_stops : (stop : Stop (Unit {0})) → own.stop ≡ Some stop → settled_after (pass_of m) ≡ broken stop.why
  pass_stops stop some = ap (λ o. settled_after (passes m.unix (over m.unix (record own { stop = o })))) some

-- A world after a pass.
abbrev pub with_moved : World → Table → ImagesState → World
with_moved w u n = record w { procs = record w.procs { table = u; images = n } }

module _ (w : World) (u : Table) (x : ImagesState) (a z : Taken) (good : IsGood w) (moved : HasMoved w.procs.table w.procs.images.kept a (pass (board_in w)) u x.kept z)
    (same : SameImages w.procs.images.kept x.kept) (holds : IsKept x.kept) where
  abbrev n : Kept
  n = x.kept

  abbrev now : World
  now = with_moved w u x

  after_agree : Agree w.procs.rows u n
  after_agree = moved_agree w.procs.rows w.procs.table u w.procs.images.kept n a z good.agree moved same holds

  texts_after : texts_in n ≡ texts_in w.procs.images.kept
  texts_after =
      same_texts w.procs.images.kept n (ap (λ (k : Kept). length k.texts) moved.images ∙ all_long w.procs.images.kept (pass (board_in w)).items) same

  after_unix : unix_of now ≡ unix_of w
  after_unix =
      let processes = moved_processes w.procs.rows w.procs.table u w.procs.images.kept n a z good.agree moved same holds in
      let texts = texts_after in
      let clock = moved_clock w.procs.rows w.procs.table u w.procs.images.kept n a z good.agree moved same holds in
      λ i. record (unix_of w) { processes = processes i; texts = texts i; clock = clock i; limit = min (same.core i) 2048 }

  pub after_good : u.running ≡ None → IsGood now
  after_good none = record {
    agree = after_agree;
    running = λ s runs above. absurd (cc (none, runs));
    owed = subst (Owed w.files.tree.nodes.references) (sym after_unix) good.owed;
    pending = subst CanGoOn (sym after_unix) good.pending;
    marks = good.marks ∙ ap marks_of (sym texts_after);
    mounts = good.mounts;
    rooms = good.rooms;
    core = good.core ∙ sym same.core;
  }

  pub after_counted : IsCounted w.slots (unix_of w) → IsCounted now.slots (unix_of now)
  after_counted = subst (IsCounted w.slots) (sym after_unix)

  -- the swapper sleeps, and the kernel settles
  module _ (goes : Ok tt ≡ answered (pass (board_in w)).stop) where
    done : settled_after (pass_of (system_at w)) ≡ gone (system_at w)
    done = pass_goes (system_at w) (none_stopped _ goes)

    pub goes_answer : Ran ≡ turned (settled_after (pass_of (system_at w)))
    goes_answer = sym (ap turned done)

    pub after_takes : (at : Stage) (last : World) → IsKernel at last → phase_of at ≡ Started
        → system_at last ≡ record (system_at now) { board = (settled (board_in now)).board } → Takes (settled_after (pass_of (system_at w))) at last
    after_takes at last kernel started final = subst (λ (o : Turn). Takes o at last) (sym done)
        (record { kernel = kernel; system = final ∙ (λ i. record { unix = after_unix i; board = (settled (moved.board i)).board }); phase = started })

    pub after_items : (b c : Taken) → Took a (pass (board_in w)).items b → Took b (settled (board_in now)).items c
        → Took a (settled_after (pass_of (system_at w))).items c
    after_items b c first second =
        took_then a b c (pass (board_in w)).items (settled (board_in now)).items _ first second
        ((λ i. (pass (board_in w)).items ++ (settled (moved.board i)).items) ∙ ap (λ (o : Turn). o.items) (sym done))

    -- where the pass was a slot, it has been counted in this world
    module _ (v : World) (unix : unix_of v ≡ with_sent (with_slot (unix_of now)))
        (woken : board_in v ≡ (logged {W = Unix} (board_in now) (map Show (slot_items (with_slot (unix_of now))))).board) where
      happens : pass_of (system_at w) ≡ moves (system_at w)
      happens = pass_happens (system_at w) (none_stopped _ goes)

      unix_then : unix_of v ≡ with_sent (with_slot (unix_of w))
      unix_then = unix ∙ ap (λ (u : Unix). with_sent (with_slot u)) after_unix

      board_then : board_in v ≡ (woken_log (unix_of w) (pass (board_in w)).board).board
      board_then = woken ∙ (λ i. (woken_log (after_unix i) (moved.board i)).board)

      pub slot_takes : (at : Stage) (last : World) → IsKernel at last → phase_of at ≡ Started
          → system_at last ≡ record (system_at v) { board = (settled (board_in v)).board } → Takes (settled_after (after_slot (pass_of (system_at w)))) at last
      slot_takes at last kernel started final =
          subst (λ (h : Happened). Takes (settled_after (after_slot h)) at last) (sym happens)
          (settled_takes (moves (system_at w)) refl (λ none. refl) v unix_then board_then at last kernel started final)

      pub slot_took : (b c d : Taken) → Took a (pass (board_in w)).items b → Took b (slot_items (with_slot (unix_of now))) c
          → Took c (settled (board_in v)).items d → Took a (settled_after (after_slot (pass_of (system_at w)))).items d
      slot_took b c d first second third =
          subst (λ (h : Happened). Took a (settled_after (after_slot h)).items d) (sym happens)
          (settled_items (moves (system_at w)) refl (λ none. refl) v unix_then board_then a b c d first
          (subst (λ (u : Unix). Took b (slot_items (with_slot u)) c) after_unix second) third)

      pub slot_answer : Ran ≡ turned (settled_after (after_slot (pass_of (system_at w))))
      slot_answer = sym (ap (λ (h : Happened). turned (settled_after (after_slot h))) happens ∙ whole_answer (moves (system_at w)))

  -- it has panicked
  module _ (kind : PanicKind) (stops : Err kind ≡ answered (pass (board_in w)).stop) where
    why : (stop : Stop (Unit {0})) × ((pass (board_in w)).stop ≡ Some stop)
    why = some_stopped _ kind stops

    same_kind : kind ≡ why.0.why
    same_kind = let all : ◌≡◌ {A = Result (Unit {0}) PanicKind} (Err kind) (Err why.0.why) = stops ∙ ap answered why.1 in cc all

    over_with : settled_after (pass_of (system_at w)) ≡ broken (system_at w) kind
    over_with = pass_stops (system_at w) why.0 why.1 ∙ ap (broken (system_at w)) (sym same_kind)

    -- the slot of a panic isn't counted
    pub not_counted : settled_after (after_slot (pass_of (system_at w))) ≡ settled_after (pass_of (system_at w))
    not_counted =
        ap (λ o. settled_after (after_slot (passes (unix_of w) (over (unix_of w) (record (pass (board_in w)) { stop = o }))))) why.1
        ∙ sym (ap (λ o. settled_after (passes (unix_of w) (over (unix_of w) (record (pass (board_in w)) { stop = o })))) why.1)

    pub over_answer : told.Panic kind ≡ turned (settled_after (pass_of (system_at w)))
    over_answer = sym (ap turned over_with)

    pub over_items : Took a (pass (board_in w)).items z → Took a (settled_after (pass_of (system_at w))).items z
    over_items = subst (λ (t : Turn). Took a t.items z) (sym over_with)

    pub stopped_answer : told.Panic kind ≡ turned (settled_after (after_slot (pass_of (system_at w))))
    stopped_answer = sym (ap turned (not_counted ∙ over_with))

    pub stopped_items : Took a (pass (board_in w)).items z → Took a (settled_after (after_slot (pass_of (system_at w)))).items z
    stopped_items = subst (λ (t : Turn). Took a t.items z) (sym (not_counted ∙ over_with))

    pub panic_takes : AreProcesses w.procs.rows → w.slots.left ≤ w.slots.due → Takes (settled_after (pass_of (system_at w))) stage.Stopped now
    panic_takes processes within = subst (λ (o : Turn). Takes o stage.Stopped now) (sym over_with) (record {
      kernel = stopped_kernel now (agree_covered now after_agree processes holds) within;
      system = λ i. record { unix = after_unix i; board = moved.board i };
      phase = refl;
    })

-- The first pass of the swapper: it finds nobody out of core, and sleeps.
pub first_goes : (w : World) → IsNew w → (settled_after (pass_of (system_at w))).ending ≡ AtEnd
first_goes w new =
    ap (λ (x : Turn). x.ending) (pass_goes (system_at w) (ap (λ (l : Logged (Unit {0})). l.stop) (pass_sleeps (board_in w) new.runs new.nobody_out)))
