-- The end of a process: what becomes of its slot in the table, the rows and the images, and what the log says.
use Rattle.std.proofs.Common.{◌≡◌, ◌∙◌, ℕ, ◌*◌, ◌%◌, ◌<◌, Bool, true, false, cond, nat_eq, is_none, List, [], ◌∷◌, length, get_or, map, set, Option, Some, None, refl, sym, ap, subst, arith}
use Rattle.std.specs.Option.{unwrap_or}
use Rattle.std.proofs.lemmas.List.{length-set, length-map, get_or-map, get_or-set_same, get_or-set_other}
use Rattle.v6_base.specs.Trace.{Log}
use Rattle.v6_base.specs.declared.entry.Chan.{Chan}
use Rattle.v6_base.specs.declared.entry.Chan.TheVariants.{Wait}
use Rattle.v6_base.specs.declared.entry.Entry.{Entry}
use Rattle.v6_base.specs.declared.entry.Entry.TheVariants as line
use Rattle.v6_base.specs.declared.entry.PanicKind.TheVariants as panic
use Rattle.v6_base.specs.declared.answer.Answer.TheVariants.{Ret}
use Rattle.u_area.specs.declared.area.UArea.{UArea}
use Rattle.v6_base.specs.declared.entry.Place.TheVariants.{Swap}
use Rattle.pick_rules.specs.declared.row.Stat.TheVariants.{Zombie}
use Rattle.pick_rules.specs.declared.row.TableRow.{TableRow}
use Rattle.pick_rules.specs.declared.table.Table.{Table}
use Rattle.pick_rules.specs.Table.{row_at, IsTable, empty_row}
use Rattle.pick_rules.specs.Sleepers.{made_ready, wakeup}
use Rattle.pick_rules.specs.Board.{Board, swap_fit}
use Rattle.pick_rules.specs.Apply.{applied, change_row}
use Rattle.pick_rules.specs.Effects.{Show, Exit}
use Rattle.pick_rules.specs.Effects as effects
use Rattle.pick_rules.specs.Logged.{Logged, logged, log_one}
use Rattle.pick_rules.proofs.Laws.{Stays, wakeup_stays, wakeup_kept}
use Rattle.proc_tab.specs.declared.member.Member.{Member}
use Rattle.proc_tab.specs.declared.row.Row.{Row}
use Rattle.proc_tab.specs.Processes.{Processes, member_at, changed, with_change, dead, passes, lowest}
use Rattle.proc_tab.specs.Pids.{has_pid}
use Rattle.proc_tab.specs.Processes as rows
use Rattle.proc_tab.specs.Children.{is_child_of, orphans_adopted}
use Rattle.proc_tab.specs.Children as rows_of
use Rattle.image_keep.specs.Kept.{Held, Keeping, Nothing, Alive, Grave, Kept, keeping, with_keeping, text_of, area_in, area_of}
use Rattle.image_keep.specs.Places.{with_grave_at}
use Rattle.image_keep.specs.Places as images_of
use Rattle.fs_nodes.specs.FileSystem.{FileSystem}
use Rattle.fs_tree.specs.Finding.{Inodes, inodes_of}
use Rattle.sys_procs.specs.declared.procs.Procs.{Procs}
use Rattle.sys_procs.specs.Process.{Process, no_process, process_by, process_in}
use Rattle.sys_procs.specs.World.{World, clock_of, process_of, processes_in, world_in, change, let_go}
use Rattle.sys_procs.specs.TextTable.{Text, text_of as text_at}
use Rattle.sys_procs.specs.Exit.{adopted}
use Rattle.sys_procs.specs.Exit as exit
use Rattle.sys_procs.specs.Texts.{xfree, goes, is_sticky, remaining, without_text}
use Rattle.sys_procs.specs.Comes.{Comes}
use Rattle.sys_procs.specs.inside.Begun.{nothing}
use Rattle.sys_procs.specs.Agree.{kind_of_member, Agrees, Agree, board_of}
use Rattle.sys_procs.specs.Handed.{IsAlive, AreProcs, handed, board, came, process_here}
use Rattle.sys_procs.proofs.Slots.{process_in_slot, fifty_processes, are_processes, one_changed, own, own_alive, own_row, members_are}
use Rattle.sys_procs.proofs.Tables.{board_woken}
use Rattle.sys_procs.proofs.Agreement.{agree_but, agree_like, wakeup_like, same_texts}
use Rattle.sys_procs.proofs.Alive.{IsHere, is_here, put_here}
use Rattle.sys_procs.proofs.LeavesFirst.{left_answer}
use Rattle.sys_procs.proofs.Places.{same_swap_fit}

-- What the log says of an end.
pub logged_exit : (b : Board) (s block : ℕ) (w : World) (e f : Entry) → swap_fit b 1 ≡ Some block
    → logged b (Exit s w ∷ Show (Log e) ∷ Show (Log f) ∷ []) ≡ record {
      items = Log (line.Exit s block) ∷ Log e ∷ Log f ∷ [];
      board = applied (applied (applied b (line.Exit s block)) e) f;
      stop = None;
    }
unfolding log_one effects.came
logged_exit b s block w e f fit = rw fit refl

pub logged_panic : (b : Board) (s : ℕ) (w : World) (e f : Entry) → swap_fit b 1 ≡ None
    → logged b (Exit s w ∷ Show (Log e) ∷ Show (Log f) ∷ []) ≡ record {
      items = Log (line.Panic panic.Zombie) ∷ [];
      board = b;
      stop = Some (record { why = panic.Zombie; before = w });
    }
unfolding log_one effects.came applied
logged_panic b s w e f fit = rw fit refl

-- Adoption, of members and of processes.
-- who is adopted, or not, is the same in the rows and among the processes
adopted_by : (b : Bool) (m : Member) (x : Keeping) (t : Option ℕ) → process_in (Some (cond b (record m { row = record m.row { ppid = 1 } }) m)) x t
    ≡ Some (cond b (record (process_by m x t) { row = record (process_by m x t).row { ppid = 1 } }) (process_by m x t))
adopted_by true m Nothing t = refl
adopted_by false m Nothing t = refl
adopted_by true m (Alive held) t = refl
adopted_by false m (Alive held) t = refl
adopted_by true m (Grave u block) t = refl
adopted_by false m (Grave u block) t = refl

pub adopted_in : (pid : ℕ) (o : Option Member) (x : Keeping) (t : Option ℕ) → process_in (rows_of.adopted pid o) x t ≡ adopted pid (process_in o x t)
adopted_in pid None x t = refl
adopted_in pid (Some m) Nothing t = adopted_by (is_child_of pid m) m Nothing t
adopted_in pid (Some m) (Alive held) t = adopted_by (is_child_of pid m) m (Alive held) t
adopted_in pid (Some m) (Grave u block) t = adopted_by (is_child_of pid m) m (Grave u block) t

pub adopted_processes : (slots : List (Option Member)) (k : Kept) (pid : ℕ) → length slots ≡ 50
    → processes_in (map (rows_of.adopted pid) slots) k ≡ map (adopted pid) (processes_in slots k)
adopted_processes slots k pid long = are_processes (map (rows_of.adopted pid) slots) k (map (adopted pid) (processes_in slots k))
    (length-map (processes_in slots k) (adopted pid) ∙ fifty_processes slots k) each
  where
    each : (r : ℕ) → r < 50 → get_or (map (adopted pid) (processes_in slots k)) r None ≡ process_in (member_at (map (rows_of.adopted pid) slots) r) (keeping k r) (text_of k r)
    each r low =
        get_or-map (adopted pid) (processes_in slots k) r None None (omega (arith, low, fifty_processes slots k))
        ∙ (ap (adopted pid) (process_in_slot slots k r low)
        ∙ (sym (adopted_in pid (member_at slots r) (keeping k r) (text_of k r))
        ∙ ap (λ o. process_in o (keeping k r) (text_of k r)) (sym (get_or-map (rows_of.adopted pid) slots r None None (omega (arith, low, long))))))

-- and so are those whose parent's pid no slot has
abbrev pub strays : Bool → ℕ → Processes → Processes
strays b ppid v = cond b (orphans_adopted v ppid) v

strays_long : (b : Bool) (ppid : ℕ) (v : Processes) → length v.slots ≡ 50 → length (strays b ppid v).slots ≡ 50
strays_long true ppid v long = length-map v.slots (rows_of.adopted ppid) ∙ long
strays_long false ppid v long = long

strays_pid : (b : Bool) (ppid : ℕ) (v : Processes) → (strays b ppid v).last_pid ≡ v.last_pid
strays_pid true ppid v = refl
strays_pid false ppid v = refl

stray_processes : (b : Bool) (ppid : ℕ) (v : Processes) (k : Kept) → length v.slots ≡ 50
    → processes_in (strays b ppid v).slots k ≡ cond b (map (adopted ppid) (processes_in v.slots k)) (processes_in v.slots k)
stray_processes true ppid v k long = adopted_processes v.slots k ppid long
stray_processes false ppid v k long = refl

kind_adopted : (pid : ℕ) (o : Option Member) → kind_of_member (rows_of.adopted pid o) ≡ kind_of_member o
kind_adopted pid None = refl
kind_adopted pid (Some m) = by (is_child_of pid m)
  where
    by : (b : Bool) → kind_of_member (Some (cond b (record m { row = record m.row { ppid = 1 } }) m)) ≡ kind_of_member (Some m)
    by true = refl
    by false = refl

same_kind : (m n : Option Member) (row : TableRow) (x : Keeping) → kind_of_member n ≡ kind_of_member m → Agrees m row x → Agrees n row x
same_kind m n row x e a = record {
  stat = a.stat ∙ sym e;
  image = a.image ∙ sym e;
  place = a.place;
  size = a.size;
  quiet = λ f. a.quiet (λ l. f (e ∙ l));
  textless = λ f. a.textless (λ l. f (e ∙ l));
}

pub agree_adopted : (v : Processes) (t : Table) (k : Kept) (pid : ℕ) → length v.slots ≡ 50 → Agree v t k → Agree (orphans_adopted v pid) t k
agree_adopted v t k pid long a = record {
  table = a.table;
  rows = a.rows;
  kernel = a.kernel;
  images = a.images;
  each = λ s above low. same_kind (member_at v.slots s) (member_at (map (rows_of.adopted pid) v.slots) s) (row_at t s) (keeping k s)
      (ap kind_of_member (get_or-map (rows_of.adopted pid) v.slots s None None (omega (arith, low, long))) ∙ kind_adopted pid (member_at v.slots s))
      (a.each s above low);
  text = a.text;
  textless = a.textless;
}

agree_strays : (b : Bool) (v : Processes) (t : Table) (k : Kept) (ppid : ℕ) → length v.slots ≡ 50 → Agree v t k → Agree (strays b ppid v) t k
agree_strays true v t k ppid long a = agree_adopted v t k ppid long a
agree_strays false v t k ppid long a = a

-- Waking.
table_woken : (t : Table) (w : Chan) → IsTable t → IsTable (wakeup t w)
unfolding made_ready
table_woken t w good = wakeup_stays IsTable tables t w good
  where
    tables : Stays IsTable
    tables = record {
      woken = λ t s w on h. record { last = h.last; running = h.running; ticks = h.ticks };
      runout = λ t h. record { last = h.last; running = h.running; ticks = h.ticks };
      runin = λ t h. record { last = h.last; running = h.running; ticks = h.ticks };
    }

agree_woken : (v : Processes) (t : Table) (k : Kept) (w : Chan) → Agree v t k → Agree v (wakeup t w) k
agree_woken v t k w a = agree_like v t (wakeup t w) k a (table_woken t w a.table) (wakeup_like t w)

clock_woken : (t : Table) (w : Chan) → clock_of (wakeup t w) ≡ clock_of t
clock_woken t w = let k = wakeup_kept t w in λ i. record { time = k.now i; ticks = k.ticks i; tout = k.tout i }

-- The row of a process that ends, and those who are woken then.
abbrev ending_row : TableRow → ℕ → TableRow
ending_row row block = record row { stat = Zombie; channel = None; place = Some (Swap block) }

abbrev ending : Table → ℕ → ℕ → Table
ending t s block = record (change_row t s (λ row. record row { stat = Zombie; channel = None; place = Some (Swap block) })) { running = None }

abbrev pub ended_table : Table → ℕ → ℕ → ℕ → Table
ended_table t s block parent = wakeup (wakeup (ending t s block) (Wait 1)) (Wait parent)

clock_ended : (t : Table) (s block parent : ℕ) → clock_of (ended_table t s block parent) ≡ clock_of t
clock_ended t s block parent = clock_woken (wakeup (ending t s block) (Wait 1)) (Wait parent) ∙ clock_woken (ending t s block) (Wait 1)

ending_board : (t : Table) (k : Kept) (s block : ℕ) → board_of (ending t s block) k ≡ applied (board_of t k) (line.Exit s block)
unfolding applied
ending_board t k s block = refl

board_ended : (t : Table) (k : Kept) (s block parent : ℕ)
    → board_of (ended_table t s block parent) k ≡ applied (applied (applied (board_of t k) (line.Exit s block)) (line.Wake (Wait 1))) (line.Wake (Wait parent))
board_ended t k s block parent =
    board_woken (wakeup (ending t s block) (Wait 1)) k (Wait parent)
    ∙ ap (λ b. applied b (line.Wake (Wait parent)))
    (board_woken (ending t s block) k (Wait 1) ∙ ap (λ b. applied b (line.Wake (Wait 1))) (ending_board t k s block))

-- A slot whose process ends.
module _ (v : Processes) (t : Table) (k : Kept) (s : ℕ) (m : Member) (held : Held) (block : ℕ) (low : s < 50) (slots : length v.slots ≡ 50)
    (images : length k.slots ≡ 50) (here : member_at v.slots s ≡ Some m) (has : keeping k s ≡ Alive held) where
  abbrev zombie : Process
  zombie = record (own v.slots k s) { is_zombie = true; «data» = []; stack = [] }

  abbrev ended_rows : Processes
  ended_rows = with_change v s dead

  abbrev ended_images : Kept
  ended_images = with_keeping k s (Grave held.u block)

  member_ended : member_at ended_rows.slots s ≡ Some (dead m)
  member_ended = get_or-set_same v.slots s (changed dead (member_at v.slots s)) None (omega (arith, low, slots)) ∙ ap (changed dead) here

  image_ended : keeping ended_images s ≡ Grave held.u block
  image_ended = get_or-set_same k.slots s (Grave held.u block) Nothing (omega (arith, low, images))

  process_ended : processes_in ended_rows.slots ended_images ≡ set (processes_in v.slots k) s (Some zombie)
  process_ended = one_changed v.slots ended_rows.slots k ended_images s (Some zombie) low
      (ap (λ o. process_in o (keeping ended_images s) (text_of k s)) member_ended
      ∙ (ap (λ x. process_in (Some (dead m)) x (text_of k s)) image_ended
      ∙ ap (λ (p : Process). Some (record p { is_zombie = true; «data» = []; stack = [] })) (sym (own_alive v.slots k s m held low here has))))
      (λ r below other.
      ap (λ o. process_in o (keeping ended_images r) (text_of k r)) (get_or-set_other v.slots s r (changed dead (member_at v.slots s)) None other)
      ∙ ap (λ x. process_in (member_at v.slots r) x (text_of k r)) (get_or-set_other k.slots s r (Grave held.u block) Nothing other))

  ended_long : length ended_rows.slots ≡ 50
  ended_long = length-set v.slots s (changed dead (member_at v.slots s)) ∙ slots

  -- the rows when the children, and those who have no parent, are process 1's
  abbrev adopted_rows : Bool → Row → Processes
  adopted_rows b row = orphans_adopted (strays b row.ppid ended_rows) row.pid

  all_ended : (b : Bool) (row : Row) → row ≡ (own v.slots k s).row
      → processes_in (adopted_rows b row).slots ended_images
      ≡ map (adopted (own v.slots k s).row.pid) (cond b (map (adopted (own v.slots k s).row.ppid) (set (processes_in v.slots k) s (Some zombie))) (set (processes_in v.slots k) s (Some zombie)))
  all_ended b row is =
      let dead_slots : List (Option Process) = set (processes_in v.slots k) s (Some zombie) in
      adopted_processes (strays b row.ppid ended_rows).slots ended_images row.pid (strays_long b row.ppid ended_rows ended_long)
      ∙ (ap (map (adopted row.pid)) (stray_processes b row.ppid ended_rows ended_images ended_long ∙ ap (λ (l : List (Option Process)). cond b (map (adopted row.ppid) l) l) process_ended)
      ∙ ap (λ (r : Row). map (adopted r.pid) (cond b (map (adopted r.ppid) dead_slots) dead_slots)) is)

  world_ended : (parent : Option ℕ) (row : Row) (switches : ℕ) (n : Inodes) → row ≡ (own v.slots k s).row
      → parent ≡ exit.slot_of (world_in v t k switches n) (own v.slots k s).row.ppid
      → world_in (adopted_rows (is_none parent) row) (ended_table t s block (unwrap_or parent 1)) ended_images switches n
      ≡ exit.dead (world_in v t k switches n) s
  world_ended parent row switches n is found =
      let w : World = world_in v t k switches n in
      let dead_slots : List (Option Process) = set (processes_in v.slots k) s (Some zombie) in
      (λ i. record w {
        processes = all_ended (is_none parent) row is i;
        last_pid = strays_pid (is_none parent) row.ppid ended_rows i;
        clock = clock_ended t s block (unwrap_or parent 1) i;
      })
      ∙ ap (λ (o : Option ℕ). record w {
        processes = map (adopted (own v.slots k s).row.pid) (exit.strays_adopted o (own v.slots k s).row.ppid dead_slots);
      }) found

  slot_ended : (row_at t s).text ≡ None → Agrees (Some m) (row_at t s) (Alive held) → Agrees (Some (dead m)) (ending_row (row_at t s) block) (Grave held.u block)
  slot_ended none a = record {
    stat = refl;
    image = refl;
    place = refl;
    size = λ other is. absurd (cc is);
    quiet = λ f. refl;
    textless = λ f. none;
  }

  agree_ending : (row_at t s).text ≡ None → 0 < s → Agree v t k → Agree ended_rows (ending t s block) ended_images
  agree_ending none above a =
      let row : row_at (ending t s block) s ≡ ending_row (row_at t s) block = get_or-set_same t.rows s (ending_row (row_at t s) block) empty_row (omega (arith, low, a.rows)) in
      let old : Agrees (Some m) (row_at t s) (Alive held) = subst (λ o. Agrees o (row_at t s) (Alive held)) here (subst (λ x. Agrees (member_at v.slots s) (row_at t s) x) has (a.each s above low)) in
      agree_but v ended_rows t (ending t s block) k ended_images s a above
      (record { last = a.table.last; running = tt; ticks = a.table.ticks })
      (length-set t.rows s (ending_row (row_at t s) block))
      (subst (λ o. Agrees o (row_at (ending t s block) s) (keeping ended_images s)) (sym member_ended)
      (subst (λ (r : TableRow). Agrees (Some (dead m)) r (keeping ended_images s)) (sym row)
      (subst (λ x. Agrees (Some (dead m)) (ending_row (row_at t s) block) x) (sym image_ended) (slot_ended none old))))
      (ap (λ (r : TableRow). r.text) row ∙ a.text s above low) (same_texts k s (Grave held.u block))
      (λ r other. get_or-set_other v.slots s r (changed dead (member_at v.slots s)) None other)
      (λ r other. get_or-set_other t.rows s r (ending_row (row_at t s) block) empty_row other)
      (λ r other. get_or-set_other k.slots s r (Grave held.u block) Nothing other)

  agree_ended : (b : Bool) (row : Row) (parent : ℕ) → (row_at t s).text ≡ None → 0 < s → Agree v t k → Agree (adopted_rows b row) (ended_table t s block parent) ended_images
  agree_ended b row parent none above a =
      agree_adopted (strays b row.ppid ended_rows) (ended_table t s block parent) ended_images row.pid (strays_long b row.ppid ended_rows ended_long)
      (agree_strays b ended_rows (ended_table t s block parent) ended_images row.ppid ended_long
      (agree_woken ended_rows (wakeup (ending t s block) (Wait 1)) ended_images (Wait parent)
      (agree_woken ended_rows (ending t s block) ended_images (Wait 1) (agree_ending none above a))))

-- Of all that a call is handed.
-- the rows of those who are left
abbrev pub rows_left : Procs → ℕ → Option ℕ → Processes
rows_left p s parent =
    orphans_adopted (strays (is_none parent) (rows.row_at p.rows s).ppid (with_change p.rows s dead)) (rows.row_at p.rows s).pid

pub record DidEnd (old new : Procs) (s block : ℕ) (parent : Option ℕ) : Type 0 where
  pub table : new.table ≡ ended_table old.table s block (unwrap_or parent 1)
  pub rows : new.rows ≡ rows_left old s parent
  pub images : new.images.kept ≡ with_grave_at old.images.kept s (area_of old.images.kept s) (Some block)
  pub switches : new.switches ≡ old.switches

pub world_same : (v w : Processes) (t u : Table) (k l : Kept) (a b : ℕ) (n : Inodes) → v ≡ w → t ≡ u → k ≡ l → a ≡ b → world_in v t k a n ≡ world_in w u l b n
world_same v w t u k l a b n e f g h = λ i. world_in (e i) (f i) (g i) (h i) n

module _ (old new : Procs) (s block : ℕ) (parent : Option ℕ) (alive : IsAlive old s) (slots : length old.rows.slots ≡ 50) (images : length old.images.kept.slots ≡ 50)
    (did : DidEnd old new s block parent) where
  here : IsHere old s
  here = is_here old s alive

  images_are : new.images.kept ≡ with_keeping old.images.kept s (Grave here.held.u block)
  images_are = did.images ∙ ap (λ x. with_keeping old.images.kept s (Grave (area_in x) block)) here.image_is

  pub end_state : (fs : FileSystem) → parent ≡ exit.slot_of (handed old fs) (process_here old s).row.ppid
      → handed new fs ≡ exit.dead (handed old fs) s
  end_state fs found =
      world_same new.rows (rows_left old s parent)
      new.table (ended_table old.table s block (unwrap_or parent 1)) new.images.kept (with_keeping old.images.kept s (Grave here.held.u block))
      new.switches old.switches (inodes_of fs) did.rows did.table images_are did.switches
      ∙ world_ended old.rows old.table old.images.kept s here.member here.held block alive.below slots images here.member_is here.image_is
      parent (rows.row_at old.rows s) old.switches (inodes_of fs) (sym (own_row old.rows.slots old.images.kept s alive.below)) found

  pub end_board : board new ≡ applied (applied (applied (board old) (line.Exit s block)) (line.Wake (Wait 1))) (line.Wake (Wait (unwrap_or parent 1)))
  end_board =
      ap (λ t. board_of t new.images.kept) did.table
      ∙ (ap (λ k. board_of (ended_table old.table s block (unwrap_or parent 1)) k) images_are ∙ board_ended old.table old.images.kept s block (unwrap_or parent 1))

  pub end_agree : text_of old.images.kept s ≡ None → AreProcs new
  end_agree none =
      subst (λ v. Agree v new.table new.images.kept) (sym did.rows)
      (subst (λ t. Agree (rows_left old s parent) t new.images.kept) (sym did.table)
      (subst (λ k. Agree (rows_left old s parent) (ended_table old.table s block (unwrap_or parent 1)) k) (sym images_are)
      (agree_ended old.rows old.table old.images.kept s here.member here.held block alive.below slots images here.member_is here.image_is
      (is_none parent) (rows.row_at old.rows s) (unwrap_or parent 1) (alive.agree.text s alive.above alive.below ∙ none) alive.above alive.agree)))

-- the parent's slot, by the rows
pub parent_is : (p : Procs) (s : ℕ) (parent : Option ℕ) (row : Row) (fs : FileSystem) → length p.rows.slots ≡ 50 → row ≡ (process_here p s).row
    → parent ≡ cond (nat_eq row.ppid 0) (Some 0) (lowest (passes (has_pid row.ppid)) p.rows.slots)
    → parent ≡ exit.slot_of (handed p fs) (process_here p s).row.ppid
parent_is p s parent row fs long is e =
    e ∙ (ap (λ (r : Row). cond (nat_eq r.ppid 0) (Some 0) (lowest (passes (has_pid r.ppid)) p.rows.slots)) is
    ∙ ap (λ (slots : List (Option Member)). cond (nat_eq (process_here p s).row.ppid 0) (Some 0) (lowest (passes (has_pid (process_here p s).row.ppid)) slots))
    (sym (members_are p.rows.slots p.images.kept long)))

abbrev lines_of_end : Board → ℕ → World → ℕ → Logged World
lines_of_end b s w parent = logged b (Exit s w ∷ Show (Log (line.Wake (Wait 1))) ∷ Show (Log (line.Wake (Wait parent))) ∷ [])

module _ (p : Procs) (s : ℕ) (parent : Option ℕ) (fs : FileSystem) (a : AreProcs p) (images : length p.images.kept.slots ≡ 50)
    (is : parent ≡ exit.slot_of (handed p fs) (process_here p s).row.ppid) where
  pub logged_end : (block : ℕ) → images_of.swap_fit p.images.kept 1 ≡ Some block
      → came p (exit.dies (handed p fs) s) ≡ record {
        items = Log (line.Exit s block) ∷ Log (line.Wake (Wait 1)) ∷ Log (line.Wake (Wait (unwrap_or parent 1))) ∷ [];
        board = applied (applied (applied (board p) (line.Exit s block)) (line.Wake (Wait 1))) (line.Wake (Wait (unwrap_or parent 1)));
        stop = None;
      }
  logged_end block fit =
      ap (λ (o : Option ℕ). lines_of_end (board p) s (handed p fs) (unwrap_or o 1)) (sym is)
      ∙ logged_exit (board p) s block (handed p fs) (line.Wake (Wait 1)) (line.Wake (Wait (unwrap_or parent 1))) (same_swap_fit p.rows p.table p.images.kept a images 1 ∙ fit)

  pub logged_no_end : images_of.swap_fit p.images.kept 1 ≡ None
      → came p (exit.dies (handed p fs) s) ≡ record {
        items = Log (line.Panic panic.Zombie) ∷ [];
        board = board p;
        stop = Some (record { why = panic.Zombie; before = handed p fs });
      }
  logged_no_end fit =
      ap (λ (o : Option ℕ). lines_of_end (board p) s (handed p fs) (unwrap_or o 1)) (sym is)
      ∙ logged_panic (board p) s (handed p fs) (line.Wake (Wait 1)) (line.Wake (Wait (unwrap_or parent 1))) (same_swap_fit p.rows p.table p.images.kept a images 1 ∙ fit)

-- What exit(II) answers, and its row.
area_adopted : (pid : ℕ) (o : Option Process) → (unwrap_or (adopted pid o) no_process).u ≡ (unwrap_or o no_process).u
area_adopted pid None = refl
area_adopted pid (Some q) = by (nat_eq q.row.ppid pid)
  where
    by : (b : Bool) → (cond b (record q { row = record q.row { ppid = 1 } }) q).u ≡ q.u
    by true = refl
    by false = refl

area_among : (pid : ℕ) (ps : List (Option Process)) (s : ℕ) → s < length ps
    → (unwrap_or (get_or (map (adopted pid) ps) s None) no_process).u ≡ (unwrap_or (get_or ps s None) no_process).u
area_among pid ps s low =
    ap (λ (o : Option Process). (unwrap_or o no_process).u) (get_or-map (adopted pid) ps s None None low) ∙ area_adopted pid (get_or ps s None)

area_strays : (b : Bool) (ppid pid : ℕ) (ps : List (Option Process)) (s : ℕ) → s < length ps
    → (unwrap_or (get_or (map (adopted pid) (cond b (map (adopted ppid) ps) ps)) s None) no_process).u ≡ (unwrap_or (get_or ps s None) no_process).u
area_strays true ppid pid ps s low =
    area_among pid (map (adopted ppid) ps) s (omega (arith, low, length-map ps (adopted ppid))) ∙ area_among ppid ps s low
area_strays false ppid pid ps s low = area_among pid ps s low

area_dead : (w : World) (s : ℕ) → s < length w.processes → (process_of (exit.dead w s) s).u ≡ (process_of w s).u
area_dead w s low =
    let q : Process = process_of w s in
    let zombie : Process = record q { is_zombie = true; «data» = []; stack = [] } in
    area_strays (is_none (exit.slot_of w q.row.ppid)) q.row.ppid q.row.pid (set w.processes s (Some zombie)) s (omega (arith, low, length-set w.processes s (Some zombie)))
    ∙ ap (λ (o : Option Process). (unwrap_or o no_process).u) (get_or-set_same w.processes s (Some zombie) None low)

-- who leaves a text keeps its registers, and its slot
without : (w : World) (s k : ℕ) → s < length w.processes → (process_of (change w s without_text) s).u.r ≡ (process_of w s).u.r
without w s k low = ap (λ (q : Process). q.u.r) (put_here w.processes s (without_text (process_of w s)) low)

registers_by : (b : Bool) (v : World) (s ino : ℕ) (r : List ℕ) → (process_of v s).u.r ≡ r → (process_of (cond b (let_go v ino) v) s).u.r ≡ r
registers_by true v s ino r e = e
registers_by false v s ino r e = e

long_by : (b : Bool) (v : World) (ino n : ℕ) → length v.processes ≡ n → length (cond b (let_go v ino) v).processes ≡ n
long_by true v ino n e = e
long_by false v ino n e = e

registers_free : (w : World) (s : ℕ) (o : Option ℕ) → s < length w.processes → (process_of (xfree w s o nothing).state s).u.r ≡ (process_of w s).u.r
registers_free w s None low = refl
registers_free w s (Some k) low =
    let text : Text = text_at w.texts k in
    registers_by (goes text (is_sticky w k))
    (change (record w { texts = set w.texts k (remaining (is_sticky w k) (get_or w.texts k None)) }) s without_text) s text.ino (process_of w s).u.r
    (without (record w { texts = set w.texts k (remaining (is_sticky w k) (get_or w.texts k None)) }) s k low)

long_free : (w : World) (s : ℕ) (o : Option ℕ) → length (xfree w s o nothing).state.processes ≡ length w.processes
long_free w s None = refl
long_free w s (Some k) =
    let text : Text = text_at w.texts k in
    long_by (goes text (is_sticky w k))
    (change (record w { texts = set w.texts k (remaining (is_sticky w k) (get_or w.texts k None)) }) s without_text) text.ino (length w.processes)
    (length-set w.processes s (Some (without_text (process_of w s))))

registers_left : (w : World) (s status : ℕ) (o : Option ℕ) → s < length w.processes
    → (process_of (exit.dead (xfree (exit.leaves w s status) s o nothing).state s) s).u.r ≡ (process_of w s).u.r
registers_left w s status o low =
    let ended : Process = exit.ended status (process_of w s) in
    let v : World = exit.leaves w s status in
    let within : s < length v.processes = omega (arith, low, length-set w.processes s (Some ended)) in
    ap (λ (u : UArea). u.r) (area_dead (xfree v s o nothing).state s (omega (arith, within, long_free v s o)))
    ∙ registers_free v s o within
    ∙ ap (λ (q : Process). q.u.r) (put_here w.processes s ended low)

pub exit_row : (p : Procs) (fs : FileSystem) (s : ℕ) (u : UArea) → u ≡ (process_here p s).u
    → exit.end_proc (handed p fs) s (256 * (get_or u.r 0 0 % 256)) ≡ exit.exit_now (handed p fs) s
unfolding exit.exit_now
exit_row p fs s u e = ap (λ (v : UArea). exit.end_proc (handed p fs) s (256 * (get_or v.r 0 0 % 256))) e

-- the text that a process leaves as it ends
pub text_left : (w : World) (s status : ℕ) → s < length w.processes → (process_of (exit.leaves w s status) s).text ≡ (process_of w s).text
text_left w s status low = ap (λ (q : Process). q.text) (put_here w.processes s (exit.ended status (process_of w s)) low)

pub end_row : (w : World) (s status : ℕ) (o : Option ℕ) → o ≡ (process_of w s).text
    → xfree (exit.leaves w s status) s o (λ left. exit.dies left s) ≡ exit.end_proc w s status
unfolding exit.end_proc
end_row w s status o e = ap (λ text. xfree (exit.leaves w s status) s text (λ left. exit.dies left s)) e

pub exit_answer : (p : Procs) (fs : FileSystem) (s : ℕ) (u : UArea) → IsAlive p s → u ≡ (process_here p s).u
    → Ret (get_or u.r 0 0) (get_or u.r 1 0) ≡ (exit.exit_now (handed p fs) s).answer
unfolding exit.exit_now
exit_answer p fs s u alive e =
    let w : World = handed p fs in
    let low = alive.below in
    let status : ℕ = 256 * (get_or (process_here p s).u.r 0 0 % 256) in
    let text : Option ℕ = (process_here p s).text in
    let left : u.r ≡ (process_of (exit.dead (xfree (exit.leaves w s status) s text nothing).state s) s).u.r =
    ap (λ (v : UArea). v.r) e ∙ sym (registers_left w s status text (omega (arith, low, fifty_processes p.rows.slots p.images.kept))) in
    ap (λ (r : List ℕ). Ret (get_or r 0 0) (get_or r 1 0)) left
    ∙ sym (left_answer (exit.leaves w s status) s (λ left. exit.dies left s) text)
    ∙ ap (λ (c : Comes). c.answer) (end_row w s status text refl)
