-- A signal that is sent to a slot in use: what becomes of its process, of the tables and of the board.
use Rattle.std.proofs.Common.{◌≡◌, ◌∙◌, ℕ, ◌<◌, Bool, true, false, ◌&&◌, ◌==◌, not, cond, List, [], ◌∷◌, length, get_or, set, pos, Option, Some, None, is_some, IsSome, refl, sym, ap, subst, arith}
use Rattle.std.specs.Int.{int_min}
use Rattle.std.specs.Option.{unwrap_or}
use Rattle.std.proofs.lemmas.List.{length-set, set-get_or, get_or-set_same, get_or-set_other}
use Rattle.v6_base.specs.Trace.{Log}
use Rattle.v6_base.specs.declared.entry.Entry.TheVariants as line
use Rattle.pick_rules.specs.declared.row.Stat.{Stat}
use Rattle.pick_rules.specs.declared.row.Stat.TheVariants.{Empty, Sleeping, Waiting, Ready, Zombie}
use Rattle.pick_rules.specs.declared.row.TableRow.{TableRow}
use Rattle.pick_rules.specs.declared.table.Table.{Table}
use Rattle.pick_rules.specs.Table.{empty_row, row_at, with_row, is_loaded, is_waiting, IsTable}
use Rattle.pick_rules.specs.Sleepers.{made_ready, runout_told, setrun}
use Rattle.pick_rules.specs.Sleepers as sleepers
use Rattle.pick_rules.specs.Apply.{applied}
use Rattle.pick_rules.proofs.Laws.{Stays, runout_stays, setrun_kept}
use Rattle.proc_tab.specs.declared.member.Member.{Member}
use Rattle.proc_tab.specs.declared.row.Row.{Row}
use Rattle.proc_tab.specs.Processes as processes
use Rattle.proc_tab.specs.Processes.{Processes, IsUsed, member_at, changed, with_change}
use Rattle.sig_core.specs.declared.numbers.TheConstants.{SIGKIL}
use Rattle.sig_core.specs.Signals.{is_signal, posted}
use Rattle.image_keep.specs.Kept.{Keeping, Nothing, Alive, Grave, Kept, keeping, text_of}
use Rattle.image_keep.proofs.Frames.{SameTexts}
use Rattle.swap_sched.proofs.Boards.{either}
use Rattle.fs_nodes.specs.FileSystem.{FileSystem}
use Rattle.sys_procs.specs.declared.procs.Procs.{Procs}
use Rattle.sys_procs.specs.Process.{Process, no_process, process_by, process_in}
use Rattle.sys_procs.specs.World.{World, process_at, process_of, change, processes_in, clock_of}
use Rattle.sys_procs.specs.Signals.{signalled, signal_lines, is_meant}
use Rattle.sys_procs.specs.Agree.{Lives, kind_of_stat, kind_of_member, Agrees, Agree, board_of}
use Rattle.sys_procs.specs.Handed.{handed}
use Rattle.sys_procs.proofs.Slots.{own, own_is, own_row, one_changed, process_in_slot}
use Rattle.sys_procs.proofs.Agreement.{agree_but, agree_like, runout_like}
use Rattle.sys_procs.proofs.Tables.{untimed, untimed_setrun}

-- What is posted leaves who the process is; what is no signal leaves the row.
module _ (row : Row) (n : ℕ) where
  abbrev by_test : Bool → Row
  by_test b = cond (b && not (row.sig == SIGKIL)) (record row { sig = n }) row

  pub posted_none : is_signal n ≡ false → posted row n ≡ row
  posted_none no_signal = ap by_test no_signal

  pub posted_pid : (posted row n).pid ≡ row.pid
  posted_pid = by (is_signal n && not (row.sig == SIGKIL))
    where
      by : (b : Bool) → (cond b (record row { sig = n }) row).pid ≡ row.pid
      by true = refl
      by false = refl

  pub posted_ppid : (posted row n).ppid ≡ row.ppid
  posted_ppid = by (is_signal n && not (row.sig == SIGKIL))
    where
      by : (b : Bool) → (cond b (record row { sig = n }) row).ppid ≡ row.ppid
      by true = refl
      by false = refl

-- who is in a slot in use
pub member_there : (o : Option Member) → IsSome o → (m : Member) × (o ≡ Some m)
member_there (Some m) some = (m, refl)
member_there None some = absurd (cc some)

-- Another row for a slot in use, also of a process that has ended.
row_by : (m : Member) (row : Row) (x : Keeping) (t : Option ℕ)
    → process_by (processes.with_row row m) x t ≡ record (process_by m x t) { row = row }
row_by m row Nothing t = refl
row_by m row (Alive held) t = refl
row_by m row (Grave u block) t = refl

module _ (slots : List (Option Member)) (k : Kept) (s : ℕ) (m : Member) (low : s < 50) (here : member_at slots s ≡ Some m) where
  pub own_used : own slots k s ≡ process_by m (keeping k s) (text_of k s)
  own_used = own_is slots k s low ∙ ap (λ o. unwrap_or (process_in o (keeping k s) (text_of k s)) no_process) here

  pub there : get_or (processes_in slots k) s None ≡ Some (own slots k s)
  there =
      process_in_slot slots k s low
      ∙ (ap (λ o. process_in o (keeping k s) (text_of k s)) here ∙ ap (λ (p : Process). Some p) (sym own_used))

  pub used_row : (row : Row) → s < length slots
      → processes_in (set slots s (changed (processes.with_row row) (member_at slots s))) k ≡ set (processes_in slots k) s
      (Some (record (own slots k s) { row = row }))
  used_row row within =
      let new : Option Member = changed (processes.with_row row) (member_at slots s) in
      one_changed slots (set slots s new) k k s _ low
      (ap (λ o. process_in o (keeping k s) (text_of k s)) (get_or-set_same slots s new None within)
      ∙ (ap (λ o. process_in (changed (processes.with_row row) o) (keeping k s) (text_of k s)) here
      ∙ (ap (λ (p : Process). Some p) (row_by m row (keeping k s) (text_of k s))
      ∙ ap (λ (p : Process). Some (record p { row = row })) (sym own_used))))
      (λ r below other. ap (λ o. process_in o (keeping k r) (text_of k r)) (get_or-set_other slots s r new None other))

-- The table.
abbrev lowered : Table → ℕ → Table
lowered t s = with_row t s (record (row_at t s) { pri = int_min (row_at t s).pri (pos 100) })

pub untimed_signalled : (t : Table) (s : ℕ) → untimed (sleepers.signalled t s) ≡ sleepers.signalled (untimed t) s
unfolding sleepers.signalled
untimed_signalled t s =
    either untimed (is_waiting (row_at t s).stat) (setrun (lowered t s) s) (lowered t s)
    ∙ ap (λ u. cond (is_waiting (row_at t s).stat) u (lowered (untimed t) s)) (untimed_setrun (lowered t s) s)

pub board_signalled : (t : Table) (k : Kept) (s n : ℕ)
    → board_of (sleepers.signalled t s) k ≡ applied (board_of t k) (line.Signal s n)
unfolding applied
board_signalled t k s n = ap (λ (u : Table). record (board_of t k) { table = u }) (untimed_signalled t s)

pub clock_signalled : (t : Table) (s : ℕ) → clock_of (sleepers.signalled t s) ≡ clock_of t
unfolding sleepers.signalled
clock_signalled t s = by (is_waiting (row_at t s).stat)
  where
    by : (b : Bool) → clock_of (cond b (setrun (lowered t s) s) (lowered t s)) ≡ clock_of t
    by true =
        let u : Table = setrun (lowered t s) s in
        let k = setrun_kept (lowered t s) s in
        ap (λ n. record { time = n; ticks = u.ticks; tout = u.tout }) k.now
        ∙ (ap (λ n. record { time = t.now; ticks = n; tout = u.tout }) k.ticks
        ∙ ap (λ n. record { time = t.now; ticks = t.ticks; tout = n }) k.tout)
    by false = refl

-- Rows, slots and images still agree.
row_agrees : (v : Processes) (t u : Table) (k : Kept) (s : ℕ) (row : TableRow) → Agree v t k → 0 < s → s < 50
    → u.rows ≡ set t.rows s row → IsTable u → Agrees (member_at v.slots s) row (keeping k s) → row.text ≡ (row_at t s).text
    → Agree v u k
row_agrees v t u k s row a above low is good agrees text =
    let here : row_at u s ≡ row =
    ap (λ rows. get_or rows s empty_row) is
    ∙ get_or-set_same t.rows s row empty_row (let long = a.rows in omega (arith, low, long)) in
    let same : SameTexts k k = record { texts = refl; users = refl } in
    agree_but v v t u k k s a above good (ap length is ∙ length-set t.rows s row)
    (subst (λ (r : TableRow). Agrees (member_at v.slots s) r (keeping k s)) (sym here) agrees)
    (ap (λ (r : TableRow). r.text) here ∙ (text ∙ a.text s above low)) same
    (λ r other. refl) (λ r other. ap (λ rows. get_or rows r empty_row) is ∙ get_or-set_other t.rows s r row empty_row other)
    (λ r other. refl)

waits_live : (stat : Stat) → is_waiting stat ≡ true → kind_of_stat stat ≡ Lives
waits_live Empty e = absurd (cc e)
waits_live Sleeping e = absurd (cc e)
waits_live Waiting e = refl
waits_live Ready e = absurd (cc e)
waits_live Zombie e = absurd (cc e)

ready_table : (t : Table) (s : ℕ) → IsTable t → IsTable (made_ready t s)
unfolding made_ready
ready_table t s good = record { last = good.last; running = good.running; ticks = good.ticks }

table_stays : Stays IsTable
table_stays = record {
  woken = λ t s w on good. ready_table t s good;
  runout = λ t good. record { last = good.last; running = good.running; ticks = good.ticks };
  runin = λ t good. record { last = good.last; running = good.running; ticks = good.ticks };
}

ready_agrees : (v : Processes) (t : Table) (k : Kept) (s : ℕ) → Agree v t k → 0 < s → s < 50
    → is_waiting (row_at t s).stat ≡ true → Agree v (made_ready t s) k
unfolding made_ready
ready_agrees v t k s a above low waits =
    let row : TableRow = record (row_at t s) { stat = Ready; channel = None } in
    let old = a.each s above low in
    let good = a.table in
    let lives : Lives ≡ kind_of_member (member_at v.slots s) = sym (waits_live (row_at t s).stat waits) ∙ old.stat in
    row_agrees v t (made_ready t s) k s row a above low refl
    (record { last = good.last; running = good.running; ticks = good.ticks })
    (record {
      stat = lives;
      image = old.image;
      place = old.place;
      size = old.size;
      quiet = λ f. refl;
      textless = old.textless;
    }) refl

runs_agree : (v : Processes) (t : Table) (k : Kept) (s : ℕ) → Agree v (made_ready t s) k → Agree v (setrun t s) k
unfolding setrun
runs_agree v t k s a = by (is_loaded t s)
  where
    by : (b : Bool) → Agree v (cond b (made_ready t s) (runout_told (made_ready t s))) k
    by true = a
    by false = agree_like v (made_ready t s) (runout_told (made_ready t s)) k a
        (runout_stays IsTable table_stays (made_ready t s) a.table) (runout_like (made_ready t s))

pub agree_signalled : (v : Processes) (t : Table) (k : Kept) (s : ℕ) → Agree v t k → 0 < s → s < 50
    → Agree v (sleepers.signalled t s) k
unfolding sleepers.signalled
agree_signalled v t k s a above low = by (is_waiting (row_at t s).stat) refl
  where
    row : TableRow
    row = record (row_at t s) { pri = int_min (row_at t s).pri (pos 100) }

    lower : Agree v (lowered t s) k
    lower =
        let old = a.each s above low in
        let good = a.table in
        row_agrees v t (lowered t s) k s row a above low refl
        (record { last = good.last; running = good.running; ticks = good.ticks })
        (record {
          stat = old.stat;
          image = old.image;
          place = old.place;
          size = old.size;
          quiet = old.quiet;
          textless = old.textless;
        }) refl

    here : row_at (lowered t s) s ≡ row
    here = get_or-set_same t.rows s row empty_row (let long = a.rows in omega (arith, low, long))

    by : (b : Bool) → is_waiting (row_at t s).stat ≡ b → Agree v (cond b (setrun (lowered t s) s) (lowered t s)) k
    by true waits =
        runs_agree v (lowered t s) k s
        (ready_agrees v (lowered t s) k s lower above low (ap (λ (r : TableRow). is_waiting r.stat) here ∙ waits))
    by false waits = lower

-- the row of a process that has one is another, with who it is
pub agree_row : (v : Processes) (t : Table) (k : Kept) (s : ℕ) (m : Member) (row : Row) → Agree v t k → 0 < s → s < 50
    → s < length v.slots
    → member_at v.slots s ≡ Some m → Agree (with_change v s (processes.with_row row)) t k
agree_row v t k s m row a above low within here =
    let new : Option Member = changed (processes.with_row row) (member_at v.slots s) in
    let now : member_at (set v.slots s new) s ≡ Some (processes.with_row row m) =
    get_or-set_same v.slots s new None within ∙ ap (changed (processes.with_row row)) here in
    let old : Agrees (Some m) (row_at t s) (keeping k s) =
    subst (λ o. Agrees o (row_at t s) (keeping k s)) here (a.each s above low) in
    let same : SameTexts k k = record { texts = refl; users = refl } in
    agree_but v (with_change v s (processes.with_row row)) t t k k s a above a.table refl
    (subst (λ o. Agrees o (row_at t s) (keeping k s)) (sym now)
    (record {
      stat = old.stat;
      image = old.image;
      place = old.place;
      size = old.size;
      quiet = old.quiet;
      textless = old.textless;
    }))
    (a.text s above low) same
    (λ r other. get_or-set_other v.slots s r new None other) (λ r other. refl) (λ r other. refl)

-- What is handed then.
pub sent : (p : Procs) (s sig : ℕ) (row : Row) (fs : FileSystem) → IsUsed p.rows s → s < 50 → s < length p.rows.slots
    → row ≡ posted (processes.row_at p.rows s) sig
    → handed (record p {
      rows = with_change p.rows s
          (processes.with_row row);
      table = sleepers.signalled p.table s;
    }) fs ≡ change (handed p fs) s (signalled sig)
sent p s sig row fs used low within is =
    let it = member_there (member_at p.rows.slots s) used in
    let w : World = handed p fs in
    let mine : row ≡ posted (process_of w s).row sig =
    is ∙ ap (λ (r : Row). posted r sig) (sym (own_row p.rows.slots p.images.kept s low)) in
    ap (λ clock. record (handed (record p { rows = with_change p.rows s (processes.with_row row) }) fs) { clock = clock })
    (clock_signalled p.table s)
    ∙ (ap (λ (ps : List (Option Process)). record w { processes = ps })
    (used_row p.rows.slots p.images.kept s it.0 low it.1 row within)
    ∙ ap (λ (r : Row). record w { processes = set w.processes s (Some (record (process_of w s) { row = r })) }) mine)

pub none_sent : (p : Procs) (s sig : ℕ) (fs : FileSystem) → IsUsed p.rows s → s < 50 → is_signal sig ≡ false
    → handed p fs ≡ change (handed p fs) s (signalled sig)
none_sent p s sig fs used low no_signal =
    let it = member_there (member_at p.rows.slots s) used in
    let w : World = handed p fs in
    let here : get_or w.processes s None ≡ Some (process_of w s) = there p.rows.slots p.images.kept s it.0 low it.1 in
    ap (λ (ps : List (Option Process)). record w { processes = ps })
    (sym (set-get_or w.processes s None) ∙ ap (set w.processes s) here)
    ∙ ap (λ (r : Row). record w { processes = set w.processes s (Some (record (process_of w s) { row = r })) })
    (sym (posted_none (process_of w s).row sig no_signal))

-- the lines
pub one_line : (s n : ℕ) → is_signal n ≡ true → signal_lines n (s ∷ []) ≡ Log (line.Signal s n) ∷ []
one_line s n is = ap (λ b. cond b (Log (line.Signal s n) ∷ []) []) is

-- whether the process in a slot is meant, where there is one and where there is none
none_there : (o : Option Member) → is_some o ≡ false → o ≡ None
none_there None e = refl
none_there (Some m) e = absurd (cc e)

module _ (p : Procs) (fs : FileSystem) (s : ℕ) (who : ℕ → Process → Bool) (low : s < 50) where
  pub meant_not : is_some (member_at p.rows.slots s) ≡ false → is_meant who s (process_at (handed p fs) s) ≡ false
  meant_not unused =
      ap (is_meant who s) (process_in_slot p.rows.slots p.images.kept s low
      ∙ ap (λ o. process_in o (keeping p.images.kept s) (text_of p.images.kept s)) (none_there (member_at p.rows.slots s) unused))

  pub meant_there : is_some (member_at p.rows.slots s) ≡ true
      → is_meant who s (process_at (handed p fs) s) ≡ who s (process_of (handed p fs) s)
  meant_there used =
      let it = member_there (member_at p.rows.slots s) used in
      ap (is_meant who s) (there p.rows.slots p.images.kept s it.0 low it.1)

-- nobody is in slot 0
pub kernel_is_none : (p : Procs) (fs : FileSystem) → member_at p.rows.slots 0 ≡ None
    → get_or (handed p fs).processes 0 None ≡ None
kernel_is_none p fs none =
    process_in_slot p.rows.slots p.images.kept 0 (omega arith)
    ∙ ap (λ o. process_in o (keeping p.images.kept 0) (text_of p.images.kept 0)) none
