-- A tick of the clock: what it leaves of the table of slots, of the board, and of the Unix.
use Rattle.std.proofs.Common.{◌≡◌, ◌+◌, ◌-◌, ◌%◌, ◌^◌, ◌==◌, ◌||◌, ◌&&◌, cond, ℕ, Bool, true, false, List, [], ◌∷◌, min, int_lt, pos, fold, None, refl, sym, ap, ◌∙◌}
use Rattle.std.proofs.lemmas.List.{length-set}
use Rattle.v6_base.specs.declared.entry.Chan.{Chan}
use Rattle.v6_base.specs.declared.entry.Chan.TheVariants.{RunIn}
use Rattle.pick_rules.specs.declared.row.Mode.{Mode}
use Rattle.pick_rules.specs.declared.row.Mode.TheVariants.{User, Kernel, Idle}
use Rattle.pick_rules.specs.declared.row.Second.{Second}
use Rattle.pick_rules.specs.declared.row.Second.TheVariants.{No, Yes}
use Rattle.pick_rules.specs.declared.row.Stat.TheVariants.{Ready}
use Rattle.pick_rules.specs.declared.row.TableRow.{TableRow}
use Rattle.pick_rules.specs.declared.table.Table.{Table}
use Rattle.pick_rules.specs.Search.{slots}
use Rattle.pick_rules.specs.Table.{row_at, with_row, is_empty, is_on}
use Rattle.pick_rules.specs.Priority.{user_pri, setpri}
use Rattle.pick_rules.specs.Sleepers.{made_ready, sleeps_on, process_0_woken, runin_told}
use Rattle.pick_rules.specs.Clock.{charged_slot, charged, aged, second, ticked, tick, told}
use Rattle.pick_rules.specs.Apply.{applied}
use Rattle.pick_rules.proofs.Laws.{set_each, timed, tick_kept}
use Rattle.image_keep.specs.Kept.{Kept}
use Rattle.sys_procs.specs.World.{clock_of}
use Rattle.sys_procs.specs.Agree.{kind_of_stat, board_of}
use Rattle.sys_procs.proofs.Agreement.{IsLike, AreLike}
use Rattle.swap_sched.proofs.Boards.{untimed}
use Rattle.sys_procs.proofs.Tables.{untimed_setpri}
use Rattle.unix_core.specs.Passing.{trapped}
use Rattle.abstract_unix.specs.Outside as outside
use Rattle.abstract_unix.specs.Outside.{tick_entry, clock_after}
use Rattle.unix_core.proofs.BoardLemmas.{untimed_runin}

either : {A B : Type 0} (f : A → B) (b : Bool) (x y : A) → f (cond b x y) ≡ cond b (f x) (f y)
either f true x y = refl
either f false x y = refl

-- A row that differs in its numbers alone.
pub record IsSameRow (old new : TableRow) : Type 0 where
  pub place : new.place ≡ old.place
  pub size : new.size ≡ old.size
  pub text : new.text ≡ old.text
  pub stat : new.stat ≡ old.stat
  pub channel : new.channel ≡ old.channel

like_then : (first old new : TableRow) → IsLike first old → IsSameRow old new → IsLike first new
like_then first old new l s = record {
  place = s.place ∙ l.place;
  size = s.size ∙ l.size;
  text = s.text ∙ l.text;
  awake = λ e. let a = l.awake e in (s.stat ∙ a.0, s.channel ∙ a.1);
  woken = λ e f. ap kind_of_stat s.stat ∙ l.woken e f;
}

module _ (first : Table) where
  like_row : (t : Table) (s : ℕ) (row : TableRow) (runrun : Bool) → IsSameRow (row_at t s) row → AreLike first t → AreLike first (record (with_row t s row) { runrun = runrun })
  like_row t s row runrun same l = record {
    long = length-set t.rows s row ∙ l.long;
    each = set_each (λ r x. IsLike (row_at first r) x) t.rows s row l.each (like_then (row_at first s) (row_at t s) row (l.each s) same);
  }

  pub setpri_like : (t : Table) (s : ℕ) → AreLike first t → AreLike first (setpri t s)
  unfolding setpri
  setpri_like t s l =
      like_row t s (record (row_at t s) { pri = user_pri (row_at t s) }) (t.runrun || int_lt t.curpri (user_pri (row_at t s)))
      (record { place = refl; size = refl; text = refl; stat = refl; channel = refl }) l

  pub trapped_like : (t : Table) (s : ℕ) → AreLike first t → AreLike first (trapped t s)
  trapped_like t s l =
      setpri_like (with_row t s (record (row_at t s) { calling = false })) s
      (like_row t s (record (row_at t s) { calling = false }) t.runrun (record { place = refl; size = refl; text = refl; stat = refl; channel = refl }) l)

  charged_like : (t : Table) → AreLike first t → AreLike first (charged t)
  charged_like t l =
      like_row t (charged_slot t) (record (row_at t (charged_slot t)) { cpu = min ((row_at t (charged_slot t)).cpu + 1) 255 }) t.runrun
      (record { place = refl; size = refl; text = refl; stat = refl; channel = refl }) l

  aged_like : (t : Table) (s : ℕ) → AreLike first t → AreLike first (aged t s)
  unfolding aged
  aged_like t s l = by (is_empty (row_at t s).stat) (int_lt (pos 100) (row_at t s).pri)
    where
      row : TableRow
      row = record (row_at t s) { time = min ((row_at t s).time + 1) 127; cpu = (row_at t s).cpu - 10 }

      older : Table
      older = with_row t s row

      kept : AreLike first older
      kept = like_row t s row t.runrun (record { place = refl; size = refl; text = refl; stat = refl; channel = refl }) l

      by : (x y : Bool) → AreLike first (cond x t (cond y (setpri older s) older))
      by true y = l
      by false true = setpri_like older s kept
      by false false = kept

  all_like : (xs : List ℕ) (t : Table) → AreLike first t → AreLike first (fold aged t xs)
  all_like [] t l = l
  all_like (s ∷ xs) t l = all_like xs (aged t s) (aged_like t s l)

  ready_row : (old now : TableRow) (w : Chan) → is_on now.channel w ≡ true → IsLike old now → IsLike old (record now { stat = Ready; channel = None })
  ready_row old now w on l = record {
    place = l.place;
    size = l.size;
    text = l.text;
    awake = λ e. absurd (off (l.awake e).1);
    woken = λ e f. refl;
  }
    where
      off : now.channel ≡ None → ⊥
      off e = let f : is_on None w ≡ true = ap (λ c. is_on c w) (sym e) ∙ on in cc f

  zero_like : (t : Table) (w : Chan) → AreLike first t → AreLike first (process_0_woken t w)
  unfolding made_ready
  zero_like t w l = by (sleeps_on t 0 w) refl
    where
      row : TableRow
      row = record (row_at t 0) { stat = Ready; channel = None }

      by : (b : Bool) → sleeps_on t 0 w ≡ b → AreLike first (cond b (made_ready t 0) t)
      by true on = record {
        long = length-set t.rows 0 row ∙ l.long;
        each = set_each (λ r x. IsLike (row_at first r) x) t.rows 0 row l.each (ready_row (row_at first 0) (row_at t 0) w on (l.each 0));
      }
      by false on = l

  pub runin_like : (t : Table) → AreLike first t → AreLike first (runin_told t)
  unfolding runin_told
  runin_like t l = by t.runin
    where
      by : (b : Bool) → AreLike first (cond b (process_0_woken (record t { runin = false }) RunIn) t)
      by true = zero_like (record t { runin = false }) RunIn (record { long = l.long; each = l.each })
      by false = l

  second_like : (t : Table) → AreLike first t → AreLike first (second t)
  unfolding second
  second_like t l =
      let begun : Table = record t { ticks = 0; now = (t.now + 1) % 2 ^ 32; runrun = t.runrun || ((t.now + 1) % 2 ^ 32 % 4 == 0) } in
      runin_like (fold aged begun slots) (all_like slots begun (record { long = l.long; each = l.each }))

  ticked_like : (t : Table) → AreLike first t → AreLike first (ticked t)
  unfolding ticked
  ticked_like t l = by (t.ticks == 59)
    where
      by : (b : Bool) → AreLike first (cond b (second (charged t)) (record (charged t) { ticks = t.ticks + 1 }))
      by true = second_like (charged t) (charged_like t l)
      by false = let c = charged_like t l in record { long = c.long; each = c.each }

  pub tick_like : (mode : Mode) (t : Table) → AreLike first t → AreLike first (tick mode t)
  tick_like User t l = by (t.ticks == 59)
    where
      by : (b : Bool) → AreLike first (cond b (setpri (ticked t) (charged_slot t)) (ticked t))
      by true = setpri_like (ticked t) (charged_slot t) (ticked_like t l)
      by false = ticked_like t l
  tick_like Kernel t l = ticked_like t l
  tick_like Idle t l = ticked_like t l

-- The board of the log doesn't tell when sleepers are woken.
untimed_aged : (t : Table) (s : ℕ) → untimed (aged t s) ≡ aged (untimed t) s
unfolding aged
untimed_aged t s =
    let older : Table = with_row t s (record (row_at t s) { time = min ((row_at t s).time + 1) 127; cpu = (row_at t s).cpu - 10 }) in
    let old : Bool = int_lt (pos 100) (row_at t s).pri in
    let free : Bool = is_empty (row_at t s).stat in
    either untimed free t (cond old (setpri older s) older)
    ∙ ap (cond free (untimed t)) (either untimed old (setpri older s) older ∙ ap (λ u. cond old u (untimed older)) (untimed_setpri older s))

untimed_all : (xs : List ℕ) (t : Table) → untimed (fold aged t xs) ≡ fold aged (untimed t) xs
untimed_all [] t = refl
untimed_all (s ∷ xs) t = untimed_all xs (aged t s) ∙ ap (λ u. fold aged u xs) (untimed_aged t s)

untimed_second : (t : Table) → untimed (second t) ≡ second (untimed t)
unfolding second
untimed_second t =
    let begun : Table = record t { ticks = 0; now = (t.now + 1) % 2 ^ 32; runrun = t.runrun || ((t.now + 1) % 2 ^ 32 % 4 == 0) } in
    untimed_runin (fold aged begun slots) ∙ ap runin_told (untimed_all slots begun)

untimed_ticked : (t : Table) → untimed (ticked t) ≡ ticked (untimed t)
unfolding ticked
untimed_ticked t =
    either untimed (t.ticks == 59) (second (charged t)) (record (charged t) { ticks = t.ticks + 1 })
    ∙ ap (λ u. cond (t.ticks == 59) u (untimed (record (charged t) { ticks = t.ticks + 1 }))) (untimed_second (charged t))

untimed_user : (t : Table) → untimed (tick User t) ≡ tick User (untimed t)
untimed_user t =
    let at : ℕ = charged_slot t in
    either untimed (t.ticks == 59) (setpri (ticked t) at) (ticked t)
    ∙ ap (λ u. cond (t.ticks == 59) u (untimed (ticked t))) (untimed_setpri (ticked t) at ∙ ap (λ u. setpri u at) (untimed_ticked t))
    ∙ ap (λ u. cond (t.ticks == 59) (setpri (ticked (untimed t)) at) u) (untimed_ticked t)

pub board_ticked : (mode : Mode) (t : Table) (k : Kept) → board_of (tick mode t) k ≡ applied (board_of t k) (tick_entry mode)
unfolding applied
board_ticked User t k = ap (λ (u : Table). record (board_of t k) { table = u }) (untimed_user t)
board_ticked Kernel t k = ap (λ (u : Table). record (board_of t k) { table = u }) (untimed_ticked t)
board_ticked Idle t k = ap (λ (u : Table). record (board_of t k) { table = u }) (untimed_ticked t)

-- The clock after a tick.
pub tick_clock : (mode : Mode) (t : Table) → clock_of (tick mode t) ≡ clock_after (clock_of t)
tick_clock mode t =
    (λ i. record { time = (tick_kept mode t).now i; ticks = (tick_kept mode t).ticks i; tout = (tick_kept mode t).tout i })
    ∙ either clock_of (t.ticks == 59) (timed t 0 ((t.now + 1) % 2 ^ 32)) (timed t (t.ticks + 1) t.now)

passed_running : (t : Table) (b : Bool) → (cond b (timed t 0 ((t.now + 1) % 2 ^ 32)) (timed t (t.ticks + 1) t.now)).running ≡ t.running
passed_running t true = refl
passed_running t false = refl

pub tick_running : (mode : Mode) (t : Table) → (tick mode t).running ≡ t.running
tick_running mode t = (tick_kept mode t).running ∙ passed_running t (t.ticks == 59)

-- whether a second brings the time at which sleepers are woken
pub second_due : (t : Table) (told_ : Second) (due : Bool) → told_ ≡ told t → ((tout : Bool) → told_ ≡ Yes tout → due ≡ tout) → (told_ ≡ No → due ≡ false)
    → due ≡ outside.is_due (clock_of t)
second_due t told_ due is ends within = by (t.ticks == 59) is
  where
    by : (b : Bool) → told_ ≡ cond b (Yes ((t.now + 1) % 2 ^ 32 == t.tout)) No → due ≡ (b && ((t.now + 1) % 2 ^ 32 == t.tout))
    by true e = ends ((t.now + 1) % 2 ^ 32 == t.tout) e
    by false e = within e
