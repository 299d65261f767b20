-- What most lines leave of each row: whether it is empty, whether it is a zombie, whether it calls, its text, its place
-- and its size.
use Rattle.std.proofs.Common.{◌≡◌, ◌∙◌, ◌⊎◌, inl, inr, ℕ, zero, suc, pos, Bool, true, false, cond, List, [], ◌∷◌, Option, None, get_or, set, length, length-set, refl, ap}
use Rattle.std.specs.Int.{int_min}
use Rattle.v6_base.specs.declared.entry.Chan.{Chan}
use Rattle.v6_base.specs.declared.entry.Place.{Place}
use Rattle.pick_rules.specs.declared.row.Stat.{Stat}
use Rattle.pick_rules.specs.declared.row.Stat.TheVariants.{Empty, Sleeping, Waiting, Ready, Zombie}
use Rattle.pick_rules.specs.declared.row.TableRow.{TableRow}
use Rattle.pick_rules.specs.declared.table.Table.{Table}
use Rattle.pick_rules.specs.Table.{empty_row, row_at, with_row, is_empty, is_waiting, is_zombie, is_on}
use Rattle.pick_rules.specs.Sleepers.{made_ready, runout_told, runin_told, setrun, wakeup, signalled}
use Rattle.pick_rules.proofs.Laws.{Stays, runout_stays, runin_stays, setrun_stays, wakeup_stays}

pub record Shape : Type 0 where
  pub empty : Bool
  pub zombie : Bool
  pub calling : Bool
  pub text : Option ℕ
  pub place : Option Place
  pub size : ℕ

abbrev pub shape : TableRow → Shape
shape row = record {
  empty = is_empty row.stat;
  zombie = is_zombie row.stat;
  calling = row.calling;
  text = row.text;
  place = row.place;
  size = row.size;
}

abbrev pub shape_at : Table → ℕ → Shape
shape_at t s = shape (row_at t s)

-- who has a channel sleeps
abbrev pub is_asleep : Stat → Bool
is_asleep Empty = false
is_asleep Sleeping = true
is_asleep Waiting = true
is_asleep Ready = false
is_asleep Zombie = false

abbrev pub Sleeps : TableRow → Type 0
Sleeps row = (row.channel ≡ None) ⊎ (is_asleep row.stat ≡ true)

-- a fact of each row stays where it holds of a new one
pub each_set : (P : TableRow → Type 0) (rows : List TableRow) (s : ℕ) (row : TableRow)
    → ((r : ℕ) → P (get_or rows r empty_row)) → P row → (r : ℕ) → P (get_or (set rows s row) r empty_row)
each_set P [] s row h p r = h r
each_set P (x ∷ xs) zero row h p zero = p
each_set P (x ∷ xs) zero row h p (suc r) = h (suc r)
each_set P (x ∷ xs) (suc s) row h p zero = h zero
each_set P (x ∷ xs) (suc s) row h p (suc r) = each_set P xs s row (λ q. h (suc q)) p r

pub shape_set : (rows : List TableRow) (s : ℕ) (row : TableRow) → shape row ≡ shape (get_or rows s empty_row)
    → (r : ℕ) → shape (get_or (set rows s row) r empty_row) ≡ shape (get_or rows r empty_row)
shape_set [] s row e r = refl
shape_set (x ∷ xs) zero row e zero = e
shape_set (x ∷ xs) zero row e (suc r) = refl
shape_set (x ∷ xs) (suc s) row e zero = refl
shape_set (x ∷ xs) (suc s) row e (suc r) = shape_set xs s row e r

-- what a slot does, where its row is another that does it
stat_set : (rows : List TableRow) (s : ℕ) (row : TableRow) → row.stat ≡ (get_or rows s empty_row).stat
    → (get_or (set rows s row) s empty_row).stat ≡ (get_or rows s empty_row).stat
stat_set [] s row e = refl
stat_set (x ∷ xs) zero row e = e
stat_set (x ∷ xs) (suc s) row e = stat_set xs s row e

-- what a rule leaves that makes sleepers ready and does no more
pub record SameShapes (old new : Table) : Type 0 where
  pub sleeps : (s : ℕ) → Sleeps (row_at new s)
  pub same : (s : ℕ) → shape_at new s ≡ shape_at old s
  pub running : new.running ≡ old.running
  pub now : new.now ≡ old.now
  pub ticks : new.ticks ≡ old.ticks
  pub rows : length new.rows ≡ length old.rows

pub same_none : (t : Table) → ((s : ℕ) → Sleeps (row_at t s)) → SameShapes t t
same_none t h = record { sleeps = h; same = λ s. refl; running = refl; now = refl; ticks = refl; rows = refl }

pub same_trans : (a b c : Table) → SameShapes a b → SameShapes b c → SameShapes a c
same_trans a b c k l = record {
  sleeps = l.sleeps;
  same = λ r. l.same r ∙ k.same r;
  running = l.running ∙ k.running;
  now = l.now ∙ k.now;
  ticks = l.ticks ∙ k.ticks;
  rows = l.rows ∙ k.rows;
}

ready_shape : (row : TableRow) → is_asleep row.stat ≡ true
    → shape (record row { stat = Ready; channel = None }) ≡ shape row
ready_shape row e = by row.stat e
  where
    by : (stat : Stat) → is_asleep stat ≡ true
        → shape (record row { stat = Ready; channel = None }) ≡ shape (record row { stat = stat })
    by Empty f = absurd (cc f)
    by Sleeping f = refl
    by Waiting f = refl
    by Ready f = absurd (cc f)
    by Zombie f = absurd (cc f)

sleeper_asleep : (row : TableRow) (w : Chan) → Sleeps row → is_on row.channel w ≡ true → is_asleep row.stat ≡ true
sleeper_asleep row w (inl e) f = absurd (let g : is_on row.channel w ≡ false = rw e refl in cc (f, g))
sleeper_asleep row w (inr e) f = e

module _ (old : Table) where
  -- another row of the same shape
  pub row_same : (t : Table) (s : ℕ) (row : TableRow) (runrun : Bool) → shape row ≡ shape_at t s → Sleeps row
      → SameShapes old t
      → SameShapes old (record (with_row t s row) { runrun = runrun })
  row_same t s row runrun e l k = record {
    sleeps = each_set Sleeps t.rows s row k.sleeps l;
    same = λ r. shape_set t.rows s row e r ∙ k.same r;
    running = k.running;
    now = k.now;
    ticks = k.ticks;
    rows = length-set t.rows s row ∙ k.rows;
  }

  -- a sleeper becomes ready
  pub ready_same : (t : Table) (s : ℕ) → is_asleep (row_at t s).stat ≡ true → SameShapes old t
      → SameShapes old (made_ready t s)
  unfolding made_ready
  ready_same t s e k = row_same t s _ _ (ready_shape (row_at t s) e) (inl refl) k

  same_stays : Stays (SameShapes old)
  same_stays = record {
    woken = λ t s w e k. ready_same t s (sleeper_asleep (row_at t s) w (k.sleeps s) e) k;
    runout = λ t k. record { sleeps = k.sleeps; same = k.same; running = k.running; now = k.now; ticks = k.ticks; rows = k.rows };
    runin = λ t k. record { sleeps = k.sleeps; same = k.same; running = k.running; now = k.now; ticks = k.ticks; rows = k.rows };
  }

  pub runout_same : (t : Table) → SameShapes old t → SameShapes old (runout_told t)
  runout_same t k = runout_stays (SameShapes old) same_stays t k

  pub runin_same : (t : Table) → SameShapes old t → SameShapes old (runin_told t)
  runin_same t k = runin_stays (SameShapes old) same_stays t k

  pub wakeup_same : (t : Table) (w : Chan) → SameShapes old t → SameShapes old (wakeup t w)
  wakeup_same t w k = wakeup_stays (SameShapes old) same_stays t w k

  waiting_asleep : (stat : Stat) → is_waiting stat ≡ true → is_asleep stat ≡ true
  waiting_asleep Empty e = absurd (cc e)
  waiting_asleep Sleeping e = refl
  waiting_asleep Waiting e = refl
  waiting_asleep Ready e = absurd (cc e)
  waiting_asleep Zombie e = absurd (cc e)

  setrun_same : (t : Table) (s : ℕ) → is_asleep (row_at t s).stat ≡ true → SameShapes old t
      → SameShapes old (setrun t s)
  setrun_same t s e k = setrun_stays (SameShapes old) same_stays t s (ready_same t s e k)

  -- a signal is posted to a slot
  pub signalled_same : (t : Table) (s : ℕ) → SameShapes old t → SameShapes old (signalled t s)
  unfolding signalled
  signalled_same t s k = by (is_waiting (row_at t s).stat) refl
    where
      lowered : Table
      lowered = with_row t s (record (row_at t s) { pri = int_min (row_at t s).pri (pos 100) })

      same : SameShapes old lowered
      same =
          row_same t s (record (row_at t s) { pri = int_min (row_at t s).pri (pos 100) }) t.runrun refl (k.sleeps s) k

      -- the slot sleeps as before
      asleep : is_waiting (row_at t s).stat ≡ true → is_asleep (row_at lowered s).stat ≡ true
      asleep e =
          ap is_asleep (stat_set t.rows s (record (row_at t s) { pri = int_min (row_at t s).pri (pos 100) }) refl)
          ∙ waiting_asleep _ e

      by : (x : Bool) → is_waiting (row_at t s).stat ≡ x → SameShapes old (cond x (setrun lowered s) lowered)
      by true e = setrun_same lowered s (asleep e) same
      by false e = same
