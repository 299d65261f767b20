-- What the log of a call on processes leaves of the board: core, and who runs.
use Rattle.std.proofs.Common.{◌≡◌, ◌∙◌, ◌+◌, ◌-◌, ℕ, ℤ, pos, Bool, true, false, cond, nat_le, if◌then◌else◌, List, [], ◌∷◌, ◌++◌, fold, Option, Some, None, refl, sym, subst}
use Rattle.v6_base.specs.Trace.{Item, Byte, Log}
use Rattle.v6_base.specs.declared.entry.Chan.{Chan}
use Rattle.v6_base.specs.declared.entry.Entry.{Entry}
use Rattle.v6_base.specs.declared.entry.Entry.TheVariants as line
use Rattle.v6_base.specs.declared.entry.PanicKind.{PanicKind}
use Rattle.v6_base.specs.declared.entry.Place.{Place}
use Rattle.v6_base.specs.declared.entry.Place.TheVariants.{Core, Swap}
use Rattle.pick_rules.specs.declared.row.TableRow.{TableRow}
use Rattle.std.specs.Int.{int_min}
use Rattle.pick_rules.specs.Table.{row_at, empty_row, child_row, is_loaded, is_waiting, with_row}
use Rattle.pick_rules.specs.Board.{blocks, free_text, swap_fit, TextPlace, Board, placed}
use Rattle.pick_rules.specs.Apply.{applied, in_table, change_row, change_text, enters_core, leaves_core, parted, goes_if_unused, joins, without_place, at_place}
use Rattle.pick_rules.specs.Effects.{Effect, Show, Size, Fork, Text, Image, Exit, Came, Lets, Stops, image_at, new_text_at, came}
use Rattle.pick_rules.specs.Logged.{Logged, Stop, logged, log_one, with_what_came}
use Rattle.pick_rules.specs.declared.table.Table.{Table}
use Rattle.pick_rules.specs.Sleepers.{made_ready, runout_told, setrun, signalled}
use Rattle.pick_rules.proofs.Laws.{Stays, runout_stays, setrun_kept, wakeup_kept}
use Rattle.pick_rules.proofs.Stopping.{stays_stopped}

pub record MovedBoard (b now : Board) : Type 0 where
  pub core : now.core ≡ b.core
  pub running : now.table.running ≡ b.table.running

stays_put : (b : Board) → MovedBoard b b
stays_put b = record { core = refl; running = refl }

moved_then : (a b c : Board) → MovedBoard a b → MovedBoard b c → MovedBoard a c
moved_then a b c k l = record { core = l.core ∙ k.core; running = l.running ∙ k.running }

-- One row changes, or a text.
row_moved : (b : Board) (s : ℕ) (f : TableRow → TableRow) → MovedBoard b (in_table b (λ t. change_row t s f))
row_moved b s f = record { core = refl; running = refl }

text_moved : (b : Board) (k : Option ℕ) (change : TextPlace → TextPlace) → MovedBoard b (change_text b k change)
text_moved b None change = stays_put b
text_moved b (Some k) change = record { core = refl; running = refl }

-- The swapper is told, and whoever runs goes on.
runs_on : (old : Table) → Stays (λ (t : Table). t.running ≡ old.running)
unfolding made_ready
runs_on old = record { woken = λ t s w e same. same; runout = λ t same. same; runin = λ t same. same }

told_runs : (t : Table) → (runout_told t).running ≡ t.running
told_runs t = runout_stays (λ (u : Table). u.running ≡ t.running) (runs_on t) t refl

abbrev no_place : TableRow → TableRow
no_place row = record row { place = None }

abbrev of_size : ℕ → TableRow → TableRow
of_size clicks row = record row { size = clicks }

abbrev in_core_at : ℕ → ℕ → TableRow → TableRow
in_core_at clicks c row = record row { size = clicks; place = Some (Core c) }

abbrev out_at : ℕ → ℕ → TableRow → TableRow
out_at clicks block row = record row { size = clicks; place = Some (Swap block); time = 0 }

abbrev entered : TextPlace → TextPlace
entered text = record text { loaded = text.loaded + 1 }

abbrev left : TextPlace → TextPlace
left text = record text { loaded = text.loaded - 1 }

abbrev joined : TextPlace → TextPlace
joined text = record text { users = text.users + 1 }

out_moved : (b : Board) (s : ℕ) → MovedBoard b (without_place b s)
out_moved b s = by (is_loaded b.table s)
  where
    by : (x : Bool) → MovedBoard b (in_table (if x then leaves_core b (row_at b.table s).text else b) (λ t. change_row t s no_place))
    by true = moved_then b (leaves_core b (row_at b.table s).text) _ (text_moved b (row_at b.table s).text left) (row_moved (leaves_core b (row_at b.table s).text) s no_place)
    by false = row_moved b s no_place

in_moved : (b : Board) (s clicks : ℕ) (place : Place) → MovedBoard b (at_place b s clicks place)
in_moved b s clicks (Core c) =
    moved_then b (enters_core b (row_at b.table s).text) _ (text_moved b (row_at b.table s).text entered) (row_moved (enters_core b (row_at b.table s).text) s (in_core_at clicks c))
in_moved b s clicks (Swap block) = record { core = refl; running = told_runs (change_row b.table s (out_at clicks block)) }

-- A line that leaves a board so.
abbrev pub IsMildLine : Entry → Type 0
IsMildLine e = (b : Board) → MovedBoard b (applied b e)

pub mild_wake : (chan : Chan) → IsMildLine (line.Wake chan)
unfolding applied
mild_wake chan b = record { core = refl; running = (wakeup_kept b.table chan).running }

pub mild_signal : (s n : ℕ) → IsMildLine (line.Signal s n)
unfolding applied signalled
mild_signal s n b = record { core = refl; running = by (is_waiting (row_at b.table s).stat) }
  where
    lowered : Table
    lowered = with_row b.table s (record (row_at b.table s) { pri = int_min (row_at b.table s).pri (pos 100) })

    by : (x : Bool) → (cond x (setrun lowered s) lowered).running ≡ b.table.running
    by true = (setrun_kept lowered s).running
    by false = refl

pub mild_nice : (s : ℕ) (nice : ℤ) → IsMildLine (line.Nice s nice)
unfolding applied
mild_nice s nice b = row_moved b s (λ row. record row { nice = nice })

pub mild_time : (time : ℕ) → IsMildLine (line.Time time)
unfolding applied
mild_time time b = record { core = refl; running = refl }

pub mild_reap : (s : ℕ) → IsMildLine (line.Reap s)
unfolding applied
mild_reap s b = row_moved b s (λ row. empty_row)

pub mild_bare : (s : ℕ) → IsMildLine (line.Bare s)
unfolding applied
mild_bare s b = moved_then b (without_place b s) _ (out_moved b s) (row_moved (without_place b s) s (of_size 0))

mild_keep : (s clicks : ℕ) → IsMildLine (line.SizeKeep s clicks)
unfolding applied
mild_keep s clicks b = row_moved b s (of_size clicks)

mild_size : (s clicks : ℕ) (place : Place) → IsMildLine (line.Size s clicks place)
unfolding applied
mild_size s clicks place b = moved_then b (without_place b s) _ (out_moved b s) (in_moved (without_place b s) s clicks place)

mild_image : (s clicks : ℕ) (place : Place) → IsMildLine (line.Image s clicks place)
unfolding applied
mild_image s clicks place b = in_moved b s clicks place

mild_fork : (s child : ℕ) (place : Place) → IsMildLine (line.Fork s child place)
unfolding applied
mild_fork s child place b =
    let born : Board = in_table b (λ t. change_row t child (λ row. child_row (row_at t s))) in
    moved_then b born _ (row_moved b child (λ row. child_row (row_at b.table s)))
    (moved_then born (joins born (row_at b.table s).text) _ (text_moved born (row_at b.table s).text joined) (in_moved (joins born (row_at b.table s).text) child (row_at b.table s).size place))

mild_text : (s k clicks block : ℕ) → IsMildLine (line.Text s k clicks block)
unfolding applied
mild_text s k clicks block b = record { core = refl; running = refl }

pub mild_share : (s k : ℕ) → IsMildLine (line.Share s k)
unfolding applied
mild_share s k b = record { core = refl; running = refl }

pub mild_leave : (s k : ℕ) (sticky : Bool) → IsMildLine (line.Leave s k sticky)
unfolding applied
mild_leave s k sticky b = by sticky (is_loaded b.table s)
  where
    textless : TableRow → TableRow
    textless row = record row { text = None }

    out : (x : Bool) → MovedBoard b (in_table (cond x (leaves_core b (row_at b.table s).text) b) (λ t. change_row t s textless))
    out true = moved_then b (leaves_core b (row_at b.table s).text) _ (text_moved b (row_at b.table s).text left) (row_moved (leaves_core b (row_at b.table s).text) s textless)
    out false = row_moved b s textless

    by : (x y : Bool)
        → MovedBoard b (cond x (parted (in_table (cond y (leaves_core b (row_at b.table s).text) b) (λ t. change_row t s textless)) k)
        (goes_if_unused (parted (in_table (cond y (leaves_core b (row_at b.table s).text) b) (λ t. change_row t s textless)) k) k))
    by true y = let o = out y in record { core = o.core; running = o.running }
    by false y = let o = out y in record { core = o.core; running = o.running }

-- Effects of a call whose process goes on. P is so of the state before each demand for a place.
module _ {W : Type 0} (P : W → Type 0) where
  -- one, before others
  abbrev pub IsTamed : Effect W → Type 0 → Type 0
  IsTamed (Show (Log e)) rest = IsMildLine e × rest
  IsTamed (Show (Byte l byte)) rest = rest
  IsTamed (Size s clicks before) rest = P before × rest
  IsTamed (Fork s child before) rest = P before × rest
  IsTamed (Text s clicks before) rest = P before × rest
  IsTamed (Image s clicks before) rest = P before × rest
  IsTamed (Exit s before) rest = ⊥

  abbrev pub AreTamed : List (Effect W) → Type 0
  AreTamed [] = Unit {0}
  AreTamed (e ∷ es) = IsTamed e (AreTamed es)

  -- what they leave, and the state before them if they stop
  pub record Moves (b : Board) (l : Logged W) : Type 0 where
    pub core : l.board.core ≡ b.core
    pub before : (stop : Stop W) → l.stop ≡ Some stop → P stop.before
    pub goes : l.stop ≡ None → MovedBoard b l.board

  abbrev CameTamed : Board → Came W → Type 0 → Type 0
  CameTamed b (Lets (Log e)) rest = MovedBoard b (applied b e) × rest
  CameTamed b (Lets (Byte l byte)) rest = rest
  CameTamed b (Stops why before) rest = P before

  at_its_place : (b : Board) (before : W) (entry : Place → Entry) (rest : Type 0) → ((place : Place) → IsMildLine (entry place)) → P before × rest
      → (o : Option Place) → CameTamed b (image_at before o entry) rest
  at_its_place b before entry rest mild p None = p.0
  at_its_place b before entry rest mild p (Some place) = (mild place b, p.1)

  came_tamed : (b : Board) (e : Effect W) (rest : Type 0) → IsTamed e rest → CameTamed b (came b e) rest
  unfolding came
  came_tamed b (Show (Log e)) rest mild = (mild.0 b, mild.1)
  came_tamed b (Show (Byte l byte)) rest mild = mild
  came_tamed b (Size s clicks before) rest p = by (nat_le clicks (row_at b.table s).size)
    where
      by : (x : Bool) → CameTamed b (if x then Lets (Log (line.SizeKeep s clicks)) else image_at before (placed b s clicks) (λ place. line.Size s clicks place)) rest
      by true = (mild_keep s clicks b, p.1)
      by false = at_its_place b before (λ place. line.Size s clicks place) rest (mild_size s clicks) p (placed b s clicks)
  came_tamed b (Fork s child before) rest p = at_its_place b before (λ place. line.Fork s child place) rest (mild_fork s child) p (placed b s (row_at b.table s).size)
  came_tamed b (Text s clicks before) rest p = in_its_entry (free_text b) (swap_fit b (blocks clicks))
    where
      in_its_entry : (o block : Option ℕ) → CameTamed b (new_text_at before o block (λ k block. line.Text s k clicks block)) rest
      in_its_entry None block = p.0
      in_its_entry (Some k) None = p.0
      in_its_entry (Some k) (Some block) = (mild_text s k clicks block b, p.1)
  came_tamed b (Image s clicks before) rest p = at_its_place b before (λ place. line.Image s clicks place) rest (mild_image s clicks) p (placed b s clicks)
  came_tamed b (Exit s before) rest p = absurd p

  abbrev so_far : List Item → Board → Logged W
  so_far items b = record { items = items; board = b; stop = None }

  halted : (b : Board) (l : Logged W) (stop : Stop W) → l.stop ≡ Some stop → l.board.core ≡ b.core → P stop.before → Moves b l
  halted b l stop is core p = record {
    core = core;
    before = λ other e. (let same : stop ≡ other = (let some : Some stop ≡ Some other = sym is ∙ e in cc some) in subst (λ (x : Stop W). P x.before) same p);
    goes = λ none. absurd (cc (is, none));
  }

  panicked_core : (b : Board) (kind : PanicKind) → (applied b (line.Panic kind)).core ≡ b.core
  unfolding applied
  panicked_core b kind = refl

  moved_from : (b now : Board) (items : List Item) (es : List (Effect W)) → MovedBoard b now → AreTamed es → Moves b (fold log_one (so_far items now) es)
  unfolding log_one
  moved_from b now items [] moved tamed = record { core = moved.core; before = λ stop e. absurd (cc e); goes = λ none. moved }
  moved_from b now items (e ∷ es) moved tamed = by (λ next more. moved_from b next more es) (came now e) (came_tamed now e (AreTamed es) tamed)
    where
      by : ((next : Board) (more : List Item) → MovedBoard b next → AreTamed es → Moves b (fold log_one (so_far more next) es))
          → (c : Came W) → CameTamed now c (AreTamed es) → Moves b (fold log_one (with_what_came (so_far items now) c) es)
      by rest (Lets (Log entry)) m = rest (applied now entry) (items ++ Log entry ∷ []) (moved_then b now (applied now entry) moved m.0) m.1
      by rest (Lets (Byte l byte)) m = rest now (items ++ Byte l byte ∷ []) moved m
      by rest (Stops kind before) p =
          subst (Moves b) (sym (stays_stopped _ _ _ es)) (halted b _ (record { why = kind; before = before }) refl (panicked_core now kind ∙ moved.core) p)

  pub tamed_moves : (b : Board) (es : List (Effect W)) → AreTamed es → Moves b (logged b es)
  tamed_moves b es tamed = moved_from b b [] es (stays_put b) tamed

-- what makes no demand is so for every fact
pub tamed_mild : {W : Type 0} (P : W → Type 0) (es : List (Effect W)) → AreTamed (λ (x : W). ⊥) es → AreTamed P es
tamed_mild P [] tamed = tt
tamed_mild P (Show (Log e) ∷ es) tamed = (tamed.0, tamed_mild P es tamed.1)
tamed_mild P (Show (Byte l byte) ∷ es) tamed = tamed_mild P es tamed
tamed_mild P (Size s clicks before ∷ es) tamed = absurd tamed.0
tamed_mild P (Fork s child before ∷ es) tamed = absurd tamed.0
tamed_mild P (Text s clicks before ∷ es) tamed = absurd tamed.0
tamed_mild P (Image s clicks before ∷ es) tamed = absurd tamed.0
tamed_mild P (Exit s before ∷ es) tamed = absurd tamed
