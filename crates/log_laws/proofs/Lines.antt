-- The lines of a turn that name no place: why each fits, and what it leaves.
use Rattle.std.proofs.Common.{◌≡◌, ◌≢◌, ◌∙◌, ◌<◌, ◌≤◌, ◌==◌, ℕ, ℤ, pos, int_lt, Bool, true, false, cond, List, [], ◌∷◌, Option, Some, None, get_or, set, set-set, get_or-set_same, refl, sym, ap, subst, inl, inr, arith}
use Rattle.std.proofs.lemmas.Int.{ints}
use Rattle.std.proofs.lemmas.List.{set-get_or}
use Rattle.v6_base.specs.Trace.{Log}
use Rattle.v6_base.specs.declared.entry.Chan.{Chan}
use Rattle.v6_base.specs.declared.entry.Chan.TheVariants.{RunIn, RunOut, Tout, Keys, Wait, Read, Write, Disk, KeysOf, ShowOf}
use Rattle.v6_base.specs.declared.entry.Chan.TheVariants as channel
use Rattle.v6_base.specs.declared.entry.Entry.{Entry}
use Rattle.v6_base.specs.declared.entry.Entry.TheVariants as line
use Rattle.pick_rules.specs.declared.row.Stat.TheVariants.{Empty, Sleeping, Waiting}
use Rattle.pick_rules.specs.declared.row.TableRow.{TableRow}
use Rattle.pick_rules.specs.Table.{empty_row, row_at, is_empty, is_zombie}
use Rattle.pick_rules.specs.Priority.{user_pri, setpri}
use Rattle.pick_rules.specs.Sleepers.{asleep, runin_told, fall_asleep, sleep_stat}
use Rattle.pick_rules.specs.Board.{Board}
use Rattle.pick_rules.specs.Apply.{applied}
use Rattle.pick_rules.specs.Effects.{Show, came}
use Rattle.pick_rules.specs.Ranges.{IsSlot, IsTime, IsPriority, IsChannel}
use Rattle.pick_rules.specs.Fits.{IsSleep, FitsBoard}
use Rattle.pick_rules.specs.Lawful.{Open, Seen, Fits, stage_after, seen_after}
use Rattle.pick_rules.proofs.Movers.{in_rows}
use Rattle.pick_rules.proofs.Laws.{sleep_running}
use Rattle.pick_rules.proofs.Shapes.{is_asleep, shape_at, Sleeps, SameShapes, same_none, row_same, wakeup_same, runin_same, signalled_same}
use Rattle.log_laws.proofs.Fitting.{IsGoing, going_fits, Apt}
use Rattle.log_laws.proofs.Users.{SameRest}
use Rattle.log_laws.proofs.Seats.{Seat, Seats, seat_at, Same, AgreesAt, Agrees, InTurn, InCall, RunnerAt, Paused, runs_in, in_its_slot, not_zero, own, kept_agrees, change_agrees}

-- a turn goes on over a board with the same runner
unfoldable pub same_turn : (s : ℕ) (v : Seats) (b c : Board) → c.table.running ≡ b.table.running → InTurn s v b
    → InTurn s v c
same_turn s v b c e t =
    record { seat = t.seat; at = t.at; runs = e ∙ t.runs; user = t.user; small = t.small; alive = t.alive }

pub same_runner : (v : Seats) (b c : Board) → c.table.running ≡ b.table.running → RunnerAt v b b.table.running
    → RunnerAt v c c.table.running
same_runner v b c e r = subst (RunnerAt v c) (sym e) (by b.table.running e r)
  where
    by : (o : Option ℕ) → c.table.running ≡ o → RunnerAt v b o → RunnerAt v c o
    by None f r = tt
    by (Some s) f (inl z) = inl z
    by (Some s) f (inr t) =
        inr (record { seat = t.seat; at = t.at; runs = f; user = t.user; small = t.small; alive = t.alive })

pub seat_stays : (s : ℕ) (v : Seats) (b : Board) → (t : InTurn s v b) → v.slots ≡ set v.slots s (Some t.seat)
seat_stays s v b t = sym (ap (set v.slots s) (sym t.at) ∙ set-get_or v.slots s None)

-- a line after which no row's shape is another
pub same_in : (s : ℕ) (calling : Bool) (v : Seats) (seen : Seen) (e : Entry) → stage_after seen.stage e ≡ Open
    → SameShapes seen.board.table (applied seen.board e).table → SameRest seen.board (applied seen.board e)
    → InCall s calling v seen → InCall s calling v (seen_after seen e)
unfolding same_turn
same_in s calling v seen e o k c i = record {
  going = rw o tt;
  agrees = kept_agrees s v seen.board (applied seen.board e) k c i.agrees;
  turn = same_turn s v seen.board (applied seen.board e) k.running i.turn;
  calls = i.calls;
}

pub same_paused : (v : Seats) (seen : Seen) (e : Entry) → stage_after seen.stage e ≡ Open
    → SameShapes seen.board.table (applied seen.board e).table → SameRest seen.board (applied seen.board e)
    → Paused v seen → Paused v (seen_after seen e)
same_paused v seen e o k c p = record {
  going = rw o tt;
  agrees = kept_agrees 0 v seen.board (applied seen.board e) k c p.agrees;
  runner = same_runner v seen.board (applied seen.board e) k.running p.runner;
}

-- a wake
wake_shapes : (b : Board) (chan : Chan) → ((r : ℕ) → Sleeps (row_at b.table r))
    → SameShapes b.table (applied b (line.Wake chan)).table
unfolding applied
wake_shapes b chan l = wakeup_same b.table b.table chan (same_none b.table l)

wake_rest : (b : Board) (chan : Chan) → SameRest b (applied b (line.Wake chan))
unfolding applied
wake_rest b chan = record { core = refl; users = refl }

pub wake_in : (s : ℕ) (calling : Bool) (v : Seats) (seen : Seen) (chan : Chan) → InCall s calling v seen
    → InCall s calling v (seen_after seen (line.Wake chan))
wake_in s calling v seen chan i =
    same_in s calling v seen (line.Wake chan) refl (wake_shapes seen.board chan i.agrees.sleeps)
    (wake_rest seen.board chan) i

pub wake_paused : (v : Seats) (seen : Seen) (chan : Chan) → Paused v seen → Paused v (seen_after seen (line.Wake chan))
wake_paused v seen chan p =
    same_paused v seen (line.Wake chan) refl (wake_shapes seen.board chan p.agrees.sleeps) (wake_rest seen.board chan) p

-- a signal
signal_shapes : (b : Board) (r n : ℕ) → ((q : ℕ) → Sleeps (row_at b.table q))
    → SameShapes b.table (applied b (line.Signal r n)).table
unfolding applied
signal_shapes b r n l = signalled_same b.table b.table r (same_none b.table l)

signal_rest : (b : Board) (r n : ℕ) → SameRest b (applied b (line.Signal r n))
unfolding applied
signal_rest b r n = record { core = refl; users = refl }

pub signal_in : (s : ℕ) (calling : Bool) (v : Seats) (seen : Seen) (r n : ℕ) → InCall s calling v seen
    → InCall s calling v (seen_after seen (line.Signal r n))
signal_in s calling v seen r n i =
    same_in s calling v seen (line.Signal r n) refl (signal_shapes seen.board r n i.agrees.sleeps)
    (signal_rest seen.board r n) i

pub signal_paused : (v : Seats) (seen : Seen) (r n : ℕ) → Paused v seen → Paused v (seen_after seen (line.Signal r n))
signal_paused v seen r n p =
    same_paused v seen (line.Signal r n) refl (signal_shapes seen.board r n p.agrees.sleeps)
    (signal_rest seen.board r n) p

-- to a process
pub signal_fits : (busy : ℕ) (v : Seats) (seen : Seen) (r n : ℕ) (seat : Seat) → IsGoing seen.stage
    → Agrees busy v seen.board → 0 < r → seat_at v r ≡ Some seat
    → 1 ≤ n → n ≤ 19 → Fits seen (line.Signal r n)
unfolding FitsBoard
signal_fits busy v seen r n seat g a h at l m = going_fits seen (line.Signal r n) g (in_slot, (l, m)) (h, used)
  where
    same : Same (r == busy) v.most seat (shape_at seen.board.table r)
    same = subst (λ o. AgreesAt (r == busy) v.most o (shape_at seen.board.table r)) at (a.each r h)

    in_slot : IsSlot r
    in_slot = let k = in_rows seen.board.table.rows r same.used in let e = a.rows in omega (arith, k, e)

    used : (row_at seen.board.table r).stat ≢ Empty
    used e = let u : is_empty (row_at seen.board.table r).stat ≡ false = same.used in absurd (let w : is_empty (row_at seen.board.table r).stat ≡ true = rw e refl in cc (u, w))

-- a nice
nice_shapes : (b : Board) (s : ℕ) (value : ℤ) → ((r : ℕ) → Sleeps (row_at b.table r))
    → SameShapes b.table (applied b (line.Nice s value)).table
unfolding applied
nice_shapes b s value l =
    row_same b.table b.table s (record (row_at b.table s) { nice = value }) b.table.runrun refl (l s)
    (same_none b.table l)

nice_rest : (b : Board) (s : ℕ) (value : ℤ) → SameRest b (applied b (line.Nice s value))
unfolding applied
nice_rest b s value = record { core = refl; users = refl }

pub nice_in : (s : ℕ) (calling : Bool) (v : Seats) (seen : Seen) (value : ℤ) → InCall s calling v seen
    → InCall s calling v (seen_after seen (line.Nice s value))
nice_in s calling v seen value i =
    same_in s calling v seen (line.Nice s value) refl (nice_shapes seen.board s value i.agrees.sleeps)
    (nice_rest seen.board s value) i

pub nice_fits : (s : ℕ) (calling : Bool) (v : Seats) (seen : Seen) (value : ℤ) → IsPriority value → InCall s calling v seen
    → Fits seen (line.Nice s value)
unfolding FitsBoard
nice_fits s calling v seen value r i =
    going_fits seen (line.Nice s value) i.going (in_its_slot i.turn, r) (runs_in s v seen.board i.turn)

-- a time is set
pub time_in : (s : ℕ) (calling : Bool) (v : Seats) (seen : Seen) (time : ℕ) → InCall s calling v seen
    → InCall s calling (record v { time = time }) (seen_after seen (line.Time time))
unfolding applied
time_in s calling v seen time i = record {
  going = tt;
  agrees = let a = i.agrees in record { each = a.each; sleeps = a.sleeps; rows = a.rows; seats = a.seats; time = refl; ticks = a.ticks; texts = a.texts; forty = a.forty; core = a.core; most = a.most };
  turn = let t = i.turn in record { seat = t.seat; at = t.at; runs = t.runs; user = t.user; small = t.small; alive = t.alive };
  calls = i.calls;
}

pub time_fits : (s : ℕ) (calling : Bool) (v : Seats) (seen : Seen) (time : ℕ) → IsTime time → InCall s calling v seen
    → Fits seen (line.Time time)
unfolding FitsBoard
time_fits s calling v seen time r i =
    going_fits seen (line.Time time) i.going r (s, runs_in s v seen.board i.turn)

-- The end of a turn: the process comes out of its call.
trap_agrees : (s : ℕ) (v : Seats) (b : Board) → Agrees s v b → (t : InTurn s v b) → t.seat.calling ≡ false
    → Agrees 0 v (applied b (line.Trap s))
unfolding applied setpri
trap_agrees s v b a t n = change_agrees s 0 s v v.slots b _ (Some t.seat) told (λ f. absurd (f refl)) a t.small (seat_stays s v b t) rows a.time a.ticks
    (let o = own s s v b a t in
    record { used = o.used; zombie = o.zombie; calling = λ f g. sym n; text = o.text; entry = o.entry; place = o.place; size = o.size; most = o.most })
    (a.sleeps s)
  where
    done : TableRow
    done = record (row_at b.table s) { calling = false }

    told : TableRow
    told = record done { pri = user_pri done }

    again : List TableRow → TableRow → List TableRow
    again rows x = set rows s (record x { pri = user_pri x })

    rows : again (set b.table.rows s done) (get_or (set b.table.rows s done) s empty_row) ≡ set b.table.rows s told
    rows =
        ap (again (set b.table.rows s done)) (get_or-set_same b.table.rows s done empty_row (rw a.rows t.small))
        ∙ set-set b.table.rows s done told

pub trap_apt : (W : Type 0) (s : ℕ) (v : Seats) (seen : Seen) → InCall s false v seen
    → Apt {W = W} (Paused v) seen (Show (Log (line.Trap s)) ∷ [])
unfolding Apt came FitsBoard applied setpri
trap_apt W s v seen i = (
  going_fits seen (line.Trap s) i.going (in_its_slot i.turn) (runs_in s v seen.board i.turn),
  record {
    going = tt;
    agrees = trap_agrees s v seen.board i.agrees i.turn i.calls;
    runner = subst (RunnerAt v (applied seen.board (line.Trap s))) (sym i.turn.runs)
        (inr (let t = i.turn in record { seat = t.seat; at = t.at; runs = t.runs; user = t.user; small = t.small; alive = t.alive }));
  },
)

-- The process falls asleep: it is neither empty nor a zombie, and may have a channel.
sleeping_shape : (pri : ℤ)
    → (is_empty (sleep_stat pri) ≡ false) × (is_zombie (sleep_stat pri) ≡ false) × (is_asleep (sleep_stat pri) ≡ true)
sleeping_shape pri = by (int_lt pri (pos 0))
  where
    by : (c : Bool)
        → (is_empty (cond c Sleeping Waiting) ≡ false) × (is_zombie (cond c Sleeping Waiting) ≡ false) × (is_asleep (cond c Sleeping Waiting) ≡ true)
    by true = (refl, refl, refl)
    by false = (refl, refl, refl)

sleep_agrees : (s : ℕ) (v : Seats) (b : Board) (pri : ℤ) (chan : Chan) → Agrees s v b → (t : InTurn s v b)
    → t.seat.calling ≡ true
    → Agrees 0 v (applied b (line.Sleep s pri chan))
unfolding applied fall_asleep
sleep_agrees s v b pri chan a t c = rw (not_zero s t.user) (by (int_lt pri (pos 0)))
  where
    row : TableRow
    row = record (row_at b.table s) { stat = sleep_stat pri; pri = pri; channel = Some chan; calling = true }

    lain : Board
    lain = record b { table = asleep b.table s pri chan }

    settled : Agrees 0 v lain
    settled = let o = own s s v b a t in let n = sleeping_shape pri in change_agrees s 0 s v v.slots b (asleep b.table s pri chan) (Some t.seat) row (λ f. absurd (f refl)) a t.small
        (seat_stays s v b t) refl a.time a.ticks
        (record { used = n.0; zombie = n.1 ∙ sym t.alive; calling = λ f g. sym c; text = o.text; entry = o.entry; place = o.place; size = o.size; most = o.most })
        (inr n.2)

    by : (x : Bool)
        → Agrees 0 v (record b { table = cond x (asleep b.table s pri chan) (runin_told (asleep b.table s pri chan)) })
    by true = settled
    by false = kept_agrees 0 v lain _ (runin_same lain.table _ (same_none _ settled.sleeps)) (record { core = refl; users = refl }) settled

slept_running : (b : Board) (s : ℕ) (pri : ℤ) (chan : Chan) → (applied b (line.Sleep s pri chan)).table.running ≡ None
unfolding applied
slept_running b s pri chan = sleep_running b.table s pri chan

-- the priorities at which processes sleep
sleep_pri : (s : ℕ) (chan : Chan) (pri : ℤ) → IsSleep s chan pri → IsPriority pri
sleep_pri s RunIn pri k = absurd k
sleep_pri s RunOut pri k = absurd k
sleep_pri s Tout pri k = rw k (omega (arith, ints), omega (arith, ints))
sleep_pri s Keys pri k = rw k (omega (arith, ints), omega (arith, ints))
sleep_pri s channel.Show pri k = rw k (omega (arith, ints), omega (arith, ints))
sleep_pri s (Wait t) pri k = rw k.0 (omega (arith, ints), omega (arith, ints))
sleep_pri s (Read i) pri k = rw k (omega (arith, ints), omega (arith, ints))
sleep_pri s (Write i) pri k = rw k (omega (arith, ints), omega (arith, ints))
sleep_pri s (Disk t) pri k = rw k.0 (omega (arith, ints), omega (arith, ints))
sleep_pri s (KeysOf l) pri k = rw k (omega (arith, ints), omega (arith, ints))
sleep_pri s (ShowOf l) pri k = rw k (omega (arith, ints), omega (arith, ints))

pub sleep_apt : (W : Type 0) (s : ℕ) (v : Seats) (seen : Seen) (pri : ℤ) (chan : Chan) → InCall s true v seen
    → IsSleep s chan pri → IsChannel chan
    → Apt {W = W} (Paused v) seen (Show (Log (line.Sleep s pri chan)) ∷ [])
unfolding Apt came FitsBoard
sleep_apt W s v seen pri chan i k r = (
  going_fits seen (line.Sleep s pri chan) i.going (in_its_slot i.turn, sleep_pri s chan pri k, r) (inl (runs_in s v seen.board i.turn, k)),
  record {
    going = tt;
    agrees = sleep_agrees s v seen.board pri chan i.agrees i.turn i.calls;
    runner = subst (RunnerAt v (applied seen.board (line.Sleep s pri chan))) (sym (slept_running seen.board s pri chan)) tt;
  },
)
