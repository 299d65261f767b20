-- Each event of a run adds lines that fit, as long as the run goes on: the slots.
use Rattle.std.proofs.Common.{◌≡◌, ◌∙◌, ◌≤◌, ◌+◌, ◌&&◌, ◌||◌, not, length, cond, inl, inr, ℕ, zero, suc, Bool, true, false, List, [], ◌∷◌, ◌++◌, append-nil, fold, map, filter, get_or, Option, Some, None, refl, sym, ap, subst, arith}
use Rattle.std.specs.List.{range_with_len}
use Rattle.v6_base.specs.declared.entry.Chan.TheVariants.{Disk}
use Rattle.v6_base.specs.declared.entry.Entry.TheVariants as entry
use Rattle.pick_rules.specs.Ranges.{IsSlot}
use Rattle.proc_tab.specs.Processes.{slots_above_0}
use Rattle.sys_procs.specs.Process.{Process}
use Rattle.sys_procs.specs.Signals.{is_meant, meant_in}
use Rattle.v6_base.specs.Trace.{Item, Byte, Log, entries_of}
use Rattle.v6_base.specs.declared.entry.Entry.{Entry}
use Rattle.pick_rules.specs.Choice.{settle}
use Rattle.pick_rules.specs.Board.{Board}
use Rattle.pick_rules.specs.Apply.{applied}
use Rattle.v6_base.specs.declared.entry.PanicKind.{PanicKind}
use Rattle.pick_rules.specs.Effects.{Effect, Show, Size, Fork, Text, Image, Exit, came}
use Rattle.pick_rules.specs.Logged.{Stop, Logged, log_one, logged, left_by}
use Rattle.pick_rules.specs.Lawful.{Over, Seen, FitAll, seen_after}
use Rattle.log_laws.proofs.Fitting.{fit_item, fit_items, seen_append, seen_items, Apt, Ends, Fitted, apt_fits, wake_apt}
use Rattle.log_laws.proofs.Seats.{Seats, RunnerAt, InTurn, Paused, Holds}
use Rattle.log_laws.proofs.Lines.{wake_paused}
use Rattle.log_laws.proofs.Settles.{Settled, IsSettled, settling as settling_holds}
use Rattle.swap_sched.specs.Pass.{pass, stop_over}
use Rattle.abstract_unix.specs.declared.ending.Ending.{Ending}
use Rattle.abstract_unix.specs.declared.ending.Ending.TheVariants as ending
use Rattle.abstract_unix.specs.declared.ends.Ends as run
use Rattle.abstract_unix.specs.declared.ends.Ends.TheVariants as ends
use Rattle.abstract_unix.specs.declared.ends.Ends.TheVariants.{AtEnd}
use Rattle.abstract_unix.specs.Unix.{Unix, System}
use Rattle.abstract_unix.specs.Steps.{Steps}
use Rattle.abstract_unix.specs.Endings.{is_early}
use Rattle.tty_line.specs.Said.{sends}
use Rattle.lines_eight.specs.Told.{AllTold, each_line}
use Rattle.abstract_unix.specs.Turn.{Happened, Turn, stays, settling, happens, with_slot, counted, followed, waits_until, disk_lines, wakes_disks, is_sending, sends_lines, sends_after, after_slot, whole_slot, settled_after, end_effects, ending_of, ending_by, settled_as, settled, turn_of, passes, pass_of, slot_of}
use Rattle.abstract_unix.proofs.Sitting.{seats_of, all_sized, runner_there, runner_alive}
use Rattle.abstract_unix.proofs.Steps.{GoesOn, IsCalm, AptSteps}
use Rattle.abstract_unix.proofs.Passing.{Passed, pass_passes}
use Rattle.abstract_unix.proofs.Turning.{turn_apt}
use Rattle.abstract_unix.proofs.Tidy.{IsTidy}
use Rattle.abstract_unix.proofs.Telling.{lines_apt, lines_quiet}
use Rattle.abstract_unix.proofs.TidyTurns.{Runs}
use Rattle.abstract_unix.proofs.TidySteps.{begins_numbers}

-- the system at these lines
abbrev pub system_at : Unix → Seen → System
system_at u seen = record { unix = u; board = seen.board }

-- between two events: what holds of a system and of the lines so far
pub record Stands (m : System) (seen : Seen) : Type 0 where
  pub board : seen.board ≡ m.board
  pub holds : Holds (seats_of m.unix) seen

-- lines that fit, and, where the run goes on after them, the system then; a panic is the last of them
pub record Fine (seen : Seen) (items : List Item) (m : System) (ending : run.Ends) : Type 0 where
  pub fit : FitAll seen (entries_of items)
  pub stands : ending ≡ AtEnd → Stands m (seen_items seen items)
  pub over : (kind : PanicKind) → ending ≡ ends.Panic kind → (seen_items seen items).stage ≡ Over

abbrev pub FineTurn : Seen → Turn → Type 0
FineTurn seen t = Fine seen t.items t.next t.ending

-- the kernel settles
module _ (u : Unix) (first : Seen) (l : Logged Unix) (fit : FitAll first (entries_of l.items)) (board : (seen_items first l.items).board ≡ l.board)
    (p : Paused (seats_of u) (seen_items first l.items)) where
  abbrev now : Seen
  now = seen_items first l.items

  abbrev next : Board → System
  next b = record { unix = u; board = b }

  rests_fine : Holds (seats_of u) now → Fine first l.items (next l.board) AtEnd
  rests_fine h = record { fit = fit; stands = λ e. record { board = board; holds = h }; over = λ kind e. absurd (cc e) }

  chosen_fine : (e : Entry) → settle now.board.table ≡ Some e → Settled (seats_of u) now e
      → Fine first (l.items ++ Log e ∷ []) (next (applied l.board e)) AtEnd
  unfolding FitAll
  chosen_fine e f s =
      let after : seen_items first (l.items ++ Log e ∷ []) ≡ seen_after now e = seen_append first l.items (Log e ∷ []) in
      record {
        fit = fit_item first l.items (Log e) fit (s.fits, tt);
        stands = λ none. record {
          board = ap (λ x. x.board) after ∙ ap (λ b. applied b e) board;
          holds = subst (Holds (seats_of u)) (sym after) s.holds;
        };
        over = λ kind none. absurd (cc none);
      }

  settled_fine : Fine first (l.items ++ (settled l.board).items) (next (settled l.board).board) AtEnd
  settled_fine = subst (λ b. Fine first (l.items ++ (settled_as (settle b.table) l.board).items) (next (settled_as (settle b.table) l.board).board) AtEnd) board
      (by (settle now.board.table) refl (settling_holds (seats_of u) now p))
    where
      by : (o : Option Entry) → settle now.board.table ≡ o → IsSettled (seats_of u) now o
          → Fine first (l.items ++ (settled_as o l.board).items) (next (settled_as o l.board).board) AtEnd
      by None f s = rw (append-nil l.items) (rests_fine s)
      by (Some e) f s = chosen_fine e f s

  pub settles_fine : l.stop ≡ None → FineTurn first (settled_after (happens u l))
  settles_fine stop = subst (λ x. Fine first (l.items ++ (settled l.board).items) (record { unix = x; board = (settled l.board).board }) AtEnd)
      (sym (ap (λ o. left_by o u) stop)) settled_fine

-- effects that name no place don't panic
abbrev pub AreShown : List (Effect Unix) → Type 0
AreShown [] = Unit {0}
AreShown (Show item ∷ es) = AreShown es
AreShown (Size s clicks before ∷ es) = ⊥
AreShown (Fork s child before ∷ es) = ⊥
AreShown (Text s clicks before ∷ es) = ⊥
AreShown (Image s clicks before ∷ es) = ⊥
AreShown (Exit s before ∷ es) = ⊥

shown_on : (xs : List Item) (b : Board) (es : List (Effect Unix)) → AreShown es
    → (fold log_one (record { items = xs; board = b; stop = None }) es).stop ≡ None
unfolding log_one came
shown_on xs b [] h = refl
shown_on xs b (Show (Log e) ∷ es) h = shown_on (xs ++ Log e ∷ []) (applied b e) es h
shown_on xs b (Show (Byte line byte) ∷ es) h = shown_on (xs ++ Byte line byte ∷ []) b es h
shown_on xs b (Size s clicks before ∷ es) h = absurd h
shown_on xs b (Fork s child before ∷ es) h = absurd h
shown_on xs b (Text s clicks before ∷ es) h = absurd h
shown_on xs b (Image s clicks before ∷ es) h = absurd h
shown_on xs b (Exit s before ∷ es) h = absurd h

pub shown_stop : (b : Board) (es : List (Effect Unix)) → AreShown es → (logged b es).stop ≡ None
shown_stop b es h = shown_on [] b es h

-- an event whose effects are apt
pub ends_none : (Q : Seen → Type 0) (o : Option (Stop Unix)) (seen : Seen) → o ≡ None → Ends Q o seen → Q seen
ends_none Q None seen e h = h
ends_none Q (Some stop) seen e h = absurd (cc e)

pub event_by : (u v : Unix) (seen : Seen) (es : List (Effect Unix))
    → Apt (Paused (seats_of v)) seen es → (logged seen.board es).stop ≡ None
    → FineTurn seen (settled_after (happens v (logged seen.board es)))
event_by u v seen es a stop =
    let l : Logged Unix = logged seen.board es in
    let f : Fitted (Paused (seats_of v)) seen l = apt_fits (Paused (seats_of v)) seen es a in
    settles_fine v seen l f.fit f.board (ends_none (Paused (seats_of v)) l.stop (seen_items seen l.items) stop f.ends) stop

-- the same of one that a panic may end
pub passes_fine : (v : Unix) (seen : Seen) (es : List (Effect Unix)) → Apt (Paused (seats_of v)) seen es
    → FineTurn seen (settled_after (passes v (logged seen.board es)))
passes_fine v seen es a = by l.stop refl
  where
    l : Logged Unix
    l = logged seen.board es

    f : Fitted (Paused (seats_of v)) seen l
    f = apt_fits (Paused (seats_of v)) seen es a

    by : (o : Option (Stop Unix)) → l.stop ≡ o
        → FineTurn seen (settled_after (passes v (record { items = l.items; board = l.board; stop = o })))
    by None e =
        settles_fine v seen (record { items = l.items; board = l.board; stop = None }) f.fit f.board
        (ends_none (Paused (seats_of v)) l.stop (seen_items seen l.items) e f.ends) refl
    by (Some stop) e = record {
      fit = f.fit;
      stands = λ x. absurd (cc x);
      over = λ kind x. subst (λ o. Ends (Paused (seats_of v)) o (seen_items seen l.items)) e f.ends;
    }

-- A turn.
stops : (o : Option (Stop Unix)) (steps : Steps) → ending_by o steps.ending ≡ AtEnd
    → (o ≡ None) × (ending_of steps.ending ≡ AtEnd)
stops None steps e = (refl, e)
stops (Some stop) steps e = absurd (cc e)

-- a turn that ends in a panic, which is the last line
self_calm : (ending : Ending) (kind : PanicKind) → IsCalm ending → ending_of ending ≡ ends.Panic kind → ⊥
self_calm ending.Next kind calm e = cc e
self_calm ending.Trapped kind calm e = cc e
self_calm (ending.Slept pri chan) kind calm e = cc e
self_calm ending.Ended kind calm e = cc e
self_calm (ending.Panic other) kind calm e = calm

panics : (Q : Seen → Type 0) (o : Option (Stop Unix)) (ending : Ending) (kind : PanicKind) (seen : Seen) → IsCalm ending
    → ending_by o ending ≡ ends.Panic kind → Ends Q o seen → seen.stage ≡ Over
panics Q None ending kind seen calm e q = absurd (self_calm ending kind calm e)
panics Q (Some stop) ending kind seen calm e q = q

-- the slots that are meant are slots
abbrev pub AllSlots : List ℕ → Type 0
AllSlots [] = Unit {0}
AllSlots (s ∷ slots) = IsSlot s × AllSlots slots

slots_either : (b : Bool) (s : ℕ) (slots : List ℕ) → IsSlot s → AllSlots slots → AllSlots (cond b (s ∷ slots) slots)
slots_either true s slots is all = (is, all)
slots_either false s slots is all = all

filter_slots : (f : ℕ → Bool) (slots : List ℕ) → AllSlots slots → AllSlots (filter f slots)
filter_slots f [] all = tt
filter_slots f (s ∷ slots) all = slots_either (f s) s (filter f slots) all.0 (filter_slots f slots all.1)

range_slots : (first n : ℕ) → first + n ≤ 50 → AllSlots (range_with_len first n)
range_slots first zero low = tt
range_slots first (suc n) low = (omega (arith, low), range_slots (first + 1) n (omega (arith, low)))

meant_slots : (who : ℕ → Process → Bool) (processes : List (Option Process)) → AllSlots (meant_in who processes)
meant_slots who processes = filter_slots (λ s. is_meant who s (get_or processes s None)) slots_above_0 (range_slots 1 49 (omega arith))

-- What has happened in an event, before the kernel settles: lines that fit, and, where the run goes on, who is where after them.
pub record Came (seen : Seen) (h : Happened) : Type 0 where
  pub fit : FitAll seen (entries_of h.log.items)
  pub board : (seen_items seen h.log.items).board ≡ h.log.board
  pub goes : h.ending ≡ AtEnd → Paused (seats_of h.unix) (seen_items seen h.log.items)
  pub rests : h.ending ≡ AtEnd → h.settles ≡ false → Holds (seats_of h.unix) (seen_items seen h.log.items)
  pub over : (kind : PanicKind) → h.ending ≡ ends.Panic kind → (seen_items seen h.log.items).stage ≡ Over

-- and when it has settled, where it does
pub came_fine : (seen : Seen) (h : Happened) → Came seen h → FineTurn seen (settled_after h)
came_fine seen h c = by h.ending refl h.settles refl
  where
    stops : (e : run.Ends) (kind : PanicKind) → h.ending ≡ e → e ≡ ends.Panic kind → Fine seen h.log.items (stays h).next h.ending
    stops e kind is panic = record {
      fit = c.fit;
      stands = λ goes. absurd (let other = sym is ∙ goes in cc (other, panic));
      over = λ other x. c.over other x;
    }

    by : (e : run.Ends) → h.ending ≡ e → (b : Bool) → h.settles ≡ b → FineTurn seen (cond (not (is_early e) && b) (settling h) (stays h))
    by AtEnd is true calls = subst (λ o. Fine seen (h.log.items ++ (settled h.log.board).items) (record { unix = h.unix; board = (settled h.log.board).board }) o) (sym is)
        (settled_fine h.unix seen h.log c.fit c.board (c.goes is))
    by AtEnd is false calls = record {
      fit = c.fit;
      stands = λ e. record { board = c.board; holds = c.rests is calls };
      over = λ kind x. c.over kind x;
    }
    by (ends.Panic kind) is b calls = stops (ends.Panic kind) kind is refl

turned_came : (s : ℕ) (u : Unix) (seen : Seen) (steps : Steps) → AptSteps s seen steps → Came seen (turn_of (system_at u seen) s steps)
turned_came s u seen steps a = record {
  fit = f.fit;
  board = f.board;
  goes = λ e.
      let k = stops l.stop steps e in
      subst (λ v. Paused (seats_of v) (seen_items seen l.items)) (sym (ap (λ o. left_by o steps.unix) k.0))
      (ends_none Goes l.stop (seen_items seen l.items) k.0 f.ends k.1);
  rests = λ e calls. absurd (cc calls);
  over = λ kind e. panics Goes l.stop steps.ending kind (seen_items seen l.items) a.calm e f.ends;
}
  where
    es : List (Effect Unix)
    es = steps.effects ++ end_effects s steps.ending

    l : Logged Unix
    l = logged seen.board es

    Goes : Seen → Type 0
    Goes = GoesOn steps.unix steps.ending

    f : Fitted Goes seen l
    f = apt_fits Goes seen es a.apt

-- The pass of process 0: it ends asleep, or in a panic.
pass_came : (u : Unix) (seen : Seen) → Paused (seats_of u) seen → seen.board.table.running ≡ Some 0
    → Came seen (pass_of (system_at u seen))
pass_came u seen p r = by l.stop refl
  where
    l : Logged (Unit {0})
    l = pass seen.board

    passed : Passed (seats_of u) seen l
    passed = pass_passes (seats_of u) seen (all_sized u) p r

    by : (o : Option (Stop (Unit {0}))) → l.stop ≡ o
        → Came seen (passes u (record { items = l.items; board = l.board; stop = stop_over u o }))
    by None e = record {
      fit = passed.fit;
      board = passed.board;
      goes = λ x. (passed.goes e).paused;
      rests = λ x calls. absurd (cc calls);
      over = λ kind x. absurd (cc x);
    }
    by (Some stop) e = record {
      fit = passed.fit;
      board = passed.board;
      goes = λ x. absurd (cc x);
      rests = λ x calls. absurd (cc calls);
      over = λ kind x. passed.over stop e;
    }

-- who runs lives in its slot
pub runs_at : (u : Unix) (s : ℕ) (b : Board) → IsTidy u → InTurn s (seats_of u) b → Runs s u
runs_at u s b tidy t = record {
  tidy = tidy;
  there = runner_there u.processes u.clock u.texts u.limit s b t;
  lives = runner_alive u.processes u.clock u.texts u.limit s b t;
}

-- a slot
slot_came : (u : Unix) (seen : Seen) → IsTidy u → Holds (seats_of u) seen → Came seen (slot_of (system_at u seen) seen.board.table.running)
unfolding FitAll
slot_came u seen tidy h = by seen.board.table.running refl h.paused.runner
  where
    by : (o : Option ℕ) → seen.board.table.running ≡ o → RunnerAt (seats_of u) seen.board o → Came seen (slot_of (system_at u seen) o)
    by None e r = record { fit = tt; board = refl; goes = λ f. h.paused; rests = λ f calls. h; over = λ kind f. absurd (cc f) }
    by (Some zero) e r = pass_came u seen h.paused e
    by (Some (suc s)) e (inl z) = absurd (cc z)
    by (Some (suc s)) e (inr t) =
        turned_came (suc s) u seen _ (turn_apt (suc s) seen u tidy
        (begins_numbers (suc s) u seen.board (runs_at u (suc s) seen.board tidy t)) h.paused t)

-- Wakes that follow it.
wakes_all : (v : Seats) (seen : Seen) (slots : List ℕ) → AllSlots slots → Paused v seen
    → Apt {W = Unix} (Paused v) seen (map Show (map (λ s. Log (entry.Wake (Disk s))) slots))
unfolding Apt
wakes_all v seen [] all p = p
wakes_all v seen (s ∷ slots) all p =
    wake_apt (Paused v) seen (Disk s) (map Show (map (λ s. Log (entry.Wake (Disk s))) slots)) p.going all.0
    (wakes_all v (seen_after seen (entry.Wake (Disk s))) slots all.1 (wake_paused v seen (Disk s) p))

pub all_shown : (items : List Item) → AreShown (map Show items)
all_shown [] = tt
all_shown (item ∷ items) = all_shown items

either_no : (x y : Bool) → (x || y) ≡ false → (x ≡ false) × (y ≡ false)
either_no true y e = absurd (cc e)
either_no false y e = (refl, e)

-- Effects that follow, by which the run goes on. Where they wake nobody, who is where stays as it was.
followed_came : (seen : Seen) (h : Happened) (wakes : Bool) (es : List (Effect Unix)) → h.ending ≡ AtEnd → Came seen h → AreShown es
    → ((now : Seen) → Paused (seats_of h.unix) now → Apt (Paused (seats_of h.unix)) now es)
    → (wakes ≡ false → (now : Seen) → Holds (seats_of h.unix) now → Apt (Holds (seats_of h.unix)) now es) → Came seen (followed wakes h es)
followed_came seen h wakes [] goes c shown apt quiet = c
followed_came seen h wakes (e ∷ es) goes c shown apt quiet = record {
  fit = fit_items seen h.log.items l.items c.fit f.fit;
  board = ap (λ (x : Seen). x.board) after ∙ f.board;
  goes = λ x. subst (Paused (seats_of h.unix)) (sym after) (ends_none (Paused (seats_of h.unix)) l.stop (seen_items now l.items) stop f.ends);
  rests = λ x calls.
      let no = either_no wakes h.settles calls in
      subst (Holds (seats_of h.unix)) (sym after) (ends_none (Holds (seats_of h.unix)) l.stop (seen_items now l.items) stop
      (fitted (Holds (seats_of h.unix)) (quiet no.0 now (c.rests goes no.1))).ends);
  over = λ kind x. absurd (let other = sym goes ∙ x in cc other);
}
  where
    now : Seen
    now = seen_items seen h.log.items

    l : Logged Unix
    l = logged h.log.board (e ∷ es)

    after : seen_items seen (h.log.items ++ l.items) ≡ seen_items now l.items
    after = seen_append seen h.log.items l.items

    stop : l.stop ≡ None
    stop = shown_stop h.log.board (e ∷ es) shown

    fitted : (Q : Seen → Type 0) → Apt Q now (e ∷ es) → Fitted Q now l
    fitted Q a = subst (λ b. Fitted Q now (logged b (e ∷ es))) c.board (apt_fits Q now (e ∷ es) a)

    f : Fitted (Paused (seats_of h.unix)) now l
    f = fitted (Paused (seats_of h.unix)) (apt now (c.goes goes))

-- a slot that counts
counted_came : (seen : Seen) (h : Happened) → Came seen h → Came seen (counted h)
counted_came seen h c = record { fit = c.fit; board = c.board; goes = c.goes; rests = c.rests; over = c.over }

disks_came : (seen : Seen) (h : Happened) → h.ending ≡ AtEnd → Came seen h → Came seen (wakes_disks h)
disks_came seen h goes c =
    let slots : List ℕ = meant_in (waits_until h.unix.timing.passed) h.unix.processes in
    followed_came seen h true (map Show (disk_lines h.unix)) goes c (all_shown (disk_lines h.unix))
    (λ now p. wakes_all (seats_of h.unix) now slots (meant_slots (waits_until h.unix.timing.passed) h.unix.processes) p)
    (λ none. absurd (cc none))

-- the lines send
sends_came : (seen : Seen) (h : Happened) → h.ending ≡ AtEnd → length h.unix.lines ≤ 8 → Came seen h → Came seen (sends_after h)
sends_came seen h goes few c = by (is_sending h.unix.timing)
  where
    all : AllTold
    all = each_line sends h.unix.lines

    now : Happened
    now = record h { unix = record h.unix { lines = all.lines } }

    by : (b : Bool) → Came seen (cond b (sends_lines h) h)
    by true =
        followed_came seen now all.wakes (map Show all.items) goes
        (record { fit = c.fit; board = c.board; goes = c.goes; rests = c.rests; over = c.over }) (all_shown all.items)
        (λ at p. lines_apt (seats_of h.unix) sends h.unix.lines at few p)
        (λ none at holds. lines_quiet (Holds (seats_of h.unix)) sends h.unix.lines at none holds)
    by false = c

-- effects that follow leave the Unix, and the run goes on
pub followed_unix : (wakes : Bool) (h : Happened) (es : List (Effect Unix)) → (followed wakes h es).unix ≡ h.unix
followed_unix wakes h [] = refl
followed_unix wakes h (e ∷ es) = refl

pub followed_ending : (wakes : Bool) (h : Happened) (es : List (Effect Unix)) → (followed wakes h es).ending ≡ h.ending
followed_ending wakes h [] = refl
followed_ending wakes h (e ∷ es) = refl

pub after_came : (seen : Seen) (h : Happened) → (h.ending ≡ AtEnd → length h.unix.lines ≤ 8) → Came seen h → Came seen (after_slot h)
after_came seen h few c = by h.ending refl
  where
    by : (e : run.Ends) → h.ending ≡ e → Came seen (cond (is_early e) h (sends_after (wakes_disks (counted h))))
    by AtEnd is =
        let wakes : List (Effect Unix) = map Show (disk_lines (with_slot h.unix)) in
        sends_came seen (wakes_disks (counted h)) (followed_ending true (counted h) wakes ∙ is)
        (subst (λ (u : Unix). length u.lines ≤ 8) (sym (followed_unix true (counted h) wakes)) (few is))
        (disks_came seen (counted h) is (counted_came seen h c))
    by (ends.Panic kind) is = c

-- a slot, with what follows it
pub slot_fine : (u : Unix) (seen : Seen) → IsTidy u → Holds (seats_of u) seen
    → ((slot_of (system_at u seen) seen.board.table.running).ending ≡ AtEnd → length (slot_of (system_at u seen) seen.board.table.running).unix.lines ≤ 8)
    → FineTurn seen (settled_after (whole_slot (system_at u seen)))
slot_fine u seen tidy h few =
    let what : Happened = slot_of (system_at u seen) seen.board.table.running in
    came_fine seen (after_slot what) (after_came seen what few (slot_came u seen tidy h))
