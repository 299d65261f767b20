-- The log of each run fits, line after line, and that of one that comes to its script's end, or to a panic, is lawful.
use Rattle.std.proofs.Common.{◌≡◌, ◌∙◌, ◌<◌, ◌≤◌, ◌==◌, ◌||◌, ℕ, zero, suc, Bool, true, false, List, [], ◌∷◌, ◌++◌, append-nil, length, if◌then◌else◌, Option, Some, None, is_some, option_map, get_or, slice_index, replicate, refl, sym, ap, subst, inl, inr, arith}
use Rattle.std.proofs.lemmas.Bool.{cases_lt}
use Rattle.std.proofs.lemmas.Int.{ints}
use Rattle.std.proofs.lemmas.List.{get_or_past}
use Rattle.v6_base.specs.Image.{AreBytes}
use Rattle.v6_base.specs.Trace.{Log, entries_of}
use Rattle.v6_base.specs.declared.entry.Chan.TheVariants.{RunOut}
use Rattle.v6_base.specs.declared.entry.Entry.TheVariants as line
use Rattle.fs_codec.specs.Faults.{image_fault}
use Rattle.fs_codec.specs.declared.fault.ImageFault.{ImageFault}
use Rattle.fs_codec.specs.Words.{bytes_from}
use Rattle.fs_codec.specs.Disk.{disk_of}
use Rattle.fs_codec.specs.Stands.{store_of}
use Rattle.fs_nodes.specs.Keys.{Stores, key_count}
use Rattle.pick_rules.specs.Priority.{pswp}
use Rattle.pick_rules.specs.Ranges.{IsTime}
use Rattle.pick_rules.specs.Table.{empty_row, row_at}
use Rattle.pick_rules.specs.Sleepers.{fall_asleep}
use Rattle.pick_rules.specs.Board.{Board, first_board}
use Rattle.pick_rules.specs.Apply.{applied}
use Rattle.pick_rules.specs.Search.{least}
use Rattle.pick_rules.specs.Logged.{Logged}
use Rattle.pick_rules.specs.Lawful.{Booted, Over, Seen, FitAll, Lawful, nothing_seen, seen_after, seen_of}
use Rattle.pick_rules.proofs.Shapes.{shape_at, Sleeps}
use Rattle.log_laws.proofs.Fitting.{fit_items, fit_item, seen_append, seen_items}
use Rattle.log_laws.proofs.Seats.{Seat, seat_at, AgreesAt, Agrees, Paused, Holds}
use Rattle.log_laws.proofs.Settles.{end_fits}
use Rattle.swap_sched.specs.Pass.{pass, over}
use Rattle.abstract_unix.specs.declared.ends.Ends as run
use Rattle.abstract_unix.specs.declared.ends.Ends.TheVariants as ends
use Rattle.abstract_unix.specs.declared.ends.Ends.TheVariants.{AtEnd}
use Rattle.abstract_unix.specs.Endings.{is_whole, last_line}
use Rattle.abstract_unix.specs.Unix.{Unix, System, no_texts}
use Rattle.abstract_unix.specs.Turn.{Turn, settled_after, passes, pass_of}
use Rattle.abstract_unix.specs.Runs.{first_unix, stores_of, system_with, system_of, is_second_bad, Event, Slot, Tick, Byte, Switch, Disk, Pace, Hangup, event_of, Course, goes_on_by, unless_ended, after_event, course, started, boots}
use Rattle.abstract_unix.specs.Law.{log_of, LogsAreLawful}
use Rattle.abstract_unix.proofs.Sitting.{seats_of}
use Rattle.abstract_unix.proofs.Passing.{only_sleeps, pass_sleeps}
use Rattle.abstract_unix.proofs.Events.{system_at, Stands, Fine, FineTurn, settles_fine, slot_fine}
use Rattle.abstract_unix.proofs.Outside.{tick_fine, typed_fine, switched_fine, disk_set_fine, paced_fine, hangup_fine}
use Rattle.abstract_unix.proofs.Tidy.{IsTidy}
use Rattle.abstract_unix.proofs.TidyEvents.{slot_tidy, event_tidy, start_tidy}
use Rattle.abstract_unix.proofs.FirstTidy.{few_keys, first_tidy}

get_replicate : {X : Type 0} (x : X) (n k : ℕ) → get_or (replicate n x) k x ≡ x
get_replicate x zero k = refl
get_replicate x (suc n) zero = refl
get_replicate x (suc n) (suc k) = get_replicate x n k

event_fine : (e : Event) (u : Unix) (seen : Seen) → IsTidy u → Holds (seats_of u) seen
    → FineTurn seen (event_of e (system_at u seen))
event_fine Slot u seen tidy h = slot_fine u seen tidy h (λ goes. (slot_tidy u seen h.paused tidy goes).eight)
event_fine Tick u seen tidy h = tick_fine u seen tidy h.paused
event_fine (Byte l byte) u seen tidy h = typed_fine u seen l byte tidy.eight h.paused
event_fine (Switch word) u seen tidy h = switched_fine u seen word h
event_fine (Disk count) u seen tidy h = disk_set_fine u seen count h
event_fine (Pace count) u seen tidy h = paced_fine u seen count tidy.eight h
event_fine (Hangup l) u seen tidy h = hangup_fine u seen l tidy.eight h.paused

-- a run as far as it has come: its lines fit, and where it goes on its Unix is tidy
pub record FineCourse (c : Course) : Type 0 where
  pub fine : Fine nothing_seen c.items c.system c.ending
  pub tidy : c.ending ≡ AtEnd → IsTidy c.system.unix

further : (c : Course) (t : Turn) → FitAll nothing_seen (entries_of c.items) → FineTurn (seen_items nothing_seen c.items) t
    → (t.ending ≡ AtEnd → IsTidy t.next.unix) → FineCourse (goes_on_by c t)
further c t f g tidy = record {
  fine = record {
    fit = fit_items nothing_seen c.items t.items f g.fit;
    stands = λ e. subst (Stands t.next) (sym (seen_append nothing_seen c.items t.items)) (g.stands e);
    over = λ kind e. ap (λ (x : Seen). x.stage) (seen_append nothing_seen c.items t.items) ∙ g.over kind e;
  };
  tidy = tidy;
}

pub event_goes : (c : Course) (e : Event) → FineCourse c → FineCourse (after_event c e)
event_goes c e f = by c.ending refl
  where
    now : Seen
    now = seen_items nothing_seen c.items

    -- the system with the board that the lines give
    at_lines : IsTidy c.system.unix → Stands c.system now → FineTurn now (event_of e c.system)
    at_lines tidy h = subst (λ b. FineTurn now (event_of e (record { unix = c.system.unix; board = b }))) h.board
        (event_fine e c.system.unix now tidy h.holds)

    -- and leaves it tidy
    tidy_then : IsTidy c.system.unix → Stands c.system now → (event_of e c.system).ending ≡ AtEnd → IsTidy (event_of e c.system).next.unix
    tidy_then tidy h = subst (λ b. let t : Turn = event_of e (record { unix = c.system.unix; board = b }) in t.ending ≡ AtEnd → IsTidy t.next.unix) h.board
        (event_tidy e c.system.unix now h.holds tidy)

    by : (o : run.Ends) → c.ending ≡ o → FineCourse (unless_ended o c e)
    by AtEnd n =
        further c (event_of e c.system) f.fine.fit (at_lines (f.tidy n) (f.fine.stands n)) (tidy_then (f.tidy n) (f.fine.stands n))
    by (ends.Panic kind) n = f

course_fine : (events : List Event) (c : Course) → FineCourse c → FineCourse (course c events)
course_fine [] c f = f
course_fine (e ∷ events) c f = course_fine events (after_event c e) (event_goes c e f)

-- The beginning: two lines, and a choice.
module _ (store : Stores) (core lines : ℕ) (low : 64 ≤ core) (high : core ≤ 3968) where
  abbrev u : Unix
  u = first_unix store core lines

  abbrev booted_seen : Seen
  booted_seen = record { stage = Booted; board = first_board core store.root.stamp }

  first_each : (b : Board) → b ≡ applied (first_board core store.root.stamp) (line.Sleep 0 pswp RunOut) → (r : ℕ) → 0 < r
      → AgreesAt (r == 0) (seats_of u).most (seat_at (seats_of u) r) (shape_at b.table r)
  unfolding applied fall_asleep
  first_each b e zero h = absurd (omega arith)
  first_each b e (suc zero) h = rw e (record {
    used = refl;
    zombie = refl;
    calling = λ f g. refl;
    text = refl;
    entry = λ k e. absurd (cc e);
    place = λ f. refl;
    size = λ f. refl;
    most = omega (arith, low);
  })
  first_each b e (suc (suc k)) h = rw (e, slots k, get_replicate empty_row 48 k) refl
    where
      slots : (k : ℕ) → get_or (seats_of u).slots (suc (suc k)) None ≡ None
      slots k = get_replicate {X = Option Seat} None 48 k

  first_sleeps : (r : ℕ) → Sleeps (row_at (applied (first_board core store.root.stamp) (line.Sleep 0 pswp RunOut)).table r)
  unfolding applied fall_asleep
  first_sleeps zero = inr refl
  first_sleeps (suc zero) = inl refl
  first_sleeps (suc (suc k)) = rw (get_replicate empty_row 48 k) (inl refl)

  first_agrees : Agrees 0 (seats_of u) (applied (first_board core store.root.stamp) (line.Sleep 0 pswp RunOut))
  unfolding applied fall_asleep no_texts
  first_agrees =
      record { each = first_each _ refl; sleeps = first_sleeps; rows = refl; seats = refl; time = refl; ticks = refl; texts = refl; forty = refl; core = high; most = refl }

  first_paused : Paused (seats_of u) (seen_after booted_seen (line.Sleep 0 pswp RunOut))
  unfolding applied fall_asleep
  first_paused = record { going = tt; agrees = first_agrees; runner = tt }

  -- nobody is out of core
  first_pass : pass (first_board core store.root.stamp) ≡ only_sleeps (first_board core store.root.stamp)
  unfolding least
  first_pass = pass_sleeps (first_board core store.root.stamp) refl refl

  start_fine : FineTurn booted_seen (settled_after (pass_of (system_at u booted_seen)))
  unfolding FitAll
  start_fine = subst (λ (l : Logged (Unit {0})). FineTurn booted_seen (settled_after (passes u (over u l)))) (sym first_pass)
      (settles_fine u booted_seen (record { items = Log (line.Sleep 0 pswp RunOut) ∷ []; board = applied (first_board core store.root.stamp) (line.Sleep 0 pswp RunOut); stop = None })
      (((omega arith, (omega (arith, ints), omega (arith, ints)), tt), refl), tt) refl first_paused refl)

  pub started_fine : IsTime store.root.stamp → key_count store ≤ 65535 → lines ≤ 8 → FineCourse (started (system_with store core lines))
  unfolding FitAll applied
  started_fine time few some = record {
    fine = record { fit = (((omega (arith, high), time), (low, high)), start_fine.fit); stands = start_fine.stands; over = start_fine.over };
    tidy = λ e. start_tidy (system_with store core lines) (first_tidy store core lines few some) e;
  }

-- the log of a run, with its last line where it has come to its end or to a panic
module _ (c : Course) (f : Fine nothing_seen c.items c.system c.ending) where
  log_fits : FitAll nothing_seen (log_of c)
  unfolding FitAll
  log_fits = by c.ending refl
    where
      by : (o : run.Ends) → c.ending ≡ o → FitAll nothing_seen (entries_of (c.items ++ last_line o))
      by AtEnd e =
          fit_item nothing_seen c.items (Log line.End) f.fit (end_fits (seats_of c.system.unix) (seen_items nothing_seen c.items) (f.stands e).holds, tt)
      by (ends.Panic kind) e = rw (append-nil c.items) f.fit

  log_ends : is_whole c.ending ≡ true → (seen_of (log_of c)).stage ≡ Over
  log_ends = by c.ending refl
    where
      by : (o : run.Ends) → c.ending ≡ o → is_whole o ≡ true → (seen_of (entries_of (c.items ++ last_line o))).stage ≡ Over
      by AtEnd e whole = ap (λ s. s.stage) (seen_append nothing_seen c.items (Log line.End ∷ []))
      by (ends.Panic kind) e whole = ap (λ items. (seen_of (entries_of items)).stage) (append-nil c.items) ∙ f.over kind e

  log_lawful : FitAll nothing_seen (log_of c) × (is_whole c.ending ≡ true → Lawful (log_of c))
  log_lawful = (log_fits, λ e. record { fit = log_fits; over = log_ends e })

-- the time of an image's super-block is two words of its bytes
byte_in : (bytes : List ℕ) (i : ℕ) → AreBytes bytes → slice_index bytes i < 256
byte_in bytes i are = elim (cases_lt i (length bytes)) [
  | inl low ↦ are i 0 low
  | inr past ↦ omega (arith, get_or_past {X = ℕ} bytes i 0 past)
]

pub stamp_in_range : (image : List ℕ) → AreBytes image → IsTime (store_of (disk_of image)).stamp
unfolding store_of disk_of bytes_from
stamp_in_range image are =
    omega (arith, byte_in image 924 are, byte_in image 925 are, byte_in image 926 are, byte_in image 927 are)

-- the system that images boot
pub fine_images : (image : List ℕ) (second : Option (List ℕ)) (core lines : ℕ) (m : System) → boots image second core lines ≡ Some m
    → (image_fault image ≡ None) × (is_second_bad image second ≡ false)
fine_images image second core lines m e = by (image_fault image) (is_second_bad image second) e
  where
    by : (o : Option ImageFault) (bad : Bool) → (if is_some o || bad then None else Some (system_of image second core lines)) ≡ Some m
        → (o ≡ None) × (bad ≡ false)
    by None false f = (refl, refl)
    by None true f = absurd (cc f)
    by (Some fault) bad f = absurd (cc f)

pub boots_is : (image : List ℕ) (second : Option (List ℕ)) (core lines : ℕ) (m : System) → boots image second core lines ≡ Some m
    → system_of image second core lines ≡ m
boots_is image second core lines m e = by (is_some (image_fault image) || is_second_bad image second) e
  where
    by : (x : Bool) → (if x then None else Some (system_of image second core lines)) ≡ Some m
        → system_of image second core lines ≡ m
    by true f = absurd (cc f)
    by false f = cc f

-- Each line of each log fits what the lines before it give, and the last one ends it.
pub logs_are_lawful : LogsAreLawful
logs_are_lawful image second core lines events c are low high some e = by (boots image second core lines) refl e
  where
    by : (o : Option System) → boots image second core lines ≡ o → option_map (λ m. course (started m) events) o ≡ Some c
        → FitAll nothing_seen (log_of c) × (is_whole c.ending ≡ true → Lawful (log_of c))
    by None f g = absurd (cc g)
    by (Some m) f g =
        let store : Stores = stores_of image second in
        let fine_of = fine_images image second core lines m f in
        let is : course (started (system_with store core lines)) events ≡ c =
        ap (λ n. course (started n) events) (boots_is image second core lines m f) ∙ cc g in
        let fine : FineCourse (started (system_with store core lines)) =
        started_fine store core lines low high (stamp_in_range image are) (few_keys image second fine_of.0 fine_of.1) some in
        subst (λ c. FitAll nothing_seen (log_of c) × (is_whole c.ending ≡ true → Lawful (log_of c))) is
        (log_lawful (course (started (system_with store core lines)) events) (course_fine events (started (system_with store core lines)) fine).fine)
