-- How a run over a list of events is made of runs over its parts.
use Rattle.std.proofs.Common.{Option, ◌≡◌, ◌≢◌, ◌||◌, cond, Bool, true, false, map, List, [], ◌∷◌, ◌++◌, Ok, Err, refl, sym, ◌∙◌, ap, append_assoc}
use Rattle.std.proofs.lemmas.List.{append-nil}
use Rattle.std.proofs.lemmas.List.Folds.{list_any-append}
use Rattle.v6_base.specs.Trace.{Item}
use Rattle.v6_base.specs.declared.entry.PanicKind.{PanicKind}
use Rattle.abstract_unix.specs.declared.ends.Ends.{Ends}
use Rattle.abstract_unix.specs.declared.ends.Ends.TheVariants as ends
use Rattle.abstract_unix.specs.declared.ends.Ends.TheVariants.{AtEnd}
use Rattle.abstract_unix.specs.declared.turned.Turned.{Turned}
use Rattle.abstract_unix.specs.declared.turned.Turned.TheVariants.{Ran, Idle, Panic}
use Rattle.std.specs.List.{list_any}
use Rattle.pick_rules.specs.Effects.{Effect, Show}
use Rattle.pick_rules.specs.Logged.{Stop, logged}
use Rattle.abstract_unix.specs.Endings.{is_early}
use Rattle.abstract_unix.specs.Unix.{Unix, System}
use Rattle.tty_line.specs.Terminal.{Terminal}
use Rattle.tty_line.specs.Said.{sends}
use Rattle.lines_eight.specs.Told.{AllTold, each_line}
use Rattle.abstract_unix.specs.Turn.{settled, Happened, Turn, with_slot, counted, followed, disk_lines, wakes_disks, is_sending, sends_lines, sends_after, after_slot, stays, settling, calls_for_settling, settled_after, turned_by, turned, ticked_by}
use Rattle.abstract_unix.specs.Runs.{Event, Tick, Course, begun, event_of, goes_on_by, unless_ended, after_event, course, after_items}

-- first these events and then those
pub course-append : (c : Course) (xs ys : List Event) → course c (xs ++ ys) ≡ course (course c xs) ys
course-append c [] ys = refl
course-append c (x ∷ xs) ys = course-append (after_event c x) xs ys

event_ended : (c : Course) (e : Ends) (x : Event) → e ≢ AtEnd → unless_ended e c x ≡ c
event_ended c AtEnd x early = absurd (early refl)
event_ended c (ends.Panic kind) x early = refl

-- a run that has ended stays as it is
pub course_ended : (c : Course) (xs : List Event) → c.ending ≢ AtEnd → course c xs ≡ c
course_ended c [] early = refl
course_ended c (x ∷ xs) early = ap (λ d. course d xs) (event_ended c c.ending x early) ∙ course_ended c xs early

event_after_items : (items : List Item) (c : Course) (e : Ends) (x : Event) → unless_ended e (after_items items c) x ≡ after_items items (unless_ended e c x)
event_after_items items c AtEnd x = ap (λ (l : List Item). record (goes_on_by c (event_of x c.system)) { items = l }) (append_assoc items c.items (event_of x c.system).items)
event_after_items items c (ends.Panic kind) x = refl

-- what was shown before stands in front
pub course-after_items : (items : List Item) (c : Course) (xs : List Event) → course (after_items items c) xs ≡ after_items items (course c xs)
course-after_items items c [] = refl
course-after_items items c (x ∷ xs) = ap (λ d. course d xs) (event_after_items items c c.ending x) ∙ course-after_items items (after_event c x) xs

-- a run that goes on begins again at its system, after what it has shown
goes_as : (c : Course) (e : Ends) → c.ending ≡ e → e ≡ AtEnd → c ≡ after_items c.items (begun c.system)
goes_as c e is none =
    ap (λ (l : List Item). record c { items = l }) (sym (append-nil c.items))
    ∙ ap (λ (o : Ends). record { items = c.items ++ []; system = c.system; ending = o }) (is ∙ none)

pub course_goes : (c : Course) (m : System) (ys : List Event) → c.ending ≡ AtEnd → m ≡ c.system → course c ys ≡ after_items c.items (course (begun m) ys)
course_goes c m ys goes system =
    ap (λ d. course d ys) (goes_as c c.ending refl goes) ∙ course-after_items c.items (begun c.system) ys ∙ ap (λ (n : System). after_items c.items (course (begun n) ys)) (sym system)

-- A loop over pieces of a list of events: m is the system after the pieces xs, and the run goes on.
module _ (c : Course) (m : System) (xs : List Event) (goes : (course c xs).ending ≡ AtEnd) (system : m ≡ (course c xs).system) where
  pub course_joined : (ys all : List Event) → all ≡ xs ++ ys → course c all ≡ after_items (course c xs).items (course (begun m) ys)
  course_joined ys all is = ap (course c) is ∙ course-append c xs ys ∙ course_goes (course c xs) m ys goes system

  -- where the next piece ends the run, what follows it changes nothing
  pub course_last : (ys zs all : List Event) → all ≡ (xs ++ ys) ++ zs → (course (begun m) ys).ending ≢ AtEnd
      → course c all ≡ after_items (course c xs).items (course (begun m) ys)
  course_last ys zs all is early =
      let joined = course_joined ys (xs ++ ys) refl in
      ap (course c) is ∙ course-append c (xs ++ ys) zs
      ∙ course_ended (course c (xs ++ ys)) zs (λ goes. early (sym (ap (λ (d : Course). d.ending) joined) ∙ goes)) ∙ joined

-- what an answer says of the turn's ending
abbrev pub ending_told : Turned → Ends
ending_told Ran = AtEnd
ending_told Idle = AtEnd
ending_told (Panic kind) = ends.Panic kind

told_by : (ending : Ends) (is_idle : Bool) → ending ≡ ending_told (turned_by ending is_idle)
told_by AtEnd true = refl
told_by AtEnd false = refl
told_by (ends.Panic kind) is_idle = refl

pub turn_told : (t : Turn) → t.ending ≡ ending_told (turned t)
turn_told t = told_by t.ending t.is_idle

-- settling ends no run
pub settled_ending : (h : Happened) → (settled_after h).ending ≡ h.ending
settled_ending h = by (calls_for_settling h)
  where
    by : (b : Bool) → (cond b (settling h) (stays h)).ending ≡ h.ending
    by true = refl
    by false = refl

-- the lines after they have sent
abbrev sent_lines : Happened → AllTold
sent_lines h = each_line sends h.unix.lines

abbrev with_sent : Happened → Happened
with_sent h = record h { unix = record h.unix { lines = (sent_lines h).lines } }

-- What follows a slot leaves all that doesn't count slots and is no line.
pub after_keeps : (X : Type 0) (f : Unix → X) → ((u : Unix) → f (with_slot u) ≡ f u) → ((u : Unix) (lines : List Terminal) → f (record u { lines = lines }) ≡ f u)
    → (h : Happened) → f (after_slot h).unix ≡ f h.unix
after_keeps X f same others h = by (is_early h.ending)
  where
    followed_keeps : (wakes : Bool) (g : Happened) (es : List (Effect Unix)) → f (followed wakes g es).unix ≡ f g.unix
    followed_keeps wakes g [] = refl
    followed_keeps wakes g (e ∷ es) = refl

    sends_keeps : (g : Happened) → f (sends_after g).unix ≡ f g.unix
    sends_keeps g = either (is_sending g.unix.timing)
      where
        either : (b : Bool) → f (cond b (sends_lines g) g).unix ≡ f g.unix
        either true =
            followed_keeps (sent_lines g).wakes (with_sent g) (map Show (sent_lines g).items) ∙ others g.unix (sent_lines g).lines
        either false = refl

    by : (b : Bool) → f (cond b h (sends_after (wakes_disks (counted h)))).unix ≡ f h.unix
    by true = refl
    by false =
        sends_keeps (wakes_disks (counted h)) ∙ followed_keeps true (counted h) (map Show (disk_lines (with_slot h.unix))) ∙ same h.unix

-- it ends no run, and leaves who was there
pub after_ending : (h : Happened) → (after_slot h).ending ≡ h.ending
after_ending h = by (is_early h.ending)
  where
    followed_ends : (wakes : Bool) (g : Happened) (es : List (Effect Unix)) → (followed wakes g es).ending ≡ g.ending
    followed_ends wakes g [] = refl
    followed_ends wakes g (e ∷ es) = refl

    sends_ends : (g : Happened) → (sends_after g).ending ≡ g.ending
    sends_ends g = either (is_sending g.unix.timing)
      where
        either : (b : Bool) → (cond b (sends_lines g) g).ending ≡ g.ending
        either true = followed_ends (sent_lines g).wakes (with_sent g) (map Show (sent_lines g).items)
        either false = refl

    by : (b : Bool) → (cond b h (sends_after (wakes_disks (counted h)))).ending ≡ h.ending
    by true = refl
    by false = sends_ends (wakes_disks (counted h)) ∙ followed_ends true (counted h) (map Show (disk_lines (with_slot h.unix)))

-- and shows what was shown first
pub after_items_none : (test : Item → Bool) (h : Happened) → list_any test (after_slot h).log.items ≡ false
    → list_any test h.log.items ≡ false
after_items_none test h = by (is_early h.ending)
  where
    front : (xs ys : List Item) → list_any test (xs ++ ys) ≡ false → list_any test xs ≡ false
    front xs ys none = or_false (list_any test xs) (list_any test ys) (sym (list_any-append test xs ys) ∙ none)
      where
        or_false : (a b : Bool) → (a || b) ≡ false → a ≡ false
        or_false true b e = absurd (cc e)
        or_false false b e = refl

    followed_none : (wakes : Bool) (g : Happened) (es : List (Effect Unix)) → list_any test (followed wakes g es).log.items ≡ false
        → list_any test g.log.items ≡ false
    followed_none wakes g [] none = none
    followed_none wakes g (e ∷ es) none = front g.log.items (logged g.log.board (e ∷ es)).items none

    sends_none : (g : Happened) → list_any test (sends_after g).log.items ≡ false → list_any test g.log.items ≡ false
    sends_none g = either (is_sending g.unix.timing)
      where
        either : (b : Bool) → list_any test (cond b (sends_lines g) g).log.items ≡ false → list_any test g.log.items ≡ false
        either true none = followed_none (sent_lines g).wakes (with_sent g) (map Show (sent_lines g).items) none
        either false none = none

    by : (b : Bool) → list_any test (cond b h (sends_after (wakes_disks (counted h)))).log.items ≡ false → list_any test h.log.items ≡ false
    by true none = none
    by false none =
        followed_none true (counted h) (map Show (disk_lines (with_slot h.unix))) (sends_none (wakes_disks (counted h)) none)

-- and neither what follows a slot nor settling changes what is answered
pub whole_answer : (h : Happened) → turned (settled_after (after_slot h)) ≡ turned_by h.ending h.is_idle
whole_answer h = settled_told (after_slot h) ∙ by (is_early h.ending)
  where
    settled_told : (g : Happened) → turned (settled_after g) ≡ turned_by g.ending g.is_idle
    settled_told g = either (calls_for_settling g)
      where
        either : (b : Bool) → turned (cond b (settling g) (stays g)) ≡ turned_by g.ending g.is_idle
        either true = refl
        either false = refl

    told : Happened → Turned
    told g = turned_by g.ending g.is_idle

    followed_told : (wakes : Bool) (g : Happened) (es : List (Effect Unix)) → told (followed wakes g es) ≡ told g
    followed_told wakes g [] = refl
    followed_told wakes g (e ∷ es) = refl

    sends_told : (g : Happened) → told (sends_after g) ≡ told g
    sends_told g = either (is_sending g.unix.timing)
      where
        either : (b : Bool) → told (cond b (sends_lines g) g) ≡ told g
        either true = followed_told (sent_lines g).wakes (with_sent g) (map Show (sent_lines g).items)
        either false = refl

    by : (b : Bool) → told (cond b h (sends_after (wakes_disks (counted h)))) ≡ told h
    by true = refl
    by false = sends_told (wakes_disks (counted h)) ∙ followed_told true (counted h) (map Show (disk_lines (with_slot h.unix)))

-- Items that stand in front stay there, and how a log stopped is not seen.
abbrev pub with_front : List Item → Happened → Happened
with_front items h = record h { log = record h.log { items = items ++ h.log.items } }

pub after_front : (items : List Item) (h : Happened) → after_slot (with_front items h) ≡ with_front items (after_slot h)
after_front items h = by (is_early h.ending)
  where
    followed_front : (wakes : Bool) (g : Happened) (es : List (Effect Unix)) → followed wakes (with_front items g) es ≡ with_front items (followed wakes g es)
    followed_front wakes g [] = refl
    followed_front wakes g (e ∷ es) = λ i. record g {
      log = record (logged g.log.board (e ∷ es)) { items = append_assoc items g.log.items (logged g.log.board (e ∷ es)).items i };
      settles = wakes || g.settles;
    }

    sends_front : (g : Happened) → sends_after (with_front items g) ≡ with_front items (sends_after g)
    sends_front g = either (is_sending g.unix.timing)
      where
        either : (b : Bool) → cond b (sends_lines (with_front items g)) (with_front items g) ≡ with_front items (cond b (sends_lines g) g)
        either true = followed_front (sent_lines g).wakes (with_sent g) (map Show (sent_lines g).items)
        either false = refl

    by : (b : Bool) → cond b (with_front items h) (sends_after (wakes_disks (counted (with_front items h))))
        ≡ with_front items (cond b h (sends_after (wakes_disks (counted h))))
    by true = refl
    by false =
        ap sends_after (followed_front true (counted h) (map Show (disk_lines (with_slot h.unix)))) ∙ sends_front (wakes_disks (counted h))

pub settled_front : (items : List Item) (h : Happened)
    → settled_after (with_front items h) ≡ record (settled_after h) { items = items ++ (settled_after h).items }
settled_front items h = by (calls_for_settling h)
  where
    by : (b : Bool) → cond b (settling (with_front items h)) (stays (with_front items h))
        ≡ record (cond b (settling h) (stays h)) { items = items ++ (cond b (settling h) (stays h)).items }
    by true = λ i. record (settling h) { items = append_assoc items h.log.items (settled h.log.board).items i }
    by false = refl

abbrev pub with_stop : Option (Stop Unix) → Happened → Happened
with_stop o h = record h { log = record h.log { stop = o } }

settled_stop : (o : Option (Stop Unix)) (h : Happened) → settled_after (with_stop o h) ≡ settled_after h
settled_stop o h = by (calls_for_settling h)
  where
    by : (b : Bool) → cond b (settling (with_stop o h)) (stays (with_stop o h)) ≡ cond b (settling h) (stays h)
    by true = refl
    by false = refl

pub after_stop : (o : Option (Stop Unix)) (h : Happened) → settled_after (after_slot (with_stop o h)) ≡ settled_after (after_slot h)
after_stop o h = by (is_early h.ending)
  where
    followed_stop : (wakes : Bool) (g : Happened) (es : List (Effect Unix)) → settled_after (followed wakes (with_stop o g) es) ≡ settled_after (followed wakes g es)
    followed_stop wakes g [] = settled_stop o g
    followed_stop wakes g (e ∷ es) = refl

    sends_stop : (g : Happened) → settled_after (sends_after (with_stop o g)) ≡ settled_after (sends_after g)
    sends_stop g = either (is_sending g.unix.timing)
      where
        either : (b : Bool) → settled_after (cond b (sends_lines (with_stop o g)) (with_stop o g)) ≡ settled_after (cond b (sends_lines g) g)
        either true = followed_stop (sent_lines g).wakes (with_sent g) (map Show (sent_lines g).items)
        either false = settled_stop o g

    then_sends : (wakes : Bool) (g : Happened) (es : List (Effect Unix))
        → settled_after (sends_after (followed wakes (with_stop o g) es)) ≡ settled_after (sends_after (followed wakes g es))
    then_sends wakes g [] = sends_stop g
    then_sends wakes g (e ∷ es) = refl

    by : (b : Bool) → settled_after (cond b (with_stop o h) (sends_after (wakes_disks (counted (with_stop o h)))))
        ≡ settled_after (cond b h (sends_after (wakes_disks (counted h))))
    by true = settled_stop o h
    by false = then_sends true (counted h) (map Show (disk_lines (with_slot h.unix)))

-- A tick lets the run go on, or ends it in a panic, as its answer says.
pub tick_told : (m : System) (o : Ends) → (ticked_by (event_of Tick m).ending ≡ Ok tt → o ≡ AtEnd)
    → ((kind : PanicKind) → ticked_by (event_of Tick m).ending ≡ Err kind → o ≡ ends.Panic kind)
    → (event_of Tick m).ending ≡ o
tick_told m o goes stops = by (event_of Tick m).ending refl
  where
    by : (e : Ends) → (event_of Tick m).ending ≡ e → e ≡ o
    by AtEnd is = sym (goes (ap ticked_by is))
    by (ends.Panic kind) is = sym (stops kind (ap ticked_by is))
