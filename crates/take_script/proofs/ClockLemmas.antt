-- The slots of a script, by the numbers that they have since the clock was set.
use Rattle.std.proofs.Common.{◌≡◌, ◌≢◌, ◌<◌, ◌≤◌, ◌+◌, ◌-◌, ◌%◌, ◌==◌, ◌&&◌, ℕ, zero, suc, Bool, true, false, not, List, [], ◌∷◌, ◌++◌, refl, sym, ◌∙◌, ap, subst, flat_map, append_assoc, length, drop, get_or, replicate, eqb-true, arith}
use Rattle.std.specs.List.{range_with_len}
use Rattle.std.proofs.Math.Nat.{mod-add-mod, mod-eq_of_lt, mod-lt}
use Rattle.std.proofs.lemmas.List.{append-nil, drop_more}
use Rattle.v6_base.specs.Trace.{Taken, Took}
use Rattle.v6_base.proofs.Took.{took_then}
use Rattle.script_text.specs.declared.script.Event as asked
use Rattle.script_text.specs.declared.script.Event.TheVariants as ask
use Rattle.abstract_unix.specs.declared.ends.Ends.{Ends}
use Rattle.abstract_unix.specs.declared.ends.Ends.TheVariants.{AtEnd}
use Rattle.abstract_unix.specs.Unix.{System}
use Rattle.abstract_unix.specs.Runs.{Event, Slot, Byte, Course, begun, course}
use Rattle.abstract_unix.proofs.RunsLemmas.{course_joined}
use Rattle.take_script.specs.Events.{Clock, is_ticked, slot_with, slot_numbered, happens, clock_after, events_from, events_of}
use Rattle.take_script.specs.Clocks.{TicksAlike}
use Rattle.take_script.specs.Courses.{HasRun, HasRunUncut}
use Rattle.take_script.proofs.ListLemmas.{flat_split}
use Rattle.take_script.proofs.SlotLemmas.{run_more, run_last, run_whole, run_cut}

next_alike : (every m n j : ℕ) → m % every ≡ n % every → (m + j) % every ≡ (n + j) % every
next_alike every m n j is = sym (mod-add-mod m every j) ∙ ap (λ r. (r + j) % every) is ∙ mod-add-mod n every j

-- the same ticks come after slots whose numbers leave the same rest
ticked_alike : (every m n : ℕ) → (every ≢ 0 → m % every ≡ n % every) → is_ticked every m ≡ is_ticked every n
ticked_alike zero m n alike = refl
ticked_alike (suc e) m n alike = ap (λ r. not (suc e == 0) && (r == 0)) (alike (λ is. cc))

slots_alike : (every a b k : ℕ) → (every ≢ 0 → a % every ≡ b % every)
    → flat_map (slot_numbered every) (range_with_len a k) ≡ flat_map (slot_numbered every) (range_with_len b k)
slots_alike every a b zero alike = refl
slots_alike every a b (suc k) alike =
    ap (λ t. slot_with t ++ flat_map (slot_numbered every) (range_with_len (a + 1) k)) (ticked_alike every a b alike)
    ∙ ap (λ l. slot_numbered every b ++ l) (slots_alike every (a + 1) (b + 1) k (λ some. next_alike every a b 1 (alike some)))

module _ (c d : Clock) (alike : TicksAlike c d) where
  slots_alike_at : d.every ≢ 0 → c.slots % d.every ≡ d.slots % d.every
  slots_alike_at = subst (λ k. k ≢ 0 → c.slots % k ≡ d.slots % k) alike.every alike.slots

  happens_alike : (event : asked.Event) → happens c event ≡ happens d event
  happens_alike (ask.Clock every) = refl
  happens_alike (ask.Run n) =
      ap (λ k. flat_map (slot_numbered k) (range_with_len (c.slots + 1) n)) alike.every
      ∙ slots_alike d.every (c.slots + 1) (d.slots + 1) n (λ some. next_alike d.every c.slots d.slots 1 (slots_alike_at some))
  happens_alike ask.Tick = refl
  happens_alike (ask.Byte byte) = ap (λ l. Byte l byte ∷ []) alike.line
  happens_alike (ask.Switch word) = refl
  happens_alike (ask.Disk count) = refl
  happens_alike (ask.Pace count) = refl
  happens_alike (ask.Line l) = refl
  happens_alike (ask.Hangup l) = refl

  after_alike : (event : asked.Event) → TicksAlike (clock_after c event) (clock_after d event)
  after_alike (ask.Clock every) = record { every = refl; line = alike.line; slots = λ _. refl }
  after_alike (ask.Run n) = record { every = alike.every; line = alike.line; slots = λ some. next_alike c.every c.slots d.slots n (alike.slots some) }
  after_alike ask.Tick = alike
  after_alike (ask.Byte byte) = alike
  after_alike (ask.Switch word) = alike
  after_alike (ask.Disk count) = alike
  after_alike (ask.Pace count) = alike
  after_alike (ask.Line l) = record { every = alike.every; line = refl; slots = alike.slots }
  after_alike (ask.Hangup l) = alike

events_alike : (c d : Clock) (events : List asked.Event) → TicksAlike c d → events_from c events ≡ events_from d events
events_alike c d [] alike = refl
events_alike c d (event ∷ events) alike =
    ap (λ l. l ++ events_from (clock_after c event) events) (happens_alike c d alike event)
    ∙ ap (λ l. happens d event ++ l) (events_alike (clock_after c event) (clock_after d event) events (after_alike c d alike event))

alike_then : (c d e : Clock) → TicksAlike c d → TicksAlike d e → TicksAlike c e
alike_then c d e first second = record {
  every = first.every ∙ second.every;
  line = first.line ∙ second.line;
  slots = λ some. first.slots some ∙ subst (λ k. k ≢ 0 → d.slots % k ≡ e.slots % k) (sym first.every) second.slots some;
}

alike_same : (c : Clock) → TicksAlike c c
alike_same c = record { every = refl; line = refl; slots = λ some. refl }

-- The slots of a line `run` are those of two, one after the other.
pieces_are : (c : Clock) (a b : ℕ) → happens c (ask.Run (a + b)) ≡ happens c (ask.Run a) ++ happens (clock_after c (ask.Run a)) (ask.Run b)
pieces_are c a b =
    let f : ℕ → List Event = slot_numbered c.every in
    let start : c.slots + 1 + a ≡ c.slots + a + 1 = omega arith in
    flat_split f (c.slots + 1) a b ∙ ap (λ k. flat_map f (range_with_len (c.slots + 1) a) ++ flat_map f (range_with_len k b)) start

-- none of them has been taken
pub no_piece : (c : Clock) (count : ℕ) → [] ≡ happens c (ask.Run (count - count))
no_piece c count = let none : 0 ≡ count - count = omega arith in ap (λ n. happens c (ask.Run n)) none

pub none_after : (c : Clock) (count : ℕ) → TicksAlike (clock_after c (ask.Run (count - count))) c
none_after c count = record {
  every = refl;
  line = refl;
  slots = λ some. let same : c.slots + (count - count) ≡ c.slots = omega arith in ap (λ n. n % c.every) same;
}

-- some of them have been, then come these, and then those that are left
module _ (c now : Clock) (count left slots : ℕ) (some : left ≤ count) (few : slots ≤ left) (alike : TicksAlike (clock_after c (ask.Run (count - left))) now) where
  more_taken : (count - left) + slots ≡ count - (left - slots)
  more_taken = omega (arith, some, few)

  pub piece_is : happens c (ask.Run (count - (left - slots))) ≡ happens c (ask.Run (count - left)) ++ happens now (ask.Run slots)
  piece_is =
      ap (λ n. happens c (ask.Run n)) (sym more_taken) ∙ pieces_are c (count - left) slots
      ∙ ap (λ l. happens c (ask.Run (count - left)) ++ l) (happens_alike (clock_after c (ask.Run (count - left))) now alike (ask.Run slots))

  pub piece_after : (next : Clock) → TicksAlike (clock_after now (ask.Run slots)) next → TicksAlike (clock_after c (ask.Run (count - (left - slots)))) next
  piece_after next goes =
      let all : c.slots + (count - left) + slots ≡ c.slots + (count - (left - slots)) = omega (arith, more_taken) in
      subst (λ n. TicksAlike (record c { slots = n }) next) all
      (alike_then _ _ _ (after_alike (clock_after c (ask.Run (count - left))) now alike (ask.Run slots)) goes)

  pub pieces_left : happens c (ask.Run count)
      ≡ (happens c (ask.Run (count - left)) ++ happens now (ask.Run slots)) ++ happens (clock_after c (ask.Run (count - (left - slots)))) (ask.Run (left - slots))
  pieces_left =
      let all : count ≡ (count - (left - slots)) + (left - slots) = omega (arith, some) in
      ap (λ n. happens c (ask.Run n)) all ∙ pieces_are c (count - (left - slots)) (left - slots)
      ∙ ap (λ l. l ++ happens (clock_after c (ask.Run (count - (left - slots)))) (ask.Run (left - slots))) piece_is

pub all_pieces : (c : Clock) (count left : ℕ) → left ≡ 0 → happens c (ask.Run (count - left)) ≡ happens c (ask.Run count)
all_pieces c count left none = let all : count - left ≡ count = omega (arith, none) in ap (λ n. happens c (ask.Run n)) all

pub after_pieces : (c now : Clock) (count left : ℕ) → left ≡ 0 → TicksAlike (clock_after c (ask.Run (count - left))) now → TicksAlike (clock_after c (ask.Run count)) now
after_pieces c now count left none alike =
    let all : count - left ≡ count = omega (arith, none) in subst (λ n. TicksAlike (clock_after c (ask.Run n)) now) all alike

-- slots without a clock
pub unclocked : (from n : ℕ) → flat_map (slot_numbered 0) (range_with_len from n) ≡ replicate n Slot
unclocked from zero = refl
unclocked from (suc n) = ap (λ l. Slot ∷ l) (unclocked (from + 1) n)

pub unclocked_at : (every from n : ℕ) → every ≡ 0 → replicate n Slot ≡ flat_map (slot_numbered every) (range_with_len from n)
unclocked_at every from n is = sym (unclocked from n) ∙ ap (λ k. flat_map (slot_numbered k) (range_with_len from n)) (sym is)

-- a slot more, and the slots after it
pub numbered_more : (every from i : ℕ) → flat_map (slot_numbered every) (range_with_len from (i + 1))
    ≡ flat_map (slot_numbered every) (range_with_len from i) ++ slot_numbered every (from + i)
numbered_more every from i =
    flat_split (slot_numbered every) from i 1 ∙ ap (λ l. flat_map (slot_numbered every) (range_with_len from i) ++ l) (append-nil (slot_numbered every (from + i)))

pub numbered_part : (every from count i : ℕ) → i < count → flat_map (slot_numbered every) (range_with_len from count)
    ≡ (flat_map (slot_numbered every) (range_with_len from i) ++ slot_numbered every (from + i)) ++ flat_map (slot_numbered every) (range_with_len (from + (i + 1)) (count - (i + 1)))
numbered_part every from count i inside =
    let all : count ≡ (i + 1) + (count - (i + 1)) = omega (arith, inside) in
    ap (λ n. flat_map (slot_numbered every) (range_with_len from n)) all ∙ flat_split (slot_numbered every) from (i + 1) (count - (i + 1))
    ∙ ap (λ l. l ++ flat_map (slot_numbered every) (range_with_len (from + (i + 1)) (count - (i + 1)))) (numbered_more every from i)

-- how many slots have been taken since the last tick, where some had been taken before the first of these
pub since_first : (every since : ℕ) → since < every → since ≡ (since + 0) % every
since_first every since less = let same : since + 0 ≡ since = omega arith in sym (mod-eq_of_lt less) ∙ ap (λ n. n % every) (sym same)

pub since_more : (every since i gone next : ℕ) → gone ≡ (since + i) % every → next ≡ (gone + 1) % every → next ≡ (since + (i + 1)) % every
since_more every since i gone next was is =
    let same : since + i + 1 ≡ since + (i + 1) = omega arith in
    is ∙ ap (λ n. (n + 1) % every) was ∙ mod-add-mod (since + i) every 1 ∙ ap (λ n. n % every) same

pub since_below : (every since i gone : ℕ) → since < every → gone ≡ (since + i) % every → gone < every
since_below every since i gone less is = subst (λ n. n < every) (sym is) (mod-lt (since + i) (omega (arith, less)))

some_clock : (every : ℕ) (none : Bool) → (every == 0) ≡ none → 0 < every → none ≡ false
some_clock every false is more = refl
some_clock every true is more = let zero_is : every ≡ 0 = eqb-true every 0 is in absurd (omega (arith, more, zero_is))

pub ticks_is : (every since i next : ℕ) → since < every → next ≡ (since + (i + 1)) % every → slot_with (next == 0) ≡ slot_numbered every (since + 1 + i)
ticks_is every since i next less is =
    let same : since + (i + 1) ≡ since + 1 + i = omega arith in
    let some : (every == 0) ≡ false = some_clock every (every == 0) refl (omega (arith, less)) in
    ap (λ n. slot_with (n == 0)) (is ∙ ap (λ n. n % every) same) ∙ ap (λ none. slot_with (not none && ((since + 1 + i) % every == 0))) (sym some)

-- The events of a script up to one have happened, and this is its clock then.
pub record HasTaken (all : List asked.Event) (i : ℕ) (clock : Clock) (from : Course) (system : System) (old new : Taken) : Type 0 where
  pub happened : List Event
  pub run : HasRun from happened AtEnd system old new
  pub all_is : events_of all ≡ happened ++ events_from clock (drop i all)

module _ (all : List asked.Event) (i : ℕ) (clock : Clock) (from : Course) (m next : System) (a b c : Taken) (taken : HasTaken all i clock from m a b)
    (event d : asked.Event) (inside : i < length all) (event_is : event ≡ get_or all i d) where
  abbrev after_these : List Event
  after_these = events_from (clock_after clock event) (drop (i + 1) all)

  split_is : events_of all ≡ (taken.happened ++ happens clock event) ++ after_these
  split_is =
      taken.all_is
      ∙ ap (λ l. taken.happened ++ events_from clock l) (drop_more all i d inside ∙ ap (λ e. e ∷ drop (i + 1) all) (sym event_is))
      ∙ sym (append_assoc taken.happened (happens clock event) after_these)

  pub taken_more : (after : Clock) → TicksAlike (clock_after clock event) after → HasRun (begun m) (happens clock event) AtEnd next b c → HasTaken all (i + 1) after from next a c
  taken_more after ticks run = record {
    happened = taken.happened ++ happens clock event;
    run = run_more from m next AtEnd a b c taken.happened (happens clock event) _ taken.run run refl;
    all_is = split_is ∙ ap (λ l. (taken.happened ++ happens clock event) ++ l) (events_alike (clock_after clock event) after (drop (i + 1) all) ticks);
  }

  -- what follows the event in which the trace is cut isn't taken
  pub taken_cut : (ending : Ends) → c.cut ≡ true → Took b (course (begun m) (happens clock event)).items c → HasRunUncut from (events_of all) ending next a c
  taken_cut ending is_cut took =
      let joined = course_joined from m taken.happened (sym taken.run.ends) taken.run.system_is (happens clock event) _ refl in
      run_cut from next ending a c (taken.happened ++ happens clock event) after_these (events_of all)
      (took_then _ _ _ _ _ _ taken.run.items took (sym (ap (λ (e : Course). e.items) joined))) is_cut split_is

  -- and what follows the one that ends the run doesn't happen
  pub taken_last : (ending : Ends) → ending ≢ AtEnd → HasRunUncut (begun m) (happens clock event) ending next b c → HasRunUncut from (events_of all) ending next a c
  taken_last ending early run = by c.cut refl
    where
      by : (is : Bool) → c.cut ≡ is → HasRunUncut from (events_of all) ending next a c
      by true is_cut = taken_cut ending is_cut run.items
      by false goes = run_whole _ _ _ _ _ _
          (run_last from m next ending a b c taken.happened (happens clock event) after_these _ taken.run early (run.uncut goes) split_is)
