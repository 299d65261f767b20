-- A run over a part of its events, then over the next ones.
use Rattle.std.proofs.Common.{◌≡◌, ◌<◌, ◌+◌, ◌-◌, ◌≢◌, ℕ, Bool, true, false, List, [], ◌∷◌, ◌++◌, append_assoc, refl, sym, ◌∙◌, ap, subst, replicate, arith}
use Rattle.std.proofs.lemmas.Grind.{replicate_next}
use Rattle.std.proofs.lemmas.List.{append-nil, replicate-append-replicate}
use Rattle.v6_base.specs.Trace.{Item, Taken, HoldsMore, Took}
use Rattle.v6_base.proofs.Took.{took_none, took_refused, took_then}
use Rattle.abstract_unix.specs.declared.ends.Ends.{Ends}
use Rattle.abstract_unix.specs.declared.ends.Ends.TheVariants.{AtEnd, Panic}
use Rattle.abstract_unix.specs.Unix.{System}
use Rattle.abstract_unix.specs.Endings.{last_line}
use Rattle.abstract_unix.specs.Runs.{Event, Slot, Course, begun, started, start_of, event_of, unless_ended, after_event, course, shown_by}
use Rattle.abstract_unix.proofs.RunsLemmas.{course-append, course_joined, course_last}
use Rattle.take_script.specs.Courses.{HasRun, HasRunUncut}

pub run_none : (m : System) (t : Taken) → HasRun (begun m) [] AtEnd m t t
run_none m t = record { ends = refl; system_is = refl; items = took_none t }

-- a run over one event
pub run_event : (m next : System) (event : Event) (ending : Ends) (old new : Taken) → next ≡ (event_of event m).next
    → Took old (event_of event m).items new → (event_of event m).ending ≡ ending → HasRun (begun m) (event ∷ []) ending next old new
run_event m next event ending old new goes took ends = record { ends = sym ends; system_is = goes; items = took }

-- a run that has started
pub run_started : (m next : System) (old new : Taken) → (start_of m).ending ≡ AtEnd → next ≡ (start_of m).next → Took old (start_of m).items new → HasRun (started m) [] AtEnd next old new
run_started m next old new on goes took = record { ends = sym on; system_is = goes; items = took }

-- a run goes on with the next events
pub run_more : (c : Course) (m next : System) (ending : Ends) (a b d : Taken) (xs ys all : List Event) → HasRun c xs AtEnd m a b
    → HasRun (begun m) ys ending next b d → all ≡ xs ++ ys → HasRun c all ending next a d
run_more c m next ending a b d xs ys all first second is =
    let joined = course_joined c m xs (sym first.ends) first.system_is ys all is in record {
      ends = second.ends ∙ sym (ap (λ (e : Course). e.ending) joined);
      system_is = second.system_is ∙ sym (ap (λ (e : Course). e.system) joined);
      items = took_then _ _ _ _ _ _ first.items second.items (sym (ap (λ (e : Course). e.items) joined));
    }

-- and stays as it is after those that end it
pub run_last : (c : Course) (m next : System) (ending : Ends) (a b d : Taken) (xs ys zs all : List Event) → HasRun c xs AtEnd m a b → ending ≢ AtEnd
    → HasRun (begun m) ys ending next b d → all ≡ (xs ++ ys) ++ zs → HasRun c all ending next a d
run_last c m next ending a b d xs ys zs all first early second is =
    let last = course_last c m xs (sym first.ends) first.system_is ys zs all is (λ goes. early (second.ends ∙ goes)) in record {
      ends = second.ends ∙ sym (ap (λ (e : Course). e.ending) last);
      system_is = second.system_is ∙ sym (ap (λ (e : Course). e.system) last);
      items = took_then _ _ _ _ _ _ first.items second.items (sym (ap (λ (e : Course). e.items) last));
    }

pub one_more : (n : ℕ) → replicate (n + 1) Slot ≡ replicate n Slot ++ Slot ∷ []
one_more n = replicate_next n Slot

pub some_more : (n i : ℕ) → i < n → replicate n Slot ≡ (replicate i Slot ++ Slot ∷ []) ++ replicate (n - (i + 1)) Slot
some_more n i inside =
    let count : n ≡ (i + 1) + (n - (i + 1)) = omega arith in
    ap (λ m. replicate m Slot) count ∙ sym (replicate-append-replicate (i + 1) (n - (i + 1)) Slot) ∙ ap (λ l. l ++ replicate (n - (i + 1)) Slot) (one_more i)

-- a run over as many events, given as another list
pub run_as : (c : Course) (next : System) (ending : Ends) (a b : Taken) (xs ys : List Event) → xs ≡ ys → HasRun c xs ending next a b → HasRun c ys ending next a b
run_as c next ending a b xs ys is run = subst (λ l. HasRun c l ending next a b) is run

pub ends_as : (c : Course) (next : System) (e f : Ends) (a b : Taken) (xs : List Event) → e ≡ f → HasRun c xs e next a b → HasRun c xs f next a b
ends_as c next e f a b xs is run = subst (λ o. HasRun c xs o next a b) is run

-- What has been shown stays, and more comes.
pub record Shows (before after : List Item) : Type 0 where
  pub more : List Item
  pub is : after ≡ before ++ more

event_shows : (e : Ends) (c : Course) (event : Event) → Shows c.items (unless_ended e c event).items
event_shows AtEnd c event = record { more = (event_of event c.system).items; is = refl }
event_shows (Panic kind) c event = record { more = []; is = sym (append-nil c.items) }

course_shows : (c : Course) (xs : List Event) → Shows c.items (course c xs).items
course_shows c [] = record { more = []; is = sym (append-nil c.items) }
course_shows c (event ∷ xs) =
    let first = event_shows c.ending c event in
    let later = course_shows (after_event c event) xs in record {
      more = first.more ++ later.more;
      is = later.is ∙ ap (λ l. l ++ later.more) first.is ∙ append_assoc c.items first.more later.more;
    }

-- A run of which nothing was left out, and one that was stopped, since its trace is cut.
pub run_whole : (c : Course) (m : System) (ending : Ends) (a b : Taken) (xs : List Event) → HasRun c xs ending m a b → HasRunUncut c xs ending m a b
run_whole c m ending a b xs run = record { items = run.items; uncut = λ goes. run }

pub run_cut : (c : Course) (m : System) (ending : Ends) (a b : Taken) (xs ys all : List Event) → Took a (course c xs).items b → b.cut ≡ true → all ≡ xs ++ ys
    → HasRunUncut c all ending m a b
run_cut c m ending a b xs ys all took is_cut is =
    let later = course_shows (course c xs) ys in
    let items = ap (λ (d : Course). d.items) (ap (course c) is ∙ course-append c xs ys) ∙ later.is in record {
      items = took_then a b b (course c xs).items later.more _ took (took_refused b later.more is_cut) (sym items);
      uncut = λ goes. absurd (let never : true ≡ false = sym is_cut ∙ goes in cc);
    }

pub uncut_as : (c : Course) (m : System) (e f : Ends) (a b : Taken) (xs ys : List Event) → e ≡ f → xs ≡ ys → HasRunUncut c xs e m a b → HasRunUncut c ys f m a b
uncut_as c m e f a b xs ys ending is run = subst (λ l. HasRunUncut c l f m a b) is (subst (λ o. HasRunUncut c xs o m a b) ending run)

-- A trace that isn't cut was cut at no time before.
pub uncut_before : (b d : Taken) (items : List Item) → Took b items d → d.cut ≡ false → b.cut ≡ false
uncut_before b d items took goes = by b.cut refl
  where
    by : (was : Bool) → b.cut ≡ was → was ≡ false
    by false is = refl
    by true is = let never : d.cut ≡ true = (took.refused is).0 in cc

-- A run that goes on after one that was not stopped.
pub uncut_more : (c : Course) (m next : System) (ending : Ends) (a b d : Taken) (xs ys all : List Event) → HasRun c xs AtEnd m a b
    → HasRunUncut (begun m) ys ending next b d → all ≡ xs ++ ys → HasRunUncut c all ending next a d
uncut_more c m next ending a b d xs ys all first second is =
    let joined = course_joined c m xs (sym first.ends) first.system_is ys all is in record {
      items = took_then _ _ _ _ _ _ first.items second.items (sym (ap (λ (e : Course). e.items) joined));
      uncut = λ goes. run_more c m next ending a b d xs ys all first (second.uncut goes) is;
    }

-- What a run has shown, and then the last line of its log. A trace that was cut takes nothing of that.
took_any : (b d : Taken) (xs ys : List Item) → b.cut ≡ true → Took b xs d → Took b ys d
took_any b d xs ys was took = record {
  part = [];
  rest = ys;
  split = refl;
  holds = subst (λ l. HoldsMore b l d) (took.refused was).1 took.holds;
  whole = λ goes. absurd (let never : true ≡ false = sym (took.refused was).0 ∙ goes in cc);
  refused = λ is. ((took.refused was).0, refl);
}

pub shown_ended : (c : Course) (m : System) (ending : Ends) (a b d : Taken) (xs : List Event)
    → HasRunUncut c xs ending m a b → Took b (last_line ending) d → Took a (shown_by (course c xs)) d
shown_ended c m ending a b d xs run last = by b.cut refl
  where
    shown : List Item
    shown = (course c xs).items

    by : (was : Bool) → b.cut ≡ was → Took a (shown_by (course c xs)) d
    by false goes = took_then a b d shown (last_line ending) _ run.items last (ap (λ e. shown ++ last_line e) (run.uncut goes).ends)
    by true was = took_then a b d shown (last_line (course c xs).ending) _ run.items (took_any b d _ _ was last) refl
