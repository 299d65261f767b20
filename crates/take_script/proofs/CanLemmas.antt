-- What a kernel can take of a script: the slots that it has room for.
use Rattle.std.proofs.Common.{◌≡◌, ◌∙◌, ◌<◌, ◌≤◌, ◌+◌, ℕ, List, [], ◌∷◌, length, drop, get_or, sym, ap, subst, arith}
use Rattle.std.specs.List.{sum_by}
use Rattle.std.proofs.lemmas.List.{drop_more}
use Rattle.std.proofs.lemmas.List.Sums.{sum_by-cons}
use Rattle.script_text.specs.declared.script.Event.{Event}
use Rattle.script_text.specs.declared.script.Event.TheVariants as ask
use Rattle.script_text.specs.Script.{slots_of, AreRates}
use Rattle.abstract_unix.specs.Unix.{Timing, System}
use Rattle.abstract_unix.specs.Runs.{start_of}
use Rattle.abstract_unix.specs.declared.ends.Ends.TheVariants.{AtEnd}
use Rattle.abstract_unix.proofs.Uncounted.{start_timing}
use Rattle.take_script.specs.Courses.{CanTake}

-- a kernel that was started has taken no slot
pub start_can : (m next : System) (events : List Event) → (start_of m).ending ≡ AtEnd → next ≡ (start_of m).next → CanTake m events → CanTake next events
start_can m next events goes is can =
    let same = ap (λ (s : System). s.unix.timing.passed) is ∙ ap (λ (t : Timing). t.passed) (start_timing m goes) in
    record { fresh = let few = can.fresh in omega (arith, same, few); rates = can.rates }

-- One event, and those after it.
rates_one : (event : Event) (events : List Event) → AreRates (event ∷ events) → AreRates (event ∷ [])
rates_one (ask.Clock n) events all = tt
rates_one (ask.Run n) events all = tt
rates_one ask.Tick events all = tt
rates_one (ask.Byte b) events all = tt
rates_one (ask.Switch w) events all = tt
rates_one (ask.Disk n) events all = (all.0, tt)
rates_one (ask.Pace n) events all = (all.0, tt)
rates_one (ask.Line l) events all = (all.0, tt)
rates_one (ask.Hangup l) events all = (all.0, tt)

rates_rest : (event : Event) (events : List Event) → AreRates (event ∷ events) → AreRates events
rates_rest (ask.Clock n) events all = all
rates_rest (ask.Run n) events all = all
rates_rest ask.Tick events all = all
rates_rest (ask.Byte b) events all = all
rates_rest (ask.Switch w) events all = all
rates_rest (ask.Disk n) events all = all.1
rates_rest (ask.Pace n) events all = all.1
rates_rest (ask.Line l) events all = all.1
rates_rest (ask.Hangup l) events all = all.1

module _ (m : System) (all : List Event) (i : ℕ) (event d : Event) (inside : i < length all) (is : event ≡ get_or all i d) (can : CanTake m (drop i all)) where
  split : drop i all ≡ event ∷ drop (i + 1) all
  split = drop_more all i d inside ∙ ap (λ e. e ∷ drop (i + 1) all) (sym is)

  sums : sum_by slots_of (drop i all) ≡ slots_of event + sum_by slots_of (drop (i + 1) all)
  sums = ap (sum_by slots_of) split ∙ sum_by-cons slots_of event (drop (i + 1) all)

  rates : AreRates (event ∷ drop (i + 1) all)
  rates = subst AreRates split can.rates

  pub one_can : CanTake m (event ∷ [])
  one_can =
      let few = can.fresh in
      let one = sum_by-cons slots_of event [] in
      record { fresh = omega (arith, few, sums, one); rates = rates_one event (drop (i + 1) all) rates }

  pub rest_can : (next : System) → next.unix.timing.passed ≡ m.unix.timing.passed + slots_of event → CanTake next (drop (i + 1) all)
  rest_can next passed = let few = can.fresh in record { fresh = omega (arith, few, sums, passed); rates = rates_rest event (drop (i + 1) all) rates }
