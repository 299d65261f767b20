-- Reading a script line by line: the lines that are left give what the whole script gives.
use Rattle.std.proofs.Common.{◌≡◌, ◌≤◌, ◌<◌, ◌+◌, ℕ, true, false, List, ◌∷◌, ◌++◌, length, Some, Option, Result, Ok, Err, refl, sym, ◌∙◌, ap, arith, sum_by, append_assoc, ltb}
use Rattle.std.proofs.lemmas.Bool.Decides.{nat_tests}
use Rattle.script_text.specs.declared.script.Event.{Event}
use Rattle.script_text.specs.declared.script.ScriptFault.{ScriptFault}
use Rattle.script_text.specs.declared.script.ScriptFault.TheVariants.{TooManySlots}
use Rattle.script_text.specs.Lines.{lines_of}
use Rattle.script_text.specs.Command.{events_of_line}
use Rattle.std.proofs.lemmas.List.Sums.{sum_by-append}
use Rattle.script_text.proofs.RateLemmas.{rates_append, rates_line}
use Rattle.script_text.specs.Script.{slots_of, AreRates, before, then_lines, script_from, script_of}

before_more : (events more : List Event) (later : Result (List Event) ScriptFault)
    → before events (before more later) ≡ before (events ++ more) later
before_more events more (Ok later) = ap Ok (sym (append_assoc events more later))
before_more events more (Err fault) = refl

-- the lines of the script before this rest have been read
pub record HasRead (script rest : List ℕ) (line slots : ℕ) (events : List Event) : Type 0 where
  pub whole : script_of script ≡ before events (script_from (line + 1) slots (lines_of rest))
  pub few : slots ≤ 200000000
  pub asked : sum_by slots_of events ≡ slots
  pub rates : AreRates events
  pub within : line + length rest ≤ length script

-- the next line
module _ (script rest : List ℕ) (line slots : ℕ) (events : List Event) (read : HasRead script rest line slots events)
    (text more : List ℕ) (first : lines_of rest ≡ text ∷ lines_of more) where
  -- what the script gives, where this is found at the line
  abbrev after_found : Option (List Event) → Result (List Event) ScriptFault
  after_found found = before events (then_lines (line + 1) slots found (λ so_far. script_from (line + 1 + 1) so_far (lines_of more)))

  at_line : script_of script ≡ after_found (events_of_line text)
  at_line = read.whole ∙ ap (λ lines. before events (script_from (line + 1) slots lines)) first

  module _ (asked : List Event) (is : events_of_line text ≡ Some asked) where
    at_events : script_of script ≡ after_found (Some asked)
    at_events = at_line ∙ ap after_found is

    pub too_many_slots : 200000000 < slots + sum_by slots_of asked → script_of script ≡ Err (TooManySlots (line + 1))
    too_many_slots many =
        let above : ltb 200000000 (slots + sum_by slots_of asked) ≡ true = grind (arith, nat_tests) in
        at_events ∙ rw above refl

    pub read_more : slots + sum_by slots_of asked ≤ 200000000 → length more < length rest
        → HasRead script more (line + 1) (slots + sum_by slots_of asked) (events ++ asked)
    read_more few shorter =
        let below : ltb 200000000 (slots + sum_by slots_of asked) ≡ false = grind (arith, nat_tests) in
        record {
          whole = at_events ∙ rw below (before_more events asked _);
          few = few;
          asked = sum_by-append slots_of events asked ∙ ap (λ n. n + sum_by slots_of asked) read.asked;
          rates = rates_append events asked read.rates (rates_line text asked is);
          within = omega (arith, read.within);
        }
