-- The log of a turn of a process: its steps, and the line with which it ends.
use Rattle.std.proofs.Common.{true, ◌≡◌, ◌∙◌, ℕ, false, if◌then◌else◌, List, [], ◌∷◌, ◌++◌, fold, Option, Some, None, refl, sym, ap, subst}
use Rattle.std.proofs.lemmas.List.{append-nil}
use Rattle.std.proofs.lemmas.List.Sums.{fold-append}
use Rattle.v6_base.specs.Trace.{Item, Log, Took, Taken}
use Rattle.v6_base.proofs.Took.{took_then}
use Rattle.v6_base.specs.declared.entry.Entry.{Entry}
use Rattle.v6_base.specs.declared.entry.Entry.TheVariants as line
use Rattle.pick_rules.specs.Board.{Board}
use Rattle.pick_rules.specs.Apply.{applied}
use Rattle.pick_rules.specs.Effects.{Effect, Show, came}
use Rattle.pick_rules.specs.Logged.{Logged, Stop, logged, log_one, with_what_came, with_item, unless_stopped, left_by}
use Rattle.pdp_step.specs.declared.outcome.Outcome.{Outcome}
use Rattle.abstract_unix.specs.declared.ending.Ending.{Ending}
use Rattle.abstract_unix.specs.declared.ending.Ending.TheVariants as ending
use Rattle.unix_core.specs.declared.machine.Stage.{Stage}
use Rattle.abstract_unix.specs.declared.ends.Ends.{Ends}
use Rattle.unix_core.specs.declared.world.World.{World}
use Rattle.abstract_unix.specs.Unix.{Unix, System}
use Rattle.abstract_unix.specs.Endings.{phase_after}
use Rattle.abstract_unix.specs.Steps.{Steps}
use Rattle.abstract_unix.specs.Calls.{resumed}
use Rattle.abstract_unix.proofs.RunsLemmas.{with_front, after_front, settled_front, after_stop}
use Rattle.abstract_unix.specs.Turn.{after_slot, Happened, Turn, comes_to, instruction, begins_turn, end_effects, settled_after, ending_of, ending_by, turn_of}
use Rattle.unix_core.specs.Parts.{unix_of, board_in, turn_end, ended_as, HasCome, HasStepped, Takes}
use Rattle.unix_core.proofs.BoardLemmas.{logged_line}

-- after a panic nothing is logged
stopped_one : (l : Logged Unix) (stop : Stop Unix) (e : Effect Unix) → l.stop ≡ Some stop → log_one l e ≡ l
unfolding log_one
stopped_one l stop e is = ap (λ o. unless_stopped o l (with_what_came l (came l.board e))) is

stopped_all : (es : List (Effect Unix)) (l : Logged Unix) (stop : Stop Unix) → l.stop ≡ Some stop → fold log_one l es ≡ l
stopped_all [] l stop is = refl
stopped_all (e ∷ es) l stop is = ap (λ x. fold log_one x es) (stopped_one l stop e is) ∙ stopped_all es l stop is

line_more : (l : Logged Unix) (e : Entry) → l.stop ≡ None → log_one l (Show (Log e)) ≡ record { items = l.items ++ Log e ∷ []; board = applied l.board e; stop = l.stop }
unfolding log_one came
line_more l e is = ap (λ o. unless_stopped o l (with_item l (Log e))) is

-- a log, and what the end of the turn adds to it
abbrev pub ended_log : Logged Unix → ℕ → Ending → Logged Unix
ended_log l s e = record {
  items = l.items ++ (logged {W = Unix} l.board (end_effects s e)).items;
  board = (logged {W = Unix} l.board (end_effects s e)).board;
  stop = l.stop;
}

nothing_more : (l : Logged Unix) → l ≡ record l { items = l.items ++ [] }
nothing_more l = ap (λ i. record l { items = i }) (sym (append-nil l.items))

one_more_line : (l : Logged Unix) (e : Entry) → l.stop ≡ None → log_one l (Show (Log e))
    ≡ record l { items = l.items ++ (logged {W = Unix} l.board (Show (Log e) ∷ [])).items; board = (logged {W = Unix} l.board (Show (Log e) ∷ [])).board }
one_more_line l e is = line_more l e is ∙ ap (λ (x : Logged Unix). record l { items = l.items ++ x.items; board = x.board }) (sym (logged_line l.board e))

end_log : (l : Logged Unix) (s : ℕ) (e : Ending) → l.stop ≡ None → fold log_one l (end_effects s e) ≡ ended_log l s e
end_log l s ending.Next is = nothing_more l
end_log l s ending.Trapped is = one_more_line l (line.Trap s) is
end_log l s (ending.Slept pri chan) is = one_more_line l (line.Sleep s pri chan) is
end_log l s ending.Ended is = nothing_more l
end_log l s (ending.Panic kind) is = nothing_more l

-- The log of both.
pub turn_log : (b : Board) (es : List (Effect Unix)) (s : ℕ) (own e : Ending) → e ≡ ended_as (logged b es).stop own
    → logged b (es ++ end_effects s own) ≡ ended_log (logged b es) s e
turn_log b es s own e is =
    fold-append log_one (record { items = []; board = b; stop = None }) es (end_effects s own) ∙ by (logged b es).stop refl
  where
    l : Logged Unix
    l = logged b es

    by : (o : Option (Stop Unix)) → l.stop ≡ o → fold log_one l (end_effects s own) ≡ ended_log l s e
    by None none = end_log l s own none ∙ ap (ended_log l s) (sym (is ∙ ap (λ o. ended_as o own) none))
    by (Some stop) some =
        stopped_all (end_effects s own) l stop some ∙ nothing_more l
        ∙ ap (ended_log l s) (sym (is ∙ ap (λ o. ended_as o own) some))

-- how a turn ends, stopped or not
ending_same : (o : Option (Stop Unix)) (own : Ending) → ending_of (ended_as o own) ≡ ending_by o own
ending_same None own = refl
ending_same (Some stop) own = refl

-- what was shown before stands in front of what a turn comes to
abbrev pub shown_before : List Item → Turn → Turn
shown_before items t = record t { items = items ++ t.items }

-- A turn has come to this, and has ended.
module _ (m : System) (s : ℕ) (steps : Steps) (e : Ending) (w : World) (come : HasCome m.board steps e w) where
  abbrev taken : Logged Unix
  taken = logged m.board steps.effects

  abbrev whole : Logged Unix
  whole = logged m.board (steps.effects ++ end_effects s steps.ending)

  whole_is : whole ≡ ended_log taken s e
  whole_is = turn_log m.board steps.effects s steps.ending e come.ending

  -- what has happened then, by what the turn has left
  abbrev left : Happened
  left = record { unix = unix_of w; log = ended_log taken s e; is_idle = false; settles = true; ending = ending_of e }

  left_is : turn_of m s steps ≡ left
  left_is =
      ap (λ (l : Logged Unix). record { unix = left_by l.stop steps.unix; log = l; is_idle = false; settles = true; ending = ending_by l.stop steps.ending }) whole_is
      ∙ (λ i. record {
        unix = sym come.unix i;
        log = ended_log taken s e;
        is_idle = false;
        settles = true;
        ending = (sym (ending_same taken.stop steps.ending) ∙ ap ending_of (sym come.ending)) i;
      })

  -- the end of the turn, by the board that the turn has left
  abbrev last : Board → Logged Unix
  last b = logged b (end_effects s e)

  abbrev with_last : Ends → Board → Happened
  with_last o b = record {
    unix = unix_of w;
    log = record { items = taken.items ++ (last b).items; board = (last b).board; stop = taken.stop };
    is_idle = false;
    settles = true;
    ending = o;
  }

  -- what the end comes to by itself
  abbrev own : Ends → Happened
  own o = record { unix = unix_of w; log = last (board_in w); is_idle = false; settles = true; ending = o }

  ended_is : (o : Ends) → settled_after (after_slot (with_last o taken.board)) ≡ shown_before taken.items (settled_after (after_slot (own o)))
  ended_is o =
      ap (λ b. settled_after (after_slot (with_last o b))) (sym come.board)
      ∙ after_stop taken.stop (with_front taken.items (own o))
      ∙ ap settled_after (after_front taken.items (own o))
      ∙ settled_front taken.items (after_slot (own o))

  pub turn_is : settled_after (after_slot (turn_of m s steps)) ≡ shown_before taken.items (turn_end w s e)
  turn_is = ap (λ h. settled_after (after_slot h)) left_is ∙ ended_is (ending_of e)

  pub turn_takes : (at : Stage) (now : World) → Takes (turn_end w s e) at now → Takes (settled_after (after_slot (turn_of m s steps))) at now
  turn_takes at now takes = record {
    kernel = takes.kernel;
    system = takes.system ∙ ap (λ (t : Turn). t.next) (sym turn_is);
    phase = takes.phase ∙ ap (λ (t : Turn). phase_after t.ending) (sym turn_is);
  }

  pub turn_items : (a b c : Taken) → Took a taken.items b → Took b (turn_end w s e).items c → Took a (settled_after (after_slot (turn_of m s steps))).items c
  turn_items a b c one two =
      took_then a b c taken.items (turn_end w s e).items (settled_after (after_slot (turn_of m s steps))).items one two (ap (λ (t : Turn). t.items) (sym turn_is))

-- The process that executes instructions has stepped.
module _ (m : System) (s : ℕ) (o : Outcome) (w : World) (stepped : HasStepped m w s o) where
  steps_are : comes_to (unix_of w) s o ≡ begins_turn m s
  steps_are =
      (λ i. comes_to (stepped.unix i) s (stepped.outcome i))
      ∙ sym (ap (λ b. if b then instruction m.unix s else resumed m.unix s) stepped.user)

  pub stepped_come : (e : Ending) (then_ : World) → HasCome (board_in w) (comes_to (unix_of w) s o) e then_ → HasCome m.board (begins_turn m s) e then_
  stepped_come e then_ come = subst (λ st. HasCome m.board st e then_) steps_are (subst (λ b. HasCome b (comes_to (unix_of w) s o) e then_) stepped.board come)

  pub stepped_items : (a b : Taken) → Took a (logged (board_in w) (comes_to (unix_of w) s o).effects).items b → Took a (logged m.board (begins_turn m s).effects).items b
  stepped_items a b took =
      subst (λ (st : Steps). Took a (logged m.board st.effects).items b) steps_are
      (subst (λ x. Took a (logged x (comes_to (unix_of w) s o).effects).items b) stepped.board took)
