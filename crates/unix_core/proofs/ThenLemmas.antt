-- Some effects, and then the rest of a turn: what it comes to, and what its log has.
use Rattle.std.proofs.Common.{◌≡◌, ◌∙◌, List, Option, Some, None, sym, ap, subst}
use Rattle.v6_base.specs.Trace.{Taken, Took}
use Rattle.v6_base.proofs.Took.{took_more}
use Rattle.pick_rules.specs.Board.{Board}
use Rattle.pick_rules.specs.Effects.{Effect}
use Rattle.pick_rules.specs.Logged.{Logged, Stop, logged, left_by}
use Rattle.abstract_unix.specs.declared.ending.Ending.{Ending}
use Rattle.abstract_unix.specs.declared.ending.Ending.TheVariants.{Panic}
use Rattle.abstract_unix.specs.Unix.{Unix}
use Rattle.abstract_unix.specs.Steps.{Steps, after_effects}
use Rattle.unix_core.specs.declared.world.World.{World}
use Rattle.unix_core.specs.Parts.{unix_of, board_in, HasCome, ended_as}
use Rattle.unix_core.proofs.LoggedLemmas.{after_items, logged_then, logged_halted}

module _ (b : Board) (first : List (Effect Unix)) (next : Steps) where
  -- The first ones don't stop: the rest comes over the board that they leave.
  module _ (none : (logged b first).stop ≡ None) where
    log : logged b (after_effects first next).effects ≡ after_items (logged b first).items (logged (logged b first).board next.effects)
    log = logged_then b first next.effects none

    pub come_then : (e : Ending) (w : World) → HasCome (logged b first).board next e w → HasCome b (after_effects first next) e w
    come_then e w come = record {
      ending = come.ending ∙ ap (λ (l : Logged Unix). ended_as l.stop next.ending) (sym log);
      unix = come.unix ∙ ap (λ (l : Logged Unix). left_by l.stop next.unix) (sym log);
      board = come.board ∙ ap (λ (l : Logged Unix). l.board) (sym log);
    }

    pub items_then : (a m c : Taken) → Took a (logged b first).items m → Took m (logged (logged b first).board next.effects).items c
        → Took a (logged b (after_effects first next).effects).items c
    items_then a m c one two =
        subst (λ (l : Logged Unix). Took a l.items c) (sym log)
        (took_more a m c (logged b first).items (logged (logged b first).board next.effects).items one two)

  -- They stop: nothing follows.
  module _ (stop : Stop Unix) (some : (logged b first).stop ≡ Some stop) where
    cut : logged b (after_effects first next).effects ≡ logged b first
    cut = logged_halted b first next.effects stop some

    pub come_cut : (e : Ending) (w : World) → e ≡ Panic stop.why → unix_of w ≡ stop.before → board_in w ≡ (logged b first).board
        → HasCome b (after_effects first next) e w
    come_cut e w ends unix board =
        let stops : Some stop ≡ (logged b (after_effects first next).effects).stop = sym some ∙ ap (λ (l : Logged Unix). l.stop) (sym cut) in
        record {
          ending = ends ∙ ap (λ (o : Option (Stop Unix)). ended_as o next.ending) stops;
          unix = unix ∙ ap (λ (o : Option (Stop Unix)). left_by o next.unix) stops;
          board = board ∙ ap (λ (l : Logged Unix). l.board) (sym cut);
        }

    pub items_cut : (a c : Taken) → Took a (logged b first).items c → Took a (logged b (after_effects first next).effects).items c
    items_cut a c took = subst (λ (l : Logged Unix). Took a l.items c) (sym cut) took
