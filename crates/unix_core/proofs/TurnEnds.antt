-- A turn ends: out of a trap with the delivery of what is due, and else as it is.
use Rattle.std.proofs.Common.{◌≡◌, ◌≢◌, ◌∙◌, ℕ, Option, Some, None, refl, sym, ap, subst}
use Rattle.v6_base.specs.Trace.{Taken, Took}
use Rattle.pick_rules.specs.Board.{Board}
use Rattle.pick_rules.specs.Logged.{Stop, logged, left_by}
use Rattle.abstract_unix.specs.declared.ending.Ending.{Ending}
use Rattle.abstract_unix.specs.declared.ending.Ending.TheVariants.{Next, Trapped, Slept, Ended, Panic}
use Rattle.abstract_unix.specs.Unix.{Unix}
use Rattle.abstract_unix.specs.Steps.{Steps}
use Rattle.abstract_unix.specs.Delivery.{delivers_due, ends_by_ending, ends_turn}
use Rattle.unix_core.specs.declared.world.World.{World}
use Rattle.unix_core.specs.Parts.{unix_of, board_in, HasCome, ended_as}
use Rattle.unix_core.proofs.ThenLemmas.{come_then, items_then, come_cut, items_cut}

-- Steps that have come out of a trap have not stopped.
goes_by : (o : Option (Stop Unix)) (e : Ending) → Trapped ≡ ended_as o e → (o ≡ None) × (e ≡ Trapped)
goes_by None e is = (refl, sym is)
goes_by (Some stop) e is = absurd (cc is)

module _ (b : Board) (steps : Steps) (s : ℕ) (w : World) (come : HasCome b steps Trapped w) where
  goes : ((logged b steps.effects).stop ≡ None) × (steps.ending ≡ Trapped)
  goes = goes_by (logged b steps.effects).stop steps.ending come.ending

  unix_is : unix_of w ≡ steps.unix
  unix_is = come.unix ∙ ap (λ o. left_by o steps.unix) goes.0

  pub due_come : (e : Ending) (now : World) → HasCome (board_in w) (delivers_due (unix_of w) s) e now → HasCome b (ends_turn s steps) e now
  due_come e now later =
      subst (λ x. HasCome b (ends_by_ending s steps x) e now) (sym goes.1)
      (come_then b steps.effects (delivers_due steps.unix s) goes.0 e now
      (subst (λ (x : Board). HasCome x (delivers_due steps.unix s) e now) come.board
      (subst (λ (u : Unix). HasCome (board_in w) (delivers_due u s) e now) unix_is later)))

  pub due_items : (a m c : Taken) → Took a (logged b steps.effects).items m → Took m (logged (board_in w) (delivers_due (unix_of w) s).effects).items c
      → Took a (logged b (ends_turn s steps).effects).items c
  due_items a m c one two =
      subst (λ x. Took a (logged b (ends_by_ending s steps x).effects).items c) (sym goes.1)
      (items_then b steps.effects (delivers_due steps.unix s) goes.0 a m c one
      (subst (λ (x : Board). Took m (logged x (delivers_due steps.unix s).effects).items c) come.board
      (subst (λ (u : Unix). Took m (logged (board_in w) (delivers_due u s).effects).items c) unix_is two)))

-- One that has ended otherwise is as it was: where it has stopped, nothing follows.
stopped_by : (o : Option (Stop Unix)) (e : Ending) → e ≢ Trapped → e ≡ ended_as o Trapped → (stop : Stop Unix) × ((o ≡ Some stop) × (e ≡ Panic stop.why))
stopped_by None e other is = absurd (other is)
stopped_by (Some stop) e other is = (stop, (refl, is))

module _ (b : Board) (steps : Steps) (s : ℕ) (e : Ending) (w : World) (other : e ≢ Trapped) (come : HasCome b steps e w) where
  pub other_come : HasCome b (ends_turn s steps) e w
  other_come = by steps.ending refl
    where
      by : (x : Ending) → steps.ending ≡ x → HasCome b (ends_by_ending s steps x) e w
      by Next is = come
      by Trapped is =
          let stop = stopped_by (logged b steps.effects).stop e other (come.ending ∙ ap (ended_as (logged b steps.effects).stop) is) in
          come_cut b steps.effects (delivers_due steps.unix s) stop.0 stop.1.0 e w stop.1.1
          (come.unix ∙ ap (λ o. left_by o steps.unix) stop.1.0) come.board
      by (Slept pri chan) is = come
      by Ended is = come
      by (Panic kind) is = come

  pub other_items : (a c : Taken) → Took a (logged b steps.effects).items c → Took a (logged b (ends_turn s steps).effects).items c
  other_items a c took = by steps.ending refl
    where
      by : (x : Ending) → steps.ending ≡ x → Took a (logged b (ends_by_ending s steps x).effects).items c
      by Next is = took
      by Trapped is =
          let stop = stopped_by (logged b steps.effects).stop e other (come.ending ∙ ap (ended_as (logged b steps.effects).stop) is) in
          items_cut b steps.effects (delivers_due steps.unix s) stop.0 stop.1.0 a c took
      by (Slept pri chan) is = took
      by Ended is = took
      by (Panic kind) is = took
