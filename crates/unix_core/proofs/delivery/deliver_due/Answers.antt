use Rattle.std.proofs.Common.{◌≡◌, ◌∙◌, Some, None, Option, ℕ, refl, sym, ap, subst}
use Rattle.v6_base.specs.Trace.{Took}
use Rattle.v6_base.proofs.Took.{took_nothing}
use Rattle.pick_rules.specs.Logged.{logged}
use Rattle.sig_core.specs.Signals.{due}
use Rattle.abstract_unix.specs.Unix.{Unix, process_of}
use Rattle.abstract_unix.specs.Steps.{Steps}
use Rattle.abstract_unix.specs.Delivery.{delivers_if, delivers_due}
use Rattle.abstract_unix.specs.declared.ending.Ending.TheVariants.{Trapped}
use Rattle.unix_core.specs.declared.world.World.{World}
use Rattle.unix_core.specs.Parts.{unix_of, board_in, HasCome}
use Rattle.unix_core.proofs.WorldLemmas.{ready_alive}
use Rattle.unix_core.proofs.delivery.deliver_due.Goals as goal

-- what is due is delivered
due_is : (u : Unix) (s : ℕ) (o : Option ℕ) → o ≡ due (process_of u s).row (process_of u s).u → delivers_if u s o ≡ delivers_due u s
unfolding delivers_due
due_is u s o is = ap (delivers_if u s) is

pub due_to-requires-clause-alive : goal.due_to-requires-clause-alive
due_to-requires-clause-alive g c = ready_alive c.args.world.now c.args.s c.requires.ready

pub deliver_to-requires-clause-due : goal.deliver_to-requires-clause-due
deliver_to-requires-clause-due g c = sym c.due_to.ensures ∙ c.in-Some.is

pub returns-in-Some-clause-come : goal.returns-in-Some-clause-come
returns-in-Some-clause-come g c =
    let w : World = c.args.world.now in
    subst (λ x. HasCome (board_in w) x c.deliver_to.result c.deliver_to.new.world)
    (due_is (unix_of w) c.args.s (Some c.in-Some.sig) (sym c.in-Some.is ∙ c.due_to.ensures)) c.deliver_to.ensures.come

pub returns-in-Some-clause-items : goal.returns-in-Some-clause-items
returns-in-Some-clause-items g c =
    let w : World = c.args.world.now in
    subst (λ (x : Steps). Took (g.T.Trace.taken c.args.trace.now) (logged (board_in w) x.effects).items (g.T.Trace.taken c.deliver_to.new.trace))
    (due_is (unix_of w) c.args.s (Some c.in-Some.sig) (sym c.in-Some.is ∙ c.due_to.ensures)) c.deliver_to.ensures.items

pub returns-in-None-clause-come : goal.returns-in-None-clause-come
returns-in-None-clause-come g c =
    let w : World = c.args.world.now in
    subst (λ x. HasCome (board_in w) x Trapped w) (due_is (unix_of w) c.args.s None (sym c.in-None.is ∙ c.due_to.ensures))
    (record { ending = refl; unix = refl; board = refl })

pub returns-in-None-clause-items : goal.returns-in-None-clause-items
returns-in-None-clause-items g c =
    let w : World = c.args.world.now in
    took_nothing _ _ (ap (λ (x : Steps). (logged (board_in w) x.effects).items) (sym (due_is (unix_of w) c.args.s None (sym c.in-None.is ∙ c.due_to.ensures))))
