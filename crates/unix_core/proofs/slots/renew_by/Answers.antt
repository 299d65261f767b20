use Rattle.std.proofs.Common.{◌≡◌, ◌∙◌, sym, subst, arith}
use Rattle.unix_core.specs.declared.world.World.{World}
use Rattle.unix_core.specs.declared.slots.Slots.{Slots}
use Rattle.unix_core.specs.Slots.{IsCounted}
use Rattle.unix_core.specs.Parts.{unix_of}
use Rattle.unix_core.proofs.CountLemmas.{timed_added}
use Rattle.unix_core.proofs.SlotWorlds.{good_slots}
use Rattle.unix_core.proofs.slots.renew_by.Goals as goal

pub add_send-requires-clause-within : goal.add_send-requires-clause-within
add_send-requires-clause-within c = c.requires.timed.within

pub add_send-requires-clause-before : goal.add_send-requires-clause-before
add_send-requires-clause-before c = let next = c.requires.timed.next in let within = c.requires.timed.within in omega (arith, next, within)

pub add_send-requires-clause-set : goal.add_send-requires-clause-set
add_send-requires-clause-set c = c.requires.timed.set

pub returns-then-holds-clause-unix : goal.returns-then-holds-clause-unix
returns-then-holds-clause-unix c =
    let w : World = c.args.world.now in
    let e = c.add_send.ensures in λ i. record (unix_of w) { timing = e.timing i }

pub returns-then-holds-clause-good : goal.returns-then-holds-clause-good
returns-then-holds-clause-good c = good_slots c.args.world.now c.add_send.new.self

pub returns-then-holds-clause-counted : goal.returns-then-holds-clause-counted
returns-then-holds-clause-counted c =
    let w : World = c.args.world.now in
    let slots : Slots = c.add_send.new.self in
    let e = c.add_send.ensures in
    let unix : unix_of (record w { slots = slots }) ≡ unix_of w = λ i. record (unix_of w) { timing = e.timing i } in
    let counted : IsCounted slots (unix_of w) = record {
      timed = timed_added w.slots slots (unix_of w) e.timing e.wake e.set e.within e.sooner e.later c.requires.timed;
      sends = λ some. e.sends;
    } in
    subst (IsCounted slots) (sym unix) counted

pub returns-else-holds-clause-counted : goal.returns-else-holds-clause-counted
returns-else-holds-clause-counted c = record {
  timed = c.requires.timed;
  sends = λ some. absurd (let no = sym some ∙ sym c.holds.ensures ∙ c.if-holds.false in cc no);
}
