use Rattle.std.proofs.Common.{◌∙◌, map, refl, sym, ap, subst, arith}
use Rattle.v6_base.specs.Trace.{Took}
use Rattle.v6_base.proofs.Took.{took_nothing}
use Rattle.pick_rules.specs.Effects.{Show}
use Rattle.pick_rules.specs.Logged.{logged}
use Rattle.abstract_unix.specs.Unix.{Unix}
use Rattle.unix_core.specs.declared.world.World.{World}
use Rattle.unix_core.specs.Slots.{IsCounted, with_sent, slot_items, slot_wakes}
use Rattle.unix_core.specs.Parts.{unix_of, board_in, IsGood}
use Rattle.unix_core.proofs.SlotWorlds.{good_slots, some_left, less_unix, before_is, due_fresh, none_shown, less_sent, less_board, less_any, less_counted}
use Rattle.unix_core.proofs.slots.count.Goals as goal

pub overflow_sub-world : goal.overflow_sub-world
overflow_sub-world g c = let some = some_left c.args.world.now c.requires.counted in omega (arith, some)

pub reach_apart-requires : goal.reach_apart-requires
reach_apart-requires g c =
    let w : World = c.args.world.now in
    let was = before_is w c.requires.counted c.if-world-eq0.true in
    record {
      left = c.if-world-eq0.true;
      good = subst IsGood (sym was) c.requires.good;
      counted = subst (λ (x : World). IsCounted x.slots (unix_of x)) (sym was) c.requires.counted;
      fresh = due_fresh w c.requires.counted c.if-world-eq0.true c.requires.fresh;
    }

pub returns-then-world-eq0-clause-ended : goal.returns-then-world-eq0-clause-ended
returns-then-world-eq0-clause-ended g c =
    let w : World = c.args.world.now in
    let one = less_unix w c.requires.counted in
    let e = c.reach_apart.ensures.ended in
    record {
      unix = e.unix ∙ ap with_sent one;
      board = e.board ∙ ap (λ (u : Unix). (logged {W = Unix} (board_in w) (map Show (slot_items u))).board) one;
      any = e.any ∙ ap slot_wakes one;
      good = e.good;
      counted = e.counted;
      running = e.running;
      tree = e.tree;
      others = e.others;
      same = e.same;
    }

pub returns-then-world-eq0-clause-items : goal.returns-then-world-eq0-clause-items
returns-then-world-eq0-clause-items g c =
    subst (λ (u : Unix). Took (g.T.Trace.taken c.args.trace.now) (slot_items u) (g.T.Trace.taken c.reach_apart.new.trace))
    (less_unix c.args.world.now c.requires.counted) c.reach_apart.ensures.items

pub returns-clause-ended : goal.returns-clause-ended
returns-clause-ended g c =
    let w : World = c.args.world.now in
    let some = c.if-world-eq0.false in
    record {
      unix = less_sent w c.requires.counted some;
      board = less_board w c.requires.counted some;
      any = less_any w c.requires.counted some;
      good = good_slots w _ c.requires.good;
      counted = less_counted w c.requires.counted some;
      running = refl;
      tree = refl;
      others = refl;
      same = λ none. refl;
    }

pub returns-clause-items : goal.returns-clause-items
returns-clause-items g c = took_nothing _ _ (none_shown c.args.world.now c.requires.counted c.if-world-eq0.false)
