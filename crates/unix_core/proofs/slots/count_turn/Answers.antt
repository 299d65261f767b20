use Rattle.std.proofs.Common.{◌≡◌, ◌∙◌, ◌≤◌, map, sym, ap, subst}
use Rattle.v6_base.specs.Trace.{Took}
use Rattle.pick_rules.specs.Board.{Board}
use Rattle.pick_rules.specs.Effects.{Show}
use Rattle.pick_rules.specs.Logged.{logged}
use Rattle.abstract_unix.specs.Unix.{Unix}
use Rattle.abstract_unix.specs.Turn.{with_slot}
use Rattle.unix_core.specs.declared.world.World.{World}
use Rattle.unix_core.specs.Slots.{with_sent, slot_items, slot_wakes}
use Rattle.unix_core.specs.Parts.{unix_of, board_in}
use Rattle.unix_core.proofs.slots.count_turn.Goals as goal

pub renew-requires : goal.renew-requires
renew-requires g c = record { timed = c.requires.timed }

pub count-requires-clause-good : goal.count-requires-clause-good
count-requires-clause-good g c = c.renew.ensures.good c.requires.good

pub count-requires-clause-counted : goal.count-requires-clause-counted
count-requires-clause-counted g c = c.renew.ensures.counted

pub count-requires-clause-fresh : goal.count-requires-clause-fresh
count-requires-clause-fresh g c = subst (λ (u : Unix). u.timing.passed ≤ 3000000000) (sym c.renew.ensures.unix) c.requires.fresh

pub returns-clause-ended : goal.returns-clause-ended
returns-clause-ended g c =
    let w : World = c.args.world.now in
    let v : World = c.count.new.world in
    let r = c.renew.ensures in
    let e = c.count.ensures.ended in
    let board : board_in c.renew.new.world ≡ board_in w = ap board_in r.others in
    record {
      unix = e.unix ∙ ap (λ (u : Unix). with_sent (with_slot u)) r.unix;
      board = e.board
          ∙ ap (λ (b : Board). (logged {W = Unix} b (map Show (slot_items (with_slot (unix_of c.renew.new.world))))).board) board
          ∙ ap (λ (u : Unix). (logged {W = Unix} (board_in w) (map Show (slot_items (with_slot u)))).board) r.unix;
      any = e.any ∙ ap (λ (u : Unix). slot_wakes (with_slot u)) r.unix;
      good = e.good;
      counted = e.counted;
      running = e.running ∙ ap (λ (x : World). x.procs.table.running) r.others;
      tree = e.tree ∙ ap (λ (x : World). x.files.tree) r.others;
      others = e.others ∙ ap (λ (x : World). record x { files = record x.files { lines = v.files.lines }; procs = v.procs; slots = v.slots }) r.others;
      same = λ none. e.same none ∙ ap (λ (x : World). x.procs) r.others;
    }

pub returns-clause-items : goal.returns-clause-items
returns-clause-items g c =
    subst (λ (u : Unix). Took (g.T.Trace.taken c.args.trace.now) (slot_items (with_slot u)) (g.T.Trace.taken c.count.new.trace)) c.renew.ensures.unix
    c.count.ensures.items
