use Rattle.std.proofs.Common.{◌≡◌, ◌∙◌, List, sym, ap}
use Rattle.tty_line.specs.Terminal.{Terminal}
use Rattle.unix_core.specs.declared.world.World.{World}
use Rattle.unix_core.specs.declared.slots.Slots.{Slots}
use Rattle.unix_core.specs.Parts.{board_in}
use Rattle.pick_rules.specs.declared.table.Table.{Table}
use Rattle.unix_core.proofs.SendLines.{pace_unix, pace_board, pace_good, pace_running, pace_took, pace_timed}
use Rattle.unix_core.proofs.slots.set_pace.Goals as goal

-- what is as it was
paced_others : (w x : World) (lines : List Terminal) (t : Table) (slots : Slots)
    → x ≡ record (record w { files = record w.files { lines = lines }; procs = record w.procs { table = t }; slots = slots }) { slots = x.slots }
    → x ≡ record w { files = record w.files { lines = x.files.lines }; procs = x.procs; slots = x.slots }
paced_others w x lines t slots others =
    let same : lines ≡ x.files.lines = sym (ap (λ (y : World). y.files.lines) others) in
    let procs : record w.procs { table = t } ≡ x.procs = sym (ap (λ (y : World). y.procs) others) in
    others ∙ (λ i. record w { files = record w.files { lines = same i }; procs = procs i; slots = x.slots })

pub set_pace-requires : goal.set_pace-requires
set_pace-requires g c = record { within = c.requires.counted.timed.within }

pub turn_lines-any-requires : goal.turn_lines-any-requires
turn_lines-any-requires g c = record { table = c.requires.good.agree.table }

pub renew-requires : goal.renew-requires
renew-requires g c =
    let turned = c.turn_lines-any in
    let e = c.set_pace.ensures in
    record {
      timed = pace_timed c.args.world.now c.requires.good c.requires.counted.timed c.args.n c.set_pace.new.self e.timing
          turned.new.lines turned.ensures.lines turned.new.table turned.ensures.table e.left e.due e.wake e.set;
    }

pub returns-clause-unix : goal.returns-clause-unix
returns-clause-unix g c =
    let turned = c.turn_lines-any in
    c.renew.ensures.unix
    ∙ pace_unix c.args.world.now c.requires.good c.requires.counted.timed c.args.n c.set_pace.new.self c.set_pace.ensures.timing
    turned.new.lines turned.ensures.lines turned.new.table turned.ensures.table

pub returns-clause-board : goal.returns-clause-board
returns-clause-board g c =
    let turned = c.turn_lines-any in
    ap board_in c.renew.ensures.others
    ∙ pace_board c.args.world.now c.requires.good c.requires.counted.timed c.args.n c.set_pace.new.self c.set_pace.ensures.timing
    turned.new.lines turned.ensures.lines turned.new.table turned.ensures.table

pub returns-clause-good : goal.returns-clause-good
returns-clause-good g c =
    let turned = c.turn_lines-any in
    c.renew.ensures.good
    (pace_good c.args.world.now c.requires.good c.requires.counted.timed c.args.n c.set_pace.new.self c.set_pace.ensures.timing
    turned.new.lines turned.ensures.lines turned.new.table turned.ensures.table)

pub returns-clause-running : goal.returns-clause-running
returns-clause-running g c =
    let turned = c.turn_lines-any in
    ap (λ (x : World). x.procs.table.running) c.renew.ensures.others
    ∙ pace_running c.args.world.now c.requires.good c.requires.counted.timed c.args.n c.set_pace.new.self c.set_pace.ensures.timing
    turned.new.lines turned.ensures.lines turned.new.table turned.ensures.table

pub returns-clause-same : goal.returns-clause-same
returns-clause-same g c none =
    ap (λ (x : World). x.procs) c.renew.ensures.others
    ∙ ap (λ (t : Table). record c.args.world.now.procs { table = t }) (c.turn_lines-any.ensures.same none)

pub returns-clause-items : goal.returns-clause-items
returns-clause-items g c =
    let turned = c.turn_lines-any in
    pace_took c.args.world.now c.requires.good c.requires.counted.timed c.args.n c.set_pace.new.self c.set_pace.ensures.timing
    turned.new.lines turned.ensures.lines turned.new.table turned.ensures.table _ _ turned.ensures.items

pub returns-clause-images : goal.returns-clause-images
returns-clause-images g c = ap (λ (x : World). x.procs.images) c.renew.ensures.others

pub returns-clause-tree : goal.returns-clause-tree
returns-clause-tree g c = ap (λ (x : World). x.files.tree) c.renew.ensures.others

pub returns-clause-others : goal.returns-clause-others
returns-clause-others g c =
    paced_others c.args.world.now c.renew.new.world c.turn_lines-any.new.lines c.turn_lines-any.new.table c.set_pace.new.self c.renew.ensures.others
