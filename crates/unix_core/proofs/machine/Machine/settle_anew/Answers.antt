use Rattle.std.proofs.Common.{◌≡◌, ◌∙◌, ap, subst}
use Rattle.v6_base.specs.Trace.{Took}
use Rattle.pick_rules.specs.Board.{Board}
use Rattle.abstract_unix.specs.Unix.{System}
use Rattle.abstract_unix.specs.Turn.{settled}
use Rattle.unix_core.specs.declared.world.World.{World}
use Rattle.unix_core.specs.Parts.{board_in, system_at}
use Rattle.unix_core.proofs.machine.Machine.settle_anew.Goals as goal

pub renew-requires : goal.renew-requires
renew-requires g c = record { timed = c.requires.timed }

pub settle-requires-clause-good : goal.settle-requires-clause-good
settle-requires-clause-good g c = c.renew.ensures.good c.requires.good

pub settle-requires-clause-counted : goal.settle-requires-clause-counted
settle-requires-clause-counted g c = c.renew.ensures.counted

pub returns-clause-system : goal.returns-clause-system
returns-clause-system g c =
    let board : board_in c.renew.new.world ≡ board_in c.args.self.now.world = ap board_in c.renew.ensures.others in
    let same : system_at c.renew.new.world ≡ system_at c.args.self.now.world = (λ i. record { unix = c.renew.ensures.unix i; board = board i }) in
    c.settle.ensures.system ∙ ap (λ (m : System). record m { board = (settled m.board).board }) same

pub returns-clause-files : goal.returns-clause-files
returns-clause-files g c = c.settle.ensures.files ∙ ap (λ (w : World). w.files) c.renew.ensures.others

pub returns-clause-blocks : goal.returns-clause-blocks
returns-clause-blocks g c = c.settle.ensures.blocks ∙ ap (λ (w : World). w.files.tree.nodes.blocks) c.renew.ensures.others

pub returns-clause-items : goal.returns-clause-items
returns-clause-items g c =
    let board : board_in c.renew.new.world ≡ board_in c.args.self.now.world = ap board_in c.renew.ensures.others in
    subst (λ (b : Board). Took (g.T.Trace.taken c.args.trace.now) (settled b).items (g.T.Trace.taken c.settle.new.trace)) board c.settle.ensures.items

pub returns-clause-images : goal.returns-clause-images
returns-clause-images g c = c.settle.ensures.images ∙ ap (λ (w : World). w.procs.images) c.renew.ensures.others
