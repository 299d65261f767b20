use Rattle.std.proofs.Common.{◌∙◌, refl, ap}
use Rattle.pick_rules.specs.declared.table.Table.{Table}
use Rattle.pick_rules.specs.Board.{Board}
use Rattle.sys_procs.specs.World.{clock_of}
use Rattle.unix_core.specs.declared.world.World.{World}
use Rattle.unix_core.specs.Parts.{unix_of, system_at}
use Rattle.unix_core.proofs.CountLemmas.{counted_same}
use Rattle.unix_core.proofs.TableLemmas.{with_table, good_table, settled_agree, settled_image, settled_settles, settled_idle, settled_clock, table_system}
use Rattle.unix_core.proofs.machine.Machine.settle.Goals as goal

pub settle-requires : goal.settle-requires
settle-requires g c = c.requires.good.agree.table

pub refresh-requires-clause-good : goal.refresh-requires-clause-good
refresh-requires-clause-good g c =
    let w : World = c.args.self.now.world in
    let t : Table = w.procs.table in
    let u : Table = c.settle.new.table in
    let good = c.requires.good in
    good_table w u (settled_agree w.procs.rows w.procs.images.kept t u c.settle.ensures.table c.settle.ensures.good good.agree)
    (settled_image w.procs.rows w.procs.images.kept t u c.settle.ensures.table c.settle.ensures.good good.agree good.running) good

pub refresh-requires-clause-counted : goal.refresh-requires-clause-counted
refresh-requires-clause-counted g c =
    let w : World = c.args.self.now.world in
    counted_same w.slots (unix_of w) (unix_of (with_table w c.settle.new.table)) refl refl refl c.requires.counted

pub refresh-requires-clause-settled : goal.refresh-requires-clause-settled
refresh-requires-clause-settled g c =
    let w : World = c.args.self.now.world in
    settled_settles w.procs.rows w.procs.images.kept w.procs.table c.settle.new.table c.settle.ensures.table

pub refresh-requires-clause-idle : goal.refresh-requires-clause-idle
refresh-requires-clause-idle g c =
    let w : World = c.args.self.now.world in
    settled_idle w.procs.rows w.procs.images.kept w.procs.table c.settle.new.table c.settle.ensures.table

pub returns-clause-system : goal.returns-clause-system
returns-clause-system g c =
    let w : World = c.args.self.now.world in
    let t : Table = w.procs.table in
    ap system_at c.refresh.ensures.world
    ∙ table_system w c.settle.new.table (ap clock_of c.settle.ensures.table ∙ settled_clock w.procs.rows w.procs.images.kept t)
    ∙ ap (λ (b : Board). record (system_at w) { board = b }) (c.settle.ensures.board w.procs.images.kept)

pub returns-clause-items : goal.returns-clause-items
returns-clause-items g c = c.settle.ensures.items c.args.self.now.world.procs.images.kept

pub returns-clause-files : goal.returns-clause-files
returns-clause-files g c = ap (λ (w : World). w.files) c.refresh.ensures.world

pub returns-clause-images : goal.returns-clause-images
returns-clause-images g c = ap (λ (w : World). w.procs.images) c.refresh.ensures.world
