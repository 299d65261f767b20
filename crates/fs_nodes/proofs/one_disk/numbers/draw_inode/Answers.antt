use Rattle.std.proofs.Common.{List, ap, ◌∙◌, subst}
use Rattle.fs_laws.specs.Numbers.{Draw, with_draw}
use Rattle.fs_blocks.specs.State.{disk}
use Rattle.fs_nodes.specs.declared.one_disk.table.Referenced.{Referenced}
use Rattle.fs_nodes.specs.one_disk.FileSystem.{store_now}
use Rattle.fs_nodes.specs.one_disk.Table.{seen}
use Rattle.fs_nodes.proofs.SeenLemmas.{volume_seen}
use Rattle.fs_nodes.proofs.HeldLemmas.{over}
use Rattle.fs_nodes.proofs.NumbersMake.{same_draw, drawn_references}
use Rattle.fs_nodes.proofs.NewLate.{Drew}
use Rattle.fs_nodes.proofs.one_disk.numbers.draw_inode.Goals as goal

pub returns-clause-held : goal.returns-clause-held
returns-clause-held c =
    let e = c.draw_number-number.ensures in
    let P : List Referenced → Type 0 = λ l. Drew c.args.volume.now.state c.draw_number-number.new.volume.state l c.draw_number-number.result in
    let d = subst P c.deref.ensures.0 (record { held = e.held; number = e.number; store = e.store; rest = e.rest }) in
    d.held

pub returns-clause-number : goal.returns-clause-number
returns-clause-number c =
    let e = c.draw_number-number.ensures in
    let P : List Referenced → Type 0 = λ l. Drew c.args.volume.now.state c.draw_number-number.new.volume.state l c.draw_number-number.result in
    let d = subst P c.deref.ensures.0 (record { held = e.held; number = e.number; store = e.store; rest = e.rest }) in
    d.number ∙ ap (λ (d : Draw). d.number) (same_draw (disk (seen c.args.volume.now.state c.args.table.now.items)) c.args.table.now.items (store_now (seen c.args.volume.now.state c.args.table.now.items)) c.requires.nodes.table)

pub returns-clause-store : goal.returns-clause-store
returns-clause-store c =
    let e = c.draw_number-number.ensures in
    let P : List Referenced → Type 0 = λ l. Drew c.args.volume.now.state c.draw_number-number.new.volume.state l c.draw_number-number.result in
    let d = subst P c.deref.ensures.0 (record { held = e.held; number = e.number; store = e.store; rest = e.rest }) in
    d.store ∙ ap (with_draw (store_now (seen c.args.volume.now.state c.args.table.now.items))) (same_draw (disk (seen c.args.volume.now.state c.args.table.now.items)) c.args.table.now.items (store_now (seen c.args.volume.now.state c.args.table.now.items)) c.requires.nodes.table)

pub returns-clause-references : goal.returns-clause-references
returns-clause-references c =
    let e = c.draw_number-number.ensures in
    let P : List Referenced → Type 0 = λ l. Drew c.args.volume.now.state c.draw_number-number.new.volume.state l c.draw_number-number.result in
    let d = subst P c.deref.ensures.0 (record { held = e.held; number = e.number; store = e.store; rest = e.rest }) in
    drawn_references (seen c.args.volume.now.state c.args.table.now.items) (seen c.draw_number-number.new.volume.state c.args.table.now.items) c.args.table.now.items c.requires.nodes d.rest (volume_seen c.draw_number-number.new.volume.state c.args.table.now.items (over c.draw_number-number.new.volume.state c.args.table.now.items d.held))

pub returns-clause-stored : goal.returns-clause-stored
returns-clause-stored c = c.draw_number-number.ensures.stored
