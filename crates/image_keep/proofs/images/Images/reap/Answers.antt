use Rattle.image_keep.proofs.StateOf.{kept_is}
use Rattle.std.proofs.Common.{◌∙◌, ap, arith, length, set}
use Rattle.std.specs.Vec.{with_items}
use Rattle.std.proofs.lemmas.List.{with_items_is}
use Rattle.map_fit.proofs.Units.{in_true}
use Rattle.image_keep.specs.declared.row.Row.{Row}
use Rattle.image_keep.specs.Inside.{stock_in}
use Rattle.image_keep.specs.Line.{line_of}
use Rattle.image_keep.proofs.Ended.{both_room}
use Rattle.image_keep.proofs.Reaping.{grave_facts, grave_at, grave_taken, grave_inside, half_got, half_sized, reaped}
use Rattle.image_keep.proofs.Told.{bare_told, grave_text}
use Rattle.image_keep.proofs.images.Images.reap.Goals as goal

pub row_of-row-requires : goal.row_of-row-requires
row_of-row-requires c = rw c.deref.ensures.value ((grave_facts (stock_in c.self.inside) c.args.self.now.kept c.args.s (kept_is c.self.view_is) c.self.invariant.sound c.requires).low)

pub grave_block-block-requires : goal.grave_block-block-requires
grave_block-block-requires c = (c.requires.1, ap (λ (r : Row). r.state) (rw c.deref.ensures.value at c.row_of-row.ensures) ∙ (grave_facts (stock_in c.self.inside) c.args.self.now.kept c.args.s (kept_is c.self.view_is) c.self.invariant.sound c.requires).is)

pub block_click-at-requires : goal.block_click-at-requires
block_click-at-requires c = (grave_at (stock_in c.self.inside) c.args.self.now.kept c.args.s c.grave_block-block.result c.row_of-row.result (kept_is c.self.view_is) c.self.invariant.sound c.requires (rw c.deref.ensures.value at c.row_of-row.ensures) c.grave_block-block.ensures).inside.0

pub half-requires-clause-place : goal.half-requires-clause-place
half-requires-clause-place c = (grave_inside c.self.inside.core c.grave_block-block.result c.block_click-at.result (length c.self.inside.memory.core) (length (line_of c.self.inside.memory)) (grave_at (stock_in c.self.inside) c.args.self.now.kept c.args.s c.grave_block-block.result c.row_of-row.result (kept_is c.self.view_is) c.self.invariant.sound c.requires (rw c.deref.ensures.value at c.row_of-row.ensures) c.grave_block-block.ensures).inside.0 (grave_at (stock_in c.self.inside) c.args.self.now.kept c.args.s c.grave_block-block.result c.row_of-row.result (kept_is c.self.view_is) c.self.invariant.sound c.requires (rw c.deref.ensures.value at c.row_of-row.ensures) c.grave_block-block.ensures).inside.1 c.block_click-at.ensures c.self.invariant.cut c.self.invariant.sound.size).0

pub half-requires-clause-inside : goal.half-requires-clause-inside
half-requires-clause-inside c = (grave_inside c.self.inside.core c.grave_block-block.result c.block_click-at.result (length c.self.inside.memory.core) (length (line_of c.self.inside.memory)) (grave_at (stock_in c.self.inside) c.args.self.now.kept c.args.s c.grave_block-block.result c.row_of-row.result (kept_is c.self.view_is) c.self.invariant.sound c.requires (rw c.deref.ensures.value at c.row_of-row.ensures) c.grave_block-block.ensures).inside.0 (grave_at (stock_in c.self.inside) c.args.self.now.kept c.args.s c.grave_block-block.result c.row_of-row.result (kept_is c.self.view_is) c.self.invariant.sound c.requires (rw c.deref.ensures.value at c.row_of-row.ensures) c.grave_block-block.ensures).inside.1 c.block_click-at.ensures c.self.invariant.cut c.self.invariant.sound.size).1

pub give-requires-clause-small : goal.give-requires-clause-small
give-requires-clause-small c = let a = (grave_at (stock_in c.self.inside) c.args.self.now.kept c.args.s c.grave_block-block.result c.row_of-row.result (kept_is c.self.view_is) c.self.invariant.sound c.requires (rw c.deref.ensures.value at c.row_of-row.ensures) c.grave_block-block.ensures).inside.1 in omega (arith, a)

pub give-requires-clause-taken : goal.give-requires-clause-taken
give-requires-clause-taken c x l m = grave_taken (stock_in c.self.inside) c.self.inside.core_map c.self.inside.swap_map c.args.s c.grave_block-block.result x c.self.invariant.sound c.self.invariant.maps (grave_at (stock_in c.self.inside) c.args.self.now.kept c.args.s c.grave_block-block.result c.row_of-row.result (kept_is c.self.view_is) c.self.invariant.sound c.requires (rw c.deref.ensures.value at c.row_of-row.ensures) c.grave_block-block.ensures).is (in_true c.grave_block-block.result 1 x l m)

pub give-requires-clause-room : goal.give-requires-clause-room
give-requires-clause-room c = (both_room (stock_in c.self.inside) c.self.inside.core_map c.self.inside.swap_map c.self.invariant.sound c.self.invariant.maps c.self.invariant.table c.count.ensures.few c.count-2.ensures.few).1

pub set_row-requires : goal.set_row-requires
set_row-requires c = rw c.deref_mut.ensures.value ((grave_facts (stock_in c.self.inside) c.args.self.now.kept c.args.s (kept_is c.self.view_is) c.self.invariant.sound c.requires).low)

pub invariant_of-self : goal.invariant_of-self
invariant_of-self c = let g = (reaped (stock_in c.self.inside) c.args.self.now.kept c.args.s c.grave_block-block.result c.self.inside.core_map c.self.inside.swap_map c.give.new.self c.row_of-row.result (with_items c.self.inside.rows c.set_row.new.rows).items (kept_is c.self.view_is) c.self.invariant.sound c.self.invariant.maps c.self.invariant.counted (grave_at (stock_in c.self.inside) c.args.self.now.kept c.args.s c.grave_block-block.result c.row_of-row.result (kept_is c.self.view_is) c.self.invariant.sound c.requires (rw c.deref.ensures.value at c.row_of-row.ensures) c.grave_block-block.ensures) (grave_text _ c.args.self.now.kept c.args.s (kept_is c.self.view_is) c.self.invariant.told c.requires) (rw c.deref.ensures.value at c.row_of-row.ensures) c.give.ensures (with_items_is c.self.inside.rows c.set_row.new.rows (c.set_row.ensures.long ∙ c.deref_mut.ensures.len) ∙ (rw c.deref_mut.ensures.value at c.set_row.ensures.rows) ∙ ap (set c.self.inside.rows.items c.args.s) c.nothing_row.ensures)) in record { sound = g.sound; maps = g.maps; table = c.self.invariant.table; cut = c.self.invariant.cut; counted = g.counted; told = bare_told _ _ c.args.self.now.kept c.args.s (kept_is c.self.view_is) g.kept c.self.invariant.told }

pub returns-clause-half : goal.returns-clause-half
returns-clause-half c = half_got (stock_in c.self.inside) c.args.self.now.kept c.args.s c.grave_block-block.result c.block_click-at.result c.half.new.out (kept_is c.self.view_is) c.self.invariant.sound (grave_at (stock_in c.self.inside) c.args.self.now.kept c.args.s c.grave_block-block.result c.row_of-row.result (kept_is c.self.view_is) c.self.invariant.sound c.requires (rw c.deref.ensures.value at c.row_of-row.ensures) c.grave_block-block.ensures).is c.block_click-at.ensures c.half.ensures

pub returns-clause-kept : goal.returns-clause-kept
returns-clause-kept c = (reaped (stock_in c.self.inside) c.args.self.now.kept c.args.s c.grave_block-block.result c.self.inside.core_map c.self.inside.swap_map c.give.new.self c.row_of-row.result (with_items c.self.inside.rows c.set_row.new.rows).items (kept_is c.self.view_is) c.self.invariant.sound c.self.invariant.maps c.self.invariant.counted (grave_at (stock_in c.self.inside) c.args.self.now.kept c.args.s c.grave_block-block.result c.row_of-row.result (kept_is c.self.view_is) c.self.invariant.sound c.requires (rw c.deref.ensures.value at c.row_of-row.ensures) c.grave_block-block.ensures) (grave_text _ c.args.self.now.kept c.args.s (kept_is c.self.view_is) c.self.invariant.told c.requires) (rw c.deref.ensures.value at c.row_of-row.ensures) c.give.ensures (with_items_is c.self.inside.rows c.set_row.new.rows (c.set_row.ensures.long ∙ c.deref_mut.ensures.len) ∙ (rw c.deref_mut.ensures.value at c.set_row.ensures.rows) ∙ ap (set c.self.inside.rows.items c.args.s) c.nothing_row.ensures)).kept

pub returns-clause-sized : goal.returns-clause-sized
returns-clause-sized c = half_sized (stock_in c.self.inside) c.args.self.now.kept c.args.s c.grave_block-block.result (kept_is c.self.view_is) c.self.invariant.sound (grave_at (stock_in c.self.inside) c.args.self.now.kept c.args.s c.grave_block-block.result c.row_of-row.result (kept_is c.self.view_is) c.self.invariant.sound c.requires (rw c.deref.ensures.value at c.row_of-row.ensures) c.grave_block-block.ensures).is
