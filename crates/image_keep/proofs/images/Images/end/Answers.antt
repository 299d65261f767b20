use Rattle.image_keep.proofs.StateOf.{kept_is}
use Rattle.std.proofs.Common.{◌≡◌, ◌≤◌, ◌+◌, ◌∙◌, ℕ, true, false, sym, ap, arith, subst, set, Some, None}
use Rattle.std.specs.Vec.{with_items}
use Rattle.std.proofs.lemmas.List.{with_items_is}
use Rattle.map_fit.specs.Free.{is_free, is_within}
use Rattle.image_keep.specs.declared.row.Row.{Row}
use Rattle.image_keep.specs.Inside.{stock_in}
use Rattle.image_keep.specs.Line.{line_of}
use Rattle.image_keep.specs.Kept.{area_of}
use Rattle.image_keep.specs.Memory.{is_alive, clicks_in}
use Rattle.image_keep.specs.Places.{with_grave_at}
use Rattle.image_keep.specs.Maps.{InsideBy, core_units, swap_units}
use Rattle.image_keep.proofs.AreaSet.{known}
use Rattle.image_keep.proofs.Ended.{ended, units_taken, both_room, swap_fits, block_found, row_inside, still_taken}
use Rattle.image_keep.proofs.Told.{grave_told}
use Rattle.image_keep.proofs.images.Images.end.Goals as goal

pub row_of-row-requires : goal.row_of-row-requires
row_of-row-requires c = rw c.deref.ensures.value ((known (stock_in c.self.inside) c.args.self.now.kept c.args.s (kept_is c.self.view_is) c.self.invariant.sound c.self.invariant.counted c.requires.image).low)

pub give_back-requires-clause-sizes : goal.give_back-requires-clause-sizes
give_back-requires-clause-sizes c = subst (λ (r : Row). r.data_size + r.stack_size ≤ 1024) (sym (rw c.deref.ensures.value at c.row_of-row.ensures)) (known (stock_in c.self.inside) c.args.self.now.kept c.args.s (kept_is c.self.view_is) c.self.invariant.sound c.self.invariant.counted c.requires.image).sizes

pub give_back-requires-clause-inside : goal.give_back-requires-clause-inside
give_back-requires-clause-inside c = (c.self.inside.core, c.self.invariant.sound.most, subst (λ (r : Row). InsideBy c.self.inside.core r.state (clicks_in r)) (sym (rw c.deref.ensures.value at c.row_of-row.ensures)) (row_inside (stock_in c.self.inside) c.args.s c.self.invariant.sound))

pub give_back-requires-clause-core_taken : goal.give_back-requires-clause-core_taken
give_back-requires-clause-core_taken c = subst (λ (r : Row). (x : ℕ) → core_units r.state (clicks_in r) x ≡ true → is_free c.self.inside.core_map x ≡ false) (sym (rw c.deref.ensures.value at c.row_of-row.ensures)) (units_taken (stock_in c.self.inside) c.self.inside.core_map c.self.inside.swap_map c.args.s c.self.invariant.sound c.self.invariant.maps).0

pub give_back-requires-clause-core_room : goal.give_back-requires-clause-core_room
give_back-requires-clause-core_room c = (both_room (stock_in c.self.inside) c.self.inside.core_map c.self.inside.swap_map c.self.invariant.sound c.self.invariant.maps c.self.invariant.table c.count.ensures.few c.count-2.ensures.few).0

pub set_row-requires : goal.set_row-requires
set_row-requires c = rw c.deref_mut.ensures.value ((known (stock_in c.self.inside) c.args.self.now.kept c.args.s (kept_is c.self.view_is) c.self.invariant.sound c.self.invariant.counted c.requires.image).low)

pub place_of-requires : goal.place_of-requires
place_of-requires c = ap is_alive (ap (λ (r : Row). r.state) (rw c.deref.ensures.value at c.row_of-row.ensures) ∙ (known (stock_in c.self.inside) c.args.self.now.kept c.args.s (kept_is c.self.view_is) c.self.invariant.sound c.self.invariant.counted c.requires.image).is)

pub returns-in-None-clause-block : goal.returns-in-None-clause-block
returns-in-None-clause-block c = sym (swap_fits (stock_in c.self.inside) c.args.self.now.kept c.self.inside.core_map c.self.inside.swap_map 1 None (kept_is c.self.view_is) c.self.invariant.sound c.self.invariant.maps (λ taken first last m. sym c.in-None.is ∙ c.take.ensures.fit taken first last m))

pub returns-in-None-clause-kept : goal.returns-in-None-clause-kept
returns-in-None-clause-kept c = (kept_is c.self.view_is) ∙ ap (with_grave_at c.args.self.now.kept c.args.s (area_of c.args.self.now.kept c.args.s)) (swap_fits (stock_in c.self.inside) c.args.self.now.kept c.self.inside.core_map c.self.inside.swap_map 1 None (kept_is c.self.view_is) c.self.invariant.sound c.self.invariant.maps (λ taken first last m. sym c.in-None.is ∙ c.take.ensures.fit taken first last m))

pub block_click-to-requires : goal.block_click-to-requires
block_click-to-requires c = (block_found (stock_in c.self.inside) c.args.self.now.kept c.in-Some.block (kept_is c.self.view_is) c.self.invariant.sound (sym (swap_fits (stock_in c.self.inside) c.args.self.now.kept c.self.inside.core_map c.self.inside.swap_map 1 (Some c.in-Some.block) (kept_is c.self.view_is) c.self.invariant.sound c.self.invariant.maps (λ taken first last m. sym c.in-Some.is ∙ c.take.ensures.fit taken first last m)))).low

pub give_back-requires-clause-swap_taken : goal.give_back-requires-clause-swap_taken
give_back-requires-clause-swap_taken c x e = still_taken (is_free c.self.inside.swap_map x) (is_free c.take.new.self x) (is_within c.in-Some.block 1 x) (c.in-Some.ensures.left x) ((units_taken (stock_in c.self.inside) c.self.inside.core_map c.self.inside.swap_map c.args.s c.self.invariant.sound c.self.invariant.maps).1 x (subst (λ (r : Row). swap_units r.state (clicks_in r) x ≡ true) (rw c.deref.ensures.value at c.row_of-row.ensures) e))

pub give_back-requires-clause-swap_room : goal.give_back-requires-clause-swap_room
give_back-requires-clause-swap_room c = let a = (both_room (stock_in c.self.inside) c.self.inside.core_map c.self.inside.swap_map c.self.invariant.sound c.self.invariant.maps c.self.invariant.table c.count.ensures.few c.count-2.ensures.few).1 in let b = c.take.ensures.few in omega (arith, a, b)

pub returns-clause-block : goal.returns-clause-block
returns-clause-block c = sym (swap_fits (stock_in c.self.inside) c.args.self.now.kept c.self.inside.core_map c.self.inside.swap_map 1 (Some c.in-Some.block) (kept_is c.self.view_is) c.self.invariant.sound c.self.invariant.maps (λ taken first last m. sym c.in-Some.is ∙ c.take.ensures.fit taken first last m))

pub invariant_of-self-2 : goal.invariant_of-self-2
invariant_of-self-2 c = let g = (ended (stock_in c.self.inside) c.args.self.now.kept c.args.s c.in-Some.block c.place_click-from.result c.block_click-to.result c.place_of.result c.self.inside.core_map c.self.inside.swap_map c.take.new.self c.give_back.new.core_map c.give_back.new.swap_map c.row_of-row.result (line_of c.copy.new.self) (with_items c.self.inside.rows c.set_row.new.rows).items (kept_is c.self.view_is) c.self.invariant.sound c.self.invariant.maps c.self.invariant.counted c.requires.image c.requires.no_text (rw c.deref.ensures.value at c.row_of-row.ensures) c.place_of.ensures (sym (swap_fits (stock_in c.self.inside) c.args.self.now.kept c.self.inside.core_map c.self.inside.swap_map 1 (Some c.in-Some.block) (kept_is c.self.view_is) c.self.invariant.sound c.self.invariant.maps (λ taken first last m. sym c.in-Some.is ∙ c.take.ensures.fit taken first last m))) c.place_click-from.ensures c.block_click-to.ensures c.in-Some.ensures.left c.give_back.ensures.core c.give_back.ensures.swap c.copy.ensures.bytes (with_items_is c.self.inside.rows c.set_row.new.rows (c.set_row.ensures.long ∙ c.deref_mut.ensures.len) ∙ (rw c.deref_mut.ensures.value at c.set_row.ensures.rows) ∙ ap (set c.self.inside.rows.items c.args.s) c.grave_row.ensures)) in record { sound = g.sound; maps = g.maps; table = c.self.invariant.table; cut = c.copy.ensures.core ∙ c.self.invariant.cut; counted = g.counted; told = grave_told _ _ c.args.self.now.kept c.args.s (area_of c.args.self.now.kept c.args.s) c.in-Some.block (kept_is c.self.view_is) g.kept c.requires.no_text c.self.invariant.told }

pub returns-clause-kept : goal.returns-clause-kept
returns-clause-kept c = (ended (stock_in c.self.inside) c.args.self.now.kept c.args.s c.in-Some.block c.place_click-from.result c.block_click-to.result c.place_of.result c.self.inside.core_map c.self.inside.swap_map c.take.new.self c.give_back.new.core_map c.give_back.new.swap_map c.row_of-row.result (line_of c.copy.new.self) (with_items c.self.inside.rows c.set_row.new.rows).items (kept_is c.self.view_is) c.self.invariant.sound c.self.invariant.maps c.self.invariant.counted c.requires.image c.requires.no_text (rw c.deref.ensures.value at c.row_of-row.ensures) c.place_of.ensures (sym (swap_fits (stock_in c.self.inside) c.args.self.now.kept c.self.inside.core_map c.self.inside.swap_map 1 (Some c.in-Some.block) (kept_is c.self.view_is) c.self.invariant.sound c.self.invariant.maps (λ taken first last m. sym c.in-Some.is ∙ c.take.ensures.fit taken first last m))) c.place_click-from.ensures c.block_click-to.ensures c.in-Some.ensures.left c.give_back.ensures.core c.give_back.ensures.swap c.copy.ensures.bytes (with_items_is c.self.inside.rows c.set_row.new.rows (c.set_row.ensures.long ∙ c.deref_mut.ensures.len) ∙ (rw c.deref_mut.ensures.value at c.set_row.ensures.rows) ∙ ap (set c.self.inside.rows.items c.args.s) c.grave_row.ensures)).kept ∙ ap (with_grave_at c.args.self.now.kept c.args.s (area_of c.args.self.now.kept c.args.s)) (swap_fits (stock_in c.self.inside) c.args.self.now.kept c.self.inside.core_map c.self.inside.swap_map 1 (Some c.in-Some.block) (kept_is c.self.view_is) c.self.invariant.sound c.self.invariant.maps (λ taken first last m. sym c.in-Some.is ∙ c.take.ensures.fit taken first last m))

pub copy-requires-clause-to_inside : goal.copy-requires-clause-to_inside
copy-requires-clause-to_inside c = let a = c.block_click-to.ensures in let f = (block_found (stock_in c.self.inside) c.args.self.now.kept c.in-Some.block (kept_is c.self.view_is) c.self.invariant.sound (sym (swap_fits (stock_in c.self.inside) c.args.self.now.kept c.self.inside.core_map c.self.inside.swap_map 1 (Some c.in-Some.block) (kept_is c.self.view_is) c.self.invariant.sound c.self.invariant.maps (λ taken first last m. sym c.in-Some.is ∙ c.take.ensures.fit taken first last m)))) in let l = f.low in let h = f.high in let z = c.self.invariant.sound.size in omega (arith, a, l, h, z)
