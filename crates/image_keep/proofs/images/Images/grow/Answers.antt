use Rattle.image_keep.proofs.StateOf.{kept_is, core_is, line_is}
use Rattle.std.proofs.Common.{rules, ◌≡◌, ◌+◌, ◌∙◌, true, length, sym, ap, arith, subst, set, Some, None}
use Rattle.core_mem.specs.Bytes.{over}
use Rattle.image_keep.proofs.InPlan.{core_kept}
use Rattle.image_keep.proofs.LaidBytes.{resized_is}
use Rattle.std.specs.Vec.{with_items}
use Rattle.std.proofs.lemmas.List.{with_items_is}
use Rattle.map_fit.specs.Free.{is_free}
use Rattle.image_keep.specs.declared.row.Row.{Row}
use Rattle.image_keep.specs.Inside.{stock_in}
use Rattle.image_keep.specs.Line.{line_of}
use Rattle.image_keep.specs.Kept.{Kept, area_of, image_of}
use Rattle.image_keep.specs.Memory.{row_at, is_alive, clicks_in, RowOf, spot_by, AreApart, place_at, place_size}
use Rattle.image_keep.specs.Maps.{InsideBy, core_units, swap_units}
use Rattle.image_keep.specs.Finding.{found_core, found_swap}
use Rattle.image_keep.specs.Growth.{area_resized, image_resized}
use Rattle.image_keep.specs.Moves.{with_image_moved}
use Rattle.image_keep.proofs.AreaSet.{known, at_place_of}
use Rattle.image_keep.proofs.Ended.{units_taken, both_room, row_inside, still_taken}
use Rattle.image_keep.proofs.Found.{placed_is, place_found, place_inside, place_low, clicks_apart}
use Rattle.image_keep.proofs.Growing.{grows, moved_text, moved_long}
use Rattle.image_keep.proofs.images.Images.grow.Goals as goal

pub place_of-from-requires : goal.place_of-from-requires
place_of-from-requires c = ap is_alive (ap (λ (r : Row). r.state) (rw c.deref.ensures.value at c.row_of-row.ensures) ∙ (known (stock_in c.self.inside) c.args.self.now.kept c.args.s (kept_is c.self.view_is) c.self.invariant.sound c.self.invariant.counted c.requires.image).is)

pub returns-in-None-clause-place : goal.returns-in-None-clause-place
returns-in-None-clause-place c = sym (placed_is (stock_in c.self.inside) c.args.self.now.kept c.args.s (16 + c.args.d + c.args.stack) c.self.inside.core_map c.self.inside.swap_map c.may_stand-stands.result c.row_of-row.result None (kept_is c.self.view_is) c.self.invariant.sound c.self.invariant.maps (rw c.deref.ensures.value at c.row_of-row.ensures) c.may_stand-stands.ensures c.in-None.ensures.fit)

pub returns-in-None-clause-kept : goal.returns-in-None-clause-kept
returns-in-None-clause-kept c = (kept_is c.self.view_is) ∙ ap (with_image_moved c.args.self.now.kept c.args.s (area_resized (area_of c.args.self.now.kept c.args.s) c.args.d c.args.stack) (image_resized (image_of c.args.self.now.kept c.args.s) c.args.d c.args.stack)) (placed_is (stock_in c.self.inside) c.args.self.now.kept c.args.s (16 + c.args.d + c.args.stack) c.self.inside.core_map c.self.inside.swap_map c.may_stand-stands.result c.row_of-row.result None (kept_is c.self.view_is) c.self.invariant.sound c.self.invariant.maps (rw c.deref.ensures.value at c.row_of-row.ensures) c.may_stand-stands.ensures c.in-None.ensures.fit)

pub place_click-to-requires : goal.place_click-to-requires
place_click-to-requires c = ((16 + c.args.d + c.args.stack), (place_found (stock_in c.self.inside) c.args.self.now.kept c.args.s (16 + c.args.d + c.args.stack) c.in-Some.place (kept_is c.self.view_is) c.self.invariant.sound (sym (placed_is (stock_in c.self.inside) c.args.self.now.kept c.args.s (16 + c.args.d + c.args.stack) c.self.inside.core_map c.self.inside.swap_map c.may_stand-stands.result c.row_of-row.result (Some c.in-Some.place) (kept_is c.self.view_is) c.self.invariant.sound c.self.invariant.maps (rw c.deref.ensures.value at c.row_of-row.ensures) c.may_stand-stands.ensures c.in-Some.ensures.fit))).inside)

pub lay_resized-requires-clause-low_to : goal.lay_resized-requires-clause-low_to
lay_resized-requires-clause-low_to c = place_low c.self.inside.core (16 + c.args.d + c.args.stack) c.place_click-to.result c.in-Some.place (place_found (stock_in c.self.inside) c.args.self.now.kept c.args.s (16 + c.args.d + c.args.stack) c.in-Some.place (kept_is c.self.view_is) c.self.invariant.sound (sym (placed_is (stock_in c.self.inside) c.args.self.now.kept c.args.s (16 + c.args.d + c.args.stack) c.self.inside.core_map c.self.inside.swap_map c.may_stand-stands.result c.row_of-row.result (Some c.in-Some.place) (kept_is c.self.view_is) c.self.invariant.sound c.self.invariant.maps (rw c.deref.ensures.value at c.row_of-row.ensures) c.may_stand-stands.ensures c.in-Some.ensures.fit))).inside c.self.invariant.sound.most c.place_click-to.ensures

pub lay_resized-requires-clause-to : goal.lay_resized-requires-clause-to
lay_resized-requires-clause-to c = (place_inside c.self.inside.core (16 + c.args.d + c.args.stack) c.place_click-to.result c.in-Some.place (length c.self.inside.memory.core) (length (line_of c.self.inside.memory)) (place_found (stock_in c.self.inside) c.args.self.now.kept c.args.s (16 + c.args.d + c.args.stack) c.in-Some.place (kept_is c.self.view_is) c.self.invariant.sound (sym (placed_is (stock_in c.self.inside) c.args.self.now.kept c.args.s (16 + c.args.d + c.args.stack) c.self.inside.core_map c.self.inside.swap_map c.may_stand-stands.result c.row_of-row.result (Some c.in-Some.place) (kept_is c.self.view_is) c.self.invariant.sound c.self.invariant.maps (rw c.deref.ensures.value at c.row_of-row.ensures) c.may_stand-stands.ensures c.in-Some.ensures.fit))).inside c.place_click-to.ensures c.self.invariant.cut c.self.invariant.sound.size).0

pub lay_resized-requires-clause-to_inside : goal.lay_resized-requires-clause-to_inside
lay_resized-requires-clause-to_inside c = (place_inside c.self.inside.core (16 + c.args.d + c.args.stack) c.place_click-to.result c.in-Some.place (length c.self.inside.memory.core) (length (line_of c.self.inside.memory)) (place_found (stock_in c.self.inside) c.args.self.now.kept c.args.s (16 + c.args.d + c.args.stack) c.in-Some.place (kept_is c.self.view_is) c.self.invariant.sound (sym (placed_is (stock_in c.self.inside) c.args.self.now.kept c.args.s (16 + c.args.d + c.args.stack) c.self.inside.core_map c.self.inside.swap_map c.may_stand-stands.result c.row_of-row.result (Some c.in-Some.place) (kept_is c.self.view_is) c.self.invariant.sound c.self.invariant.maps (rw c.deref.ensures.value at c.row_of-row.ensures) c.may_stand-stands.ensures c.in-Some.ensures.fit))).inside c.place_click-to.ensures c.self.invariant.cut c.self.invariant.sound.size).1

pub lay_resized-requires-clause-apart : goal.lay_resized-requires-clause-apart
lay_resized-requires-clause-apart c = clicks_apart c.self.inside.core (16 + c.args.d + c.args.stack) (clicks_in c.row_of-row.result) c.place_click-at.result c.place_click-to.result c.place_of-from.result c.in-Some.place c.place_click-at.ensures c.place_click-to.ensures (subst (λ (r : Row). AreApart (record { at = place_at c.self.inside.core c.in-Some.place; size = place_size c.in-Some.place (16 + c.args.d + c.args.stack) }) (record { at = place_at c.self.inside.core c.place_of-from.result; size = place_size c.place_of-from.result (clicks_in r) })) (sym (rw c.deref.ensures.value at c.row_of-row.ensures)) (subst (AreApart (record { at = place_at c.self.inside.core c.in-Some.place; size = place_size c.in-Some.place (16 + c.args.d + c.args.stack) })) (ap (λ st. spot_by c.self.inside.core st (clicks_in (row_at c.self.inside.rows.items c.args.s))) (at_place_of (stock_in c.self.inside) c.args.self.now.kept c.args.s c.row_of-row.result c.place_of-from.result (kept_is c.self.view_is) c.self.invariant.sound c.self.invariant.counted c.requires.image (rw c.deref.ensures.value at c.row_of-row.ensures) c.place_of-from.ensures).is) ((place_found (stock_in c.self.inside) c.args.self.now.kept c.args.s (16 + c.args.d + c.args.stack) c.in-Some.place (kept_is c.self.view_is) c.self.invariant.sound (sym (placed_is (stock_in c.self.inside) c.args.self.now.kept c.args.s (16 + c.args.d + c.args.stack) c.self.inside.core_map c.self.inside.swap_map c.may_stand-stands.result c.row_of-row.result (Some c.in-Some.place) (kept_is c.self.view_is) c.self.invariant.sound c.self.invariant.maps (rw c.deref.ensures.value at c.row_of-row.ensures) c.may_stand-stands.ensures c.in-Some.ensures.fit))).free (RowOf c.args.s))))

pub give_back-requires-clause-inside : goal.give_back-requires-clause-inside
give_back-requires-clause-inside c = (c.self.inside.core, c.self.invariant.sound.most, subst (λ (r : Row). InsideBy c.self.inside.core r.state (clicks_in r)) (sym (rw c.deref.ensures.value at c.row_of-row.ensures)) (row_inside (stock_in c.self.inside) c.args.s c.self.invariant.sound))

pub give_back-requires-clause-core_taken : goal.give_back-requires-clause-core_taken
give_back-requires-clause-core_taken c x e = still_taken (is_free c.self.inside.core_map x) (is_free c.take_place.new.core_map x) (found_core (Some c.in-Some.place) (16 + c.args.d + c.args.stack) x) (c.in-Some.ensures.core x) ((units_taken (stock_in c.self.inside) c.self.inside.core_map c.self.inside.swap_map c.args.s c.self.invariant.sound c.self.invariant.maps).0 x (subst (λ (r : Row). core_units r.state (clicks_in r) x ≡ true) (rw c.deref.ensures.value at c.row_of-row.ensures) e))

pub give_back-requires-clause-swap_taken : goal.give_back-requires-clause-swap_taken
give_back-requires-clause-swap_taken c x e = still_taken (is_free c.self.inside.swap_map x) (is_free c.take_place.new.swap_map x) (found_swap (Some c.in-Some.place) (16 + c.args.d + c.args.stack) x) (c.in-Some.ensures.swap x) ((units_taken (stock_in c.self.inside) c.self.inside.core_map c.self.inside.swap_map c.args.s c.self.invariant.sound c.self.invariant.maps).1 x (subst (λ (r : Row). swap_units r.state (clicks_in r) x ≡ true) (rw c.deref.ensures.value at c.row_of-row.ensures) e))

pub give_back-requires-clause-core_room : goal.give_back-requires-clause-core_room
give_back-requires-clause-core_room c = let a = (both_room (stock_in c.self.inside) c.self.inside.core_map c.self.inside.swap_map c.self.invariant.sound c.self.invariant.maps c.self.invariant.table c.count.ensures.few c.count-2.ensures.few).0 in let b = c.take_place.ensures.few_core in omega (arith, a, b)

pub give_back-requires-clause-swap_room : goal.give_back-requires-clause-swap_room
give_back-requires-clause-swap_room c = let a = (both_room (stock_in c.self.inside) c.self.inside.core_map c.self.inside.swap_map c.self.invariant.sound c.self.invariant.maps c.self.invariant.table c.count.ensures.few c.count-2.ensures.few).1 in let b = c.take_place.ensures.few_swap in omega (arith, a, b)

pub move_text-requires-clause-few : goal.move_text-requires-clause-few
move_text-requires-clause-few c = (moved_text (stock_in c.self.inside) c.args.self.now.kept c.args.s c.args.d c.args.stack c.place_click-at.result c.place_click-to.result c.place_of-from.result c.in-Some.place c.area.result c.sized_bytes-bytes.result c.self.inside.core_map c.self.inside.swap_map c.take_place.new.core_map c.give_back.new.core_map c.take_place.new.swap_map c.give_back.new.swap_map c.row_of-row.result (kept_is c.self.view_is) c.self.invariant.sound c.self.invariant.maps c.self.invariant.counted c.self.invariant.told c.requires.image (rw c.deref.ensures.value at c.row_of-row.ensures) c.place_of-from.ensures c.requires.segments c.area.ensures.u c.sized_bytes-bytes.ensures.sized c.sized_bytes-bytes.ensures.written (search rules) (sym (placed_is (stock_in c.self.inside) c.args.self.now.kept c.args.s (16 + c.args.d + c.args.stack) c.self.inside.core_map c.self.inside.swap_map c.may_stand-stands.result c.row_of-row.result (Some c.in-Some.place) (kept_is c.self.view_is) c.self.invariant.sound c.self.invariant.maps (rw c.deref.ensures.value at c.row_of-row.ensures) c.may_stand-stands.ensures c.in-Some.ensures.fit)) c.place_click-at.ensures c.place_click-to.ensures c.in-Some.ensures.core c.in-Some.ensures.swap c.give_back.ensures.core c.give_back.ensures.swap c.self.invariant.table c.count-3.ensures.few).few

pub move_text-requires-clause-some : goal.move_text-requires-clause-some
move_text-requires-clause-some c = (moved_text (stock_in c.self.inside) c.args.self.now.kept c.args.s c.args.d c.args.stack c.place_click-at.result c.place_click-to.result c.place_of-from.result c.in-Some.place c.area.result c.sized_bytes-bytes.result c.self.inside.core_map c.self.inside.swap_map c.take_place.new.core_map c.give_back.new.core_map c.take_place.new.swap_map c.give_back.new.swap_map c.row_of-row.result (kept_is c.self.view_is) c.self.invariant.sound c.self.invariant.maps c.self.invariant.counted c.self.invariant.told c.requires.image (rw c.deref.ensures.value at c.row_of-row.ensures) c.place_of-from.ensures c.requires.segments c.area.ensures.u c.sized_bytes-bytes.ensures.sized c.sized_bytes-bytes.ensures.written (search rules) (sym (placed_is (stock_in c.self.inside) c.args.self.now.kept c.args.s (16 + c.args.d + c.args.stack) c.self.inside.core_map c.self.inside.swap_map c.may_stand-stands.result c.row_of-row.result (Some c.in-Some.place) (kept_is c.self.view_is) c.self.invariant.sound c.self.invariant.maps (rw c.deref.ensures.value at c.row_of-row.ensures) c.may_stand-stands.ensures c.in-Some.ensures.fit)) c.place_click-at.ensures c.place_click-to.ensures c.in-Some.ensures.core c.in-Some.ensures.swap c.give_back.ensures.core c.give_back.ensures.swap c.self.invariant.table c.count-3.ensures.few).some

pub move_text-requires-clause-clicks : goal.move_text-requires-clause-clicks
move_text-requires-clause-clicks c = (moved_text (stock_in c.self.inside) c.args.self.now.kept c.args.s c.args.d c.args.stack c.place_click-at.result c.place_click-to.result c.place_of-from.result c.in-Some.place c.area.result c.sized_bytes-bytes.result c.self.inside.core_map c.self.inside.swap_map c.take_place.new.core_map c.give_back.new.core_map c.take_place.new.swap_map c.give_back.new.swap_map c.row_of-row.result (kept_is c.self.view_is) c.self.invariant.sound c.self.invariant.maps c.self.invariant.counted c.self.invariant.told c.requires.image (rw c.deref.ensures.value at c.row_of-row.ensures) c.place_of-from.ensures c.requires.segments c.area.ensures.u c.sized_bytes-bytes.ensures.sized c.sized_bytes-bytes.ensures.written (search rules) (sym (placed_is (stock_in c.self.inside) c.args.self.now.kept c.args.s (16 + c.args.d + c.args.stack) c.self.inside.core_map c.self.inside.swap_map c.may_stand-stands.result c.row_of-row.result (Some c.in-Some.place) (kept_is c.self.view_is) c.self.invariant.sound c.self.invariant.maps (rw c.deref.ensures.value at c.row_of-row.ensures) c.may_stand-stands.ensures c.in-Some.ensures.fit)) c.place_click-at.ensures c.place_click-to.ensures c.in-Some.ensures.core c.in-Some.ensures.swap c.give_back.ensures.core c.give_back.ensures.swap c.self.invariant.table c.count-3.ensures.few).clicks

pub move_text-requires-clause-small : goal.move_text-requires-clause-small
move_text-requires-clause-small c = (moved_text (stock_in c.self.inside) c.args.self.now.kept c.args.s c.args.d c.args.stack c.place_click-at.result c.place_click-to.result c.place_of-from.result c.in-Some.place c.area.result c.sized_bytes-bytes.result c.self.inside.core_map c.self.inside.swap_map c.take_place.new.core_map c.give_back.new.core_map c.take_place.new.swap_map c.give_back.new.swap_map c.row_of-row.result (kept_is c.self.view_is) c.self.invariant.sound c.self.invariant.maps c.self.invariant.counted c.self.invariant.told c.requires.image (rw c.deref.ensures.value at c.row_of-row.ensures) c.place_of-from.ensures c.requires.segments c.area.ensures.u c.sized_bytes-bytes.ensures.sized c.sized_bytes-bytes.ensures.written (search rules) (sym (placed_is (stock_in c.self.inside) c.args.self.now.kept c.args.s (16 + c.args.d + c.args.stack) c.self.inside.core_map c.self.inside.swap_map c.may_stand-stands.result c.row_of-row.result (Some c.in-Some.place) (kept_is c.self.view_is) c.self.invariant.sound c.self.invariant.maps (rw c.deref.ensures.value at c.row_of-row.ensures) c.may_stand-stands.ensures c.in-Some.ensures.fit)) c.place_click-at.ensures c.place_click-to.ensures c.in-Some.ensures.core c.in-Some.ensures.swap c.give_back.ensures.core c.give_back.ensures.swap c.self.invariant.table c.count-3.ensures.few).small

pub move_text-requires-clause-taken : goal.move_text-requires-clause-taken
move_text-requires-clause-taken c = (moved_text (stock_in c.self.inside) c.args.self.now.kept c.args.s c.args.d c.args.stack c.place_click-at.result c.place_click-to.result c.place_of-from.result c.in-Some.place c.area.result c.sized_bytes-bytes.result c.self.inside.core_map c.self.inside.swap_map c.take_place.new.core_map c.give_back.new.core_map c.take_place.new.swap_map c.give_back.new.swap_map c.row_of-row.result (kept_is c.self.view_is) c.self.invariant.sound c.self.invariant.maps c.self.invariant.counted c.self.invariant.told c.requires.image (rw c.deref.ensures.value at c.row_of-row.ensures) c.place_of-from.ensures c.requires.segments c.area.ensures.u c.sized_bytes-bytes.ensures.sized c.sized_bytes-bytes.ensures.written (search rules) (sym (placed_is (stock_in c.self.inside) c.args.self.now.kept c.args.s (16 + c.args.d + c.args.stack) c.self.inside.core_map c.self.inside.swap_map c.may_stand-stands.result c.row_of-row.result (Some c.in-Some.place) (kept_is c.self.view_is) c.self.invariant.sound c.self.invariant.maps (rw c.deref.ensures.value at c.row_of-row.ensures) c.may_stand-stands.ensures c.in-Some.ensures.fit)) c.place_click-at.ensures c.place_click-to.ensures c.in-Some.ensures.core c.in-Some.ensures.swap c.give_back.ensures.core c.give_back.ensures.swap c.self.invariant.table c.count-3.ensures.few).taken

pub move_text-requires-clause-room : goal.move_text-requires-clause-room
move_text-requires-clause-room c = (moved_text (stock_in c.self.inside) c.args.self.now.kept c.args.s c.args.d c.args.stack c.place_click-at.result c.place_click-to.result c.place_of-from.result c.in-Some.place c.area.result c.sized_bytes-bytes.result c.self.inside.core_map c.self.inside.swap_map c.take_place.new.core_map c.give_back.new.core_map c.take_place.new.swap_map c.give_back.new.swap_map c.row_of-row.result (kept_is c.self.view_is) c.self.invariant.sound c.self.invariant.maps c.self.invariant.counted c.self.invariant.told c.requires.image (rw c.deref.ensures.value at c.row_of-row.ensures) c.place_of-from.ensures c.requires.segments c.area.ensures.u c.sized_bytes-bytes.ensures.sized c.sized_bytes-bytes.ensures.written (search rules) (sym (placed_is (stock_in c.self.inside) c.args.self.now.kept c.args.s (16 + c.args.d + c.args.stack) c.self.inside.core_map c.self.inside.swap_map c.may_stand-stands.result c.row_of-row.result (Some c.in-Some.place) (kept_is c.self.view_is) c.self.invariant.sound c.self.invariant.maps (rw c.deref.ensures.value at c.row_of-row.ensures) c.may_stand-stands.ensures c.in-Some.ensures.fit)) c.place_click-at.ensures c.place_click-to.ensures c.in-Some.ensures.core c.in-Some.ensures.swap c.give_back.ensures.core c.give_back.ensures.swap c.self.invariant.table c.count-3.ensures.few).room

pub invariant_of-self-2 : goal.invariant_of-self-2
invariant_of-self-2 c = let g = (grows (stock_in c.self.inside) c.args.self.now.kept c.args.s c.args.d c.args.stack c.place_click-at.result c.place_click-to.result c.place_of-from.result c.in-Some.place c.area.result c.sized_bytes-bytes.result c.self.inside.core_map c.self.inside.swap_map c.take_place.new.core_map c.give_back.new.core_map c.take_place.new.swap_map c.give_back.new.swap_map c.row_of-row.result (kept_is c.self.view_is) c.self.invariant.sound c.self.invariant.maps c.self.invariant.counted c.self.invariant.told c.requires.image (rw c.deref.ensures.value at c.row_of-row.ensures) c.place_of-from.ensures c.requires.segments c.area.ensures.u c.sized_bytes-bytes.ensures.sized c.sized_bytes-bytes.ensures.written (search rules) (sym (placed_is (stock_in c.self.inside) c.args.self.now.kept c.args.s (16 + c.args.d + c.args.stack) c.self.inside.core_map c.self.inside.swap_map c.may_stand-stands.result c.row_of-row.result (Some c.in-Some.place) (kept_is c.self.view_is) c.self.invariant.sound c.self.invariant.maps (rw c.deref.ensures.value at c.row_of-row.ensures) c.may_stand-stands.ensures c.in-Some.ensures.fit)) c.place_click-at.ensures c.place_click-to.ensures c.in-Some.ensures.core c.in-Some.ensures.swap c.give_back.ensures.core c.give_back.ensures.swap c.move_text.new.core_map (line_of c.lay_resized.new.memory) c.move_text.new.texts (with_items c.self.inside.rows c.set_row.new.rows).items c.move_text.ensures.core c.lay_resized.ensures.line c.move_text.ensures.texts (with_items_is c.self.inside.rows c.set_row.new.rows (c.set_row.ensures.long ∙ c.deref_mut.ensures.len) ∙ (rw c.deref_mut.ensures.value at c.set_row.ensures.rows) ∙ ap (set c.self.inside.rows.items c.args.s) c.sized_row.ensures)) in record { sound = g.sound; maps = g.maps; table = ap length c.move_text.ensures.texts ∙ moved_long c.self.inside.texts c.row_of-row.result.text (Some c.place_of-from.result) c.in-Some.place ∙ c.self.invariant.table; cut = c.lay_resized.ensures.core ∙ c.self.invariant.cut; counted = g.counted; told = g.told }

pub returns-clause-place : goal.returns-clause-place
returns-clause-place c = sym (placed_is (stock_in c.self.inside) c.args.self.now.kept c.args.s (16 + c.args.d + c.args.stack) c.self.inside.core_map c.self.inside.swap_map c.may_stand-stands.result c.row_of-row.result (Some c.in-Some.place) (kept_is c.self.view_is) c.self.invariant.sound c.self.invariant.maps (rw c.deref.ensures.value at c.row_of-row.ensures) c.may_stand-stands.ensures c.in-Some.ensures.fit)

pub returns-clause-kept : goal.returns-clause-kept
returns-clause-kept c = (grows (stock_in c.self.inside) c.args.self.now.kept c.args.s c.args.d c.args.stack c.place_click-at.result c.place_click-to.result c.place_of-from.result c.in-Some.place c.area.result c.sized_bytes-bytes.result c.self.inside.core_map c.self.inside.swap_map c.take_place.new.core_map c.give_back.new.core_map c.take_place.new.swap_map c.give_back.new.swap_map c.row_of-row.result (kept_is c.self.view_is) c.self.invariant.sound c.self.invariant.maps c.self.invariant.counted c.self.invariant.told c.requires.image (rw c.deref.ensures.value at c.row_of-row.ensures) c.place_of-from.ensures c.requires.segments c.area.ensures.u c.sized_bytes-bytes.ensures.sized c.sized_bytes-bytes.ensures.written (search rules) (sym (placed_is (stock_in c.self.inside) c.args.self.now.kept c.args.s (16 + c.args.d + c.args.stack) c.self.inside.core_map c.self.inside.swap_map c.may_stand-stands.result c.row_of-row.result (Some c.in-Some.place) (kept_is c.self.view_is) c.self.invariant.sound c.self.invariant.maps (rw c.deref.ensures.value at c.row_of-row.ensures) c.may_stand-stands.ensures c.in-Some.ensures.fit)) c.place_click-at.ensures c.place_click-to.ensures c.in-Some.ensures.core c.in-Some.ensures.swap c.give_back.ensures.core c.give_back.ensures.swap c.move_text.new.core_map (line_of c.lay_resized.new.memory) c.move_text.new.texts (with_items c.self.inside.rows c.set_row.new.rows).items c.move_text.ensures.core c.lay_resized.ensures.line c.move_text.ensures.texts (with_items_is c.self.inside.rows c.set_row.new.rows (c.set_row.ensures.long ∙ c.deref_mut.ensures.len) ∙ (rw c.deref_mut.ensures.value at c.set_row.ensures.rows) ∙ ap (set c.self.inside.rows.items c.args.s) c.sized_row.ensures)).kept ∙ ap (with_image_moved c.args.self.now.kept c.args.s (area_resized (area_of c.args.self.now.kept c.args.s) c.args.d c.args.stack) (image_resized (image_of c.args.self.now.kept c.args.s) c.args.d c.args.stack)) (placed_is (stock_in c.self.inside) c.args.self.now.kept c.args.s (16 + c.args.d + c.args.stack) c.self.inside.core_map c.self.inside.swap_map c.may_stand-stands.result c.row_of-row.result (Some c.in-Some.place) (kept_is c.self.view_is) c.self.invariant.sound c.self.invariant.maps (rw c.deref.ensures.value at c.row_of-row.ensures) c.may_stand-stands.ensures c.in-Some.ensures.fit)

pub returns-clause-written : goal.returns-clause-written
returns-clause-written c =
    let v = stock_in c.self.inside in
    let core : c.self.inside.core ≡ c.args.self.now.kept.core =
    sym (core_kept v) ∙ ap (λ (k : Kept). k.core) (kept_is c.self.view_is) in
    let at = c.place_click-to.ensures ∙ ap (λ n. place_at n c.in-Some.place) core in
    let bytes =
    resized_is v c.args.self.now.kept c.args.s c.place_of-from.result c.area.result c.args.d c.args.stack c.place_click-at.result
    c.row_of-row.result c.sized_bytes-bytes.result (kept_is c.self.view_is) (rw c.deref.ensures.value at c.row_of-row.ensures)
    c.place_of-from.ensures c.area.ensures.u c.sized_bytes-bytes.ensures.written c.place_click-at.ensures in (
      c.lay_resized.ensures.core ∙ ap length (core_is c.self.view_is),
      c.lay_resized.ensures.line ∙ (λ i. over (line_is c.self.view_is i) (at i) (bytes i)),
    )
