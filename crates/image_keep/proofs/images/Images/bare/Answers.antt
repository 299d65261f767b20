use Rattle.image_keep.proofs.StateOf.{kept_is}
use Rattle.std.proofs.Common.{◌≡◌, ◌≤◌, ◌+◌, ◌∙◌, ℕ, true, false, sym, ap, subst, set}
use Rattle.std.specs.Vec.{with_items}
use Rattle.std.proofs.lemmas.List.{with_items_is}
use Rattle.map_fit.specs.Free.{is_free}
use Rattle.image_keep.specs.declared.row.Row.{Row}
use Rattle.image_keep.specs.Inside.{stock_in}
use Rattle.image_keep.specs.Memory.{clicks_in}
use Rattle.image_keep.specs.Maps.{InsideBy, core_units, swap_units}
use Rattle.image_keep.proofs.AreaSet.{known}
use Rattle.image_keep.proofs.Ended.{freed, units_taken, both_room, row_inside}
use Rattle.image_keep.proofs.Told.{bare_told}
use Rattle.image_keep.proofs.images.Images.bare.Goals as goal

pub row_of-row-requires : goal.row_of-row-requires
row_of-row-requires c = rw c.deref.ensures.value ((known (stock_in c.self.inside) c.args.self.now.kept c.args.s (kept_is c.self.view_is) c.self.invariant.sound c.self.invariant.counted c.requires.image).low)

pub give_back-requires-clause-sizes : goal.give_back-requires-clause-sizes
give_back-requires-clause-sizes c = subst (λ (r : Row). r.data_size + r.stack_size ≤ 1024) (sym (rw c.deref.ensures.value at c.row_of-row.ensures)) (known (stock_in c.self.inside) c.args.self.now.kept c.args.s (kept_is c.self.view_is) c.self.invariant.sound c.self.invariant.counted c.requires.image).sizes

pub give_back-requires-clause-inside : goal.give_back-requires-clause-inside
give_back-requires-clause-inside c = (c.self.inside.core, c.self.invariant.sound.most, subst (λ (r : Row). InsideBy c.self.inside.core r.state (clicks_in r)) (sym (rw c.deref.ensures.value at c.row_of-row.ensures)) (row_inside (stock_in c.self.inside) c.args.s c.self.invariant.sound))

pub give_back-requires-clause-core_taken : goal.give_back-requires-clause-core_taken
give_back-requires-clause-core_taken c = subst (λ (r : Row). (x : ℕ) → core_units r.state (clicks_in r) x ≡ true → is_free c.self.inside.core_map x ≡ false) (sym (rw c.deref.ensures.value at c.row_of-row.ensures)) (units_taken (stock_in c.self.inside) c.self.inside.core_map c.self.inside.swap_map c.args.s c.self.invariant.sound c.self.invariant.maps).0

pub give_back-requires-clause-core_room : goal.give_back-requires-clause-core_room
give_back-requires-clause-core_room c = (both_room (stock_in c.self.inside) c.self.inside.core_map c.self.inside.swap_map c.self.invariant.sound c.self.invariant.maps c.self.invariant.table c.count.ensures.few c.count-2.ensures.few).0

pub set_row-requires : goal.set_row-requires
set_row-requires c = rw c.deref_mut.ensures.value ((known (stock_in c.self.inside) c.args.self.now.kept c.args.s (kept_is c.self.view_is) c.self.invariant.sound c.self.invariant.counted c.requires.image).low)

pub give_back-requires-clause-swap_taken : goal.give_back-requires-clause-swap_taken
give_back-requires-clause-swap_taken c = subst (λ (r : Row). (x : ℕ) → swap_units r.state (clicks_in r) x ≡ true → is_free c.self.inside.swap_map x ≡ false) (sym (rw c.deref.ensures.value at c.row_of-row.ensures)) (units_taken (stock_in c.self.inside) c.self.inside.core_map c.self.inside.swap_map c.args.s c.self.invariant.sound c.self.invariant.maps).1

pub give_back-requires-clause-swap_room : goal.give_back-requires-clause-swap_room
give_back-requires-clause-swap_room c = (both_room (stock_in c.self.inside) c.self.inside.core_map c.self.inside.swap_map c.self.invariant.sound c.self.invariant.maps c.self.invariant.table c.count.ensures.few c.count-2.ensures.few).1

pub invariant_of-self : goal.invariant_of-self
invariant_of-self c = let g = (freed (stock_in c.self.inside) c.args.self.now.kept c.args.s c.self.inside.core_map c.self.inside.swap_map c.give_back.new.core_map c.give_back.new.swap_map c.row_of-row.result (with_items c.self.inside.rows c.set_row.new.rows).items (kept_is c.self.view_is) c.self.invariant.sound c.self.invariant.maps c.self.invariant.counted (known (stock_in c.self.inside) c.args.self.now.kept c.args.s (kept_is c.self.view_is) c.self.invariant.sound c.self.invariant.counted c.requires.image).low c.requires.no_text (rw c.deref.ensures.value at c.row_of-row.ensures) c.give_back.ensures.core c.give_back.ensures.swap (with_items_is c.self.inside.rows c.set_row.new.rows (c.set_row.ensures.long ∙ c.deref_mut.ensures.len) ∙ (rw c.deref_mut.ensures.value at c.set_row.ensures.rows) ∙ ap (set c.self.inside.rows.items c.args.s) c.nothing_row.ensures)) in record { sound = g.sound; maps = g.maps; table = c.self.invariant.table; cut = c.self.invariant.cut; counted = g.counted; told = bare_told _ _ c.args.self.now.kept c.args.s (kept_is c.self.view_is) g.kept c.self.invariant.told }

pub returns : goal.returns
returns c = (freed (stock_in c.self.inside) c.args.self.now.kept c.args.s c.self.inside.core_map c.self.inside.swap_map c.give_back.new.core_map c.give_back.new.swap_map c.row_of-row.result (with_items c.self.inside.rows c.set_row.new.rows).items (kept_is c.self.view_is) c.self.invariant.sound c.self.invariant.maps c.self.invariant.counted (known (stock_in c.self.inside) c.args.self.now.kept c.args.s (kept_is c.self.view_is) c.self.invariant.sound c.self.invariant.counted c.requires.image).low c.requires.no_text (rw c.deref.ensures.value at c.row_of-row.ensures) c.give_back.ensures.core c.give_back.ensures.swap (with_items_is c.self.inside.rows c.set_row.new.rows (c.set_row.ensures.long ∙ c.deref_mut.ensures.len) ∙ (rw c.deref_mut.ensures.value at c.set_row.ensures.rows) ∙ ap (set c.self.inside.rows.items c.args.s) c.nothing_row.ensures)).kept
