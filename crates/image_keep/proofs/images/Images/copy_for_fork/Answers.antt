use Rattle.image_keep.proofs.StateOf.{kept_is}
use Rattle.std.proofs.Common.{◌≤◌, ◌+◌, ◌∙◌, length, sym, ap, arith, subst, set, Some, None}
use Rattle.std.specs.Vec.{with_items}
use Rattle.std.proofs.lemmas.List.{with_items_is}
use Rattle.image_keep.specs.declared.row.Row.{Row}
use Rattle.image_keep.specs.Inside.{stock_in}
use Rattle.image_keep.specs.Line.{line_of}
use Rattle.image_keep.specs.Memory.{is_alive}
use Rattle.image_keep.specs.Places.{placed}
use Rattle.image_keep.specs.Moves.{forked_at}
use Rattle.image_keep.proofs.AreaSet.{known, at_place_of}
use Rattle.image_keep.proofs.Facts.{few_users}
use Rattle.image_keep.proofs.SwapOut.{out_clicks}
use Rattle.image_keep.proofs.KeptForm.{row_low}
use Rattle.image_keep.proofs.Found.{placed_is, place_found, place_inside}
use Rattle.image_keep.proofs.Forking.{forks, forked_long}
use Rattle.image_keep.proofs.images.Images.copy_for_fork.Goals as goal

pub row_of-row-requires : goal.row_of-row-requires
row_of-row-requires c = rw c.deref.ensures.value ((known (stock_in c.self.inside) c.args.self.now.kept c.args.from (kept_is c.self.view_is) c.self.invariant.sound c.self.invariant.counted c.requires.image).low)

pub clicks_of-clicks-requires : goal.clicks_of-clicks-requires
clicks_of-clicks-requires c = let g = subst (λ (r : Row). r.data_size + r.stack_size ≤ 1024) (sym (rw c.deref.ensures.value at c.row_of-row.ensures)) (known (stock_in c.self.inside) c.args.self.now.kept c.args.from (kept_is c.self.view_is) c.self.invariant.sound c.self.invariant.counted c.requires.image).sizes in omega (arith, g)

pub place_of-requires : goal.place_of-requires
place_of-requires c = ap is_alive (ap (λ (r : Row). r.state) (rw c.deref.ensures.value at c.row_of-row.ensures) ∙ (known (stock_in c.self.inside) c.args.self.now.kept c.args.from (kept_is c.self.view_is) c.self.invariant.sound c.self.invariant.counted c.requires.image).is)

pub returns-in-None-clause-place : goal.returns-in-None-clause-place
returns-in-None-clause-place c = ap (placed c.args.self.now.kept c.args.from) (out_clicks (stock_in c.self.inside) c.args.self.now.kept c.args.from c.place_of.result c.row_of-row.result c.clicks_of-clicks.result (kept_is c.self.view_is) c.self.invariant.sound (at_place_of (stock_in c.self.inside) c.args.self.now.kept c.args.from c.row_of-row.result c.place_of.result (kept_is c.self.view_is) c.self.invariant.sound c.self.invariant.counted c.requires.image (rw c.deref.ensures.value at c.row_of-row.ensures) c.place_of.ensures).is (rw c.deref.ensures.value at c.row_of-row.ensures) c.clicks_of-clicks.ensures) ∙ sym (placed_is (stock_in c.self.inside) c.args.self.now.kept c.args.from c.clicks_of-clicks.result c.self.inside.core_map c.self.inside.swap_map c.may_stand-stands.result c.row_of-row.result None (kept_is c.self.view_is) c.self.invariant.sound c.self.invariant.maps (rw c.deref.ensures.value at c.row_of-row.ensures) c.may_stand-stands.ensures c.in-None.ensures.fit)

pub returns-in-None-clause-kept : goal.returns-in-None-clause-kept
returns-in-None-clause-kept c = (kept_is c.self.view_is) ∙ ap (forked_at c.args.self.now.kept c.args.from c.args.to) ((placed_is (stock_in c.self.inside) c.args.self.now.kept c.args.from c.clicks_of-clicks.result c.self.inside.core_map c.self.inside.swap_map c.may_stand-stands.result c.row_of-row.result None (kept_is c.self.view_is) c.self.invariant.sound c.self.invariant.maps (rw c.deref.ensures.value at c.row_of-row.ensures) c.may_stand-stands.ensures c.in-None.ensures.fit) ∙ sym (ap (placed c.args.self.now.kept c.args.from) (out_clicks (stock_in c.self.inside) c.args.self.now.kept c.args.from c.place_of.result c.row_of-row.result c.clicks_of-clicks.result (kept_is c.self.view_is) c.self.invariant.sound (at_place_of (stock_in c.self.inside) c.args.self.now.kept c.args.from c.row_of-row.result c.place_of.result (kept_is c.self.view_is) c.self.invariant.sound c.self.invariant.counted c.requires.image (rw c.deref.ensures.value at c.row_of-row.ensures) c.place_of.ensures).is (rw c.deref.ensures.value at c.row_of-row.ensures) c.clicks_of-clicks.ensures)))

pub place_click-copy-requires : goal.place_click-copy-requires
place_click-copy-requires c = (c.clicks_of-clicks.result, (place_found (stock_in c.self.inside) c.args.self.now.kept c.args.from c.clicks_of-clicks.result c.in-Some.place (kept_is c.self.view_is) c.self.invariant.sound (sym (placed_is (stock_in c.self.inside) c.args.self.now.kept c.args.from c.clicks_of-clicks.result c.self.inside.core_map c.self.inside.swap_map c.may_stand-stands.result c.row_of-row.result (Some c.in-Some.place) (kept_is c.self.view_is) c.self.invariant.sound c.self.invariant.maps (rw c.deref.ensures.value at c.row_of-row.ensures) c.may_stand-stands.ensures c.in-Some.ensures.fit))).inside)

pub copy-requires-clause-to : goal.copy-requires-clause-to
copy-requires-clause-to c = (place_inside c.self.inside.core c.clicks_of-clicks.result c.place_click-copy.result c.in-Some.place (length c.self.inside.memory.core) (length (line_of c.self.inside.memory)) (place_found (stock_in c.self.inside) c.args.self.now.kept c.args.from c.clicks_of-clicks.result c.in-Some.place (kept_is c.self.view_is) c.self.invariant.sound (sym (placed_is (stock_in c.self.inside) c.args.self.now.kept c.args.from c.clicks_of-clicks.result c.self.inside.core_map c.self.inside.swap_map c.may_stand-stands.result c.row_of-row.result (Some c.in-Some.place) (kept_is c.self.view_is) c.self.invariant.sound c.self.invariant.maps (rw c.deref.ensures.value at c.row_of-row.ensures) c.may_stand-stands.ensures c.in-Some.ensures.fit))).inside c.place_click-copy.ensures c.self.invariant.cut c.self.invariant.sound.size).0

pub copy-requires-clause-to_inside : goal.copy-requires-clause-to_inside
copy-requires-clause-to_inside c = (place_inside c.self.inside.core c.clicks_of-clicks.result c.place_click-copy.result c.in-Some.place (length c.self.inside.memory.core) (length (line_of c.self.inside.memory)) (place_found (stock_in c.self.inside) c.args.self.now.kept c.args.from c.clicks_of-clicks.result c.in-Some.place (kept_is c.self.view_is) c.self.invariant.sound (sym (placed_is (stock_in c.self.inside) c.args.self.now.kept c.args.from c.clicks_of-clicks.result c.self.inside.core_map c.self.inside.swap_map c.may_stand-stands.result c.row_of-row.result (Some c.in-Some.place) (kept_is c.self.view_is) c.self.invariant.sound c.self.invariant.maps (rw c.deref.ensures.value at c.row_of-row.ensures) c.may_stand-stands.ensures c.in-Some.ensures.fit))).inside c.place_click-copy.ensures c.self.invariant.cut c.self.invariant.sound.size).1

pub fork_text-requires-clause-few_users : goal.fork_text-requires-clause-few_users
fork_text-requires-clause-few_users c t e = (few_users (stock_in c.self.inside) c.args.from c.row_of-row.result c.self.invariant.sound c.self.invariant.counted (rw c.deref.ensures.value at c.row_of-row.ensures) t e).0

pub fork_text-requires-clause-few_loaded : goal.fork_text-requires-clause-few_loaded
fork_text-requires-clause-few_loaded c t e = (few_users (stock_in c.self.inside) c.args.from c.row_of-row.result c.self.invariant.sound c.self.invariant.counted (rw c.deref.ensures.value at c.row_of-row.ensures) t e).1

pub invariant_of-self-2 : goal.invariant_of-self-2
invariant_of-self-2 c = let g = (forks (stock_in c.self.inside) c.args.self.now.kept c.args.from c.args.to c.clicks_of-clicks.result c.place_click-at.result c.place_click-copy.result c.place_of.result c.in-Some.place c.self.inside.core_map c.self.inside.swap_map c.take_place.new.core_map c.take_place.new.swap_map c.row_of-row.result (line_of c.copy.new.self) c.fork_text.new.texts (with_items c.self.inside.rows c.set_row.new.rows).items (kept_is c.self.view_is) c.self.invariant.sound c.self.invariant.maps c.self.invariant.counted c.self.invariant.told (row_low (stock_in c.self.inside) c.args.to c.self.invariant.sound c.requires.slot) c.requires.image c.requires.nothing c.requires.no_text (rw c.deref.ensures.value at c.row_of-row.ensures) c.place_of.ensures c.clicks_of-clicks.ensures (sym (placed_is (stock_in c.self.inside) c.args.self.now.kept c.args.from c.clicks_of-clicks.result c.self.inside.core_map c.self.inside.swap_map c.may_stand-stands.result c.row_of-row.result (Some c.in-Some.place) (kept_is c.self.view_is) c.self.invariant.sound c.self.invariant.maps (rw c.deref.ensures.value at c.row_of-row.ensures) c.may_stand-stands.ensures c.in-Some.ensures.fit)) c.place_click-at.ensures c.place_click-copy.ensures c.in-Some.ensures.core c.in-Some.ensures.swap c.copy.ensures.bytes c.fork_text.ensures (with_items_is c.self.inside.rows c.set_row.new.rows (c.set_row.ensures.long ∙ c.deref_mut.ensures.len) ∙ (rw c.deref_mut.ensures.value at c.set_row.ensures.rows) ∙ ap (set c.self.inside.rows.items c.args.to) c.at_row.ensures)) in record { sound = g.sound; maps = g.maps; table = ap length c.fork_text.ensures ∙ forked_long c.self.inside.texts c.row_of-row.result.text c.in-Some.place ∙ c.self.invariant.table; cut = c.copy.ensures.core ∙ c.self.invariant.cut; counted = g.counted; told = g.told }

pub returns-clause-place : goal.returns-clause-place
returns-clause-place c = ap (placed c.args.self.now.kept c.args.from) (out_clicks (stock_in c.self.inside) c.args.self.now.kept c.args.from c.place_of.result c.row_of-row.result c.clicks_of-clicks.result (kept_is c.self.view_is) c.self.invariant.sound (at_place_of (stock_in c.self.inside) c.args.self.now.kept c.args.from c.row_of-row.result c.place_of.result (kept_is c.self.view_is) c.self.invariant.sound c.self.invariant.counted c.requires.image (rw c.deref.ensures.value at c.row_of-row.ensures) c.place_of.ensures).is (rw c.deref.ensures.value at c.row_of-row.ensures) c.clicks_of-clicks.ensures) ∙ sym (placed_is (stock_in c.self.inside) c.args.self.now.kept c.args.from c.clicks_of-clicks.result c.self.inside.core_map c.self.inside.swap_map c.may_stand-stands.result c.row_of-row.result (Some c.in-Some.place) (kept_is c.self.view_is) c.self.invariant.sound c.self.invariant.maps (rw c.deref.ensures.value at c.row_of-row.ensures) c.may_stand-stands.ensures c.in-Some.ensures.fit)

pub returns-clause-kept : goal.returns-clause-kept
returns-clause-kept c = (forks (stock_in c.self.inside) c.args.self.now.kept c.args.from c.args.to c.clicks_of-clicks.result c.place_click-at.result c.place_click-copy.result c.place_of.result c.in-Some.place c.self.inside.core_map c.self.inside.swap_map c.take_place.new.core_map c.take_place.new.swap_map c.row_of-row.result (line_of c.copy.new.self) c.fork_text.new.texts (with_items c.self.inside.rows c.set_row.new.rows).items (kept_is c.self.view_is) c.self.invariant.sound c.self.invariant.maps c.self.invariant.counted c.self.invariant.told (row_low (stock_in c.self.inside) c.args.to c.self.invariant.sound c.requires.slot) c.requires.image c.requires.nothing c.requires.no_text (rw c.deref.ensures.value at c.row_of-row.ensures) c.place_of.ensures c.clicks_of-clicks.ensures (sym (placed_is (stock_in c.self.inside) c.args.self.now.kept c.args.from c.clicks_of-clicks.result c.self.inside.core_map c.self.inside.swap_map c.may_stand-stands.result c.row_of-row.result (Some c.in-Some.place) (kept_is c.self.view_is) c.self.invariant.sound c.self.invariant.maps (rw c.deref.ensures.value at c.row_of-row.ensures) c.may_stand-stands.ensures c.in-Some.ensures.fit)) c.place_click-at.ensures c.place_click-copy.ensures c.in-Some.ensures.core c.in-Some.ensures.swap c.copy.ensures.bytes c.fork_text.ensures (with_items_is c.self.inside.rows c.set_row.new.rows (c.set_row.ensures.long ∙ c.deref_mut.ensures.len) ∙ (rw c.deref_mut.ensures.value at c.set_row.ensures.rows) ∙ ap (set c.self.inside.rows.items c.args.to) c.at_row.ensures)).kept ∙ ap (forked_at c.args.self.now.kept c.args.from c.args.to) ((placed_is (stock_in c.self.inside) c.args.self.now.kept c.args.from c.clicks_of-clicks.result c.self.inside.core_map c.self.inside.swap_map c.may_stand-stands.result c.row_of-row.result (Some c.in-Some.place) (kept_is c.self.view_is) c.self.invariant.sound c.self.invariant.maps (rw c.deref.ensures.value at c.row_of-row.ensures) c.may_stand-stands.ensures c.in-Some.ensures.fit) ∙ sym (ap (placed c.args.self.now.kept c.args.from) (out_clicks (stock_in c.self.inside) c.args.self.now.kept c.args.from c.place_of.result c.row_of-row.result c.clicks_of-clicks.result (kept_is c.self.view_is) c.self.invariant.sound (at_place_of (stock_in c.self.inside) c.args.self.now.kept c.args.from c.row_of-row.result c.place_of.result (kept_is c.self.view_is) c.self.invariant.sound c.self.invariant.counted c.requires.image (rw c.deref.ensures.value at c.row_of-row.ensures) c.place_of.ensures).is (rw c.deref.ensures.value at c.row_of-row.ensures) c.clicks_of-clicks.ensures)))
