use Rattle.image_keep.proofs.StateOf.{kept_is}
use Rattle.std.proofs.Common.{◌≡◌, ◌≤◌, ◌+◌, ◌∙◌, ℕ, true, false, sym, ap, arith, length, subst, Some, None}
use Rattle.std.specs.Vec.{with_items}
use Rattle.std.proofs.lemmas.List.{with_items_is}
use Rattle.v6_base.specs.declared.entry.Place.TheVariants.{Core}
use Rattle.map_fit.specs.Free.{is_free, is_within}
use Rattle.image_keep.specs.declared.row.Row.{Row}
use Rattle.image_keep.specs.Inside.{stock_in}
use Rattle.image_keep.specs.Line.{line_of}
use Rattle.image_keep.specs.Memory.{is_alive, clicks_in, row_at, place_at}
use Rattle.image_keep.specs.Places.{blocks, swap_fit}
use Rattle.image_keep.specs.Maps.{InsideBy, core_units, swap_units}
use Rattle.image_keep.specs.Moves.{swapped_out}
use Rattle.image_keep.proofs.Facts.{facts}
use Rattle.image_keep.proofs.Places.{swap_found}
use Rattle.image_keep.proofs.AreaSet.{same_place}
use Rattle.image_keep.proofs.Ended.{units_taken, both_room, swap_fits, row_inside, still_taken}
use Rattle.image_keep.proofs.SwapOut.{gone_out, out_text, out_clicks, out_long, out_none}
use Rattle.image_keep.proofs.Told.{out_told}
use Rattle.image_keep.proofs.images.Images.swap_out.Goals as goal

pub row_of-row-requires : goal.row_of-row-requires
row_of-row-requires c = rw c.deref.ensures.value ((facts (stock_in c.self.inside) c.args.self.now.kept c.args.s (Core c.requires.0) (kept_is c.self.view_is) c.self.invariant.sound c.self.invariant.counted c.requires.1 c.requires.2).low)

pub clicks_of-clicks-requires : goal.clicks_of-clicks-requires
clicks_of-clicks-requires c = let a = subst (λ (r : Row). r.data_size + r.stack_size ≤ 1024) (sym (rw c.deref.ensures.value at c.row_of-row.ensures)) (facts (stock_in c.self.inside) c.args.self.now.kept c.args.s (Core c.requires.0) (kept_is c.self.view_is) c.self.invariant.sound c.self.invariant.counted c.requires.1 c.requires.2).sizes in omega (arith, a)

pub place_of-requires : goal.place_of-requires
place_of-requires c = ap is_alive (ap (λ (r : Row). r.state) (rw c.deref.ensures.value at c.row_of-row.ensures) ∙ (facts (stock_in c.self.inside) c.args.self.now.kept c.args.s (Core c.requires.0) (kept_is c.self.view_is) c.self.invariant.sound c.self.invariant.counted c.requires.1 c.requires.2).is)

pub returns-in-None-clause-block : goal.returns-in-None-clause-block
returns-in-None-clause-block c = (ap (λ i. swap_fit c.args.self.now.kept (blocks i)) (out_clicks (stock_in c.self.inside) c.args.self.now.kept c.args.s (Core c.requires.0) c.row_of-row.result c.clicks_of-clicks.result (kept_is c.self.view_is) c.self.invariant.sound (facts (stock_in c.self.inside) c.args.self.now.kept c.args.s (Core c.requires.0) (kept_is c.self.view_is) c.self.invariant.sound c.self.invariant.counted c.requires.1 c.requires.2).is (rw c.deref.ensures.value at c.row_of-row.ensures) c.clicks_of-clicks.ensures) ∙ ap (swap_fit c.args.self.now.kept) (sym c.blocks_of.ensures)) ∙ sym (swap_fits (stock_in c.self.inside) c.args.self.now.kept c.self.inside.core_map c.self.inside.swap_map c.blocks_of.result None (kept_is c.self.view_is) c.self.invariant.sound c.self.invariant.maps (λ taken first last m. sym c.in-None.is ∙ c.take.ensures.fit taken first last m))

pub returns-in-None-clause-kept : goal.returns-in-None-clause-kept
returns-in-None-clause-kept c = (kept_is c.self.view_is) ∙ sym (out_none c.args.self.now.kept c.args.s) ∙ ap (swapped_out c.args.self.now.kept c.args.s) ((swap_fits (stock_in c.self.inside) c.args.self.now.kept c.self.inside.core_map c.self.inside.swap_map c.blocks_of.result None (kept_is c.self.view_is) c.self.invariant.sound c.self.invariant.maps (λ taken first last m. sym c.in-None.is ∙ c.take.ensures.fit taken first last m)) ∙ sym (ap (λ i. swap_fit c.args.self.now.kept (blocks i)) (out_clicks (stock_in c.self.inside) c.args.self.now.kept c.args.s (Core c.requires.0) c.row_of-row.result c.clicks_of-clicks.result (kept_is c.self.view_is) c.self.invariant.sound (facts (stock_in c.self.inside) c.args.self.now.kept c.args.s (Core c.requires.0) (kept_is c.self.view_is) c.self.invariant.sound c.self.invariant.counted c.requires.1 c.requires.2).is (rw c.deref.ensures.value at c.row_of-row.ensures) c.clicks_of-clicks.ensures) ∙ ap (swap_fit c.args.self.now.kept) (sym c.blocks_of.ensures)))

pub block_click-to-requires : goal.block_click-to-requires
block_click-to-requires c = (swap_found (stock_in c.self.inside) c.in-Some.block c.blocks_of.result c.self.invariant.sound (ap (λ j. swap_fit j c.blocks_of.result) (kept_is c.self.view_is) ∙ sym (swap_fits (stock_in c.self.inside) c.args.self.now.kept c.self.inside.core_map c.self.inside.swap_map c.blocks_of.result (Some c.in-Some.block) (kept_is c.self.view_is) c.self.invariant.sound c.self.invariant.maps (λ taken first last m. sym c.in-Some.is ∙ c.take.ensures.fit taken first last m)))).low

pub copy-requires-clause-to_inside : goal.copy-requires-clause-to_inside
copy-requires-clause-to_inside c = let a = c.block_click-to.ensures in let f = (swap_found (stock_in c.self.inside) c.in-Some.block c.blocks_of.result c.self.invariant.sound (ap (λ j. swap_fit j c.blocks_of.result) (kept_is c.self.view_is) ∙ sym (swap_fits (stock_in c.self.inside) c.args.self.now.kept c.self.inside.core_map c.self.inside.swap_map c.blocks_of.result (Some c.in-Some.block) (kept_is c.self.view_is) c.self.invariant.sound c.self.invariant.maps (λ taken first last m. sym c.in-Some.is ∙ c.take.ensures.fit taken first last m)))) in let l = f.low in let h = f.high in let e = c.blocks_of.ensures in let z = c.self.invariant.sound.size in omega (arith, a, l, h, e, z)

pub give_back-requires-clause-inside : goal.give_back-requires-clause-inside
give_back-requires-clause-inside c = (c.self.inside.core, c.self.invariant.sound.most, subst (λ (r : Row). InsideBy c.self.inside.core r.state (clicks_in r)) (sym (rw c.deref.ensures.value at c.row_of-row.ensures)) (row_inside (stock_in c.self.inside) c.args.s c.self.invariant.sound))

pub give_back-requires-clause-core_taken : goal.give_back-requires-clause-core_taken
give_back-requires-clause-core_taken c = subst (λ (r : Row). (x : ℕ) → core_units r.state (clicks_in r) x ≡ true → is_free c.self.inside.core_map x ≡ false) (sym (rw c.deref.ensures.value at c.row_of-row.ensures)) (units_taken (stock_in c.self.inside) c.self.inside.core_map c.self.inside.swap_map c.args.s c.self.invariant.sound c.self.invariant.maps).0

pub give_back-requires-clause-swap_taken : goal.give_back-requires-clause-swap_taken
give_back-requires-clause-swap_taken c x e = still_taken (is_free c.self.inside.swap_map x) (is_free c.take.new.self x) (is_within c.in-Some.block c.blocks_of.result x) (c.in-Some.ensures.left x) ((units_taken (stock_in c.self.inside) c.self.inside.core_map c.self.inside.swap_map c.args.s c.self.invariant.sound c.self.invariant.maps).1 x (subst (λ (r : Row). swap_units r.state (clicks_in r) x ≡ true) (rw c.deref.ensures.value at c.row_of-row.ensures) e))

pub give_back-requires-clause-core_room : goal.give_back-requires-clause-core_room
give_back-requires-clause-core_room c = (both_room (stock_in c.self.inside) c.self.inside.core_map c.self.inside.swap_map c.self.invariant.sound c.self.invariant.maps c.self.invariant.table c.count.ensures.few c.count-2.ensures.few).0

pub give_back-requires-clause-swap_room : goal.give_back-requires-clause-swap_room
give_back-requires-clause-swap_room c = let a = (both_room (stock_in c.self.inside) c.self.inside.core_map c.self.inside.swap_map c.self.invariant.sound c.self.invariant.maps c.self.invariant.table c.count.ensures.few c.count-2.ensures.few).1 in let b = c.take.ensures.few in omega (arith, a, b)

pub unload_text-requires-clause-some : goal.unload_text-requires-clause-some
unload_text-requires-clause-some c = (out_text (stock_in c.self.inside) c.args.self.now.kept c.args.s c.requires.0 c.in-Some.block c.self.inside.core_map c.self.inside.swap_map c.give_back.new.core_map c.take.new.self c.give_back.new.swap_map c.row_of-row.result c.clicks_of-clicks.result (kept_is c.self.view_is) c.self.invariant.sound c.self.invariant.maps c.self.invariant.counted c.self.invariant.table (facts (stock_in c.self.inside) c.args.self.now.kept c.args.s (Core c.requires.0) (kept_is c.self.view_is) c.self.invariant.sound c.self.invariant.counted c.requires.1 c.requires.2).low (facts (stock_in c.self.inside) c.args.self.now.kept c.args.s (Core c.requires.0) (kept_is c.self.view_is) c.self.invariant.sound c.self.invariant.counted c.requires.1 c.requires.2).is (rw c.deref.ensures.value at c.row_of-row.ensures) c.clicks_of-clicks.ensures (ap (swap_fit c.args.self.now.kept) (sym c.blocks_of.ensures) ∙ sym (swap_fits (stock_in c.self.inside) c.args.self.now.kept c.self.inside.core_map c.self.inside.swap_map c.blocks_of.result (Some c.in-Some.block) (kept_is c.self.view_is) c.self.invariant.sound c.self.invariant.maps (λ taken first last m. sym c.in-Some.is ∙ c.take.ensures.fit taken first last m))) (rw c.blocks_of.ensures at c.in-Some.ensures.left) c.give_back.ensures.core c.give_back.ensures.swap c.count-3.ensures.few).some

pub unload_text-requires-clause-clicks : goal.unload_text-requires-clause-clicks
unload_text-requires-clause-clicks c = (out_text (stock_in c.self.inside) c.args.self.now.kept c.args.s c.requires.0 c.in-Some.block c.self.inside.core_map c.self.inside.swap_map c.give_back.new.core_map c.take.new.self c.give_back.new.swap_map c.row_of-row.result c.clicks_of-clicks.result (kept_is c.self.view_is) c.self.invariant.sound c.self.invariant.maps c.self.invariant.counted c.self.invariant.table (facts (stock_in c.self.inside) c.args.self.now.kept c.args.s (Core c.requires.0) (kept_is c.self.view_is) c.self.invariant.sound c.self.invariant.counted c.requires.1 c.requires.2).low (facts (stock_in c.self.inside) c.args.self.now.kept c.args.s (Core c.requires.0) (kept_is c.self.view_is) c.self.invariant.sound c.self.invariant.counted c.requires.1 c.requires.2).is (rw c.deref.ensures.value at c.row_of-row.ensures) c.clicks_of-clicks.ensures (ap (swap_fit c.args.self.now.kept) (sym c.blocks_of.ensures) ∙ sym (swap_fits (stock_in c.self.inside) c.args.self.now.kept c.self.inside.core_map c.self.inside.swap_map c.blocks_of.result (Some c.in-Some.block) (kept_is c.self.view_is) c.self.invariant.sound c.self.invariant.maps (λ taken first last m. sym c.in-Some.is ∙ c.take.ensures.fit taken first last m))) (rw c.blocks_of.ensures at c.in-Some.ensures.left) c.give_back.ensures.core c.give_back.ensures.swap c.count-3.ensures.few).clicks

pub unload_text-requires-clause-small : goal.unload_text-requires-clause-small
unload_text-requires-clause-small c = (out_text (stock_in c.self.inside) c.args.self.now.kept c.args.s c.requires.0 c.in-Some.block c.self.inside.core_map c.self.inside.swap_map c.give_back.new.core_map c.take.new.self c.give_back.new.swap_map c.row_of-row.result c.clicks_of-clicks.result (kept_is c.self.view_is) c.self.invariant.sound c.self.invariant.maps c.self.invariant.counted c.self.invariant.table (facts (stock_in c.self.inside) c.args.self.now.kept c.args.s (Core c.requires.0) (kept_is c.self.view_is) c.self.invariant.sound c.self.invariant.counted c.requires.1 c.requires.2).low (facts (stock_in c.self.inside) c.args.self.now.kept c.args.s (Core c.requires.0) (kept_is c.self.view_is) c.self.invariant.sound c.self.invariant.counted c.requires.1 c.requires.2).is (rw c.deref.ensures.value at c.row_of-row.ensures) c.clicks_of-clicks.ensures (ap (swap_fit c.args.self.now.kept) (sym c.blocks_of.ensures) ∙ sym (swap_fits (stock_in c.self.inside) c.args.self.now.kept c.self.inside.core_map c.self.inside.swap_map c.blocks_of.result (Some c.in-Some.block) (kept_is c.self.view_is) c.self.invariant.sound c.self.invariant.maps (λ taken first last m. sym c.in-Some.is ∙ c.take.ensures.fit taken first last m))) (rw c.blocks_of.ensures at c.in-Some.ensures.left) c.give_back.ensures.core c.give_back.ensures.swap c.count-3.ensures.few).small

pub unload_text-requires-clause-taken : goal.unload_text-requires-clause-taken
unload_text-requires-clause-taken c = (out_text (stock_in c.self.inside) c.args.self.now.kept c.args.s c.requires.0 c.in-Some.block c.self.inside.core_map c.self.inside.swap_map c.give_back.new.core_map c.take.new.self c.give_back.new.swap_map c.row_of-row.result c.clicks_of-clicks.result (kept_is c.self.view_is) c.self.invariant.sound c.self.invariant.maps c.self.invariant.counted c.self.invariant.table (facts (stock_in c.self.inside) c.args.self.now.kept c.args.s (Core c.requires.0) (kept_is c.self.view_is) c.self.invariant.sound c.self.invariant.counted c.requires.1 c.requires.2).low (facts (stock_in c.self.inside) c.args.self.now.kept c.args.s (Core c.requires.0) (kept_is c.self.view_is) c.self.invariant.sound c.self.invariant.counted c.requires.1 c.requires.2).is (rw c.deref.ensures.value at c.row_of-row.ensures) c.clicks_of-clicks.ensures (ap (swap_fit c.args.self.now.kept) (sym c.blocks_of.ensures) ∙ sym (swap_fits (stock_in c.self.inside) c.args.self.now.kept c.self.inside.core_map c.self.inside.swap_map c.blocks_of.result (Some c.in-Some.block) (kept_is c.self.view_is) c.self.invariant.sound c.self.invariant.maps (λ taken first last m. sym c.in-Some.is ∙ c.take.ensures.fit taken first last m))) (rw c.blocks_of.ensures at c.in-Some.ensures.left) c.give_back.ensures.core c.give_back.ensures.swap c.count-3.ensures.few).taken

pub unload_text-requires-clause-room : goal.unload_text-requires-clause-room
unload_text-requires-clause-room c = (out_text (stock_in c.self.inside) c.args.self.now.kept c.args.s c.requires.0 c.in-Some.block c.self.inside.core_map c.self.inside.swap_map c.give_back.new.core_map c.take.new.self c.give_back.new.swap_map c.row_of-row.result c.clicks_of-clicks.result (kept_is c.self.view_is) c.self.invariant.sound c.self.invariant.maps c.self.invariant.counted c.self.invariant.table (facts (stock_in c.self.inside) c.args.self.now.kept c.args.s (Core c.requires.0) (kept_is c.self.view_is) c.self.invariant.sound c.self.invariant.counted c.requires.1 c.requires.2).low (facts (stock_in c.self.inside) c.args.self.now.kept c.args.s (Core c.requires.0) (kept_is c.self.view_is) c.self.invariant.sound c.self.invariant.counted c.requires.1 c.requires.2).is (rw c.deref.ensures.value at c.row_of-row.ensures) c.clicks_of-clicks.ensures (ap (swap_fit c.args.self.now.kept) (sym c.blocks_of.ensures) ∙ sym (swap_fits (stock_in c.self.inside) c.args.self.now.kept c.self.inside.core_map c.self.inside.swap_map c.blocks_of.result (Some c.in-Some.block) (kept_is c.self.view_is) c.self.invariant.sound c.self.invariant.maps (λ taken first last m. sym c.in-Some.is ∙ c.take.ensures.fit taken first last m))) (rw c.blocks_of.ensures at c.in-Some.ensures.left) c.give_back.ensures.core c.give_back.ensures.swap c.count-3.ensures.few).room

pub invariant_of-self-2 : goal.invariant_of-self-2
invariant_of-self-2 c =
    let g = (gone_out (stock_in c.self.inside) c.args.self.now.kept c.args.s c.requires.0 c.in-Some.block c.place_click-from.result c.block_click-to.result c.self.inside.core_map c.self.inside.swap_map c.give_back.new.core_map c.unload_text.new.core_map c.take.new.self c.give_back.new.swap_map c.row_of-row.result c.clicks_of-clicks.result (line_of c.copy.new.self) c.unload_text.new.texts (with_items c.self.inside.rows c.set_place.new.rows).items (kept_is c.self.view_is) c.self.invariant.sound c.self.invariant.maps c.self.invariant.counted (facts (stock_in c.self.inside) c.args.self.now.kept c.args.s (Core c.requires.0) (kept_is c.self.view_is) c.self.invariant.sound c.self.invariant.counted c.requires.1 c.requires.2).low (facts (stock_in c.self.inside) c.args.self.now.kept c.args.s (Core c.requires.0) (kept_is c.self.view_is) c.self.invariant.sound c.self.invariant.counted c.requires.1 c.requires.2).is (rw c.deref.ensures.value at c.row_of-row.ensures) c.clicks_of-clicks.ensures (ap (swap_fit c.args.self.now.kept) (sym c.blocks_of.ensures) ∙ sym (swap_fits (stock_in c.self.inside) c.args.self.now.kept c.self.inside.core_map c.self.inside.swap_map c.blocks_of.result (Some c.in-Some.block) (kept_is c.self.view_is) c.self.invariant.sound c.self.invariant.maps (λ taken first last m. sym c.in-Some.is ∙ c.take.ensures.fit taken first last m))) (c.place_click-from.ensures ∙ ap (place_at c.self.inside.core) (same_place (row_at c.self.inside.rows.items c.args.s).state c.place_of.result (Core c.requires.0) (sym (ap (λ (r : Row). r.state) (rw c.deref.ensures.value at c.row_of-row.ensures)) ∙ c.place_of.ensures) (facts (stock_in c.self.inside) c.args.self.now.kept c.args.s (Core c.requires.0) (kept_is c.self.view_is) c.self.invariant.sound c.self.invariant.counted c.requires.1 c.requires.2).is)) c.block_click-to.ensures (rw c.blocks_of.ensures at c.in-Some.ensures.left) c.give_back.ensures.core c.give_back.ensures.swap c.unload_text.ensures.core c.copy.ensures.bytes c.unload_text.ensures.texts (with_items_is c.self.inside.rows c.set_place.new.rows (c.set_place.ensures.long ∙ c.deref_mut.ensures.len) ∙ (rw c.deref_mut.ensures.value at c.set_place.ensures.rows))) in
    record {
      sound = g.sound;
      maps = g.maps;
      table = ap length c.unload_text.ensures.texts ∙ out_long c.self.inside.texts c.row_of-row.result.text ∙ c.self.invariant.table;
      cut = c.copy.ensures.core ∙ c.self.invariant.cut;
      counted = g.counted;
      told = out_told _ _ c.args.self.now.kept c.args.s c.in-Some.block (kept_is c.self.view_is) g.kept c.self.invariant.told;
    }

pub returns-clause-block : goal.returns-clause-block
returns-clause-block c = (ap (λ i. swap_fit c.args.self.now.kept (blocks i)) (out_clicks (stock_in c.self.inside) c.args.self.now.kept c.args.s (Core c.requires.0) c.row_of-row.result c.clicks_of-clicks.result (kept_is c.self.view_is) c.self.invariant.sound (facts (stock_in c.self.inside) c.args.self.now.kept c.args.s (Core c.requires.0) (kept_is c.self.view_is) c.self.invariant.sound c.self.invariant.counted c.requires.1 c.requires.2).is (rw c.deref.ensures.value at c.row_of-row.ensures) c.clicks_of-clicks.ensures) ∙ ap (swap_fit c.args.self.now.kept) (sym c.blocks_of.ensures)) ∙ sym (swap_fits (stock_in c.self.inside) c.args.self.now.kept c.self.inside.core_map c.self.inside.swap_map c.blocks_of.result (Some c.in-Some.block) (kept_is c.self.view_is) c.self.invariant.sound c.self.invariant.maps (λ taken first last m. sym c.in-Some.is ∙ c.take.ensures.fit taken first last m))

pub returns-clause-kept : goal.returns-clause-kept
returns-clause-kept c = (gone_out (stock_in c.self.inside) c.args.self.now.kept c.args.s c.requires.0 c.in-Some.block c.place_click-from.result c.block_click-to.result c.self.inside.core_map c.self.inside.swap_map c.give_back.new.core_map c.unload_text.new.core_map c.take.new.self c.give_back.new.swap_map c.row_of-row.result c.clicks_of-clicks.result (line_of c.copy.new.self) c.unload_text.new.texts (with_items c.self.inside.rows c.set_place.new.rows).items (kept_is c.self.view_is) c.self.invariant.sound c.self.invariant.maps c.self.invariant.counted (facts (stock_in c.self.inside) c.args.self.now.kept c.args.s (Core c.requires.0) (kept_is c.self.view_is) c.self.invariant.sound c.self.invariant.counted c.requires.1 c.requires.2).low (facts (stock_in c.self.inside) c.args.self.now.kept c.args.s (Core c.requires.0) (kept_is c.self.view_is) c.self.invariant.sound c.self.invariant.counted c.requires.1 c.requires.2).is (rw c.deref.ensures.value at c.row_of-row.ensures) c.clicks_of-clicks.ensures (ap (swap_fit c.args.self.now.kept) (sym c.blocks_of.ensures) ∙ sym (swap_fits (stock_in c.self.inside) c.args.self.now.kept c.self.inside.core_map c.self.inside.swap_map c.blocks_of.result (Some c.in-Some.block) (kept_is c.self.view_is) c.self.invariant.sound c.self.invariant.maps (λ taken first last m. sym c.in-Some.is ∙ c.take.ensures.fit taken first last m))) (c.place_click-from.ensures ∙ ap (place_at c.self.inside.core) (same_place (row_at c.self.inside.rows.items c.args.s).state c.place_of.result (Core c.requires.0) (sym (ap (λ (r : Row). r.state) (rw c.deref.ensures.value at c.row_of-row.ensures)) ∙ c.place_of.ensures) (facts (stock_in c.self.inside) c.args.self.now.kept c.args.s (Core c.requires.0) (kept_is c.self.view_is) c.self.invariant.sound c.self.invariant.counted c.requires.1 c.requires.2).is)) c.block_click-to.ensures (rw c.blocks_of.ensures at c.in-Some.ensures.left) c.give_back.ensures.core c.give_back.ensures.swap c.unload_text.ensures.core c.copy.ensures.bytes c.unload_text.ensures.texts (with_items_is c.self.inside.rows c.set_place.new.rows (c.set_place.ensures.long ∙ c.deref_mut.ensures.len) ∙ (rw c.deref_mut.ensures.value at c.set_place.ensures.rows))).kept ∙ ap (swapped_out c.args.self.now.kept c.args.s) ((swap_fits (stock_in c.self.inside) c.args.self.now.kept c.self.inside.core_map c.self.inside.swap_map c.blocks_of.result (Some c.in-Some.block) (kept_is c.self.view_is) c.self.invariant.sound c.self.invariant.maps (λ taken first last m. sym c.in-Some.is ∙ c.take.ensures.fit taken first last m)) ∙ sym (ap (λ i. swap_fit c.args.self.now.kept (blocks i)) (out_clicks (stock_in c.self.inside) c.args.self.now.kept c.args.s (Core c.requires.0) c.row_of-row.result c.clicks_of-clicks.result (kept_is c.self.view_is) c.self.invariant.sound (facts (stock_in c.self.inside) c.args.self.now.kept c.args.s (Core c.requires.0) (kept_is c.self.view_is) c.self.invariant.sound c.self.invariant.counted c.requires.1 c.requires.2).is (rw c.deref.ensures.value at c.row_of-row.ensures) c.clicks_of-clicks.ensures) ∙ ap (swap_fit c.args.self.now.kept) (sym c.blocks_of.ensures)))
