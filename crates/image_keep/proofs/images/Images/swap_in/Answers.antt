use Rattle.image_keep.proofs.StateOf.{kept_is}
use Rattle.std.proofs.Common.{◌∙◌, sym, ap, Some, None, arith, length}
use Rattle.v6_base.specs.declared.entry.Place.TheVariants.{Swap}
use Rattle.std.specs.Vec.{with_items}
use Rattle.std.proofs.lemmas.List.{with_items_is}
use Rattle.image_keep.specs.declared.row.Row.{Row}
use Rattle.image_keep.specs.Inside.{stock_in}
use Rattle.image_keep.specs.Line.{line_of}
use Rattle.image_keep.specs.Moves.{swapped_in}
use Rattle.image_keep.proofs.Facts.{facts}
use Rattle.image_keep.proofs.InPlan.{plan, found_at, came_in, in_none, long_texts}
use Rattle.image_keep.proofs.Told.{in_told}
use Rattle.image_keep.proofs.images.Images.swap_in.Goals as goal

pub row_of-row-requires : goal.row_of-row-requires
row_of-row-requires c = rw c.deref.ensures.value ((facts (stock_in c.self.inside) c.args.self.now.kept c.args.s (Swap c.requires.0) (kept_is c.self.view_is) c.self.invariant.sound c.self.invariant.counted c.requires.1 c.requires.2).low)

pub block_of-block-requires : goal.block_of-block-requires
block_of-block-requires c = (c.requires.0, ap (λ (r : Row). r.state) (rw c.deref.ensures.value at c.row_of-row.ensures) ∙ (facts (stock_in c.self.inside) c.args.self.now.kept c.args.s (Swap c.requires.0) (kept_is c.self.view_is) c.self.invariant.sound c.self.invariant.counted c.requires.1 c.requires.2).is)

pub overflow_add-need : goal.overflow_add-need
overflow_add-need c = let a = (plan (stock_in c.self.inside) c.args.self.now.kept c.args.s c.block_of-block.result c.self.inside.core_map c.self.inside.swap_map c.row_of-row.result c.clicks_of-clicks.result c.need_of-need.result (kept_is c.self.view_is) c.self.invariant.sound c.self.invariant.maps c.self.invariant.counted c.self.invariant.table (rw c.deref.ensures.value at c.row_of-row.ensures) c.block_of-block.ensures c.clicks_of-clicks.ensures c.need_of-need.ensures c.requires).few in let b = (plan (stock_in c.self.inside) c.args.self.now.kept c.args.s c.block_of-block.result c.self.inside.core_map c.self.inside.swap_map c.row_of-row.result c.clicks_of-clicks.result c.need_of-need.result (kept_is c.self.view_is) c.self.invariant.sound c.self.invariant.maps c.self.invariant.counted c.self.invariant.table (rw c.deref.ensures.value at c.row_of-row.ensures) c.block_of-block.ensures c.clicks_of-clicks.ensures c.need_of-need.ensures c.requires).wants in let d = (plan (stock_in c.self.inside) c.args.self.now.kept c.args.s c.block_of-block.result c.self.inside.core_map c.self.inside.swap_map c.row_of-row.result c.clicks_of-clicks.result c.need_of-need.result (kept_is c.self.view_is) c.self.invariant.sound c.self.invariant.maps c.self.invariant.counted c.self.invariant.table (rw c.deref.ensures.value at c.row_of-row.ensures) c.block_of-block.ensures c.clicks_of-clicks.ensures c.need_of-need.ensures c.requires).facts.need in omega (arith, a, b, d)

pub returns-in-None-clause-place : goal.returns-in-None-clause-place
returns-in-None-clause-place c = sym ((plan (stock_in c.self.inside) c.args.self.now.kept c.args.s c.block_of-block.result c.self.inside.core_map c.self.inside.swap_map c.row_of-row.result c.clicks_of-clicks.result c.need_of-need.result (kept_is c.self.view_is) c.self.invariant.sound c.self.invariant.maps c.self.invariant.counted c.self.invariant.table (rw c.deref.ensures.value at c.row_of-row.ensures) c.block_of-block.ensures c.clicks_of-clicks.ensures c.need_of-need.ensures c.requires).fit None (λ taken first last m. sym c.in-None.is ∙ c.take.ensures.fit taken first last m))

pub returns-in-None-clause-kept : goal.returns-in-None-clause-kept
returns-in-None-clause-kept c =
    (kept_is c.self.view_is) ∙ sym (in_none c.args.self.now.kept c.args.s)
    ∙ ap (swapped_in c.args.self.now.kept c.args.s) ((plan (stock_in c.self.inside) c.args.self.now.kept c.args.s c.block_of-block.result c.self.inside.core_map c.self.inside.swap_map c.row_of-row.result c.clicks_of-clicks.result c.need_of-need.result (kept_is c.self.view_is) c.self.invariant.sound c.self.invariant.maps c.self.invariant.counted c.self.invariant.table (rw c.deref.ensures.value at c.row_of-row.ensures) c.block_of-block.ensures c.clicks_of-clicks.ensures c.need_of-need.ensures c.requires).fit None (λ taken first last m. sym c.in-None.is ∙ c.take.ensures.fit taken first last m))

pub load_text-requires-clause-few : goal.load_text-requires-clause-few
load_text-requires-clause-few c t e = (plan (stock_in c.self.inside) c.args.self.now.kept c.args.s c.block_of-block.result c.self.inside.core_map c.self.inside.swap_map c.row_of-row.result c.clicks_of-clicks.result c.need_of-need.result (kept_is c.self.view_is) c.self.invariant.sound c.self.invariant.maps c.self.invariant.counted c.self.invariant.table (rw c.deref.ensures.value at c.row_of-row.ensures) c.block_of-block.ensures c.clicks_of-clicks.ensures c.need_of-need.ensures c.requires).facts.few t (sym (ap (λ (r : Row). r.text) (rw c.deref.ensures.value at c.row_of-row.ensures)) ∙ e)

pub load_text-requires-clause-text : goal.load_text-requires-clause-text
load_text-requires-clause-text c t e = (plan (stock_in c.self.inside) c.args.self.now.kept c.args.s c.block_of-block.result c.self.inside.core_map c.self.inside.swap_map c.row_of-row.result c.clicks_of-clicks.result c.need_of-need.result (kept_is c.self.view_is) c.self.invariant.sound c.self.invariant.maps c.self.invariant.counted c.self.invariant.table (rw c.deref.ensures.value at c.row_of-row.ensures) c.block_of-block.ensures c.clicks_of-clicks.ensures c.need_of-need.ensures c.requires).facts.text t (sym (ap (λ (r : Row). r.text) (rw c.deref.ensures.value at c.row_of-row.ensures)) ∙ e)

pub load_text-requires-clause-low : goal.load_text-requires-clause-low
load_text-requires-clause-low c = (found_at (stock_in c.self.inside) c.args.self.now.kept c.args.s c.block_of-block.result c.self.inside.core_map c.self.inside.swap_map c.row_of-row.result c.clicks_of-clicks.result c.need_of-need.result c.in-Some.at (kept_is c.self.view_is) c.self.invariant.sound (plan (stock_in c.self.inside) c.args.self.now.kept c.args.s c.block_of-block.result c.self.inside.core_map c.self.inside.swap_map c.row_of-row.result c.clicks_of-clicks.result c.need_of-need.result (kept_is c.self.view_is) c.self.invariant.sound c.self.invariant.maps c.self.invariant.counted c.self.invariant.table (rw c.deref.ensures.value at c.row_of-row.ensures) c.block_of-block.ensures c.clicks_of-clicks.ensures c.need_of-need.ensures c.requires) (sym ((plan (stock_in c.self.inside) c.args.self.now.kept c.args.s c.block_of-block.result c.self.inside.core_map c.self.inside.swap_map c.row_of-row.result c.clicks_of-clicks.result c.need_of-need.result (kept_is c.self.view_is) c.self.invariant.sound c.self.invariant.maps c.self.invariant.counted c.self.invariant.table (rw c.deref.ensures.value at c.row_of-row.ensures) c.block_of-block.ensures c.clicks_of-clicks.ensures c.need_of-need.ensures c.requires).fit (Some c.in-Some.at) (λ taken first last m. sym c.in-Some.is ∙ c.take.ensures.fit taken first last m)))).1

pub load_text-requires-clause-high : goal.load_text-requires-clause-high
load_text-requires-clause-high c = let a = (found_at (stock_in c.self.inside) c.args.self.now.kept c.args.s c.block_of-block.result c.self.inside.core_map c.self.inside.swap_map c.row_of-row.result c.clicks_of-clicks.result c.need_of-need.result c.in-Some.at (kept_is c.self.view_is) c.self.invariant.sound (plan (stock_in c.self.inside) c.args.self.now.kept c.args.s c.block_of-block.result c.self.inside.core_map c.self.inside.swap_map c.row_of-row.result c.clicks_of-clicks.result c.need_of-need.result (kept_is c.self.view_is) c.self.invariant.sound c.self.invariant.maps c.self.invariant.counted c.self.invariant.table (rw c.deref.ensures.value at c.row_of-row.ensures) c.block_of-block.ensures c.clicks_of-clicks.ensures c.need_of-need.ensures c.requires) (sym ((plan (stock_in c.self.inside) c.args.self.now.kept c.args.s c.block_of-block.result c.self.inside.core_map c.self.inside.swap_map c.row_of-row.result c.clicks_of-clicks.result c.need_of-need.result (kept_is c.self.view_is) c.self.invariant.sound c.self.invariant.maps c.self.invariant.counted c.self.invariant.table (rw c.deref.ensures.value at c.row_of-row.ensures) c.block_of-block.ensures c.clicks_of-clicks.ensures c.need_of-need.ensures c.requires).fit (Some c.in-Some.at) (λ taken first last m. sym c.in-Some.is ∙ c.take.ensures.fit taken first last m)))).2 in let b = c.need_of-need.ensures in omega (arith, a, b)

pub overflow_add-to : goal.overflow_add-to
overflow_add-to c = let a = (found_at (stock_in c.self.inside) c.args.self.now.kept c.args.s c.block_of-block.result c.self.inside.core_map c.self.inside.swap_map c.row_of-row.result c.clicks_of-clicks.result c.need_of-need.result c.in-Some.at (kept_is c.self.view_is) c.self.invariant.sound (plan (stock_in c.self.inside) c.args.self.now.kept c.args.s c.block_of-block.result c.self.inside.core_map c.self.inside.swap_map c.row_of-row.result c.clicks_of-clicks.result c.need_of-need.result (kept_is c.self.view_is) c.self.invariant.sound c.self.invariant.maps c.self.invariant.counted c.self.invariant.table (rw c.deref.ensures.value at c.row_of-row.ensures) c.block_of-block.ensures c.clicks_of-clicks.ensures c.need_of-need.ensures c.requires) (sym ((plan (stock_in c.self.inside) c.args.self.now.kept c.args.s c.block_of-block.result c.self.inside.core_map c.self.inside.swap_map c.row_of-row.result c.clicks_of-clicks.result c.need_of-need.result (kept_is c.self.view_is) c.self.invariant.sound c.self.invariant.maps c.self.invariant.counted c.self.invariant.table (rw c.deref.ensures.value at c.row_of-row.ensures) c.block_of-block.ensures c.clicks_of-clicks.ensures c.need_of-need.ensures c.requires).fit (Some c.in-Some.at) (λ taken first last m. sym c.in-Some.is ∙ c.take.ensures.fit taken first last m)))).2 in let b = c.self.invariant.sound.most in omega (arith, a, b)

pub copy_image-requires-clause-low : goal.copy_image-requires-clause-low
copy_image-requires-clause-low c = let a = (found_at (stock_in c.self.inside) c.args.self.now.kept c.args.s c.block_of-block.result c.self.inside.core_map c.self.inside.swap_map c.row_of-row.result c.clicks_of-clicks.result c.need_of-need.result c.in-Some.at (kept_is c.self.view_is) c.self.invariant.sound (plan (stock_in c.self.inside) c.args.self.now.kept c.args.s c.block_of-block.result c.self.inside.core_map c.self.inside.swap_map c.row_of-row.result c.clicks_of-clicks.result c.need_of-need.result (kept_is c.self.view_is) c.self.invariant.sound c.self.invariant.maps c.self.invariant.counted c.self.invariant.table (rw c.deref.ensures.value at c.row_of-row.ensures) c.block_of-block.ensures c.clicks_of-clicks.ensures c.need_of-need.ensures c.requires) (sym ((plan (stock_in c.self.inside) c.args.self.now.kept c.args.s c.block_of-block.result c.self.inside.core_map c.self.inside.swap_map c.row_of-row.result c.clicks_of-clicks.result c.need_of-need.result (kept_is c.self.view_is) c.self.invariant.sound c.self.invariant.maps c.self.invariant.counted c.self.invariant.table (rw c.deref.ensures.value at c.row_of-row.ensures) c.block_of-block.ensures c.clicks_of-clicks.ensures c.need_of-need.ensures c.requires).fit (Some c.in-Some.at) (λ taken first last m. sym c.in-Some.is ∙ c.take.ensures.fit taken first last m)))).1 in omega (arith, a)

pub copy_image-requires-clause-high : goal.copy_image-requires-clause-high
copy_image-requires-clause-high c = let a = (found_at (stock_in c.self.inside) c.args.self.now.kept c.args.s c.block_of-block.result c.self.inside.core_map c.self.inside.swap_map c.row_of-row.result c.clicks_of-clicks.result c.need_of-need.result c.in-Some.at (kept_is c.self.view_is) c.self.invariant.sound (plan (stock_in c.self.inside) c.args.self.now.kept c.args.s c.block_of-block.result c.self.inside.core_map c.self.inside.swap_map c.row_of-row.result c.clicks_of-clicks.result c.need_of-need.result (kept_is c.self.view_is) c.self.invariant.sound c.self.invariant.maps c.self.invariant.counted c.self.invariant.table (rw c.deref.ensures.value at c.row_of-row.ensures) c.block_of-block.ensures c.clicks_of-clicks.ensures c.need_of-need.ensures c.requires) (sym ((plan (stock_in c.self.inside) c.args.self.now.kept c.args.s c.block_of-block.result c.self.inside.core_map c.self.inside.swap_map c.row_of-row.result c.clicks_of-clicks.result c.need_of-need.result (kept_is c.self.view_is) c.self.invariant.sound c.self.invariant.maps c.self.invariant.counted c.self.invariant.table (rw c.deref.ensures.value at c.row_of-row.ensures) c.block_of-block.ensures c.clicks_of-clicks.ensures c.need_of-need.ensures c.requires).fit (Some c.in-Some.at) (λ taken first last m. sym c.in-Some.is ∙ c.take.ensures.fit taken first last m)))).2 in omega (arith, a)

pub give-requires-clause-taken : goal.give-requires-clause-taken
give-requires-clause-taken c x l m = (plan (stock_in c.self.inside) c.args.self.now.kept c.args.s c.block_of-block.result c.self.inside.core_map c.self.inside.swap_map c.row_of-row.result c.clicks_of-clicks.result c.need_of-need.result (kept_is c.self.view_is) c.self.invariant.sound c.self.invariant.maps c.self.invariant.counted c.self.invariant.table (rw c.deref.ensures.value at c.row_of-row.ensures) c.block_of-block.ensures c.clicks_of-clicks.ensures c.need_of-need.ensures c.requires).taken x l (rw (← c.blocks_of.ensures) m)

pub give-requires-clause-room : goal.give-requires-clause-room
give-requires-clause-room c = (plan (stock_in c.self.inside) c.args.self.now.kept c.args.s c.block_of-block.result c.self.inside.core_map c.self.inside.swap_map c.row_of-row.result c.clicks_of-clicks.result c.need_of-need.result (kept_is c.self.view_is) c.self.invariant.sound c.self.invariant.maps c.self.invariant.counted c.self.invariant.table (rw c.deref.ensures.value at c.row_of-row.ensures) c.block_of-block.ensures c.clicks_of-clicks.ensures c.need_of-need.ensures c.requires).room c.count.ensures.few

pub returns-clause-place : goal.returns-clause-place
returns-clause-place c = sym ((plan (stock_in c.self.inside) c.args.self.now.kept c.args.s c.block_of-block.result c.self.inside.core_map c.self.inside.swap_map c.row_of-row.result c.clicks_of-clicks.result c.need_of-need.result (kept_is c.self.view_is) c.self.invariant.sound c.self.invariant.maps c.self.invariant.counted c.self.invariant.table (rw c.deref.ensures.value at c.row_of-row.ensures) c.block_of-block.ensures c.clicks_of-clicks.ensures c.need_of-need.ensures c.requires).fit (Some c.in-Some.at) (λ taken first last m. sym c.in-Some.is ∙ c.take.ensures.fit taken first last m))

pub invariant_of-self-2 : goal.invariant_of-self-2
invariant_of-self-2 c =
    let g = (came_in (stock_in c.self.inside) c.args.self.now.kept c.args.s c.block_of-block.result c.in-Some.at c.self.inside.core_map c.self.inside.swap_map c.take.new.self c.give.new.self c.row_of-row.result c.clicks_of-clicks.result c.need_of-need.result (line_of c.load_text.new.memory) (line_of c.copy_image.new.memory) c.load_text.new.texts (with_items c.self.inside.rows c.set_place.new.rows).items (kept_is c.self.view_is) c.self.invariant.sound c.self.invariant.maps c.self.invariant.counted (plan (stock_in c.self.inside) c.args.self.now.kept c.args.s c.block_of-block.result c.self.inside.core_map c.self.inside.swap_map c.row_of-row.result c.clicks_of-clicks.result c.need_of-need.result (kept_is c.self.view_is) c.self.invariant.sound c.self.invariant.maps c.self.invariant.counted c.self.invariant.table (rw c.deref.ensures.value at c.row_of-row.ensures) c.block_of-block.ensures c.clicks_of-clicks.ensures c.need_of-need.ensures c.requires) (sym ((plan (stock_in c.self.inside) c.args.self.now.kept c.args.s c.block_of-block.result c.self.inside.core_map c.self.inside.swap_map c.row_of-row.result c.clicks_of-clicks.result c.need_of-need.result (kept_is c.self.view_is) c.self.invariant.sound c.self.invariant.maps c.self.invariant.counted c.self.invariant.table (rw c.deref.ensures.value at c.row_of-row.ensures) c.block_of-block.ensures c.clicks_of-clicks.ensures c.need_of-need.ensures c.requires).fit (Some c.in-Some.at) (λ taken first last m. sym c.in-Some.is ∙ c.take.ensures.fit taken first last m))) c.in-Some.ensures.left (rw c.blocks_of.ensures at c.give.ensures) c.load_text.ensures.line c.load_text.ensures.texts c.copy_image.ensures.line (with_items_is c.self.inside.rows c.set_place.new.rows (c.set_place.ensures.long ∙ c.deref_mut.ensures.len) ∙ (rw c.deref_mut.ensures.value at c.set_place.ensures.rows))) in
    record {
      sound = g.sound;
      maps = g.maps;
      table = ap length c.load_text.ensures.texts ∙ long_texts c.self.inside.texts c.row_of-row.result.text c.in-Some.at ∙ c.self.invariant.table;
      cut = c.copy_image.ensures.new_core ∙ c.load_text.ensures.new_core ∙ c.self.invariant.cut;
      counted = g.counted;
      told = in_told _ _ c.args.self.now.kept c.args.s c.in-Some.at (kept_is c.self.view_is) g.kept c.self.invariant.told;
    }

pub returns-clause-kept : goal.returns-clause-kept
returns-clause-kept c =
    (came_in (stock_in c.self.inside) c.args.self.now.kept c.args.s c.block_of-block.result c.in-Some.at c.self.inside.core_map c.self.inside.swap_map c.take.new.self c.give.new.self c.row_of-row.result c.clicks_of-clicks.result c.need_of-need.result (line_of c.load_text.new.memory) (line_of c.copy_image.new.memory) c.load_text.new.texts (with_items c.self.inside.rows c.set_place.new.rows).items (kept_is c.self.view_is) c.self.invariant.sound c.self.invariant.maps c.self.invariant.counted (plan (stock_in c.self.inside) c.args.self.now.kept c.args.s c.block_of-block.result c.self.inside.core_map c.self.inside.swap_map c.row_of-row.result c.clicks_of-clicks.result c.need_of-need.result (kept_is c.self.view_is) c.self.invariant.sound c.self.invariant.maps c.self.invariant.counted c.self.invariant.table (rw c.deref.ensures.value at c.row_of-row.ensures) c.block_of-block.ensures c.clicks_of-clicks.ensures c.need_of-need.ensures c.requires) (sym ((plan (stock_in c.self.inside) c.args.self.now.kept c.args.s c.block_of-block.result c.self.inside.core_map c.self.inside.swap_map c.row_of-row.result c.clicks_of-clicks.result c.need_of-need.result (kept_is c.self.view_is) c.self.invariant.sound c.self.invariant.maps c.self.invariant.counted c.self.invariant.table (rw c.deref.ensures.value at c.row_of-row.ensures) c.block_of-block.ensures c.clicks_of-clicks.ensures c.need_of-need.ensures c.requires).fit (Some c.in-Some.at) (λ taken first last m. sym c.in-Some.is ∙ c.take.ensures.fit taken first last m))) c.in-Some.ensures.left (rw c.blocks_of.ensures at c.give.ensures) c.load_text.ensures.line c.load_text.ensures.texts c.copy_image.ensures.line (with_items_is c.self.inside.rows c.set_place.new.rows (c.set_place.ensures.long ∙ c.deref_mut.ensures.len) ∙ (rw c.deref_mut.ensures.value at c.set_place.ensures.rows))).kept
    ∙ ap (swapped_in c.args.self.now.kept c.args.s) ((plan (stock_in c.self.inside) c.args.self.now.kept c.args.s c.block_of-block.result c.self.inside.core_map c.self.inside.swap_map c.row_of-row.result c.clicks_of-clicks.result c.need_of-need.result (kept_is c.self.view_is) c.self.invariant.sound c.self.invariant.maps c.self.invariant.counted c.self.invariant.table (rw c.deref.ensures.value at c.row_of-row.ensures) c.block_of-block.ensures c.clicks_of-clicks.ensures c.need_of-need.ensures c.requires).fit (Some c.in-Some.at) (λ taken first last m. sym c.in-Some.is ∙ c.take.ensures.fit taken first last m))
