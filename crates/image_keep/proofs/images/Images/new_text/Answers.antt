use Rattle.image_keep.proofs.StateOf.{kept_is}
use Rattle.std.proofs.Common.{◌∙◌, sym, ap, subst, arith, length, Some, None}
use Rattle.std.specs.Vec.{with_items}
use Rattle.std.proofs.lemmas.List.{with_items_is, length-set}
use Rattle.text_tab.specs.Table.{new_text as new_row}
use Rattle.image_keep.specs.Inside.{stock_in}
use Rattle.image_keep.specs.Line.{line_of}
use Rattle.image_keep.specs.Places.{blocks, swap_fit}
use Rattle.image_keep.specs.SharedTexts.{making, with_made_text}
use Rattle.image_keep.specs.Told.{AreTold}
use Rattle.image_keep.proofs.Places.{swap_found}
use Rattle.image_keep.proofs.Ended.{swap_fits}
use Rattle.image_keep.proofs.TextSearch.{found_is, free_is}
use Rattle.image_keep.proofs.NewText.{text_made, no_entry, an_entry, nobody_has}
use Rattle.image_keep.proofs.TextTold.{told_new}
use Rattle.image_keep.proofs.images.Images.new_text.Goals as goal

pub returns-then-is_full-clause-text : goal.returns-then-is_full-clause-text
returns-then-is_full-clause-text c = ap (λ o. making o (swap_fit c.args.self.now.kept (blocks c.args.clicks))) (no_entry (stock_in c.self.inside) c.args.self.now.kept c.is_full.result (kept_is c.self.view_is) c.is_full.ensures c.if-is_full.true)

pub returns-then-is_full-clause-kept : goal.returns-then-is_full-clause-kept
returns-then-is_full-clause-kept c = ap (λ o. with_made_text c.args.self.now.kept c.args.s c.args.ino c.args.clicks o (swap_fit c.args.self.now.kept (blocks c.args.clicks))) (no_entry (stock_in c.self.inside) c.args.self.now.kept c.is_full.result (kept_is c.self.view_is) c.is_full.ensures c.if-is_full.true)

pub returns-in-None-clause-text : goal.returns-in-None-clause-text
returns-in-None-clause-text c = let e = (an_entry (stock_in c.self.inside) c.args.self.now.kept c.is_full.result (kept_is c.self.view_is) c.is_full.ensures c.if-is_full.false) in ap (λ b. making (Some e.0) b) ((swap_fits (stock_in c.self.inside) c.args.self.now.kept c.self.inside.core_map c.self.inside.swap_map c.blocks_for.result None (kept_is c.self.view_is) c.self.invariant.sound c.self.invariant.maps (λ taken first last m. sym c.in-None.is ∙ c.take.ensures.fit taken first last m)) ∙ ap (swap_fit c.args.self.now.kept) c.blocks_for.ensures) ∙ ap (λ o. making o (swap_fit c.args.self.now.kept (blocks c.args.clicks))) e.1

pub returns-in-None-clause-kept : goal.returns-in-None-clause-kept
returns-in-None-clause-kept c = let e = (an_entry (stock_in c.self.inside) c.args.self.now.kept c.is_full.result (kept_is c.self.view_is) c.is_full.ensures c.if-is_full.false) in (kept_is c.self.view_is) ∙ ap (λ b. with_made_text c.args.self.now.kept c.args.s c.args.ino c.args.clicks (Some e.0) b) ((swap_fits (stock_in c.self.inside) c.args.self.now.kept c.self.inside.core_map c.self.inside.swap_map c.blocks_for.result None (kept_is c.self.view_is) c.self.invariant.sound c.self.invariant.maps (λ taken first last m. sym c.in-None.is ∙ c.take.ensures.fit taken first last m)) ∙ ap (swap_fit c.args.self.now.kept) c.blocks_for.ensures) ∙ ap (λ o. with_made_text c.args.self.now.kept c.args.s c.args.ino c.args.clicks o (swap_fit c.args.self.now.kept (blocks c.args.clicks))) e.1

pub block_click-at-requires : goal.block_click-at-requires
block_click-at-requires c = (swap_found (stock_in c.self.inside) c.in-Some.block c.blocks_for.result c.self.invariant.sound (ap (λ j. swap_fit j c.blocks_for.result) (kept_is c.self.view_is) ∙ sym (swap_fits (stock_in c.self.inside) c.args.self.now.kept c.self.inside.core_map c.self.inside.swap_map c.blocks_for.result (Some c.in-Some.block) (kept_is c.self.view_is) c.self.invariant.sound c.self.invariant.maps (λ taken first last m. sym c.in-Some.is ∙ c.take.ensures.fit taken first last m)))).low

pub clear-requires-clause-inside : goal.clear-requires-clause-inside
clear-requires-clause-inside c = let a = c.block_click-at.ensures in let f = (swap_found (stock_in c.self.inside) c.in-Some.block c.blocks_for.result c.self.invariant.sound (ap (λ j. swap_fit j c.blocks_for.result) (kept_is c.self.view_is) ∙ sym (swap_fits (stock_in c.self.inside) c.args.self.now.kept c.self.inside.core_map c.self.inside.swap_map c.blocks_for.result (Some c.in-Some.block) (kept_is c.self.view_is) c.self.invariant.sound c.self.invariant.maps (λ taken first last m. sym c.in-Some.is ∙ c.take.ensures.fit taken first last m)))) in let l = f.low in let h = f.high in let e = c.blocks_for.ensures in let z = c.self.invariant.sound.size in omega (arith, a, l, h, e, z)

pub attach-t-requires-clause-unknown : goal.attach-t-requires-clause-unknown
attach-t-requires-clause-unknown c = found_is (stock_in c.self.inside) c.args.self.now.kept c.args.ino (kept_is c.self.view_is) ∙ c.requires.unknown

pub invariant_of-self-2 : goal.invariant_of-self-2
invariant_of-self-2 c =
    let g = (text_made (stock_in c.self.inside) c.args.self.now.kept c.args.s c.attach-t.result c.args.ino c.args.clicks c.in-Some.block c.block_click-at.result c.self.inside.core_map c.self.inside.swap_map c.take.new.self (line_of c.clear.new.self) c.attach-t.new.texts (with_items c.self.inside.rows c.give_text.new.rows).items (kept_is c.self.view_is) c.self.invariant.sound c.self.invariant.maps c.self.invariant.counted c.requires.slot c.requires.nothing c.requires.no_text c.requires.some c.attach-t.ensures.first (sym ((swap_fits (stock_in c.self.inside) c.args.self.now.kept c.self.inside.core_map c.self.inside.swap_map c.blocks_for.result (Some c.in-Some.block) (kept_is c.self.view_is) c.self.invariant.sound c.self.invariant.maps (λ taken first last m. sym c.in-Some.is ∙ c.take.ensures.fit taken first last m)) ∙ ap (swap_fit c.args.self.now.kept) c.blocks_for.ensures)) c.block_click-at.ensures (rw c.blocks_for.ensures at c.in-Some.ensures.left) c.clear.ensures.bytes c.attach-t.ensures.table (with_items_is c.self.inside.rows c.give_text.new.rows (c.give_text.ensures.long ∙ c.deref_mut.ensures.len) ∙ (rw c.deref_mut.ensures.value at c.give_text.ensures.rows))) in
    record {
      sound = g.sound;
      maps = g.maps;
      table = ap length c.attach-t.ensures.table ∙ length-set c.self.inside.texts c.attach-t.result (Some (new_row c.args.ino c.args.clicks c.in-Some.block)) ∙ c.self.invariant.table;
      cut = c.clear.ensures.core ∙ c.self.invariant.cut;
      counted = g.counted;
      told = subst AreTold (sym g.kept) (told_new c.args.self.now.kept c.args.s c.attach-t.result c.args.ino c.args.clicks c.in-Some.block (subst AreTold (kept_is c.self.view_is) c.self.invariant.told) c.requires.nothing (nobody_has (stock_in c.self.inside) c.args.self.now.kept c.attach-t.result (kept_is c.self.view_is) c.self.invariant.counted c.attach-t.ensures.first));
    }

pub returns-clause-text : goal.returns-clause-text
returns-clause-text c = ap (λ y. making (Some c.attach-t.result) y) ((swap_fits (stock_in c.self.inside) c.args.self.now.kept c.self.inside.core_map c.self.inside.swap_map c.blocks_for.result (Some c.in-Some.block) (kept_is c.self.view_is) c.self.invariant.sound c.self.invariant.maps (λ taken first last m. sym c.in-Some.is ∙ c.take.ensures.fit taken first last m)) ∙ ap (swap_fit c.args.self.now.kept) c.blocks_for.ensures) ∙ ap (λ o. making o (swap_fit c.args.self.now.kept (blocks c.args.clicks))) (sym c.attach-t.ensures.first ∙ free_is (stock_in c.self.inside) c.args.self.now.kept (kept_is c.self.view_is))

pub returns-clause-kept : goal.returns-clause-kept
returns-clause-kept c = (text_made (stock_in c.self.inside) c.args.self.now.kept c.args.s c.attach-t.result c.args.ino c.args.clicks c.in-Some.block c.block_click-at.result c.self.inside.core_map c.self.inside.swap_map c.take.new.self (line_of c.clear.new.self) c.attach-t.new.texts (with_items c.self.inside.rows c.give_text.new.rows).items (kept_is c.self.view_is) c.self.invariant.sound c.self.invariant.maps c.self.invariant.counted c.requires.slot c.requires.nothing c.requires.no_text c.requires.some c.attach-t.ensures.first (sym ((swap_fits (stock_in c.self.inside) c.args.self.now.kept c.self.inside.core_map c.self.inside.swap_map c.blocks_for.result (Some c.in-Some.block) (kept_is c.self.view_is) c.self.invariant.sound c.self.invariant.maps (λ taken first last m. sym c.in-Some.is ∙ c.take.ensures.fit taken first last m)) ∙ ap (swap_fit c.args.self.now.kept) c.blocks_for.ensures)) c.block_click-at.ensures (rw c.blocks_for.ensures at c.in-Some.ensures.left) c.clear.ensures.bytes c.attach-t.ensures.table (with_items_is c.self.inside.rows c.give_text.new.rows (c.give_text.ensures.long ∙ c.deref_mut.ensures.len) ∙ (rw c.deref_mut.ensures.value at c.give_text.ensures.rows))).kept ∙ ap (λ y. with_made_text c.args.self.now.kept c.args.s c.args.ino c.args.clicks (Some c.attach-t.result) y) ((swap_fits (stock_in c.self.inside) c.args.self.now.kept c.self.inside.core_map c.self.inside.swap_map c.blocks_for.result (Some c.in-Some.block) (kept_is c.self.view_is) c.self.invariant.sound c.self.invariant.maps (λ taken first last m. sym c.in-Some.is ∙ c.take.ensures.fit taken first last m)) ∙ ap (swap_fit c.args.self.now.kept) c.blocks_for.ensures) ∙ ap (λ o. with_made_text c.args.self.now.kept c.args.s c.args.ino c.args.clicks o (swap_fit c.args.self.now.kept (blocks c.args.clicks))) (sym c.attach-t.ensures.first ∙ free_is (stock_in c.self.inside) c.args.self.now.kept (kept_is c.self.view_is))
