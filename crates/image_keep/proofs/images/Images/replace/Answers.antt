use Rattle.image_keep.proofs.StateOf.{kept_is, core_is, line_is}
use Rattle.std.proofs.Common.{rules, ◌≡◌, ◌+◌, ◌∙◌, ℕ, List, length, sym, ap, set, Some, None}
use Rattle.std.specs.Vec.{with_items}
use Rattle.std.proofs.lemmas.List.{with_items_is}
use Rattle.image_keep.specs.declared.row.Row.{Row}
use Rattle.core_mem.specs.Bytes.{over}
use Rattle.image_keep.specs.Area.{made_area}
use Rattle.image_keep.specs.Inside.{stock_in}
use Rattle.image_keep.specs.Line.{line_of}
use Rattle.image_keep.specs.Kept.{Kept, text_of, text_bytes}
use Rattle.image_keep.specs.Memory.{place_at}
use Rattle.image_keep.specs.Resized.{cleared_bytes}
use Rattle.image_keep.specs.Finding.{may_stand}
use Rattle.image_keep.specs.Places.{made_image}
use Rattle.image_keep.specs.Moves.{with_image_moved}
use Rattle.image_keep.proofs.Facts.{few_users}
use Rattle.image_keep.proofs.SwapIn.{text_of_row}
use Rattle.image_keep.proofs.KeptForm.{row_low}
use Rattle.image_keep.proofs.Found.{placed_is, place_found, place_inside, place_low}
use Rattle.image_keep.proofs.Growing.{moved_long}
use Rattle.image_keep.proofs.InPlan.{core_kept}
use Rattle.image_keep.proofs.Made.{makes}
use Rattle.image_keep.proofs.images.Images.replace.Goals as goal

pub row_of-row-requires : goal.row_of-row-requires
row_of-row-requires c = rw c.deref.ensures.value (row_low (stock_in c.self.inside) c.args.s c.self.invariant.sound c.requires.slot)

pub may_stand-stands-requires : goal.may_stand-stands-requires
may_stand-stands-requires c t e = c.self.invariant.counted.used c.args.s t (sym ((c.requires.text ∙ sym (ap (λ j. text_of j c.args.s) (kept_is c.self.view_is)) ∙ text_of_row (stock_in c.self.inside) c.args.s ∙ sym (ap (λ (r : Row). r.text) (rw c.deref.ensures.value at c.row_of-row.ensures))) ∙ ap (λ (r : Row). r.text) (rw c.deref.ensures.value at c.row_of-row.ensures)) ∙ e)

pub returns-in-None-clause-place : goal.returns-in-None-clause-place
returns-in-None-clause-place c = sym (placed_is (stock_in c.self.inside) c.args.self.now.kept c.args.s (16 + c.args.p.data_size + c.args.p.stack_size) c.self.inside.core_map c.self.inside.swap_map c.may_stand-stands.result c.row_of-row.result None (kept_is c.self.view_is) c.self.invariant.sound c.self.invariant.maps (rw c.deref.ensures.value at c.row_of-row.ensures) (c.may_stand-stands.ensures ∙ ap (may_stand c.self.inside.texts) (c.requires.text ∙ sym (ap (λ j. text_of j c.args.s) (kept_is c.self.view_is)) ∙ text_of_row (stock_in c.self.inside) c.args.s ∙ sym (ap (λ (r : Row). r.text) (rw c.deref.ensures.value at c.row_of-row.ensures)))) c.in-None.ensures.fit)

pub returns-in-None-clause-kept : goal.returns-in-None-clause-kept
returns-in-None-clause-kept c = (kept_is c.self.view_is) ∙ ap (with_image_moved c.args.self.now.kept c.args.s (made_area c.args.p.text_size c.args.p.data_size c.args.p.stack_size) (made_image (text_bytes c.args.self.now.kept c.args.text) c.args.p.data_size c.args.p.stack_size)) (placed_is (stock_in c.self.inside) c.args.self.now.kept c.args.s (16 + c.args.p.data_size + c.args.p.stack_size) c.self.inside.core_map c.self.inside.swap_map c.may_stand-stands.result c.row_of-row.result None (kept_is c.self.view_is) c.self.invariant.sound c.self.invariant.maps (rw c.deref.ensures.value at c.row_of-row.ensures) (c.may_stand-stands.ensures ∙ ap (may_stand c.self.inside.texts) (c.requires.text ∙ sym (ap (λ j. text_of j c.args.s) (kept_is c.self.view_is)) ∙ text_of_row (stock_in c.self.inside) c.args.s ∙ sym (ap (λ (r : Row). r.text) (rw c.deref.ensures.value at c.row_of-row.ensures)))) c.in-None.ensures.fit)

pub place_click-at-requires : goal.place_click-at-requires
place_click-at-requires c = ((16 + c.args.p.data_size + c.args.p.stack_size), (place_found (stock_in c.self.inside) c.args.self.now.kept c.args.s (16 + c.args.p.data_size + c.args.p.stack_size) c.in-Some.place (kept_is c.self.view_is) c.self.invariant.sound (sym (placed_is (stock_in c.self.inside) c.args.self.now.kept c.args.s (16 + c.args.p.data_size + c.args.p.stack_size) c.self.inside.core_map c.self.inside.swap_map c.may_stand-stands.result c.row_of-row.result (Some c.in-Some.place) (kept_is c.self.view_is) c.self.invariant.sound c.self.invariant.maps (rw c.deref.ensures.value at c.row_of-row.ensures) (c.may_stand-stands.ensures ∙ ap (may_stand c.self.inside.texts) (c.requires.text ∙ sym (ap (λ j. text_of j c.args.s) (kept_is c.self.view_is)) ∙ text_of_row (stock_in c.self.inside) c.args.s ∙ sym (ap (λ (r : Row). r.text) (rw c.deref.ensures.value at c.row_of-row.ensures)))) c.in-Some.ensures.fit))).inside)

pub lay_cleared-requires-clause-low : goal.lay_cleared-requires-clause-low
lay_cleared-requires-clause-low c = place_low c.self.inside.core (16 + c.args.p.data_size + c.args.p.stack_size) c.place_click-at.result c.in-Some.place (place_found (stock_in c.self.inside) c.args.self.now.kept c.args.s (16 + c.args.p.data_size + c.args.p.stack_size) c.in-Some.place (kept_is c.self.view_is) c.self.invariant.sound (sym (placed_is (stock_in c.self.inside) c.args.self.now.kept c.args.s (16 + c.args.p.data_size + c.args.p.stack_size) c.self.inside.core_map c.self.inside.swap_map c.may_stand-stands.result c.row_of-row.result (Some c.in-Some.place) (kept_is c.self.view_is) c.self.invariant.sound c.self.invariant.maps (rw c.deref.ensures.value at c.row_of-row.ensures) (c.may_stand-stands.ensures ∙ ap (may_stand c.self.inside.texts) (c.requires.text ∙ sym (ap (λ j. text_of j c.args.s) (kept_is c.self.view_is)) ∙ text_of_row (stock_in c.self.inside) c.args.s ∙ sym (ap (λ (r : Row). r.text) (rw c.deref.ensures.value at c.row_of-row.ensures)))) c.in-Some.ensures.fit))).inside c.self.invariant.sound.most c.place_click-at.ensures

pub lay_cleared-requires-clause-place : goal.lay_cleared-requires-clause-place
lay_cleared-requires-clause-place c = (place_inside c.self.inside.core (16 + c.args.p.data_size + c.args.p.stack_size) c.place_click-at.result c.in-Some.place (length c.self.inside.memory.core) (length (line_of c.self.inside.memory)) (place_found (stock_in c.self.inside) c.args.self.now.kept c.args.s (16 + c.args.p.data_size + c.args.p.stack_size) c.in-Some.place (kept_is c.self.view_is) c.self.invariant.sound (sym (placed_is (stock_in c.self.inside) c.args.self.now.kept c.args.s (16 + c.args.p.data_size + c.args.p.stack_size) c.self.inside.core_map c.self.inside.swap_map c.may_stand-stands.result c.row_of-row.result (Some c.in-Some.place) (kept_is c.self.view_is) c.self.invariant.sound c.self.invariant.maps (rw c.deref.ensures.value at c.row_of-row.ensures) (c.may_stand-stands.ensures ∙ ap (may_stand c.self.inside.texts) (c.requires.text ∙ sym (ap (λ j. text_of j c.args.s) (kept_is c.self.view_is)) ∙ text_of_row (stock_in c.self.inside) c.args.s ∙ sym (ap (λ (r : Row). r.text) (rw c.deref.ensures.value at c.row_of-row.ensures)))) c.in-Some.ensures.fit))).inside c.place_click-at.ensures c.self.invariant.cut c.self.invariant.sound.size).0

pub lay_cleared-requires-clause-inside : goal.lay_cleared-requires-clause-inside
lay_cleared-requires-clause-inside c = (place_inside c.self.inside.core (16 + c.args.p.data_size + c.args.p.stack_size) c.place_click-at.result c.in-Some.place (length c.self.inside.memory.core) (length (line_of c.self.inside.memory)) (place_found (stock_in c.self.inside) c.args.self.now.kept c.args.s (16 + c.args.p.data_size + c.args.p.stack_size) c.in-Some.place (kept_is c.self.view_is) c.self.invariant.sound (sym (placed_is (stock_in c.self.inside) c.args.self.now.kept c.args.s (16 + c.args.p.data_size + c.args.p.stack_size) c.self.inside.core_map c.self.inside.swap_map c.may_stand-stands.result c.row_of-row.result (Some c.in-Some.place) (kept_is c.self.view_is) c.self.invariant.sound c.self.invariant.maps (rw c.deref.ensures.value at c.row_of-row.ensures) (c.may_stand-stands.ensures ∙ ap (may_stand c.self.inside.texts) (c.requires.text ∙ sym (ap (λ j. text_of j c.args.s) (kept_is c.self.view_is)) ∙ text_of_row (stock_in c.self.inside) c.args.s ∙ sym (ap (λ (r : Row). r.text) (rw c.deref.ensures.value at c.row_of-row.ensures)))) c.in-Some.ensures.fit))).inside c.place_click-at.ensures c.self.invariant.cut c.self.invariant.sound.size).1

pub enter_place-requires-clause-used : goal.enter_place-requires-clause-used
enter_place-requires-clause-used c t e = c.self.invariant.counted.used c.args.s t (sym ((c.requires.text ∙ sym (ap (λ j. text_of j c.args.s) (kept_is c.self.view_is)) ∙ text_of_row (stock_in c.self.inside) c.args.s ∙ sym (ap (λ (r : Row). r.text) (rw c.deref.ensures.value at c.row_of-row.ensures))) ∙ ap (λ (r : Row). r.text) (rw c.deref.ensures.value at c.row_of-row.ensures)) ∙ e)

pub enter_place-requires-clause-few : goal.enter_place-requires-clause-few
enter_place-requires-clause-few c t e = (few_users (stock_in c.self.inside) c.args.s c.row_of-row.result c.self.invariant.sound c.self.invariant.counted (rw c.deref.ensures.value at c.row_of-row.ensures) t (sym (c.requires.text ∙ sym (ap (λ j. text_of j c.args.s) (kept_is c.self.view_is)) ∙ text_of_row (stock_in c.self.inside) c.args.s ∙ sym (ap (λ (r : Row). r.text) (rw c.deref.ensures.value at c.row_of-row.ensures))) ∙ e)).1

pub invariant_of-self-2 : goal.invariant_of-self-2
invariant_of-self-2 c = let g = (makes (stock_in c.self.inside) c.args.self.now.kept c.args.s c.args.p.text_size c.args.p.data_size c.args.p.stack_size c.place_click-at.result c.in-Some.place c.args.text c.made_bytes-bytes.result c.self.inside.core_map c.self.inside.swap_map c.take_place.new.core_map c.take_place.new.swap_map c.row_of-row.result (line_of c.lay_cleared.new.memory) c.enter_place.new.texts (with_items c.self.inside.rows c.set_row.new.rows).items (kept_is c.self.view_is) c.self.invariant.sound c.self.invariant.maps c.self.invariant.counted c.self.invariant.told (row_low (stock_in c.self.inside) c.args.s c.self.invariant.sound c.requires.slot) c.requires.nothing c.requires.text c.requires.text_size c.args.p.segments (rw c.deref.ensures.value at c.row_of-row.ensures) c.made_bytes-bytes.ensures.sized c.made_bytes-bytes.ensures.written (search rules) (sym (placed_is (stock_in c.self.inside) c.args.self.now.kept c.args.s (16 + c.args.p.data_size + c.args.p.stack_size) c.self.inside.core_map c.self.inside.swap_map c.may_stand-stands.result c.row_of-row.result (Some c.in-Some.place) (kept_is c.self.view_is) c.self.invariant.sound c.self.invariant.maps (rw c.deref.ensures.value at c.row_of-row.ensures) (c.may_stand-stands.ensures ∙ ap (may_stand c.self.inside.texts) (c.requires.text ∙ sym (ap (λ j. text_of j c.args.s) (kept_is c.self.view_is)) ∙ text_of_row (stock_in c.self.inside) c.args.s ∙ sym (ap (λ (r : Row). r.text) (rw c.deref.ensures.value at c.row_of-row.ensures)))) c.in-Some.ensures.fit)) c.place_click-at.ensures c.in-Some.ensures.core c.in-Some.ensures.swap c.lay_cleared.ensures.line c.enter_place.ensures (with_items_is c.self.inside.rows c.set_row.new.rows (c.set_row.ensures.long ∙ c.deref_mut.ensures.len) ∙ (rw c.deref_mut.ensures.value at c.set_row.ensures.rows) ∙ ap (set c.self.inside.rows.items c.args.s) c.sized_row.ensures)) in record { sound = g.sound; maps = g.maps; table = ap length c.enter_place.ensures ∙ moved_long c.self.inside.texts c.args.text None c.in-Some.place ∙ c.self.invariant.table; cut = c.lay_cleared.ensures.core ∙ c.self.invariant.cut; counted = g.counted; told = g.told }

pub returns-clause-place : goal.returns-clause-place
returns-clause-place c = sym (placed_is (stock_in c.self.inside) c.args.self.now.kept c.args.s (16 + c.args.p.data_size + c.args.p.stack_size) c.self.inside.core_map c.self.inside.swap_map c.may_stand-stands.result c.row_of-row.result (Some c.in-Some.place) (kept_is c.self.view_is) c.self.invariant.sound c.self.invariant.maps (rw c.deref.ensures.value at c.row_of-row.ensures) (c.may_stand-stands.ensures ∙ ap (may_stand c.self.inside.texts) (c.requires.text ∙ sym (ap (λ j. text_of j c.args.s) (kept_is c.self.view_is)) ∙ text_of_row (stock_in c.self.inside) c.args.s ∙ sym (ap (λ (r : Row). r.text) (rw c.deref.ensures.value at c.row_of-row.ensures)))) c.in-Some.ensures.fit)

pub returns-clause-kept : goal.returns-clause-kept
returns-clause-kept c = (makes (stock_in c.self.inside) c.args.self.now.kept c.args.s c.args.p.text_size c.args.p.data_size c.args.p.stack_size c.place_click-at.result c.in-Some.place c.args.text c.made_bytes-bytes.result c.self.inside.core_map c.self.inside.swap_map c.take_place.new.core_map c.take_place.new.swap_map c.row_of-row.result (line_of c.lay_cleared.new.memory) c.enter_place.new.texts (with_items c.self.inside.rows c.set_row.new.rows).items (kept_is c.self.view_is) c.self.invariant.sound c.self.invariant.maps c.self.invariant.counted c.self.invariant.told (row_low (stock_in c.self.inside) c.args.s c.self.invariant.sound c.requires.slot) c.requires.nothing c.requires.text c.requires.text_size c.args.p.segments (rw c.deref.ensures.value at c.row_of-row.ensures) c.made_bytes-bytes.ensures.sized c.made_bytes-bytes.ensures.written (search rules) (sym (placed_is (stock_in c.self.inside) c.args.self.now.kept c.args.s (16 + c.args.p.data_size + c.args.p.stack_size) c.self.inside.core_map c.self.inside.swap_map c.may_stand-stands.result c.row_of-row.result (Some c.in-Some.place) (kept_is c.self.view_is) c.self.invariant.sound c.self.invariant.maps (rw c.deref.ensures.value at c.row_of-row.ensures) (c.may_stand-stands.ensures ∙ ap (may_stand c.self.inside.texts) (c.requires.text ∙ sym (ap (λ j. text_of j c.args.s) (kept_is c.self.view_is)) ∙ text_of_row (stock_in c.self.inside) c.args.s ∙ sym (ap (λ (r : Row). r.text) (rw c.deref.ensures.value at c.row_of-row.ensures)))) c.in-Some.ensures.fit)) c.place_click-at.ensures c.in-Some.ensures.core c.in-Some.ensures.swap c.lay_cleared.ensures.line c.enter_place.ensures (with_items_is c.self.inside.rows c.set_row.new.rows (c.set_row.ensures.long ∙ c.deref_mut.ensures.len) ∙ (rw c.deref_mut.ensures.value at c.set_row.ensures.rows) ∙ ap (set c.self.inside.rows.items c.args.s) c.sized_row.ensures)).kept ∙ ap (with_image_moved c.args.self.now.kept c.args.s (made_area c.args.p.text_size c.args.p.data_size c.args.p.stack_size) (made_image (text_bytes c.args.self.now.kept c.args.text) c.args.p.data_size c.args.p.stack_size)) (placed_is (stock_in c.self.inside) c.args.self.now.kept c.args.s (16 + c.args.p.data_size + c.args.p.stack_size) c.self.inside.core_map c.self.inside.swap_map c.may_stand-stands.result c.row_of-row.result (Some c.in-Some.place) (kept_is c.self.view_is) c.self.invariant.sound c.self.invariant.maps (rw c.deref.ensures.value at c.row_of-row.ensures) (c.may_stand-stands.ensures ∙ ap (may_stand c.self.inside.texts) (c.requires.text ∙ sym (ap (λ j. text_of j c.args.s) (kept_is c.self.view_is)) ∙ text_of_row (stock_in c.self.inside) c.args.s ∙ sym (ap (λ (r : Row). r.text) (rw c.deref.ensures.value at c.row_of-row.ensures)))) c.in-Some.ensures.fit)

pub returns-clause-written : goal.returns-clause-written
returns-clause-written c =
    let core : c.self.inside.core ≡ c.args.self.now.kept.core =
    sym (core_kept (stock_in c.self.inside)) ∙ ap (λ (k : Kept). k.core) (kept_is c.self.view_is) in
    let at = c.place_click-at.ensures ∙ ap (λ n. place_at n c.in-Some.place) core in (
      c.lay_cleared.ensures.core ∙ ap (λ (l : List ℕ). length l) (core_is c.self.view_is),
      c.lay_cleared.ensures.line
          ∙ (λ i. over (line_is c.self.view_is i) (at i) (cleared_bytes c.args.p.data_size c.args.p.stack_size (c.made_bytes-bytes.ensures.written i))),
    )
