use Rattle.image_keep.proofs.StateOf.{kept_is, core_is, line_is}
use Rattle.std.proofs.Common.{◌≡◌, ◌<◌, ◌+◌, ◌∙◌, ◌||◌, ℕ, sym, ap, subst, length, arith}
use Rattle.core_mem.specs.Bytes.{over}
use Rattle.u_area.specs.Area.{area_bytes}
use Rattle.image_keep.specs.Kept.{area_of}
use Rattle.image_keep.specs.Memory.{place_at}
use Rattle.image_keep.proofs.LaidBytes.{textless_is}
use Rattle.std.specs.Vec.{with_items}
use Rattle.std.proofs.lemmas.List.{with_items_is, length-set}
use Rattle.text_tab.specs.Table.{row_at as text_row}
use Rattle.image_keep.specs.Inside.{stock_in}
use Rattle.image_keep.specs.Line.{line_of}
use Rattle.image_keep.specs.Told.{AreTold}
use Rattle.text_tab.specs.Table.{left, remaining}
use Rattle.map_fit.specs.Free.{is_free}
use Rattle.image_keep.specs.declared.row.Row.{Row}
use Rattle.image_keep.specs.Moves.{leave_texts, leaving_units}
use Rattle.image_keep.specs.Leaves.{IsStoredBy}
use Rattle.image_keep.specs.SharedTexts.{with_left_text}
use Rattle.image_keep.proofs.Ended.{both_room}
use Rattle.image_keep.proofs.SwapOut.{out_long}
use Rattle.image_keep.proofs.LeaveText.{Unloads, has_text_of, stored_by, unloads, detaches, text_left, text_named, told_answer, others_stay, kept_long}
use Rattle.image_keep.proofs.TextTold.{told_left}
use Rattle.std.proofs.lemmas.List.{with_items_is}
use Rattle.image_keep.proofs.images.Images.leave_text.Goals as goal

pub row_of-row-requires : goal.row_of-row-requires
row_of-row-requires c = rw c.deref.ensures.value ((has_text_of (stock_in c.self.inside) c.args.self.now.kept c.args.s c.requires.0 (kept_is c.self.view_is) c.self.invariant.counted c.requires.1).low)

pub text_in-t-requires : goal.text_in-t-requires
text_in-t-requires c = (c.requires.0, ap (λ (r : Row). r.text) (rw c.deref.ensures.value at c.row_of-row.ensures) ∙ (has_text_of (stock_in c.self.inside) c.args.self.now.kept c.args.s c.requires.0 (kept_is c.self.view_is) c.self.invariant.counted c.requires.1).has)

pub clear_text_size-requires-clause-stored : goal.clear_text_size-requires-clause-stored
clear_text_size-requires-clause-stored c = subst (λ (r : Row). IsStoredBy (line_of c.self.inside.memory) c.self.inside.core r.state) (sym (rw c.deref.ensures.value at c.row_of-row.ensures)) (stored_by (stock_in c.self.inside) c.args.s c.self.invariant.sound)

pub unload_text-requires-clause-some : goal.unload_text-requires-clause-some
unload_text-requires-clause-some c = (subst (λ y. Unloads (stock_in c.self.inside) y c.self.inside.core_map) (sym c.loaded_text.ensures) (unloads (stock_in c.self.inside) c.args.s c.row_of-row.result c.self.inside.core_map c.self.inside.swap_map c.self.invariant.sound c.self.invariant.maps c.self.invariant.counted (has_text_of (stock_in c.self.inside) c.args.self.now.kept c.args.s c.text_in-t.result (kept_is c.self.view_is) c.self.invariant.counted (text_named (stock_in c.self.inside) c.args.self.now.kept c.args.s c.text_in-t.result c.row_of-row.result (kept_is c.self.view_is) (rw c.deref.ensures.value at c.row_of-row.ensures) c.text_in-t.ensures)).low (rw c.deref.ensures.value at c.row_of-row.ensures))).some

pub unload_text-requires-clause-clicks : goal.unload_text-requires-clause-clicks
unload_text-requires-clause-clicks c = (subst (λ y. Unloads (stock_in c.self.inside) y c.self.inside.core_map) (sym c.loaded_text.ensures) (unloads (stock_in c.self.inside) c.args.s c.row_of-row.result c.self.inside.core_map c.self.inside.swap_map c.self.invariant.sound c.self.invariant.maps c.self.invariant.counted (has_text_of (stock_in c.self.inside) c.args.self.now.kept c.args.s c.text_in-t.result (kept_is c.self.view_is) c.self.invariant.counted (text_named (stock_in c.self.inside) c.args.self.now.kept c.args.s c.text_in-t.result c.row_of-row.result (kept_is c.self.view_is) (rw c.deref.ensures.value at c.row_of-row.ensures) c.text_in-t.ensures)).low (rw c.deref.ensures.value at c.row_of-row.ensures))).clicks

pub unload_text-requires-clause-small : goal.unload_text-requires-clause-small
unload_text-requires-clause-small c = (subst (λ y. Unloads (stock_in c.self.inside) y c.self.inside.core_map) (sym c.loaded_text.ensures) (unloads (stock_in c.self.inside) c.args.s c.row_of-row.result c.self.inside.core_map c.self.inside.swap_map c.self.invariant.sound c.self.invariant.maps c.self.invariant.counted (has_text_of (stock_in c.self.inside) c.args.self.now.kept c.args.s c.text_in-t.result (kept_is c.self.view_is) c.self.invariant.counted (text_named (stock_in c.self.inside) c.args.self.now.kept c.args.s c.text_in-t.result c.row_of-row.result (kept_is c.self.view_is) (rw c.deref.ensures.value at c.row_of-row.ensures) c.text_in-t.ensures)).low (rw c.deref.ensures.value at c.row_of-row.ensures))).small

pub unload_text-requires-clause-taken : goal.unload_text-requires-clause-taken
unload_text-requires-clause-taken c = (subst (λ y. Unloads (stock_in c.self.inside) y c.self.inside.core_map) (sym c.loaded_text.ensures) (unloads (stock_in c.self.inside) c.args.s c.row_of-row.result c.self.inside.core_map c.self.inside.swap_map c.self.invariant.sound c.self.invariant.maps c.self.invariant.counted (has_text_of (stock_in c.self.inside) c.args.self.now.kept c.args.s c.text_in-t.result (kept_is c.self.view_is) c.self.invariant.counted (text_named (stock_in c.self.inside) c.args.self.now.kept c.args.s c.text_in-t.result c.row_of-row.result (kept_is c.self.view_is) (rw c.deref.ensures.value at c.row_of-row.ensures) c.text_in-t.ensures)).low (rw c.deref.ensures.value at c.row_of-row.ensures))).taken

pub unload_text-requires-clause-room : goal.unload_text-requires-clause-room
unload_text-requires-clause-room c = (both_room (stock_in c.self.inside) c.self.inside.core_map c.self.inside.swap_map c.self.invariant.sound c.self.invariant.maps c.self.invariant.table c.count.ensures.few c.count-2.ensures.few).0

pub detach-requires-clause-users : goal.detach-requires-clause-users
detach-requires-clause-users c = (detaches (stock_in c.self.inside) c.args.s c.text_in-t.result c.row_of-row.result c.self.inside.core_map c.self.inside.swap_map c.unload_text.new.texts c.self.invariant.sound c.self.invariant.maps c.self.invariant.counted (has_text_of (stock_in c.self.inside) c.args.self.now.kept c.args.s c.text_in-t.result (kept_is c.self.view_is) c.self.invariant.counted (text_named (stock_in c.self.inside) c.args.self.now.kept c.args.s c.text_in-t.result c.row_of-row.result (kept_is c.self.view_is) (rw c.deref.ensures.value at c.row_of-row.ensures) c.text_in-t.ensures)) (rw c.deref.ensures.value at c.row_of-row.ensures) (c.unload_text.ensures.texts ∙ ap (leave_texts c.self.inside.texts) c.loaded_text.ensures)).1.users

pub detach-requires-clause-clicks : goal.detach-requires-clause-clicks
detach-requires-clause-clicks c = (detaches (stock_in c.self.inside) c.args.s c.text_in-t.result c.row_of-row.result c.self.inside.core_map c.self.inside.swap_map c.unload_text.new.texts c.self.invariant.sound c.self.invariant.maps c.self.invariant.counted (has_text_of (stock_in c.self.inside) c.args.self.now.kept c.args.s c.text_in-t.result (kept_is c.self.view_is) c.self.invariant.counted (text_named (stock_in c.self.inside) c.args.self.now.kept c.args.s c.text_in-t.result c.row_of-row.result (kept_is c.self.view_is) (rw c.deref.ensures.value at c.row_of-row.ensures) c.text_in-t.ensures)) (rw c.deref.ensures.value at c.row_of-row.ensures) (c.unload_text.ensures.texts ∙ ap (leave_texts c.self.inside.texts) c.loaded_text.ensures)).1.clicks

pub detach-requires-clause-small : goal.detach-requires-clause-small
detach-requires-clause-small c = (detaches (stock_in c.self.inside) c.args.s c.text_in-t.result c.row_of-row.result c.self.inside.core_map c.self.inside.swap_map c.unload_text.new.texts c.self.invariant.sound c.self.invariant.maps c.self.invariant.counted (has_text_of (stock_in c.self.inside) c.args.self.now.kept c.args.s c.text_in-t.result (kept_is c.self.view_is) c.self.invariant.counted (text_named (stock_in c.self.inside) c.args.self.now.kept c.args.s c.text_in-t.result c.row_of-row.result (kept_is c.self.view_is) (rw c.deref.ensures.value at c.row_of-row.ensures) c.text_in-t.ensures)) (rw c.deref.ensures.value at c.row_of-row.ensures) (c.unload_text.ensures.texts ∙ ap (leave_texts c.self.inside.texts) c.loaded_text.ensures)).1.small

pub detach-requires-clause-taken : goal.detach-requires-clause-taken
detach-requires-clause-taken c = (detaches (stock_in c.self.inside) c.args.s c.text_in-t.result c.row_of-row.result c.self.inside.core_map c.self.inside.swap_map c.unload_text.new.texts c.self.invariant.sound c.self.invariant.maps c.self.invariant.counted (has_text_of (stock_in c.self.inside) c.args.self.now.kept c.args.s c.text_in-t.result (kept_is c.self.view_is) c.self.invariant.counted (text_named (stock_in c.self.inside) c.args.self.now.kept c.args.s c.text_in-t.result c.row_of-row.result (kept_is c.self.view_is) (rw c.deref.ensures.value at c.row_of-row.ensures) c.text_in-t.ensures)) (rw c.deref.ensures.value at c.row_of-row.ensures) (c.unload_text.ensures.texts ∙ ap (leave_texts c.self.inside.texts) c.loaded_text.ensures)).1.taken

pub detach-requires-clause-room : goal.detach-requires-clause-room
detach-requires-clause-room c = (both_room (stock_in c.self.inside) c.self.inside.core_map c.self.inside.swap_map c.self.invariant.sound c.self.invariant.maps c.self.invariant.table c.count.ensures.few c.count-2.ensures.few).1

pub invariant_of-self : goal.invariant_of-self
invariant_of-self c =
    let g = (text_left (stock_in c.self.inside) c.args.self.now.kept c.args.s c.text_in-t.result c.args.sticky c.self.inside.core_map c.unload_text.new.core_map c.self.inside.swap_map c.detach.new.swap_map c.row_of-row.result (line_of c.clear_text_size.new.memory) c.unload_text.new.texts c.detach.new.texts (with_items c.self.inside.rows c.give_text.new.rows).items (kept_is c.self.view_is) c.self.invariant.sound c.self.invariant.maps c.self.invariant.counted (has_text_of (stock_in c.self.inside) c.args.self.now.kept c.args.s c.text_in-t.result (kept_is c.self.view_is) c.self.invariant.counted (text_named (stock_in c.self.inside) c.args.self.now.kept c.args.s c.text_in-t.result c.row_of-row.result (kept_is c.self.view_is) (rw c.deref.ensures.value at c.row_of-row.ensures) c.text_in-t.ensures)) (rw c.deref.ensures.value at c.row_of-row.ensures) c.clear_text_size.ensures.line c.clear_text_size.ensures.long (with_items_is c.self.inside.rows c.give_text.new.rows (c.give_text.ensures.long ∙ c.deref_mut.ensures.len) ∙ (rw c.deref_mut.ensures.value at c.give_text.ensures.rows)) (c.unload_text.ensures.texts ∙ ap (leave_texts c.self.inside.texts) c.loaded_text.ensures) (λ y. c.unload_text.ensures.core y ∙ ap (λ x. is_free c.self.inside.core_map y || leaving_units c.self.inside.texts x y) c.loaded_text.ensures) c.detach.ensures.table c.detach.ensures.swap) in
    let long = (kept_long (stock_in c.self.inside) c.args.self.now.kept (kept_is c.self.view_is)) in
    let low = (has_text_of (stock_in c.self.inside) c.args.self.now.kept c.args.s c.text_in-t.result (kept_is c.self.view_is) c.self.invariant.counted (text_named (stock_in c.self.inside) c.args.self.now.kept c.args.s c.text_in-t.result c.row_of-row.result (kept_is c.self.view_is) (rw c.deref.ensures.value at c.row_of-row.ensures) c.text_in-t.ensures)).low in
    record {
      sound = g.sound;
      maps = g.maps;
      table = ap length c.detach.ensures.table ∙ length-set c.unload_text.new.texts c.text_in-t.result (remaining (left (text_row c.unload_text.new.texts c.text_in-t.result) c.args.sticky) (text_row c.unload_text.new.texts c.text_in-t.result))
          ∙ ap length c.unload_text.ensures.texts ∙ out_long c.self.inside.texts c.loaded_text.result ∙ c.self.invariant.table;
      cut = c.clear_text_size.ensures.new_core ∙ c.self.invariant.cut;
      counted = g.counted;
      told = subst AreTold (sym g.kept) (told_left c.args.self.now.kept c.args.s c.text_in-t.result c.args.sticky (subst (λ n. c.args.s < n) (sym long.0) low) (subst (λ n. c.args.s < n) (sym long.1) low) (subst AreTold (kept_is c.self.view_is) c.self.invariant.told) (others_stay (stock_in c.self.inside) c.args.self.now.kept c.args.s c.text_in-t.result c.args.sticky (kept_is c.self.view_is) c.self.invariant.counted (has_text_of (stock_in c.self.inside) c.args.self.now.kept c.args.s c.text_in-t.result (kept_is c.self.view_is) c.self.invariant.counted (text_named (stock_in c.self.inside) c.args.self.now.kept c.args.s c.text_in-t.result c.row_of-row.result (kept_is c.self.view_is) (rw c.deref.ensures.value at c.row_of-row.ensures) c.text_in-t.ensures))));
    }

pub returns-clause-left : goal.returns-clause-left
returns-clause-left c = c.detach.ensures.left ∙ told_answer (stock_in c.self.inside) c.args.self.now.kept c.args.s c.text_in-t.result c.args.sticky c.row_of-row.result c.unload_text.new.texts (kept_is c.self.view_is) (text_named (stock_in c.self.inside) c.args.self.now.kept c.args.s c.text_in-t.result c.row_of-row.result (kept_is c.self.view_is) (rw c.deref.ensures.value at c.row_of-row.ensures) c.text_in-t.ensures) (has_text_of (stock_in c.self.inside) c.args.self.now.kept c.args.s c.text_in-t.result (kept_is c.self.view_is) c.self.invariant.counted (text_named (stock_in c.self.inside) c.args.self.now.kept c.args.s c.text_in-t.result c.row_of-row.result (kept_is c.self.view_is) (rw c.deref.ensures.value at c.row_of-row.ensures) c.text_in-t.ensures)) (rw c.deref.ensures.value at c.row_of-row.ensures) (c.unload_text.ensures.texts ∙ ap (leave_texts c.self.inside.texts) c.loaded_text.ensures)

pub returns-clause-kept : goal.returns-clause-kept
returns-clause-kept c = (text_left (stock_in c.self.inside) c.args.self.now.kept c.args.s c.text_in-t.result c.args.sticky c.self.inside.core_map c.unload_text.new.core_map c.self.inside.swap_map c.detach.new.swap_map c.row_of-row.result (line_of c.clear_text_size.new.memory) c.unload_text.new.texts c.detach.new.texts (with_items c.self.inside.rows c.give_text.new.rows).items (kept_is c.self.view_is) c.self.invariant.sound c.self.invariant.maps c.self.invariant.counted (has_text_of (stock_in c.self.inside) c.args.self.now.kept c.args.s c.text_in-t.result (kept_is c.self.view_is) c.self.invariant.counted (text_named (stock_in c.self.inside) c.args.self.now.kept c.args.s c.text_in-t.result c.row_of-row.result (kept_is c.self.view_is) (rw c.deref.ensures.value at c.row_of-row.ensures) c.text_in-t.ensures)) (rw c.deref.ensures.value at c.row_of-row.ensures) c.clear_text_size.ensures.line c.clear_text_size.ensures.long (with_items_is c.self.inside.rows c.give_text.new.rows (c.give_text.ensures.long ∙ c.deref_mut.ensures.len) ∙ (rw c.deref_mut.ensures.value at c.give_text.ensures.rows)) (c.unload_text.ensures.texts ∙ ap (leave_texts c.self.inside.texts) c.loaded_text.ensures) (λ y. c.unload_text.ensures.core y ∙ ap (λ x. is_free c.self.inside.core_map y || leaving_units c.self.inside.texts x y) c.loaded_text.ensures) c.detach.ensures.table c.detach.ensures.swap).kept ∙ ap (with_left_text c.args.self.now.kept c.args.s c.args.sticky) (sym (text_named (stock_in c.self.inside) c.args.self.now.kept c.args.s c.text_in-t.result c.row_of-row.result (kept_is c.self.view_is) (rw c.deref.ensures.value at c.row_of-row.ensures) c.text_in-t.ensures))

pub returns-clause-written : goal.returns-clause-written
returns-clause-written c = λ held its.
    let at : ℕ = place_at c.args.self.now.kept.core held.place in
    let front : at ≡ at + 0 = omega arith in (
      c.clear_text_size.ensures.new_core ∙ ap length (core_is c.self.view_is),
      c.clear_text_size.ensures.line
          ∙ textless_is (stock_in c.self.inside) c.args.self.now.kept c.args.s c.row_of-row.result held (kept_is c.self.view_is)
          c.self.invariant.sound c.self.invariant.counted (rw c.deref.ensures.value at c.row_of-row.ensures) its
          ∙ (λ i. over (line_is c.self.view_is i) (front i) (area_bytes (record (area_of c.args.self.now.kept c.args.s) { text_size = 0 }))),
    )
