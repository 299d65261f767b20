use Rattle.image_keep.proofs.StateOf.{kept_is, core_is, line_is}
use Rattle.std.proofs.Common.{rules, ◌≡◌, ◌⊎◌, ◌*◌, ◌≤◌, ◌+◌, ◌∙◌, true, length, sym, ap, subst, refl, set}
use Rattle.core_mem.specs.Bytes.{over}
use Rattle.image_keep.specs.Kept.{Kept}
use Rattle.image_keep.specs.Memory.{place_at}
use Rattle.image_keep.proofs.InPlan.{core_kept}
use Rattle.image_keep.proofs.LaidBytes.{resized_is}
use Rattle.std.specs.Vec.{with_items}
use Rattle.std.proofs.lemmas.List.{with_items_is}
use Rattle.image_keep.specs.declared.row.Row.{Row}
use Rattle.image_keep.specs.Inside.{stock_in}
use Rattle.image_keep.specs.Line.{line_of}
use Rattle.image_keep.specs.Memory.{is_alive, clicks_in, row_at, place_by, IsIn}
use Rattle.image_keep.specs.Resized.{core_tail, swap_tail}
use Rattle.image_keep.proofs.AreaSet.{known, at_place_of}
use Rattle.image_keep.proofs.Ended.{both_room}
use Rattle.image_keep.proofs.SwapOut.{out_clicks}
use Rattle.image_keep.proofs.KeptForm.{place_is}
use Rattle.image_keep.proofs.Found.{place_inside, place_low, less_in}
use Rattle.image_keep.proofs.Cutting.{tail_taken}
use Rattle.image_keep.proofs.Growing.{cuts}
use Rattle.image_keep.proofs.images.Images.cut.Goals as goal

pub place_of-place-requires : goal.place_of-place-requires
place_of-place-requires c = ap is_alive (ap (λ (r : Row). r.state) (rw c.deref.ensures.value at c.row_of-row.ensures) ∙ (known (stock_in c.self.inside) c.args.self.now.kept c.args.s (kept_is c.self.view_is) c.self.invariant.sound c.self.invariant.counted c.requires.image).is)

pub lay_resized-requires-clause-low_from : goal.lay_resized-requires-clause-low_from
lay_resized-requires-clause-low_from c = place_low c.self.inside.core (clicks_in (row_at c.self.inside.rows.items c.args.s)) c.place_click-at.result c.place_of-place.result (at_place_of (stock_in c.self.inside) c.args.self.now.kept c.args.s c.row_of-row.result c.place_of-place.result (kept_is c.self.view_is) c.self.invariant.sound c.self.invariant.counted c.requires.image (rw c.deref.ensures.value at c.row_of-row.ensures) c.place_of-place.ensures).inside c.self.invariant.sound.most c.place_click-at.ensures

pub lay_resized-requires-clause-low_to : goal.lay_resized-requires-clause-low_to
lay_resized-requires-clause-low_to c = place_low c.self.inside.core (clicks_in (row_at c.self.inside.rows.items c.args.s)) c.place_click-at.result c.place_of-place.result (at_place_of (stock_in c.self.inside) c.args.self.now.kept c.args.s c.row_of-row.result c.place_of-place.result (kept_is c.self.view_is) c.self.invariant.sound c.self.invariant.counted c.requires.image (rw c.deref.ensures.value at c.row_of-row.ensures) c.place_of-place.ensures).inside c.self.invariant.sound.most c.place_click-at.ensures

pub lay_resized-requires-clause-from : goal.lay_resized-requires-clause-from
lay_resized-requires-clause-from c = subst (λ (r : Row). (64 * (c.place_click-at.result + clicks_in r) ≤ length c.self.inside.memory.core) ⊎ (length c.self.inside.memory.core ≤ 64 * c.place_click-at.result)) (sym (rw c.deref.ensures.value at c.row_of-row.ensures)) (place_inside c.self.inside.core (clicks_in (row_at c.self.inside.rows.items c.args.s)) c.place_click-at.result c.place_of-place.result (length c.self.inside.memory.core) (length (line_of c.self.inside.memory)) (at_place_of (stock_in c.self.inside) c.args.self.now.kept c.args.s c.row_of-row.result c.place_of-place.result (kept_is c.self.view_is) c.self.invariant.sound c.self.invariant.counted c.requires.image (rw c.deref.ensures.value at c.row_of-row.ensures) c.place_of-place.ensures).inside c.place_click-at.ensures c.self.invariant.cut c.self.invariant.sound.size).0

pub lay_resized-requires-clause-from_inside : goal.lay_resized-requires-clause-from_inside
lay_resized-requires-clause-from_inside c = subst (λ (r : Row). 64 * (c.place_click-at.result + clicks_in r) ≤ length (line_of c.self.inside.memory)) (sym (rw c.deref.ensures.value at c.row_of-row.ensures)) (place_inside c.self.inside.core (clicks_in (row_at c.self.inside.rows.items c.args.s)) c.place_click-at.result c.place_of-place.result (length c.self.inside.memory.core) (length (line_of c.self.inside.memory)) (at_place_of (stock_in c.self.inside) c.args.self.now.kept c.args.s c.row_of-row.result c.place_of-place.result (kept_is c.self.view_is) c.self.invariant.sound c.self.invariant.counted c.requires.image (rw c.deref.ensures.value at c.row_of-row.ensures) c.place_of-place.ensures).inside c.place_click-at.ensures c.self.invariant.cut c.self.invariant.sound.size).1

pub lay_resized-requires-clause-to : goal.lay_resized-requires-clause-to
lay_resized-requires-clause-to c = (place_inside c.self.inside.core (16 + c.args.d + c.args.stack) c.place_click-at.result c.place_of-place.result (length c.self.inside.memory.core) (length (line_of c.self.inside.memory)) (less_in c.self.inside.core (clicks_in (row_at c.self.inside.rows.items c.args.s)) (16 + c.args.d + c.args.stack) c.place_of-place.result (at_place_of (stock_in c.self.inside) c.args.self.now.kept c.args.s c.row_of-row.result c.place_of-place.result (kept_is c.self.view_is) c.self.invariant.sound c.self.invariant.counted c.requires.image (rw c.deref.ensures.value at c.row_of-row.ensures) c.place_of-place.ensures).inside (subst (λ (r : Row). (16 + c.args.d + c.args.stack) ≤ clicks_in r) (rw c.deref.ensures.value at c.row_of-row.ensures) (subst (λ n. (16 + c.args.d + c.args.stack) ≤ n) (out_clicks (stock_in c.self.inside) c.args.self.now.kept c.args.s c.place_of-place.result c.row_of-row.result (clicks_in c.row_of-row.result) (kept_is c.self.view_is) c.self.invariant.sound (at_place_of (stock_in c.self.inside) c.args.self.now.kept c.args.s c.row_of-row.result c.place_of-place.result (kept_is c.self.view_is) c.self.invariant.sound c.self.invariant.counted c.requires.image (rw c.deref.ensures.value at c.row_of-row.ensures) c.place_of-place.ensures).is (rw c.deref.ensures.value at c.row_of-row.ensures) refl) c.requires.small))) c.place_click-at.ensures c.self.invariant.cut c.self.invariant.sound.size).0

pub lay_resized-requires-clause-to_inside : goal.lay_resized-requires-clause-to_inside
lay_resized-requires-clause-to_inside c = (place_inside c.self.inside.core (16 + c.args.d + c.args.stack) c.place_click-at.result c.place_of-place.result (length c.self.inside.memory.core) (length (line_of c.self.inside.memory)) (less_in c.self.inside.core (clicks_in (row_at c.self.inside.rows.items c.args.s)) (16 + c.args.d + c.args.stack) c.place_of-place.result (at_place_of (stock_in c.self.inside) c.args.self.now.kept c.args.s c.row_of-row.result c.place_of-place.result (kept_is c.self.view_is) c.self.invariant.sound c.self.invariant.counted c.requires.image (rw c.deref.ensures.value at c.row_of-row.ensures) c.place_of-place.ensures).inside (subst (λ (r : Row). (16 + c.args.d + c.args.stack) ≤ clicks_in r) (rw c.deref.ensures.value at c.row_of-row.ensures) (subst (λ n. (16 + c.args.d + c.args.stack) ≤ n) (out_clicks (stock_in c.self.inside) c.args.self.now.kept c.args.s c.place_of-place.result c.row_of-row.result (clicks_in c.row_of-row.result) (kept_is c.self.view_is) c.self.invariant.sound (at_place_of (stock_in c.self.inside) c.args.self.now.kept c.args.s c.row_of-row.result c.place_of-place.result (kept_is c.self.view_is) c.self.invariant.sound c.self.invariant.counted c.requires.image (rw c.deref.ensures.value at c.row_of-row.ensures) c.place_of-place.ensures).is (rw c.deref.ensures.value at c.row_of-row.ensures) refl) c.requires.small))) c.place_click-at.ensures c.self.invariant.cut c.self.invariant.sound.size).1

pub give_tail-requires-clause-less : goal.give_tail-requires-clause-less
give_tail-requires-clause-less c = subst (λ n. (16 + c.args.d + c.args.stack) ≤ n) (sym c.clicks_of.ensures) (subst (λ n. (16 + c.args.d + c.args.stack) ≤ n) (out_clicks (stock_in c.self.inside) c.args.self.now.kept c.args.s c.place_of-place.result c.row_of-row.result (clicks_in c.row_of-row.result) (kept_is c.self.view_is) c.self.invariant.sound (at_place_of (stock_in c.self.inside) c.args.self.now.kept c.args.s c.row_of-row.result c.place_of-place.result (kept_is c.self.view_is) c.self.invariant.sound c.self.invariant.counted c.requires.image (rw c.deref.ensures.value at c.row_of-row.ensures) c.place_of-place.ensures).is (rw c.deref.ensures.value at c.row_of-row.ensures) refl) c.requires.small)

pub give_tail-requires-clause-inside : goal.give_tail-requires-clause-inside
give_tail-requires-clause-inside c = (c.self.inside.core, c.self.invariant.sound.most, subst (λ n. IsIn c.self.inside.core c.place_of-place.result n) (sym (c.clicks_of.ensures ∙ ap clicks_in (rw c.deref.ensures.value at c.row_of-row.ensures))) (at_place_of (stock_in c.self.inside) c.args.self.now.kept c.args.s c.row_of-row.result c.place_of-place.result (kept_is c.self.view_is) c.self.invariant.sound c.self.invariant.counted c.requires.image (rw c.deref.ensures.value at c.row_of-row.ensures) c.place_of-place.ensures).inside)

pub give_tail-requires-clause-core_taken : goal.give_tail-requires-clause-core_taken
give_tail-requires-clause-core_taken c x e = (tail_taken (stock_in c.self.inside) c.args.s (16 + c.args.d + c.args.stack) c.place_of-place.result c.self.inside.core_map c.self.inside.swap_map c.self.invariant.maps (at_place_of (stock_in c.self.inside) c.args.self.now.kept c.args.s c.row_of-row.result c.place_of-place.result (kept_is c.self.view_is) c.self.invariant.sound c.self.invariant.counted c.requires.image (rw c.deref.ensures.value at c.row_of-row.ensures) c.place_of-place.ensures).is (at_place_of (stock_in c.self.inside) c.args.self.now.kept c.args.s c.row_of-row.result c.place_of-place.result (kept_is c.self.view_is) c.self.invariant.sound c.self.invariant.counted c.requires.image (rw c.deref.ensures.value at c.row_of-row.ensures) c.place_of-place.ensures).inside (subst (λ (r : Row). (16 + c.args.d + c.args.stack) ≤ clicks_in r) (rw c.deref.ensures.value at c.row_of-row.ensures) (subst (λ n. (16 + c.args.d + c.args.stack) ≤ n) (out_clicks (stock_in c.self.inside) c.args.self.now.kept c.args.s c.place_of-place.result c.row_of-row.result (clicks_in c.row_of-row.result) (kept_is c.self.view_is) c.self.invariant.sound (at_place_of (stock_in c.self.inside) c.args.self.now.kept c.args.s c.row_of-row.result c.place_of-place.result (kept_is c.self.view_is) c.self.invariant.sound c.self.invariant.counted c.requires.image (rw c.deref.ensures.value at c.row_of-row.ensures) c.place_of-place.ensures).is (rw c.deref.ensures.value at c.row_of-row.ensures) refl) c.requires.small))).0 x (subst (λ n. core_tail c.place_of-place.result n (16 + c.args.d + c.args.stack) x ≡ true) (c.clicks_of.ensures ∙ ap clicks_in (rw c.deref.ensures.value at c.row_of-row.ensures)) e)

pub give_tail-requires-clause-swap_taken : goal.give_tail-requires-clause-swap_taken
give_tail-requires-clause-swap_taken c x e = (tail_taken (stock_in c.self.inside) c.args.s (16 + c.args.d + c.args.stack) c.place_of-place.result c.self.inside.core_map c.self.inside.swap_map c.self.invariant.maps (at_place_of (stock_in c.self.inside) c.args.self.now.kept c.args.s c.row_of-row.result c.place_of-place.result (kept_is c.self.view_is) c.self.invariant.sound c.self.invariant.counted c.requires.image (rw c.deref.ensures.value at c.row_of-row.ensures) c.place_of-place.ensures).is (at_place_of (stock_in c.self.inside) c.args.self.now.kept c.args.s c.row_of-row.result c.place_of-place.result (kept_is c.self.view_is) c.self.invariant.sound c.self.invariant.counted c.requires.image (rw c.deref.ensures.value at c.row_of-row.ensures) c.place_of-place.ensures).inside (subst (λ (r : Row). (16 + c.args.d + c.args.stack) ≤ clicks_in r) (rw c.deref.ensures.value at c.row_of-row.ensures) (subst (λ n. (16 + c.args.d + c.args.stack) ≤ n) (out_clicks (stock_in c.self.inside) c.args.self.now.kept c.args.s c.place_of-place.result c.row_of-row.result (clicks_in c.row_of-row.result) (kept_is c.self.view_is) c.self.invariant.sound (at_place_of (stock_in c.self.inside) c.args.self.now.kept c.args.s c.row_of-row.result c.place_of-place.result (kept_is c.self.view_is) c.self.invariant.sound c.self.invariant.counted c.requires.image (rw c.deref.ensures.value at c.row_of-row.ensures) c.place_of-place.ensures).is (rw c.deref.ensures.value at c.row_of-row.ensures) refl) c.requires.small))).1 x (subst (λ n. swap_tail c.place_of-place.result n (16 + c.args.d + c.args.stack) x ≡ true) (c.clicks_of.ensures ∙ ap clicks_in (rw c.deref.ensures.value at c.row_of-row.ensures)) e)

pub give_tail-requires-clause-core_room : goal.give_tail-requires-clause-core_room
give_tail-requires-clause-core_room c = (both_room (stock_in c.self.inside) c.self.inside.core_map c.self.inside.swap_map c.self.invariant.sound c.self.invariant.maps c.self.invariant.table c.count.ensures.few c.count-2.ensures.few).0

pub give_tail-requires-clause-swap_room : goal.give_tail-requires-clause-swap_room
give_tail-requires-clause-swap_room c = (both_room (stock_in c.self.inside) c.self.inside.core_map c.self.inside.swap_map c.self.invariant.sound c.self.invariant.maps c.self.invariant.table c.count.ensures.few c.count-2.ensures.few).1

pub invariant_of-self : goal.invariant_of-self
invariant_of-self c = let g = (cuts (stock_in c.self.inside) c.args.self.now.kept c.args.s c.args.d c.args.stack c.place_click-at.result c.place_of-place.result c.area.result c.sized_bytes-bytes.result c.self.inside.core_map c.self.inside.swap_map c.give_tail.new.core_map c.give_tail.new.swap_map c.row_of-row.result (line_of c.lay_resized.new.memory) (with_items c.self.inside.rows c.set_row.new.rows).items (kept_is c.self.view_is) c.self.invariant.sound c.self.invariant.maps c.self.invariant.counted c.self.invariant.told c.requires.image (rw c.deref.ensures.value at c.row_of-row.ensures) c.place_of-place.ensures c.requires.segments (subst (λ n. (16 + c.args.d + c.args.stack) ≤ n) (out_clicks (stock_in c.self.inside) c.args.self.now.kept c.args.s c.place_of-place.result c.row_of-row.result (clicks_in c.row_of-row.result) (kept_is c.self.view_is) c.self.invariant.sound (at_place_of (stock_in c.self.inside) c.args.self.now.kept c.args.s c.row_of-row.result c.place_of-place.result (kept_is c.self.view_is) c.self.invariant.sound c.self.invariant.counted c.requires.image (rw c.deref.ensures.value at c.row_of-row.ensures) c.place_of-place.ensures).is (rw c.deref.ensures.value at c.row_of-row.ensures) refl) c.requires.small) c.area.ensures.u c.sized_bytes-bytes.ensures.sized c.sized_bytes-bytes.ensures.written (search rules) c.place_click-at.ensures (rw c.clicks_of.ensures at c.give_tail.ensures.core) (rw c.clicks_of.ensures at c.give_tail.ensures.swap) c.lay_resized.ensures.line (with_items_is c.self.inside.rows c.set_row.new.rows (c.set_row.ensures.long ∙ c.deref_mut.ensures.len) ∙ (rw c.deref_mut.ensures.value at c.set_row.ensures.rows) ∙ ap (set c.self.inside.rows.items c.args.s) c.sized_row.ensures)) in record { sound = g.sound; maps = g.maps; table = c.self.invariant.table; cut = c.lay_resized.ensures.core ∙ c.self.invariant.cut; counted = g.counted; told = g.told }

pub returns-clause-place : goal.returns-clause-place
returns-clause-place c = sym (place_is (stock_in c.self.inside) c.args.self.now.kept c.args.s c.row_of-row.result (kept_is c.self.view_is) (rw c.deref.ensures.value at c.row_of-row.ensures)) ∙ ap place_by c.place_of-place.ensures

pub returns-clause-kept : goal.returns-clause-kept
returns-clause-kept c = (cuts (stock_in c.self.inside) c.args.self.now.kept c.args.s c.args.d c.args.stack c.place_click-at.result c.place_of-place.result c.area.result c.sized_bytes-bytes.result c.self.inside.core_map c.self.inside.swap_map c.give_tail.new.core_map c.give_tail.new.swap_map c.row_of-row.result (line_of c.lay_resized.new.memory) (with_items c.self.inside.rows c.set_row.new.rows).items (kept_is c.self.view_is) c.self.invariant.sound c.self.invariant.maps c.self.invariant.counted c.self.invariant.told c.requires.image (rw c.deref.ensures.value at c.row_of-row.ensures) c.place_of-place.ensures c.requires.segments (subst (λ n. (16 + c.args.d + c.args.stack) ≤ n) (out_clicks (stock_in c.self.inside) c.args.self.now.kept c.args.s c.place_of-place.result c.row_of-row.result (clicks_in c.row_of-row.result) (kept_is c.self.view_is) c.self.invariant.sound (at_place_of (stock_in c.self.inside) c.args.self.now.kept c.args.s c.row_of-row.result c.place_of-place.result (kept_is c.self.view_is) c.self.invariant.sound c.self.invariant.counted c.requires.image (rw c.deref.ensures.value at c.row_of-row.ensures) c.place_of-place.ensures).is (rw c.deref.ensures.value at c.row_of-row.ensures) refl) c.requires.small) c.area.ensures.u c.sized_bytes-bytes.ensures.sized c.sized_bytes-bytes.ensures.written (search rules) c.place_click-at.ensures (rw c.clicks_of.ensures at c.give_tail.ensures.core) (rw c.clicks_of.ensures at c.give_tail.ensures.swap) c.lay_resized.ensures.line (with_items_is c.self.inside.rows c.set_row.new.rows (c.set_row.ensures.long ∙ c.deref_mut.ensures.len) ∙ (rw c.deref_mut.ensures.value at c.set_row.ensures.rows) ∙ ap (set c.self.inside.rows.items c.args.s) c.sized_row.ensures)).kept

pub returns-clause-written : goal.returns-clause-written
returns-clause-written c =
    let v = stock_in c.self.inside in
    let core : c.self.inside.core ≡ c.args.self.now.kept.core =
    sym (core_kept v) ∙ ap (λ (k : Kept). k.core) (kept_is c.self.view_is) in
    let at = c.place_click-at.ensures ∙ ap (λ n. place_at n c.place_of-place.result) core in
    let bytes =
    resized_is v c.args.self.now.kept c.args.s c.place_of-place.result c.area.result c.args.d c.args.stack c.place_click-at.result
    c.row_of-row.result c.sized_bytes-bytes.result (kept_is c.self.view_is) (rw c.deref.ensures.value at c.row_of-row.ensures)
    c.place_of-place.ensures c.area.ensures.u c.sized_bytes-bytes.ensures.written c.place_click-at.ensures in (
      c.lay_resized.ensures.core ∙ ap length (core_is c.self.view_is),
      c.lay_resized.ensures.line ∙ (λ i. over (line_is c.self.view_is i) (at i) (bytes i)),
    )
