-- A slot leaves its text; a process ends, and is waited for.
use Rattle.std.proofs.Common.{◌≡◌, ◌≢◌, ℕ, ◌+◌, ◌*◌, ◌<◌, ◌≤◌, inl, inr, List, [], length, take, drop, set, Bool, true, false, count_by, Some, None, refl, sym, ap, subst, ◌∙◌, arith}
use Rattle.std.proofs.lemmas.Bool.{cases_lt, eq-eqb, both_ways}
use Rattle.std.proofs.lemmas.List.{take-take, map-set, get_or_past}
use Rattle.v6_base.specs.declared.entry.Place.{Place}
use Rattle.core_mem.specs.Bytes.{part, over}
use Rattle.core_mem.proofs.Parts.{part-over_same, length-part, drop-over}
use Rattle.u_area.specs.declared.area.UArea.{UArea}
use Rattle.u_area.specs.Area.{fetched, area_bytes, widened, half_bytes, IsSized, IsStored}
use Rattle.u_area.proofs.AreaLemmas.{fetched_is, half_widened}
use Rattle.text_tab.specs.declared.row.TextRow.{TextRow}
use Rattle.text_tab.specs.Table.{text_at}
use Rattle.image_keep.specs.declared.row.State.{State}
use Rattle.image_keep.specs.declared.row.State.TheVariants as state
use Rattle.image_keep.specs.declared.row.Row.{Row}
use Rattle.image_keep.specs.Kept.{Nothing, Alive, Grave, keeping, with_keeping, with_shared, with_text_of, area_of, area_in}
use Rattle.image_keep.specs.Memory.{Stock, no_row, row_at, grave_row, nothing_row, swap_at, place_at, clicks_in, Spot, Owner, RowOf, OutOf, spot, text_in, text_for, image_by, keeping_by, keeping_in, shared_in, kept_of, IsAlive, IsGrave, HoldsBy, IsSound}
use Rattle.image_keep.specs.Counts.{is_text, has_text}
use Rattle.image_keep.specs.SharedTexts.{textless}
use Rattle.image_keep.proofs.Writes.{Wrote, wrote_over, wrote_none, row_off, shared_off, same_map, map_set_but, four, put_row, put_kept, put_sound, IsOwn, row_numbers, apart_none}
use Rattle.image_keep.proofs.Entries.{put_text, text_kept, text_low}
use Rattle.image_keep.proofs.Places.{slot_at, IsFound}
use Rattle.image_keep.proofs.Moves.{off_of, fits_in}
use Rattle.image_keep.proofs.Own.{own_means, own_off, area_write, same_image, OwnWrite, front}
use Rattle.image_keep.proofs.Counting.{one, count_set, count_at}

alive_by : (line : List ℕ) (core d k : ℕ) (place : Place) → keeping_by line core [] (state.Alive place) d k ≡ Alive (record { u = fetched (part (part line (place_at core place) (64 * (16 + d + k))) 0 1024); image = image_by (part line (place_at core place) (64 * (16 + d + k))) d k []; place = place })
unfolding keeping_by
alive_by line core d k place = refl

first_half : (line : List ℕ) (at : ℕ) → take 512 (part line at 1024) ≡ part line at 512
unfolding part
first_half line at = take-take 512 1024 (drop at line) (omega arith)

-- a row with another text, too
pub put_text_kept : (v : Stock) (s : ℕ) (row : Row) (new : List ℕ) (a e : ℕ) → Wrote v.line new a e → IsOwn v (RowOf s) a e
    → kept_of (put_row v s row new) ≡ with_text_of (with_keeping (kept_of v) s (keeping_in new v.core v.texts row)) s row.text
unfolding kept_of
put_text_kept v s row new a e w own =
    four _ _ _ _ _ _ v.core
    (map_set_but (keeping_in v.line v.core v.texts) (keeping_in new v.core v.texts) v.rows no_row s row
    (λ u ne. row_off v.line new v.core a e v.texts (row_at v.rows u) w (own (RowOf u) (λ x. ne (row_numbers u s x))) (λ t. own (OutOf t) (λ x. cc x))))
    (same_map (shared_in v.line v.core) (shared_in new v.core) v.texts None (λ t. shared_off v.line new v.core a e (text_at v.texts t) w (own (OutOf t) (λ x. cc x))))
    (map-set (λ (r : Row). r.text) v.rows s row)

abbrev pub no_text : Row → Row
no_text r = record r { text = None }

-- The image has no text any more, and its u area says so.
pub leaves_row : (v : Stock) (s : ℕ) (place : Place) (bytes : List ℕ) → IsSound v → s < length v.rows → (row_at v.rows s).state ≡ state.Alive place
    → IsSized (area_of (kept_of v) s) → bytes ≡ area_bytes (record (area_of (kept_of v) s) { text_size = 0 }) → length bytes ≡ 1024
    → IsSound (put_row v s (no_text (row_at v.rows s)) (over v.line (place_at v.core place) bytes))
    × (kept_of (put_row v s (no_text (row_at v.rows s)) (over v.line (place_at v.core place) bytes)) ≡ with_text_of (with_keeping (kept_of v) s (textless (keeping (kept_of v) s))) s None)
unfolding text_for image_by
leaves_row v s place bytes h l is sized spelled long =
    let r : Row = row_at v.rows s in
    let n : ℕ = clicks_in r in
    let new = over v.line (place_at v.core place) bytes in
    let own : IsAlive (part v.line (place_at v.core place) (64 * n)) v.core r.data_size r.stack_size place = subst (λ st. HoldsBy v.line v.core st r.data_size r.stack_size) is (h.rows s) in
    let old : UArea = area_of (kept_of v) s in
    let f0 : part (part v.line (place_at v.core place) (64 * n)) 0 1024 ≡ part v.line (place_at v.core place) 1024 = front v.line (place_at v.core place) n (omega arith) in
    let reads : old ≡ fetched (part v.line (place_at v.core place) 1024) = ap area_in (slot_at v s ∙ own_means v s place v.line is) in
    let u : UArea = record old { text_size = 0 } in
    let sized_u : IsSized u = record { r = sized.r; call = sized.call; handlers = sized.handlers; files = sized.files } in
    let d : u.data_size ≡ r.data_size = ap (λ (x : UArea). x.data_size) reads ∙ ap (λ b. (fetched b).data_size) (sym f0) ∙ own.data_size in
    let k : u.stack_size ≡ r.stack_size = ap (λ (x : UArea). x.stack_size) reads ∙ ap (λ b. (fetched b).stack_size) (sym f0) ∙ own.stack_size in
    let w : OwnWrite v s place new = area_write v s place u bytes h is sized_u spelled long d k in
    let off = own_off v s place h is in
    let f = fits_in v.core n 0 place own.inside in
    let z = h.size in
    let fits : place_at v.core place + length bytes ≤ length v.line = omega (arith, f, z, long) in
    let there : part new (place_at v.core place) 1024 ≡ bytes = part-over_same v.line (place_at v.core place) bytes 1024 long (omega (arith, fits, long)) in
    let read : fetched (part new (place_at v.core place) 1024) ≡ u = ap fetched there ∙ fetched_is bytes u sized_u spelled in
    let above : drop (place_at v.core place + 1024) new ≡ drop (place_at v.core place + 1024) v.line = drop-over v.line (place_at v.core place) bytes (place_at v.core place + 1024) (omega (arith, long)) fits in
    let f1 : part (part new (place_at v.core place) (64 * n)) 0 1024 ≡ part new (place_at v.core place) 1024 = front new (place_at v.core place) n (omega arith) in
    let holds : IsAlive (part new (place_at v.core place) (64 * n)) v.core r.data_size r.stack_size place = record {
      inside = own.inside;
      stored = subst IsStored (sym f1) w.stored;
      data_size = ap (λ b. (fetched b).data_size) f1 ∙ w.data_size;
      stack_size = ap (λ b. (fetched b).stack_size) f1 ∙ w.stack_size;
      segments = own.segments;
    } in (
      put_sound v s (no_text r) new (place_at v.core place) (place_at v.core place + 64 * n) h l w.wrote off (λ p ne. h.apart (RowOf s) p (λ x. ne (sym x)))
          (subst (λ st. HoldsBy new v.core st r.data_size r.stack_size) (sym is) holds),
      put_text_kept v s (no_text r) new (place_at v.core place) (place_at v.core place + 64 * n) w.wrote off
          ∙ ap (λ x. with_text_of (with_keeping (kept_of v) s x) s None)
          (bare_means new v.core r.state r.data_size r.stack_size place is
          ∙ ap (λ x. Alive (record { u = x; image = image_by (part new (place_at v.core place) (64 * n)) r.data_size r.stack_size []; place = place })) (ap fetched f1 ∙ read)
          ∙ ap (λ x. Alive (record { u = u; image = x; place = place })) (same_image v.line new (place_at v.core place) r.data_size r.stack_size [] [] above refl)
          ∙ ap (λ (x : UArea). Alive (record { u = record x { text_size = 0 }; image = image_by (part v.line (place_at v.core place) (64 * n)) r.data_size r.stack_size []; place = place })) reads
          ∙ sym (ap textless (slot_at v s ∙ own_means v s place v.line is))),
    )
  where
    bare_means : (line : List ℕ) (core : ℕ) (st : State) (d k : ℕ) (place : Place) → st ≡ state.Alive place
        → keeping_by line core [] st d k ≡ Alive (record { u = fetched (part (part line (place_at core place) (64 * (16 + d + k))) 0 1024); image = image_by (part line (place_at core place) (64 * (16 + d + k))) d k []; place = place })
    bare_means line core st d k place e = ap (λ x. keeping_by line core [] x d k) e ∙ alive_by line core d k place

-- The entry of a text has other counts, or goes.
pub entry_kept : (w : Stock) (t : ℕ) (row new : TextRow) → text_at w.texts t ≡ Some row → new.clicks ≡ row.clicks → new.block ≡ row.block
    → kept_of (put_text w t (Some new) w.line) ≡ with_shared (kept_of w) t (Some (record { row = new; bytes = text_in w.line w.core (Some row) }))
unfolding text_in
entry_kept w t row new here c b =
    let same : text_in w.line w.core (Some new) ≡ text_in w.line w.core (Some row) = rw (c, b) refl in
    text_kept w t (Some new) w.line 0 0 (text_low w.texts t row here) (wrote_none w.line 0 0) (λ s. inr (omega arith)) (λ u ne. inr (omega arith)) (λ s x. same ∙ sym (ap (text_in w.line w.core) here))
    ∙ ap (λ x. with_shared (kept_of w) t (Some (record { row = new; bytes = x }))) same

pub gone_kept : (w : Stock) (t : ℕ) → t < length w.texts → ((s : ℕ) → (row_at w.rows s).text ≢ Some t) → kept_of (put_text w t None w.line) ≡ with_shared (kept_of w) t None
gone_kept w t l nobody = text_kept w t None w.line 0 0 l (wrote_none w.line 0 0) (λ s. inr (omega arith)) (λ u ne. inr (omega arith)) (λ s x. absurd (nobody s x))

-- When the only user has left, nobody has the text.
pub nobody_else : (rows : List Row) (s t : ℕ) → s < length rows → (row_at rows s).text ≡ Some t → count_by (has_text t) rows ≡ 1 → (u : ℕ) → (row_at (set rows s (no_text (row_at rows s))) u).text ≢ Some t
nobody_else rows s t l is count u e =
    let now : List Row = set rows s (no_text (row_at rows s)) in
    let yes : has_text t (row_at rows s) ≡ true = ap (is_text t) is ∙ eq-eqb t t refl in
    let sum = count_set (has_text t) rows s (no_text (row_at rows s)) l in
    let none : count_by (has_text t) now ≡ 0 = left_none (count_by (has_text t) now) (count_by (has_text t) rows) (has_text t (row_at rows s)) yes count sum in
    let here : has_text t (row_at now u) ≡ true = ap (is_text t) e ∙ eq-eqb t t refl in
    elim (cases_lt u (length now)) [
      | inl low ↦ (let k = count_at (has_text t) now u low in one_none (has_text t (row_at now u)) (count_by (has_text t) now) here none k)
      | inr past ↦ no_text_there (ap (λ (r : Row). r.text) (sym (get_or_past now u no_row past)) ∙ e)
    ]
  where
    left_none : (a b : ℕ) (c : Bool) → c ≡ true → b ≡ 1 → a + one c ≡ b + one false → a ≡ 0
    left_none a b true e f g = omega (arith, f, g)
    left_none a b false e f g = absurd (both_ways false refl e)

    one_none : (c : Bool) (n : ℕ) → c ≡ true → n ≡ 0 → one c ≤ n → ⊥
    one_none true n e f g = omega (arith, f, g)
    one_none false n e f g = both_ways false refl e

    no_text_there : None ≡ Some t → ⊥
    no_text_there d = cc d

-- A process ends: half of its u area is kept in a block.
pub dies : (v : Stock) (s : ℕ) (place : Place) (b : ℕ) → IsSound v → s < length v.rows → (row_at v.rows s).state ≡ state.Alive place → IsFound v (swap_at v.core b) (512 * 1) 4000 4871 b 1
    → (let new = over v.line (swap_at v.core b) (part v.line (place_at v.core place) 512) in
    IsSound (put_row v s (grave_row (row_at v.rows s) b) new) × (kept_of (put_row v s (grave_row (row_at v.rows s) b) new) ≡ with_keeping (kept_of v) s (Grave (area_of (kept_of v) s) b)))
unfolding keeping_by
dies v s place b h l is found =
    let r : Row = row_at v.rows s in
    let n : ℕ = clicks_in r in
    let own : IsAlive (part v.line (place_at v.core place) (64 * n)) v.core r.data_size r.stack_size place = subst (λ st. HoldsBy v.line v.core st r.data_size r.stack_size) is (h.rows s) in
    let f = fits_in v.core n 0 place own.inside in
    let z = h.size in
    let low = found.low in
    let high = found.high in
    let half : List ℕ = part v.line (place_at v.core place) 512 in
    let long : length half ≡ 512 = length-part v.line (place_at v.core place) 512 (omega (arith, f, z)) in
    let new = over v.line (swap_at v.core b) half in
    let fits : swap_at v.core b + length half ≤ length v.line = omega (arith, z, low, high, long) in
    let w : Wrote v.line new (swap_at v.core b) (swap_at v.core b + 512) = wrote_over v.line (swap_at v.core b) (swap_at v.core b + 512) half fits (omega (arith, long)) in
    let range : Spot = record { at = swap_at v.core b; size = 512 * 1 } in
    let off = λ (p : Owner) (ne : p ≢ RowOf s). off_of range (spot v p) (swap_at v.core b + 512) (found.free p) refl in
    let there : part new (swap_at v.core b) 512 ≡ half = part-over_same v.line (swap_at v.core b) half 512 long (omega (arith, fits, long)) in
    let st = own.stored in
    let f0 : part (part v.line (place_at v.core place) (64 * n)) 0 1024 ≡ part v.line (place_at v.core place) 1024 = front v.line (place_at v.core place) n (omega arith) in
    let spelled : part v.line (place_at v.core place) 1024 ≡ area_bytes st.0 = sym f0 ∙ st.2 in
    let halves : half ≡ half_bytes st.0 = sym (first_half v.line (place_at v.core place)) ∙ ap (take 512) spelled in
    let wide : fetched (widened half) ≡ st.0 = ap (λ x. fetched (widened x)) halves ∙ fetched_is (widened (half_bytes st.0)) st.0 st.1 (half_widened st.0 st.1) in
    let reads : area_of (kept_of v) s ≡ st.0 = ap area_in (slot_at v s ∙ own_means v s place v.line is) ∙ fetched_is (part v.line (place_at v.core place) 1024) st.0 st.1 spelled in (
      put_sound v s (grave_row r b) new (swap_at v.core b) (swap_at v.core b + 512) h l w off (λ p ne. found.free p)
          (record { inside = (low, omega (arith, high)); stored = (st.0, st.1, there ∙ halves) }),
      put_kept v s (grave_row r b) new (swap_at v.core b) (swap_at v.core b + 512) w off refl
          ∙ ap (λ x. with_keeping (kept_of v) s (Grave (fetched (widened x)) b)) there
          ∙ ap (λ x. with_keeping (kept_of v) s (Grave x b)) (wide ∙ sym reads),
    )

-- What is kept of a process that has ended, as a parent gets it.
pub half_read : (v : Stock) (s b : ℕ) → IsSound v → (row_at v.rows s).state ≡ state.Grave b → (part v.line (swap_at v.core b) 512 ≡ half_bytes (area_of (kept_of v) s)) × IsSized (area_of (kept_of v) s)
unfolding keeping_by
half_read v s b h is =
    let r : Row = row_at v.rows s in
    let g : IsGrave (part v.line (swap_at v.core b) 512) b = subst (λ st. HoldsBy v.line v.core st r.data_size r.stack_size) is (h.rows s) in
    let st = g.stored in
    let means : area_of (kept_of v) s ≡ fetched (widened (part v.line (swap_at v.core b) 512)) = ap area_in (slot_at v s ∙ ap (λ x. keeping_by v.line v.core (text_for v.line v.core v.texts r.text) x r.data_size r.stack_size) is) in
    let is_u : area_of (kept_of v) s ≡ st.0 = means ∙ ap (λ x. fetched (widened x)) st.2 ∙ fetched_is (widened (half_bytes st.0)) st.0 st.1 (half_widened st.0 st.1) in
    (st.2 ∙ ap half_bytes (sym is_u), subst IsSized (sym is_u) st.1)

-- A slot has nothing any more: its image or its block is given back.
pub emptied : (v : Stock) (s : ℕ) → IsSound v → s < length v.rows → IsSound (put_row v s (nothing_row (row_at v.rows s)) v.line)
    × (kept_of (put_row v s (nothing_row (row_at v.rows s)) v.line) ≡ with_keeping (kept_of v) s Nothing)
unfolding keeping_by
emptied v s h l = (
  put_sound v s (nothing_row (row_at v.rows s)) v.line 0 0 h l (wrote_none v.line 0 0) (λ p ne. inr (omega arith)) (λ p ne. apart_none (spot v p)) tt,
  put_kept v s (nothing_row (row_at v.rows s)) v.line 0 0 (wrote_none v.line 0 0) (λ p ne. inr (omega arith)) refl,
)
