-- Bytes that are put into a u area, for all who put some there: which one it becomes, and what is kept and written then.
use Rattle.std.proofs.Common.{◌≡◌, ◌∙◌, ℕ, ◌+◌, ◌-◌, ◌*◌, ◌<◌, List, [], ◌∷◌, ◌++◌, length, drop, refl, sym, ap, subst, arith}
use Rattle.std.specs.Prelude.{replicate}
use Rattle.std.specs.Option.{unwrap_or}
use Rattle.std.proofs.lemmas.List.{length-set}
use Rattle.core_mem.specs.Bytes.{part, over}
use Rattle.core_mem.proofs.Parts.{over-front, over-over}
use Rattle.fs_codec.specs.Bytes.{bytes_of, long_words}
use Rattle.fs_codec.specs.Words.{words}
use Rattle.fs_codec.proofs.BytesLemmas.{part as front, length-bytes_of, bytes_of_words, part_whole}
use Rattle.v6_base.specs.Image.{AreBytes}
use Rattle.v6_base.specs.declared.entry.Place.TheVariants.{Core}
use Rattle.u_area.specs.declared.area.UArea.{UArea}
use Rattle.u_area.specs.Area.{area_bytes, front_bytes, IsSized}
use Rattle.u_area.specs.Fields.{Becomes, with_register, with_codes, with_ids, with_handler, with_no_times, with_child_times}
use Rattle.u_area.proofs.AreaLemmas.{parts_of_area}
use Rattle.u_area.proofs.FieldLemmas.{length-area, register_put, results_put, codes_put, ids_put, directory_put, pending_put, call_put, user_tick_put, system_tick_put, no_times_put, child_times_put, status_put, handler_put, handlers_put, front_put, sized_register, sized_results, sized_handler}
use Rattle.image_keep.specs.Kept.{Kept, HasImage, Keeping, Alive, place_in, area_of, described, with_area}
use Rattle.image_keep.specs.Fields.{IsAreaAt, IsPut, IsWritten, AreWritten}
use Rattle.image_keep.specs.Memory.{Stock, place_at, kept_of, IsSound}
use Rattle.image_keep.specs.Counts.{IsCounted}
use Rattle.image_keep.specs.Running.{with_pc, with_state, with_results, state_bytes}
use Rattle.image_keep.specs.State.{ImagesState}
use Rattle.image_keep.specs.declared.starts.Starts.{Starts}
use Rattle.image_keep.specs.Starts.{AreStarts}
use Rattle.image_keep.proofs.AreaSet.{AreaSet, field_set, starts_fixed}
use Rattle.image_keep.proofs.Frames.{slot_described, area_twice, with_area_same, with_area_has, alive_image}
use Rattle.image_keep.proofs.Registers.{area_stated, state_long, byte_fits}

-- words that were put into as many bytes are these bytes
pub words_put : (list b : List ℕ) (n : ℕ) → length list ≡ n → length b ≡ 2 * n → AreBytes b → words b 0 (length list) ≡ list → b ≡ bytes_of list
words_put list b n many long are put =
    sym (ap bytes_of (sym put ∙ ap (words b 0) many) ∙ bytes_of_words b 0 n (omega (arith, long)) (byte_fits b are) ∙ part_whole b (2 * n) long)

-- a u area whose lists are those of another one
as_sized : (u v : UArea) → v.r ≡ u.r → v.call ≡ u.call → v.handlers ≡ u.handlers → v.files ≡ u.files → IsSized u → IsSized v
as_sized u v r call handlers files s =
    record { r = ap length r ∙ s.r; call = ap length call ∙ s.call; handlers = ap length handlers ∙ s.handlers; files = ap length files ∙ s.files }

-- A law for each field: R0 and R1, all registers with the codes, PC with the codes, and so on to the front of the area.
pub results_law : (u : UArea) (r0 r1 : ℕ) → IsPut u 0 (bytes_of (r0 ∷ r1 ∷ [])) (with_results u r0 r1)
results_law u r0 r1 = record { law = λ s. (results_put u r0 r1 s, sized_results u r0 r1 s); sizes = (refl, refl, refl) }

state_put : (u : UArea) (r : List ℕ) (cc : ℕ) → IsSized u → length r ≡ 8 → cc < 16 → Becomes u 0 (state_bytes r cc) (with_state u r cc)
unfolding over
state_put u r cc sized eight codes =
    let long = state_long r cc eight in
    let behind : 0 + length (state_bytes r cc) ≡ 18 = omega (arith, long) in
    ap (λ n. state_bytes r cc ++ drop n (area_bytes u)) behind ∙ sym (area_stated u r cc sized.r eight codes)

pub state_law : (u : UArea) (r : List ℕ) (cc : ℕ) → length r ≡ 8 → cc < 16 → IsPut u 0 (state_bytes r cc) (with_state u r cc)
state_law u r cc eight codes =
    record { law = λ s. (state_put u r cc s eight codes, record { r = eight; call = s.call; handlers = s.handlers; files = s.files }); sizes = (refl, refl, refl) }

registers_there : (u : UArea) → IsSized u → part (area_bytes u) 0 16 ≡ bytes_of u.r
unfolding part front
registers_there u s = (parts_of_area (area_bytes u) u s refl).registers

pc_put : (u : UArea) (pc cc : ℕ) → IsSized u → cc < 16 → Becomes u 14 (bytes_of (pc ∷ (61440 + cc) ∷ [])) (with_pc u pc cc)
unfolding bytes_of state_bytes
pc_put u pc cc sized codes =
    let v : UArea = with_register u 7 pc in
    let its : IsSized v = sized_register u 7 pc sized in
    let old = length-area u sized in
    let new = length-area v its in
    let n = length-bytes_of v.r in
    let eight = its.r in
    let ps : List ℕ = bytes_of ((61440 + cc) ∷ []) in
    let long : length (bytes_of v.r) ≡ 16 = omega (arith, n, eight) in
    sym (over-over (area_bytes u) 14 (bytes_of (pc ∷ [])) ps 16 refl (omega (arith, old)))
    ∙ ap (λ b. over b 16 ps) (register_put u 7 pc sized (omega arith))
    ∙ over-front (area_bytes v) 0 16 ps 16 refl (omega (arith, new))
    ∙ ap (λ b. over (area_bytes v) 0 (b ++ ps)) (registers_there v its)
    ∙ state_put v v.r cc its its.r codes

pub pc_law : (u : UArea) (pc cc : ℕ) → cc < 16 → IsPut u 14 (bytes_of (pc ∷ (61440 + cc) ∷ [])) (with_pc u pc cc)
pc_law u pc cc codes =
    record { law = λ s. (pc_put u pc cc s codes, record { r = length-set u.r 7 pc ∙ s.r; call = s.call; handlers = s.handlers; files = s.files }); sizes = (refl, refl, refl) }

pub register_law : (u : UArea) (n w : ℕ) → n < 8 → IsPut u (2 * n) (bytes_of (w ∷ [])) (with_register u n w)
register_law u n w low = record { law = λ s. (register_put u n w s low, sized_register u n w s); sizes = (refl, refl, refl) }

pub codes_law : (u : UArea) (cc : ℕ) → cc < 16 → IsPut u 16 (cc ∷ []) (with_codes u cc)
codes_law u cc low = record { law = λ s. (codes_put u cc s low, as_sized u _ refl refl refl refl s); sizes = (refl, refl, refl) }

pub ids_law : (u : UArea) (ids : List ℕ) → length ids ≡ 4 → IsPut u 18 ids (with_ids u ids)
ids_law u ids four = record { law = λ s. (ids_put u ids s four, as_sized u _ refl refl refl refl s); sizes = (refl, refl, refl) }

pub directory_law : (u : UArea) (w : ℕ) → IsPut u 22 (bytes_of (w ∷ [])) (record u { dir = w })
directory_law u w = record { law = λ s. (directory_put u w s, as_sized u _ refl refl refl refl s); sizes = (refl, refl, refl) }

pub pending_law : (u : UArea) (pending : ℕ) → IsPut u 30 (pending ∷ []) (record u { pending = pending })
pending_law u pending = record { law = λ s. (pending_put u pending s, as_sized u _ refl refl refl refl s); sizes = (refl, refl, refl) }

pub call_law : (u : UArea) (call : List ℕ) → length call ≡ 8 → IsPut u 32 (bytes_of call) (record u { call = call })
call_law u call eight = record { law = λ s. (call_put u call s eight, record { r = s.r; call = eight; handlers = s.handlers; files = s.files }); sizes = (refl, refl, refl) }

pub user_law : (u : UArea) (w : ℕ) → IsPut u 48 (bytes_of (w ∷ [])) (record u { user_time = w })
user_law u w = record { law = λ s. (user_tick_put u w s, as_sized u _ refl refl refl refl s); sizes = (refl, refl, refl) }

pub system_law : (u : UArea) (w : ℕ) → IsPut u 50 (bytes_of (w ∷ [])) (record u { system_time = w })
system_law u w = record { law = λ s. (system_tick_put u w s, as_sized u _ refl refl refl refl s); sizes = (refl, refl, refl) }

pub no_times_law : (u : UArea) → IsPut u 48 (replicate 12 0) (with_no_times u)
no_times_law u = record { law = λ s. (no_times_put u s, as_sized u _ refl refl refl refl s); sizes = (refl, refl, refl) }

pub child_times_law : (u : UArea) (user system : ℕ) → IsPut u 52 (bytes_of (long_words user ++ long_words system)) (with_child_times u user system)
child_times_law u user system = record { law = λ s. (child_times_put u user system s, as_sized u _ refl refl refl refl s); sizes = (refl, refl, refl) }

pub status_law : (u : UArea) (w : ℕ) → IsPut u 60 (bytes_of (w ∷ [])) (record u { status = w })
status_law u w = record { law = λ s. (status_put u w s, as_sized u _ refl refl refl refl s); sizes = (refl, refl, refl) }

pub handler_law : (u : UArea) (n w : ℕ) → n < 20 → IsPut u (64 + 2 * n) (bytes_of (w ∷ [])) (with_handler u n w)
handler_law u n w low = record { law = λ s. (handler_put u n w s low, sized_handler u n w s); sizes = (refl, refl, refl) }

pub handlers_law : (u : UArea) (handlers : List ℕ) → length handlers ≡ 20 → IsPut u 64 (bytes_of handlers) (record u { handlers = handlers })
handlers_law u handlers many = record { law = λ s. (handlers_put u handlers s many, record { r = s.r; call = s.call; handlers = many; files = s.files }); sizes = (refl, refl, refl) }

pub front_law : (u v : UArea) → IsSized v → (v.text_size ≡ u.text_size) × (v.data_size ≡ u.data_size) × (v.stack_size ≡ u.stack_size) → IsPut u 0 (front_bytes v) v
front_law u v sized same = record { law = λ s. (front_put u v s sized, sized); sizes = same }

-- a slot's u area stands where it stood, after a change of it
pub stays : (k l : Kept) (s at : ℕ) (u : UArea) → HasImage k s → IsAreaAt k s at → l ≡ with_area k s u → HasImage l s × IsAreaAt l s at
unfolding with_area
stays k l s at u has starts is = subst (λ x. HasImage x s × IsAreaAt x s at) (sym is) (
  with_area_has k s s u has,
  λ held its.
      let same : Alive (record has.0 { u = u }) ≡ Alive held = sym (slot_described k s u ∙ ap (described u) has.1) ∙ its in
      starts has.0 has.1 ∙ ap (λ (x : Keeping). place_at k.core (unwrap_or (place_in x) (Core 0))) same,
)

-- after a put, another change of what stands there then
pub put_then : (k l m : Kept) (s : ℕ) (u : UArea) (g : UArea → UArea) → HasImage k s → l ≡ with_area k s u → m ≡ with_area l s (g (area_of l s)) → m ≡ with_area k s (g u)
put_then k l m s u g has first second =
    second
    ∙ ap (λ x. with_area x s (g (area_of x s))) first
    ∙ area_twice k s u (g (area_of (with_area k s u) s))
    ∙ ap (λ v. with_area k s (g v)) (with_area_same k s u has)

pub written_then : (x y z : ImagesState) (s at field : ℕ) (f : ℕ → List ℕ → List ℕ) (bytes : List ℕ) → IsAreaAt x.kept s at → HasImage y.kept s → IsAreaAt y.kept s at
    → IsWritten x y s f → AreWritten y z s field bytes → IsWritten x z s (λ n line. over (f n line) (n + field) bytes)
written_then x y z s at field f bytes here has there one two = λ held its.
    let a = one held its in
    let b = two has.0 has.1 in
    let same : place_at y.kept.core has.0.place ≡ place_at x.kept.core held.place = sym (there has.0 has.1) ∙ here held its in
    (b.0 ∙ a.0, b.1 ∙ (λ i. over (a.1 i) (same i + field) bytes))

-- all registers with the codes are put where the instruction of a process began
pub state_set : (v : Stock) (k : Kept) (s : ℕ) (x : Starts) (r : List ℕ) (cc : ℕ) (line : List ℕ) → kept_of v ≡ k → IsSound v → IsCounted v.rows v.texts → AreStarts k s x → length r ≡ 8 → cc < 16
    → line ≡ over v.line (x.image - 1024) (state_bytes r cc) → AreaSet v k s (with_state (area_of k s) r cc) line
state_set v k s x r cc line view h c a eight codes is =
    let long = state_long r cc eight in
    let start : x.image - 1024 ≡ x.image - 1024 + 0 = omega arith in
    field_set v k s (x.image - 1024) 0 (with_state (area_of k s) r cc) (state_bytes r cc) line view h c (alive_image k s a.alive) (starts_fixed k s x a) (state_law (area_of k s) r cc eight codes) (omega (arith, long))
    (is ∙ ap (λ n. over v.line n (state_bytes r cc)) start)
