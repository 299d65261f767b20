-- Bytes that are put at a field's place change that field alone.
use Rattle.std.proofs.Common.{◌≡◌, ◌+◌, ◌-◌, ◌*◌, ◌/◌, ◌%◌, ◌<◌, ◌≤◌, ℕ, zero, suc, List, [], ◌∷◌, ◌++◌, length, take, drop, slice_index, slice_set, refl, sym, ap, ◌∙◌, arith}
use Rattle.std.specs.Prelude.{replicate}
use Rattle.std.proofs.lemmas.List.{length-append, length-replicate, length-set, drop_all, append-nil}
use Rattle.core_mem.specs.Bytes.{over}
use Rattle.core_mem.proofs.Parts.{length-over, over-left, over-right}
use Rattle.fs_codec.specs.Bytes.{bytes_of, long_words}
use Rattle.fs_codec.proofs.BytesLemmas.{length-bytes_of}
use Rattle.u_area.specs.declared.area.UArea.{UArea}
use Rattle.u_area.specs.Area.{Field, laid, fields, status_word, times, area_bytes, front_bytes, IsSized}
use Rattle.u_area.specs.Fields.{Becomes, with_register, with_codes, with_ids, with_handler, with_no_times, with_child_times}
use Rattle.u_area.proofs.PartLemmas.{back_of}
use Rattle.u_area.proofs.AreaLemmas.{front_widened, length-front}

-- fields at places that rise
abbrev Rises : ℕ → List Field → Type 0
Rises from [] = Unit {0}
Rises from (f ∷ fs) = (from ≤ f.at) × Rises (f.at + length f.bytes) fs

abbrev no_field : Field
no_field = record { at = 0; bytes = [] }

abbrev nth : ℕ → List Field → Field
nth i [] = no_field
nth zero (f ∷ fs) = f
nth (suc i) (f ∷ fs) = nth i fs

-- bytes put over those of one field
abbrev changed : ℕ → ℕ → List ℕ → List Field → List Field
changed i j new [] = []
changed zero j new (f ∷ fs) = record { at = f.at; bytes = over f.bytes j new } ∷ fs
changed (suc i) j new (f ∷ fs) = f ∷ changed i j new fs

above : (fs : List Field) (from i : ℕ) → Rises from fs → i < length fs → from ≤ (nth i fs).at
above [] from i rises low = absurd (omega (arith, low))
above (f ∷ fs) from zero rises low = rises.0
above (f ∷ fs) from (suc i) rises low =
    let here : from ≤ f.at = rises.0 in
    let few : i < length fs = omega (arith, low) in
    let behind : f.at + length f.bytes ≤ (nth i fs).at = above fs (f.at + length f.bytes) i rises.1 few in
    let all : from ≤ (nth i fs).at = omega (arith, here, behind) in
    all

first : (f : Field) (fs : List Field) (from j p : ℕ) (new : List ℕ) → from ≤ f.at → j + length new ≤ length f.bytes → p ≡ f.at - from + j → over (laid from (f ∷ fs)) p new ≡ laid from (record { at = f.at; bytes = over f.bytes j new } ∷ fs)
unfolding laid
first f fs from j p new le fits place =
    let zeros : List ℕ = replicate (f.at - from) 0 in
    let many : length zeros ≡ f.at - from = length-replicate (f.at - from) 0 in
    let long : f.at + length (over f.bytes j new) ≡ f.at + length f.bytes = ap (λ n. f.at + n) (length-over f.bytes j new fits) in
    sym (over-right zeros (f.bytes ++ laid (f.at + length f.bytes) fs) p j new (omega (arith, many, place)))
    ∙ ap (λ l. zeros ++ l) (sym (over-left f.bytes (laid (f.at + length f.bytes) fs) j new fits))
    ∙ ap (λ n. zeros ++ (over f.bytes j new ++ laid n fs)) (sym long)

later : (f : Field) (fs : List Field) (from p : ℕ) (new : List ℕ) → from ≤ f.at → f.at + length f.bytes ≤ p → over (laid from (f ∷ fs)) (p - from) new ≡ replicate (f.at - from) 0 ++ (f.bytes ++ over (laid (f.at + length f.bytes) fs) (p - (f.at + length f.bytes)) new)
unfolding laid
later f fs from p new le past =
    let zeros : List ℕ = replicate (f.at - from) 0 in
    let rest : List ℕ = laid (f.at + length f.bytes) fs in
    let many : length zeros ≡ f.at - from = length-replicate (f.at - from) 0 in
    sym (ap (λ l. zeros ++ l) (over-right f.bytes rest (p - f.at) (p - (f.at + length f.bytes)) new (omega (arith, past)))
    ∙ over-right zeros (f.bytes ++ rest) (p - from) (p - f.at) new (omega (arith, many, le, past)))

step : (f : Field) (fs gs : List Field) (from p : ℕ) (new : List ℕ) → from ≤ f.at → f.at + length f.bytes ≤ p → over (laid (f.at + length f.bytes) fs) (p - (f.at + length f.bytes)) new ≡ laid (f.at + length f.bytes) gs → over (laid from (f ∷ fs)) (p - from) new ≡ laid from (f ∷ gs)
unfolding laid
step f fs gs from p new le past rest = later f fs from p new le past ∙ ap (λ l. replicate (f.at - from) 0 ++ (f.bytes ++ l)) rest

put : (fs : List Field) (from i j p : ℕ) (new : List ℕ) → Rises from fs → i < length fs → j + length new ≤ length (nth i fs).bytes → p ≡ (nth i fs).at + j → over (laid from fs) (p - from) new ≡ laid from (changed i j new fs)
put [] from i j p new rises low fits place = absurd (omega (arith, low))
put (f ∷ fs) from zero j p new rises low fits place =
    let le : from ≤ f.at = rises.0 in
    let here : p ≡ f.at + j = place in
    first f fs from j (p - from) new le fits (omega (arith, le, here))
put (f ∷ fs) from (suc i) j p new rises low fits place =
    let few : i < length fs = omega (arith, low) in
    let under : f.at + length f.bytes ≤ (nth i fs).at = above fs (f.at + length f.bytes) i rises.1 few in
    let here : p ≡ (nth i fs).at + j = place in
    step f fs (changed i j new fs) from p new rises.0 (omega (arith, under, here)) (put fs (f.at + length f.bytes) i j p new rises.1 few fits place)

words_long : (xs : List ℕ) (n : ℕ) → length xs ≡ n → length (bytes_of xs) ≡ 2 * n
words_long xs n h = length-bytes_of xs ∙ ap (λ k. 2 * k) h

-- the fields of an area rise
rises : (u : UArea) → IsSized u → Rises 0 (fields u)
rises u sized =
    let r = words_long u.r 8 sized.r in
    let ps = words_long (status_word u ∷ []) 1 refl in
    let dir = words_long (u.dir ∷ []) 1 refl in
    let sizes = words_long (u.text_size ∷ u.data_size ∷ u.stack_size ∷ []) 3 refl in
    let call = words_long u.call 8 sized.call in
    let spent = words_long (times u) 6 refl in
    let status = words_long (u.status ∷ []) 1 refl in
    let handlers = words_long u.handlers 20 sized.handlers in
    let a : 0 ≤ 0 = omega arith in
    let b : 0 + length (bytes_of u.r) ≤ 16 = omega (arith, r) in
    let c : 16 + length (bytes_of (status_word u ∷ [])) ≤ 18 = omega (arith, ps) in
    let d : 18 + 4 ≤ 22 = omega arith in
    let e : 22 + length (bytes_of (u.dir ∷ [])) ≤ 24 = omega (arith, dir) in
    let f : 24 + length (bytes_of (u.text_size ∷ u.data_size ∷ u.stack_size ∷ [])) ≤ 30 = omega (arith, sizes) in
    let g : 30 + 1 ≤ 32 = omega arith in
    let h : 32 + length (bytes_of u.call) ≤ 48 = omega (arith, call) in
    let i : 48 + length (bytes_of (times u)) ≤ 60 = omega (arith, spent) in
    let j : 60 + length (bytes_of (u.status ∷ [])) ≤ 64 = omega (arith, status) in
    let k : 64 + length (bytes_of u.handlers) ≤ 104 = omega (arith, handlers) in
    (a, (b, (c, (d, (e, (f, (g, (h, (i, (j, (k, tt)))))))))))

-- The bytes of one field of an area are others.
field_put : (u : UArea) (i j p : ℕ) (new : List ℕ) → IsSized u → i < 11 → j + length new ≤ length (nth i (fields u)).bytes → p ≡ (nth i (fields u)).at + j → over (area_bytes u) p new ≡ laid 0 (changed i j new (fields u))
unfolding area_bytes
field_put u i j p new sized low fits place =
    let start : p ≡ p - 0 = omega arith in
    ap (λ k. over (laid 0 (fields u)) k new) start ∙ put (fields u) 0 i j p new (rises u sized) low fits place

-- one word of several
word_put : (xs : List ℕ) (n w : ℕ) → n < length xs → over (bytes_of xs) (2 * n) (bytes_of (w ∷ [])) ≡ bytes_of (slice_set xs n w)
unfolding bytes_of over
word_put [] n w low = absurd (omega (arith, low))
word_put (x ∷ xs) zero w low = refl
word_put (x ∷ xs) (suc n) w low =
    let e : 2 * suc n ≡ 2 + 2 * n = omega arith in
    let head : List ℕ = x % 256 ∷ x / 256 ∷ [] in
    sym (over-right head (bytes_of xs) (2 * suc n) (2 * n) (bytes_of (w ∷ [])) e)
    ∙ ap (λ (l : List ℕ). head ++ l) (word_put xs n w (omega (arith, low)))

-- all bytes of a field
pub whole_put : (old new : List ℕ) → length new ≡ length old → over old 0 new ≡ new
unfolding over
whole_put old new same = ap (λ l. new ++ l) (drop_all (0 + length new) old (omega (arith, same))) ∙ append-nil new

pub register_put : (u : UArea) (n w : ℕ) → IsSized u → n < 8 → Becomes u (2 * n) (bytes_of (w ∷ [])) (with_register u n w)
unfolding area_bytes
register_put u n w sized low =
    let long = words_long u.r 8 sized.r in
    let two = words_long (w ∷ []) 1 refl in
    let r = sized.r in
    let fits : 2 * n + length (bytes_of (w ∷ [])) ≤ length (bytes_of u.r) = omega (arith, long, two, low) in
    let place : 2 * n ≡ 0 + 2 * n = omega arith in
    field_put u 0 (2 * n) (2 * n) (bytes_of (w ∷ [])) sized (omega arith) fits place
    ∙ ap (λ b. laid 0 (record { at = 0; bytes = b } ∷ drop 1 (fields u))) (word_put u.r n w (omega (arith, r, low)))

-- the first two
two_put : (xs : List ℕ) (a b : ℕ) → 2 ≤ length xs → over (bytes_of xs) 0 (bytes_of (a ∷ b ∷ [])) ≡ bytes_of (slice_set (slice_set xs 0 a) 1 b)
unfolding bytes_of over
two_put [] a b two = absurd (omega (arith, two))
two_put (x ∷ []) a b two = absurd (omega (arith, two))
two_put (x ∷ y ∷ xs) a b two = refl

pub results_put : (u : UArea) (r0 r1 : ℕ) → IsSized u → Becomes u 0 (bytes_of (r0 ∷ r1 ∷ [])) (record u { r = slice_set (slice_set u.r 0 r0) 1 r1 })
unfolding area_bytes
results_put u r0 r1 sized =
    let long = words_long u.r 8 sized.r in
    let four = words_long (r0 ∷ r1 ∷ []) 2 refl in
    let eight = sized.r in
    let fits : 0 + length (bytes_of (r0 ∷ r1 ∷ [])) ≤ length (bytes_of u.r) = omega (arith, long, four) in
    field_put u 0 0 0 (bytes_of (r0 ∷ r1 ∷ [])) sized (omega arith) fits refl
    ∙ ap (λ b. laid 0 (record { at = 0; bytes = b } ∷ drop 1 (fields u))) (two_put u.r r0 r1 (omega (arith, eight)))

pub codes_put : (u : UArea) (cc : ℕ) → IsSized u → cc < 16 → Becomes u 16 (cc ∷ []) (with_codes u cc)
unfolding area_bytes bytes_of over
codes_put u cc sized low =
    let old = u.codes in
    let first : cc ≡ (61440 + cc % 16) % 256 = omega (arith, low) in
    let second : (61440 + u.cc) / 256 ≡ (61440 + cc % 16) / 256 = omega (arith, old) in
    let fits : 0 + 1 ≤ 2 = omega arith in
    field_put u 1 0 16 (cc ∷ []) sized (omega arith) fits refl
    ∙ ap (λ b. laid 0 (take 1 (fields u) ++ (record { at = 16; bytes = b } ∷ drop 2 (fields u)))) (λ i. first i ∷ second i ∷ [])

-- four of a list
four_of : (xs : List ℕ) → length xs ≡ 4 → xs ≡ slice_index xs 0 ∷ slice_index xs 1 ∷ slice_index xs 2 ∷ slice_index xs 3 ∷ []
four_of [] n = absurd (omega (arith, n))
four_of (a ∷ []) n = absurd (omega (arith, n))
four_of (a ∷ b ∷ []) n = absurd (omega (arith, n))
four_of (a ∷ b ∷ c ∷ []) n = absurd (omega (arith, n))
four_of (a ∷ b ∷ c ∷ d ∷ []) n = refl
four_of (a ∷ b ∷ c ∷ d ∷ e ∷ xs) n = absurd (omega (arith, n))

pub ids_put : (u : UArea) (ids : List ℕ) → IsSized u → length ids ≡ 4 → Becomes u 18 ids (with_ids u ids)
unfolding area_bytes
ids_put u ids sized four =
    let fits : 0 + length ids ≤ 4 = omega (arith, four) in
    field_put u 2 0 18 ids sized (omega arith) fits refl
    ∙ ap (λ b. laid 0 (take 2 (fields u) ++ (record { at = 18; bytes = b } ∷ drop 3 (fields u)))) (whole_put (u.uid ∷ u.gid ∷ u.ruid ∷ u.rgid ∷ []) ids four ∙ four_of ids four)

pub directory_put : (u : UArea) (w : ℕ) → IsSized u → Becomes u 22 (bytes_of (w ∷ [])) (record u { dir = w })
unfolding area_bytes bytes_of
directory_put u w sized =
    let fits : 0 + 2 ≤ 2 = omega arith in
    field_put u 3 0 22 (bytes_of (w ∷ [])) sized (omega arith) fits refl
    ∙ ap (λ b. laid 0 (take 3 (fields u) ++ (record { at = 22; bytes = b } ∷ drop 4 (fields u)))) (whole_put (bytes_of (u.dir ∷ [])) (bytes_of (w ∷ [])) refl)

pub pending_put : (u : UArea) (pending : ℕ) → IsSized u → Becomes u 30 (pending ∷ []) (record u { pending = pending })
unfolding area_bytes
pending_put u pending sized =
    let fits : 0 + 1 ≤ 1 = omega arith in
    field_put u 5 0 30 (pending ∷ []) sized (omega arith) fits refl
    ∙ ap (λ b. laid 0 (take 5 (fields u) ++ (record { at = 30; bytes = b } ∷ drop 6 (fields u)))) (whole_put (u.pending ∷ []) (pending ∷ []) refl)

pub call_put : (u : UArea) (call : List ℕ) → IsSized u → length call ≡ 8 → Becomes u 32 (bytes_of call) (record u { call = call })
unfolding area_bytes
call_put u call sized eight =
    let old = words_long u.call 8 sized.call in
    let new = words_long call 8 eight in
    let fits : 0 + length (bytes_of call) ≤ length (bytes_of u.call) = omega (arith, old, new) in
    field_put u 6 0 32 (bytes_of call) sized (omega arith) fits refl
    ∙ ap (λ b. laid 0 (take 6 (fields u) ++ (record { at = 32; bytes = b } ∷ drop 7 (fields u)))) (whole_put (bytes_of u.call) (bytes_of call) (omega (arith, old, new)))

pub user_tick_put : (u : UArea) (w : ℕ) → IsSized u → Becomes u 48 (bytes_of (w ∷ [])) (record u { user_time = w })
unfolding area_bytes bytes_of
user_tick_put u w sized =
    let fits : 0 + 2 ≤ 12 = omega arith in
    let low : 0 < 6 = omega arith in
    field_put u 7 0 48 (bytes_of (w ∷ [])) sized (omega arith) fits refl
    ∙ ap (λ b. laid 0 (take 7 (fields u) ++ (record { at = 48; bytes = b } ∷ drop 8 (fields u)))) (word_put (times u) 0 w low)

pub system_tick_put : (u : UArea) (w : ℕ) → IsSized u → Becomes u 50 (bytes_of (w ∷ [])) (record u { system_time = w })
unfolding area_bytes bytes_of
system_tick_put u w sized =
    let fits : 2 + 2 ≤ 12 = omega arith in
    let low : 1 < 6 = omega arith in
    field_put u 7 2 50 (bytes_of (w ∷ [])) sized (omega arith) fits refl
    ∙ ap (λ b. laid 0 (take 7 (fields u) ++ (record { at = 48; bytes = b } ∷ drop 8 (fields u)))) (word_put (times u) 1 w low)

pub no_times_put : (u : UArea) → IsSized u → Becomes u 48 (replicate 12 0) (with_no_times u)
unfolding area_bytes bytes_of over
no_times_put u sized = (let fits : 0 + 12 ≤ 12 = omega arith in field_put u 7 0 48 (replicate 12 0) sized (omega arith) fits refl)

pub child_times_put : (u : UArea) (user system : ℕ) → IsSized u → Becomes u 52 (bytes_of (long_words user ++ long_words system)) (with_child_times u user system)
unfolding area_bytes bytes_of over
child_times_put u user system sized =
    let fits : 4 + 8 ≤ 12 = omega arith in
    field_put u 7 4 52 (bytes_of (long_words user ++ long_words system)) sized (omega arith) fits refl

pub status_put : (u : UArea) (w : ℕ) → IsSized u → Becomes u 60 (bytes_of (w ∷ [])) (record u { status = w })
unfolding area_bytes bytes_of
status_put u w sized =
    let fits : 0 + 2 ≤ 2 = omega arith in
    field_put u 8 0 60 (bytes_of (w ∷ [])) sized (omega arith) fits refl
    ∙ ap (λ b. laid 0 (take 8 (fields u) ++ (record { at = 60; bytes = b } ∷ drop 9 (fields u)))) (whole_put (bytes_of (u.status ∷ [])) (bytes_of (w ∷ [])) refl)

pub handler_put : (u : UArea) (n w : ℕ) → IsSized u → n < 20 → Becomes u (64 + 2 * n) (bytes_of (w ∷ [])) (with_handler u n w)
unfolding area_bytes
handler_put u n w sized low =
    let long = words_long u.handlers 20 sized.handlers in
    let two = words_long (w ∷ []) 1 refl in
    let many = sized.handlers in
    let fits : 2 * n + length (bytes_of (w ∷ [])) ≤ length (bytes_of u.handlers) = omega (arith, long, two, low) in
    field_put u 9 (2 * n) (64 + 2 * n) (bytes_of (w ∷ [])) sized (omega arith) fits refl
    ∙ ap (λ b. laid 0 (take 9 (fields u) ++ (record { at = 64; bytes = b } ∷ drop 10 (fields u)))) (word_put u.handlers n w (omega (arith, many, low)))

pub handlers_put : (u : UArea) (handlers : List ℕ) → IsSized u → length handlers ≡ 20 → Becomes u 64 (bytes_of handlers) (record u { handlers = handlers })
unfolding area_bytes
handlers_put u handlers sized many =
    let old = words_long u.handlers 20 sized.handlers in
    let new = words_long handlers 20 many in
    let fits : 0 + length (bytes_of handlers) ≤ length (bytes_of u.handlers) = omega (arith, old, new) in
    field_put u 9 0 64 (bytes_of handlers) sized (omega arith) fits refl
    ∙ ap (λ b. laid 0 (take 9 (fields u) ++ (record { at = 64; bytes = b } ∷ drop 10 (fields u)))) (whole_put (bytes_of u.handlers) (bytes_of handlers) (omega (arith, old, new)))

-- an area whose front is put over another one is that area
pub front_put : (u v : UArea) → IsSized u → IsSized v → Becomes u 0 (front_bytes v) v
unfolding over
front_put u v was sized =
    let long = length-front v sized in
    let start : 0 + length (front_bytes v) ≡ 120 = omega (arith, long) in
    let rest : drop 120 (area_bytes u) ≡ replicate 904 0 = back_of (area_bytes u) (front_bytes u) (replicate 904 0) 120 (length-front u was) (sym (front_widened u was)) in
    ap (λ n. front_bytes v ++ drop n (area_bytes u)) start ∙ ap (λ l. front_bytes v ++ l) rest ∙ front_widened v sized

pub length-area : (u : UArea) → IsSized u → length (area_bytes u) ≡ 1024
length-area u sized =
    let front = length-front u sized in
    let rest = length-replicate {A = ℕ} 904 0 in
    let both = length-append (front_bytes u) (replicate 904 0) in
    let whole : length (area_bytes u) ≡ length (front_bytes u ++ replicate 904 0) = ap length (sym (front_widened u sized)) in
    omega (arith, front, rest, both, whole)

-- lists stay as long
pub sized_register : (u : UArea) (n w : ℕ) → IsSized u → IsSized (with_register u n w)
sized_register u n w s = record { r = length-set u.r n w ∙ s.r; call = s.call; handlers = s.handlers; files = s.files }

pub sized_results : (u : UArea) (r0 r1 : ℕ) → IsSized u → IsSized (record u { r = slice_set (slice_set u.r 0 r0) 1 r1 })
sized_results u r0 r1 s =
    record { r = length-set (slice_set u.r 0 r0) 1 r1 ∙ (length-set u.r 0 r0 ∙ s.r); call = s.call; handlers = s.handlers; files = s.files }

pub sized_handler : (u : UArea) (n w : ℕ) → IsSized u → IsSized (with_handler u n w)
sized_handler u n w s = record { r = s.r; call = s.call; handlers = length-set u.handlers n w ∙ s.handlers; files = s.files }
