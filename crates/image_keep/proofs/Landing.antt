-- What instructions leave of a process where it stands: all that is kept is as it was, but for its image, its registers and its
-- codes.
use Rattle.std.proofs.Common.{◌≡◌, ◌⊎◌, ℕ, ◌+◌, ◌-◌, ◌*◌, ◌<◌, ◌≤◌, inl, inr, List, ◌++◌, length, take, drop, sym, ap, subst, ◌∙◌, arith, length-drop}
use Rattle.std.proofs.lemmas.List.{take_all}
use Rattle.v6_base.specs.Image.{Image}
use Rattle.v6_base.proofs.Copies.{SameLengths}
use Rattle.core_mem.specs.Bytes.{part, over}
use Rattle.core_mem.proofs.Parts.{length-part, length-over, part-add, part-over_same, part-over_apart, take-over, drop-over, over-self, part_below, part_above}
use Rattle.u_area.specs.declared.area.UArea.{UArea}
use Rattle.u_area.specs.Area.{fetched, IsStored}
use Rattle.image_keep.specs.declared.row.Row.{Row}
use Rattle.image_keep.specs.declared.starts.Starts.{Starts}
use Rattle.image_keep.specs.declared.standing.Standing.{Standing}
use Rattle.image_keep.specs.Kept.{Kept, image_of, area_of, with_image, with_area}
use Rattle.image_keep.specs.Memory.{Stock, row_at, place_at, clicks_in, kept_of, IsAlive, HoldsBy, IsSound}
use Rattle.image_keep.specs.Counts.{IsCounted}
use Rattle.image_keep.specs.Starts.{AreStarts}
use Rattle.image_keep.specs.Running.{with_state, state_bytes}
use Rattle.image_keep.specs.Standing.{standing_image, StandsIn}
use Rattle.image_keep.specs.Near.{stack_end}
use Rattle.image_keep.proofs.Frames.{with_image_area}
use Rattle.image_keep.proofs.Own.{with_line, own_sound, front, OwnWrite}
use Rattle.image_keep.proofs.AreaSet.{AreaSet}
use Rattle.image_keep.proofs.Registers.{state_long}
use Rattle.image_keep.proofs.FieldPut.{state_set}
use Rattle.image_keep.proofs.Reading.{Stand, stand, starts_after}
use Rattle.image_keep.proofs.Storing.{image_put}
use Rattle.image_keep.proofs.StandingParts.{apart_by, text_long, data_long, stack_long}

-- a list that differs from another one between two places alone
over_agree : (xs ys zs : List ℕ) (k : ℕ) → take k xs ≡ take k ys → drop (k + length zs) xs ≡ drop (k + length zs) ys → over xs k zs ≡ over ys k zs
unfolding over
over_agree xs ys zs k front back = (λ i. front i ++ (zs ++ back i))

pub front_same : (xs ys : List ℕ) (k : ℕ) → part xs 0 k ≡ part ys 0 k → take k xs ≡ take k ys
unfolding part
front_same xs ys k same = same

pub back_same : (xs ys : List ℕ) (k : ℕ) → length ys ≡ length xs → part xs k (length xs - k) ≡ part ys k (length xs - k) → drop k xs ≡ drop k ys
unfolding part
back_same xs ys k size same =
    sym (take_all (length xs - k) (drop k xs) (omega (arith, length-drop k xs)))
    ∙ same
    ∙ take_all (length xs - k) (drop k ys) (omega (arith, length-drop k ys, size))

-- registers are put back into bytes where they stand already
put_back : (xs a b : List ℕ) (k : ℕ) → length a ≡ length b → k + length b ≤ length xs → over (over xs k a) k b ≡ over xs k b
put_back xs a b k long fits =
    let n : ℕ = k + length b in
    over_agree (over xs k a) xs b k (take-over xs k a k (omega arith) (omega (arith, long, fits))) (drop-over xs k a n (omega (arith, long)) (omega (arith, long, fits)))

-- what stands there, as it is known
pub record StandsAs (v : Stock) (k : Kept) (s : ℕ) (x : Starts) (f : Standing) : Type 0 where
  pub inside : StandsIn (length v.line) f
  pub image : standing_image v.line f ≡ image_of k s
  pub data_at : f.data ≡ x.image
  pub data_len : f.data_len ≡ x.data_len
  pub stack_start : f.stack_start ≡ x.stack_start

-- all else is as it was, and the registers and codes stand there too
pub record LeftAround (old new : List ℕ) (f : Standing) (r : List ℕ) (cc : ℕ) : Type 0 where
  pub size : length new ≡ length old
  pub before : part new 0 f.area ≡ part old 0 f.area
  pub fields : part new (f.area + 18) 1006 ≡ part old (f.area + 18) 1006
  pub behind : part new (stack_end f) (length old - stack_end f) ≡ part old (stack_end f) (length old - stack_end f)
  pub stated : part new f.area 18 ≡ state_bytes r cc

pub record Landed (v : Stock) (k : Kept) (s : ℕ) (f : Standing) (line r : List ℕ) (cc : ℕ) : Type 0 where
  pub sound : IsSound (with_line v line)
  pub kept : kept_of (with_line v line) ≡ with_area (with_image k s (standing_image line f)) s (with_state (area_of k s) r cc)

text_same : (old new : List ℕ) (f : Standing) (r : List ℕ) (cc : ℕ) → StandsIn (length old) f → LeftAround old new f r cc → part new f.text f.text_len ≡ part old f.text f.text_len
text_same old new f r cc s l = by (apart_by (length old) f s)
  where
    by : (f.text + f.text_len ≤ f.area) ⊎ (f.data_end + 65536 ≤ f.text + f.stack_start) → part new f.text f.text_len ≡ part old f.text f.text_len
    by (inl h) = part_below new old f.area f.text f.text_len (front_same new old f.area l.before) h
    by (inr h) = part_above new old (stack_end f) f.text f.text_len (sym (back_same old new (stack_end f) l.size (sym l.behind))) (let b = s.stack_below in omega (arith, h, b))

image_landed : (old new : List ℕ) (f : Standing) (r : List ℕ) (cc : ℕ) (m : Image) → StandsIn (length old) f → LeftAround old new f r cc → standing_image old f ≡ m → record m { «data» = part new f.data f.data_len; stack = part new f.data_end (65536 - f.stack_start) } ≡ standing_image new f
unfolding standing_image
image_landed old new f r cc m s l is =
    let t : m.text ≡ part new f.text f.text_len = ap (λ (i : Image). i.text) (sym is) ∙ sym (text_same old new f r cc s l) in
    λ j. record { text = t j; «data» = part new f.data f.data_len; stack = part new f.data_end (65536 - f.stack_start) }

pub lengths_same : (old new : List ℕ) (f : Standing) (m : Image) → StandsIn (length old) f → length new ≡ length old → standing_image old f ≡ m → SameLengths m (standing_image new f)
unfolding standing_image
lengths_same old new f m s size is =
    let n : StandsIn (length new) f = subst (λ i. StandsIn i f) (sym size) s in
    record {
      text = text_long new f n ∙ sym (text_long old f s) ∙ ap (λ (i : Image). length i.text) is;
      «data» = data_long new f n ∙ sym (data_long old f s) ∙ ap (λ (i : Image). length i.data) is;
      stack = stack_long new f n ∙ sym (stack_long old f s) ∙ ap (λ (i : Image). length i.stack) is;
    }

pub landed : (v : Stock) (k : Kept) (s : ℕ) (x : Starts) (f : Standing) (line r : List ℕ) (cc : ℕ) → kept_of v ≡ k → IsSound v → IsCounted v.rows v.texts → AreStarts k s x → StandsAs v k s x f → length r ≡ 8 → cc < 16 → LeftAround v.line line f r cc → Landed v k s f line r cc
landed v k s x f line r cc view h c a is eight codes l =
    let d : Stand v k s x = stand v k s x view h c a in
    let row : Row = row_at v.rows s in
    let at : ℕ = place_at v.core d.place in
    let n : ℕ = clicks_in row in
    let old : List ℕ = part v.line f.area 18 in
    let new : List ℕ = over line f.area old in
    let z = l.size in
    let im = d.image in let da = is.data_at in let ar = is.inside.area in let de = is.inside.end in let dl = is.data_len in let dd = d.data_len in
    let ss = is.stack_start in let xs = a.stack_start in let sk = d.stack_long in let room = d.room in
    let here : f.area ≡ at = omega (arith, im, da, ar) in
    let data_is : f.data ≡ at + 1024 = omega (arith, im, da) in
    let size_is : f.data_len ≡ 64 * row.data_size = omega (arith, dl, dd) in
    let end_is : f.data_end ≡ at + 1024 + 64 * row.data_size = omega (arith, de, data_is, size_is) in
    let stack_is : 65536 - f.stack_start ≡ 64 * row.stack_size = omega (arith, ss, xs, sk) in
    let ends : stack_end f ≡ at + 64 * n = omega (arith, end_is, stack_is) in
    let fits : f.area + 1024 ≤ length v.line = omega (arith, here, room) in
    let long : length old ≡ 18 = length-part v.line f.area 18 (omega (arith, fits)) in
    let inside : f.area + length old ≤ length line = omega (arith, long, fits, z) in
    let first : part new f.area 18 ≡ part v.line f.area 18 = part-over_same line f.area old 18 long (omega (arith, fits, z)) in
    let second : part new (f.area + 18) 1006 ≡ part v.line (f.area + 18) 1006 = part-over_apart line f.area old (f.area + 18) 1006 inside (inr (omega (arith, long))) ∙ l.fields in
    let same : part new f.area 1024 ≡ part v.line f.area 1024 = part-add new f.area 18 1006 ∙ (λ i. first i ++ second i) ∙ sym (part-add v.line f.area 18 1006) in
    let same_at : part new at 1024 ≡ part v.line at 1024 = subst (λ i. part new i 1024 ≡ part v.line i 1024) here same in
    let d1 : part new (at + 1024) (64 * row.data_size) ≡ part line f.data f.data_len = part-over_apart line f.area old (at + 1024) (64 * row.data_size) inside (inr (omega (arith, long, here))) ∙ (λ i. part line (sym data_is i) (sym size_is i)) in
    let k1 : part new (at + 1024 + 64 * row.data_size) (64 * row.stack_size) ≡ part line f.data_end (65536 - f.stack_start) = part-over_apart line f.area old (at + 1024 + 64 * row.data_size) (64 * row.stack_size) inside (inr (omega (arith, long, here))) ∙ (λ i. part line (sym end_is i) (sym stack_is i)) in
    let own : IsAlive (part v.line at (64 * n)) v.core row.data_size row.stack_size d.place = subst (λ st. HoldsBy v.line v.core st row.data_size row.stack_size) d.facts.is (h.rows s) in
    let g : part (part v.line at (64 * n)) 0 1024 ≡ part v.line at 1024 = front v.line at n (omega arith) in
    let below : take at new ≡ take at v.line = subst (λ i. take i new ≡ take i v.line) here (take-over line f.area old f.area (omega arith) inside ∙ front_same line v.line f.area l.before) in
    let above : drop (at + 64 * n) new ≡ drop (at + 64 * n) v.line = subst (λ i. drop i new ≡ drop i v.line) ends (drop-over line f.area old (stack_end f) (omega (arith, long, ends, here)) inside ∙ sym (back_same v.line line (stack_end f) l.size (sym l.behind))) in
    let w : OwnWrite v s d.place new = record {
      wrote = record { below = below; above = above; size = length-over line f.area old inside ∙ z };
      is = d.facts.is;
      stored = subst IsStored (g ∙ sym same_at) own.stored;
      data_size = ap (λ b. (fetched b).data_size) (same_at ∙ sym g) ∙ own.data_size;
      stack_size = ap (λ b. (fetched b).stack_size) (same_at ∙ sym g) ∙ own.stack_size;
    } in
    let v1 : Stock = with_line v new in
    let m : Image = standing_image line f in
    let is_image : standing_image v.line f ≡ image_of (kept_of v) s = is.image ∙ ap (λ j. image_of j s) (sym view) in
    let put : kept_of v1 ≡ with_image k s m =
    image_put v s d.place new (part line f.data f.data_len) (part line f.data_end (65536 - f.stack_start)) h w same_at d1 k1
    ∙ ap (with_image (kept_of v) s) (image_landed v.line line f r cc (image_of (kept_of v) s) is.inside l is_image)
    ∙ ap (λ (j : Kept). with_image j s m) view in
    let h1 : IsSound v1 = own_sound v s d.place new h d.facts.low w in
    let a1 : AreStarts (with_image k s m) s x = starts_after k s x m a (lengths_same v.line line f (image_of k s) is.inside l.size is.image) in
    let xi : x.image - 1024 ≡ f.area = omega (arith, da, ar) in
    let bytes : length (state_bytes r cc) ≡ 18 = state_long r cc eight in
    let back : line ≡ over new (x.image - 1024) (state_bytes r cc) =
    sym (over-self line f.area 18 (omega (arith, fits, z)))
    ∙ ap (over line f.area) l.stated
    ∙ sym (put_back line old (state_bytes r cc) f.area (long ∙ sym bytes) (omega (arith, bytes, fits, z)))
    ∙ ap (λ i. over new i (state_bytes r cc)) (sym xi) in
    let set : AreaSet v1 (with_image k s m) s (with_state (area_of (with_image k s m) s) r cc) line = state_set v1 (with_image k s m) s x r cc line put h1 c a1 eight codes back in
    record {
      sound = set.sound;
      kept = set.kept ∙ ap (λ (u : UArea). with_area (with_image k s m) s (with_state u r cc)) (with_image_area k s s m);
    }
