-- What stands in core of a process: words and bytes of its image, at their places.
use Rattle.std.proofs.Common.{◌≡◌, ℕ, ◌+◌, ◌-◌, ◌*◌, ◌/◌, ◌%◌, ◌<◌, ◌≤◌, ◌⊎◌, inl, inr, Bool, true, false, nat_lt, nat_le, ◌&&◌, if◌then◌else◌, le-ltb, lt-ltb, le-leb, List, length, take, drop, slice_index, set, refl, sym, ap, ◌∙◌, arith, Ok}
use Rattle.std.proofs.lemmas.Bool.{cases_lt}
use Rattle.std.proofs.lemmas.List.{get_or-take, get_or-drop, drop-set-lt, drop-set-add, take-set-le, length-set}
use Rattle.v6_base.specs.declared.named.Named.{Named}
use Rattle.v6_base.specs.declared.named.Named.TheVariants.{InText, InData, InStack, Nothing}
use Rattle.v6_base.specs.Image.{named, named_by, data_base}
use Rattle.v6_base.specs.Access.{load_byte, load_word, store_byte, store_word}
use Rattle.v6_base.specs.Words.{next_byte, word_set}
use Rattle.v6_base.proofs.Cuts.{store_word_by}
use Rattle.core_mem.specs.Bytes.{part}
use Rattle.core_mem.proofs.Parts.{length-part, part-set_in}
use Rattle.image_keep.specs.declared.standing.Standing.{Standing}
use Rattle.image_keep.specs.Standing.{standing_image, StandsIn, IsPlace, IsWordPlace, names, address, placed}

index_part : (xs : List ℕ) (k n i : ℕ) → i < n → k + n ≤ length xs → slice_index (part xs k n) i ≡ slice_index xs (k + i)
unfolding part
index_part xs k n i h l = get_or-take n (drop k xs) i 0 h ∙ get_or-drop k xs i 0

-- the text stands before or behind; the program is the text, or the data where there is none
pub apart_by : (size : ℕ) (f : Standing) → StandsIn size f → (f.text + f.text_len ≤ f.area) ⊎ (f.data_end + 65536 ≤ f.text + f.stack_start)
apart_by size f s = elim (cases_lt f.area (f.text + f.text_len)) [
  | inl low ↦ inr (s.text_apart low)
  | inr past ↦ inl past
]

program_by : (size : ℕ) (f : Standing) → StandsIn size f → (f.text_len ≡ 0) × (f.code ≡ f.data) × (f.code_len ≡ f.data_len) ⊎ (0 < f.text_len) × (f.code ≡ f.text) × (f.code_len ≡ f.text_len)
program_by size f s = elim (cases_lt 0 f.text_len) [
  | inl some ↦ inr (some, (s.pure some).0, (s.pure some).1)
  | inr none ↦ (let z : f.text_len ≡ 0 = omega (arith, none) in inl (z, (s.bare z).0, (s.bare z).1))
]

-- the sizes of what stands there
pub text_long : (core : List ℕ) (f : Standing) → StandsIn (length core) f → length (part core f.text f.text_len) ≡ f.text_len
text_long core f s = length-part core f.text f.text_len s.text_in

data_in : (core : List ℕ) (f : Standing) → StandsIn (length core) f → f.data + f.data_len ≤ length core
data_in core f s = let a = s.end in let b = s.stack_in in let c = s.stack_below in omega (arith, a, b, c)

pub data_long : (core : List ℕ) (f : Standing) → StandsIn (length core) f → length (part core f.data f.data_len) ≡ f.data_len
data_long core f s = length-part core f.data f.data_len (data_in core f s)

stack_in : (core : List ℕ) (f : Standing) → StandsIn (length core) f → f.data_end + (65536 - f.stack_start) ≤ length core
stack_in core f s = let b = s.stack_in in let c = s.stack_below in omega (arith, b, c)

pub stack_long : (core : List ℕ) (f : Standing) → StandsIn (length core) f → length (part core f.data_end (65536 - f.stack_start)) ≡ 65536 - f.stack_start
stack_long core f s = length-part core f.data_end (65536 - f.stack_start) (stack_in core f s)

names_at : (core : List ℕ) (f : Standing) (v : ℕ) → StandsIn (length core) f → named (standing_image core f) v ≡ names f v
unfolding standing_image
names_at core f v s =
    let a = text_long core f s in
    let b = data_long core f s in
    let c = stack_long core f s in
    rw (a, b, c)

-- what an address names, where it is one of the text, of the data or of the stack
in_text : (t d k v : ℕ) → v < t → named_by t d k v ≡ InText v
unfolding named_by
in_text t d k v low = let text = lt-ltb v t low in rw text

in_data : (t d k v i : ℕ) → t ≤ data_base t → i < d → v ≡ data_base t + i → named_by t d k v ≡ InData i
unfolding named_by
in_data t d k v i below low is =
    let text : nat_lt v t ≡ false = le-ltb v t (omega (arith, below, is)) in
    let base : nat_le (data_base t) v ≡ true = le-leb (data_base t) v (omega (arith, is)) in
    let within : nat_lt v (data_base t + d) ≡ true = lt-ltb v (data_base t + d) (omega (arith, low, is)) in
    let here : v - data_base t ≡ i = omega (arith, is) in
    rw (text, base, within, here)

picks_stack : (a b c d : Bool) (x y z w : Named) → a ≡ false → c ≡ false → d ≡ true → (if a then x else (if b && c then y else (if d then z else w))) ≡ z
picks_stack a true c d x y z w fa fc fd = rw (fa, fc, fd) refl
picks_stack a false c d x y z w fa fc fd = rw (fa, fd) refl

in_stack : (t d s v i : ℕ) → t ≤ data_base t → data_base t + d ≤ s → s ≤ 65536 → v ≡ s + i → named_by t d (65536 - s) v ≡ InStack i
unfolding named_by
in_stack t d s v i below before low is =
    let here : v - (65536 - (65536 - s)) ≡ i = omega (arith, low, is) in
    picks_stack _ (nat_le (data_base t) v) _ _ (InText v) (InData (v - data_base t)) (InStack (v - (65536 - (65536 - s)))) Nothing
    (le-ltb v t (omega (arith, below, before, is))) (le-ltb v (data_base t + d) (omega (arith, before, is))) (le-leb (65536 - (65536 - s)) v (omega (arith, low, is)))
    ∙ ap InStack here

based : (f : Standing) (size : ℕ) → StandsIn size f → f.text_len ≤ data_base f.text_len
based f size s = let a = s.base in let b = s.text_below in omega (arith, a, b)

-- a place of the data, or of the stack, and the address of each
pub record InDataPart (f : Standing) (p : ℕ) : Type 0 where
  pub low : p < f.data_end
  pub at : address f p ≡ f.base + (p - f.data)
  pub is : placed f p ≡ InData (p - f.data)

pub record InStackPart (f : Standing) (p : ℕ) : Type 0 where
  pub past : f.data_end ≤ p
  pub at : address f p ≡ f.stack_start + (p - f.data_end)
  pub is : placed f p ≡ InStack (p - f.data_end)

part_of : (f : Standing) (p : ℕ) → InDataPart f p ⊎ InStackPart f p
part_of f p = elim (cases_lt p f.data_end) [
  | inl low ↦ (let e : nat_lt p f.data_end ≡ true = lt-ltb p f.data_end low in inl (record { low = low; at = rw e; is = rw e }))
  | inr past ↦ (let e : nat_lt p f.data_end ≡ false = le-ltb p f.data_end past in inr (record { past = past; at = rw e; is = rw e }))
]

-- the address of a place names it
place_named : (f : Standing) (size p : ℕ) → StandsIn size f → IsPlace f p → names f (address f p) ≡ placed f p
place_named f size p s at = by (part_of f p)
  where
    by : InDataPart f p ⊎ InStackPart f p → names f (address f p) ≡ placed f p
    by (inl d) =
        let a = at.behind in let l = d.low in let e = s.end in let b = s.base in let is = d.at in
        in_data f.text_len f.data_len (65536 - f.stack_start) (address f p) (p - f.data) (based f size s) (omega (arith, a, l, e)) (omega (arith, is, b)) ∙ sym d.is
    by (inr k) =
        let b = s.base in let db = s.data_below in
        in_stack f.text_len f.data_len f.stack_start (address f p) (p - f.data_end) (based f size s) (omega (arith, b, db)) s.stack_below k.at ∙ sym k.is

next_named : (f : Standing) (size p : ℕ) → StandsIn size f → IsWordPlace f p → names f (address f p + 1) ≡ next_byte (placed f p)
next_named f size p s at = by (part_of f p)
  where
    by : InDataPart f p ⊎ InStackPart f p → names f (address f p + 1) ≡ next_byte (placed f p)
    by (inl d) =
        let a = at.first.behind in let l = d.low in let e = s.end in let b = s.base in let is = d.at in let ev = at.even in let de = s.data_even in
        in_data f.text_len f.data_len (65536 - f.stack_start) (address f p + 1) (p - f.data + 1) (based f size s) (omega (arith, a, l, e, b, is, ev, de)) (omega (arith, is, b)) ∙ sym (ap next_byte d.is)
    by (inr k) =
        let b = s.base in let db = s.data_below in let is = k.at in
        in_stack f.text_len f.data_len f.stack_start (address f p + 1) (p - f.data_end + 1) (based f size s) (omega (arith, b, db)) s.stack_below (omega (arith, is)) ∙ sym (ap next_byte k.is)

-- a word is inside its part
word_in_data : (f : Standing) (size p : ℕ) → StandsIn size f → IsWordPlace f p → InDataPart f p → p - f.data + 1 < f.data_len
word_in_data f size p s at d = let a = at.first.behind in let l = d.low in let e = s.end in let b = s.base in let is = d.at in let ev = at.even in let de = s.data_even in omega (arith, a, l, e, b, is, ev, de)

word_in_stack : (f : Standing) (size p : ℕ) → StandsIn size f → IsWordPlace f p → InStackPart f p → p - f.data_end + 1 < 65536 - f.stack_start
word_in_stack f size p s at k = let i = at.first.inside in let l = k.past in let is = k.at in let ev = at.even in let se = s.stack_even in let b = s.stack_below in omega (arith, i, l, is, ev, se, b)

-- loads
pub byte_loaded : (core : List ℕ) (f : Standing) (p : ℕ) → StandsIn (length core) f → IsPlace f p → load_byte (standing_image core f) (address f p) ≡ Ok (slice_index core p)
unfolding load_byte standing_image
byte_loaded core f p s at = by (part_of f p)
  where
    by : InDataPart f p ⊎ InStackPart f p → load_byte (standing_image core f) (address f p) ≡ Ok (slice_index core p)
    by (inl d) =
        let a = at.behind in let l = d.low in let e = s.end in
        let here : f.data + (p - f.data) ≡ p = omega (arith, a) in
        rw (names_at core f (address f p) s, place_named f (length core) p s at, d.is, index_part core f.data f.data_len (p - f.data) (omega (arith, a, l, e)) (data_in core f s), here)
    by (inr k) =
        let i = at.inside in let l = k.past in let b = s.stack_below in
        let here : f.data_end + (p - f.data_end) ≡ p = omega (arith, l) in
        rw (names_at core f (address f p) s, place_named f (length core) p s at, k.is, index_part core f.data_end (65536 - f.stack_start) (p - f.data_end) (omega (arith, i, l, b)) (stack_in core f s), here)

pub word_loaded : (core : List ℕ) (f : Standing) (p : ℕ) → StandsIn (length core) f → IsWordPlace f p → load_word (standing_image core f) (address f p) ≡ Ok (slice_index core p + 256 * slice_index core (p + 1))
unfolding load_word load_byte standing_image
word_loaded core f p s at = by (part_of f p)
  where
    by : InDataPart f p ⊎ InStackPart f p → load_word (standing_image core f) (address f p) ≡ Ok (slice_index core p + 256 * slice_index core (p + 1))
    by (inl d) =
        let a = at.first.behind in
        let low = word_in_data f (length core) p s at d in
        let here : f.data + (p - f.data) ≡ p = omega (arith, a) in
        let after : f.data + (p - f.data + 1) ≡ p + 1 = omega (arith, a) in
        let one : p - f.data < f.data_len = omega (arith, low) in
        rw (
          at.even,
          names_at core f (address f p) s,
          names_at core f (address f p + 1) s,
          place_named f (length core) p s at.first,
          next_named f (length core) p s at,
          d.is,
          index_part core f.data f.data_len (p - f.data) one (data_in core f s),
          index_part core f.data f.data_len (p - f.data + 1) low (data_in core f s),
          here,
          after,
        )
    by (inr k) =
        let l = k.past in
        let low = word_in_stack f (length core) p s at k in
        let here : f.data_end + (p - f.data_end) ≡ p = omega (arith, l) in
        let after : f.data_end + (p - f.data_end + 1) ≡ p + 1 = omega (arith, l) in
        let one : p - f.data_end < 65536 - f.stack_start = omega (arith, low) in
        rw (
          at.even,
          names_at core f (address f p) s,
          names_at core f (address f p + 1) s,
          place_named f (length core) p s at.first,
          next_named f (length core) p s at,
          k.is,
          index_part core f.data_end (65536 - f.stack_start) (p - f.data_end) one (stack_in core f s),
          index_part core f.data_end (65536 - f.stack_start) (p - f.data_end + 1) low (stack_in core f s),
          here,
          after,
        )

-- a place is one of core
pub place_low : (size : ℕ) (f : Standing) (p : ℕ) → StandsIn size f → IsPlace f p → p < size
place_low size f p s at = let i = at.inside in let a = s.stack_in in omega (arith, i, a)

pub word_low : (size : ℕ) (f : Standing) (p : ℕ) → StandsIn size f → IsWordPlace f p → p + 2 ≤ size
word_low size f p s at = by (part_of f p)
  where
    by : InDataPart f p ⊎ InStackPart f p → p + 2 ≤ size
    by (inl d) = let low = word_in_data f size p s at d in let e = s.end in let a = s.stack_in in let b = s.stack_below in let c = at.first.behind in omega (arith, low, e, a, b, c)
    by (inr k) = let low = word_in_stack f size p s at k in let a = s.stack_in in let b = s.stack_below in let c = k.past in omega (arith, low, a, b, c)

pub ruleset loads = (byte_loaded, word_loaded, place_low, word_low)

-- parts of core where one byte, or one word, is written
pub part_set : (xs : List ℕ) (k n i v : ℕ) → i < n → k + n ≤ length xs → part (set xs (k + i) v) k n ≡ set (part xs k n) i v
part_set xs k n i v h l = part-set_in xs k n i v h l

pub part_apart : (xs : List ℕ) (k n j v : ℕ) → (j < k) ⊎ (k + n ≤ j) → part (set xs j v) k n ≡ part xs k n
unfolding part
part_apart xs k n j v (inl h) = ap (take n) (drop-set-lt k xs j v h)
part_apart xs k n j v (inr h) =
    let e : j ≡ k + (j - k) = omega arith in
    ap (λ (i : ℕ). take n (drop k (set xs i v))) e ∙ ap (take n) (drop-set-add k xs (j - k) v) ∙ take-set-le n (drop k xs) (j - k) v (omega arith)

pub word_apart : (xs : List ℕ) (k n j w : ℕ) → (j + 2 ≤ k) ⊎ (k + n ≤ j) → part (word_set xs j w) k n ≡ part xs k n
word_apart xs k n j w (inl h) = part_apart (set xs j (w % 256)) k n (j + 1) (w / 256) (inl (omega arith)) ∙ part_apart xs k n j (w % 256) (inl (omega arith))
word_apart xs k n j w (inr h) = part_apart (set xs j (w % 256)) k n (j + 1) (w / 256) (inr (omega arith)) ∙ part_apart xs k n j (w % 256) (inr h)

pub part_word : (xs : List ℕ) (k n i w : ℕ) → i + 1 < n → k + n ≤ length xs → part (word_set xs (k + i) w) k n ≡ word_set (part xs k n) i w
part_word xs k n i w h l =
    let e : k + i + 1 ≡ k + (i + 1) = omega arith in
    let more : k + n ≤ length (set xs (k + i) (w % 256)) = omega (arith, length-set xs (k + i) (w % 256)) in
    ap (λ (j : ℕ). part (set (set xs (k + i) (w % 256)) j (w / 256)) k n) e
    ∙ part_set (set xs (k + i) (w % 256)) k n (i + 1) (w / 256) h more
    ∙ ap (λ (t : List ℕ). set t (i + 1) (w / 256)) (part_set xs k n i (w % 256) (omega arith) l)

-- what is written into the data or into the stack is off the text
text_off : (f : Standing) (size j m : ℕ) → StandsIn size f → f.area ≤ j → j + m + f.stack_start ≤ f.data_end + 65536 → (j + m ≤ f.text) ⊎ (f.text + f.text_len ≤ j)
text_off f size j m s a b = by (apart_by size f s)
  where
    by : (f.text + f.text_len ≤ f.area) ⊎ (f.data_end + 65536 ≤ f.text + f.stack_start) → (j + m ≤ f.text) ⊎ (f.text + f.text_len ≤ j)
    by (inl h) = inr (omega (arith, h, a))
    by (inr h) = inl (omega (arith, h, b))

one_off : (j k n : ℕ) → (j + 1 ≤ k) ⊎ (k + n ≤ j) → (j < k) ⊎ (k + n ≤ j)
one_off j k n (inl h) = inl (omega (arith, h))
one_off j k n (inr h) = inr h

byte_written : (core : List ℕ) (f : Standing) (p b : ℕ) → StandsIn (length core) f → IsPlace f p → store_byte (standing_image core f) (address f p) b ≡ Ok (standing_image (set core p b) f)
unfolding store_byte standing_image
byte_written core f p b s at = by (part_of f p)
  where
    by : InDataPart f p ⊎ InStackPart f p → store_byte (standing_image core f) (address f p) b ≡ Ok (standing_image (set core p b) f)
    by (inl d) =
        let a = at.behind in let l = d.low in let e = s.end in let i = at.inside in let ar = s.area in
        let here : f.data + (p - f.data) ≡ p = omega (arith, a) in
        let t = part_apart core f.text f.text_len p b (one_off p f.text f.text_len (text_off f (length core) p 1 s (omega (arith, a, ar)) (omega (arith, i)))) in
        let dd : part (set core p b) f.data f.data_len ≡ set (part core f.data f.data_len) (p - f.data) b =
        ap (λ (j : ℕ). part (set core j b) f.data f.data_len) (sym here) ∙ part_set core f.data f.data_len (p - f.data) b (omega (arith, a, l, e)) (data_in core f s) in
        let k = part_apart core f.data_end (65536 - f.stack_start) p b (inl l) in
        rw (names_at core f (address f p) s, place_named f (length core) p s at, d.is, t, dd, k)
    by (inr q) =
        let i = at.inside in let l = q.past in let c = s.stack_below in let e = s.end in let ar = s.area in
        let here : f.data_end + (p - f.data_end) ≡ p = omega (arith, l) in
        let t = part_apart core f.text f.text_len p b (one_off p f.text f.text_len (text_off f (length core) p 1 s (omega (arith, l, e, ar)) (omega (arith, i)))) in
        let dd = part_apart core f.data f.data_len p b (inr (omega (arith, l, e))) in
        let k : part (set core p b) f.data_end (65536 - f.stack_start) ≡ set (part core f.data_end (65536 - f.stack_start)) (p - f.data_end) b =
        ap (λ (j : ℕ). part (set core j b) f.data_end (65536 - f.stack_start)) (sym here) ∙ part_set core f.data_end (65536 - f.stack_start) (p - f.data_end) b (omega (arith, i, l, c)) (stack_in core f s) in
        rw (names_at core f (address f p) s, place_named f (length core) p s at, q.is, t, dd, k)

pub byte_stored : (core new : List ℕ) (f : Standing) (p b : ℕ) → StandsIn (length core) f → IsPlace f p → new ≡ set core p b → store_byte (standing_image core f) (address f p) b ≡ Ok (standing_image new f)
byte_stored core new f p b s at is = byte_written core f p b s at ∙ ap (λ c. Ok (standing_image c f)) (sym is)

word_written : (core : List ℕ) (f : Standing) (p w : ℕ) → StandsIn (length core) f → IsWordPlace f p → store_word (standing_image core f) (address f p) w ≡ Ok (standing_image (word_set core p w) f)
unfolding standing_image
word_written core f p w s at = by (part_of f p)
  where
    by : InDataPart f p ⊎ InStackPart f p → store_word (standing_image core f) (address f p) w ≡ Ok (standing_image (word_set core p w) f)
    by (inl d) =
        let a = at.first.behind in let l = d.low in let e = s.end in let ar = s.area in let c = s.stack_below in
        let low = word_in_data f (length core) p s at d in
        let here : f.data + (p - f.data) ≡ p = omega (arith, a) in
        let t = word_apart core f.text f.text_len p w (text_off f (length core) p 2 s (omega (arith, a, ar)) (omega (arith, a, low, e, c))) in
        let dd : part (word_set core p w) f.data f.data_len ≡ word_set (part core f.data f.data_len) (p - f.data) w =
        ap (λ (j : ℕ). part (word_set core j w) f.data f.data_len) (sym here) ∙ part_word core f.data f.data_len (p - f.data) w low (data_in core f s) in
        let k = word_apart core f.data_end (65536 - f.stack_start) p w (inl (omega (arith, a, low, e))) in
        store_word_by (standing_image core f) (address f p) w (InData (p - f.data)) at.even (names_at core f (address f p) s ∙ place_named f (length core) p s at.first ∙ d.is)
        (names_at core f (address f p + 1) s ∙ next_named f (length core) p s at ∙ ap next_byte d.is)
        ∙ rw (t, dd, k)
    by (inr q) =
        let i = at.first.inside in let l = q.past in let c = s.stack_below in let e = s.end in let ar = s.area in
        let low = word_in_stack f (length core) p s at q in
        let here : f.data_end + (p - f.data_end) ≡ p = omega (arith, l) in
        let t = word_apart core f.text f.text_len p w (text_off f (length core) p 2 s (omega (arith, l, e, ar)) (omega (arith, l, low, c))) in
        let dd = word_apart core f.data f.data_len p w (inr (omega (arith, l, e))) in
        let k : part (word_set core p w) f.data_end (65536 - f.stack_start) ≡ word_set (part core f.data_end (65536 - f.stack_start)) (p - f.data_end) w =
        ap (λ (j : ℕ). part (word_set core j w) f.data_end (65536 - f.stack_start)) (sym here) ∙ part_word core f.data_end (65536 - f.stack_start) (p - f.data_end) w low (stack_in core f s) in
        store_word_by (standing_image core f) (address f p) w (InStack (p - f.data_end)) at.even (names_at core f (address f p) s ∙ place_named f (length core) p s at.first ∙ q.is)
        (names_at core f (address f p + 1) s ∙ next_named f (length core) p s at ∙ ap next_byte q.is)
        ∙ rw (t, dd, k)

pub word_stored : (core new : List ℕ) (f : Standing) (p w : ℕ) → StandsIn (length core) f → IsWordPlace f p → new ≡ word_set core p w → store_word (standing_image core f) (address f p) w ≡ Ok (standing_image new f)
word_stored core new f p w s at is = word_written core f p w s at ∙ ap (λ c. Ok (standing_image c f)) (sym is)

-- outside the data and the stack nothing changes
pub byte_rest : (core new : List ℕ) (f : Standing) (p b k m : ℕ) → IsPlace f p → new ≡ set core p b → (k + m ≤ f.data) ⊎ (f.data_end + 65536 ≤ k + f.stack_start) → part new k m ≡ part core k m
byte_rest core new f p b k m at is off = ap (λ c. part c k m) is ∙ part_apart core k m p b (by off)
  where
    by : (k + m ≤ f.data) ⊎ (f.data_end + 65536 ≤ k + f.stack_start) → (p < k) ⊎ (k + m ≤ p)
    by (inl h) = inr (let a = at.behind in omega (arith, h, a))
    by (inr h) = inl (let a = at.inside in omega (arith, h, a))

pub word_rest : (size : ℕ) (core new : List ℕ) (f : Standing) (p w k m : ℕ) → StandsIn size f → IsWordPlace f p → new ≡ word_set core p w → (k + m ≤ f.data) ⊎ (f.data_end + 65536 ≤ k + f.stack_start) → part new k m ≡ part core k m
word_rest size core new f p w k m s at is off = ap (λ c. part c k m) is ∙ word_apart core k m p w (by off)
  where
    room : p + 2 + f.stack_start ≤ f.data_end + 65536
    room = inside (part_of f p)
      where
        inside : InDataPart f p ⊎ InStackPart f p → p + 2 + f.stack_start ≤ f.data_end + 65536
        inside (inl d) = let low = word_in_data f size p s at d in let e = s.end in let b = s.stack_below in let c = at.first.behind in omega (arith, low, e, b, c)
        inside (inr q) = let low = word_in_stack f size p s at q in let b = s.stack_below in let c = q.past in omega (arith, low, b, c)

    by : (k + m ≤ f.data) ⊎ (f.data_end + 65536 ≤ k + f.stack_start) → (p + 2 ≤ k) ⊎ (k + m ≤ p)
    by (inl h) = inr (let a = at.first.behind in omega (arith, h, a))
    by (inr h) = inl (let a = room in omega (arith, h, a))

pub ruleset stores = (byte_stored, word_stored, byte_rest, word_rest, place_low, word_low)

-- the program: the text, or the data where there is none
pub program_loaded : (core : List ℕ) (f : Standing) (pc : ℕ) → StandsIn (length core) f → pc % 2 ≡ 0 → pc < f.code_len → load_word (standing_image core f) pc ≡ Ok (slice_index core (f.code + pc) + 256 * slice_index core (f.code + pc + 1))
unfolding load_word load_byte standing_image
program_loaded core f pc s even low = by (program_by (length core) f s)
  where
    by : (f.text_len ≡ 0) × (f.code ≡ f.data) × (f.code_len ≡ f.data_len) ⊎ (0 < f.text_len) × (f.code ≡ f.text) × (f.code_len ≡ f.text_len)
        → load_word (standing_image core f) pc ≡ Ok (slice_index core (f.code + pc) + 256 * slice_index core (f.code + pc + 1))
    by (inr p) =
        let n = p.2 in let c = p.1 in let te = s.text_even in
        let l : pc < f.text_len = omega (arith, low, n) in
        let l1 : pc + 1 < f.text_len = omega (arith, l, te, even) in
        let e : f.text + (pc + 1) ≡ f.code + pc + 1 = omega (arith, c) in
        let e0 : f.text + pc ≡ f.code + pc = omega (arith, c) in
        rw (
          even,
          names_at core f pc s,
          names_at core f (pc + 1) s,
          in_text f.text_len f.data_len (65536 - f.stack_start) pc l,
          in_text f.text_len f.data_len (65536 - f.stack_start) (pc + 1) l1,
          index_part core f.text f.text_len pc l s.text_in,
          index_part core f.text f.text_len (pc + 1) l1 s.text_in,
          e,
          e0,
        )
    by (inl p) =
        let z = p.0 in let c = p.1 in let n = p.2 in let de = s.data_even in let b = based f (length core) s in
        let l : pc < f.data_len = omega (arith, low, n) in
        let l1 : pc + 1 < f.data_len = omega (arith, l, de, even) in
        let base : data_base f.text_len ≡ 0 = ap data_base z in
        let e : f.data + (pc + 1) ≡ f.code + pc + 1 = omega (arith, c) in
        let e0 : f.data + pc ≡ f.code + pc = omega (arith, c) in
        rw (
          even,
          names_at core f pc s,
          names_at core f (pc + 1) s,
          in_data f.text_len f.data_len (65536 - f.stack_start) pc pc b l (omega (arith, base)),
          in_data f.text_len f.data_len (65536 - f.stack_start) (pc + 1) (pc + 1) b l1 (omega (arith, base)),
          index_part core f.data f.data_len pc l (data_in core f s),
          index_part core f.data f.data_len (pc + 1) l1 (data_in core f s),
          e,
          e0,
        )

pub program_low : (core : List ℕ) (f : Standing) (pc : ℕ) → StandsIn (length core) f → pc % 2 ≡ 0 → pc < f.code_len → f.code + pc + 2 ≤ length core
program_low core f pc s even low = by (program_by (length core) f s)
  where
    by : (f.text_len ≡ 0) × (f.code ≡ f.data) × (f.code_len ≡ f.data_len) ⊎ (0 < f.text_len) × (f.code ≡ f.text) × (f.code_len ≡ f.text_len) → f.code + pc + 2 ≤ length core
    by (inr p) = let n = p.2 in let c = p.1 in let te = s.text_even in let i = s.text_in in omega (arith, n, c, te, i, low, even)
    by (inl p) = let n = p.2 in let c = p.1 in let de = s.data_even in let i = data_in core f s in omega (arith, n, c, de, i, low, even)

pub program_byte_loaded : (core : List ℕ) (f : Standing) (pc : ℕ) → StandsIn (length core) f → pc < f.code_len → load_byte (standing_image core f) pc ≡ Ok (slice_index core (f.code + pc))
unfolding load_byte standing_image
program_byte_loaded core f pc s low = by (program_by (length core) f s)
  where
    by : (f.text_len ≡ 0) × (f.code ≡ f.data) × (f.code_len ≡ f.data_len) ⊎ (0 < f.text_len) × (f.code ≡ f.text) × (f.code_len ≡ f.text_len)
        → load_byte (standing_image core f) pc ≡ Ok (slice_index core (f.code + pc))
    by (inr p) =
        let n = p.2 in let c = p.1 in
        let l : pc < f.text_len = omega (arith, low, n) in
        let e0 : f.text + pc ≡ f.code + pc = omega (arith, c) in
        rw (names_at core f pc s, in_text f.text_len f.data_len (65536 - f.stack_start) pc l, index_part core f.text f.text_len pc l s.text_in, e0)
    by (inl p) =
        let z = p.0 in let c = p.1 in let n = p.2 in let b = based f (length core) s in
        let l : pc < f.data_len = omega (arith, low, n) in
        let base : data_base f.text_len ≡ 0 = ap data_base z in
        let e0 : f.data + pc ≡ f.code + pc = omega (arith, c) in
        rw (names_at core f pc s, in_data f.text_len f.data_len (65536 - f.stack_start) pc pc b l (omega (arith, base)), index_part core f.data f.data_len pc l (data_in core f s), e0)

pub program_byte_low : (core : List ℕ) (f : Standing) (pc : ℕ) → StandsIn (length core) f → pc < f.code_len → f.code + pc < length core
program_byte_low core f pc s low = by (program_by (length core) f s)
  where
    by : (f.text_len ≡ 0) × (f.code ≡ f.data) × (f.code_len ≡ f.data_len) ⊎ (0 < f.text_len) × (f.code ≡ f.text) × (f.code_len ≡ f.text_len) → f.code + pc < length core
    by (inr p) = let n = p.2 in let c = p.1 in let i = s.text_in in omega (arith, n, c, i, low)
    by (inl p) = let n = p.2 in let c = p.1 in let i = data_in core f s in omega (arith, n, c, i, low)

pub program_small : (size : ℕ) (f : Standing) (pc : ℕ) → StandsIn size f → pc < f.code_len → pc < 65536
program_small size f pc s low = by (program_by size f s)
  where
    by : (f.text_len ≡ 0) × (f.code ≡ f.data) × (f.code_len ≡ f.data_len) ⊎ (0 < f.text_len) × (f.code ≡ f.text) × (f.code_len ≡ f.text_len) → pc < 65536
    by (inr p) = let n = p.2 in let a = s.text_below in let b = s.data_below in let c = s.stack_below in omega (arith, n, a, b, c, low)
    by (inl p) = let n = p.2 in let b = s.data_below in let c = s.stack_below in omega (arith, n, b, c, low)

pub ruleset programs = (program_loaded, program_low, program_byte_loaded, program_byte_low, program_small)
