-- What is stored at the end of a stack of 1,280 bytes, from its last byte down.
use Rattle.std.proofs.Common.{◌≡◌, ◌≤◌, ◌<◌, ◌≢◌, ℕ, zero, suc, ◌+◌, ◌-◌, ◌*◌, ◌/◌, ◌%◌, ◌==◌, ◌∙◌, if◌then◌else◌, cond, Bool, true, false, List, [], ◌∷◌, ◌++◌, length, drop, get_or, set, replicate, Some, subst, refl, sym, ap, arith}
use Rattle.std.specs.Prelude.{◌&&◌}
use Rattle.std.specs.List.{concat}
use Rattle.std.proofs.Math.Dec.{leb}
use Rattle.std.proofs.Math.Seq.{drop-cons}
use Rattle.std.proofs.lemmas.Bool.{eqb-true, eq-eqb, le-ltb, le-leb}
use Rattle.std.proofs.lemmas.List.{append_assoc, append-nil, length-append, length-replicate, length-drop, take-replicate, drop-replicate, set_at, replicate-append-replicate, drop_all}
use Rattle.v6_base.specs.declared.named.Named.{Named}
use Rattle.v6_base.specs.declared.named.Named.TheVariants.{InText, InData, InStack, Nothing}
use Rattle.v6_base.specs.Image.{Image, IsImage, named, named_by, nseg, data_base}
use Rattle.v6_base.specs.Access.{store_word, image_after}
use Rattle.v6_base.specs.Sizes.{cut_front}
use Rattle.v6_base.specs.Copy.{store_bytes}
use Rattle.v6_base.specs.Words.{IsStorable}
use Rattle.v6_base.specs.Runs.{room, run_set, with_run}
use Rattle.v6_base.proofs.RunLemmas.{image_fits, all_stored}
use Rattle.v6_base.proofs.Cuts.{store_word_by}
use Rattle.fs_codec.specs.Bytes.{bytes_of}
use Rattle.fs_codec.proofs.BytesLemmas.{length-bytes_of}
use Rattle.sys_procs.specs.inside.Packed.{split, begins_at}
use Rattle.sys_procs.specs.Stack.{in_first, made_even, addresses, nc, na, first_sp, first_stack}

-- zeros, and bytes after them
pub filled : (n k : ℕ) (bytes : List ℕ) → k + length bytes ≡ n → cut_front n bytes ≡ replicate k 0 ++ bytes
unfolding cut_front
filled n k bytes whole =
    let zeros : n - length bytes ≡ k = omega arith in
    let none : length bytes - n ≡ 0 = omega arith in
    ap (λ z. replicate z 0 ++ drop (length bytes - n) bytes) zeros ∙ ap (λ z. replicate k 0 ++ drop z bytes) none

one_zero : (k : ℕ) (bytes : List ℕ) → replicate (k + 1) 0 ++ bytes ≡ replicate k 0 ++ 0 ∷ bytes
one_zero k bytes =
    ap (λ z. z ++ bytes) (sym (replicate-append-replicate k 1 0)) ∙ append_assoc (replicate k 0) (0 ∷ []) bytes

pub length-cut : (n : ℕ) (bytes : List ℕ) → length (cut_front n bytes) ≡ n
unfolding cut_front
length-cut n bytes = length-append (replicate (n - length bytes) 0) (drop (length bytes - n) bytes)
    ∙ omega (arith, length-drop (length bytes - n) bytes, length-replicate {A = ℕ} (n - length bytes) 0)

-- two bytes before them
cut_word : (n k a b : ℕ) (above : List ℕ) → k + length above + 2 ≡ n → set (set (cut_front n above) k a) (k + 1) b ≡ cut_front n (a ∷ b ∷ above)
cut_word n k a b above whole =
    let two : k + 2 ≡ k + 1 + 1 = omega arith in
    let size : length (replicate k 0 ++ a ∷ []) ≡ k + 1 = length-append (replicate k 0) (a ∷ []) ∙ omega (arith, length-replicate {A = ℕ} k 0) in
    ap (λ l. set (set l k a) (k + 1) b) (filled n (k + 2) above (omega arith) ∙ ap (λ z. replicate z 0 ++ above) two ∙ one_zero (k + 1) above ∙ one_zero k (0 ∷ above))
    ∙ ap (λ l. set l (k + 1) b) (set_at (replicate k 0) 0 (0 ∷ above) a k (length-replicate {A = ℕ} k 0) ∙ sym (append_assoc (replicate k 0) (a ∷ []) (0 ∷ above)))
    ∙ set_at (replicate k 0 ++ a ∷ []) 0 above b (k + 1) size
    ∙ append_assoc (replicate k 0) (a ∷ []) (b ∷ above)
    ∙ sym (filled n k (a ∷ b ∷ above) (omega arith))

-- a byte that is left out
cut_past : (n b : ℕ) (above : List ℕ) → n ≤ length above → cut_front n (b ∷ above) ≡ cut_front n above
unfolding cut_front
cut_past n b above full =
    let none : n - suc (length above) ≡ n - length above = omega arith in
    let lost : suc (length above) - n ≡ suc (length above - n) = omega arith in
    ap (λ z. replicate z 0 ++ drop (suc (length above) - n) (b ∷ above)) none
    ∙ ap (λ z. replicate (n - length above) 0 ++ drop z (b ∷ above)) lost

-- the addresses of the stack name its bytes
picks_stack : (a b c d : Bool) (x y z w : Named) → a ≡ false → c ≡ false → d ≡ true → (if a then x else (if b && c then y else (if d then z else w))) ≡ z
picks_stack a true c d x y z w fa fc fd = rw (fa, fc, fd) refl
picks_stack a false c d x y z w fa fc fd = rw (fa, fd) refl

low_text : (t d s : ℕ) → t % 64 ≡ 0 → s ≡ 1280 → nseg (t / 64) + nseg (d / 64) + nseg (s / 64) ≤ 8 → t ≤ 57344
low_text t d s clicks size few = omega arith

low_data : (t d s : ℕ) → d % 64 ≡ 0 → s ≡ 1280 → nseg (t / 64) + nseg (d / 64) + nseg (s / 64) ≤ 8 → data_base t + d ≤ 57344
low_data t d s clicks size few = omega arith

in_stack : (m : Image) (v : ℕ) → IsImage m → length m.stack ≡ 1280 → 64256 ≤ v → named m v ≡ InStack (v - 64256)
unfolding named_by
in_stack m v is size high =
    let t : ℕ = length m.text in
    let d : ℕ = length m.data in
    let s : ℕ = length m.stack in
    let text : t ≤ 57344 = low_text t d s is.text_clicks size is.segments in
    let dat : data_base t + d ≤ 57344 = low_data t d s is.data_clicks size is.segments in
    let past : data_base t + d ≤ v = omega (arith, dat, high) in
    picks_stack _ (leb (data_base t) v) _ _ (InText v) (InData (v - data_base t)) (InStack (v - (65536 - s))) Nothing
    (le-ltb v t (omega (arith, text, high))) (le-ltb v (data_base t + d) past) (le-leb (65536 - s) v (omega (arith, size, high)))
    ∙ ap (λ z. InStack (v - (65536 - z))) size

-- a word is stored before those at the end
pub word_stored : (m : Image) (v w : ℕ) (above : List ℕ) → IsImage m → m.stack ≡ cut_front 1280 above → 64256 ≤ v → v % 2 ≡ 0 → v + length above + 2 ≡ 65536
    → image_after m (store_word m v w) ≡ record m { stack = cut_front 1280 (bytes_of (w ∷ []) ++ above) }
unfolding bytes_of
word_stored m v w above is stack high even whole =
    let size : length m.stack ≡ 1280 = ap length stack ∙ length-cut 1280 above in
    let next : v + 1 - 64256 ≡ v - 64256 + 1 = omega arith in
    ap (image_after m) (store_word_by m v w (InStack (v - 64256)) even (in_stack m v is size high)
    (in_stack m (v + 1) is size (omega arith) ∙ ap InStack next))
    ∙ ap (λ l. record m { stack = l }) (ap (λ l. set (set l (v - 64256) (w % 256)) (v - 64256 + 1) (w / 256)) stack
    ∙ cut_word 1280 (v - 64256) (w % 256) (w / 256) above (omega arith))

-- a word that would lie below the stack
pub word_left_out : (m : Image) (v w : ℕ) (above : List ℕ) → m.stack ≡ cut_front 1280 above → v < 64256 → v % 2 ≡ 0 → v + length above + 2 ≡ 65536
    → m ≡ record m { stack = cut_front 1280 (bytes_of (w ∷ []) ++ above) }
unfolding bytes_of
word_left_out m v w above stack low even whole =
    ap (λ l. record m { stack = l }) (stack
    ∙ sym (cut_past 1280 (w / 256) above (omega arith))
    ∙ sym (cut_past 1280 (w % 256) (w / 256 ∷ above) (omega arith)))

-- the byte that makes strings even
abbrev pub padding : List ℕ → List ℕ
padding bytes = if length bytes % 2 == 1 then 0 ∷ [] else []

even_by : (odd : Bool) (bytes : List ℕ) → (if odd then bytes ++ 0 ∷ [] else bytes) ≡ bytes ++ (if odd then 0 ∷ [] else [])
even_by true bytes = refl
even_by false bytes = sym (append-nil bytes)

pub even_padded : (bytes : List ℕ) → made_even bytes ≡ bytes ++ padding bytes
even_padded bytes = even_by (length bytes % 2 == 1) bytes

padding_by : (odd : Bool) (n : ℕ) → (odd ≡ true → n ≡ 1) → (odd ≡ false → n ≡ 0) → length {A = ℕ} (if odd then 0 ∷ [] else []) ≡ n
padding_by true n one none = sym (one refl)
padding_by false n one none = sym (none refl)

pub length-padding : (bytes : List ℕ) → length (padding bytes) ≡ length bytes % 2
length-padding bytes = padding_by (length bytes % 2 == 1) (length bytes % 2) (λ h. eqb-true (length bytes % 2) 1 h)
    (λ h. let other : length bytes % 2 ≢ 1 = λ is. absurd (let t = eq-eqb (length bytes % 2) 1 is in cc) in omega arith)

pub length-even : (bytes : List ℕ) → length (made_even bytes) ≡ length bytes + length bytes % 2
length-even bytes = ap length (even_padded bytes) ∙ length-append bytes (padding bytes) ∙ ap (λ n. length bytes + n) (length-padding bytes)

padded_by : (odd : Bool) (n : ℕ) → (odd ≡ true → n ≡ 1) → (odd ≡ false → n ≡ 0) → ◌≡◌ {A = List ℕ} (if odd then 0 ∷ [] else []) (replicate n 0)
padded_by true n one none = ap (λ k. replicate k 0) (sym (one refl))
padded_by false n one none = ap (λ k. replicate k 0) (sym (none refl))

zeros_behind : (bytes : List ℕ) → padding bytes ≡ replicate (length bytes % 2) 0
zeros_behind bytes = padded_by (length bytes % 2 == 1) (length bytes % 2) (λ h. eqb-true (length bytes % 2) 1 h)
    (λ h. let other : length bytes % 2 ≢ 1 = λ is. absurd (let t = eq-eqb (length bytes % 2) 1 is in cc) in omega arith)

-- a cleared stack with the strings at its end
run_filled : (i : ℕ) (bytes : List ℕ) → i + length bytes + length bytes % 2 ≡ 1280 → run_set (replicate 1280 0) i bytes ≡ cut_front 1280 (made_even bytes)
unfolding run_set
run_filled i bytes whole =
    let behind : 1280 - (i + length bytes) ≡ length bytes % 2 = omega arith in
    ap (λ l. l ++ bytes ++ drop (i + length bytes) (replicate 1280 0)) (take-replicate i 1280 0 (omega arith))
    ∙ ap (λ l. replicate i 0 ++ bytes ++ l) (drop-replicate (i + length bytes) 1280 0 ∙ ap (λ k. replicate k 0) behind ∙ sym (zeros_behind bytes))
    ∙ append_assoc (replicate i 0) bytes (padding bytes)
    ∙ ap (λ l. replicate i 0 ++ l) (sym (even_padded bytes))
    ∙ sym (filled 1280 i (made_even bytes) (omega (arith, length-even bytes)))

pub strings_put : (m : Image) (v : ℕ) (bytes : List ℕ) → IsImage m → m.stack ≡ replicate 1280 0 → length bytes ≤ 510 → v ≡ (65536 - length bytes - length bytes % 2) % 65536
    → store_bytes m v bytes ≡ Some (record m { stack = cut_front 1280 (made_even bytes) })
strings_put m v [] is stack few at = ap (λ (l : List ℕ). Some (record m { stack = l })) (stack ∙ sym (filled 1280 1280 [] (omega arith) ∙ append-nil (replicate 1280 0)))
strings_put m v (b ∷ rest) is stack few at =
    let bytes : List ℕ = b ∷ rest in
    let size : length m.stack ≡ 1280 = ap length stack ∙ length-replicate {A = ℕ} 1280 0 in
    let here : named m v ≡ InStack (v - 64256) = in_stack m v is size (omega arith) in
    let storable : IsStorable (named m v) = subst IsStorable (sym here) tt in
    let enough : length bytes ≤ room m (named m v) = subst (λ p. length bytes ≤ room m p) (sym here) (omega arith) in
    all_stored m v bytes (image_fits m is) (omega arith) storable (omega arith) enough
    ∙ ap (λ p. Some (with_run m p bytes)) here
    ∙ ap (λ (l : List ℕ). Some (record m { stack = l })) (ap (λ z. run_set z (v - 64256) bytes) stack ∙ run_filled (v - 64256) bytes (omega arith))

pub one_more : (bytes : List ℕ) (i : ℕ) → 0 < i → i ≤ length bytes → drop (i - 1) bytes ≡ get_or bytes (i - 1) 0 ∷ drop i bytes
one_more bytes i some within =
    let up : suc (i - 1) ≡ i = omega arith in
    drop-cons bytes (i - 1) 0 (omega arith) ∙ ap (λ k. get_or bytes (i - 1) 0 ∷ drop k bytes) up

-- the addresses at which arguments begin, among bytes from an address on, of which the first begins one or goes on with one
unfoldable pub starts : ℕ → Bool → List ℕ → List ℕ
starts at begins [] = []
starts at begins (b ∷ later) = if begins then at ∷ starts (at + 1) (b == 0) later else starts (at + 1) (b == 0) later

few_starts : (at : ℕ) (begins : Bool) (bytes : List ℕ) → length (starts at begins bytes) ≤ length bytes
unfolding starts
few_starts at begins [] = omega arith
few_starts at true (b ∷ later) = let less = few_starts (at + 1) (b == 0) later in omega arith
few_starts at false (b ∷ later) = let less = few_starts (at + 1) (b == 0) later in omega arith

-- those after the first
abbrev pub next_addresses : ℕ → List (List ℕ) → List ℕ
next_addresses at [] = []
next_addresses at (first ∷ later) = addresses (at + length first) later

first_starts : (at b : ℕ) (begins is_nul : Bool) (parts : List (List ℕ)) (more : List ℕ) → (is_nul ≡ false → 0 < length parts)
    → (is_nul ≡ true → more ≡ addresses (at + 1) parts) → (is_nul ≡ false → more ≡ next_addresses (at + 1) parts)
    → (if begins then at ∷ more else more) ≡ (if begins then addresses at (if is_nul then (0 ∷ []) ∷ parts else in_first b parts)
    else next_addresses at (if is_nul then (0 ∷ []) ∷ parts else in_first b parts))
first_starts at b true true parts more some ended on = ap (λ l. at ∷ l) (ended refl)
first_starts at b false true parts more some ended on = ended refl
first_starts at b true false [] more some ended on = absurd (let h : 0 < 0 = some refl in omega arith)
first_starts at b false false [] more some ended on = absurd (let h : 0 < 0 = some refl in omega arith)
first_starts at b true false (first ∷ later) more some ended on =
    let e : at + 1 + length first ≡ at + length (b ∷ first) = omega arith in
    ap (λ l. at ∷ l) (on refl) ∙ ap (λ k. at ∷ addresses k later) e
first_starts at b false false (first ∷ later) more some ended on =
    let e : at + 1 + length first ≡ at + length (b ∷ first) = omega arith in
    on refl ∙ ap (λ k. addresses k later) e

abbrev without_first : List ℕ → List ℕ
without_first [] = []
without_first (b ∷ later) = later

tail_by : (is_nul : Bool) (b : ℕ) (parts : List (List ℕ)) (later : List ℕ) → concat (if is_nul then (0 ∷ []) ∷ parts else in_first b parts) ≡ b ∷ later
    → (concat parts ≡ later) × (is_nul ≡ false → 0 < length parts)
tail_by true b parts later whole = (ap without_first whole, λ h. absurd (cc))
tail_by false b [] later whole = absurd (cc)
tail_by false b (first ∷ parts) later whole = (ap without_first whole, λ h. omega arith)

starts_are : (bytes : List ℕ) (at : ℕ) → concat (split bytes) ≡ bytes
    → (starts at true bytes ≡ addresses at (split bytes)) × (starts at false bytes ≡ next_addresses at (split bytes))
unfolding starts split
starts_are [] at whole = (refl, refl)
starts_are (b ∷ later) at whole =
    let tail = tail_by (b == 0) b (split later) later whole in
    let rest = starts_are later (at + 1) tail.0 in
    let each = λ (begins : Bool). first_starts at b begins (b == 0) (split later) (starts (at + 1) (b == 0) later) tail.1
    (λ h. ap (λ z. starts (at + 1) z later) h ∙ rest.0) (λ h. ap (λ z. starts (at + 1) z later) h ∙ rest.1) in
    (each true, each false)

-- the words that stand before the strings, of the arguments that begin at a place or after it
abbrev pub words_from : List ℕ → ℕ → List ℕ
words_from bytes i = starts (65536 - length (made_even bytes) + i) (begins_at bytes i) (drop i bytes)

abbrev pub bytes_from : List ℕ → ℕ → List ℕ
bytes_from bytes i = bytes_of (words_from bytes i ++ 65535 ∷ []) ++ made_even bytes

pub all_words : (bytes : List ℕ) → concat (split bytes) ≡ bytes
    → words_from bytes 0 ≡ addresses (65536 - length (made_even bytes)) (split bytes)
all_words bytes whole =
    let base : 65536 - length (made_even bytes) + 0 ≡ 65536 - length (made_even bytes) = omega arith in
    ap (λ k. starts k true bytes) base ∙ (starts_are bytes (65536 - length (made_even bytes)) whole).0

pub no_words : (bytes : List ℕ) → words_from bytes (length bytes) ≡ []
unfolding starts
no_words bytes = ap (starts (65536 - length (made_even bytes) + length bytes) (begins_at bytes (length bytes))) (drop_all (length bytes) bytes (omega arith))

pub few_words : (bytes : List ℕ) (i : ℕ) → length (words_from bytes i) ≤ length bytes
few_words bytes i =
    omega (arith, few_starts (65536 - length (made_even bytes) + i) (begins_at bytes i) (drop i bytes), length-drop i bytes)

pub length-bytes_from : (bytes : List ℕ) (i : ℕ) → length (bytes_from bytes i) ≡ 2 * length (words_from bytes i) + 2 + length (made_even bytes)
length-bytes_from bytes i =
    length-append (bytes_of (words_from bytes i ++ 65535 ∷ [])) (made_even bytes)
    ∙ ap (λ n. n + length (made_even bytes)) (length-bytes_of (words_from bytes i ++ 65535 ∷ []) ∙ ap (λ n. 2 * n) (length-append (words_from bytes i) (65535 ∷ [])))
    ∙ omega arith

words_step : (at : ℕ) (begins : Bool) (b : ℕ) (later : List ℕ) → starts at begins (b ∷ later) ≡ (if begins then at ∷ starts (at + 1) (b == 0) later else starts (at + 1) (b == 0) later)
unfolding starts
words_step at begins b later = refl

begins_next : (bytes : List ℕ) (i : ℕ) → 0 < i → (get_or bytes (i - 1) 0 == 0) ≡ begins_at bytes i
begins_next bytes zero some = absurd (omega arith)
begins_next bytes (suc before) some = ap (λ k. get_or bytes k 0 == 0) (let e : suc before - 1 ≡ before = omega arith in e)

-- one place down
pub words_down : (bytes : List ℕ) (i : ℕ) → 0 < i → i ≤ length bytes
    → words_from bytes (i - 1) ≡ cond (begins_at bytes (i - 1)) ((65536 - length (made_even bytes) + (i - 1)) ∷ words_from bytes i) (words_from bytes i)
words_down bytes i some within =
    let base : ℕ = 65536 - length (made_even bytes) in
    let up : base + (i - 1) + 1 ≡ base + i = omega arith in
    let same : starts (base + (i - 1) + 1) (get_or bytes (i - 1) 0 == 0) (drop i bytes) ≡ words_from bytes i =
    ap (λ k. starts k (get_or bytes (i - 1) 0 == 0) (drop i bytes)) up ∙ ap (λ z. starts (base + i) z (drop i bytes)) (begins_next bytes i some) in
    ap (starts (base + (i - 1)) (begins_at bytes (i - 1))) (one_more bytes i some within)
    ∙ words_step (base + (i - 1)) (begins_at bytes (i - 1)) (get_or bytes (i - 1) 0) (drop i bytes)
    ∙ ap (λ (l : List ℕ). cond (begins_at bytes (i - 1)) ((base + (i - 1)) ∷ l) l) same

pub none_named : (bytes : List ℕ) → cut_front 1280 (bytes_of (65535 ∷ []) ++ made_even bytes) ≡ cut_front 1280 (bytes_from bytes (length bytes))
none_named bytes = ap (λ (ws : List ℕ). cut_front 1280 (bytes_of (ws ++ 65535 ∷ []) ++ made_even bytes)) (sym (no_words bytes))

pub size_none : (bytes : List ℕ) → length (bytes_from bytes (length bytes)) ≡ 2 + (length bytes + length bytes % 2)
size_none bytes =
    length-bytes_from bytes (length bytes)
    ∙ omega (arith, ap (length {A = ℕ}) (no_words bytes), length-even bytes)

pub word_put : (bytes : List ℕ) (i w : ℕ) → 0 < i → i ≤ length bytes → begins_at bytes (i - 1) ≡ true → w ≡ 65536 - length (made_even bytes) + (i - 1)
    → bytes_of (w ∷ []) ++ bytes_from bytes i ≡ bytes_from bytes (i - 1)
unfolding bytes_of
word_put bytes i w some within begins is =
    ap (λ k. bytes_of (k ∷ words_from bytes i ++ 65535 ∷ []) ++ made_even bytes) is
    ∙ ap (λ (ws : List ℕ). bytes_of (ws ++ 65535 ∷ []) ++ made_even bytes)
    (sym (words_down bytes i some within ∙ ap (λ z. cond z ((65536 - length (made_even bytes) + (i - 1)) ∷ words_from bytes i) (words_from bytes i)) begins))

pub no_word_put : (bytes : List ℕ) (i : ℕ) → 0 < i → i ≤ length bytes → begins_at bytes (i - 1) ≡ false → bytes_from bytes i ≡ bytes_from bytes (i - 1)
no_word_put bytes i some within goes_on =
    ap (λ (ws : List ℕ). bytes_of (ws ++ 65535 ∷ []) ++ made_even bytes)
    (sym (words_down bytes i some within ∙ ap (λ z. cond z ((65536 - length (made_even bytes) + (i - 1)) ∷ words_from bytes i) (words_from bytes i)) goes_on))

pub all_named : (bytes : List ℕ) → concat (split bytes) ≡ bytes
    → cut_front 1280 (bytes_from bytes 0) ≡ cut_front 1280 (bytes_of (addresses (65536 - length (made_even bytes)) (split bytes) ++ 65535 ∷ []) ++ made_even bytes)
all_named bytes whole = ap (λ (ws : List ℕ). cut_front 1280 (bytes_of (ws ++ 65535 ∷ []) ++ made_even bytes)) (all_words bytes whole)

-- how far down the words go
pub size_from : (bytes : List ℕ) (i : ℕ) → length bytes ≤ 510 → (length (bytes_from bytes i) % 2 ≡ 0) × (length (bytes_from bytes i) ≤ 1600)
size_from bytes i few =
    let words = few_words bytes i in
    let size = length-bytes_from bytes i in
    let even = length-even bytes in
    (omega (arith, size, even), omega (arith, size, even, words, few))

length-addresses : (at : ℕ) (args : List (List ℕ)) → length (addresses at args) ≡ length args
length-addresses at [] = refl
length-addresses at (first ∷ later) = ap suc (length-addresses (at + length first) later)

pub size_named : (at : ℕ) (args : List (List ℕ)) (bytes : List ℕ) → length (bytes_of (addresses at args ++ 65535 ∷ []) ++ bytes) ≡ 2 * length args + 2 + length bytes
size_named at args bytes =
    length-append (bytes_of (addresses at args ++ 65535 ∷ [])) bytes
    ∙ ap (λ n. n + length bytes) (length-bytes_of (addresses at args ++ 65535 ∷ [])
    ∙ ap (λ n. 2 * n) (length-append (addresses at args) (65535 ∷ []) ∙ ap (λ n. n + 1) (length-addresses at args)))
    ∙ omega arith

-- the stack of a program, from its last part to its first
pub all_put : (args : List (List ℕ)) (bytes : List ℕ) → split bytes ≡ args → bytes ≡ concat args
    → cut_front 1280 (bytes_of (length args ∷ []) ++ (bytes_of (addresses (65536 - length (made_even bytes)) (split bytes) ++ 65535 ∷ []) ++ made_even bytes))
    ≡ first_stack args
unfolding bytes_of first_stack
all_put args bytes parts whole =
    ap (λ (l : List (List ℕ)). cut_front 1280 (bytes_of (length args ∷ []) ++ (bytes_of (addresses (65536 - length (made_even bytes)) l ++ 65535 ∷ []) ++ made_even bytes))) parts
    ∙ ap (λ (l : List ℕ). cut_front 1280 (bytes_of (length args ∷ []) ++ (bytes_of (addresses (65536 - length (made_even l)) args ++ 65535 ∷ []) ++ made_even l))) whole

-- one part is put in front of others
pub put_more : (m n o : Image) (x y z : List ℕ) → n ≡ record m { stack = x } → o ≡ record n { stack = y } → y ≡ z → o ≡ record m { stack = z }
put_more m n o x y z before then_put same = then_put ∙ ap (λ (i : Image). record i { stack = y }) before ∙ ap (λ (l : List ℕ). record m { stack = l }) same

pub length-word : (w : ℕ) (above : List ℕ) → length (bytes_of (w ∷ []) ++ above) ≡ length above + 2
unfolding bytes_of
length-word w above = omega arith

-- the words stand at even addresses
pub even_strings : (args : List (List ℕ)) → nc args % 2 ≡ 0
even_strings args = omega (arith, length-even (concat args))

pub even_ones : (n : ℕ) (args : List (List ℕ)) → n ≡ nc args → n ≤ 510 → (65534 - n) % 2 ≡ 0
even_ones n args is few = omega (arith, even_strings args)

pub even_first : (sp n : ℕ) (args : List (List ℕ)) → sp ≡ first_sp args → n ≡ na args → n ≤ 510 → nc args ≤ 510 → sp % 2 ≡ 0
even_first sp n args is count few small = omega (arith, even_strings args)

-- where the first word goes
pub first_place : (sp n size : ℕ) (args : List (List ℕ)) → sp ≡ first_sp args → n ≡ na args → n ≤ 510 → nc args ≤ 510 → size ≡ 2 * na args + 2 + nc args
    → sp + size + 2 ≡ 65536
first_place sp n size args is count few small long = omega arith
