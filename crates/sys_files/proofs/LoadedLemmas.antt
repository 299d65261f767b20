-- What stands at the addresses of a memory: parts of bytes that are loaded, the data, the stack, and a name of the kernel's own.
use Rattle.std.proofs.Common.{◌≡◌, ◌+◌, ◌-◌, ◌%◌, ◌<◌, ◌≤◌, ℕ, zero, suc, List, [], ◌∷◌, ◌++◌, length, take, drop, slice_range, Option, Some, None, Result, Ok, Err, inl, inr, refl, sym, ap, ◌∙◌, arith}
use Rattle.std.proofs.lemmas.Bool.{cases_lt}
use Rattle.std.proofs.lemmas.Bool.Decides.{nat_tests}
use Rattle.std.proofs.lemmas.List.{append-nil}
use Rattle.std.proofs.Math.Seq.{take-length}
use Rattle.v6_base.specs.Image.{Image, IsImage, text_alone, data_base, named, named_by}
use Rattle.v6_base.specs.Access.{load_byte, byte_at}
use Rattle.v6_base.specs.Copy.{load_bytes, in_front}
use Rattle.v6_base.specs.declared.space.Trap.{Trap}
use Rattle.v6_base.specs.declared.space.Trap.TheVariants.{Segment}
use Rattle.v6_base.specs.declared.named.Named.{Named}
use Rattle.v6_base.specs.declared.named.Named.TheVariants.{InText, InData, InStack}
use Rattle.v6_base.specs.Runs.{room, run_at}
use Rattle.v6_base.proofs.RunLemmas.{Fits, image_fits, all_loaded, text_run, text_ends}
use Rattle.fs_tree.specs.Name.{readable, read_then, name_at}
use Rattle.sys_files.proofs.ShowingLemmas.{loaded_readable, readable_ends}

-- Bytes that are loaded begin with a byte.
record Begins (image : Image) (at n : ℕ) (bytes : List ℕ) : Type 0 where
  pub byte : ℕ
  pub rest : List ℕ
  pub all : bytes ≡ byte ∷ rest
  pub loaded : load_byte image (at % 65536) ≡ Ok byte
  pub later : load_bytes image (at + 1) n ≡ Some rest

begins_by : (image : Image) (at n : ℕ) (bytes : List ℕ) (r : Result ℕ Trap) (o : Option (List ℕ))
    → load_byte image (at % 65536) ≡ r → load_bytes image (at + 1) n ≡ o
    → in_front r o ≡ Some bytes → Begins image at n bytes
begins_by image at n bytes (Ok byte) (Some rest) first later is = record { byte = byte; rest = rest; all = cc; loaded = first; later = later }
begins_by image at n bytes (Ok byte) None first later is = absurd (cc)
begins_by image at n bytes (Err trap) o first later is = absurd (cc)

begins : (image : Image) (at n : ℕ) (bytes : List ℕ) → load_bytes image at (suc n) ≡ Some bytes → Begins image at n bytes
begins image at n bytes is = begins_by image at n bytes (load_byte image (at % 65536)) (load_bytes image (at + 1) n) refl refl is

-- the first of them
loaded_first : (image : Image) (at n k : ℕ) (bytes : List ℕ) → load_bytes image at n ≡ Some bytes → k ≤ n
    → load_bytes image at k ≡ Some (take k bytes)
loaded_first image at n zero bytes is few = refl
loaded_first image at zero (suc k) bytes is few = absurd (omega (arith, few))
loaded_first image at (suc n) (suc k) bytes is few =
    let b = begins image at n bytes is in
    ap (λ r. in_front r (load_bytes image (at + 1) k)) b.loaded
    ∙ ap (in_front (Ok b.byte)) (loaded_first image (at + 1) n k b.rest b.later (omega (arith, few)))
    ∙ ap (λ l. Some (take (suc k) l)) (sym b.all)

-- those from a place on
loaded_from : (image : Image) (at n v : ℕ) (bytes : List ℕ) → load_bytes image at n ≡ Some bytes → v ≤ n
    → load_bytes image (at + v) (n - v) ≡ Some (drop v bytes)
loaded_from image at n zero bytes is few =
    let here : at ≡ at + 0 = omega arith in
    let all : n ≡ n - 0 = omega arith in
    ap (λ k. load_bytes image (at + 0) k) (sym all) ∙ ap (λ a. load_bytes image a n) (sym here) ∙ is
loaded_from image at zero (suc v) bytes is few = absurd (omega (arith, few))
loaded_from image at (suc n) (suc v) bytes is few =
    let b = begins image at n bytes is in
    let there : at + suc v ≡ at + 1 + v = omega arith in
    let left : suc n - suc v ≡ n - v = omega arith in
    ap (λ k. load_bytes image (at + suc v) k) left ∙ ap (λ a. load_bytes image a (n - v)) there
    ∙ loaded_from image (at + 1) n v b.rest b.later (omega (arith, few)) ∙ ap (λ l. Some (drop (suc v) l)) (sym b.all)

pub loaded_part : (image : Image) (at n v k : ℕ) (bytes : List ℕ) → load_bytes image at n ≡ Some bytes → v + k ≤ n
    → load_bytes image (at + v) k ≡ Some (slice_range bytes v (v + k))
loaded_part image at n v k bytes is few =
    let count : k ≡ v + k - v = omega arith in
    loaded_first image (at + v) (n - v) k (drop v bytes) (loaded_from image at n v bytes is (omega (arith, few)))
    (omega (arith, few))
    ∙ ap (λ j. Some (take j (drop v bytes))) count

-- bytes that are one list from its front
run_whole : (image : Image) (at : ℕ) (p : Named) (bytes : List ℕ) → Fits image → at < 65536 → named image at ≡ p
    → room image p ≡ length bytes
    → run_at image p (length bytes) ≡ bytes → 0 < length bytes → load_bytes image at (length bytes) ≡ Some bytes
run_whole image at p bytes fits low is long all some =
    let there : room image (named image at) ≡ length bytes = ap (room image) is ∙ long in
    all_loaded image at (length bytes) fits low some (omega (arith, there)) ∙ ap (λ q. Some (run_at image q (length bytes))) is
    ∙ ap Some all

data_named : (t d s v : ℕ) → t ≤ v → data_base t ≤ v → v < data_base t + d → named_by t d s v ≡ InData (v - data_base t)
unfolding named_by
data_named t d s v past from to = grind (arith, nat_tests)

stack_named : (t d s v : ℕ) → t ≤ v → data_base t + d ≤ v → 65536 - s ≤ v → named_by t d s v ≡ InStack (v - (65536 - s))
unfolding named_by
stack_named t d s v past after from = grind (arith, nat_tests)

-- no bytes are loaded from anywhere
none_loaded : (image : Image) (at : ℕ) (bytes : List ℕ) → length bytes ≡ 0 → load_bytes image at (length bytes) ≡ Some bytes
none_loaded image at [] none = refl
none_loaded image at (byte ∷ bytes) none = absurd (omega (arith, none))

-- The data of a process stand behind its text.
pub data_loaded : (image : Image) → IsImage image
    → load_bytes image (data_base (length image.text) % 65536) (length image.data) ≡ Some image.data
data_loaded image is = elim (cases_lt 0 (length image.data)) [
  | inr none ↦ none_loaded image (data_base (length image.text) % 65536) image.data (omega (arith, none))
  | inl some ↦
      (let fits = image_fits image is in
      let text = fits.text in
      let all = fits.all in
      let low : data_base (length image.text) < 65536 = omega (arith, all, some) in
      let flat : data_base (length image.text) % 65536 ≡ data_base (length image.text) = omega (arith, low) in
      let none : data_base (length image.text) - data_base (length image.text) ≡ 0 = omega arith in
      ap (λ a. load_bytes image a (length image.data)) flat
      ∙ run_whole image (data_base (length image.text)) (InData 0) image.data fits low
      (data_named (length image.text) (length image.data) (length image.stack) (data_base (length image.text)) text
      (omega arith) (omega (arith, some)) ∙ ap InData none)
      (omega arith) (take-length image.data) some)
]

-- Its stack ends at the last address.
pub stack_loaded : (image : Image) → IsImage image
    → load_bytes image ((65536 - length image.stack) % 65536) (length image.stack) ≡ Some image.stack
stack_loaded image is = elim (cases_lt 0 (length image.stack)) [
  | inr none ↦ none_loaded image ((65536 - length image.stack) % 65536) image.stack (omega (arith, none))
  | inl some ↦
      (let fits = image_fits image is in
      let text = fits.text in
      let all = fits.all in
      let top : ℕ = 65536 - length image.stack in
      let low : 65536 - length image.stack < 65536 = omega (arith, some) in
      let flat : (65536 - length image.stack) % 65536 ≡ 65536 - length image.stack = omega (arith, low) in
      let none : 65536 - length image.stack - (65536 - length image.stack) ≡ 0 = omega arith in
      ap (λ a. load_bytes image a (length image.stack)) flat
      ∙ run_whole image top (InStack 0) image.stack fits low
      (stack_named (length image.text) (length image.data) (length image.stack) top (omega (arith, text, all))
      (omega (arith, all)) (omega arith) ∙ ap InStack none)
      (omega arith) (take-length image.stack) some)
]

-- a byte that can't be read
nothing_read : (image : Image) (at : ℕ) → load_byte image at ≡ Err Segment → readable image at 1 ≡ []
unfolding readable
nothing_read image at is = ap (λ r. read_then r (readable image ((at + 1) % 65536) 0)) is

-- A name in a memory of 64 bytes is these bytes.
pub whole_name : (bytes : List ℕ) → length bytes ≡ 64 → name_at (text_alone bytes) 0 ≡ bytes
unfolding load_byte
whole_name bytes long =
    let image : Image = text_alone bytes in
    let fits : Fits image = record { text = omega (arith, long); all = omega (arith, long) } in
    let loaded : load_bytes image 0 64 ≡ Some bytes =
    ap (load_bytes image 0) (sym long)
    ∙ run_whole image 0 (InText 0) bytes fits (omega arith) (text_run bytes 0 (omega (arith, long))) (omega arith)
    (take-length bytes) (omega (arith, long)) in
    let first : readable image 0 64 ≡ bytes = loaded_readable image 0 64 bytes (omega arith) loaded in
    let past : load_byte image 64 ≡ Err Segment = ap (byte_at image)
    (text_ends bytes 64 (omega (arith, long)) (omega (arith, long)) (omega arith)) in
    let none : readable image 64 1 ≡ [] = nothing_read image 64 past in
    readable_ends image 0 64 1 65536 (omega arith) (ap length first ∙ long) (omega arith) (omega (arith, ap length none))
    ∙ ap (λ l. readable image 0 64 ++ l) none ∙ append-nil (readable image 0 64) ∙ first

-- the same, by addresses and numbers that are known otherwise
pub data_at_base : (image : Image) (base text count : ℕ) → IsImage image → base ≡ data_base text % 65536
    → length image.text ≡ text → length image.data ≡ count
    → load_bytes image base count ≡ Some image.data
data_at_base image base text count is at long many =
    ap (load_bytes image base) (sym many) ∙ ap (λ a. load_bytes image a (length image.data))
    (at ∙ ap (λ n. data_base n % 65536) (sym long)) ∙ data_loaded image is

pub stack_at_top : (image : Image) (top stack count : ℕ) → IsImage image → top ≡ (65536 - stack) % 65536
    → length image.stack ≡ stack → length image.stack ≡ count
    → load_bytes image top count ≡ Some image.stack
stack_at_top image top stack count is at long many =
    ap (load_bytes image top) (sym many) ∙ ap (λ a. load_bytes image a (length image.stack))
    (at ∙ ap (λ n. (65536 - n) % 65536) (sym long)) ∙ stack_loaded image is
