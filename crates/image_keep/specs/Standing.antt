-- A process where it stands in core: its image there, and the places of its data and its stack, which an instruction may write.
use Rattle.std.specs.Prelude.{◌≡◌, ℕ, ◌+◌, ◌-◌, ◌%◌, ◌≤◌, ◌<◌, nat_lt, if◌then◌else◌, List}
use Rattle.v6_base.specs.declared.named.Named.{Named}
use Rattle.v6_base.specs.declared.named.Named.TheVariants.{InData, InStack}
use Rattle.v6_base.specs.Image.{Image, data_base, named_by}
use Rattle.core_mem.specs.Bytes.{part}
use Rattle.image_keep.specs.declared.standing.Standing.{Standing}
use Rattle.image_keep.specs.declared.starts.Starts.{Starts}

-- the image that stands there
unfoldable pub standing_image : List ℕ → Standing → Image
standing_image core f = record {
  text = part core f.text f.text_len;
  «data» = part core f.data f.data_len;
  stack = part core f.data_end (65536 - f.stack_start);
}

-- Its parts are in core, in whole words, and apart: the u area, the data and the stack behind it, the text before or behind
-- them. The program begins at address 0: the text, or the data where there is none.
pub record StandsIn (size : ℕ) (f : Standing) : Type 0 where
  pub small : size ≤ 1000000
  pub text_in : f.text + f.text_len ≤ size
  pub stack_in : f.data_end + 65536 ≤ size + f.stack_start
  pub area : f.area + 1024 ≡ f.data
  pub end : f.data_end ≡ f.data + f.data_len
  pub text_apart : f.area < f.text + f.text_len → f.data_end + 65536 ≤ f.text + f.stack_start
  pub base : f.base ≡ data_base f.text_len
  pub text_below : f.text_len ≤ f.base
  pub data_below : f.base + f.data_len ≤ f.stack_start
  pub stack_below : f.stack_start ≤ 65536
  pub text_even : f.text_len % 2 ≡ 0
  pub data_even : f.data_len % 2 ≡ 0
  pub stack_even : f.stack_start % 2 ≡ 0
  pub odd : f.odd ≡ 1
  pub nought : f.nought ≡ 0
  pub code_end : f.code_end ≡ f.code_len
  pub stack : (f.stack + f.stack_start) % 18446744073709551616 ≡ f.data_end
  pub bare : f.text_len ≡ 0 → (f.code ≡ f.data) × (f.code_len ≡ f.data_len)
  pub pure : 0 < f.text_len → (f.code ≡ f.text) × (f.code_len ≡ f.text_len)

-- the places follow from where the parts of an image start
pub record Follows (f : Standing) (x : Starts) : Type 0 where
  pub text : f.text ≡ x.text
  pub text_len : f.text_len ≡ x.text_len
  pub base : f.base ≡ x.base
  pub «data» : f.data ≡ x.image
  pub data_len : f.data_len ≡ x.data_len
  pub stack_start : f.stack_start ≡ x.stack_start
  pub area : f.area + 1024 ≡ f.data
  pub end : f.data_end ≡ f.data + f.data_len
  pub odd : f.odd ≡ 1
  pub nought : f.nought ≡ 0
  pub code_end : f.code_end ≡ f.code_len
  pub stack : (f.stack + f.stack_start) % 18446744073709551616 ≡ f.data_end
  pub bare : f.text_len ≡ 0 → (f.code ≡ f.data) × (f.code_len ≡ f.data_len)
  pub pure : 0 < f.text_len → (f.code ≡ f.text) × (f.code_len ≡ f.text_len)

-- where all parts are in core, the places follow from where they start; else there is no program at hand, and the place of the
-- u area is some place in core
pub record IsNear (f : Standing) (x : Starts) : Type 0 where
  pub follows : 0 < f.code_len → Follows f x
  pub room : 1024 ≤ x.core → f.area + 1024 ≤ x.core
  pub nil : f.nil ≡ 0
  pub text_in : 0 < f.code_len → f.text + f.text_len ≤ x.core
  pub stack_in : 0 < f.code_len → f.data_end + 65536 ≤ x.core + f.stack_start

-- what an address names, by the sizes
abbrev pub names : Standing → ℕ → Named
names f v = named_by f.text_len f.data_len (65536 - f.stack_start) v

-- a place is a byte of the data or of the stack; the address of a place, and what it is of the image
pub record IsPlace (f : Standing) (place : ℕ) : Type 0 where
  pub behind : f.data ≤ place
  pub inside : place + f.stack_start < f.data_end + 65536

abbrev pub address : Standing → ℕ → ℕ
address f place = if nat_lt place f.data_end then f.base + (place - f.data) else f.stack_start + (place - f.data_end)

abbrev pub placed : Standing → ℕ → Named
placed f place = if nat_lt place f.data_end then InData (place - f.data) else InStack (place - f.data_end)

-- the place of a word
pub record IsWordPlace (f : Standing) (place : ℕ) : Type 0 where
  pub first : IsPlace f place
  pub even : address f place % 2 ≡ 0
