-- The header of a program's file: a.out(V) of the UNIX Programmer's Manual.
use Rattle.std.specs.Prelude.{◌≡◌, ◌≢◌, ◌⊎◌, ℕ, ◌+◌, ◌*◌, ◌==◌, if◌then◌else◌, List, slice_index, Result, Ok, Err}
use Rattle.aout_head.specs.declared.parts.Plan.{Plan}
use Rattle.aout_head.specs.declared.parts.ExecFault.{ExecFault}
use Rattle.aout_head.specs.declared.parts.ExecFault.TheVariants.{NotExecutable, Separate}

-- The header is eight words. Each is two bytes, the low one first.
abbrev pub word : List ℕ → ℕ → ℕ
word head n = slice_index head (2 * n) + 256 * slice_index head (2 * n + 1)

-- What the words are: the sizes of the three parts and of the symbol table, in bytes; the address at which the program
-- begins, which is always 0; a word without use; and whether the bits for relocation were left out.
pub record Header : Type 0 where
  pub magic : ℕ
  pub text_size : ℕ
  pub data_size : ℕ
  pub bss_size : ℕ
  pub symbols_size : ℕ
  pub entry : ℕ
  pub unused : ℕ
  pub flag : ℕ

abbrev pub header_of : List ℕ → Header
header_of head = record {
  magic = word head 0;
  text_size = word head 1;
  data_size = word head 2;
  bss_size = word head 3;
  symbols_size = word head 4;
  entry = word head 5;
  unused = word head 6;
  flag = word head 7;
}

-- 0407: the text is not write-protected, and the data follow it at once, so that both are data.
abbrev pub plain : Header → Plan
plain h = record { text = 0; init = h.text_size + h.data_size; bss = h.bss_size }

-- 0410: the text is write-protected, and shared by all that execute the file.
abbrev pub shared : Header → Plan
shared h = record { text = h.text_size; init = h.data_size; bss = h.bss_size }

-- 0411 has separate address spaces for text and data, which the PDP-11/40 has not.
abbrev pub plan_of : Header → Result Plan ExecFault
plan_of h =
    if h.magic == 0o407 then Ok (plain h)
    else (if h.magic == 0o410 then Ok (shared h)
    else (if h.magic == 0o411 then Err Separate
    else Err NotExecutable))

-- The plan in words. Whatever the magic number, text and data are all that the file has after its header, and the bss
-- comes after them.
pub record IsPlan (h : Header) (p : Plan) : Type 0 where
  pub magic : (h.magic ≡ 0o407) ⊎ (h.magic ≡ 0o410)
  pub all : p.text + p.init ≡ h.text_size + h.data_size
  pub plain : h.magic ≡ 0o407 → p.text ≡ 0
  pub shared : h.magic ≡ 0o410 → p.text ≡ h.text_size
  pub bss : p.bss ≡ h.bss_size

-- The refusal in words.
abbrev pub IsRefusal : Header → ExecFault → Type 0
IsRefusal h Separate = h.magic ≡ 0o411
IsRefusal h NotExecutable = (h.magic ≢ 0o407) × (h.magic ≢ 0o410) × (h.magic ≢ 0o411)
