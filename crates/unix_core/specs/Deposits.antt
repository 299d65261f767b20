-- What becomes of a system when a byte is put where it stands in core or in the swap area: that byte of one process's data or
-- stack is another one.
use Rattle.std.specs.Prelude.{◌≡◌, ℕ, Bool, slice_set}
use Rattle.v6_base.specs.declared.named.Named.{Named}
use Rattle.v6_base.specs.declared.named.Named.TheVariants.{InText, InData, InStack, Nothing}
use Rattle.image_keep.specs.Deposits.{IsByteOf}
use Rattle.sys_procs.specs.Process.{Process}
use Rattle.abstract_unix.specs.Unix.{System, process_of, with_process}
use Rattle.unix_core.specs.Memory.{kept_in}

-- a process with another byte of its data or its stack
abbrev pub with_its_byte : Process → Named → ℕ → Process
with_its_byte p (InText i) b = p
with_its_byte p (InData i) b = record p { «data» = slice_set p.data i b }
with_its_byte p (InStack i) b = record p { stack = slice_set p.stack i b }
with_its_byte p Nothing b = p

abbrev pub with_byte_at : System → ℕ → Named → ℕ → System
with_byte_at m s byte b = record m { unix = with_process m.unix s (with_its_byte (process_of m.unix s) byte b) }

-- The byte that stands there, of a process, is another one, and nothing else.
abbrev pub IsPutIn : System → Bool → ℕ → ℕ → System → Type 0
IsPutIn old swap at b new = (s : ℕ) × (byte : Named) × IsByteOf (kept_in old) swap at s byte × (new ≡ with_byte_at old s byte b)
