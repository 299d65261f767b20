-- A u area with another field, and the bytes with which it becomes that one where it stands.
use Rattle.std.specs.Prelude.{◌≡◌, ℕ, ◌+◌, ◌%◌, Bool, if◌then◌else◌, List, slice_index, slice_set}
use Rattle.std.proofs.Math.Nat.{mod-lt}
use Rattle.std.proofs.Common.{lit<}
use Rattle.core_mem.specs.Bytes.{over}
use Rattle.u_area.specs.declared.area.UArea.{UArea}
use Rattle.u_area.specs.Area.{area_bytes}

-- A u area becomes this one when these bytes are put at this place of its own.
abbrev pub Becomes : UArea → ℕ → List ℕ → UArea → Type 0
Becomes u at bytes v = over (area_bytes u) at bytes ≡ area_bytes v

-- one register
abbrev pub with_register : UArea → ℕ → ℕ → UArea
with_register u n value = record u { r = slice_set u.r n value }

abbrev pub with_codes : UArea → ℕ → UArea
with_codes u cc = record u { cc = cc % 16; codes = mod-lt cc (lit< tt) }

-- a user, a group, a real user and a real group
abbrev pub with_ids : UArea → List ℕ → UArea
with_ids u ids =
    record u { uid = slice_index ids 0; gid = slice_index ids 1; ruid = slice_index ids 2; rgid = slice_index ids 3 }

-- what one signal does
abbrev pub with_handler : UArea → ℕ → ℕ → UArea
with_handler u sig handler = record u { handlers = slice_set u.handlers sig handler }

-- a call that is pending, and what is kept of it
abbrev pub with_call : UArea → ℕ → List ℕ → UArea
with_call u pending call = record u { pending = pending; call = call }

-- one tick more, of the process's own time or of the kernel's for it
abbrev pub with_tick : UArea → Bool → UArea
with_tick u in_kernel =
    if in_kernel then record u { system_time = (u.system_time + 1) % 65536 }
    else record u { user_time = (u.user_time + 1) % 65536 }

abbrev pub with_no_times : UArea → UArea
with_no_times u = record u { user_time = 0; system_time = 0; child_user = 0; child_system = 0 }

abbrev pub with_child_times : UArea → ℕ → ℕ → UArea
with_child_times u user system = record u { child_user = user; child_system = system }

-- of a process that has ended: no directory, its status, and what it does about signals
abbrev pub with_end : UArea → ℕ → List ℕ → UArea
with_end u status handlers = record u { dir = 0; status = status; handlers = handlers }
