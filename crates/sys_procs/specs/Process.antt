-- A process: `proc.h` and `user.h` in Lions' Commentary.
use Rattle.std.specs.Prelude.{ℕ, ◌==◌, Bool, false, List, [], Option, Some, None, slice_index, slice_set}
use Rattle.v6_base.specs.Image.{Image}
use Rattle.u_area.specs.declared.area.UArea.{UArea}
use Rattle.proc_tab.specs.declared.row.Row.{Row}
use Rattle.proc_tab.specs.declared.member.Member.{Member}
use Rattle.proc_tab.specs.Processes.{no_row}
use Rattle.image_keep.specs.Area.{no_area}
use Rattle.image_keep.specs.Kept.{Keeping, Nothing, Alive, Grave}
use Rattle.sys_procs.specs.TextTable.{Text, text_bytes}

pub record Process : Type 0 where
  pub row : Row
  pub u : UArea  -- its r and cc are the registers and the condition codes
  pub «data» : List ℕ
  pub stack : List ℕ
  pub text : Option ℕ  -- the entry of the text that it shares
  pub is_zombie : Bool  -- it has ended; data and stack are gone, and its u area keeps their sizes

-- what stands for a process where there is none
abbrev pub no_process : Process
no_process = record { row = no_row; u = no_area; «data» = []; stack = []; text = None; is_zombie = false }

-- a process as its row, what is kept of its image and its slot's text make it
abbrev pub process_by : Member → Keeping → Option ℕ → Process
process_by m Nothing text = record no_process { row = m.row; text = text; is_zombie = m.is_dead }
process_by m (Alive held) text =
    record { row = m.row; u = held.u; «data» = held.image.data; stack = held.image.stack; text = text; is_zombie = m.is_dead }
process_by m (Grave u block) text = record { row = m.row; u = u; «data» = []; stack = []; text = text; is_zombie = m.is_dead }

abbrev pub process_in : Option Member → Keeping → Option ℕ → Option Process
process_in None x text = None
process_in (Some m) x text = Some (process_by m x text)

-- who is in a slot, by its process
abbrev pub member_of : Option Process → Option Member
member_of None = None
member_of (Some p) = Some (record { row = p.row; is_dead = p.is_zombie })

abbrev pub register : Process → ℕ → ℕ
register p r = slice_index p.u.r r

abbrev pub with_register : Process → ℕ → ℕ → Process
with_register p r value = record p { u = record p.u { r = slice_set p.u.r r value } }

-- the memory of a process, with the bytes of the text that it shares
abbrev pub image_of : List (Option Text) → Process → Image
image_of texts p = record { text = text_bytes texts p.text; «data» = p.data; stack = p.stack }

abbrev pub is_super : Process → Bool
is_super p = p.u.uid == 0
