-- break(II) of the UNIX Programmer's Manual, and the growth of a stack: `sbreak` in Lions' Commentary, `sys1.c`, `grow` in
-- `sig.c`, `estabur` in `main.c`.
use Rattle.std.specs.Prelude.{ℕ, ◌+◌, ◌-◌, ◌*◌, ◌/◌, ◌%◌, ◌==◌, ◌||◌, nat_le, Bool, if◌then◌else◌, Option, Some, None, Result, Ok, Err}
use Rattle.std.specs.Option.{option_map}
use Rattle.v6_base.specs.Image.{nseg}
use Rattle.v6_base.specs.Sizes.{cut_back, cut_front}
use Rattle.v6_base.specs.declared.entry.PanicKind.{PanicKind}
use Rattle.v6_base.specs.declared.errno.Errno.TheVariants.{ENOMEM}
use Rattle.seg_regs.specs.Sizes.{is_refused}
use Rattle.pick_rules.specs.Effects as effect
use Rattle.pick_rules.specs.Logged.{Stop}
use Rattle.sys_procs.specs.Process.{Process}
use Rattle.sys_procs.specs.World.{World, process_of, change}
use Rattle.sys_procs.specs.Comes.{Comes, returns, fails, does}

-- A process with other sizes of data and stack. Data are cut at their end, or grow there; a stack at its front. What is
-- new is cleared.
abbrev pub sized : ℕ → ℕ → Process → Process
sized d s p = record p {
  u = record p.u { data_size = d; stack_size = s };
  «data» = cut_back (64 * d) p.data;
  stack = cut_front (64 * s) p.stack;
}

-- The image is placed anew where it grows: `expand`.
abbrev pub expands : World → ℕ → ℕ → ℕ → Comes
expands w slot d s = does (effect.Size slot (16 + d + s) w) (returns (change w slot (sized d s)) slot)

-- The clicks of data up to an address, after a text of so many clicks, which takes whole segments. The address is rounded
-- up to a click, and wraps round. One in the text leaves no data.
abbrev pub clicks_up_to : ℕ → ℕ → ℕ
clicks_up_to t at = (at + 63) % 65536 / 64 - 128 * nseg t

-- 17, break: the end of the data
unfoldable pub break_at : World → ℕ → ℕ → Comes
break_at w slot at =
    let p : Process = process_of w slot in
    let d = clicks_up_to p.u.text_size at in
    if is_refused p.u.text_size d p.u.stack_size w.limit then fails w ENOMEM
    else expands w slot d p.u.stack_size

-- how many clicks a stack grows beyond what is asked for: SINCR
abbrev pub increment : ℕ
increment = 20

-- The clicks of a stack that has grown for an address, of an image of these sizes: the whole clicks from the address on,
-- and 20 more. It doesn't grow for an address that it has already, nor for 0, nor where there is none, nor to sizes that are
-- refused.
unfoldable pub grown_stack : ℕ → ℕ → ℕ → ℕ → ℕ → Option ℕ
grown_stack t d s most sp =
    let wanted = (65536 - sp) / 64 + increment in
    if (sp == 0) || (s == 0) || nat_le (65536 - 64 * s) sp then None else
    (if nat_le wanted s || is_refused t d wanted most then None else Some wanted)

-- the growth of a process's stack, where it grows; no register changes
unfoldable pub grow : World → ℕ → ℕ → Option Comes
grow w slot sp =
    let p : Process = process_of w slot in
    option_map (expands w slot p.u.data_size) (grown_stack p.u.text_size p.u.data_size p.u.stack_size w.limit sp)

-- what a growth comes to, and nothing where there is none
abbrev pub grown_or_not : World → ℕ → Option Comes → Comes
grown_or_not w slot None = returns w slot
grown_or_not w slot (Some c) = c

-- whether the stack has grown, unless the growth stops
abbrev pub grown_by : Option (Stop World) → Bool → Result Bool PanicKind
grown_by None grows = Ok grows
grown_by (Some stop) grows = Err stop.why
