-- Who sends a signal, as kill(II) sees it, and what one slot has of it.
use Rattle.std.specs.Prelude.{◌≡◌, ℕ, Bool, List, [], ◌∷◌, if◌then◌else◌}
use Rattle.v6_base.specs.Trace.{Item}
use Rattle.sys_procs.specs.Process.{Process, register}
use Rattle.sys_procs.specs.Signals.{signal_lines}
use Rattle.sys_procs.specs.declared.signals.Sender.{Sender}

pub record IsSender (sender : Sender) (p : Process) : Type 0 where
  pub pid : sender.pid ≡ register p 0
  pub tty : sender.tty ≡ p.row.tty
  pub uid : sender.uid ≡ p.u.uid

-- the lines of one slot
abbrev pub lines_where : Bool → ℕ → ℕ → List Item
lines_where means n s = if means then signal_lines n (s ∷ []) else []
