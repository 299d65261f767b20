-- What contracts inside the crate say of the parts that a call is handed.
use Rattle.std.specs.Prelude.{◌≡◌, ℕ, ◌<◌}
use Rattle.v6_base.specs.Image.{Image}
use Rattle.u_area.specs.declared.area.UArea.{UArea}
use Rattle.fs_nodes.specs.FileSystem.{FileSystem}
use Rattle.image_keep.specs.Kept.{with_area}
use Rattle.sys_procs.specs.declared.procs.Procs.{Procs}
use Rattle.sys_procs.specs.Process.{image_of}
use Rattle.sys_procs.specs.World.{texts_in, with_process}
use Rattle.sys_procs.specs.Handed.{AreBare, IsAlive, board, handed, process_here}

-- the memory of the process in a slot
abbrev pub memory_here : Procs → ℕ → Image
memory_here p s = image_of (texts_in p.images.kept) (process_here p s)

-- a process between its old image and its new one
pub record IsBare (p : Procs) (s : ℕ) : Type 0 where
  pub agree : AreBare p s
  pub above : 0 < s
  pub below : s < 50

-- A process has this u area, for the image that it has, and all else is as it was.
pub record HasArea (p q : Procs) (s : ℕ) (u : UArea) : Type 0 where
  pub state : (fs : FileSystem) → handed q fs ≡ with_process (handed p fs) s (record (process_here p s) { u = u })
  pub here : process_here q s ≡ record (process_here p s) { u = u }
  pub images : q.images.kept ≡ with_area p.images.kept s u
  pub rows : q.rows ≡ p.rows
  pub table : q.table ≡ p.table
  pub switches : q.switches ≡ p.switches
  pub board : board q ≡ board p
  pub alive : IsAlive q s
