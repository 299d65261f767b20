-- The parts that a call on processes is handed, as the kernel keeps them.
use Rattle.std.specs.Prelude.{◌≡◌, ℕ, ◌<◌, Bool, List, None, slice_index, slice_index_or}
use Rattle.std.specs.Option.{unwrap_or}
use Rattle.pick_rules.specs.Board.{Board}
use Rattle.pick_rules.specs.Logged.{Logged, logged}
use Rattle.fs_nodes.specs.FileSystem.{FileSystem}
use Rattle.fs_tree.specs.Finding.{inodes_of}
use Rattle.sys_procs.specs.declared.procs.Procs.{Procs}
use Rattle.image_keep.specs.Kept.{HasImage}
use Rattle.sys_procs.specs.Process.{Process, no_process}
use Rattle.sys_procs.specs.World.{World, processes_in, world_in}
use Rattle.sys_procs.specs.Comes.{Comes}
use Rattle.sys_procs.specs.Agree.{board_of, Agree, AgreeBare, AreMarks, IsCalling}

abbrev pub handed : Procs → FileSystem → World
handed p fs = world_in p.rows p.table p.images.kept p.switches (inodes_of fs)

abbrev pub board : Procs → Board
board p = board_of p.table p.images.kept

abbrev pub AreProcs : Procs → Type 0
AreProcs p = Agree p.rows p.table p.images.kept

-- A process has stopped between its old image and its new one.
abbrev pub AreBare : Procs → ℕ → Type 0
AreBare p s = AgreeBare p.rows p.table p.images.kept s

-- A tree has the marks of the texts that are shared.
abbrev pub IsMarked : Procs → List Bool → Type 0
IsMarked p marks = AreMarks marks p.images.kept

abbrev pub Calls : Procs → FileSystem → ℕ → Type 0
Calls p fs s = IsCalling p.rows p.table p.images.kept (λ ino. slice_index fs.references ino) s

-- the log that a call leaves, with the board then
abbrev pub came : Procs → Comes → Logged World
came p c = logged (board p) c.effects

-- The process in a slot; the inodes don't tell of it.
abbrev pub process_here : Procs → ℕ → Process
process_here p s = unwrap_or (slice_index_or (processes_in p.rows.slots p.images.kept) s None) no_process

-- a process that has an image
pub record IsAlive (p : Procs) (s : ℕ) : Type 0 where
  pub agree : AreProcs p
  pub above : 0 < s
  pub below : s < 50
  pub image : HasImage p.images.kept s
