-- What is so of a program that the tests of exec(II) have let through.
use Rattle.std.specs.Prelude.{◌≡◌, ◌≤◌, ◌<◌, ◌*◌, ℕ, false, List, length, slice_index, slice_index_or, Option, Some, None}
use Rattle.seg_regs.specs.Sizes.{is_refused}
use Rattle.sys_procs.specs.declared.program.Program.{Program}
use Rattle.sys_procs.specs.TextTable.{Text}
use Rattle.sys_procs.specs.World.{World}
use Rattle.sys_procs.specs.ExecFile.{data_clicks}
use Rattle.sys_procs.specs.Stack.{stack_clicks}

-- All texts of an inode have so many clicks.
abbrev pub AreSized : List (Option Text) → ℕ → ℕ → Type 0
AreSized texts ino clicks =
    (k : ℕ) (text : Text) → slice_index_or texts k None ≡ Some text → text.ino ≡ ino → length text.bytes ≡ 64 * clicks

-- What is so of a program that the tests have let through.
pub record IsTested (w : World) (program : Program) : Type 0 where
  pub referenced : 0 < slice_index w.inodes.references program.ino
  pub sizes : is_refused program.text_clicks (data_clicks program.plan) stack_clicks w.limit ≡ false
  pub init : program.plan.init ≤ 131070
  pub shared : 0 < program.text_clicks → AreSized w.texts program.ino program.text_clicks
