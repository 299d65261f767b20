-- Each row of the calls on processes keeps the switches and core, and, unless it is stopped, leaves to each process its files
-- and its directory, and to whoever has an image a place in core.
use Rattle.std.proofs.Common.{◌≡◌, ℕ, Bool, true, false, ◌==◌, cond, List, [], length, Option, Some, None, slice_index, refl}
use Rattle.v6_base.specs.declared.errno.Errno.TheVariants.{ESRCH}
use Rattle.fs_nodes.specs.FileSystem.{IsFileSystem}
use Rattle.image_keep.specs.Kept.{IsKept}
use Rattle.sys_procs.specs.Process.{Process}
use Rattle.sys_procs.specs.World as its
use Rattle.sys_procs.specs.Comes.{fails, returns, shows}
use Rattle.sys_procs.specs.Signals.{signalled, signalled_if, all_signalled, signal_lines, meant_in, is_reached, kill_to}
use Rattle.sys_procs.proofs.Slots.{fifty_processes}
use Rattle.abstract_unix.specs.declared.calls.ProcessCall.{ProcessCall}
use Rattle.abstract_unix.specs.declared.calls.ProcessCall.TheVariants as process
use Rattle.abstract_unix.specs.Calls.{process_row}
use Rattle.abstract_unix.specs.Whole.{told_by}
use Rattle.abstract_unix.proofs.ProcessRows.{plain_row}
use Rattle.abstract_unix.proofs.CallLemmas.{signal_tamed}
use Rattle.abstract_unix.proofs.Mild.{IsMild, mild_plain}
use Rattle.abstract_unix.proofs.Posting.{all_alike}
use Rattle.unix_core.specs.declared.world.World.{World}
use Rattle.unix_core.specs.Parts.{IsReady}
use Rattle.unix_core.proofs.CameLemmas.{given, IsTame, mild_tame, near_here}
use Rattle.unix_core.proofs.GrowthLemmas.{break_tame}
use Rattle.unix_core.proofs.ProgramLemmas.{exec_tame}

-- a signal leaves to a process its files and its directory
told_so : (who : ℕ → Process → Bool) (n s : ℕ) (o : Option Process) → told_by (signalled_if who n s o) ≡ told_by o
told_so who n s None = refl
told_so who n s (Some p) = by (who s p)
  where
    by : (b : Bool) → told_by (Some (cond b (signalled n p) p)) ≡ told_by (Some p)
    by true = refl
    by false = refl

-- kill makes no demand
kill_mild : (w : its.World) (s n : ℕ) → length w.processes ≡ 50 → IsMild w (kill_to w s n)
unfolding kill_to
kill_mild w s n long = by (length slots == 0)
  where
    who : ℕ → Process → Bool
    who = is_reached s (its.process_of w s)

    slots : List ℕ
    slots = meant_in who w.processes

    now : its.World
    now = record w { processes = all_signalled who n w.processes }

    by : (b : Bool) → IsMild w (cond b (fails w ESRCH) (shows (signal_lines n slots) (returns now s)))
    by true = record { effects = tt; inodes = refl; switches = refl; texts = refl; told = refl }
    by false = record {
      effects = signal_tamed n slots [] tt;
      inodes = refl;
      switches = refl;
      texts = refl;
      told = all_alike who n w.processes told_by (told_so who n) long;
    }

pub tame_row : (w : World) (s : ℕ) → IsReady w s → IsFileSystem w.files.tree.nodes → IsKept w.procs.images.kept
    → (call : ProcessCall) (args : List ℕ) → IsTame w (process_row call w.files.tree.mounts (given w) s args)
tame_row w s ready form holds process.Exec a = exec_tame w s ready form holds (slice_index a 0) (slice_index a 1)
tame_row w s ready form holds process.Break a = break_tame w s ready (slice_index a 0)
tame_row w s ready form holds process.Kill a =
    mild_tame w _ (kill_mild (given w) s (slice_index a 0) (fifty_processes w.procs.rows.slots w.procs.images.kept))
tame_row w s ready form holds call a =
    mild_tame w _ (mild_plain (given w) s (given w) _ (plain_row call tt w.files.tree.mounts s (given w) a) (near_here w s ready))
