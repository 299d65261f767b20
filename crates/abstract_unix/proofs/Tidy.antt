-- What holds of a Unix between two turns, besides who sits where: open files count the numbers that name them, the pipes that are
-- open have numbers that a channel may have, there are eight lines at most, and who waits in a call on files can go on.
use Rattle.std.proofs.Common.{◌≡◌, ◌≤◌, ℕ, true, false, length, get_or, Some, None}
use Rattle.fs_nodes.specs.Keys.{key_count}
use Rattle.open_files.specs.Files.{file_at}
use Rattle.u_area.specs.Pending.{is_on_files}
use Rattle.sys_files.specs.Sound.{numbers_of}
use Rattle.abstract_unix.specs.Unix.{Unix, process_of}
use Rattle.abstract_unix.specs.Calls.{handed_of}
use Rattle.abstract_unix.specs.Whole.{Told, told_in, all_names, CanGoOn}
use Rattle.abstract_unix.proofs.PipeNumbers.{HavePipes}
use Rattle.sys_files.proofs.Walks.{CanResume}
use Rattle.abstract_unix.proofs.Quiet.{HasNumbers}
use Rattle.abstract_unix.proofs.PendingRows.{can_resume}
use Rattle.abstract_unix.proofs.GoingOnLemmas.{handed_pends}

pub record IsTidy (u : Unix) : Type 0 where
  pub numbers : (entry : ℕ) → numbers_of (file_at u.files entry) ≡ all_names (told_in u.processes) entry
  pub fifty : length u.processes ≡ 50
  pub fifteen : (s : ℕ) (t : Told) → get_or (told_in u.processes) s None ≡ Some t → length t.files ≡ 15
  pub waits : CanGoOn u
  pub count : key_count u.store ≤ 65535
  pub eight : length u.lines ≤ 8
  pub pipes : HavePipes u.files u.pipes

pub tidy_numbers : (u : Unix) (s : ℕ) → IsTidy u → HasNumbers (handed_of u (process_of u s))
tidy_numbers u s tidy = record { count = tidy.count; eight = tidy.eight; pipes = tidy.pipes }

-- Who waits in a call on files can go on with it.
pub tidy_can : (u : Unix) (s : ℕ) → IsTidy u → get_or u.processes s None ≡ Some (process_of u s)
    → (process_of u s).is_zombie ≡ false
    → is_on_files (process_of u s).u.pending ≡ true → CanResume (λ count. Unit {0}) (handed_of u (process_of u s))
tidy_can u s tidy there lives on = can_resume (handed_of u (process_of u s)) on (handed_pends u s tidy.waits there lives)
