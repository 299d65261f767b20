-- Who waits in a pipe can go on still: where the processes are the same, or one is another one that waits as it did.
use Rattle.std.proofs.Common.{◌≡◌, ℕ, get_or, Option, Some, None, sym, subst}
use Rattle.sys_procs.specs.Process.{Process}
use Rattle.abstract_unix.specs.Unix.{Unix, with_process}
use Rattle.abstract_unix.specs.Whole.{CanGoOn}
use Rattle.abstract_unix.proofs.GoingOnLemmas.{WaitedIn, AllWaited, all_waited_same, like_waited, waited_goes_on, put_goes_on}

-- A process waits as another one does.
pub record WaitsAlike (p q : Process) : Type 0 where
  pub pending : q.u.pending ≡ p.u.pending
  pub call : q.u.call ≡ p.u.call
  pub files : q.u.files ≡ p.u.files
  pub lives : q.is_zombie ≡ p.is_zombie

-- The processes are the same.
pub going_same : (u v : Unix) → v.processes ≡ u.processes → v.files ≡ u.files → CanGoOn u → CanGoOn v
going_same u v processes files going =
    waited_goes_on u v going (subst (AllWaited u.processes) (sym processes) (all_waited_same u.processes)) files

-- One process is another one, which waits as it did.
pub going_put : (u : Unix) (s : ℕ) (p q : Process) → get_or u.processes s None ≡ Some p → WaitsAlike p q → CanGoOn u
    → CanGoOn (with_process u s q)
going_put u s p q is like going =
    put_goes_on u s q going
    (subst (λ (o : Option Process). WaitedIn o (Some q)) (sym is) (like_waited p q like.lives like.pending like.call like.files))
