-- A process that has come out of a trap is in user mode.
use Rattle.std.proofs.Common.{◌≡◌, ◌∙◌, true, false, ℕ, get_or, Option, Some, None, sym, subst}
use Rattle.pick_rules.specs.Board.{Board}
use Rattle.pick_rules.specs.Logged.{Stop, logged, left_by}
use Rattle.pdp_step.specs.declared.outcome.Outcome.{Outcome}
use Rattle.abstract_unix.specs.declared.ending.Ending.{Ending}
use Rattle.abstract_unix.specs.declared.ending.Ending.TheVariants.{Trapped}
use Rattle.abstract_unix.specs.Unix.{Unix, process_of}
use Rattle.abstract_unix.specs.Steps.{Steps}
use Rattle.abstract_unix.specs.Calls.{resumed}
use Rattle.abstract_unix.specs.Turn.{comes_to, is_user}
use Rattle.abstract_unix.specs.Whole.{CanGoOn}
use Rattle.abstract_unix.proofs.Owing.{some_within}
use Rattle.abstract_unix.proofs.GoingOnSteps.{IsUserIn, TrapsUser, user_is, user_free, comes_trap, resumed_trap}
use Rattle.unix_core.specs.declared.world.World.{World}
use Rattle.unix_core.specs.Parts.{unix_of, HasCome, ended_as}

-- Steps that leave a process in user mode where they end in a trap leave the world so.
pub came_user : (b : Board) (steps : Steps) (e : Ending) (w : World) (s : ℕ) → TrapsUser s steps → HasCome b steps e w
    → e ≡ Trapped → is_user (process_of (unix_of w) s) ≡ true
came_user b steps e w s traps come ends = by (logged b steps.effects).stop come.unix (sym come.ending ∙ ends)
  where
    by : (o : Option (Stop Unix)) → unix_of w ≡ left_by o steps.unix → ended_as o steps.ending ≡ Trapped
        → is_user (process_of (unix_of w) s) ≡ true
    by None unix trapped = user_is (unix_of w) s (subst (λ u. IsUserIn u s) (sym unix) (traps trapped))
    by (Some stop) unix trapped = absurd (cc trapped)

-- So it is after what an instruction comes to, in user mode,
pub step_user : (w now : World) (s : ℕ) (o : Outcome) (b : Board) (e : Ending) → get_or (unix_of w).processes s None ≡ Some (process_of (unix_of w) s)
    → is_user (process_of (unix_of w) s) ≡ true → HasCome b (comes_to (unix_of w) s o) e now
    → e ≡ Trapped → is_user (process_of (unix_of now) s) ≡ true
step_user w now s o b e there user come =
    came_user b (comes_to (unix_of w) s o) e now s
    (comes_trap s (unix_of w) o (some_within (unix_of w).processes s (process_of (unix_of w) s) there) (user_free (unix_of w) s user)) come

-- and after a call that goes on.
pub resume_user : (w now : World) (s : ℕ) (b : Board) (e : Ending) → CanGoOn (unix_of w)
    → get_or (unix_of w).processes s None ≡ Some (process_of (unix_of w) s) → (process_of (unix_of w) s).is_zombie ≡ false
    → HasCome b (resumed (unix_of w) s) e now → e ≡ Trapped → is_user (process_of (unix_of now) s) ≡ true
resume_user w now s b e can there lives come =
    came_user b (resumed (unix_of w) s) e now s (resumed_trap s (unix_of w) can there lives) come
