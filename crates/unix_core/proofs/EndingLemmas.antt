-- How a call ends: never as an instruction does that is just done, and only exit ends a process.
use Rattle.std.proofs.Common.{◌≡◌, ◌≢◌, ◌∙◌, ◌==◌, ◌&&◌, not, ℕ, Bool, true, false, nat_lt, if◌then◌else◌, Option, Some, None, refl, sym}
use Rattle.v6_base.specs.declared.answer.Answer.{Answer}
use Rattle.v6_base.specs.declared.answer.Answer.TheVariants.{Ret, Fail, Sleep}
use Rattle.v6_base.specs.declared.entry.Chan.TheVariants.{Disk}
use Rattle.pick_rules.specs.Priority.{pribio}
use Rattle.pick_rules.specs.Board.{Board}
use Rattle.pick_rules.specs.Logged.{Stop, logged}
use Rattle.sys_files.specs.Did.{Did}
use Rattle.sys_procs.specs.Comes.{Comes}
use Rattle.sys_procs.specs.Fork.{fork_one}
use Rattle.unix_core.specs.declared.world.World.{World}
use Rattle.abstract_unix.specs.declared.ending.Ending.{Ending}
use Rattle.abstract_unix.specs.declared.ending.Ending.TheVariants.{Next, Slept, Ended}
use Rattle.abstract_unix.specs.Unix.{Unix}
use Rattle.sig_core.specs.declared.numbers.TheConstants.{SIGSYS}
use Rattle.abstract_unix.specs.Steps.{Steps, returns, signals}
use Rattle.abstract_unix.specs.Errors.{error_number}
use Rattle.abstract_unix.specs.Calls.{answers, came_by, did_by, exits, forks, refused_area, with_area, with_handed, with_world, world_of, waits_for_disk, takes_time}
use Rattle.unix_core.specs.Parts.{HasCome, ended_as, is_over}

refused_end : (u : Unix) (s n : ℕ) (b : Bool) →
    (if b then returns (with_area u s (refused_area n)) else signals u s SIGSYS).ending ≢ Next
refused_end u s n true e = absurd (cc e)
refused_end u s n false e = absurd (cc e)

pub answers_end : (u : Unix) (s : ℕ) (a : Answer) → (answers u s a).ending ≢ Next
answers_end u s (Ret r0 r1) e = absurd (cc e)
answers_end u s (Fail x) e = refused_end u s (error_number x) (nat_lt (error_number x) 100) e
answers_end u s (Sleep pri chan) e = absurd (cc e)

pub did_next : (u : Unix) (s : ℕ) (d : Did) → (did_by u s d).ending ≢ Next
did_next u s d = answers_end (with_handed u s d.state) s d.answer

pub came_next : (u : Unix) (s : ℕ) (c : Comes) → (came_by u s c).ending ≢ Next
came_next u s c = answers_end (with_world u c.state) s c.answer

-- nor does one that waits for the disk
pub timed_next : (has : Bool) (s : ℕ) (steps : Steps) → steps.ending ≢ Next → (takes_time has s steps).ending ≢ Next
timed_next has s steps other = by (has && not (steps.unix.timing.disk == 0))
  where
    by : (b : Bool) → (if b then (record steps { unix = waits_for_disk steps.unix s; ending = Slept pribio (Disk s) }) else steps).ending ≢ Next
    by true e = absurd (cc e)
    by false e = other e

-- an answer doesn't end the process
refused_lives : (u : Unix) (s n : ℕ) (b : Bool) →
    (if b then returns (with_area u s (refused_area n)) else signals u s SIGSYS).ending ≢ Ended
refused_lives u s n true e = absurd (cc e)
refused_lives u s n false e = absurd (cc e)

pub answers_live : (u : Unix) (s : ℕ) (a : Answer) → (answers u s a).ending ≢ Ended
answers_live u s (Ret r0 r1) e = absurd (cc e)
answers_live u s (Fail x) e = refused_lives u s (error_number x) (nat_lt (error_number x) 100) e
answers_live u s (Sleep pri chan) e = absurd (cc e)

pub did_lives : (u : Unix) (s : ℕ) (d : Did) → (did_by u s d).ending ≢ Ended
did_lives u s d = answers_live (with_handed u s d.state) s d.answer

pub came_lives : (u : Unix) (s : ℕ) (c : Comes) → (came_by u s c).ending ≢ Ended
came_lives u s c = answers_live (with_world u c.state) s c.answer

pub fork_end : (u : Unix) (s : ℕ) → (forks u s).ending ≢ Next
fork_end u s e =
    let c : Comes = fork_one (world_of u) s in
    answers_end (with_world u c.state) s c.answer e

pub exit_end : (u : Unix) (s : ℕ) → (exits u s).ending ≢ Next
exit_end u s e = absurd (cc e)

as_next : (o : Option (Stop Unix)) (e : Ending) → e ≢ Next → ended_as o e ≢ Next
as_next None e other is = other is
as_next (Some stop) e other is = absurd (cc is)

pub never_next : (b : Board) (steps : Steps) (e : Ending) (w : World) → HasCome b steps e w → steps.ending ≢ Next
    → e ≢ Next
never_next b steps e w come other is = as_next (logged b steps.effects).stop steps.ending other (sym come.ending ∙ is)

as_ended : (o : Option (Stop Unix)) (e : Ending) → e ≢ Ended → ended_as o e ≢ Ended
as_ended None e other is = other is
as_ended (Some stop) e other is = absurd (cc is)

pub never_ended : (b : Board) (steps : Steps) (e : Ending) (w : World) → HasCome b steps e w → steps.ending ≢ Ended
    → e ≢ Ended
never_ended b steps e w come other is = as_ended (logged b steps.effects).stop steps.ending other (sym come.ending ∙ is)

-- and none ends the run by itself
refused_goes : (u : Unix) (s n : ℕ) (b : Bool) →
    is_over (if b then returns (with_area u s (refused_area n)) else signals u s SIGSYS).ending ≡ false
refused_goes u s n true = refl
refused_goes u s n false = refl

pub answers_go : (u : Unix) (s : ℕ) (a : Answer) → is_over (answers u s a).ending ≡ false
answers_go u s (Ret r0 r1) = refl
answers_go u s (Fail x) = refused_goes u s (error_number x) (nat_lt (error_number x) 100)
answers_go u s (Sleep pri chan) = refl

pub came_goes : (u : Unix) (s : ℕ) (c : Comes) → is_over (came_by u s c).ending ≡ false
came_goes u s c = answers_go (with_world u c.state) s c.answer
