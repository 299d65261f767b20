-- What a call on processes has done: it has brought the parts from old to new, and a trace from what it had taken to what it
-- has taken now, as the call's row says. Where an effect of the row stops, that is the state just before it.
use Rattle.std.specs.Prelude.{◌≡◌, ℕ, Bool, Option, is_some, Result}
use Rattle.v6_base.specs.Trace.{Taken, Took}
use Rattle.v6_base.specs.declared.answer.Answer.{Answer}
use Rattle.v6_base.specs.declared.entry.PanicKind.{PanicKind}
use Rattle.fs_nodes.specs.FileSystem.{FileSystem}
use Rattle.pick_rules.specs.Logged.{left_by}
use Rattle.sys_procs.specs.declared.procs.Procs.{Procs}
use Rattle.sys_procs.specs.World.{World}
use Rattle.sys_procs.specs.Comes.{Comes}
use Rattle.sys_procs.specs.Break.{grown_or_not, grown_by}
use Rattle.sys_procs.specs.Agree.{answered, ended_by}
use Rattle.sys_procs.specs.Handed.{board, came, handed}

pub record HasDone (old new : Procs) (fs : FileSystem) (result : Result Answer PanicKind) (start end : Taken) (c : Comes) : Type 0 where
  pub answer : result ≡ answered (came old c).stop c.answer
  pub state : handed new fs ≡ left_by (came old c).stop c.state
  pub shown : board new ≡ (came old c).board
  pub items : Took start (came old c).items end

-- the same but for the answer
pub record HasLeft (old new : Procs) (fs : FileSystem) (start end : Taken) (c : Comes) : Type 0 where
  pub state : handed new fs ≡ left_by (came old c).stop c.state
  pub shown : board new ≡ (came old c).board
  pub items : Took start (came old c).items end

-- the end of a process, or a growth of its image, which answers nothing
pub record HasEnded (old new : Procs) (fs : FileSystem) (result : Result (Unit {0}) PanicKind) (start end : Taken) (c : Comes) : Type 0 where
  pub answer : result ≡ ended_by (came old c).stop
  pub left : HasLeft old new fs start end c

-- the growth of a stack in a world, where it grows; the answer is whether it does
pub record HasGrown (old new : Procs) (fs : FileSystem) (w : World) (s : ℕ) (result : Result Bool PanicKind) (start end : Taken) (o : Option Comes) : Type 0 where
  pub answer : result ≡ grown_by (came old (grown_or_not w s o)).stop (is_some o)
  pub left : HasLeft old new fs start end (grown_or_not w s o)
