-- What a call on files promises, by its row: section II of the manual, INTRO(II).
use Rattle.std.specs.Prelude.{◌≡◌}
use Rattle.v6_base.specs.Trace.{Taken, Took}
use Rattle.v6_base.specs.declared.answer.Answer.{Answer}
use Rattle.sys_files.specs.Handed.{Handed}
use Rattle.sys_files.specs.Did.{Did}
use Rattle.sys_files.specs.Sound.{IsKept}

-- The call has answered as its row says. The parts have gone from old to new, and the trace from its start to its end, as the
-- row says, and what every call keeps is kept.
pub record Does (old new : Handed) (result : Answer) (start end : Taken) (row : Did) : Type 0 where
  pub answer : result ≡ row.answer
  pub state : new ≡ row.state
  pub items : Took start row.items end
  pub kept : IsKept old new
