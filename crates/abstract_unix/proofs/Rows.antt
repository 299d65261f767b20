-- The rows of the calls on processes that want no place for an image: the effects of each are apt.
use Rattle.std.proofs.Common.{◌∙◌, ℕ, not, false, ◌∷◌, sym, ap, subst}
use Rattle.v6_base.specs.Trace.{Log}
use Rattle.v6_base.specs.declared.answer.Answer.{Answer}
use Rattle.v6_base.specs.declared.answer.Answer.TheVariants.{Ret, Fail, Sleep}
use Rattle.v6_base.specs.declared.entry.Entry.{Entry}
use Rattle.v6_base.specs.declared.entry.Entry.TheVariants as line
use Rattle.v6_base.specs.declared.errno.Errno.{Errno}
use Rattle.pick_rules.specs.Effects.{Show, came}
use Rattle.pick_rules.specs.Fits.{FitsBoard}
use Rattle.pick_rules.specs.Lawful.{Seen, Fits, seen_after}
use Rattle.log_laws.proofs.Fitting.{Apt, going_fits}
use Rattle.log_laws.proofs.Seats.{Seats, InCall, in_its_slot}
use Rattle.log_laws.proofs.Lines.{nice_fits, nice_in, time_fits, time_in, wake_in}
use Rattle.log_laws.proofs.Deaths.{IsDead, reap_fits, reap_in}
use Rattle.sys_procs.specs.World.{World, process_of, change, without_process}
use Rattle.sys_procs.specs.Times.{with_time}
use Rattle.sys_procs.specs.Comes.{Comes, fails, logs}
use Rattle.abstract_unix.proofs.ProcessRows.{IsGrave, Plain, gives, refuses, waits, changes, due, nice, wakes, dated, buries}
use Rattle.abstract_unix.proofs.Sitting.{seat_for, seat_of, seats_under, seats_here, seat_in, runner_alive, taken_out, kept_in, changed_in}
use Rattle.abstract_unix.proofs.Steps.{Answered}

-- a call on processes whose effects are apt
pub record FineComes (limit s : ℕ) (seen : Seen) (c : Comes) : Type 0 where
  pub fine : Answered s (seats_under limit c.state) seen c.effects c.answer

-- a process in its call
abbrev pub Calling : ℕ → World → Seen → Type 0
Calling s w seen = InCall s false (seats_here w) seen

pub fails_fine : (s : ℕ) (seen : Seen) (w : World) (e : Errno) → Calling s w seen → FineComes w.limit s seen (fails w e)
unfolding Apt
fails_fine s seen w e i = record { fine = i }

-- a line that fits, before what is apt
pub logged_fine : (limit s : ℕ) (seen : Seen) (e : Entry) (c : Comes) → Fits seen e → FineComes limit s (seen_after seen e) c → FineComes limit s seen (logs e c)
unfolding Apt came
logged_fine limit s seen e c fits rest = record { fine = by c.answer rest.fine }
  where
    by : (a : Answer) → Answered s (seats_under limit c.state) (seen_after seen e) c.effects a
        → Answered s (seats_under limit c.state) seen (Show (Log e) ∷ c.effects) a
    by (Ret r0 r1) a = (fits, a)
    by (Fail x) a = (fits, a)
    by (Sleep pri chan) a = ((fits, a.0), a.1, a.2)

-- a dead process sits in its slot
grave_dead : (w : World) (d : ℕ) → IsGrave w d → IsDead (seats_here w) d
grave_dead w d g = record {
  seat = seat_for g.process;
  at = seat_in w.processes w.clock w.texts w.limit d ∙ ap seat_of g.at;
  dead = g.dead;
  user = g.above;
  small = g.below;
}

pub plain_fine : (s : ℕ) (seen : Seen) (w : World) (c : Comes) → Plain s w c → Calling s w seen → FineComes w.limit s seen c
unfolding Apt FitsBoard
plain_fine s seen w c (gives v r0 r1) i = record { fine = i }
plain_fine s seen w c (refuses v e) i = record { fine = i }
plain_fine s seen w c (waits v rule pri chan same sleeping is range) i =
    let alive = same.dead ∙ runner_alive w.processes w.clock w.texts w.limit s seen.board i.turn in
    let asleep = changed_in w.processes w.clock w.texts w.limit s false seen (rule (process_of w s)) i alive same.size same.text in
    record { fine = (subst (λ user. InCall s (not user) (seats_here (change w s rule)) seen) sleeping.waits asleep, is, range (in_its_slot i.turn)) }
plain_fine s seen w c (changes v rule d same pending rest) i =
    plain_fine s seen (change w s rule) c rest (kept_in w.processes w.clock w.texts w.limit s false seen (rule (process_of w s)) i same.dead same.size pending same.text)
plain_fine s seen w c (due v tout d rest) i = plain_fine s seen (record w { clock = record w.clock { tout = tout } }) c rest i
plain_fine s seen w c (nice v value d range rest) i =
    logged_fine w.limit s seen (line.Nice s value) d (nice_fits s false (seats_here w) seen value range i)
    (plain_fine s (seen_after seen (line.Nice s value)) w d rest (nice_in s false (seats_here w) seen value i))
plain_fine s seen w c (wakes v chan d range rest) i =
    logged_fine w.limit s seen (line.Wake chan) d (going_fits seen (line.Wake chan) i.going range tt)
    (plain_fine s (seen_after seen (line.Wake chan)) w d rest (wake_in s false (seats_here w) seen chan i))
plain_fine s seen w c (dated v time d range rest) i =
    logged_fine w.limit s seen (line.Time time) d (time_fits s false (seats_here w) seen time range i)
    (plain_fine s (seen_after seen (line.Time time)) (with_time w time) d rest (time_in s false (seats_here w) seen time i))
plain_fine s seen w c (buries v k d grave rest) i =
    let v : Seats = seats_here w in
    let dead : IsDead v k = grave_dead w k grave in
    let now : Seen = seen_after seen (line.Reap k) in
    logged_fine w.limit s seen (line.Reap k) d (reap_fits s false v seen k i dead)
    (plain_fine s now (without_process w k) d rest (subst (λ x. InCall s false x now) (sym (taken_out w.processes w.clock w.texts w.limit k)) (reap_in s false v seen k i dead)))
