-- How a turn ends: the process comes out of its call, or it sleeps.
use Rattle.std.proofs.Common.{◌≡◌, ◌≤◌, ℕ, nat_lt, nat_le, Bool, true, false, cond, List, [], ◌∷◌, ◌++◌, append-nil, map, Option, Some, None, refl, sym, ap, subst, arith}
use Rattle.v6_base.specs.Trace.{Byte, Log}
use Rattle.v6_base.specs.declared.answer.Answer.{Answer}
use Rattle.v6_base.specs.declared.answer.Answer.TheVariants.{Ret, Fail, Sleep}
use Rattle.v6_base.specs.declared.entry.PanicKind.{PanicKind}
use Rattle.v6_base.specs.declared.entry.PanicKind.TheVariants as panic
use Rattle.v6_base.specs.declared.entry.Entry.{Entry}
use Rattle.v6_base.specs.declared.entry.Entry.TheVariants as line
use Rattle.pick_rules.specs.Table.{row_at}
use Rattle.pick_rules.specs.Board.{blocks, free_text, placed, swap_fit}
use Rattle.pick_rules.specs.Effects.{Effect, Show, Size, Fork, Text, Image, Exit, Lets, at_fit, image_at, new_text_at, came, lifted}
use Rattle.pick_rules.specs.Ranges.{IsChannel}
use Rattle.pick_rules.specs.Fits.{IsSleep}
use Rattle.pick_rules.specs.Lawful.{Seen}
use Rattle.log_laws.proofs.Fitting.{Apt, AptCame, apt_append, apt_more}
use Rattle.log_laws.proofs.Seats.{Seats, InCall, Paused}
use Rattle.log_laws.proofs.Lines.{sleep_apt, signal_in, signal_fits}
use Rattle.sig_core.specs.declared.numbers.TheConstants.{SIGSYS}
use Rattle.sig_core.specs.Signals.{is_signal}
use Rattle.sys_procs.specs.Comes.{Comes}
use Rattle.sys_procs.specs.Signals.{signalled}
use Rattle.abstract_unix.specs.declared.ending.Ending.{Ending}
use Rattle.abstract_unix.specs.declared.ends.Ends.TheVariants.{AtEnd}
use Rattle.abstract_unix.specs.declared.ending.Ending.TheVariants.{Next, Trapped, Slept, Ended, Panic}
use Rattle.abstract_unix.specs.Unix.{Unix, process_of, with_process}
use Rattle.abstract_unix.specs.Errors.{error_number}
use Rattle.abstract_unix.specs.Steps.{Steps, returns, signals, after_effects}
use Rattle.abstract_unix.specs.Calls.{given_area, refused_area, with_area, answers, came_by, with_world}
use Rattle.abstract_unix.specs.Turn.{end_effects, ending_of}
use Rattle.abstract_unix.proofs.Sitting.{seats_under, seats_of, kept_in}

-- after a turn by which the run goes on its process is between two turns
abbrev pub GoesOn : Unix → Ending → Seen → Type 0
GoesOn u ending seen = ending_of ending ≡ AtEnd → Paused (seats_of u) seen

-- A panic comes of a demand alone: no turn ends in one by itself.
abbrev pub IsCalm : Ending → Type 0
IsCalm Next = Unit {0}
IsCalm Trapped = Unit {0}
IsCalm (Slept pri chan) = Unit {0}
IsCalm Ended = Unit {0}
IsCalm (Panic kind) = ⊥

-- a turn whose effects are apt, with the lines with which it ends
pub record AptSteps (s : ℕ) (seen : Seen) (steps : Steps) : Type 0 where
  pub apt : Apt {W = Unix} (GoesOn steps.unix steps.ending) seen (steps.effects ++ end_effects s steps.ending)
  pub calm : IsCalm steps.ending

-- What a turn has come to before a signal is looked for: out of a trap it is still in its call.
abbrev pub Begun : ℕ → Seen → List (Effect Unix) → Unix → Ending → Type 0
Begun s seen es u Trapped = Apt {W = Unix} (InCall s false (seats_of u)) seen es
Begun s seen es u Next = AptSteps s seen (record { effects = es; unix = u; ending = Next })
Begun s seen es u (Slept pri chan) = AptSteps s seen (record { effects = es; unix = u; ending = Slept pri chan })
Begun s seen es u Ended = AptSteps s seen (record { effects = es; unix = u; ending = Ended })
Begun s seen es u (Panic kind) = AptSteps s seen (record { effects = es; unix = u; ending = Panic kind })

pub record AptBegun (s : ℕ) (seen : Seen) (steps : Steps) : Type 0 where
  pub begun : Begun s seen steps.effects steps.unix steps.ending

-- a turn by which it goes on
pub ends_in : (s : ℕ) (seen : Seen) (u : Unix) (es : List (Effect Unix)) (ending : Ending) → IsCalm ending
    → Apt (Paused (seats_of u)) seen (es ++ end_effects s ending)
    → AptSteps s seen (record { effects = es; unix = u; ending = ending })
ends_in s seen u es ending calm a = record {
  apt = apt_more (Paused (seats_of u)) (GoesOn u ending) seen (es ++ end_effects s ending) (λ now p b. p) a;
  calm = calm;
}

-- Effects over another state are as apt.
module _ {V W : Type 0} (f : V → W) (seen : Seen) (P Q : Seen → Type 0) (h : (now : Seen) → P now → Q now) where
  fit_lifted : {X : Type 0} → (kind : PanicKind) (before : V) (o : Option X) (entry : X → Entry)
      → AptCame {W = V} seen (at_fit kind before o entry) P
      → AptCame {W = W} seen (at_fit kind (f before) o entry) Q
  fit_lifted kind before None entry a = a
  fit_lifted kind before (Some x) entry a = (a.0, h _ a.1)

  text_lifted : (before : V) (o block : Option ℕ) (entry : ℕ → ℕ → Entry)
      → AptCame {W = V} seen (new_text_at before o block entry) P
      → AptCame {W = W} seen (new_text_at (f before) o block entry) Q
  text_lifted before None block entry a = a
  text_lifted before (Some k) block entry a = fit_lifted panic.Swap before block (entry k) a

  came_lifted : (e : Effect V) → AptCame {W = V} seen (came seen.board e) P
      → AptCame {W = W} seen (came seen.board (lifted f e)) Q
  unfolding came
  came_lifted (Show (Log e)) a = (a.0, h _ a.1)
  came_lifted (Show (Byte l byte)) a = h _ a
  came_lifted (Size s clicks before) a = by (nat_le clicks (row_at seen.board.table s).size) a
    where
      by : (x : Bool)
          → AptCame {W = V} seen (cond x (Lets (Log (line.SizeKeep s clicks))) (image_at before (placed seen.board s clicks) (λ place. line.Size s clicks place))) P
          → AptCame {W = W} seen (cond x (Lets (Log (line.SizeKeep s clicks))) (image_at (f before) (placed seen.board s clicks) (λ place. line.Size s clicks place))) Q
      by true a = (a.0, h _ a.1)
      by false a = fit_lifted panic.Swap before (placed seen.board s clicks) (λ place. line.Size s clicks place) a
  came_lifted (Fork s child before) a =
      fit_lifted panic.Swap before (placed seen.board s (row_at seen.board.table s).size)
      (λ place. line.Fork s child place) a
  came_lifted (Text s clicks before) a =
      text_lifted before (free_text seen.board) (swap_fit seen.board (blocks clicks)) (λ k block. line.Text s k clicks block) a
  came_lifted (Image s clicks before) a =
      fit_lifted panic.Swap before (placed seen.board s clicks) (λ place. line.Image s clicks place) a
  came_lifted (Exit s before) a =
      fit_lifted panic.Zombie before (swap_fit seen.board 1) (λ block. line.Exit s block) a

pub apt_lifted : {V W : Type 0} → (f : V → W) (Q : Seen → Type 0) (seen : Seen) (es : List (Effect V))
    → Apt {W = V} Q seen es → Apt {W = W} Q seen (map (lifted f) es)
unfolding Apt
apt_lifted f Q seen [] a = a
apt_lifted f Q seen (e ∷ es) a =
    came_lifted f seen (λ now. Apt Q now es) (λ now. Apt Q now (map (lifted f) es)) (λ now. apt_lifted f Q now es) e a

-- What a call leaves, by its answer: it goes on, or it waits on a channel.
abbrev pub Answered : {W : Type 0} → ℕ → Seats → Seen → List (Effect W) → Answer → Type 0
Answered s v seen es (Ret r0 r1) = Apt (InCall s false v) seen es
Answered s v seen es (Fail e) = Apt (InCall s false v) seen es
Answered s v seen es (Sleep pri chan) = Apt (InCall s true v) seen es × IsSleep s chan pri × IsChannel chan

-- a signal to the process whose turn it is
signal_apt : (s : ℕ) (seen : Seen) (v : Seats) (n : ℕ) → 1 ≤ n → n ≤ 19 → InCall s false v seen
    → Apt {W = Unix} (InCall s false v) seen (Show (Log (line.Signal s n)) ∷ [])
unfolding Apt came
signal_apt s seen v n low high i =
    (signal_fits s v seen s n i.turn.seat i.going i.agrees i.turn.user i.turn.at low high, signal_in s false v seen s n i)

-- a turn in which a call was answered
module _ (s : ℕ) (seen : Seen) where
  pub trapped : (u v : Unix) (es : List (Effect Unix))
      → ((now : Seen) → InCall s false (seats_of u) now → InCall s false (seats_of v) now)
      → Apt (InCall s false (seats_of u)) seen es → AptBegun s seen (record (returns v) { effects = es })
  trapped u v es change a =
      record { begun = apt_more (InCall s false (seats_of u)) (InCall s false (seats_of v)) seen es change a }

  pub returns_apt : (u : Unix) → InCall s false (seats_of u) seen → AptBegun s seen (returns u)
  unfolding Apt
  returns_apt u i = trapped u u [] (λ now j. j) i

  pub signals_apt : (u : Unix) (n : ℕ) (es : List (Effect Unix)) → is_signal n ≡ true → 1 ≤ n → n ≤ 19
      → Apt (InCall s false (seats_of u)) seen es → AptBegun s seen (after_effects es (signals u s n))
  signals_apt u n es is low high a = record {
    begun = subst (λ items. Apt {W = Unix} (InCall s false (seats_of after)) seen (es ++ map Show items))
        (sym (ap (λ (b : Bool). cond b (Log (line.Signal s n) ∷ []) []) is))
        (apt_append (InCall s false (seats_of u)) (InCall s false (seats_of after)) seen es (Show (Log (line.Signal s n)) ∷ []) a
        (λ now i. signal_apt s now (seats_of after) n low high
        (kept_in u.processes u.clock u.texts u.limit s false now (signalled n (process_of u s)) i refl refl refl refl)));
  }
    where
      after : Unix
      after = with_process u s (signalled n (process_of u s))

  pub answers_apt : (u : Unix) (es : List (Effect Unix)) (answer : Answer) → Answered s (seats_of u) seen es answer
      → AptBegun s seen (after_effects es (answers u s answer))
  answers_apt u es (Ret r0 r1) a = record {
    begun = subst (λ xs. Apt {W = Unix} (InCall s false (seats_of (with_area u s (given_area r0 r1)))) seen xs) (sym (append-nil es))
        (trapped u (with_area u s (given_area r0 r1)) es
        (λ now i. kept_in u.processes u.clock u.texts u.limit s false now _ i refl refl refl refl) a).begun;
  }
  answers_apt u es (Fail e) a = by (nat_lt (error_number e) 100)
    where
      by : (x : Bool)
          → AptBegun s seen (after_effects es (cond x (returns (with_area u s (refused_area (error_number e)))) (signals u s SIGSYS)))
      by true = record {
        begun = subst (λ xs. Apt {W = Unix} (InCall s false (seats_of (with_area u s (refused_area (error_number e))))) seen xs) (sym (append-nil es))
            (trapped u (with_area u s (refused_area (error_number e))) es
            (λ now i. kept_in u.processes u.clock u.texts u.limit s false now _ i refl refl refl refl) a).begun;
      }
      by false = signals_apt u SIGSYS es refl (omega arith) (omega arith) a
  answers_apt u es (Sleep pri chan) a = record {
    begun = subst (λ xs. AptSteps s seen (record { effects = xs; unix = u; ending = Slept pri chan })) (sym (append-nil es))
        (ends_in s seen u es (Slept pri chan) tt
        (apt_append (InCall s true (seats_of u)) (Paused (seats_of u)) seen es (Show (Log (line.Sleep s pri chan)) ∷ []) a.0
        (λ now i. sleep_apt Unix s (seats_of u) now pri chan i a.1 a.2)));
  }

  -- a call on processes, by its row
  pub came_apt : (u : Unix) (c : Comes) → Answered s (seats_under u.limit c.state) seen c.effects c.answer
      → AptBegun s seen (came_by u s c)
  came_apt u c a = answers_apt (with_world u c.state) (map (lifted (with_world u)) c.effects) c.answer (by c.answer a)
    where
      by : (answer : Answer) → Answered s (seats_under u.limit c.state) seen c.effects answer
          → Answered s (seats_of (with_world u c.state)) seen (map (lifted (with_world u)) c.effects) answer
      by (Ret r0 r1) a =
          apt_lifted (with_world u) (InCall s false (seats_under u.limit c.state)) seen c.effects a
      by (Fail e) a =
          apt_lifted (with_world u) (InCall s false (seats_under u.limit c.state)) seen c.effects a
      by (Sleep pri chan) a =
          (apt_lifted (with_world u) (InCall s true (seats_under u.limit c.state)) seen c.effects a.0, a.1, a.2)
