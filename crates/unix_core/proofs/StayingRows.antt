-- The calls on processes but for exec: each leaves the texts that are shared, for more or fewer users.
use Rattle.std.proofs.Common.{◌≡◌, ℕ, Bool, true, false, ◌==◌, if◌then◌else◌, List, [], length, get_or, set, map, Option, Some, None, refl, sym, subst}
use Rattle.std.specs.Prelude.{⊤, MatchOption}
use Rattle.std.specs.Option.{option_map}
use Rattle.v6_base.specs.declared.answer.Answer.{Answer}
use Rattle.v6_base.specs.declared.entry.Entry.{Entry}
use Rattle.v6_base.specs.declared.entry.Entry.TheVariants as line
use Rattle.pick_rules.specs.Effects.{Show}
use Rattle.proc_tab.specs.Processes.{lowest}
use Rattle.seg_regs.specs.Sizes.{is_refused}
use Rattle.sys_procs.specs.Process.{Process}
use Rattle.sys_procs.specs.World.{World, process_of, change, without_process, members, let_go}
use Rattle.sys_procs.specs.Comes.{Comes, comes, logs}
use Rattle.sys_procs.specs.Times.{with_time}
use Rattle.sys_procs.specs.Break.{break_at, grow, grown_stack, grown_or_not, clicks_up_to, expands}
use Rattle.sys_procs.specs.Fork.{fork_one, fork_into, past_word}
use Rattle.sys_procs.specs.Exit.{end_proc, leaves, dies}
use Rattle.sys_procs.specs.Resume.{resume_proc, awake}
use Rattle.sys_procs.specs.Signals.{signal_lines, meant_in, is_reached, kill_to}
use Rattle.sys_procs.specs.TextTable.{Text, text_of}
use Rattle.sys_procs.specs.Texts.{goes, remaining, without_text, leaves_text, is_sticky, xfree}
use Rattle.abstract_unix.specs.Shared.{TextStays}
use Rattle.abstract_unix.proofs.ProcessRows.{Plain, gives, refuses, waits, changes, due, nice, wakes, dated, buries, resume_plain}
use Rattle.unix_core.proofs.PrivateSlots.{AllCarry, carry_shown, carry_both}
use Rattle.unix_core.proofs.StayingTexts.{stays_then, stays_child, stays_left}

-- A call has left the text of an entry, and so had its parts before each effect.
pub record IsStaying (ts : List (Option Text)) (k : ℕ) (c : Comes) : Type 0 where
  pub effects : AllCarry (λ (w : World). TextStays ts w.texts k) c.effects
  pub state : TextStays ts c.state.texts k

-- A process leaves a text: what the table and the slots are then.
module _ (w : World) (s j : ℕ) (sticky : Bool) where
  abbrev entry_left : World
  entry_left = change (record w { texts = set w.texts j (remaining sticky (get_or w.texts j None)) }) s without_text

  pub left_texts : (leaves_text w s j sticky).texts ≡ set w.texts j (remaining sticky (get_or w.texts j None))
  left_texts = by (goes (text_of w.texts j) sticky)
    where
      by : (b : Bool) → (if b then let_go entry_left (text_of w.texts j).ino else entry_left).texts ≡ entry_left.texts
      by true = refl
      by false = refl

  pub left_slots : (leaves_text w s j sticky).processes ≡ set w.processes s (Some (without_text (process_of w s)))
  left_slots = by (goes (text_of w.texts j) sticky)
    where
      by : (b : Bool) → (if b then let_go entry_left (text_of w.texts j).ino else entry_left).processes ≡ entry_left.processes
      by true = refl
      by false = refl

module _ (ts : List (Option Text)) (k s : ℕ) where
  abbrev pub StaysIn : World → Type 0
  StaysIn w = TextStays ts w.texts k

  pub staying_comes : (w : World) (a : Answer) → StaysIn w → IsStaying ts k (comes w a)
  staying_comes w a h = record { effects = tt; state = h }

  staying_logs : (e : Entry) (rest : Comes) → IsStaying ts k rest → IsStaying ts k (logs e rest)
  staying_logs e rest h = record { effects = (tt, h.effects); state = h.state }

  staying_if : (b : Bool) (x y : Comes) → IsStaying ts k x → IsStaying ts k y → IsStaying ts k (if b then x else y)
  staying_if true x y h l = h
  staying_if false x y h l = l

  -- a call that wants no place for an image
  pub staying_plain : (w : World) (c : Comes) → Plain s w c → StaysIn w → IsStaying ts k c
  staying_plain w c (gives v r0 r1) h = staying_comes w _ h
  staying_plain w c (refuses v e) h = staying_comes w _ h
  staying_plain w c (waits v rule pri chan same sleeping is range) h = staying_comes (change w s rule) _ h
  staying_plain w c (changes v rule d same pending rest) h = staying_plain (change w s rule) c rest h
  staying_plain w c (due v tout d rest) h = staying_plain (record w { clock = record w.clock { tout = tout } }) c rest h
  staying_plain w c (nice v value d range rest) h = staying_logs (line.Nice s value) d (staying_plain w d rest h)
  staying_plain w c (wakes v chan d range rest) h = staying_logs (line.Wake chan) d (staying_plain w d rest h)
  staying_plain w c (dated v time d range rest) h = staying_logs (line.Time time) d (staying_plain (with_time w time) d rest h)
  staying_plain w c (buries v slot d grave rest) h =
      staying_logs (line.Reap slot) d (staying_plain (without_process w slot) d rest h)

  -- a text is left
  pub stays_without : (w : World) (j : ℕ) (sticky : Bool) → StaysIn w → StaysIn (leaves_text w s j sticky)
  stays_without w j sticky h = subst (λ l. TextStays ts l k) (sym (left_texts w s j sticky))
      (stays_then ts w.texts (set w.texts j (remaining sticky (get_or w.texts j None))) k h (stays_left w.texts j k sticky))

  staying_dies : (w : World) → StaysIn w → IsStaying ts k (dies w s)
  staying_dies w h = record { effects = (h, (tt, (tt, tt))); state = h }

  pub staying_end : (w : World) (status : ℕ) → StaysIn w → IsStaying ts k (end_proc w s status)
  unfolding end_proc
  staying_end w status h = by (process_of w s).text
    where
      left : World
      left = leaves w s status

      by : (o : Option ℕ) → IsStaying ts k (xfree left s o (λ x. dies x s))
      by None = staying_dies left h
      by (Some j) =
          staying_logs (line.Leave s j (is_sticky left j)) _
          (staying_dies (leaves_text left s j (is_sticky left j)) (stays_without left j (is_sticky left j) h))

  -- a child shares its parent's
  pub staying_fork : (w : World) → StaysIn w → IsStaying ts k (fork_one w s)
  unfolding fork_one
  staying_fork w h = by (lowest _ (members w))
    where
      by : (o : Option ℕ) → IsStaying ts k (fork_into w s o)
      by None = staying_comes (change w s past_word) _ h
      by (Some child) = record {
        effects = (h, tt);
        state = stays_then ts w.texts _ k h (stays_child w.texts (process_of w s).text k);
      }

  pub staying_resume : (w : World) → StaysIn w → IsStaying ts k (resume_proc w s)
  staying_resume w h = staying_plain (change w s awake) _ (resume_plain s w) h

  -- break, and the growth of a stack
  staying_expands : (w : World) (d n : ℕ) → StaysIn w → IsStaying ts k (expands w s d n)
  staying_expands w d n h = record { effects = (h, tt); state = h }

  pub staying_break : (w : World) (at : ℕ) → StaysIn w → IsStaying ts k (break_at w s at)
  unfolding break_at
  staying_break w at h =
      let p : Process = process_of w s in
      let d = clicks_up_to p.u.text_size at in
      staying_if (is_refused p.u.text_size d p.u.stack_size w.limit) _ _ (staying_comes w _ h)
      (staying_expands w d p.u.stack_size h)

  abbrev pub IsStayingCall : Comes → Type 0
  IsStayingCall c = IsStaying ts k c

  staying_stack : (w : World) (d : ℕ) (o : Option ℕ) → StaysIn w → MatchOption (option_map (expands w s d) o) ⊤ IsStayingCall
  staying_stack w d None h = tt
  staying_stack w d (Some n) h = staying_expands w d n h

  pub staying_grow : (w : World) (sp : ℕ) → StaysIn w → MatchOption (grow w s sp) ⊤ IsStayingCall
  unfolding grow
  staying_grow w sp h =
      let p : Process = process_of w s in
      staying_stack w p.u.data_size (grown_stack p.u.text_size p.u.data_size p.u.stack_size w.limit sp) h

  -- where it grows, and where it doesn't
  pub staying_grown : (w : World) (sp : ℕ) → StaysIn w → IsStaying ts k (grown_or_not w s (grow w s sp))
  staying_grown w sp h = by (grow w s sp) (staying_grow w sp h)
    where
      by : (o : Option Comes) → MatchOption o ⊤ IsStayingCall → IsStaying ts k (grown_or_not w s o)
      by None grown = staying_comes w _ h
      by (Some c) grown = grown

  -- kill changes no text
  pub staying_kill : (w : World) (n : ℕ) → StaysIn w → IsStaying ts k (kill_to w s n)
  unfolding kill_to
  staying_kill w n h =
      let slots : List ℕ = meant_in (is_reached s (process_of w s)) w.processes in
      staying_if (length slots == 0) _ _ (staying_comes w _ h)
      (record {
        effects = carry_both StaysIn (map Show (signal_lines n slots)) [] (carry_shown StaysIn (signal_lines n slots)) tt;
        state = h;
      })
