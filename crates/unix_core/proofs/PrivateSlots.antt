-- What a change of one slot leaves of the others, and what is so of every Unix that effects leave, stopped or not.
use Rattle.std.proofs.Common.{◌≡◌, ◌≢◌, ◌<◌, ◌∙◌, ℕ, Bool, true, false, not, ◌&&◌, cond, nat_le, List, [], ◌∷◌, ◌++◌, length, get_or, set, map, fold, Option, Some, None, refl, sym, ap, subst, inl, inr, arith}
use Rattle.std.specs.Prelude.{⊤, ◌==◌, unwrap_or}
use Rattle.std.proofs.lemmas.Bool.{cases_eq}
use Rattle.std.proofs.lemmas.List.{get_or-map, get_or-set_same, get_or-set_other}
use Rattle.std.proofs.lemmas.List.FromFn.{get_or-map-range_with_len}
use Rattle.v6_base.specs.Trace.{Item, Log}
use Rattle.v6_base.specs.declared.entry.PanicKind.{PanicKind}
use Rattle.v6_base.specs.declared.entry.PanicKind.TheVariants as panic
use Rattle.v6_base.specs.declared.entry.Entry.{Entry}
use Rattle.v6_base.specs.declared.entry.Entry.TheVariants as line
use Rattle.pick_rules.specs.declared.row.Mode.{Mode}
use Rattle.pick_rules.specs.declared.row.Mode.TheVariants.{User, Kernel, Idle}
use Rattle.pick_rules.specs.Table.{row_at}
use Rattle.pick_rules.specs.Board.{Board, blocks, placed, swap_fit, free_text}
use Rattle.pick_rules.specs.Effects.{Effect, Show, Size, Fork, Text, Image, Exit, Came, Lets, Stops, at_fit, image_at, new_text_at, came, lifted}
use Rattle.pick_rules.specs.Logged.{Logged, Stop, logged, log_one, left_by, with_what_came, unless_stopped}
use Rattle.proc_tab.specs.declared.row.Row.{Row}
use Rattle.sig_core.specs.declared.numbers.TheConstants.{SIGKIL}
use Rattle.sig_core.specs.Signals.{is_signal, posted}
use Rattle.sys_procs.specs.Process.{Process, no_process}
use Rattle.sys_procs.specs.Exit.{adopted}
use Rattle.sys_procs.specs.Signals.{signalled, signalled_if, all_signalled}
use Rattle.abstract_unix.specs.Outside.{timed}
use Rattle.abstract_unix.specs.Private.{SameMemory, LivesOn}
use Rattle.abstract_unix.proofs.Owing.{some_within}

-- the process of a slot lives on
abbrev pub Spared : List (Option Process) → List (Option Process) → ℕ → Type 0
Spared ps qs r = (p : Process) → get_or ps r None ≡ Some p → p.is_zombie ≡ false → LivesOn (get_or qs r None) p

memory_same : (p : Process) → SameMemory p p
memory_same p = record { registers = refl; codes = refl; «data» = refl; stack = refl }

pub spared_at : (ps qs : List (Option Process)) (r : ℕ) → get_or qs r None ≡ get_or ps r None → Spared ps qs r
spared_at ps qs r same p is lives = record {
  now = p;
  there = same ∙ is;
  lives = lives;
  pid = refl;
  memory = memory_same p;
}

pub spared_same : (ps : List (Option Process)) (r : ℕ) → Spared ps ps r
spared_same ps r = spared_at ps ps r refl

pub spared_then : (ps qs ts : List (Option Process)) (r : ℕ) → Spared ps qs r → Spared qs ts r → Spared ps ts r
spared_then ps qs ts r first second p is lives =
    let one : LivesOn (get_or qs r None) p = first p is lives in
    let two : LivesOn (get_or ts r None) one.now = second one.now one.there one.lives in
    record {
      now = two.now;
      there = two.there;
      lives = two.lives;
      pid = two.pid ∙ one.pid;
      memory = record {
        registers = two.memory.registers ∙ one.memory.registers;
        codes = two.memory.codes ∙ one.memory.codes;
        «data» = two.memory.data ∙ one.memory.data;
        stack = two.memory.stack ∙ one.memory.stack;
      };
    }

-- another slot has changed
pub spared_other : (ps : List (Option Process)) (s r : ℕ) (o : Option Process) → r ≢ s → Spared ps (set ps s o) r
spared_other ps s r o other = spared_at ps (set ps s o) r (get_or-set_other ps s r o None other)

-- a slot has changed in which nobody lives
pub spared_unless : (ps : List (Option Process)) (s r : ℕ) (o : Option Process)
    → ((q : Process) → get_or ps s None ≡ Some q → q.is_zombie ≡ true) → Spared ps (set ps s o) r
spared_unless ps s r o ended = elim (cases_eq r s) [
  | inl here ↦ λ p is lives. absurd (
      let never : false ≡ true = sym lives ∙ ended p (ap (λ n. get_or ps n None) (sym here) ∙ is) in
      cc never)
  | inr other ↦ spared_other ps s r o other
]

-- a slot has a tick more
timed_memory : (mode : Mode) (p : Process) → SameMemory p (timed mode p)
timed_memory User p = record { registers = refl; codes = refl; «data» = refl; stack = refl }
timed_memory Kernel p = record { registers = refl; codes = refl; «data» = refl; stack = refl }
timed_memory Idle p = record { registers = refl; codes = refl; «data» = refl; stack = refl }

pub spared_timed : (ps : List (Option Process)) (s r : ℕ) (mode : Mode)
    → Spared ps (set ps s (Some (timed mode (unwrap_or (get_or ps s None) no_process)))) r
spared_timed ps s r mode = elim (cases_eq r s) [
  | inl here ↦ λ p is lives.
      let q : Process = unwrap_or (get_or ps s None) no_process in
      let at : get_or ps s None ≡ Some p = ap (λ n. get_or ps n None) (sym here) ∙ is in
      let its : q ≡ p = ap (λ o. unwrap_or o no_process) at in
      record {
        now = timed mode p;
        there =
            ap (λ n. get_or (set ps s (Some (timed mode q))) n None) here
            ∙ get_or-set_same ps s (Some (timed mode q)) None (some_within ps s p at)
            ∙ ap (λ x. Some (timed mode x)) its;
        lives = lives;
        pid = refl;
        memory = timed_memory mode p;
      }
  | inr other ↦ spared_other ps s r (Some (timed mode (unwrap_or (get_or ps s None) no_process))) other
]

-- children of a process that has ended are process 1's
pub spared_adopted : (ps : List (Option Process)) (pid r : ℕ) → Spared ps (map (adopted pid) ps) r
spared_adopted ps pid r p is lives =
    by (p.row.ppid == pid) (get_or-map (adopted pid) ps r None None (some_within ps r p is) ∙ ap (adopted pid) is)
  where
    by : (b : Bool)
        → get_or (map (adopted pid) ps) r None ≡ Some (cond b (record p { row = record p.row { ppid = 1 } }) p)
        → LivesOn (get_or (map (adopted pid) ps) r None) p
    by true got = record {
      now = record p { row = record p.row { ppid = 1 } };
      there = got;
      lives = lives;
      pid = refl;
      memory = record { registers = refl; codes = refl; «data» = refl; stack = refl };
    }
    by false got = record { now = p; there = got; lives = lives; pid = refl; memory = memory_same p }

pub spared_strays : (ps : List (Option Process)) (b : Bool) (ppid r : ℕ) → Spared ps (cond b (map (adopted ppid) ps) ps) r
spared_strays ps true ppid r = spared_adopted ps ppid r
spared_strays ps false ppid r = spared_same ps r

-- a signal has been sent to a process
posted_pid : (row : Row) (n : ℕ) → (posted row n).pid ≡ row.pid
posted_pid row n = by (is_signal n && not (row.sig == SIGKIL))
  where
    by : (b : Bool) → (cond b (record row { sig = n }) row).pid ≡ row.pid
    by true = refl
    by false = refl

-- and to all that are meant
pub spared_signalled : (ps : List (Option Process)) (who : ℕ → Process → Bool) (n r : ℕ) → length ps ≡ 50
    → Spared ps (all_signalled who n ps) r
spared_signalled ps who n r long p is lives =
    let low : r < 50 = subst (λ k. r < k) long (some_within ps r p is) in
    by (who r p)
    (get_or-map-range_with_len (λ s. signalled_if who n s (get_or ps s None)) 0 50 r r None low (omega arith)
    ∙ ap (signalled_if who n r) is)
  where
    by : (b : Bool) → get_or (all_signalled who n ps) r None ≡ Some (cond b (signalled n p) p)
        → LivesOn (get_or (all_signalled who n ps) r None) p
    by true got = record {
      now = signalled n p;
      there = got;
      lives = lives;
      pid = posted_pid p.row n;
      memory = record { registers = refl; codes = refl; «data» = refl; stack = refl };
    }
    by false got = record { now = p; there = got; lives = lives; pid = refl; memory = memory_same p }

-- A fact of each state that effects carry is one of the state that they leave.
module _ {W : Type 0} (P : W → Type 0) where
  abbrev pub Carries : Effect W → Type 0
  Carries (Show item) = ⊤
  Carries (Size s clicks before) = P before
  Carries (Fork s child before) = P before
  Carries (Text s clicks before) = P before
  Carries (Image s clicks before) = P before
  Carries (Exit s before) = P before

  abbrev pub AllCarry : List (Effect W) → Type 0
  AllCarry [] = ⊤
  AllCarry (e ∷ es) = Carries e × AllCarry es

  abbrev StopsIn : Option (Stop W) → Type 0
  StopsIn None = ⊤
  StopsIn (Some stop) = P stop.before

  abbrev CameIn : Came W → Type 0
  CameIn (Lets item) = ⊤
  CameIn (Stops why before) = P before

  fit_in : {Q : Type 0} (kind : PanicKind) (before : W) (o : Option Q) (entry : Q → Entry) → P before
      → CameIn (at_fit kind before o entry)
  fit_in kind before (Some place) entry h = tt
  fit_in kind before None entry h = h

  text_in : (before : W) (k block : Option ℕ) (entry : ℕ → ℕ → Entry) → P before → CameIn (new_text_at before k block entry)
  text_in before None block entry h = h
  text_in before (Some k) block entry h = fit_in panic.Swap before block (entry k) h

  size_in : (b : Board) (s clicks : ℕ) (before : W) (keeps : Bool) → P before
      → CameIn (cond keeps (Lets (Log (line.SizeKeep s clicks)))
      (image_at before (placed b s clicks) (λ place. line.Size s clicks place)))
  size_in b s clicks before true h = tt
  size_in b s clicks before false h = fit_in panic.Swap before (placed b s clicks) (λ place. line.Size s clicks place) h

  came_in : (b : Board) (e : Effect W) → Carries e → CameIn (came b e)
  unfolding came
  came_in b (Show item) h = tt
  came_in b (Size s clicks before) h = size_in b s clicks before (nat_le clicks (row_at b.table s).size) h
  came_in b (Fork s child before) h =
      fit_in panic.Swap before (placed b s (row_at b.table s).size) (λ place. line.Fork s child place) h
  came_in b (Text s clicks before) h =
      text_in before (free_text b) (swap_fit b (blocks clicks)) (λ k block. line.Text s k clicks block) h
  came_in b (Image s clicks before) h = fit_in panic.Swap before (placed b s clicks) (λ place. line.Image s clicks place) h
  came_in b (Exit s before) h = fit_in panic.Zombie before (swap_fit b 1) (λ block. line.Exit s block) h

  what_in : (l : Logged W) (c : Came W) → StopsIn l.stop → CameIn c → StopsIn (with_what_came l c).stop
  what_in l (Lets item) h k = h
  what_in l (Stops why before) h k = k

  unless_in : (o : Option (Stop W)) (l next : Logged W) → StopsIn l.stop → StopsIn next.stop
      → StopsIn (unless_stopped o l next).stop
  unless_in None l next h k = k
  unless_in (Some stop) l next h k = h

  one_in : (l : Logged W) (e : Effect W) → StopsIn l.stop → Carries e → StopsIn (log_one l e).stop
  unfolding log_one
  one_in l e h k =
      unless_in l.stop l (with_what_came l (came l.board e)) h (what_in l (came l.board e) h (came_in l.board e k))

  all_in : (es : List (Effect W)) (l : Logged W) → StopsIn l.stop → AllCarry es → StopsIn (fold log_one l es).stop
  all_in [] l h k = h
  all_in (e ∷ es) l h k = all_in es (log_one l e) (one_in l e h k.0) k.1

  left_in : (o : Option (Stop W)) (after : W) → StopsIn o → P after → P (left_by o after)
  left_in None after h k = k
  left_in (Some stop) after h k = h

  pub left_carried : (b : Board) (es : List (Effect W)) (after : W) → AllCarry es → P after
      → P (left_by (logged b es).stop after)
  left_carried b es after h k =
      left_in (logged b es).stop after (all_in es (record { items = []; board = b; stop = None }) tt h) k

  pub carry_shown : (items : List Item) → AllCarry (map Show items)
  carry_shown [] = tt
  carry_shown (item ∷ items) = (tt, carry_shown items)

  pub carry_both : (es fs : List (Effect W)) → AllCarry es → AllCarry fs → AllCarry (es ++ fs)
  carry_both [] fs h k = k
  carry_both (e ∷ es) fs h k = (h.0, carry_both es fs h.1 k)

-- effects over another state
module _ {V W : Type 0} (f : V → W) (P : W → Type 0) where
  carries_lifted : (e : Effect V) → Carries (λ v. P (f v)) e → Carries P (lifted f e)
  carries_lifted (Show item) h = tt
  carries_lifted (Size s clicks before) h = h
  carries_lifted (Fork s child before) h = h
  carries_lifted (Text s clicks before) h = h
  carries_lifted (Image s clicks before) h = h
  carries_lifted (Exit s before) h = h

  pub carry_lifted : (es : List (Effect V)) → AllCarry (λ v. P (f v)) es → AllCarry P (map (lifted f) es)
  carry_lifted [] h = tt
  carry_lifted (e ∷ es) h = (carries_lifted e h.0, carry_lifted es h.1)
