-- What stays true of the table: that it has fifty slots, that nobody is in slot 0, and that no pid is that of two.
use Rattle.std.proofs.Common.{◌≡◌, ◌≢◌, ◌∙◌, ℕ, zero, suc, ◌+◌, ◌<◌, ◌≤◌, List, [], ◌∷◌, ◌++◌, length, take, drop, map, set, replicate, Bool, true, false, cond, Option, Some, None, refl, sym, ap, subst, arith}
use Rattle.std.proofs.lemmas.List.{length-map, length-append, length-set, take-append-drop, get_or_default}
use Rattle.std.proofs.lemmas.List.Edits.{map_over_more}
use Rattle.proc_tab.specs.declared.member.Member.{Member}
use Rattle.proc_tab.specs.Processes.{Processes, AreProcesses, greatest_pid, member_at, first_processes}
use Rattle.proc_tab.specs.Pids.{IsFresh}
use Rattle.proc_tab.specs.Children.{is_child_of, adopted}

abbrev pub table : List (Option Member) → ℕ → Processes
table slots last = record { slots = slots; last_pid = last }

-- a slot in use is not slot 0
used_above : (slots : List (Option Member)) (last s : ℕ) (m : Member) → AreProcesses (table slots last) → member_at slots s ≡ Some m → 0 ≢ s
used_above slots last s m good here e = let k : member_at slots s ≡ None = ap (member_at slots) (sym e) ∙ good.kernel in cc (k, here)

-- a fact of each slot stays where it holds of who is put into one
set_each : (P : ℕ → Option Member → Type 0) (slots : List (Option Member)) (s : ℕ) (o : Option Member)
    → ((r : ℕ) → P r (member_at slots r)) → P s o → (r : ℕ) → P r (member_at (set slots s o) r)
set_each P [] s o h p r = h r
set_each P (x ∷ slots) zero o h p zero = p
set_each P (x ∷ slots) zero o h p (suc r) = h (suc r)
set_each P (x ∷ slots) (suc s) o h p zero = h zero
set_each P (x ∷ slots) (suc s) o h p (suc r) = set_each (λ q. P (suc q)) slots s o (λ q. h (suc q)) p r

-- Who may be put into a slot: nobody, or somebody with a pid that nobody in another slot has.
pub record MayBe (slots : List (Option Member)) (s : ℕ) (o : Option Member) : Type 0 where
  pub above : 0 ≡ s → o ≡ None
  pub pid : (m : Member) → o ≡ Some m → (1 ≤ m.row.pid) × (m.row.pid ≤ greatest_pid)
  pub own : (m : Member) → o ≡ Some m → (r : ℕ) (n : Member) → member_at slots r ≡ Some n → m.row.pid ≡ n.row.pid → s ≡ r

abbrev Apart : ℕ → Option Member → ℕ → Option Member → Type 0
Apart r x s y = (m n : Member) → x ≡ Some m → y ≡ Some n → m.row.pid ≡ n.row.pid → r ≡ s

all_apart : (slots : List (Option Member)) (last s : ℕ) (o : Option Member) → AreProcesses (table slots last) → MayBe slots s o
    → (r q : ℕ) → Apart r (member_at (set slots s o) r) q (member_at (set slots s o) q)
all_apart slots last s o good may r =
    set_each (λ k x. (q : ℕ) → Apart k x q (member_at (set slots s o) q)) slots s o
    (λ k. set_each (λ q y. Apart k (member_at slots k) q y) slots s o (λ q m n e f same. good.apart k q m n e f same) (λ m n e f same. sym (may.own n f k m e (sym same))))
    (set_each (λ q y. Apart s o q y) slots s o (λ q m n e f same. may.own m e q n f same) (λ m n e f same. refl))
    r

pub is_set : (slots : List (Option Member)) (last new s : ℕ) (o : Option Member) → AreProcesses (table slots last) → MayBe slots s o → AreProcesses (table (set slots s o) new)
is_set slots last new s o good may = record {
  long = length-set slots s o ∙ good.long;
  kernel = set_each (λ r x. 0 ≡ r → x ≡ None) slots s o (λ r e. ap (member_at slots) (sym e) ∙ good.kernel) may.above 0 refl;
  pids = set_each (λ r x. (m : Member) → x ≡ Some m → (1 ≤ m.row.pid) × (m.row.pid ≤ greatest_pid)) slots s o good.pids may.pid;
  apart = λ r q m n. all_apart slots last s o good may r q m n;
}

-- nobody
pub cleared : (slots : List (Option Member)) (s : ℕ) → MayBe slots s None
cleared slots s = record { above = λ e. refl; pid = λ m e. absurd (cc e); own = λ m e. absurd (cc e) }

-- whoever is there, with the same pid
pub changed_there : (slots : List (Option Member)) (last s : ℕ) (old new : Member) → AreProcesses (table slots last) → member_at slots s ≡ Some old → new.row.pid ≡ old.row.pid → MayBe slots s (Some new)
changed_there slots last s old new good here same = record {
  above = λ e. absurd (used_above slots last s old good here e);
  pid = λ m e. subst (λ (p : ℕ). (1 ≤ p) × (p ≤ greatest_pid)) (sym (pid_is m e)) (good.pids s old here);
  own = λ m e r n there is. good.apart s r old n here there (sym (pid_is m e) ∙ is);
}
  where
    some : Option Member → ℕ
    some None = 0
    some (Some m) = m.row.pid

    pid_is : (m : Member) → Some new ≡ Some m → m.row.pid ≡ old.row.pid
    pid_is m e = sym (ap some e) ∙ same

-- a child, with a fresh pid
pub given : (slots : List (Option Member)) (last pid s : ℕ) (new : Member) → 0 < s → IsFresh slots last pid → new.row.pid ≡ pid → MayBe slots s (Some new)
given slots last pid s new above fresh is = record {
  above = λ e. absurd (omega (arith, e, above));
  pid = λ m e. subst (λ (p : ℕ). (1 ≤ p) × (p ≤ greatest_pid)) (sym (pid_is m e)) (fresh.positive, fresh.small);
  own = λ m e r n there same. absurd (fresh.unused r n there (sym same ∙ pid_is m e));
}
  where
    some : Option Member → ℕ
    some None = 0
    some (Some m) = m.row.pid

    pid_is : (m : Member) → Some new ≡ Some m → m.row.pid ≡ pid
    pid_is m e = sym (ap some e) ∙ is

-- Adoption: nobody comes or goes, and each keeps its pid.
adopted_at : (slots : List (Option Member)) (from r : ℕ) → member_at (map (adopted from) slots) r ≡ adopted from (member_at slots r)
adopted_at [] from r = refl
adopted_at (x ∷ slots) from zero = refl
adopted_at (x ∷ slots) from (suc r) = adopted_at slots from r

was_there : (o : Option Member) (from : ℕ) (m : Member) → adopted from o ≡ Some m → (old : Member) × (o ≡ Some old) × (m.row.pid ≡ old.row.pid)
was_there None from m e = absurd (cc e)
was_there (Some old) from m e = (old, refl, by (is_child_of from old) e)
  where
    pid_of : Option Member → ℕ
    pid_of None = 0
    pid_of (Some x) = x.row.pid

    by : (b : Bool) → Some (cond b (record old { row = record old.row { ppid = 1 } }) old) ≡ Some m → m.row.pid ≡ old.row.pid
    by true e = sym (ap pid_of e)
    by false e = sym (ap pid_of e)

was_at : (slots : List (Option Member)) (from r : ℕ) (m : Member) → member_at (map (adopted from) slots) r ≡ Some m → (old : Member) × (member_at slots r ≡ Some old) × (m.row.pid ≡ old.row.pid)
was_at slots from r m e = was_there (member_at slots r) from m (sym (adopted_at slots from r) ∙ e)

pub all_are_adopted : (slots : List (Option Member)) (last from : ℕ) → AreProcesses (table slots last) → AreProcesses (table (map (adopted from) slots) last)
all_are_adopted slots last from good = record {
  long = length-map slots (adopted from) ∙ good.long;
  kernel = adopted_at slots from 0 ∙ ap (adopted from) good.kernel;
  pids = λ s m e. let old = was_at slots from s m e in subst (λ (p : ℕ). (1 ≤ p) × (p ≤ greatest_pid)) (sym old.2) (good.pids s old.0 old.1);
  apart = λ r s m n e f same. let one = was_at slots from r m e in let two = was_at slots from s n f in
      good.apart r s one.0 two.0 one.1 two.1 (sym one.2 ∙ (same ∙ two.2));
}

-- one more slot of those whose children of one process are adopted
pub one_more_adopted : (slots now : List (Option Member)) (from i : ℕ) (o : Option Member) → i < length slots → now ≡ map (adopted from) (take i slots) ++ drop i slots
    → o ≡ adopted from (member_at now i) → set now i o ≡ map (adopted from) (take (i + 1) slots) ++ drop (i + 1) slots
one_more_adopted slots now from i o low is e =
    let joined = length-append (map (adopted from) (take i slots)) (drop i slots) in
    let front = length-map (take i slots) (adopted from) in
    let whole = length-append (take i slots) (drop i slots) in
    let same = ap length (take-append-drop i slots) in
    let long = ap length is in
    let within : i < length now = omega (arith, joined, front, whole, same, long, low) in
    ap (set now i) e ∙ map_over_more (adopted from) slots now i (member_at now i) low is (get_or_default now i None (member_at now i) within)

-- Process 1 is alone.
none_at : (n s : ℕ) → member_at (replicate n None) s ≡ None
none_at zero s = refl
none_at (suc n) zero = refl
none_at (suc n) (suc s) = none_at n s

first_alone : (s : ℕ) (m : Member) → member_at first_processes.slots s ≡ Some m → (1 ≡ s) × (m.row.pid ≡ 1)
first_alone zero m e = absurd (cc e)
first_alone (suc zero) m e = (refl, sym (ap pid_of e))
  where
    pid_of : Option Member → ℕ
    pid_of None = 0
    pid_of (Some x) = x.row.pid
first_alone (suc (suc s)) m e = absurd (let none : member_at (replicate 48 None) s ≡ None = none_at 48 s in cc (none, e))

pub are_first : AreProcesses first_processes
are_first = record {
  long = refl;
  kernel = refl;
  pids = λ s m e. let one : m.row.pid ≡ 1 = (first_alone s m e).1 in (omega (arith, one), omega (arith, one));
  apart = λ r s m n e f same. sym (first_alone r m e).0 ∙ (first_alone s n f).0;
}
