-- The table of processes: `proc` of Lions' Commentary, `proc.h`, as far as it says who a process is and who its parent.
use Rattle.std.specs.Prelude.{◌≡◌, ℕ, ◌<◌, ◌≤◌, Bool, true, false, List, ◌∷◌, find, length, replicate, slice_index_or, slice_set, Option, Some, None, IsSome, MatchOption}
use Rattle.std.specs.List.{range_with_len}
use Rattle.proc_tab.specs.declared.row.Row.{Row}
use Rattle.proc_tab.specs.declared.member.Member.{Member}

-- fifty slots, each with who is in it; slot 0 is the kernel's own, process 0, and stands as None
pub record Processes : Type 0 where
  pub slots : List (Option Member)
  pub last_pid : ℕ

abbrev pub member_at : List (Option Member) → ℕ → Option Member
member_at slots s = slice_index_or slots s None

abbrev pub greatest_pid : ℕ
greatest_pid = 32767

-- What holds of each table: fifty slots, of which slot 0 has nobody; pids from 1 to the greatest, no two of them the same.
pub record AreProcesses (v : Processes) : Type 0 where
  pub long : length v.slots ≡ 50
  pub kernel : member_at v.slots 0 ≡ None
  pub pids : (s : ℕ) (m : Member) → member_at v.slots s ≡ Some m → (1 ≤ m.row.pid) × (m.row.pid ≤ greatest_pid)
  pub apart : (r s : ℕ) (m n : Member) → member_at v.slots r ≡ Some m → member_at v.slots s ≡ Some n
      → m.row.pid ≡ n.row.pid → r ≡ s

abbrev pub IsUsed : Processes → ℕ → Type 0
IsUsed v s = IsSome (member_at v.slots s)

abbrev pub no_row : Row
no_row = record { pid = 0; ppid = 0; uid = 0; sig = 0; tty = 0 }

abbrev pub row_of : Option Member → Row
row_of None = no_row
row_of (Some m) = m.row

abbrev pub row_at : Processes → ℕ → Row
row_at v s = row_of (member_at v.slots s)

-- process 1 is in slot 1, a child of process 0
abbrev pub first_processes : Processes
first_processes = record {
  slots = None ∷ Some (record { row = record no_row { pid = 1 }; is_dead = false }) ∷ replicate 48 None;
  last_pid = 1;
}

-- whether there is somebody in a slot who passes a test
abbrev pub passes : (Member → Bool) → Option Member → Bool
passes test None = false
passes test (Some m) = test m

abbrev pub slots_above_0 : List ℕ
slots_above_0 = range_with_len 1 49

-- the lowest slot above 0 that passes a test
unfoldable pub lowest : (Option Member → Bool) → List (Option Member) → Option ℕ
lowest test slots = find (λ s. test (member_at slots s)) slots_above_0

-- The lowest slot in words.
pub record IsLowest (test : Option Member → Bool) (slots : List (Option Member)) (s : ℕ) : Type 0 where
  pub above : 0 < s
  pub low : s < 50
  pub passes : test (member_at slots s) ≡ true
  pub first : (r : ℕ) → 0 < r → r < s → test (member_at slots r) ≡ false

abbrev pub HasNone : (Option Member → Bool) → List (Option Member) → Type 0
HasNone test slots = (s : ℕ) → 0 < s → s < 50 → test (member_at slots s) ≡ false

abbrev pub Finds : (Option Member → Bool) → List (Option Member) → Option ℕ → Type 0
Finds test slots o = MatchOption o (HasNone test slots) (λ s. IsLowest test slots s)

-- a change to who is in a slot
abbrev pub changed : (Member → Member) → Option Member → Option Member
changed change None = None
changed change (Some m) = Some (change m)

abbrev pub with_change : Processes → ℕ → (Member → Member) → Processes
with_change v s change = record v { slots = slice_set v.slots s (changed change (member_at v.slots s)) }

abbrev pub with_row : Row → Member → Member
with_row row m = record m { row = row }

-- whoever is in a slot has ended
abbrev pub dead : Member → Member
dead m = record m { is_dead = true }

abbrev pub without : Processes → ℕ → Processes
without v s = record v { slots = slice_set v.slots s None }
