-- Pids, and how fork(II) gives them: Lions' Commentary, `newproc`.
use Rattle.std.specs.Prelude.{◌≡◌, ◌≢◌, ℕ, ◌+◌, ◌%◌, ◌<◌, ◌≤◌, ◌==◌, Bool, true, false, not, List, map, find, slice_set, Option, Some, None}
use Rattle.std.specs.Option.{unwrap_or}
use Rattle.std.specs.List.{list_any, range_with_len}
use Rattle.proc_tab.specs.declared.row.Row.{Row}
use Rattle.proc_tab.specs.declared.member.Member.{Member}
use Rattle.proc_tab.specs.Processes.{Processes, greatest_pid, member_at, row_at, passes}

-- pids count up from the last one, and after 32767 comes 1
abbrev pub pid_after : ℕ → ℕ → ℕ
pid_after last k = (last + k) % greatest_pid + 1

abbrev pub has_pid : ℕ → Member → Bool
has_pid pid m = m.row.pid == pid

abbrev pub is_pid : List (Option Member) → ℕ → Bool
is_pid slots pid = list_any (passes (has_pid pid)) slots

-- fifty-one pids after the last one
abbrev pub next_pids : ℕ → List ℕ
next_pids last = map (pid_after last) (range_with_len 0 51)

-- the first of these that nobody has, dead or alive
unfoldable pub next_free_pid : List (Option Member) → ℕ → Option ℕ
next_free_pid slots last = find (λ pid. not (is_pid slots pid)) (next_pids last)

-- of fifty-one pids one is free
abbrev pub fresh_pid : List (Option Member) → ℕ → ℕ
fresh_pid slots last = unwrap_or (next_free_pid slots last) 0

-- The fresh pid in words: a pid that nobody has, while those between the last one and it are in use.
pub record IsFresh (slots : List (Option Member)) (last pid : ℕ) : Type 0 where
  pub positive : 1 ≤ pid
  pub small : pid ≤ greatest_pid
  pub unused : (s : ℕ) (m : Member) → member_at slots s ≡ Some m → m.row.pid ≢ pid
  pub distance : ℕ
  pub is : pid ≡ pid_after last distance
  pub passed : (k : ℕ) → k < distance → is_pid slots (pid_after last k) ≡ true

-- a child has what its parent has, but no signal waits for it
abbrev pub child_of : Row → ℕ → Member
child_of parent pid = record { row = record parent { pid = pid; ppid = parent.pid; sig = 0 }; is_dead = false }

abbrev pub with_child : Processes → ℕ → ℕ → ℕ → Processes
with_child v parent pid s =
    record { slots = slice_set v.slots s (Some (child_of (row_at v parent) pid)); last_pid = pid }

-- the child in its slot, or nothing where there is no slot for it
abbrev pub forked : Processes → ℕ → Option ℕ → Processes
forked v parent None = v
forked v parent (Some s) = with_child v parent (fresh_pid v.slots v.last_pid) s
